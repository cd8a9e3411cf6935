-- Each constant's pattern is that of the f32 nearest to its decimal. Assumes nothing.
use mathlib.Core.Path.{refl}
use Rattle.float.specs.Consts.{near}
use Rattle.comp.specs.Consts.{Constants}

pub constants : Constants
unfolding near lib.Ieee.round lib.Ieee.of_bits lib.Ieee.neg
constants = record {
  c20 = refl;
  c30 = refl;
  c40 = refl;
  c47 = refl;
  c48 = refl;
  c52 = refl;
  c76 = refl;
  c79 = refl;
  c88 = refl;
  c100 = refl;
  c105 = refl;
  c112 = refl;
  c124 = refl;
  c400 = refl;
  c1000 = refl;
  c2500 = refl;
  c0p000001 = refl;
  c0p00001 = refl;
  c0p2 = refl;
  c0p4 = refl;
  c0p6 = refl;
  c0p9 = refl;
  c1p6 = refl;
  c2p5 = refl;
  c3p5 = refl;
  c28p8 = refl;
  c40p3 = refl;
  c_m10p85 = refl;
  c_m8p3 = refl;
  c_m6p38 = refl;
  c_m4p85 = refl;
  c_m3p44 = refl;
  c_m2p2 = refl;
  c_m1p13 = refl;
  c_m0p21 = refl;
  c_m16p57 = refl;
  c_m14p18 = refl;
  c_m12p35 = refl;
  c_m10p86 = refl;
  c_m9p59 = refl;
  c_m8p42 = refl;
  c_m7p38 = refl;
  c_m6p34 = refl;
  c_m6p26 = refl;
  c_m18p85 = refl;
}
