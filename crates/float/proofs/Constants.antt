-- Each constant's pattern is that of the f32 nearest to its decimal, or of the operations that the source writes. Assumes nothing.
use Rattle.std.proofs.Common.{refl}
use Rattle.float.specs.Consts.{near, Constants}

pub constants : Constants
unfolding near lib.Ieee.round lib.Ieee.of_bits lib.Ieee.neg lib.Ieee.of_int
constants = record {
  c0 = refl;
  c1 = refl;
  c2 = refl;
  c3 = refl;
  c4 = refl;
  c6 = refl;
  c8 = refl;
  c10 = refl;
  c12 = refl;
  c15 = refl;
  c60 = refl;
  c64 = refl;
  c127 = refl;
  c256 = refl;
  c440 = refl;
  c500 = refl;
  c512 = refl;
  c1200 = refl;
  c2048 = refl;
  c4096 = refl;
  c6000 = refl;
  c12000 = refl;
  c16000 = refl;
  c22000 = refl;
  c32767 = refl;
  c32768 = refl;
  c65535 = refl;
  c65536 = refl;
  c8388607 = refl;
  c8388608 = refl;
  c0p001 = refl;
  c0p03 = refl;
  c0p1 = refl;
  c0p25 = refl;
  c0p3 = refl;
  c0p35 = refl;
  c0p45 = refl;
  c0p5 = refl;
  c0p7 = refl;
  c0p75 = refl;
  c0p8 = refl;
  c0p97 = refl;
  c0p99 = refl;
  c1p01 = refl;
  c1p2 = refl;
  c1p3 = refl;
  c1p5 = refl;
  c5p64 = refl;
  c43p62 = refl;
  c127p5 = refl;
  c_m128 = refl;
  c_m127p5 = refl;
  c_fs = refl;
  c_tau = refl;
  c_pi = refl;
  c_levels_per_6_db = refl;
  c_u_max = refl;
}
