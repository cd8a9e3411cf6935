-- The compressor's constants by their bit patterns, each beside the decimal that the source has, and what each is. Definitions only.
use Rattle.std.specs.Prelude.{◌≡◌, Float}
use Rattle.std.specs.Float.{binary32}
use Rattle.std.specs.Float.Ieee.{neg, of_bits}
use Rattle.float.specs.Consts.{near}

-- 20.0
abbrev pub k20 : Float
k20 = of_bits binary32 0x41a00000

-- 30.0
abbrev pub k30 : Float
k30 = of_bits binary32 0x41f00000

-- 40.0
abbrev pub k40 : Float
k40 = of_bits binary32 0x42200000

-- 47.0
abbrev pub k47 : Float
k47 = of_bits binary32 0x423c0000

-- 48.0
abbrev pub k48 : Float
k48 = of_bits binary32 0x42400000

-- 52.0
abbrev pub k52 : Float
k52 = of_bits binary32 0x42500000

-- 76.0
abbrev pub k76 : Float
k76 = of_bits binary32 0x42980000

-- 79.0
abbrev pub k79 : Float
k79 = of_bits binary32 0x429e0000

-- 88.0
abbrev pub k88 : Float
k88 = of_bits binary32 0x42b00000

-- 100.0
abbrev pub k100 : Float
k100 = of_bits binary32 0x42c80000

-- 105.0
abbrev pub k105 : Float
k105 = of_bits binary32 0x42d20000

-- 112.0
abbrev pub k112 : Float
k112 = of_bits binary32 0x42e00000

-- 124.0
abbrev pub k124 : Float
k124 = of_bits binary32 0x42f80000

-- 400.0
abbrev pub k400 : Float
k400 = of_bits binary32 0x43c80000

-- 1000.0
abbrev pub k1000 : Float
k1000 = of_bits binary32 0x447a0000

-- 2500.0
abbrev pub k2500 : Float
k2500 = of_bits binary32 0x451c4000

-- 0.000001
abbrev pub k0p000001 : Float
k0p000001 = of_bits binary32 0x358637bd

-- 0.00001
abbrev pub k0p00001 : Float
k0p00001 = of_bits binary32 0x3727c5ac

-- 0.2
abbrev pub k0p2 : Float
k0p2 = of_bits binary32 0x3e4ccccd

-- 0.4
abbrev pub k0p4 : Float
k0p4 = of_bits binary32 0x3ecccccd

-- 0.6
abbrev pub k0p6 : Float
k0p6 = of_bits binary32 0x3f19999a

-- 0.9
abbrev pub k0p9 : Float
k0p9 = of_bits binary32 0x3f666666

-- 1.6
abbrev pub k1p6 : Float
k1p6 = of_bits binary32 0x3fcccccd

-- 2.5
abbrev pub k2p5 : Float
k2p5 = of_bits binary32 0x40200000

-- 3.5
abbrev pub k3p5 : Float
k3p5 = of_bits binary32 0x40600000

-- 28.8
abbrev pub k28p8 : Float
k28p8 = of_bits binary32 0x41e66666

-- 40.3
abbrev pub k40p3 : Float
k40p3 = of_bits binary32 0x42213333

-- -10.85
abbrev pub k_m10p85 : Float
k_m10p85 = neg (of_bits binary32 0x412d999a)

-- -8.3
abbrev pub k_m8p3 : Float
k_m8p3 = neg (of_bits binary32 0x4104cccd)

-- -6.38
abbrev pub k_m6p38 : Float
k_m6p38 = neg (of_bits binary32 0x40cc28f6)

-- -4.85
abbrev pub k_m4p85 : Float
k_m4p85 = neg (of_bits binary32 0x409b3333)

-- -3.44
abbrev pub k_m3p44 : Float
k_m3p44 = neg (of_bits binary32 0x405c28f6)

-- -2.2
abbrev pub k_m2p2 : Float
k_m2p2 = neg (of_bits binary32 0x400ccccd)

-- -1.13
abbrev pub k_m1p13 : Float
k_m1p13 = neg (of_bits binary32 0x3f90a3d7)

-- -0.21
abbrev pub k_m0p21 : Float
k_m0p21 = neg (of_bits binary32 0x3e570a3d)

-- -16.57
abbrev pub k_m16p57 : Float
k_m16p57 = neg (of_bits binary32 0x41848f5c)

-- -14.18
abbrev pub k_m14p18 : Float
k_m14p18 = neg (of_bits binary32 0x4162e148)

-- -12.35
abbrev pub k_m12p35 : Float
k_m12p35 = neg (of_bits binary32 0x4145999a)

-- -10.86
abbrev pub k_m10p86 : Float
k_m10p86 = neg (of_bits binary32 0x412dc28f)

-- -9.59
abbrev pub k_m9p59 : Float
k_m9p59 = neg (of_bits binary32 0x411970a4)

-- -8.42
abbrev pub k_m8p42 : Float
k_m8p42 = neg (of_bits binary32 0x4106b852)

-- -7.38
abbrev pub k_m7p38 : Float
k_m7p38 = neg (of_bits binary32 0x40ec28f6)

-- -6.34
abbrev pub k_m6p34 : Float
k_m6p34 = neg (of_bits binary32 0x40cae148)

-- -6.26
abbrev pub k_m6p26 : Float
k_m6p26 = neg (of_bits binary32 0x40c851ec)

-- -18.85, VOL 0
abbrev pub k_m18p85 : Float
k_m18p85 = neg (of_bits binary32 0x4196cccd)

pub record Constants : Type 0 where
  pub c20 : k20 ≡ near 20 1
  pub c30 : k30 ≡ near 30 1
  pub c40 : k40 ≡ near 40 1
  pub c47 : k47 ≡ near 47 1
  pub c48 : k48 ≡ near 48 1
  pub c52 : k52 ≡ near 52 1
  pub c76 : k76 ≡ near 76 1
  pub c79 : k79 ≡ near 79 1
  pub c88 : k88 ≡ near 88 1
  pub c100 : k100 ≡ near 100 1
  pub c105 : k105 ≡ near 105 1
  pub c112 : k112 ≡ near 112 1
  pub c124 : k124 ≡ near 124 1
  pub c400 : k400 ≡ near 400 1
  pub c1000 : k1000 ≡ near 1000 1
  pub c2500 : k2500 ≡ near 2500 1
  pub c0p000001 : k0p000001 ≡ near 1 1000000
  pub c0p00001 : k0p00001 ≡ near 1 100000
  pub c0p2 : k0p2 ≡ near 1 5
  pub c0p4 : k0p4 ≡ near 2 5
  pub c0p6 : k0p6 ≡ near 3 5
  pub c0p9 : k0p9 ≡ near 9 10
  pub c1p6 : k1p6 ≡ near 8 5
  pub c2p5 : k2p5 ≡ near 5 2
  pub c3p5 : k3p5 ≡ near 7 2
  pub c28p8 : k28p8 ≡ near 144 5
  pub c40p3 : k40p3 ≡ near 403 10
  pub c_m10p85 : k_m10p85 ≡ neg (near 217 20)
  pub c_m8p3 : k_m8p3 ≡ neg (near 83 10)
  pub c_m6p38 : k_m6p38 ≡ neg (near 319 50)
  pub c_m4p85 : k_m4p85 ≡ neg (near 97 20)
  pub c_m3p44 : k_m3p44 ≡ neg (near 86 25)
  pub c_m2p2 : k_m2p2 ≡ neg (near 11 5)
  pub c_m1p13 : k_m1p13 ≡ neg (near 113 100)
  pub c_m0p21 : k_m0p21 ≡ neg (near 21 100)
  pub c_m16p57 : k_m16p57 ≡ neg (near 1657 100)
  pub c_m14p18 : k_m14p18 ≡ neg (near 709 50)
  pub c_m12p35 : k_m12p35 ≡ neg (near 247 20)
  pub c_m10p86 : k_m10p86 ≡ neg (near 543 50)
  pub c_m9p59 : k_m9p59 ≡ neg (near 959 100)
  pub c_m8p42 : k_m8p42 ≡ neg (near 421 50)
  pub c_m7p38 : k_m7p38 ≡ neg (near 369 50)
  pub c_m6p34 : k_m6p34 ≡ neg (near 317 50)
  pub c_m6p26 : k_m6p26 ≡ neg (near 313 50)
  pub c_m18p85 : k_m18p85 ≡ neg (near 377 20)
