-- The constants of the program by their bit patterns, each beside the decimal that the source has, and what each is. Definitions only.
use Rattle.std.specs.Prelude.{◌≡◌, ℕ, false, pos, from_bits, Float}
use Rattle.std.specs.Float.{binary32}
use Rattle.std.specs.Float.Ieee.{neg, round, of_int}

-- 0.0
abbrev pub k0 : Float
k0 = from_bits binary32 0x00000000

-- 1.0
abbrev pub k1 : Float
k1 = from_bits binary32 0x3f800000

-- 2.0
abbrev pub k2 : Float
k2 = from_bits binary32 0x40000000

-- 3.0
abbrev pub k3 : Float
k3 = from_bits binary32 0x40400000

-- 4.0
abbrev pub k4 : Float
k4 = from_bits binary32 0x40800000

-- 6.0
abbrev pub k6 : Float
k6 = from_bits binary32 0x40c00000

-- 8.0
abbrev pub k8 : Float
k8 = from_bits binary32 0x41000000

-- 10.0
abbrev pub k10 : Float
k10 = from_bits binary32 0x41200000

-- 12.0
abbrev pub k12 : Float
k12 = from_bits binary32 0x41400000

-- 15.0
abbrev pub k15 : Float
k15 = from_bits binary32 0x41700000

-- 60.0
abbrev pub k60 : Float
k60 = from_bits binary32 0x42700000

-- 64.0
abbrev pub k64 : Float
k64 = from_bits binary32 0x42800000

-- 127.0
abbrev pub k127 : Float
k127 = from_bits binary32 0x42fe0000

-- 256.0
abbrev pub k256 : Float
k256 = from_bits binary32 0x43800000

-- 440.0
abbrev pub k440 : Float
k440 = from_bits binary32 0x43dc0000

-- 500.0
abbrev pub k500 : Float
k500 = from_bits binary32 0x43fa0000

-- 512.0
abbrev pub k512 : Float
k512 = from_bits binary32 0x44000000

-- 1200.0
abbrev pub k1200 : Float
k1200 = from_bits binary32 0x44960000

-- 2048.0
abbrev pub k2048 : Float
k2048 = from_bits binary32 0x45000000

-- 4096.0
abbrev pub k4096 : Float
k4096 = from_bits binary32 0x45800000

-- 6000.0
abbrev pub k6000 : Float
k6000 = from_bits binary32 0x45bb8000

-- 12000.0
abbrev pub k12000 : Float
k12000 = from_bits binary32 0x463b8000

-- 16000.0
abbrev pub k16000 : Float
k16000 = from_bits binary32 0x467a0000

-- 22000.0
abbrev pub k22000 : Float
k22000 = from_bits binary32 0x46abe000

-- 32767.0
abbrev pub k32767 : Float
k32767 = from_bits binary32 0x46fffe00

-- 32768.0
abbrev pub k32768 : Float
k32768 = from_bits binary32 0x47000000

-- 65535.0
abbrev pub k65535 : Float
k65535 = from_bits binary32 0x477fff00

-- 65536.0
abbrev pub k65536 : Float
k65536 = from_bits binary32 0x47800000

-- 8388607.0
abbrev pub k8388607 : Float
k8388607 = from_bits binary32 0x4afffffe

-- 8388608.0
abbrev pub k8388608 : Float
k8388608 = from_bits binary32 0x4b000000

-- 0.001
abbrev pub k0p001 : Float
k0p001 = from_bits binary32 0x3a83126f

-- 0.03
abbrev pub k0p03 : Float
k0p03 = from_bits binary32 0x3cf5c28f

-- 0.1
abbrev pub k0p1 : Float
k0p1 = from_bits binary32 0x3dcccccd

-- 0.25
abbrev pub k0p25 : Float
k0p25 = from_bits binary32 0x3e800000

-- 0.3
abbrev pub k0p3 : Float
k0p3 = from_bits binary32 0x3e99999a

-- 0.35
abbrev pub k0p35 : Float
k0p35 = from_bits binary32 0x3eb33333

-- 0.45
abbrev pub k0p45 : Float
k0p45 = from_bits binary32 0x3ee66666

-- 0.5
abbrev pub k0p5 : Float
k0p5 = from_bits binary32 0x3f000000

-- 0.7
abbrev pub k0p7 : Float
k0p7 = from_bits binary32 0x3f333333

-- 0.75
abbrev pub k0p75 : Float
k0p75 = from_bits binary32 0x3f400000

-- 0.8
abbrev pub k0p8 : Float
k0p8 = from_bits binary32 0x3f4ccccd

-- 0.97
abbrev pub k0p97 : Float
k0p97 = from_bits binary32 0x3f7851ec

-- 0.99
abbrev pub k0p99 : Float
k0p99 = from_bits binary32 0x3f7d70a4

-- 1.01
abbrev pub k1p01 : Float
k1p01 = from_bits binary32 0x3f8147ae

-- 1.2
abbrev pub k1p2 : Float
k1p2 = from_bits binary32 0x3f99999a

-- 1.3
abbrev pub k1p3 : Float
k1p3 = from_bits binary32 0x3fa66666

-- 1.5
abbrev pub k1p5 : Float
k1p5 = from_bits binary32 0x3fc00000

-- 5.64
abbrev pub k5p64 : Float
k5p64 = from_bits binary32 0x40b47ae1

-- 43.62
abbrev pub k43p62 : Float
k43p62 = from_bits binary32 0x422e7ae1

-- 127.5
abbrev pub k127p5 : Float
k127p5 = from_bits binary32 0x42ff0000

-- -128.0
abbrev pub k_m128 : Float
k_m128 = neg (from_bits binary32 0x43000000)

-- -127.5
abbrev pub k_m127p5 : Float
k_m127p5 = neg (from_bits binary32 0x42ff0000)

-- the sample rate, 48000.0
abbrev pub FS : Float
FS = from_bits binary32 0x473b8000

-- a circle over its radius, 6.2831855
abbrev pub TAU : Float
TAU = from_bits binary32 0x40c90fdb

-- and over its diameter, 3.1415927
abbrev pub PI : Float
PI = from_bits binary32 0x40490fdb

-- envelope levels per 6 dB, 16.0
abbrev pub LEVELS_PER_6DB : Float
LEVELS_PER_6DB = from_bits binary32 0x41800000

-- u32::MAX as f32
abbrev pub k_u_max : Float
k_u_max = from_bits binary32 0x4f800000

-- the f32 nearest to n / d
unfoldable pub near : ℕ → ℕ → Float
near n d = round binary32 false n d

pub record Constants : Type 0 where
  pub c0 : k0 ≡ near 0 1
  pub c1 : k1 ≡ near 1 1
  pub c2 : k2 ≡ near 2 1
  pub c3 : k3 ≡ near 3 1
  pub c4 : k4 ≡ near 4 1
  pub c6 : k6 ≡ near 6 1
  pub c8 : k8 ≡ near 8 1
  pub c10 : k10 ≡ near 10 1
  pub c12 : k12 ≡ near 12 1
  pub c15 : k15 ≡ near 15 1
  pub c60 : k60 ≡ near 60 1
  pub c64 : k64 ≡ near 64 1
  pub c127 : k127 ≡ near 127 1
  pub c256 : k256 ≡ near 256 1
  pub c440 : k440 ≡ near 440 1
  pub c500 : k500 ≡ near 500 1
  pub c512 : k512 ≡ near 512 1
  pub c1200 : k1200 ≡ near 1200 1
  pub c2048 : k2048 ≡ near 2048 1
  pub c4096 : k4096 ≡ near 4096 1
  pub c6000 : k6000 ≡ near 6000 1
  pub c12000 : k12000 ≡ near 12000 1
  pub c16000 : k16000 ≡ near 16000 1
  pub c22000 : k22000 ≡ near 22000 1
  pub c32767 : k32767 ≡ near 32767 1
  pub c32768 : k32768 ≡ near 32768 1
  pub c65535 : k65535 ≡ near 65535 1
  pub c65536 : k65536 ≡ near 65536 1
  pub c8388607 : k8388607 ≡ near 8388607 1
  pub c8388608 : k8388608 ≡ near 8388608 1
  pub c0p001 : k0p001 ≡ near 1 1000
  pub c0p03 : k0p03 ≡ near 3 100
  pub c0p1 : k0p1 ≡ near 1 10
  pub c0p25 : k0p25 ≡ near 1 4
  pub c0p3 : k0p3 ≡ near 3 10
  pub c0p35 : k0p35 ≡ near 7 20
  pub c0p45 : k0p45 ≡ near 9 20
  pub c0p5 : k0p5 ≡ near 1 2
  pub c0p7 : k0p7 ≡ near 7 10
  pub c0p75 : k0p75 ≡ near 3 4
  pub c0p8 : k0p8 ≡ near 4 5
  pub c0p97 : k0p97 ≡ near 97 100
  pub c0p99 : k0p99 ≡ near 99 100
  pub c1p01 : k1p01 ≡ near 101 100
  pub c1p2 : k1p2 ≡ near 6 5
  pub c1p3 : k1p3 ≡ near 13 10
  pub c1p5 : k1p5 ≡ near 3 2
  pub c5p64 : k5p64 ≡ near 141 25
  pub c43p62 : k43p62 ≡ near 2181 50
  pub c127p5 : k127p5 ≡ near 255 2
  pub c_m128 : k_m128 ≡ neg (near 128 1)
  pub c_m127p5 : k_m127p5 ≡ neg (near 255 2)
  pub c_fs : FS ≡ near 48000 1
  pub c_tau : TAU ≡ near 628318530717958 100000000000000
  pub c_pi : PI ≡ near 314159265358979 100000000000000
  pub c_levels_per_6_db : LEVELS_PER_6DB ≡ near 16 1
  pub c_u_max : k_u_max ≡ of_int binary32 (pos 4294967295)
