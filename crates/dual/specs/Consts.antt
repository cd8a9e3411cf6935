-- The dual voices' own constants by their bit patterns, and what each is. Definitions only.
use Rattle.std.specs.Prelude.{◌≡◌, Float}
use Rattle.std.specs.Float.{binary32}
use Rattle.std.specs.Float.Ieee.{of_bits}
use Rattle.float.specs.Consts.{near}
use Rattle.float.specs.Ops.{◌⊗◌, ◌⊘◌}

-- Hz per unit of a tune CV, 55.0 / 678.0
abbrev pub HZ_PER_TUNE : Float
HZ_PER_TUNE = of_bits binary32 0x3da622bd

-- tune-CV units per pitch-envelope level, 678.0 * 7.0 / 15.0
abbrev pub TUNE_PER_PITCH_LEVEL : Float
TUNE_PER_PITCH_LEVEL = of_bits binary32 0x439e3333

pub record Constants : Type 0 where
  pub c_hz_per_tune : HZ_PER_TUNE ≡ near 55 1 ⊘ near 678 1
  pub c_tune_per_pitch_level : TUNE_PER_PITCH_LEVEL ≡ near 678 1 ⊗ near 7 1 ⊘ near 15 1
