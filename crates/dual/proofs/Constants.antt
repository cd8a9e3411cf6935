-- Each constant is what the source computes, by computing. Assumes nothing.
use mathlib.Core.Path.{refl}
use lib.Ieee.{round, mul, div, of_bits}
use Rattle.float.specs.Consts.{near}
use Rattle.dual.specs.Consts.{Constants}

pub constants : Constants
unfolding near round mul div of_bits
constants = record { c_hz_per_tune = refl; c_tune_per_pitch_level = refl }
