-- What the laws of a tick speak of: levels, steps, between, distance, and runs of ticks. Definitions only.
use Rattle.std.specs.Prelude.{ℕ, zero, suc, ◌+◌, ◌-◌, ◌*◌, ◌/◌, ◌^◌, true, false, ◌⊎◌, pos, negsuc, T, Float}
use Rattle.std.specs.Float.{nan, inf, fin, binary32}
use Rattle.std.specs.Float.Ieee.{up, down, le, fits, in_signed}
use Rattle.float.specs.Consts.{k127, k_m128}
use Rattle.envelope.specs.declared.Record.{Record}
use Rattle.envelope.specs.Record.{tick_level}

-- an f32 from -128 to 127
pub record Level (x : Float) : Type 0 where
  pub f32 : T (fits binary32 x)
  pub low : T (le k_m128 x)
  pub high : T (le x k127)

-- a whole number that an i8 holds
abbrev pub Whole : Float → Type 0
Whole x = T (in_signed binary32 7 x)

-- an f32 from 2 ^ -9 to 128
pub record Step (x : Float) : Type 0 where
  pub f32 : T (fits binary32 x)
  pub low : T (le (fin false 1 (negsuc 8)) x)
  pub high : T (le x (fin false 1 (pos 7)))

-- y lies between x and z, or is one of them
abbrev pub Between : Float → Float → Float → Type 0
Between x y z = (T (le x y) × T (le y z)) ⊎ (T (le z y) × T (le y x))

-- equal as numbers, as -0 and 0 are
abbrev pub Equal : Float → Float → Type 0
Equal x y = T (le x y) × T (le y x)

-- a finite value's exact place on a line that counts in 2 ^ -149, with zero at 2 ^ 160
unfoldable pub place : Float → ℕ
place nan = 0
place (inf s) = 0
place (fin false m e) = 2 ^ 160 + m * up e * 2 ^ 149 / down e
place (fin true m e) = 2 ^ 160 - m * up e * 2 ^ 149 / down e

-- the exact distance of two values, in 2 ^ -149
unfoldable pub distance : Float → Float → ℕ
distance x y = (place x - place y) + (place y - place x)

-- n ticks
unfoldable pub ticks : ℕ → Float → Float → Float → Float
ticks zero level target step = level
ticks (suc n) level target step = tick_level (ticks n level target step) target step

-- the levels and the step of a record lie in their ranges
pub record Ranges (r : Record) : Type 0 where
  pub start : Level r.start × Whole r.start
  pub target : Level r.target × Whole r.target
  pub step : Step r.step
