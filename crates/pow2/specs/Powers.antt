-- Exact powers of two, and the table of them. Assumes nothing.
use Rattle.std.specs.Prelude.{false, List, ℕ, ◌^◌, ◌<◌, Float, get_or}
use Rattle.std.specs.Float.{nan}
use Rattle.std.specs.Float.Ieee.Exact.{HasValue}

-- x is exactly 2 ^ (k - 126)
abbrev pub TwoPower : Float → ℕ → Type 0
TwoPower x k = HasValue x false (2 ^ k) (2 ^ 126)

-- a table of 2^n for n from -126 to 126: the entry of n is at n + 126
pub record TwoPowers (t : List Float) : Type 0 where
  pub exact : (k : ℕ) → k < 253 → TwoPower (get_or t k nan) k
