-- What it means that a float is near a fraction. Assumes nothing.
use Rattle.std.specs.Prelude.{◌≡◌, Bool, true, false, ℕ, ◌+◌, ◌-◌, ◌*◌, ◌≤◌, Float}
use Rattle.std.specs.Float.{nan, inf, fin}
use Rattle.std.specs.Float.Ieee.{up, down}

-- a relative distance: r is num / den to one part in b
abbrev pub Relative : ℕ → ℕ → ℕ → Float → Type 0
Relative b num den nan = ⊥
Relative b num den (inf s) = ⊥
Relative b num den (fin s m e) = (s ≡ false) × ((b - 1) * num * down e ≤ b * (m * up e) * den) × (b * (m * up e) * den ≤ (b + 1) * num * down e)

-- ± x / z and ± y / z are at most 1 / b apart; true is the minus sign
abbrev pub Apart : ℕ → Bool → Bool → ℕ → ℕ → ℕ → Type 0
Apart b false false x y z = (b * x ≤ b * y + z) × (b * y ≤ b * x + z)
Apart b true true x y z = (b * x ≤ b * y + z) × (b * y ≤ b * x + z)
Apart b false true x y z = b * (x + y) ≤ z
Apart b true false x y z = b * (x + y) ≤ z

-- an absolute distance: r is at most 1 / b away from ± num / den; true is the minus sign
abbrev pub Absolute : ℕ → Bool → ℕ → ℕ → Float → Type 0
Absolute b sign num den nan = ⊥
Absolute b sign num den (inf s) = ⊥
Absolute b sign num den (fin s m e) = Apart b s sign (m * up e * den) (num * down e) (den * down e)
