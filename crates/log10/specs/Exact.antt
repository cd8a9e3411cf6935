-- A number ± a / c moved up or down by 2 ^ -16, as a fraction over 65536 c with a sign; true is the minus sign. Assumes nothing.
use Rattle.std.specs.Prelude.{Bool, true, false, not, ℕ, ◌+◌, ◌-◌, ◌*◌, ltb}

-- up: plus c / (65536 c)
unfoldable pub up_sign : Bool → ℕ → ℕ → Bool
up_sign false a c = false
up_sign true a c = ltb c (65536 * a)

unfoldable pub up_num : Bool → ℕ → ℕ → ℕ
up_num false a c = 65536 * a + c
up_num true a c = 65536 * a - c + (c - 65536 * a)

-- down: up with both signs turned
unfoldable pub down_sign : Bool → ℕ → ℕ → Bool
down_sign s a c = not (up_sign (not s) a c)

unfoldable pub down_num : Bool → ℕ → ℕ → ℕ
down_num s a c = up_num (not s) a c
