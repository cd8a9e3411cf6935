-- The exact hyperbolic tangent of ± a / c, as a fraction with a sign; true is the minus sign. Assumes nothing.
use Rattle.std.specs.Prelude.{Bool, ℕ, ◌+◌, ◌-◌, ◌*◌, ltb}
use Rattle.power.specs.Exact.{e_num, e_den}

-- E = e ^ 2x
abbrev pub square_num : Bool → ℕ → ℕ → ℕ
square_num s a c = e_num s (2 * a) c

abbrev pub square_den : Bool → ℕ → ℕ → ℕ
square_den s a c = e_den s (2 * a) c

-- tanh x = (E - 1) / (E + 1): minus where E is below 1
unfoldable pub tanh_minus : Bool → ℕ → ℕ → Bool
tanh_minus s a c = ltb (square_num s a c) (square_den s a c)

unfoldable pub tanh_num : Bool → ℕ → ℕ → ℕ
tanh_num s a c = square_num s a c - square_den s a c + (square_den s a c - square_num s a c)

unfoldable pub tanh_den : Bool → ℕ → ℕ → ℕ
tanh_den s a c = square_num s a c + square_den s a c
