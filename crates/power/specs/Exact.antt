-- The exact two-power, exponential and power of ten, as fractions. A number is ± a / c; true is the minus sign. Assumes nothing.
use Rattle.std.specs.Prelude.{Bool, true, false, ℕ, ◌+◌, ◌-◌, ◌*◌, ◌/◌, ◌%◌, ◌^◌}
use Rattle.series.specs.Exponential.{exp_num, exp_den}

-- the sum, j from 0 to 11, of (p / c * ln 2) ^ j / j! is sum_num p c / sum_den c, for a p below c
unfoldable pub sum_num : ℕ → ℕ → ℕ
sum_num p c = exp_num 11 (p * 69314718055995) (c * 10 ^ 14)

unfoldable pub sum_den : ℕ → ℕ
sum_den c = exp_den 11 (c * 10 ^ 14)

-- the whole number at or above a / c
unfoldable pub ceiling : ℕ → ℕ → ℕ
ceiling a c = (a + (c - 1)) / c

-- two to the power t: with n the whole number at or below t and h = t - n, it is 2 ^ n times the sum at h. At t = - a / c the n is - ceiling a c
unfoldable pub two_num : Bool → ℕ → ℕ → ℕ
two_num false a c = 2 ^ (a / c) * sum_num (a % c) c
two_num true a c = sum_num (ceiling a c * c - a) c

unfoldable pub two_den : Bool → ℕ → ℕ → ℕ
two_den false a c = sum_den c
two_den true a c = 2 ^ ceiling a c * sum_den c

-- e ^ x is the two-power of x * 144269504088896 / 10 ^ 14
unfoldable pub e_num : Bool → ℕ → ℕ → ℕ
e_num s a c = two_num s (a * 144269504088896) (c * 10 ^ 14)

unfoldable pub e_den : Bool → ℕ → ℕ → ℕ
e_den s a c = two_den s (a * 144269504088896) (c * 10 ^ 14)

-- 10 ^ x is the two-power of x * 332192809488736 / 10 ^ 14
unfoldable pub ten_num : Bool → ℕ → ℕ → ℕ
ten_num s a c = two_num s (a * 332192809488736) (c * 10 ^ 14)

unfoldable pub ten_den : Bool → ℕ → ℕ → ℕ
ten_den s a c = two_den s (a * 332192809488736) (c * 10 ^ 14)
