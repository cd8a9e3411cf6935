-- The truncated exponential as a fraction. Assumes nothing.
use Rattle.std.specs.Prelude.{ℕ, zero, suc, ◌+◌, ◌*◌, ◌^◌}

-- the sum, j from 0 to n, of (x / z) ^ j / j! is exp_num n x z / exp_den n z
unfoldable pub exp_num : ℕ → ℕ → ℕ → ℕ
exp_num zero x z = 1
exp_num (suc n) x z = exp_num n x z * (suc n * z) + x ^ suc n

-- n! * z ^ n
unfoldable pub exp_den : ℕ → ℕ → ℕ
exp_den zero z = 1
exp_den (suc n) z = exp_den n z * (suc n * z)
