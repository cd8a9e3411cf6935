-- The truncated exponential at 0, scaled, and in order. Assumes nothing.
use mathlib.Core.Path.{◌≡◌, refl, ap}
use Prim.Native.Nat.{ℕ, zero, suc, ◌+◌, ◌-◌, ◌*◌, ◌^◌, ◌≤◌, ◌<◌}
use native.Mathlib.Nat.{le_refl, le_trans, le_of_eq, le-add_right, mul_comm, mul-add, mul-one, one-mul, mul-zero, add-zero, pow-zero, pow-suc, pow-le-pow_left, mul-pos, mul-le-mul_right, add-le-add}
use native.Mathlib.Omega.{arith}
use lib.Dec.{lit<}
use Rattle.series.specs.Exponential.{exp_num, exp_den}
use Rattle.series.proofs.Algebra.{ac, mul_pow}

pub num_zero : (n z : ℕ) → exp_num n 0 z ≡ exp_den n z
unfolding exp_num exp_den
num_zero zero z = refl
num_zero (suc n) z = rw (num_zero n z, pow-suc 0 n, mul-zero (0 ^ n)) (add-zero (exp_den n z * (suc n * z)))

-- the exponential is at least 1
pub at_least_one : (n x z : ℕ) → exp_den n z ≤ exp_num n x z
unfolding exp_num exp_den
at_least_one zero x z = le_refl 1
at_least_one (suc n) x z = le_trans (mul-le-mul_right (suc n * z) (at_least_one n x z)) (le-add_right (exp_num n x z * (suc n * z)) (x ^ suc n))

pub den_pos : (n z : ℕ) → 0 < z → 0 < exp_den n z
unfolding exp_den
den_pos zero z h = lit< tt
den_pos (suc n) z h = mul-pos (den_pos n z h) (mul-pos {m = suc n} (omega arith) h)

pub num_mono : (n x y z : ℕ) → x ≤ y → exp_num n x z ≤ exp_num n y z
unfolding exp_num
num_mono zero x y z h = le_refl 1
num_mono (suc n) x y z h = add-le-add (mul-le-mul_right (suc n * z) (num_mono n x y z h)) (pow-le-pow_left h (suc n))

-- c x / (c z) is x / z
pub num_scale : (n c x z : ℕ) → exp_num n (c * x) (c * z) ≡ exp_num n x z * c ^ n
unfolding exp_num
num_scale zero c x z = rw pow-zero
num_scale (suc n) c x z = rw (num_scale n c x z, mul_pow c x (suc n), pow-suc c n) (go (exp_num n x z) (c ^ n) (suc n) c z (x ^ suc n))
  where
    go : (e C m c z X : ℕ) → e * C * (m * (c * z)) + C * c * X ≡ (e * (m * z) + X) * (C * c)
    go e C m c z X = simp ac

den_step : (d m M c E : ℕ) → d * E * (m * (c * M)) ≡ d * (m * M) * (E * c)
den_step d m M c E = simp ac

pub den_scale : (M c n : ℕ) → exp_den n (c * M) ≡ exp_den n M * c ^ n
unfolding exp_den
den_scale M c zero = rw pow-zero
den_scale M c (suc n) = rw (den_scale M c n, pow-suc c n) (den_step (exp_den n M) (suc n) M c (c ^ n))

pub den_pow : (n z : ℕ) → exp_den n z ≡ exp_den n 1 * z ^ n
den_pow n z = rw (mul-one z) at (den_scale 1 z n)

-- ---- the second order, from below: 1 + x + x² / 2 ≤ the sum
quadratic_step : (d e m q w z X : ℕ) → d * q ≤ e * w → d * (m * z) * q ≤ (e * (m * z) + X) * w
quadratic_step d e m q w z X h = simp ac (omega (arith, simp ac at (mul-le-mul_right (m * z) h)))

pub quadratic_is : (x z : ℕ) → exp_num 2 x z ≡ 2 * (z * z) + 2 * (z * x) + x * x
unfolding exp_num
quadratic_is x z = rw (pow-suc x 1, pow-suc x 0, pow-zero x) (go x z)
  where
    go : (x z : ℕ) → (1 * (1 * z) + 1 * x) * (2 * z) + 1 * x * x ≡ 2 * (z * z) + 2 * (z * x) + x * x
    go x z = omega arith

pub quadratic_den : (z : ℕ) → exp_den 2 z ≡ 2 * (z * z)
unfolding exp_den
quadratic_den z = omega arith

one_more : (n x z q w : ℕ) → exp_den n z * q ≤ exp_num n x z * w → exp_den (suc n) z * q ≤ exp_num (suc n) x z * w
unfolding exp_num exp_den
one_more n x z q w h = quadratic_step (exp_den n z) (exp_num n x z) (suc n) q w z (x ^ suc n) h

pub quadratic_le : (n x z : ℕ) → exp_den (suc (suc n)) z * (2 * (z * z) + 2 * (z * x) + x * x) ≤ exp_num (suc (suc n)) x z * (2 * (z * z))
quadratic_le zero x z = rw (quadratic_is x z, quadratic_den z) (le_of_eq (mul_comm (2 * (z * z)) (2 * (z * z) + 2 * (z * x) + x * x)))
quadratic_le (suc n) x z = one_more (suc (suc n)) x z (2 * (z * z) + 2 * (z * x) + x * x) (2 * (z * z)) (quadratic_le n x z)

-- ---- the first order: 1 + x ≤ the sum ≤ 1 / (1 - x)
pub linear_le : (n x z : ℕ) → exp_den (suc n) z * (z + x) ≤ exp_num (suc n) x z * z
linear_le zero x z = start x z
  where
    start : (x z : ℕ) → exp_den 1 z * (z + x) ≤ exp_num 1 x z * z
    start x z = unfold exp_num exp_den in rw (pow-suc x 0, pow-zero x) (go x z)
      where
        go : (x z : ℕ) → 1 * (1 * z) * (z + x) ≤ (1 * (1 * z) + 1 * x) * z
        go x z = simp (ac, one-mul) (omega arith)
linear_le (suc n) x z = one_more (suc n) x z (z + x) z (linear_le n x z)

-- with n! x ^ (n + 1) to spare
geometric_step : (d e f m x z X : ℕ) → x ≤ z → 1 ≤ f * m → e * z + f * X ≤ e * x + d * z → (e * (m * z) + X) * z + f * m * (X * x) ≤ (e * (m * z) + X) * x + d * (m * z) * z
geometric_step d e f m x z X h k g =
    let j = f * m - 1 in
    let ej : f * m ≡ j + 1 = omega arith in
    go j ej (mul-le-mul_right (j * X) h) (mul-le-mul_right (m * z) g)
  where
    go : (j : ℕ) → f * m ≡ j + 1 → x * (j * X) ≤ z * (j * X) → (e * z + f * X) * (m * z) ≤ (e * x + d * z) * (m * z) → (e * (m * z) + X) * z + f * m * (X * x) ≤ (e * (m * z) + X) * x + d * (m * z) * z
    go j q a b =
        rw q
        (finish e m z X j x d a (le_trans (le_of_eq (regroup e z f X m (j + 1) q)) b))
      where
        regroup : (e z f X m i : ℕ) → f * m ≡ i → e * z * (m * z) + i * (X * z) ≡ (e * z + f * X) * (m * z)
        regroup e z f X m i q = rw (← q) (simp ac)

        finish : (e m z X j x d : ℕ) → x * (j * X) ≤ z * (j * X) → e * z * (m * z) + (j + 1) * (X * z) ≤ (e * x + d * z) * (m * z) → (e * (m * z) + X) * z + (j + 1) * (X * x) ≤ (e * (m * z) + X) * x + d * (m * z) * z
        finish e m z X j x d a b = simp (ac, one-mul) (omega (arith, simp ac at a, simp (ac, one-mul) at b))

geometric : (n x z : ℕ) → x ≤ z → exp_num n x z * z + exp_den n 1 * x ^ suc n ≤ exp_num n x z * x + exp_den n z * z
unfolding exp_num exp_den
geometric zero x z h = rw (pow-suc x 0, pow-zero x) (omega arith)
geometric (suc n) x z h =
    rw (pow-suc x (suc n), mul-one (suc n))
    (geometric_step (exp_den n z) (exp_num n x z) (exp_den n 1) (suc n) x z (x ^ suc n) h (mul-pos {m = exp_den n 1} (den_pos n 1 (lit< tt)) (omega arith)) (geometric n x z h))

pub geometric_le : (n x y z : ℕ) → y + x ≡ z → exp_num n x z * y ≤ exp_den n z * z
geometric_le n x y z e = go (exp_num n x z) (exp_den n z * z) (exp_den n 1 * x ^ suc n) (geometric n x z (omega arith))
  where
    go : (a b f : ℕ) → a * z + f ≤ a * x + b → a * y ≤ b
    go a b f h = omega (arith, mul-add a y x, ap (λ (k : ℕ). a * k) e)
