-- The addition law of the truncated exponential: S n (x + y) ≤ S n x * S n y ≤ S (2 n) (x + y). Assumes nothing.
use mathlib.Core.Path.{◌≡◌, sym, ap, ◌∙◌}
use Prim.Native.Nat.{ℕ, zero, suc, ◌+◌, ◌-◌, ◌*◌, ◌^◌, ◌≤◌, ◌<◌}
use native.Mathlib.Nat.{le_refl, mul_comm, mul_assoc, mul-one, one-mul, zero-add, add-zero, add-suc, suc-add, sub_self, sub-zero, pow-zero, pow-suc, mul-pos, le_of_mul-le-mul_right, mul-le-mul_right, add-sub_cancel_left, le-add_right}
use native.Mathlib.Omega.{arith}
use lib.Dec.{lit<}
use Rattle.series.specs.Exponential.{exp_num, exp_den}
use Rattle.series.proofs.Algebra.{ac}
use Rattle.series.proofs.Sums.{sum, conv, triangle_le, square_le, binomial_sum}

-- (j + 1) z * .. * (j + k) z
unfoldable pub rise : ℕ → ℕ → ℕ → ℕ
rise z j zero = 1
rise z j (suc k) = suc j * z * rise z (suc j) k

-- x ^ j / j! of z, times exp_den M z, for j ≤ M
unfoldable pub term : ℕ → ℕ → ℕ → ℕ → ℕ
term M z x j = x ^ j * rise z j (M - j)

less : (M i : ℕ) → i < M → M - i ≡ suc (M - suc i)
less M i h = omega arith

term_step : (m z r X x : ℕ) → m * (X * x * r) * z ≡ x * (X * (m * z * r))
term_step m z r X x = simp ac

pub term_rule : (M z x i : ℕ) → i < M → suc i * term M z x (suc i) * z ≡ x * term M z x i
unfolding term rise
term_rule M z x i h = rw (less M i h, pow-suc x i) (term_step (suc i) z (rise z (suc i) (M - suc i)) (x ^ i) x)

pub term_zero : (M z x : ℕ) → term M z x 0 ≡ rise z 0 M
unfolding term
term_zero M z x = rw (pow-zero x, sub-zero M) (one-mul (rise z 0 M))

den_step : (d m z r : ℕ) → d * (m * z * r) ≡ d * (m * z) * r
den_step d m z r = sym (mul_assoc d (m * z) r)

pub rise_den : (z n k : ℕ) → exp_den n z * rise z n k ≡ exp_den (n + k) z
unfolding rise exp_den
rise_den z n zero = mul-one (exp_den n z) ∙ ap (λ (a : ℕ). exp_den a z) (sym (add-zero n))
rise_den z n (suc k) = den_step (exp_den n z) (suc n) z (rise z (suc n) k) ∙ rise_den z (suc n) k ∙ ap (λ (a : ℕ). exp_den a z) (suc-add n k ∙ sym (add-suc n k))

pub rise_zero : (z M : ℕ) → rise z 0 M ≡ exp_den M z
unfolding exp_den
rise_zero z M = sym (one-mul (rise z 0 M)) ∙ rise_den z 0 M ∙ ap (λ (a : ℕ). exp_den a z) (zero-add M)

sum_step : (e m z r X : ℕ) → e * (m * z * r) + X * r ≡ (e * (m * z) + X) * r
sum_step e m z r X = simp ac

pub sum_is : (M z x n : ℕ) → n ≤ M → sum (term M z x) n ≡ exp_num n x z * rise z n (M - n)
unfolding sum exp_num
sum_is M z x zero h = term_zero M z x ∙ ap (λ (k : ℕ). rise z 0 k) (sym (sub-zero M)) ∙ sym (one-mul (rise z 0 (M - 0)))
sum_is M z x (suc n) h =
    rw (sum_is M z x n (omega arith), less M n h)
    (unfold rise term in sum_step (exp_num n x z) (suc n) z (rise z (suc n) (M - suc n)) (x ^ suc n))

pub rise_pos : (z j k : ℕ) → 0 < z → 0 < rise z j k
unfolding rise
rise_pos z j zero h = lit< tt
rise_pos z j (suc k) h = mul-pos {m = suc j * z} (mul-pos {m = suc j} (omega arith) h) (rise_pos z (suc j) k h)

module _ (x y z : ℕ) (zp : 0 < z) where
  -- the terms of the product, up to M, are those of the sum's exponential
  product : (M m : ℕ) → m ≤ M → sum (conv (term M z x) (term M z y)) m ≡ exp_den M z * sum (term M z (x + y)) m
  product M m h =
      binomial_sum M x y z zp (term M z x) (term M z y) (term M z (x + y)) (term_rule M z x) (term_rule M z y) (term_rule M z (x + y))
      (term_zero M z y ∙ sym (term_zero M z x)) (term_zero M z (x + y) ∙ sym (term_zero M z x)) m h
      ∙ ap (λ (w : ℕ). w * sum (term M z (x + y)) m) (term_zero M z x ∙ rise_zero z M)

  all : (x n : ℕ) → sum (term n z x) n ≡ exp_num n x z
  all x n = sum_is n z x n (le_refl n) ∙ ap (λ (k : ℕ). exp_num n x z * rise z n k) (sub_self n) ∙ (unfold rise in mul-one (exp_num n x z))

  pub law_lower : (n : ℕ) → exp_num n (x + y) z * exp_den n z ≤ exp_num n x z * exp_num n y z
  law_lower n = rw (product n n (le_refl n), all x n, all y n, all (x + y) n, mul_comm (exp_den n z) (exp_num n (x + y) z)) at (triangle_le (term n z x) (term n z y) n)

  half : (x n : ℕ) → sum (term (n + n) z x) n ≡ exp_num n x z * rise z n n
  half x n = sum_is (n + n) z x n (le-add_right n n) ∙ ap (λ (k : ℕ). exp_num n x z * rise z n k) (add-sub_cancel_left n n)

  upper_step : (a b d e f : ℕ) → 0 < f → a * f * (b * f) ≤ d * f * e → a * b * (d * f) ≤ e * (d * d)
  upper_step a b d e f fp h = let g : a * b * f ≤ d * e = le_of_mul-le-mul_right {k = f} (simp ac (simp ac at h)) fp in simp ac (simp ac at (mul-le-mul_right d g))

  pub law_upper : (n : ℕ) → exp_num n x z * exp_num n y z * exp_den (n + n) z ≤ exp_num (n + n) (x + y) z * (exp_den n z * exp_den n z)
  law_upper n =
      rw (← rise_den z n n)
      (upper_step (exp_num n x z) (exp_num n y z) (exp_den n z) (exp_num (n + n) (x + y) z) (rise z n n) (rise_pos z n n zp)
      (rw (product (n + n) (n + n) (le_refl (n + n)), half x n, half y n, all (x + y) (n + n), ← rise_den z n n) at (square_le (term (n + n) z x) (term (n + n) z y) n n)))
