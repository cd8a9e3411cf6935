-- What lies past the n-th term of the exponential, and so the addition law at one length. Assumes nothing.
use mathlib.Core.Path.{◌≡◌, sym, ap, ap₂, ◌∙◌, subst₂}
use Prim.Native.Nat.{ℕ, zero, suc, ◌+◌, ◌-◌, ◌*◌, ◌^◌, ◌≤◌, ◌<◌}
use native.Mathlib.Nat.{le_trans, le_of_eq, le_refl, mul_comm, mul_assoc, mul_right_comm, mul-add, add-mul, mul-one, one-mul, zero-add, add-zero, suc-add, add_comm, sub_self, pow-zero, pow-suc, pow-le-pow_left, mul-pos, le_of_mul-le-mul_right, mul-le-mul_right, mul-le-mul_left}
use native.Mathlib.Omega.{arith}
use lib.Dec.{lit<}
use Rattle.series.specs.Exponential.{exp_num, exp_den}
use Rattle.series.proofs.Algebra.{ac, mul_pow}
use Rattle.series.proofs.Exponential.{at_least_one, den_pos, den_pow, quadratic_is, quadratic_den}
use Rattle.series.proofs.Sums.{sum}
use Rattle.series.proofs.Addition.{rise, term, term_rule, sum_is, rise_den, rise_pos, rise_zero, law_lower, law_upper}

-- terms that fall by R + 1 from the n-th on
geo_step : (R s t t' B : ℕ) → (R + 1) * t' ≤ t → R * s + t ≤ B → R * (s + t') + t' ≤ B
geo_step R s t t' B h k = simp mul-add (omega (arith, simp add-mul at h))

geo : (t : ℕ → ℕ) (R n M : ℕ) → ((j : ℕ) → n ≤ j → j < M → (R + 1) * t (suc j) ≤ t j) → (k : ℕ) → k + n ≤ M → R * sum t (k + n) + t (k + n) ≤ R * sum t n + t n
unfolding sum
geo t R n M h zero l = rw (zero-add n) (le_refl (R * sum t n + t n))
geo t R n M h (suc k) l =
    rw (suc-add k n) (geo_step R (sum t (k + n)) (t (k + n)) (t (suc (k + n))) (R * sum t n + t n) (h (k + n) (omega arith) (rw (suc-add k n) at l)) (geo t R n M h k (le_trans (omega arith) l)))

fall_step : (R m n z x t t' : ℕ) → 0 < z → n ≤ m → (R + 1) * x ≤ suc n * z → suc m * t' * z ≡ x * t → (R + 1) * t' ≤ t
fall_step R m n z x t t' zp l h e =
    le_of_mul-le-mul_right {k = suc m * z}
    (le_trans (le_of_eq (shuffle (R + 1) t' (suc m) z ∙ ap (λ (w : ℕ). (R + 1) * w) e ∙ sym (mul_assoc (R + 1) x t)))
    (le_trans (mul-le-mul_right t (le_trans h (mul-le-mul_right z (omega arith)))) (le_of_eq (mul_comm (suc m * z) t))))
    (mul-pos {m = suc m} (omega arith) zp)
  where
    shuffle : (r a b c : ℕ) → r * a * (b * c) ≡ r * (b * a * c)
    shuffle r a b c = simp ac

tail_step : (R e s X r t : ℕ) → R * e + t ≤ R * (s * r) + X * r → R * e ≤ (R * s + X) * r
tail_step R e s X r t h = simp (add-mul, mul_assoc) (omega arith)

pub tail : (R n k x z : ℕ) → 0 < z → (R + 1) * x ≤ suc n * z → R * exp_num (k + n) x z ≤ (R * exp_num n x z + x ^ n) * rise z n k
tail R n k x z zp h =
    tail_step R (exp_num (k + n) x z) (exp_num n x z) (x ^ n) (rise z n k) (term (k + n) z x (k + n))
    (subst₂ (λ (a b : ℕ). R * a + term (k + n) z x (k + n) ≤ b) whole (ap₂ (λ (a b : ℕ). R * a + b) part one)
    (geo (term (k + n) z x) R n (k + n) (λ j l m. fall_step R j n z x (term (k + n) z x j) (term (k + n) z x (suc j)) zp l h (term_rule (k + n) z x j m)) k (le_refl (k + n))))
  where
    gap : k + n - n ≡ k
    gap = omega arith

    whole : sum (term (k + n) z x) (k + n) ≡ exp_num (k + n) x z
    whole = sum_is (k + n) z x (k + n) (le_refl (k + n)) ∙ ap (λ (i : ℕ). exp_num (k + n) x z * rise z (k + n) i) (sub_self (k + n)) ∙ (unfold rise in mul-one (exp_num (k + n) x z))

    part : sum (term (k + n) z x) n ≡ exp_num n x z * rise z n k
    part = sum_is (k + n) z x n (omega arith) ∙ ap (λ (i : ℕ). exp_num n x z * rise z n i) gap

    one : term (k + n) z x n ≡ x ^ n * rise z n k
    one = unfold term in ap (λ (i : ℕ). x ^ n * rise z n i) gap

-- the n-th term, for x / z at most p / q
pub last_le : (n x z p q : ℕ) → x * q ≤ p * z → exp_den n 1 * q ^ n * x ^ n ≤ p ^ n * exp_den n z
last_le n x z p q h =
    rw (den_pow n z)
    (go (exp_den n 1) (q ^ n) (x ^ n) (p ^ n) (z ^ n) (rw (mul_pow x q n, mul_pow p z n) at (pow-le-pow_left h n)))
  where
    go : (d Q X P Z : ℕ) → X * Q ≤ P * Z → d * Q * X ≤ P * (d * Z)
    go d Q X P Z e = simp ac (simp ac at (mul-le-mul_left d e))

-- the n-th term is small: K X ≤ R w
last_small : (K R e X w P : ℕ) → 0 < e → e * X ≤ P * w → K * P ≤ R * e → K * X ≤ R * w
last_small K R e X w P ep h k = le_of_mul-le-mul_right {k = e} (simp ac (omega (arith, simp ac at (mul-le-mul_right K h), simp ac at (mul-le-mul_right w k)))) ep

join : (K R s w e r d X : ℕ) → 0 < R → 0 < r → 0 < d → s * (d * r) ≤ e * (d * d) → R * e ≤ (R * w + X) * r → K * X ≤ R * w → K * s ≤ (K + 1) * (w * d)
join K R s w e r d X Rp rp dp h₁ h₂ h₃ =
    let a : s * r ≤ e * d = le_of_mul-le-mul_right {k = d} (simp ac (simp ac at h₁)) dp in
    let b : R * s ≤ (R * w + X) * d = le_of_mul-le-mul_right {k = r} (le_trans (le_of_eq (mul_assoc R s r)) (le_trans (mul-le-mul_left R a) (le_trans (le_of_eq (sym (mul_assoc R e d))) (le_trans (mul-le-mul_right d h₂) (le_of_eq (mul_right_comm (R * w + X) r d)))))) rp in
    le_of_mul-le-mul_right {k = R} (simp (ac, one-mul) (omega (arith, simp ac at (mul-le-mul_right K b), simp ac at (mul-le-mul_right d h₃)))) Rp

-- S x * S y is at least S (x + y), and at most that and one part in K, where x + y is at most p / q of z and p, q, R and K pass two tests
pub addition : (n R K p q : ℕ) → 0 < R → 0 < q → (R + 1) * p ≤ suc n * q → K * p ^ n ≤ R * (exp_den n 1 * q ^ n)
    → (x y z : ℕ) → 0 < z → (x + y) * q ≤ p * z
    → (exp_num n (x + y) z * exp_den n z ≤ exp_num n x z * exp_num n y z) × (K * (exp_num n x z * exp_num n y z) ≤ (K + 1) * (exp_num n (x + y) z * exp_den n z))
addition n R K p q Rp qp t₁ t₂ x y z zp h = (
  law_lower x y z zp n,
  join K R (exp_num n x z * exp_num n y z) (exp_num n (x + y) z) (exp_num (n + n) (x + y) z) (rise z n n) (exp_den n z) ((x + y) ^ n) Rp (rise_pos z n n zp) (den_pos n z zp)
      (rw (← rise_den z n n) at (law_upper x y z zp n))
      (tail R n n (x + y) z zp (falls (x + y) h))
      (last_small K R (exp_den n 1 * q ^ n) ((x + y) ^ n) (exp_num n (x + y) z) (p ^ n) (mul-pos (den_pos n 1 (lit< tt)) (pow_pos' qp n))
      (le_trans (last_le n (x + y) z p q h) (mul-le-mul_left (p ^ n) (at_least_one n (x + y) z))) t₂),
)
  where
    falls : (s : ℕ) → s * q ≤ p * z → (R + 1) * s ≤ suc n * z
    falls s e = le_of_mul-le-mul_right {k = q} (scaled (R + 1) s (suc n) e t₁) qp
      where
        scaled : (r s m : ℕ) → s * q ≤ p * z → r * p ≤ m * q → r * s * q ≤ m * z * q
        scaled r s m e t = simp ac (omega (arith, simp ac at (mul-le-mul_right r e), simp ac at (mul-le-mul_right z t)))

    pow_pos' : {a : ℕ} → 0 < a → (n : ℕ) → 0 < a ^ n
    pow_pos' {a} h zero = rw (pow-zero a) (lit< tt)
    pow_pos' {a} h (suc n) = rw (pow-suc a n) (mul-pos (pow_pos' h n) h)

-- the exponential of a small x is near 1: the tail past the term 0
pub near_one : (R n x z : ℕ) → 0 < z → (R + 1) * x ≤ z → R * exp_num n x z ≤ (R + 1) * exp_den n z
unfolding exp_num
near_one R n x z zp h = rw (add-zero n, rise_zero, pow-zero x, mul-one R) at (tail R 0 n x z zp (rw (one-mul z) h))

-- and from above: at most one part in R of x² / 2 more
pub quadratic_ge : (R k x z : ℕ) → 0 < z → (R + 1) * x ≤ 3 * z → R * (exp_num (k + 2) x z * (2 * (z * z))) ≤ (R * (2 * (z * z) + 2 * (z * x) + x * x) + x * x) * exp_den (k + 2) z
quadratic_ge R k x z zp h =
    go (exp_num (k + 2) x z) (rise z 2 k) (2 * (z * z) + 2 * (z * x) + x * x) (x * x) (2 * (z * z)) (exp_den (k + 2) z)
    (sym (ap (λ (d : ℕ). d * rise z 2 k) (quadratic_den z)) ∙ rise_den z 2 k ∙ ap (λ (n : ℕ). exp_den n z) (add_comm 2 k))
    (rw (quadratic_is x z, square x) at (tail R 2 k x z zp h))
  where
    square : (x : ℕ) → x ^ 2 ≡ x * x
    square x = rw (pow-suc x 1, pow-suc x 0, pow-zero x) (ap (λ (y : ℕ). y * x) (one-mul x))

    go : (e r q y w d : ℕ) → w * r ≡ d → R * e ≤ (R * q + y) * r → R * (e * w) ≤ (R * q + y) * d
    go e r q y w d p f = rw (← p) (simp ac (simp ac at (mul-le-mul_right w f)))
