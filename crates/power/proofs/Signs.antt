-- The exact two-power of ± a / c is two_at at ± a / c + 128, over 2 ^ 128. Assumes nothing.
use mathlib.Core.Path.{◌≡◌, ap, ◌∙◌}
use mathlib.Core.Bool.{Bool, true, false}
use Prim.Native.Nat.{ℕ, ◌+◌, ◌-◌, ◌*◌, ◌/◌, ◌%◌, ◌^◌, ◌≤◌, ◌<◌}
use native.Mathlib.Nat.{add-mul, one-mul, mod-add-div', mod-lt, div-mul-le_self, lt-div-mul-add, lt_of_mul-lt-mul_right}
use native.Mathlib.Omega.{arith}
use lib.Pow.{pow-add}
use Rattle.series.proofs.Algebra.{ac}
use Rattle.fixed.specs.Fixed.{shifted}
use Rattle.power.specs.Exact.{sum_num, sum_den, ceiling, two_num, two_den}
use Rattle.power.proofs.TwoPower.{two_at, two_at_is}

-- ---- the ceiling
module _ (a c : ℕ) (cp : 0 < c) where
  pub ceiling_ge : a ≤ ceiling a c * c
  unfolding ceiling
  ceiling_ge = omega (arith, lt-div-mul-add {a = a + (c - 1)} cp)

  pub ceiling_lt : ceiling a c * c < a + c
  unfolding ceiling
  ceiling_lt = omega (arith, div-mul-le_self (a + (c - 1)) c)

  ceiling_le : (k : ℕ) → a ≤ k * c → ceiling a c ≤ k
  ceiling_le k h = le_of_lt_suc (lt_of_mul-lt-mul_right c (bound ceiling_lt h))
    where
      bound : ceiling a c * c < a + c → a ≤ k * c → ceiling a c * c < (k + 1) * c
      bound p q = omega (arith, add-mul k 1 c, one-mul c)

      le_of_lt_suc : ceiling a c < k + 1 → ceiling a c ≤ k
      le_of_lt_suc p = omega arith

plus_case : (X Y s d : ℕ) → Y * s * (X * d) ≡ X * Y * s * d
plus_case X Y s d = simp ac

minus_case : (X Y Z s d : ℕ) → X ≡ Y * Z → s * (X * d) ≡ Y * s * (Z * d)
minus_case X Y Z s d e = rw e (simp ac)

pub two_plus : (a c : ℕ) → 0 < c → two_num false a c * (2 ^ 128 * sum_den c) ≡ two_at c (128 * c + a) * two_den false a c
unfolding two_num two_den
two_plus a c cp =
    rw (two_at_is c (a % c) (128 + a / c) (128 * c + a) cp (mod-lt a cp) (together (a % c) (a / c) (mod-add-div' a c)), pow-add 2 128 (a / c))
    (plus_case (2 ^ 128) (2 ^ (a / c)) (sum_num (a % c) c) (sum_den c))
  where
    together : (r n : ℕ) → r + n * c ≡ a → r + (128 + n) * c ≡ 128 * c + a
    together r n e = simp add-mul (omega arith)

pub two_minus : (a c : ℕ) → 0 < c → a ≤ 128 * c → two_num true a c * (2 ^ 128 * sum_den c) ≡ two_at c (128 * c - a) * two_den true a c
unfolding two_num two_den
two_minus a c cp h =
    let m = ceiling a c in
    let l = ceiling_le a c cp 128 h in
    rw (two_at_is c (m * c - a) (128 - m) (128 * c - a) cp (omega (arith, ceiling_lt a c cp, ceiling_ge a c cp)) (together m l (ceiling_ge a c cp)))
    (minus_case (2 ^ 128) (2 ^ (128 - m)) (2 ^ m) (sum_num (m * c - a) c) (sum_den c) (ap (λ (i : ℕ). 2 ^ i) (back m l) ∙ pow-add 2 (128 - m) m))
  where
    back : (m : ℕ) → m ≤ 128 → 128 ≡ 128 - m + m
    back m l = omega arith

    together : (m : ℕ) → m ≤ 128 → a ≤ m * c → m * c - a + (128 - m) * c ≡ 128 * c - a
    together m l g = go (128 - m) (sum m l)
      where
        sum : (m : ℕ) → m ≤ 128 → 128 - m + m ≡ 128
        sum m l = omega arith

        go : (k : ℕ) → k + m ≡ 128 → m * c - a + k * c ≡ 128 * c - a
        go k e = rw (← e) (simp add-mul (omega arith))

pub two_shifted : (s : Bool) (a c : ℕ) → 0 < c → a ≤ 128 * c → two_num s a c * (2 ^ 128 * sum_den c) ≡ two_at c (shifted s a c) * two_den s a c
two_shifted false a c cp h = two_plus a c cp
two_shifted true a c cp h = two_minus a c cp h
