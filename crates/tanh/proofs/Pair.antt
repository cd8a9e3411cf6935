-- The exact e ^ 2x = N / D of a number ± v / c of binary digits, turned so that it is at most 1: X / Y. For plus it is the inverse of the two-power
-- of - v / c by the addition law, for minus that power itself. Assumes nothing.
use mathlib.Core.Path.{◌≡◌, refl, sym, ap, ◌∙◌}
use mathlib.Core.Bool.{Bool, true, false}
use Prim.Native.Nat.{ℕ, zero, suc, ◌+◌, ◌-◌, ◌*◌, ◌/◌, ◌%◌, ◌^◌, ◌≤◌, ◌<◌}
use native.Mathlib.Nat.{le_trans, le_of_eq, mul_comm, one-mul, zero-mul, zero-add, mul-pos, mul-le-mul_right, le_of_mul-le-mul_right}
use native.Mathlib.Omega.{arith}
use lib.Dec.{lit<, lit≤}
use lib.Pow.{pow_pos}
use Rattle.series.proofs.Algebra.{ac, loosen}
use Rattle.power.specs.Exact.{sum_num, sum_den, ceiling, two_num, two_den}
use Rattle.power.proofs.TwoPower.{two_at, two_at_is, power_law, two_hi}
use Rattle.power.proofs.Moves.{sum_den_pos, sum_ge, sum_zero, sum_mono}
use Rattle.power.proofs.Signs.{two_shifted, ceiling_lt}

-- 2 log2 e over 10 ^ 14
abbrev pub K : ℕ
K = 288539008177792

-- the smaller and the larger of N and D
abbrev pub lesser : Bool → ℕ → ℕ → ℕ
lesser true n d = n
lesser false n d = d

abbrev pub greater : Bool → ℕ → ℕ → ℕ
greater true n d = d
greater false n d = n

pub num_le_den : (v c : ℕ) → 0 < c → two_num true v c ≤ two_den true v c
unfolding two_num two_den
num_le_den v c cp = go (ceiling v c) (ceiling_lt v c cp)
  where
    go : (m : ℕ) → m * c < v + c → sum_num (m * c - v) c ≤ 2 ^ m * sum_den c
    go zero l = le_trans (sum_mono (0 * c - v) 0 c (omega (arith, zero-mul c))) (le_of_eq (sum_zero c ∙ sym (one-mul (sum_den c))))
    go (suc m) l =
        le_trans (sum_mono (suc m * c - v) c c (omega arith))
        (le_trans (two_hi c) (mul-le-mul_right (sum_den c) (omega (arith, pow_pos m))))

pub den_le_num : (v c : ℕ) → two_den false v c ≤ two_num false v c
unfolding two_num two_den
den_le_num v c = le_trans (sum_ge (v % c) c) (le_trans (le_of_eq (sym (one-mul (sum_num (v % c) c)))) (mul-le-mul_right (sum_num (v % c) c) (pow_pos (v / c))))

pub lesser_le : (s : Bool) (v c : ℕ) → 0 < c → lesser s (two_num s v c) (two_den s v c) ≤ greater s (two_num s v c) (two_den s v c)
lesser_le true v c cp = num_le_den v c cp
lesser_le false v c cp = den_le_num v c

module _ (v c : ℕ) (cp : 0 < c) (vl : v ≤ 128 * c) where
  -- two to the power v / c and - v / c, over F
  abbrev F : ℕ
  F = 2 ^ 128 * sum_den c

  abbrev plus : ℕ
  plus = two_at c (128 * c + v)

  abbrev minus : ℕ
  minus = two_at c (128 * c - v)

  f_pos : 0 < 2 ^ 128 * sum_den c
  f_pos = mul-pos {m = 2 ^ 128} (pow_pos 128) (sum_den_pos c cp)

  whole : two_at c (128 * c + v + (128 * c - v)) * sum_den c ≡ F * F
  whole =
      ap (λ (z : ℕ). two_at c z * sum_den c) sum ∙ ap (λ (z : ℕ). z * sum_den c) (two_at_is c 0 256 (256 * c) cp cp (zero-add (256 * c)) ∙ ap (λ (z : ℕ). 2 ^ 256 * z) (sum_zero c))
      ∙ go (2 ^ 256) (2 ^ 128) (sum_den c) refl
    where
      sum : 128 * c + v + (128 * c - v) ≡ 256 * c
      sum = omega arith

      go : (a b d : ℕ) → a ≡ b * b → a * d * d ≡ b * d * (b * d)
      go a b d e = rw e (simp ac)

  -- the two are inverse
  pub inverse_over : 2097152 * (two_at c (128 * c + v) * two_at c (128 * c - v)) ≤ 2097153 * (2 ^ 128 * sum_den c * (2 ^ 128 * sum_den c))
  inverse_over = rw whole at (power_law c (128 * c + v) (128 * c - v) cp).1

  pub inverse_under : 2097151 * (2 ^ 128 * sum_den c * (2 ^ 128 * sum_den c)) ≤ 2097152 * (two_at c (128 * c + v) * two_at c (128 * c - v))
  inverse_under = rw whole at (power_law c (128 * c + v) (128 * c - v) cp).0

  -- X F is about Y * minus
  pub pair_over : (s : Bool) → 2097151 * (lesser s (two_num s v c) (two_den s v c) * (2 ^ 128 * sum_den c)) ≤ 2097152 * (greater s (two_num s v c) (two_den s v c) * two_at c (128 * c - v))
  pair_over true = loosen 1 1 2097151 2097152 (two_num true v c * F) (two_den true v c * minus) (lit< tt) (lit≤ tt) (le_of_eq (ap (λ (z : ℕ). 1 * z) (two_shifted true v c cp vl ∙ mul_comm minus (two_den true v c))))
  pair_over false = go (two_den false v c) (two_num false v c) F plus minus 2097151 2097152 f_pos (two_shifted false v c cp vl) inverse_under
    where
      go : (X Y F p q m n : ℕ) → 0 < F → Y * F ≡ p * X → m * (F * F) ≤ n * (p * q) → m * (X * F) ≤ n * (Y * q)
      go X Y F p q m n fp e h = le_of_mul-le-mul_right {k = F} (simp ac (omega (arith, simp ac at (mul-le-mul_right X h), simp ac at (ap (λ (z : ℕ). z * (n * q)) e)))) fp

  pub pair_under : (s : Bool) → 2097151 * (greater s (two_num s v c) (two_den s v c) * two_at c (128 * c - v)) ≤ 2097152 * (lesser s (two_num s v c) (two_den s v c) * (2 ^ 128 * sum_den c))
  pair_under true = loosen 1 1 2097151 2097152 (two_den true v c * minus) (two_num true v c * F) (lit< tt) (lit≤ tt) (le_of_eq (ap (λ (z : ℕ). 1 * z) (sym (two_shifted true v c cp vl ∙ mul_comm minus (two_den true v c)))))
  pair_under false = loosen 2097152 2097153 2097151 2097152 (two_num false v c * minus) (two_den false v c * F) (lit< tt) (lit≤ tt) (go (two_den false v c) (two_num false v c) F plus minus 2097152 2097153 f_pos (two_shifted false v c cp vl) inverse_over)
    where
      go : (X Y F p q m n : ℕ) → 0 < F → Y * F ≡ p * X → m * (p * q) ≤ n * (F * F) → m * (Y * q) ≤ n * (X * F)
      go X Y F p q m n fp e h = le_of_mul-le-mul_right {k = F} (simp ac (omega (arith, simp ac at (mul-le-mul_right X h), simp ac at (ap (λ (z : ℕ). z * (m * q)) e)))) fp
