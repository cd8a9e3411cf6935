-- The digits d and the exponent's field x of the argument: the shifts lose nothing, the root has 24 digits, and the exponent halves. Assumes nothing.
use mathlib.Core.Path.{◌≡◌, sym, ap, ◌∙◌, subst}
use Prim.Native.Nat.{ℕ, suc, ◌+◌, ◌-◌, ◌*◌, ◌/◌, ◌%◌, ◌^◌, ◌≤◌, ◌<◌, suc-le-suc}
use native.Mathlib.Nat.{le_trans, le_of_eq, lt_irrefl, lt_of_lt_of_le, lt_of_not-le, mul_assoc, mul-le-mul, mul-le-mul_right}
use native.Mathlib.Omega.{arith}
use lib.Count.{count_leading_zeros, leading_top}
use lib.Pow.{pow-add, pow_mono, shl_exact, shl_lt}
use Rattle.root.specs.Root.{nearest_root, odd, scaled, exponent, root_at}
use Rattle.root.proofs.Whole.{Nearest, root_is}

-- 24 digits
root_low : (q n : ℕ) → 70368744177664 ≤ q → q ≤ n * n + n → 8388608 ≤ n
root_low q n l h = lt_of_not-le (λ (g : n ≤ 8388607). clash (mul-le-mul {m₂ = 8388608} g (suc-le-suc g)))
  where
    clash : n * suc n ≤ 70368735789056 → ⊥
    clash k = omega arith

root_high : (q n : ℕ) → q ≤ 281474959933440 → n * n < q + n → n < 16777216
root_high q n l h = lt_of_not-le (λ (g : 16777216 ≤ n). clash g (mul-le-mul_right n g))
  where
    clash : 16777216 ≤ n → 16777216 * n ≤ n * n → ⊥
    clash g k = omega arith

pub record Sizes (d x : ℕ) : Type 0 where
  pub zeros_low : 40 ≤ count_leading_zeros 64 d
  pub zeros_high : count_leading_zeros 64 d < 64
  -- d brought to 24 digits
  pub wide_is : d * 2 ^ (count_leading_zeros 64 d - 40) % 18446744073709551616 ≡ d * 2 ^ (count_leading_zeros 64 d - 40)
  pub wide_lt : d * 2 ^ (count_leading_zeros 64 d - 40) < 16777216
  -- and to 47 or 48
  pub scaled_is : scaled d x % 18446744073709551616 ≡ scaled d x
  pub scaled_low : 70368744177664 ≤ scaled d x
  pub scaled_high : scaled d x ≤ 281474959933440
  -- the root's
  pub root_low : 8388608 ≤ nearest_root (scaled d x)
  pub root_high : nearest_root (scaled d x) < 16777216

module _ (d x : ℕ) (dp : 0 < d) (dl : d < 16777216) (xp : 1 ≤ x) (xl : x ≤ 254) where
  abbrev z : ℕ
  z = count_leading_zeros 64 d

  tops : (j : ℕ) × (z + suc j ≡ 64) × (2 ^ j ≤ d) × (d < 2 ^ suc j)
  tops = leading_top 64 d dp (lt_of_lt_of_le dl (pow_mono {i = 24} {j = 64} (omega arith)))

  j_lt : tops.0 < 24
  j_lt = lt_of_not-le (λ (g : 24 ≤ tops.0). lt_irrefl d (lt_of_lt_of_le dl (le_trans (pow_mono g) tops.2)))

  z_low : 40 ≤ z
  z_low = omega (arith, tops.1, j_lt)

  z_high : z < 64
  z_high = omega (arith, tops.1)

  wide_less : d * 2 ^ (z - 40) < 16777216
  wide_less = subst (λ (i : ℕ). d * 2 ^ (z - 40) < 2 ^ i) sum (shl_lt (suc tops.0) (z - 40) tops.3)
    where
      sum : suc tops.0 + (z - 40) ≡ 24
      sum = omega (arith, tops.1, z_low)

  scaled_of_lem : scaled d x ≡ d * 2 ^ (z - 40) * 2 ^ (23 + odd d x)
  scaled_of_lem = ap (λ (i : ℕ). d * 2 ^ i) sum ∙ ap (λ (y : ℕ). d * y) (pow-add 2 (z - 40) (23 + odd d x)) ∙ sym (mul_assoc d (2 ^ (z - 40)) (2 ^ (23 + odd d x)))
    where
      sum : z + odd d x - 17 ≡ z - 40 + (23 + odd d x)
      sum = omega (arith, z_low)

  q_low : 70368744177664 ≤ scaled d x
  q_low = le_trans (le_trans (pow_mono {i = 46} (omega (arith, tops.1, z_low))) (le_of_eq (pow-add 2 tops.0 (z + odd d x - 17)))) (mul-le-mul_right (2 ^ (z + odd d x - 17)) tops.2)

  q_high : scaled d x ≤ 281474959933440
  q_high = le_trans (le_of_eq scaled_of_lem) (mul-le-mul {n₂ = 16777215} {m₂ = 16777216} (omega (arith, wide_less)) (pow_mono {j = 24} (omega arith)))

  -- the method: the whole number nearest to the root
  pub sqrt_method : Nearest (scaled d x) (nearest_root (scaled d x))
  sqrt_method = root_is (scaled d x) (omega (arith, q_low)) (omega (arith, q_high))

  pub sizes : Sizes d x
  sizes =
      record {
        zeros_low = z_low;
        zeros_high = z_high;
        wide_is = shl_exact (suc tops.0) (z - 40) 64 tops.3 (omega (arith, tops.1, z_low));
        wide_lt = wide_less;
        scaled_is = shl_exact (suc tops.0) (z + odd d x - 17) 64 tops.3 (omega (arith, tops.1, z_low));
        scaled_low = q_low;
        scaled_high = q_high;
        root_low = root_low (scaled d x) (nearest_root (scaled d x)) q_low sqrt_method.short;
        root_high = root_high (scaled d x) (nearest_root (scaled d x)) q_high sqrt_method.past;
      }

  exponents : x - 1 + 149 ≡ z + odd d x - 17 + (exponent d x + exponent d x)
  exponents = omega (arith, z_low, z_high)

  -- the reduction is exact: in units of 2 ^ -149, the argument times 2 ^ 149 is the scaled number times a square
  pub sqrt_reduction : d * 2 ^ (x - 1) * 2 ^ 149 ≡ scaled d x * (2 ^ exponent d x * 2 ^ exponent d x)
  sqrt_reduction =
      mul_assoc d (2 ^ (x - 1)) (2 ^ 149)
      ∙ ap (λ (w : ℕ). d * w) (sym (pow-add 2 (x - 1) 149) ∙ ap (λ (i : ℕ). 2 ^ i) exponents ∙ pow-add 2 (z + odd d x - 17) (exponent d x + exponent d x) ∙ ap (λ (w : ℕ). 2 ^ (z + odd d x - 17) * w) (pow-add 2 (exponent d x) (exponent d x)))
      ∙ sym (mul_assoc d (2 ^ (z + odd d x - 17)) (2 ^ exponent d x * 2 ^ exponent d x))

-- ---- one by one, as `root_bits` needs them
module _ (d : ℕ) (dp : 0 < d) (dl : d < 16777216) where
  pub zeros_low : 40 ≤ count_leading_zeros 64 d
  zeros_low = (sizes d 1 dp dl (omega arith) (omega arith)).zeros_low

  pub zeros_high : count_leading_zeros 64 d < 64
  zeros_high = (sizes d 1 dp dl (omega arith) (omega arith)).zeros_high

  pub wide_is : d * 2 ^ (count_leading_zeros 64 d - 40) % 18446744073709551616 ≡ d * 2 ^ (count_leading_zeros 64 d - 40)
  wide_is = (sizes d 1 dp dl (omega arith) (omega arith)).wide_is

  pub wide_lt : d * 2 ^ (count_leading_zeros 64 d - 40) < 16777216
  wide_lt = (sizes d 1 dp dl (omega arith) (omega arith)).wide_lt

module _ (d x : ℕ) (dp : 0 < d) (dl : d < 16777216) (xp : 1 ≤ x) (xl : x ≤ 254) where
  pub scaled_is : d * 2 ^ (count_leading_zeros 64 d + (x + count_leading_zeros 64 d + 1) % 2 - 17) % 18446744073709551616 ≡ d * 2 ^ (count_leading_zeros 64 d + (x + count_leading_zeros 64 d + 1) % 2 - 17)
  scaled_is = (sizes d x dp dl xp xl).scaled_is

  pub scaled_low : 0 < d * 2 ^ (count_leading_zeros 64 d + (x + count_leading_zeros 64 d + 1) % 2 - 17)
  scaled_low = omega (arith, (sizes d x dp dl xp xl).scaled_low)

  pub scaled_high : d * 2 ^ (count_leading_zeros 64 d + (x + count_leading_zeros 64 d + 1) % 2 - 17) < 281474976710656
  scaled_high = omega (arith, (sizes d x dp dl xp xl).scaled_high)

  pub root_at_is : (n : ℕ) → n ≡ nearest_root (d * 2 ^ (count_leading_zeros 64 d + (x + count_leading_zeros 64 d + 1) % 2 - 17)) → (x + 165 - count_leading_zeros 64 d - (x + count_leading_zeros 64 d + 1) % 2) / 2 * 8388608 + n ≡ root_at d x
  unfolding root_at
  root_at_is n e = rw e

  pub root_at_lt : root_at d x < 2139095040
  unfolding root_at
  root_at_lt = let known = sizes d x dp dl xp xl in omega (arith, known)

-- what `root_bits` needs
pub ruleset root_sizes = (zeros_low, zeros_high, wide_is, wide_lt, scaled_is, scaled_low, scaled_high, root_at_is, root_at_lt)
