-- What `place` and `size_at` compute, on numbers alone: d * 2 ^ (x - 94) is d's number in Q56, which is whole. Assumes nothing.
use mathlib.Core.Path.{◌≡◌, sym, ap, ◌∙◌}
use Prim.Native.Nat.{ℕ, ◌+◌, ◌-◌, ◌*◌, ◌/◌, ◌%◌, ◌^◌, ◌≤◌, ◌<◌}
use mathlib.Core.Bool.{Bool, true, false, cond, not}
use native.Mathlib.Nat.{lt_of_lt_of_le, div-eq_of_lt, mul_assoc}
use native.Mathlib.Omega.{arith}
use lib.Dec.{T, ltb, lit<, lt→ltb, ltb→lt, nltb→le}
use lib.Pow.{pow_pos, pow-add, pow_mono, shl_exact, shl_lt}
use lib.Ieee.Bits.{is_true}
use lib.Ieee.Nearest.{div_same}
use Rattle.series.proofs.Algebra.{ac, sub_mul}
use Rattle.fixed.specs.Fixed.{shifted, place_at, size_at}

-- a shift loses nothing
pub whole_is : (x d : ℕ) → x ≤ 133 → d < 16777216 → d * 2 ^ (x - 94) % 18446744073709551616 ≡ d * 2 ^ (x - 94)
whole_is x d h k = shl_exact {a = d} 24 (x - 94) 64 k (omega arith)

pub whole_small : (x d : ℕ) → x ≤ 133 → d < 16777216 → d * 2 ^ (x - 94) < 9223372036854775808
whole_small x d h k = lt_of_lt_of_le (shl_lt 24 (x - 94) k) (pow_mono {j = 63} (omega arith))

-- the two powers, for a number with a fraction and for a whole one
lower : (x : ℕ) → 94 ≤ x → x < 118 → 2 ^ (x - 94) * 2 ^ (118 - x) ≡ 16777216
lower x l h = sym (pow-add 2 (x - 94) (118 - x)) ∙ ap (λ (i : ℕ). 2 ^ i) sum
  where
    sum : x - 94 + (118 - x) ≡ 24
    sum = omega arith

upper : (x : ℕ) → 118 ≤ x → 2 ^ (x - 94) ≡ 2 ^ (x - 118) * 16777216
upper x h = ap (λ (i : ℕ). 2 ^ i) sum ∙ pow-add 2 (x - 118) 24
  where
    sum : x - 94 ≡ x - 118 + 24
    sum = omega arith

size_mid : (d L K : ℕ) → 0 < K → L * K ≡ 16777216 → d * L / 16777216 ≡ d / K
size_mid d L K p e = div_same (d * L) 16777216 d K (lit< tt) p (mul_assoc d L K ∙ ap (λ (z : ℕ). d * z) e)

size_far : (d L Y : ℕ) → L ≡ Y * 16777216 → d * L / 16777216 ≡ d * Y
size_far d L Y e = let h : d * L ≡ d * Y * 16777216 = ap (λ (z : ℕ). d * z) e ∙ sym (mul_assoc d Y 16777216) in omega arith

pub size_whole : (x d : ℕ) → 94 ≤ x → d * 2 ^ (x - 94) / 16777216 ≡ size_at x d
unfolding size_at
size_whole x d l = go (ltb x 118) (λ t. ltb→lt x 118 t) (λ t. nltb→le x 118 t)
  where
    go : (b : Bool) → (T b → x < 118) → (T (not b) → 118 ≤ x) → d * 2 ^ (x - 94) / 16777216 ≡ cond b (d / 2 ^ (118 - x)) (d * 2 ^ (x - 118))
    go true y n = size_mid d (2 ^ (x - 94)) (2 ^ (118 - x)) (pow_pos (118 - x)) (lower x l (y tt))
    go false y n = size_far d (2 ^ (x - 94)) (2 ^ (x - 118)) (upper x (n tt))

-- 2 ^ 63 ± a, which is 128 ± a in Q56
abbrev around : Bool → ℕ → ℕ
around true a = 9223372036854775808 - a
around false a = 9223372036854775808 + a

place_mid : (s : Bool) (d L K : ℕ) → 0 < K → L * K ≡ 16777216 → around s (d * L) / 16777216 ≡ shifted s d (4294967296 * K) / K
place_mid s d L K p e = div_same (around s (d * L)) 16777216 (shifted s d (4294967296 * K)) K (lit< tt) p (same s)
  where
    product : d * L * K ≡ d * 16777216
    product = mul_assoc d L K ∙ ap (λ (z : ℕ). d * z) e

    same : (s : Bool) → around s (d * L) * K ≡ shifted s d (4294967296 * K) * 16777216
    same true =
        let u : 9223372036854775808 * K ≡ 128 * (4294967296 * K) * 16777216 = omega arith in
        rw (sub_mul 9223372036854775808 (d * L) K, sub_mul (128 * (4294967296 * K)) d 16777216, product, u)
    same false = simp ac (omega (arith, simp ac at product))

place_far : (s : Bool) (d L Y : ℕ) → L ≡ Y * 16777216 → around s (d * L) / 16777216 ≡ shifted s (d * Y) 4294967296
place_far true d L Y e = let h : d * L ≡ d * Y * 16777216 = ap (λ (z : ℕ). d * z) e ∙ sym (mul_assoc d Y 16777216) in omega arith
place_far false d L Y e = let h : d * L ≡ d * Y * 16777216 = ap (λ (z : ℕ). d * z) e ∙ sym (mul_assoc d Y 16777216) in omega arith

place_whole : (s : Bool) (x d : ℕ) → 94 ≤ x → around s (d * 2 ^ (x - 94)) / 16777216 ≡ place_at s x d
unfolding place_at
place_whole s x d l = go (ltb x 118) (λ t. ltb→lt x 118 t) (λ t. nltb→le x 118 t)
  where
    go : (b : Bool) → (T b → x < 118) → (T (not b) → 118 ≤ x) → around s (d * 2 ^ (x - 94)) / 16777216 ≡ cond b (shifted s d (4294967296 * 2 ^ (118 - x)) / 2 ^ (118 - x)) (shifted s (d * 2 ^ (x - 118)) 4294967296)
    go true y n = place_mid s d (2 ^ (x - 94)) (2 ^ (118 - x)) (pow_pos (118 - x)) (lower x l (y tt))
    go false y n = place_far s d (2 ^ (x - 94)) (2 ^ (x - 118)) (upper x (n tt))

pub place_minus : (x d : ℕ) → 94 ≤ x → (9223372036854775808 - d * 2 ^ (x - 94)) / 16777216 ≡ place_at true x d
place_minus = place_whole true

pub place_plus : (x d : ℕ) → 94 ≤ x → (9223372036854775808 + d * 2 ^ (x - 94)) / 16777216 ≡ place_at false x d
place_plus = place_whole false

-- ---- a number below 2 ^ -32
tiny : (x d : ℕ) → x < 94 → d < 16777216 → d < 2 ^ (118 - x)
tiny x d h k = lt_of_lt_of_le k (pow_mono {i = 24} (omega arith))

pub size_tiny : (x d : ℕ) → x < 94 → d < 16777216 → 0 ≡ size_at x d
unfolding size_at
size_tiny x d h k = rw (is_true (ltb x 118) (lt→ltb x 118 (omega arith))) (sym (div-eq_of_lt (tiny x d h k)))

-- what `Parts::whole` and `Parts::place` need
pub ruleset wholes = (whole_is, whole_small)

pub ruleset places = (place_minus, place_plus)
