-- The value of a pattern by its fields, as a fraction over 2 ^ 149. Assumes nothing.
use mathlib.Core.Path.{◌≡◌, sym, ap, ◌∙◌, subst}
use mathlib.Core.Bool.{Bool, true, false, cond, not}
use mathlib.Core.Logic.{◌⊎◌, inl, inr}
use Prim.Native.Nat.{ℕ, suc, ◌+◌, ◌-◌, ◌*◌, ◌/◌, ◌%◌, ◌^◌, ◌≤◌, ◌<◌}
use native.Mathlib.Nat.{eq-or-lt_of_le, eq_of_mul-eq-mul_right}
use native.Mathlib.Omega.{arith}
use lib.IntN.{ℤ}
use lib.Dec.{T, leb, eqb, eqb→eq, not_T, lit<, lit≤}
use lib.Arith.{lt→nleb, le→nltb}
use lib.Pow.{pow_pos}
use lib.Ieee.{Float, inf, nan, fin, binary32, up, down, of_bits, of_fields, odd, nan_bits, fits}
use lib.Ieee.Bits.{cond_no, is_false, nan_bits_above}
use lib.Ieee.Exact.{HasValue, odd_sign}
use Rattle.series.proofs.Algebra.{ac}

pub down_pos : (e : ℤ) → 0 < down e
down_pos (ℤ.pos k) = lit< tt
down_pos (ℤ.negsuc k) = pow_pos (suc k)

-- a subnormal's fields, and a normal number's
pub zero_field : (s : Bool) (t : ℕ) → HasValue (of_fields binary32 s 0 t) s (t * 2 ^ 0) (2 ^ 149)
unfolding of_fields
zero_field s t = odd_sign 24 s t 0 149

pub some_field : (s : Bool) (x t : ℕ) → x < 254 → HasValue (of_fields binary32 s (suc x) t) s ((8388608 + t) * 2 ^ x) (2 ^ 149)
unfolding of_fields
some_field s x t h =
    subst (λ (v : Float). HasValue v s ((8388608 + t) * 2 ^ x) (2 ^ 149))
    (sym (cond_no (eqb (suc x) 255) (cond (eqb t 0) (inf s) nan) (odd 24 s (8388608 + t) x 149) (not_T (eqb (suc x) 255) (λ u. ne (eqb→eq (suc x) 255 u)))))
    (odd_sign 24 s (8388608 + t) x 149)
  where
    ne : suc x ≡ 255 → ⊥
    ne e = omega arith

-- a pattern put together from an exponent and 24 digits q
pub pattern : (x q : ℕ) → x < 254 → 8388608 ≤ q → q < 16777216 → HasValue (of_bits binary32 (x * 8388608 + q)) false (q * 2 ^ x) (2 ^ 149)
unfolding of_bits
pattern x q h lo hi =
    let b = x * 8388608 + q in
    let e₁ : leb 2147483648 b ≡ false = is_false (leb 2147483648 b) (lt→nleb 2147483648 b (omega arith)) in
    let e₂ : b % 2147483648 / 8388608 ≡ suc x = omega arith in
    let e₃ : b % 8388608 ≡ q - 8388608 = omega arith in
    let e₄ : 8388608 + (q - 8388608) ≡ q = omega arith in
    rw (e₁, e₂, e₃, e₄) (rw e₄ at (some_field false x (q - 8388608) h))

-- a carry into the exponent, at q = 2 ^ 24, does no harm
pub pattern_carry : (x q : ℕ) → x < 253 → 8388608 ≤ q → q ≤ 16777216 → HasValue (of_bits binary32 (x * 8388608 + q)) false (q * 2 ^ x) (2 ^ 149)
pattern_carry x q h lo hi = go (eq-or-lt_of_le hi)
  where
    bits : x * 8388608 + 16777216 ≡ suc x * 8388608 + 8388608
    bits = omega arith

    value : 8388608 * 2 ^ suc x ≡ 16777216 * 2 ^ x
    value = omega arith

    go : (q ≡ 16777216) ⊎ (q < 16777216) → HasValue (of_bits binary32 (x * 8388608 + q)) false (q * 2 ^ x) (2 ^ 149)
    go (inl e) = rw e (rw (← bits, value) at (pattern (suc x) 8388608 (omega arith) (lit≤ tt) (lit< tt)))
    go (inr l) = pattern x q (omega arith) lo l

-- no pattern of a finite or infinite value of plus sign is a NaN's
pub bits_no_nan : (n : ℕ) → n < 2139095040 → T (not (nan_bits binary32 n))
bits_no_nan n h = rw (nan_bits_above binary32 n) (le→nltb 2139095040 (n % 2147483648) (omega arith))

scale_eq : (n d w l num den : ℕ) → 0 < l → num * l ≡ w * den → n * l ≡ w * d → n * den ≡ num * d
scale_eq n d w l num den p h v = eq_of_mul-eq-mul_right l p (n * den) (num * d) (simp ac (simp ac at (ap (λ (z : ℕ). z * den) v ∙ turn w d den ∙ ap (λ (z : ℕ). z * d) (sym h))))
  where
    turn : (w d den : ℕ) → w * d * den ≡ w * den * d
    turn w d den = simp ac

-- the same value as another fraction
pub value_other : (x : Float) (s : Bool) (w l num den : ℕ) → 0 < l → num * l ≡ w * den → HasValue x s w l → HasValue x s num den
value_other nan s w l num den p h v = v
value_other (inf t) s w l num den p h v = v
value_other (fin t m e) s w l num den p h v = (v.0, scale_eq (m * up e) (down e) w l num den p h v.1)

-- a choice of two floats of the format is one
pub cond_fits : (b : Bool) (x y : Float) → T (fits binary32 x) → T (fits binary32 y) → T (fits binary32 (cond b x y))
cond_fits true x y h k = h
cond_fits false x y h k = k
