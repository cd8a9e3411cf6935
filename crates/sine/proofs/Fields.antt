-- tan of every `f32`: its range and its distance. Assumes nothing.
use mathlib.Core.Path.{◌≡◌, refl, sym, ap, ◌∙◌}
use mathlib.Core.Bool.{Bool, true, false, not, cond}
use Prim.Native.Nat.{ℕ, zero, suc, ◌+◌, ◌-◌, ◌*◌, ◌/◌, ◌%◌, ◌^◌, ◌≤◌, ◌<◌}
use native.Mathlib.Nat.{lt_of_lt_of_le, lt_of_le_of_lt, mul-pos, mul-le-mul, eq_of_mul-eq-mul_right}
use native.Mathlib.Omega.{arith}
use lib.IntN.{ℤ, pos, negsuc}
use lib.Dec.{T, leb, lit<, lit≤, lt→ltb, eqb→eq}
use lib.Pow.{pow_pos, pow-add}
use lib.Ieee.{Float, nan, inf, fin, binary32, up, down, lt, le, eq, fits, to_bits}
use lib.Ieee.Bits.{is_true, is_false}
use lib.Ieee.Fits.{down_pos, up_pos}
use Rattle.series.specs.Near.{Relative}
use Rattle.series.proofs.Algebra.{ac}
use Rattle.fixed.specs.Fixed.{size_of, pack_of, small}
use Rattle.fixed.proofs.Placed.{Told}
use Rattle.fixed.proofs.Packs.{packed}
use Rattle.sine.specs.Exact.{sine_num}
use Rattle.sine.specs.Sine.{one_five, tiny, up_to, ratio_of, tan_of, Tangent}
use Rattle.sine.proofs.Cases.{half_size, minus_zero, up_to_lem, under, not_under}
use Rattle.sine.proofs.Digits.{parts, field_above}
use Rattle.sine.proofs.Quotient.{ratio_low, ratio_high}
use Rattle.sine.proofs.Tangent.{x_le, tan_at, tan_own}

-- ---- the digits D of x = a / c and its exponent's field f
scaled : (a c D y X K W Q : ℕ) → 0 < X → K * X ≡ W * Q → a * W ≡ D * X * c → D * y * (c * Q) ≡ a * y * K
scaled a c D y X K W Q xp k e = eq_of_mul-eq-mul_right X xp (D * y * (c * Q)) (a * y * K) (simp ac (simp ac at (sym (ap (λ (z : ℕ). z * (y * Q)) e) ∙ f a W y Q K X k)))
  where
    f : (a W y Q K X : ℕ) → K * X ≡ W * Q → a * W * (y * Q) ≡ a * y * (K * X)
    f a W y Q K X k = rw k (simp ac)

powers : (f : ℕ) → 1 ≤ f → f ≤ 182 → 2 ^ (182 - f) * 2 ^ (f - 1) ≡ 2 ^ 149 * 4294967296
powers f l h = sym (pow-add 2 (182 - f) (f - 1)) ∙ ap (λ (i : ℕ). 2 ^ i) sum
  where
    sum : 182 - f + (f - 1) ≡ 181
    sum = omega arith

pub narrow_small : (x : Float) → T (up_to one_five x) → T (small x)
unfolding le lt eq small
narrow_small nan t = t
narrow_small (inf true) t = t
narrow_small (inf false) t = t
narrow_small (fin s m e) t = lt→ltb (m * up e) (128 * down e) (omega (arith, up_to_lem s m e one_five tt t, down_pos e))

module _ (s : Bool) (m : ℕ) (e : ℤ) (h : T (fits binary32 (fin s m e))) (t : T (up_to one_five (fin s m e))) (n : T (not (lt (fin s m e) tiny))) where
  abbrev x : Float
  x = fin s m e

  abbrev a : ℕ
  a = m * up e

  abbrev c : ℕ
  c = down e

  abbrev b : ℕ
  b = to_bits binary32 x

  abbrev f : ℕ
  f = b % 2147483648 / 8388608

  abbrev d : ℕ
  d = b % 8388608 + 8388608

  abbrev X : ℕ
  X = a * 4294967296 / c / 2

  low : c ≤ a * 16777216
  low = omega (arith, not_under s m e tiny tt n)

  told_parts : Told x (leb 2147483648 b) f (b % 8388608)
  told_parts = parts 16777216 (lit≤ tt) s m e h (narrow_small x t) low

  field_low : 62 ≤ f
  field_low = field_above 16777216 (lit≤ tt) s m e h (narrow_small x t) low 60 (lit< tt) (lit≤ tt)

  halved : (X * c ≤ a * 2147483648) × (a * 2147483648 < X * c + c)
  halved = half_size a c (down_pos e)

  top_is : 2 * a ≤ 3 * c
  top_is = omega (arith, up_to_lem s m e one_five tt t)

  big_x_le : X ≤ 3221225472
  big_x_le = x_le a c X (down_pos e) top_is halved.0 halved.1

  product_lt : d * ratio_of X < 18446744073709551616
  product_lt = lt_of_le_of_lt (mul-le-mul {n₂ = 16777216} (omega arith) (ratio_high X big_x_le)) (lit< tt)

  product_pos : 0 < d * ratio_of X
  product_pos = mul-pos {m = d} (omega arith) (lt_of_lt_of_le (lit< tt) (ratio_low X big_x_le))

  tan_pack : Relative 65536 (sine_num 0 a c) (sine_num 1 a c) (pack_of (d * ratio_of X) (182 - f))
  tan_pack =
      tan_at a c X (down_pos e) top_is halved.0 halved.1 (d * ratio_of X) (2 ^ (182 - f)) (pack_of (d * ratio_of X) (182 - f)) (pow_pos (182 - f))
      (packed (d * ratio_of X) (182 - f) product_lt product_pos (omega (arith, field_low)))
      (scaled a c d (ratio_of X) (2 ^ (f - 1)) (2 ^ (182 - f)) (2 ^ 149) 4294967296 (pow_pos (f - 1)) (powers f (omega (arith, field_low)) (omega (arith, told_parts.low))) told_parts.value.1)

-- ---- the distance
zero_tan : (s : Bool) (e : ℤ) → T (fits binary32 (fin s zero e)) → tan_of (fin s zero e) ≡ fin s zero e
unfolding fits tan_of le lt eq
zero_tan true (pos zero) h = refl
zero_tan false (pos zero) h = refl
zero_tan s (pos (suc k)) h = absurd (none (eqb→eq (2 ^ suc k * 1) 1 h))
  where
    none : 2 ^ suc k * 1 ≡ 1 → ⊥
    none z = omega (arith, pow_pos k)
zero_tan s (negsuc k) h = absurd (none (eqb→eq (1 * 2 ^ suc k) 1 h))
  where
    none : 1 * 2 ^ suc k ≡ 1 → ⊥
    none z = omega (arith, pow_pos k)

own_relative : (s : Bool) (m : ℕ) (e : ℤ) → T (up_to one_five (fin s (suc m) e)) → T (lt (fin s (suc m) e) tiny) → Relative 65536 (sine_num 0 (suc m * up e) (down e)) (sine_num 1 (suc m * up e) (down e)) (fin s (suc m) e)
own_relative true m e t l = absurd (none (minus_zero (suc m) e one_five t))
  where
    none : suc m * up e ≡ 0 → ⊥
    none z = omega (arith, mul-pos {m = suc m} (omega arith) (up_pos e))
own_relative false m e t l =
    let a = suc m * up e in
    let i = half_size a (down e) (down_pos e) in
    let o = tan_own a (down e) (a * 4294967296 / down e / 2) (down_pos e) (omega (arith, under false (suc m) e tiny one_five tt t l)) i.0 i.1 in
    (refl, o.0, o.1)

pub tan_near : (x : Float) → T (fits binary32 x) → Tangent x (tan_of x)
unfolding tan_of size_of le lt eq
tan_near nan h = refl
tan_near (inf true) h = refl
tan_near (inf false) h = refl
tan_near (fin s zero e) h = zero_tan s e h
tan_near (fin s (suc m) e) h = ((λ t. rw (is_true (up_to one_five (fin s (suc m) e)) t) (go t (lt (fin s (suc m) e) tiny) (λ l. l) (λ l. l))), (λ n. rw (is_false (up_to one_five (fin s (suc m) e)) n)))
  where
    go : T (up_to one_five (fin s (suc m) e)) → (b : Bool) → (T b → T (lt (fin s (suc m) e) tiny)) → (T (not b) → T (not (lt (fin s (suc m) e) tiny)))
        → Relative 65536 (sine_num 0 (suc m * up e) (down e)) (sine_num 1 (suc m * up e) (down e)) (cond b (fin s (suc m) e) (pack_of ((to_bits binary32 (fin s (suc m) e) % 8388608 + 8388608) * ratio_of (suc m * up e * 4294967296 / down e / 2)) (182 - to_bits binary32 (fin s (suc m) e) % 2147483648 / 8388608)))
    go t true l n = own_relative s m e t (l tt)
    go t false l n = tan_pack s (suc m) e h t (n tt)

-- ---- what the function asks, of the exponent's field f
pub record Ready (x : Float) (f : ℕ) : Type 0 where
  pub angle : size_of x / 2 ≤ 3221225472
  pub field : 62 ≤ f
  pub below : f ≤ 133

pub ready : (x : Float) → T (fits binary32 x) → T (up_to one_five x) → T (not (lt x tiny)) → (f : ℕ) → f ≡ to_bits binary32 x % 2147483648 / 8388608 → Ready x f
unfolding le lt eq size_of
ready nan h t n f e = absurd t
ready (inf true) h t n f e = absurd t
ready (inf false) h t n f e = absurd t
ready (fin s m i) h t n f e = rw e record { angle = big_x_le s m i h t n; field = field_low s m i h t n; below = (told_parts s m i h t n).low }
