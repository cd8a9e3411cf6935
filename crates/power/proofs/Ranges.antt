-- What the code of the curves needs of its numbers: they fit, and a product in two parts is the product. Assumes nothing.
use mathlib.Core.Path.{◌≡◌, sym, ap, ◌∙◌}
use mathlib.Core.Bool.{true, false}
use Prim.Native.Nat.{ℕ, ◌+◌, ◌*◌, ◌/◌, ◌%◌, ◌≤◌, ◌<◌}
use native.Mathlib.Nat.{le_trans, le_of_lt, add-mul, mul_right_comm, mul-le-mul, mul-le-mul_right, le_of_mul-le-mul_right, div-mul-le_self, add-mul-div_right, mod-add-div', add_comm}
use native.Mathlib.Omega.{arith}
use lib.Dec.{T, lt→ltb, lit<, lit≤}
use lib.Pow.{shr-shr}
use lib.Ieee.{Float, nan, inf, fin, up, down, lt, le, eq}
use Rattle.series.specs.Horner.{horner}
use Rattle.fixed.specs.Fixed.{small, place_of, size_of}
use Rattle.fixed.proofs.Fields.{down_pos}
use Rattle.power.specs.Power.{zero_f, exp2_low, exp2_high, exp_low, ten_low, ten_high, log2_e, log2_ten, coefs, product_of}
use Rattle.power.proofs.Reduction.{spot_lo, spot_hi, product_small}
use Rattle.power.proofs.Curves.{exp2_lo, exp2_hi, exp_size, ten_size}

-- Horner's steps: the products of the last digits with each sum
pub steps : (k p₂ p₁ p : ℕ) → p₂ ≡ 7275 * k / 4294967296 → p₁ ≡ (1007582 + p₂) * k / 4294967296 → p ≡ (93032639 + p₁) * k / 4294967296 → 4294967296 + p ≡ horner 4294967296 coefs k
unfolding horner
steps k p₂ p₁ p e₂ e₁ e = rw (e, e₁, e₂) (ap (λ (z : ℕ). 4294967296 + (93032639 + (1007582 + z * k / 4294967296) * k / 4294967296) * k / 4294967296) last)
  where
    last : 7275 ≡ 7275 + 0 * k / 4294967296
    last = omega arith

pub product_room : (v k : ℕ) → v ≤ 1099511627776 → k < 17179869184 → (v / 65536 * k ≤ 288230376151711744) × (v % 65536 * k ≤ 1125899906842624)
product_room v k h l = (mul-le-mul {n₂ = 16777216} (omega arith) (le_of_lt l), mul-le-mul {n₂ = 65536} (omega arith) (le_of_lt l))

pub product_parts : (v k : ℕ) → (v / 65536 * k + v % 65536 * k / 65536) / 65536 ≡ v * k / 4294967296
product_parts v k = ap (λ (z : ℕ). z / 65536) (add_comm (v / 65536 * k) (v % 65536 * k / 65536) ∙ sym first) ∙ shr-shr (v * k) 16 16
  where
    whole : v * k ≡ v % 65536 * k + v / 65536 * k * 65536
    whole = ap (λ (z : ℕ). z * k) (sym (mod-add-div' v 65536)) ∙ add-mul (v % 65536) (v / 65536 * 65536) k ∙ ap (λ (z : ℕ). v % 65536 * k + z) (mul_right_comm (v / 65536) 65536 k)

    first : v * k / 65536 ≡ v % 65536 * k / 65536 + v / 65536 * k
    first = ap (λ (z : ℕ). z / 65536) whole ∙ add-mul-div_right (v % 65536 * k) (v / 65536 * k) (lit< tt)

-- ---- where the argument is taken apart
pub exp2_room : (t : Float) → T (le exp2_low t) → T (lt t exp2_high) → (8589934592 ≤ place_of t) × (place_of t < 1095216660480)
unfolding place_of lt le eq
exp2_room nan h k = absurd k
exp2_room (inf true) h k = absurd h
exp2_room (inf false) h k = absurd k
exp2_room (fin s m e) h k =
    let lo = exp2_lo s m e h in
    let hi = exp2_hi s m e k in
    (spot_lo s (m * up e) (down e) (down_pos e) lo hi, spot_hi s (m * up e) (down e) (down_pos e) lo hi)

-- what a base's product leaves room for
pub record Room (t : Float) (k : ℕ) : Type 0 where
  pub narrow : T (small t)
  pub size : size_of t ≤ 549755813888
  pub product : product_of (size_of t) k ≤ 541165879296

size_le : (B a c : ℕ) → 0 < c → B ≤ 40 → a ≤ B * c → a * 4294967296 / c ≤ 549755813888
size_le B a c cp h al = le_of_mul-le-mul_right {k = c} (le_trans (div-mul-le_self (a * 4294967296) c) (omega (arith, mul-le-mul_right c h))) cp

small_lt : (B a c : ℕ) → 0 < c → B ≤ 40 → a ≤ B * c → a < 128 * c
small_lt B a c cp h al = omega (arith, mul-le-mul_right c h)

pub exp_room : (t : Float) → T (le exp_low t) → T (le t zero_f) → Room t log2_e
unfolding small size_of lt le eq
exp_room nan h k = absurd k
exp_room (inf true) h k = absurd h
exp_room (inf false) h k = absurd k
exp_room (fin s m e) h k =
    let al = exp_size s m e h k in
    record {
      narrow = lt→ltb (m * up e) (128 * down e) (small_lt 3 (m * up e) (down e) (down_pos e) (lit≤ tt) al);
      size = size_le 3 (m * up e) (down e) (down_pos e) (lit≤ tt) al;
      product = product_small 144269504088896 log2_e 3 (lit≤ tt) (lit≤ tt) (lit≤ tt) (lit≤ tt) (lit≤ tt) (m * up e) (down e) (down_pos e) al;
    }

pub ten_room : (t : Float) → T (le ten_low t) → T (le t ten_high) → Room t log2_ten
unfolding small size_of lt le eq
ten_room nan h k = absurd k
ten_room (inf true) h k = absurd h
ten_room (inf false) h k = absurd k
ten_room (fin s m e) h k =
    let al = ten_size s m e h k in
    record {
      narrow = lt→ltb (m * up e) (128 * down e) (small_lt 37 (m * up e) (down e) (down_pos e) (lit≤ tt) al);
      size = size_le 37 (m * up e) (down e) (down_pos e) (lit≤ tt) al;
      product = product_small 332192809488736 log2_ten 37 (lit≤ tt) (lit≤ tt) (lit≤ tt) (lit≤ tt) (lit≤ tt) (m * up e) (down e) (down_pos e) al;
    }
