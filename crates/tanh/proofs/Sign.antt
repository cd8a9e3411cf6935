-- The sign put back: nearness, oddness and the bound 1 go over from the curve of the size to the curve. Assumes nothing.
use mathlib.Core.Path.{◌≡◌, refl, sym, ap, ◌∙◌}
use mathlib.Core.Logic.{◌⊎◌, inl, inr}
use mathlib.Core.Bool.{Bool, true, false, not, true≢false}
use Prim.Native.Nat.{ℕ, zero, suc, ◌+◌, ◌-◌, ◌*◌, ◌^◌, ◌≤◌, ◌<◌}
use native.Mathlib.Nat.{le_trans, le_of_eq, eq-or-lt_of_le, mul_comm, mul-pos, add_comm, mul-le-mul_right, le_of_mul-le-mul_right}
use native.Mathlib.Omega.{arith}
use lib.IntN.{ℤ, pos, negsuc}
use lib.Dec.{T, ltb, lt→ltb, lit<}
use lib.Arith.{le→nltb}
use lib.Pow.{pow_pos}
use lib.Ieee.{Float, nan, inf, fin, up, down, lt, le, ne, eq, neg, is_nan}
use lib.Ieee.Bits.{is_true, is_false}
use lib.Ieee.Exact.{HasValue}
use Rattle.series.specs.Near.{Absolute}
use Rattle.fixed.specs.Fixed.{with_sign}
use Rattle.fixed.proofs.Fields.{down_pos}
use Rattle.fixed.proofs.Order.{le_make, same_number}
use Rattle.power.specs.Power.{zero_f}
use Rattle.tanh.specs.Tanh.{one, tiny, above_of, tanh_of}
use Rattle.tanh.proofs.Pair.{lesser, greater}

-- x / w is at most 1 / 2 ^ 18 from (Y - X) / (Y + X)
pub record Close (X Y x w : ℕ) : Type 0 where
  pub over : (B Z : ℕ) → B + X ≡ Y → X + Y ≡ Z → 262144 * (x * Z) ≤ 262144 * (B * w) + Z * w
  pub under : (B Z : ℕ) → B + X ≡ Y → X + Y ≡ Z → 262144 * (B * w) ≤ 262144 * (x * Z) + Z * w

pub signed : (s : Bool) (N D m : ℕ) (e : ℤ) → lesser s N D ≤ greater s N D → Close (lesser s N D) (greater s N D) (m * up e) (down e)
    → Absolute (2 ^ 18) (ltb N D) (N - D + (D - N)) (N + D) (with_sign s (fin false m e))
signed false N D m e h k =
    let B = N - D + (D - N) in
    rw (is_false (ltb N D) (le→nltb N D h)) (k.over B (N + D) (omega arith) (add_comm D N), k.under B (N + D) (omega arith) (add_comm D N))
signed true N D m e h k = unfold neg in go (eq-or-lt_of_le h)
  where
    flat : N ≡ D → N - D + (D - N) ≡ 0
    flat z = omega arith

    go : (N ≡ D) ⊎ (N < D) → Absolute (2 ^ 18) (ltb N D) (N - D + (D - N)) (N + D) (fin true m e)
    go (inl z) =
        let f = k.over (N - D + (D - N)) (N + D) (omega arith) refl in
        rw (is_false (ltb N D) (le→nltb N D (omega arith))) (omega (arith, f, ap (λ (b : ℕ). b * down e) (flat z)))
    go (inr l) = rw (is_true (ltb N D) (lt→ltb N D l)) (k.over (N - D + (D - N)) (N + D) (omega arith) refl, k.under (N - D + (D - N)) (N + D) (omega arith) refl)

-- ---- the curve is that of the size, with the sign
up_pos : (e : ℤ) → 0 < up e
up_pos (pos k) = pow_pos k
up_pos (negsuc k) = lit< tt

not_below : (m : ℕ) (e : ℤ) → T (not (lt (fin false m e) zero_f))
unfolding lt
not_below m e = le→nltb (m * up e * 1) (0 * 1 * down e) (omega arith)

zero_not_below : (e : ℤ) → T (not (lt (fin true 0 e) zero_f))
unfolding lt
zero_not_below e = le→nltb 0 (0 * up e * 1 + 0 * 1 * down e) (omega arith)

zero_tiny : (s : Bool) (e : ℤ) → T (lt (fin s 0 e) tiny)
unfolding lt
zero_tiny true e = lt→ltb 0 (0 * up e * 1024 + 1 * 1 * down e) (omega (arith, down_pos e))
zero_tiny false e = lt→ltb (0 * up e * 1024) (1 * 1 * down e) (omega (arith, down_pos e))

below_zero : (m : ℕ) (e : ℤ) → T (lt (fin true (suc m) e) zero_f)
unfolding lt
below_zero m e = lt→ltb 0 (suc m * up e * 1 + 0 * 1 * down e) (omega (arith, mul-pos {m = suc m} (omega arith) (up_pos e)))

zero_is : (s : Bool) (e : ℤ) → above_of (fin s 0 e) ≡ fin s 0 e
unfolding above_of
zero_is s e = rw (is_true (lt (fin s 0 e) tiny) (zero_tiny s e))

number : (s : Bool) (m : ℕ) (e : ℤ) → ne (fin s m e) (fin s m e) ≡ false
number s m e = same_number (fin s m e) (unfold is_nan in tt)

pub tanh_is : (s : Bool) (m : ℕ) (e : ℤ) → tanh_of (fin s m e) ≡ with_sign s (above_of (fin false m e))
unfolding tanh_of neg
tanh_is false m e = rw (number false m e, is_false (lt (fin false m e) zero_f) (not_below m e))
tanh_is true zero e = rw (number true 0 e, is_false (lt (fin true 0 e) zero_f) (zero_not_below e), zero_is true e, zero_is false e)
tanh_is true (suc m) e = rw (number true (suc m) e, is_true (lt (fin true (suc m) e) zero_f) (below_zero m e))

neg_neg : (x : Float) → x ≡ neg (neg x)
unfolding neg
neg_neg nan = refl
neg_neg (inf true) = refl
neg_neg (inf false) = refl
neg_neg (fin true m e) = refl
neg_neg (fin false m e) = refl

pub tanh_odd : (x : Float) → tanh_of (neg x) ≡ neg (tanh_of x)
tanh_odd nan = unfold tanh_of neg ne eq in refl
tanh_odd (inf true) = unfold tanh_of above_of neg ne eq lt le in refl
tanh_odd (inf false) = unfold tanh_of above_of neg ne eq lt le in refl
tanh_odd (fin true m e) = unfold neg in tanh_is false m e ∙ neg_neg (above_of (fin false m e)) ∙ ap neg (sym (tanh_is true m e))
tanh_odd (fin false m e) = unfold neg in tanh_is true m e ∙ ap neg (sym (tanh_is false m e))

-- ---- never beyond 1
small_value : (n d a c : ℕ) → 0 < c → n * c ≡ a * d → a ≤ c → n ≤ d
small_value n d a c cp e h = le_of_mul-le-mul_right {k = c} (le_trans (le_of_eq e) (le_trans (mul-le-mul_right d h) (le_of_eq (mul_comm c d)))) cp

pub bounded : (s : Bool) (r : Float) (a c : ℕ) → 0 < c → HasValue r false a c → a ≤ c → T (le (fin true 1 (pos 0)) (with_sign s r)) × T (le (with_sign s r) one)
unfolding neg
bounded s nan a c cp v h = absurd v
bounded s (inf t) a c cp v h = absurd v
bounded s (fin true n i) a c cp v h = absurd (true≢false v.0)
bounded true (fin false n i) a c cp v h = let g = small_value (n * up i) (down i) a c cp v.1 h in (le_make true 1 (pos 0) true n i (omega arith), le_make true n i false 1 (pos 0) tt)
bounded false (fin false n i) a c cp v h = let g = small_value (n * up i) (down i) a c cp v.1 h in (le_make true 1 (pos 0) false n i tt, le_make false n i false 1 (pos 0) (omega arith))
