-- The two-power of a whole number is exact: its rest is 0, so that its digits are 2 ^ 23. Assumes nothing.
use mathlib.Core.Path.{◌≡◌, refl, sym, ap, ◌∙◌}
use mathlib.Core.Bool.{Bool, true, false}
use Prim.Native.Nat.{ℕ, ◌+◌, ◌-◌, ◌*◌, ◌/◌, ◌%◌, ◌^◌, ◌≤◌, ◌<◌}
use native.Mathlib.Nat.{add-mul, mul_right_comm, mul-div_cancel, mul-mod_left, zero-add, mod-add-div', eq_of_mul-eq-mul_right, lt_of_mul-lt-mul_right, le_of_mul-le-mul_right}
use native.Mathlib.Omega.{arith}
use lib.Dec.{lit<}
use lib.Pow.{pow_pos, pow-add}
use lib.Ieee.Exact.{HasValue}
use Rattle.series.specs.Horner.{horner}
use Rattle.series.proofs.Algebra.{ac, sub_mul}
use Rattle.fixed.specs.Fixed.{shifted}
use Rattle.fixed.proofs.Fields.{value_other}
use Rattle.power.specs.Exact.{sum_den, two_num, two_den}
use Rattle.power.specs.Power.{fraction_of, power_of}
use Rattle.power.proofs.Numbers.{P}
use Rattle.power.proofs.TwoPower.{two_at, two_at_is}
use Rattle.power.proofs.Moves.{sum_den_pos, sum_zero}
use Rattle.power.proofs.Signs.{two_shifted}
use Rattle.power.proofs.Rounding.{digits, power_value}

digits_zero : digits 0 ≡ 8388608
unfolding fraction_of horner
digits_zero = refl

-- ± n c / c + 128
places : (s : Bool) (n c : ℕ) → shifted s (n * c) c ≡ shifted s n 1 * c
places true n c = sym (sub_mul 128 n c)
places false n c = sym (add-mul 128 n c)

value_at : (j : ℕ) → 2 ≤ j → j < 255 → HasValue (power_of (j * P)) false (8388608 * 2 ^ (j - 1)) (2 ^ 150)
value_at j l h = rw (mul-mod_left j P, mul-div_cancel j {n = P} (lit< tt), digits_zero) at (power_value (j * P) (omega arith) (omega arith))

cancel : (t x F D X : ℕ) → 0 < D → t * (F * D) ≡ X * D * x → t * F ≡ X * x
cancel t x F D X dp e = eq_of_mul-eq-mul_right D dp (t * F) (X * x) (simp ac (simp ac at e))

lift : (t x F W X Y : ℕ) → X ≡ 2 * Y → t * F ≡ X * x → t * (F * W) ≡ 2 * W * Y * x
lift t x F W X Y e k = simp ac (simp ac at (ap (λ (z : ℕ). z * W) (k ∙ ap (λ (z : ℕ). z * x) e)))

pub whole : (s : Bool) (a c : ℕ) → 0 < c → 2 * c ≤ shifted s a c → shifted s a c < 255 * c → a ≤ 128 * c → a % c ≡ 0 → HasValue (power_of (shifted s a c * P / c)) false (two_num s a c) (two_den s a c)
whole s a c cp lo hi al z =
    let j = shifted s (a / c) 1 in
    let a-is : a / c * c ≡ a = sym (zero-add (a / c * c)) ∙ ap (λ (r : ℕ). r + a / c * c) (sym z) ∙ mod-add-div' a c in
    let A-is : shifted s a c ≡ j * c = ap (λ (x : ℕ). shifted s x c) (sym a-is) ∙ places s (a / c) c in
    let w-is : shifted s a c * P / c ≡ j * P = ap (λ (x : ℕ). x * P / c) A-is ∙ ap (λ (x : ℕ). x / c) (mul_right_comm j c P) ∙ mul-div_cancel (j * P) cp in
    let j-lo : 2 ≤ j = le_of_mul-le-mul_right {k = c} (rw A-is at lo) cp in
    let j-hi : j < 255 = lt_of_mul-lt-mul_right c (rw A-is at hi) in
    let u_is : two_at c (shifted s a c) ≡ 2 ^ j * sum_den c = ap (two_at c) A-is ∙ two_at_is c 0 j (j * c) cp cp (zero-add (j * c)) ∙ ap (λ (x : ℕ). 2 ^ j * x) (sum_zero c) in
    let back : j ≡ 1 + (j - 1) = omega arith in
    rw w-is
    (value_other (power_of (j * P)) false (8388608 * 2 ^ (j - 1)) (2 ^ 150) (two_num s a c) (two_den s a c) (pow_pos 150)
    (lift (two_num s a c) (two_den s a c) (2 ^ 128) 4194304 (2 ^ j) (2 ^ (j - 1)) (ap (λ (i : ℕ). 2 ^ i) back ∙ pow-add 2 1 (j - 1))
    (cancel (two_num s a c) (two_den s a c) (2 ^ 128) (sum_den c) (2 ^ j) (sum_den_pos c cp) (two_shifted s a c cp al ∙ ap (λ (x : ℕ). x * two_den s a c) u_is)))
    (value_at j j-lo j-hi))
