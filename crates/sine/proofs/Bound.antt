-- The sine in fixed point is at most 1.008: z - z³ / 6 + z⁵ / 120 is at most z - k z³ within a quarter turn, and z³ + 2 w³ ≥ 3 z w² at w = 3 / 2. Assumes nothing.
use mathlib.Core.Path.{◌≡◌, subst}
use mathlib.Core.Bool.{Bool, true, false, not}
use mathlib.Core.List.{List}
use Prim.Native.Nat.{ℕ, ◌+◌, ◌-◌, ◌*◌, ◌/◌, ◌≤◌, ◌<◌}
use native.Mathlib.Nat.{le_dest, le_of_lt, le_trans, mul-le-mul, mul-le-mul_left, mul-le-mul_right, div-le_of_le-mul, lt-div-mul-add, le_of_mul-le-mul_right, sub-add_cancel}
use native.Mathlib.Omega.{arith}
use lib.Dec.{T, leb, leb→le, nleb→lt, lit<, lit≤}
use Rattle.series.proofs.Algebra.{ac}
use Rattle.sine.specs.Sine.{quarter31, sinc_of, sine_fix}
use Rattle.sine.proofs.Nested.{nested, head, tail, nested_le}
use Rattle.sine.proofs.Pairs.{terms, pairs_near}

cubic : (z w : ℕ) → 3 * z * (w * w) ≤ z * z * z + 2 * (w * w * w)
cubic z w = go (leb z w) (leb→le z w) (nleb→lt z w)
  where
    less : (z k : ℕ) → 3 * z * ((z + k) * (z + k)) ≤ z * z * z + 2 * ((z + k) * (z + k) * (z + k))
    less z k = omega arith

    more : (w k : ℕ) → 3 * (w + k) * (w * w) ≤ (w + k) * (w + k) * (w + k) + 2 * (w * w * w)
    more w k = omega arith

    go : (b : Bool) → (T b → z ≤ w) → (T (not b) → w < z) → 3 * z * (w * w) ≤ z * z * z + 2 * (w * w * w)
    go true y n = let k = le_dest (y tt) in subst (λ (x : ℕ). 3 * z * (x * x) ≤ z * z * z + 2 * (x * x * x)) k.1 (less z k.0)
    go false y n = let k = le_dest (le_of_lt (n tt)) in subst (λ (x : ℕ). 3 * x * (w * w) ≤ x * x * x + 2 * (w * w * w)) k.1 (more w k.0)

-- with z y for the sine, y + u v for 1 and v for z²
step : (z y v u k w P : ℕ) → y * P + u * v ≤ P * P + P → k ≤ u → z * z ≤ v * P + P → z * y * (P * P) + 3 * k * (w * w) * z ≤ (P * P * P + P * P + k * P) * z + 2 * k * (w * w * w)
step z y v u k w P h₁ h₂ h₃ =
    simp ac (omega (arith, simp ac at (mul-le-mul_right (z * P) h₁), simp ac at (mul-le-mul_right (v * z * P) h₂), simp ac at (mul-le-mul_right (k * z) h₃), simp ac at (mul-le-mul_right k (cubic z w))))

at_end : (t a s g c z e : ℕ) → t + a * z ≤ s * z + e → s ≤ a + g → z ≤ c → t ≤ g * c + e
at_end t a s g c z e h k l =
    let x = mul-le-mul_right z k in
    let y = mul-le-mul_left g l in
    omega arith

abbrev P : ℕ
P = 4294967296

top_step : (y r u v : ℕ) → y + r ≡ P → u * v ≤ r * P + P → y * P + u * v ≤ P * P + P
top_step y r u v e h = omega arith

-- the series from its second coefficient on
abbrev rest : List ℕ
rest = tail terms

second_step : (y v : ℕ) → y ≤ head (tail rest) → v ≤ 2649351758 → 2510064631 ≤ head rest - y * v / P
second_step y v h k = omega (arith, mul-le-mul h k)

rest_low : (v : ℕ) → v ≤ 2649351758 → 2510064631 ≤ nested P rest v
unfolding nested
rest_low v h = second_step (nested P (tail rest) v) v (nested_le P (tail rest) v) h

rest_small : (v : ℕ) → v ≤ P → nested P rest v * v / P ≤ P
rest_small v h = div-le_of_le-mul P (mul-le-mul {n₂ = P} (le_trans (nested_le P rest v) (lit≤ tt)) h)

product_high : (z : ℕ) → z ≤ quarter31 → z * nested P terms (z * z / P) ≤ 9295978702241747062
unfolding nested
product_high z h =
    let v = z * z / P in
    let vl : v ≤ 2649351758 = div-le_of_le-mul P (le_trans (mul-le-mul h h) (lit≤ tt)) in
    let r = nested P rest v * v / P in
    let w : ℕ = 3221225472 in
    let k : ℕ = 2510064631 in
    le_of_mul-le-mul_right {k = P * P}
    (le_trans (at_end (z * (P - r) * (P * P)) (3 * k * (w * w)) (P * P * P + P * P + k * P) 1092660285602072986298351616 quarter31 z (2 * k * (w * w * w))
    (step z (P - r) v (nested P rest v) k w P (top_step (P - r) r (nested P rest v) v (sub-add_cancel (rest_small v (le_trans vl (lit≤ tt)))) (le_of_lt (lt-div-mul-add {a = nested P rest v * v} {b = P} (lit< tt)))) (rest_low v vl) (le_of_lt (lt-div-mul-add {a = z * z} {b = P} (lit< tt))))
    (lit≤ tt) h)
    (lit≤ tt))
    (lit< tt)

-- in Q63, by pairs
pub sine_high : (z : ℕ) → z ≤ quarter31 → 1000 * sine_fix z ≤ 9297159013149614014464
unfolding sine_fix
sine_high z h =
    top z (sinc_of (z * z / P)) (nested P terms (z * z / P)) h (product_high z h) (pairs_near (z * z / P) (div-le_of_le-mul P (le_trans (mul-le-mul h h) (lit≤ tt)))).0
  where
    top : (z x y : ℕ) → z ≤ quarter31 → z * y ≤ 9295978702241747062 → x ≤ y + 243 → 1000 * (z * x + 1) ≤ 9297159013149614014464
    top z x y h l k = omega (arith, mul-le-mul_left z k)
