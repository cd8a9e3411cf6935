-- The method: the sine of an angle within a quarter turn in fixed point against the odd series to power 13, where the angle is off by two units of Q31. Assumes nothing.
use mathlib.Core.Path.{◌≡◌, refl}
use Prim.Native.Nat.{ℕ, ◌+◌, ◌*◌, ◌/◌, ◌^◌, ◌≤◌, ◌<◌}
use native.Mathlib.Nat.{le_trans, le_of_eq, le_of_lt, mul-one, mul-pos, mul-le-mul, mul-le-mul_right, div-mul-le_self, div-le_of_le-mul, lt-div-mul-add, le_of_mul-le-mul_right, sub-le, pow-suc}
use native.Mathlib.Omega.{arith}
use lib.Dec.{lit<, lit≤}
use Rattle.series.proofs.Algebra.{ac}
use Rattle.sine.specs.Series.{alternating}
use Rattle.sine.specs.Exact.{odds, sinc_num, sinc_den, odd_num, odd_den}
use Rattle.sine.specs.Sine.{quarter31, sinc_of, sine_fix}
use Rattle.sine.proofs.Nested.{nested, tail, nested_near, slack}
use Rattle.sine.proofs.Pairs.{terms, pairs_near, sinc_le}

abbrev Q : ℕ
Q = 2147483648

abbrev P : ℕ
P = 4294967296

-- the square of a number that is off by two units
square_low : (d g h z v S U : ℕ) → z * d ≤ h + 2 * d → v * U ≤ z * z → h ≤ g * d → 4 * g + 4 ≤ S * U → v * U * (d * d) ≤ h * h + S * U * (d * d)
square_low d g h z v S U a b c e =
    let m : z * d * (z * d) ≤ (h + 2 * d) * (h + 2 * d) = mul-le-mul a a in
    simp ac (omega (arith, simp ac at m, simp ac at (mul-le-mul_right (d * d) b), simp ac at (mul-le-mul_right d c), simp ac at (mul-le-mul_right (d * d) e)))

square_high : (d h z v S U : ℕ) → h ≤ z * d + 2 * d → z * z ≤ v * U + U → U + 4 * z + 4 ≤ S * U → h * h ≤ v * U * (d * d) + S * U * (d * d)
square_high d h z v S U a b e =
    let m : h * h ≤ (z * d + 2 * d) * (z * d + 2 * d) = mul-le-mul a a in
    le_trans m (simp ac (omega (arith, simp ac at (mul-le-mul_right (d * d) b), simp ac at (mul-le-mul_right (d * d) e))))

-- the product of the angle and the series, which is off by e units of Q32
product_low : (z d f y N D e : ℕ) → z * d ≤ f * Q + 2 * d → f ≤ 2 * d → y ≤ P → y * D ≤ P * N + e * D → z * y * (d * D) ≤ Q * P * (f * N) + (e + 2) * P * (d * D)
product_low z d f y N D e h₁ h₂ h₃ h₄ =
    simp ac (omega (arith, simp ac at (mul-le-mul_right (y * D) h₁), simp ac at (mul-le-mul_right (f * Q) h₄), simp ac at (mul-le-mul_right (d * D) h₃), simp ac at (mul-le-mul_right (Q * e * D) h₂)))

product_high : (z d f y N D e : ℕ) → f * Q ≤ z * d + 2 * d → f ≤ 2 * d → N ≤ D → y ≤ P → P * N ≤ y * D + e * D → Q * P * (f * N) ≤ z * y * (d * D) + (e + 2) * P * (d * D)
product_high z d f y N D e h₁ h₂ h₃ h₄ h₅ =
    simp ac (omega (arith, simp ac at (mul-le-mul_right (y * D) h₁), simp ac at (mul-le-mul_right (f * Q) h₅), simp ac at (mul-le-mul_right (d * D) h₄), simp ac at (mul-le-mul_right (Q * e * D) h₂)))

cancel_low : (y K Z t R N e A : ℕ) → 0 < t → A ≡ Z * t → y * K * A ≤ R * 1 * N * t + e * K * A → y * (K * Z) ≤ R * N + e * (K * Z)
cancel_low y K Z t R N e A tp q h = le_of_mul-le-mul_right {k = t} (simp ac (omega (arith, simp ac at (rw (q, mul-one R) at h)))) tp

cancel_high : (y K Z t R N e A : ℕ) → 0 < t → A ≡ Z * t → R * 1 * N * t ≤ y * K * A + e * K * A → R * N ≤ y * (K * Z) + e * (K * Z)
cancel_high y K Z t R N e A tp q h = le_of_mul-le-mul_right {k = t} (simp ac (omega (arith, simp ac at (rw (q, mul-one R) at h)))) tp

-- the pairs are within 243 units of Horner's rule, which is within 49 of the series
widen_low : (x y D R : ℕ) → x ≤ y + 243 → y * D ≤ R + 49 * D → x * D ≤ R + 292 * D
widen_low x y D R h k = omega (arith, mul-le-mul_right D h)

widen_high : (x y D R : ℕ) → y ≤ x + 243 → R ≤ y * D + 49 * D → R ≤ x * D + 292 * D
widen_high x y D R h k = omega (arith, mul-le-mul_right D h)

-- the series is at most its first term
pub odd_le : (f d : ℕ) → sinc_num f d ≤ sinc_den d
unfolding alternating
odd_le f d = sub-le (sinc_den d) (f * f * alternating (tail odds) (f * f) (d * d))

module _ (f d z : ℕ) (dp : 0 < d) (low : z * d ≤ f * Q + 2 * d) (high : f * Q ≤ z * d + 2 * d) (fd : f ≤ 2 * d) (zc : z ≤ quarter31) where
  abbrev v : ℕ
  v = z * z / P

  dd : 0 < d * d
  dd = mul-pos dp dp

  -- the argument of the series is z² / 4
  v_low : 4 * v * (d * d) ≤ P * (f * f) + 4 * 5 * (d * d)
  v_low = omega (arith, square_low d (2 * Q) (f * Q) z v 5 P low (div-mul-le_self (z * z) P) (omega arith) (lit≤ tt))

  v_high : P * (f * f) ≤ 4 * v * (d * d) + 4 * 5 * (d * d)
  v_high = omega (arith, square_high d (f * Q) z v 5 P high (le_of_lt (lt-div-mul-add {a = z * z} {b = P} (lit< tt))) (omega arith))

  v_le : v ≤ P
  v_le = div-le_of_le-mul P (le_trans (mul-le-mul zc zc) (lit≤ tt))

  wide : f * f ≤ 4 * (d * d)
  wide = le_trans (mul-le-mul fd fd) (le_of_eq (shuffle d))
    where
      shuffle : (d : ℕ) → 2 * d * (2 * d) ≡ 4 * (d * d)
      shuffle d = omega arith

  series : (nested P terms v * 6227020800 * (d * d) ^ 7 ≤ P * 1 * sinc_num f d * (d * d) + slack 5 terms * 6227020800 * (d * d) ^ 7) × (P * 1 * sinc_num f d * (d * d) ≤ nested P terms v * 6227020800 * (d * d) ^ 7 + slack 5 terms * 6227020800 * (d * d) ^ 7)
  series = nested_near P 6227020800 4 5 (f * f) (d * d) v (lit< tt) (lit< tt) v_low v_high v_le wide 1 terms odds tt

  slack_is : slack 5 terms ≡ 49
  unfolding slack
  slack_is = refl

  horner_near : (nested P terms v * sinc_den d ≤ P * sinc_num f d + 49 * sinc_den d) × (P * sinc_num f d ≤ nested P terms v * sinc_den d + 49 * sinc_den d)
  horner_near =
      let y = nested P terms v in
      (rw slack_is at (cancel_low y 6227020800 ((d * d) ^ 6) (d * d) P (sinc_num f d) (slack 5 terms) ((d * d) ^ 7) dd (pow-suc (d * d) 6) series.0), rw slack_is at (cancel_high y 6227020800 ((d * d) ^ 6) (d * d) P (sinc_num f d) (slack 5 terms) ((d * d) ^ 7) dd (pow-suc (d * d) 6) series.1))

  -- the series in Q32 is off by 292 units
  pub sinc_near : (sinc_of (z * z / 4294967296) * sinc_den d ≤ 4294967296 * sinc_num f d + 292 * sinc_den d) × (4294967296 * sinc_num f d ≤ sinc_of (z * z / 4294967296) * sinc_den d + 292 * sinc_den d)
  sinc_near =
      let p = pairs_near v (div-le_of_le-mul P (le_trans (mul-le-mul zc zc) (lit≤ tt))) in
      (widen_low (sinc_of v) (nested P terms v) (sinc_den d) (P * sinc_num f d) p.0 horner_near.0, widen_high (sinc_of v) (nested P terms v) (sinc_den d) (P * sinc_num f d) p.1 horner_near.1)

  -- the sine in Q63 is off by 295 units of Q31
  pub sin_method : (sine_fix z * odd_den d ≤ Q * P * odd_num f d + 295 * P * odd_den d) × (Q * P * odd_num f d ≤ sine_fix z * odd_den d + 295 * P * odd_den d)
  unfolding sine_fix
  sin_method =
      let s = sinc_near in
      let y = sinc_of v in
      let l = product_low z d f y (sinc_num f d) (sinc_den d) 292 low fd (sinc_le v v_le) s.0 in
      let h = product_high z d f y (sinc_num f d) (sinc_den d) 292 high fd (odd_le f d) (sinc_le v v_le) s.1 in
      (omega (arith, l), omega (arith, h))
