-- The tangent's method: the ratio of the series of the sine and the cosine in fixed point against the exact one. Assumes nothing.
use Prim.Native.Nat.{ℕ, ◌+◌, ◌-◌, ◌*◌, ◌/◌, ◌≤◌, ◌<◌}
use native.Mathlib.Nat.{le_trans, le_of_lt, lt_of_lt_of_le, mul-le-mul, mul-le-mul_right, div-mul-le_self, div-le_of_le-mul, lt-div-mul-add, le-div_iff_mul-le, div-lt_iff_lt-mul, le_of_mul-le-mul_right, sub-le}
use native.Mathlib.Omega.{arith}
use lib.Dec.{lit<, lit≤}
use Rattle.series.proofs.Algebra.{ac}
use Rattle.sine.specs.Series.{paired}
use Rattle.sine.specs.Exact.{sinc_num, sinc_den, odd_num, odd_den}
use Rattle.sine.specs.Sine.{sinc_of, sine_fix, quarter31, ratio_of}
use Rattle.sine.proofs.Pairs.{sinc_le}
use Rattle.sine.proofs.Method.{sinc_near, sin_method}
use Rattle.sine.proofs.Rounding.{fix_small}

abbrev Q : ℕ
Q = 2147483648

abbrev P : ℕ
P = 4294967296

-- ---- sizes
-- sin z / z is above 1 / 2 within a quarter turn
pub sinc_low : (z : ℕ) → z ≤ quarter31 → Q ≤ sinc_of (z * z / P)
unfolding sinc_of paired
sinc_low z h =
    let v = z * z / P in
    let l : v ≤ 2649351758 = div-le_of_le-mul P (le_trans (mul-le-mul h h) (lit≤ tt)) in
    omega (arith, l)

-- the cosine in Q31 of an angle up to 1.5
abbrev pub cos_fix : ℕ → ℕ
cos_fix z = sine_fix (quarter31 - z) / P

pub cos_low : (z : ℕ) → z ≤ 3221225472 → 67108864 ≤ cos_fix z
unfolding sine_fix
cos_low z h =
    let g = quarter31 - z in
    omega (arith, mul-le-mul {n₁ = 152033954} {n₂ = g} (omega arith) (sinc_low g (omega arith)))

pub cos_high : (z : ℕ) → cos_fix z < P
cos_high z = (div-lt_iff_lt-mul {k = P} (lit< tt)).1 (fix_small (quarter31 - z) (omega arith))

quotient_low : (y c : ℕ) → Q ≤ y → c < P → 1073741824 * c ≤ y * Q
quotient_low y c h k = omega arith

pub ratio_low : (z : ℕ) → z ≤ 3221225472 → 1073741824 ≤ ratio_of z
unfolding ratio_of
ratio_low z h = (le-div_iff_mul-le {k = cos_fix z} (lt_of_lt_of_le (lit< tt) (cos_low z h))).1 (quotient_low (sinc_of (z * z / P)) (cos_fix z) (sinc_low z (le_trans h (lit≤ tt))) (cos_high z))

quotient_high : (y c : ℕ) → y ≤ P → 67108864 ≤ c → y * Q ≤ c * 137438953472
quotient_high y c h k = omega arith

pub ratio_high : (z : ℕ) → z ≤ 3221225472 → ratio_of z ≤ 137438953472
unfolding ratio_of
ratio_high z h = div-le_of_le-mul (cos_fix z) (quotient_high (sinc_of (z * z / P)) (cos_fix z) (sinc_le (z * z / P) (div-le_of_le-mul P (le_trans (mul-le-mul h h) (lit≤ tt)))) (cos_low z h))

-- ---- errors, as parts of the numbers
part_low : (b e y X D : ℕ) → b ≤ y → y * D ≤ X + e * D → b * (y * D) ≤ b * X + e * (y * D)
part_low b e y X D h k = omega (arith, mul-le-mul_right b k, mul-le-mul_right (e * D) h)

part_high : (b e y X D : ℕ) → b ≤ y → X ≤ y * D + e * D → b * X ≤ b * (y * D) + e * (y * D)
part_high b e y X D h k = omega (arith, mul-le-mul_right b k, mul-le-mul_right (e * D) h)

-- the quotient of two numbers near to P * N / D and Q * num / den
over_high : (r h y D N num den b₁ b₁' b₂ b₂' : ℕ) → r * h ≤ y * Q → b₂ * (Q * num) ≤ b₂' * (h * den) → b₁' * (y * D) ≤ b₁ * (P * N) → b₁' * b₂ * (r * D * num) ≤ b₂' * b₁ * (P * N * den)
over_high r h y D N num den b₁ b₁' b₂ b₂' k₁ k₂ k₃ =
    le_of_mul-le-mul_right {k = Q}
    (simp ac (omega (arith, simp ac at (mul-le-mul_right (b₁' * r * D) k₂), simp ac at (mul-le-mul_right (b₁' * b₂' * D * den) k₁), simp ac at (mul-le-mul_right (b₂' * den * Q) k₃))))
    (lit< tt)

over_low : (r h y D N num den b₁ b₁' b₂ b₂' b₃ b₃' : ℕ) → b₃ * (y * Q) ≤ b₃' * (r * h) → b₂' * (h * den) ≤ b₂ * (Q * num) → b₁ * (P * N) ≤ b₁' * (y * D) → b₁ * b₃ * b₂' * (P * N * den) ≤ b₁' * b₃' * b₂ * (r * D * num)
over_low r h y D N num den b₁ b₁' b₂ b₂' b₃ b₃' k₁ k₂ k₃ =
    le_of_mul-le-mul_right {k = Q}
    (simp ac (omega (arith, simp ac at (mul-le-mul_right (b₃ * b₂' * den * Q) k₃), simp ac at (mul-le-mul_right (b₁' * D * b₂' * den) k₁), simp ac at (mul-le-mul_right (b₁' * D * b₃' * r) k₂))))
    (lit< tt)

-- the cosine in Q31
cut_low : (h g num den : ℕ) → h * P ≤ g → g * den ≤ Q * P * num + 295 * P * den → h * den ≤ Q * num + 295 * den
cut_low h g num den k l = omega (arith, mul-le-mul_right den k)

cut_high : (h g num den : ℕ) → g ≤ h * P + P → Q * P * num ≤ g * den + 295 * P * den → Q * num ≤ h * den + 296 * den
cut_high h g num den k l = omega (arith, mul-le-mul_right den k)

part_less : (y X : ℕ) → 2147483648 * y ≤ 2147483648 * X + 292 * y → 2147483356 * y ≤ 2147483648 * X
part_less y X h = omega arith

part_more : (y X : ℕ) → 2147483648 * X ≤ 2147483648 * y + 292 * y → 2147483648 * X ≤ 2147483940 * y
part_more y X h = omega arith

cos_less : (y X : ℕ) → 67108864 * y ≤ 67108864 * X + 295 * y → 67108568 * y ≤ 67108864 * X
cos_less y X h = omega arith

cos_more : (y X : ℕ) → 67108864 * X ≤ 67108864 * y + 296 * y → 67108864 * X ≤ 67109160 * y
cos_more y X h = omega arith

last_cut : (y r h : ℕ) → 1073741824 ≤ r → y ≤ r * h + h → 1073741824 * y ≤ 1073741825 * (r * h)
last_cut y r h k l = omega (arith, mul-le-mul_right h k)

module _ (f g d z : ℕ) (dp : 0 < d) (zl : z ≤ 3221225472) (f-low : z * d ≤ f * Q + 2 * d) (f-high : f * Q ≤ z * d + 2 * d) (fd : f ≤ 2 * d)
    (g-low : (quarter31 - z) * d ≤ g * Q + 2 * d) (g-high : g * Q ≤ (quarter31 - z) * d + 2 * d) (gd : g ≤ 2 * d) where
  abbrev y : ℕ
  y = sinc_of (z * z / P)

  abbrev h : ℕ
  h = cos_fix z

  abbrev D : ℕ
  D = sinc_den d

  abbrev N : ℕ
  N = sinc_num f d

  zq : z ≤ quarter31
  zq = le_trans zl (lit≤ tt)

  cos_method : (sine_fix (quarter31 - z) * odd_den d ≤ Q * P * odd_num g d + 295 * P * odd_den d) × (Q * P * odd_num g d ≤ sine_fix (quarter31 - z) * odd_den d + 295 * P * odd_den d)
  cos_method = sin_method g d (quarter31 - z) dp g-low g-high gd (sub-le quarter31 z)

  pub cos_below : cos_fix z * odd_den d ≤ Q * odd_num g d + 295 * odd_den d
  cos_below = cut_low h (sine_fix (quarter31 - z)) (odd_num g d) (odd_den d) (div-mul-le_self (sine_fix (quarter31 - z)) P) cos_method.0

  pub cos_above : Q * odd_num g d ≤ cos_fix z * odd_den d + 296 * odd_den d
  cos_above = cut_high h (sine_fix (quarter31 - z)) (odd_num g d) (odd_den d) (le_of_lt (lt-div-mul-add {a = sine_fix (quarter31 - z)} {b = P} (lit< tt))) cos_method.1

  pub tan_method : (2147483356 * 67108864 * (ratio_of z * D * odd_num g d) ≤ 67109160 * 2147483648 * (P * N * odd_den d))
      × (2147483648 * 1073741824 * 67108568 * (P * N * odd_den d) ≤ 2147483940 * 1073741825 * 67108864 * (ratio_of z * D * odd_num g d))
  unfolding ratio_of
  tan_method =
      let s = sinc_near f d z dp f-low f-high fd zq in
      let yl = sinc_low z zq in
      let hl = cos_low z zl in
      let r = y * Q / h in (
        over_high r h y D N (odd_num g d) (odd_den d) 2147483648 2147483356 67108864 67109160 (div-mul-le_self (y * Q) h)
            (cos_more (h * odd_den d) (Q * odd_num g d) (part_high 67108864 296 h (Q * odd_num g d) (odd_den d) hl cos_above))
            (part_less (y * D) (P * N) (part_low 2147483648 292 y (P * N) D yl s.0)),
        over_low r h y D N (odd_num g d) (odd_den d) 2147483648 2147483940 67108864 67108568 1073741824 1073741825
            (last_cut (y * Q) r h (ratio_low z zl) (le_of_lt (lt-div-mul-add {a = y * Q} (lt_of_lt_of_le (lit< tt) hl))))
            (cos_less (h * odd_den d) (Q * odd_num g d) (part_low 67108864 295 h (Q * odd_num g d) (odd_den d) hl cos_below))
            (part_more (y * D) (P * N) (part_high 2147483648 292 y (P * N) D yl s.1)),
      )
