-- The tangent's rounding and its distance: the digits of x times the ratio, as a float, are within one part in 2 ^ 16 of the exact quotient. Assumes nothing.
use mathlib.Core.Path.{◌≡◌, sym, ap, ◌∙◌, subst}
use mathlib.Core.Logic.{inl, inr}
use mathlib.Core.Bool.{Bool, ◌&&◌}
use Prim.Native.Nat.{ℕ, zero, suc, ◌+◌, ◌-◌, ◌*◌, ◌≤◌, ◌<◌}
use native.Mathlib.Nat.{le_trans, le_of_eq, le_of_lt, mul_assoc, add-mul, mul-pos, mul-le-mul, mul-le-mul_left, mul-le-mul_right, le_of_mul-le-mul_right, sub-add_cancel, one-le-pow, eq-or-lt_of_le, le_of_suc-le-suc}
use native.Mathlib.Omega.{arith}
use lib.Dec.{T, leb, leb→le, lit<, lit≤}
use lib.Arith.{le-zero}
use lib.Ieee.Fits.{and_l, and_r}
use lib.Ieee.{Float, nan, inf, fin, up, down}
use Rattle.series.specs.Near.{Relative}
use Rattle.series.proofs.Algebra.{ac, loosen}
use Rattle.sine.specs.Series.{paired}
use Rattle.sine.specs.Exact.{unit, quarter, odd_num, odd_den, sine_num, sinc_num, sinc_den}
use Rattle.sine.specs.Sine.{quarter31, sinc_of, sine_fix, ratio_of}
use Rattle.sine.proofs.Method.{odd_le}
use Rattle.sine.proofs.Small.{no_turns, all_rest, sine_is, own_series}
use Rattle.sine.proofs.Quotient.{cos_fix, cos_low, cos_below, cos_above, tan_method}

-- the float is R / t, and dg * r / K is a * r / (c * P)
digits_high : (b B R t q K c P a r : ℕ) → 0 < K → b * R * K ≤ B * q * t → q * (c * P) ≡ a * r * K → b * (R * (c * P)) ≤ B * (a * r * t)
digits_high b B R t q K c P a r kp h e = le_of_mul-le-mul_right {k = K} (simp ac (omega (arith, simp ac at (mul-le-mul_right (c * P) h), simp ac at (ap (λ (z : ℕ). z * (B * t)) e)))) kp

digits_low : (b B R t q K c P a r : ℕ) → 0 < K → b * q * t ≤ B * R * K → q * (c * P) ≡ a * r * K → b * (a * r * t) ≤ B * (R * (c * P))
digits_low b B R t q K c P a r kp h e = le_of_mul-le-mul_right {k = K} (simp ac (omega (arith, simp ac at (mul-le-mul_right (c * P) h), simp ac at (ap (λ (z : ℕ). z * (b * t)) e)))) kp

join_high : (b B β β' R t c P a r D N num U : ℕ) → 0 < c * P * D → b * (R * (c * P)) ≤ B * (a * r * t) → β * (r * D * num) ≤ β' * (P * N * (c * U * D)) → b * β * (R * num) ≤ B * β' * (a * U * N * t)
join_high b B β β' R t c P a r D N num U p h k = le_of_mul-le-mul_right {k = c * P * D} (simp ac (omega (arith, simp ac at (mul-le-mul_right (β * D * num) h), simp ac at (mul-le-mul_right (B * a * t) k)))) p

join_low : (b B β β' R t c P a r D N num U : ℕ) → 0 < c * P * D → b * (a * r * t) ≤ B * (R * (c * P)) → β * (P * N * (c * U * D)) ≤ β' * (r * D * num) → b * β * (a * U * N * t) ≤ B * β' * (R * num)
join_low b B β β' R t c P a r D N num U p h k = le_of_mul-le-mul_right {k = c * P * D} (simp ac (omega (arith, simp ac at (mul-le-mul_right (β' * D * num) h), simp ac at (mul-le-mul_right (b * a * t) k)))) p

pub tan_rounding : (q K c P a r D N num U : ℕ) (v : Float) → 0 < K → 0 < c * P * D → Relative 16777216 q K v → q * (c * P) ≡ a * r * K
    → 2147483356 * 67108864 * (r * D * num) ≤ 67109160 * 2147483648 * (P * N * (c * U * D))
    → 2147483648 * 1073741824 * 67108568 * (P * N * (c * U * D)) ≤ 2147483940 * 1073741825 * 67108864 * (r * D * num)
    → Relative 65536 (a * U * N) num v
tan_rounding q K c P a r D N num U nan kp p w e h l = w
tan_rounding q K c P a r D N num U (inf s) kp p w e h l = w
tan_rounding q K c P a r D N num U (fin s m i) kp p w e h l =
    let R = m * up i in
    let t = down i in (
      w.0,
      le_trans (le_of_eq (mul_assoc 65535 (a * U * N) t))
          (le_trans (loosen (16777215 * (2147483648 * 1073741824 * 67108568)) (16777216 * (2147483940 * 1073741825 * 67108864)) 65535 65536 (a * U * N * t) (R * num) (lit< tt) (lit≤ tt) (join_low 16777215 16777216 (2147483648 * 1073741824 * 67108568) (2147483940 * 1073741825 * 67108864) R t c P a r D N num U p (digits_low 16777215 16777216 R t q K c P a r kp w.1 e) l))
          (le_of_eq (sym (mul_assoc 65536 R num)))),
      le_trans (le_of_eq (mul_assoc 65536 R num))
          (le_trans (loosen (16777216 * (2147483356 * 67108864)) (16777217 * (67109160 * 2147483648)) 65536 65537 (R * num) (a * U * N * t) (lit< tt) (lit≤ tt) (join_high 16777216 16777217 (2147483356 * 67108864) (67109160 * 2147483648) R t c P a r D N num U p (digits_high 16777216 16777217 R t q K c P a r kp w.2 e) h))
          (le_of_eq (sym (mul_assoc 65537 (a * U * N) t)))),
    )

pub den_pos : (d : ℕ) → 0 < d → 0 < sinc_den d
den_pos d h = mul-pos {m = 6227020800} (lit< tt) (one-le-pow 6 (d * d) (mul-pos h h))

-- ---- x = a / c up to 1.5, and X is x in Q31
abbrev U : ℕ
U = 200000000000000

pub cosine_is : (a c : ℕ) → a * U < quarter c → sine_num 1 a c ≡ odd_num (quarter c - a * U) (unit c)
cosine_is a c h = rw (no_turns a c h, all_rest a c h)

-- what an angle lacks of a quarter turn
lack : (a g q d x z C : ℕ) → g + a ≡ q → z + x ≡ C → x ≤ a * 2147483648 → a * 2147483648 ≤ x + d → C ≤ q * 2147483648 → q * 2147483648 ≤ C + d → (z ≤ g * 2147483648 + 2 * d) × (g * 2147483648 ≤ z + 2 * d)
lack a g q d x z C e₁ e₂ h₁ h₂ h₃ h₄ = (omega arith, omega arith)

module _ (a c x : ℕ) (cp : 0 < c) (top : 2 * a ≤ 3 * c) (lo : x * c ≤ a * 2147483648) (hi : a * 2147483648 < x * c + c) where
  pub x_le : x ≤ 3221225472
  x_le = le_of_mul-le-mul_right {k = c} (omega arith) cp

  pub first : a * U < quarter c
  first = omega arith

  back : (quarter31 - x) * unit c + x * unit c ≡ quarter31 * unit c
  back = sym (add-mul (quarter31 - x) x (unit c)) ∙ ap (λ (y : ℕ). y * unit c) (sub-add_cancel (le_trans x_le (lit≤ tt)))

  pub tan_reduction : ((x * unit c ≤ a * U * 2147483648 + 2 * unit c) × (a * U * 2147483648 ≤ x * unit c + 2 * unit c)) × (((quarter31 - x) * unit c ≤ (quarter c - a * U) * 2147483648 + 2 * unit c) × ((quarter c - a * U) * 2147483648 ≤ (quarter31 - x) * unit c + 2 * unit c))
  tan_reduction = (
    (omega arith, omega arith),
    lack (a * U) (quarter c - a * U) (quarter c) (unit c) (x * unit c) ((quarter31 - x) * unit c) (quarter31 * unit c) (sub-add_cancel (le_of_lt first)) back (omega arith) (omega arith) (omega arith) (omega arith),
  )

  abbrev d : ℕ
  d = unit c

  abbrev D : ℕ
  D = sinc_den d

  pub tan_at : (q k : ℕ) (v : Float) → 0 < k → Relative 16777216 q k v → q * (c * 4294967296) ≡ a * ratio_of x * k → Relative 65536 (sine_num 0 a c) (sine_num 1 a c) v
  tan_at q k v kp w e =
      let t = tan_reduction in
      let m = tan_method (a * U) (quarter c - a * U) d x (omega arith) x_le t.0.0 t.0.1 (omega arith) t.1.0 t.1.1 (omega arith) in
      rw (sine_is a c first, cosine_is a c first)
      (tan_rounding q k c 4294967296 a (ratio_of x) D (sinc_num (a * U) d) (odd_num (quarter c - a * U) d) U v kp (mul-pos (mul-pos cp (lit< tt)) (den_pos d (omega arith))) w e m.0 m.1)

  -- the sine is at most 3 / 2, and the cosine above 1 / 33
  pub sine_part : 2 * sine_num 0 a c ≤ 3 * odd_den (unit c)
  sine_part = rw (sine_is a c first) (twice (a * U) (unit c) (sinc_num (a * U) d) D (omega arith) (odd_le (a * U) d))
    where
      twice : (f d N D : ℕ) → 2 * f ≤ 3 * d → N ≤ D → 2 * (f * N) ≤ 3 * (d * D)
      twice f d N D h k = le_trans (le_of_eq (sym (mul_assoc 2 f N))) (le_trans (mul-le-mul h k) (le_of_eq (mul_assoc 3 d D)))

  pub cosine_part : odd_den (unit c) ≤ 33 * sine_num 1 a c
  cosine_part =
      let t = tan_reduction in
      rw (cosine_is a c first)
      (part (cos_fix x) (odd_num (quarter c - a * U) d) (odd_den d) (cos_low x x_le) (cos_below (a * U) (quarter c - a * U) d x (omega arith) x_le t.0.0 t.0.1 (omega arith) t.1.0 t.1.1 (omega arith)))
    where
      part : (h n D : ℕ) → 67108864 ≤ h → h * D ≤ 2147483648 * n + 295 * D → D ≤ 33 * n
      part h n D k l = omega (arith, mul-le-mul_right D k)

-- ---- below 2 ^ -24: the cosine is 1 to one part in 2 ^ 18, for each of the few X that there are
every : (ℕ → Bool) → ℕ → Bool
every p zero = p 0
every p (suc n) = p (suc n) && every p n

every_says : (p : ℕ → Bool) (n k : ℕ) → T (every p n) → k ≤ n → T (p k)
unfolding every
every_says p zero k t h = subst (λ (i : ℕ). T (p i)) (sym (le-zero h)) t
every_says p (suc n) k t h =
    elim (eq-or-lt_of_le h) [
      | inl e ↦ subst (λ (i : ℕ). T (p i)) (sym e) (and_l (p (suc n)) (every p n) t)
      | inr l ↦ every_says p n k (and_r (p (suc n)) (every p n) t) (le_of_suc-le-suc l)
    ]

near_one : ℕ → Bool
near_one x = leb 2147475456 (cos_fix x) && leb (cos_fix x) 2147491840

all_near : T (every near_one 128)
unfolding every near_one sine_fix sinc_of paired
all_near = tt

one_of : (x : ℕ) → x ≤ 128 → (2147475456 ≤ cos_fix x) × (cos_fix x ≤ 2147491840)
unfolding near_one
one_of x h =
    let t = every_says near_one 128 x all_near h in
    (leb→le 2147475456 (cos_fix x) (and_l (leb 2147475456 (cos_fix x)) (leb (cos_fix x) 2147491840) t), leb→le (cos_fix x) 2147491840 (and_r (leb 2147475456 (cos_fix x)) (leb (cos_fix x) 2147491840) t))

own_numbers : (h num den n : ℕ) → 2147475456 ≤ h → h ≤ 2147491840 → h * den ≤ 2147483648 * num + 295 * den → 2147483648 * num ≤ h * den + 296 * den → 6291456 * den ≤ 6291456 * n + den → n ≤ den
    → (65535 * n ≤ 65536 * num) × (65536 * num ≤ 65537 * n)
own_numbers h num den n a b k l p q =
    let x = mul-le-mul_right den a in
    let y = mul-le-mul_right den b in
    (omega arith, omega arith)

module _ (a c x : ℕ) (cp : 0 < c) (small : a * 16777216 ≤ c) (lo : x * c ≤ a * 2147483648) (hi : a * 2147483648 < x * c + c) where
  x_few : x ≤ 128
  x_few = le_of_mul-le-mul_right {k = c} (omega arith) cp

  top : 2 * a ≤ 3 * c
  top = omega arith

  own_parts : (65535 * (unit c * sinc_num (a * U) (unit c)) ≤ 65536 * sine_num 1 a c) × (65536 * sine_num 1 a c ≤ 65537 * (unit c * sinc_num (a * U) (unit c)))
  own_parts =
      let d = unit c in
      let N = sinc_num (a * U) d in
      let D = sinc_den d in
      let t = tan_reduction a c x cp top lo hi in
      let o = one_of x x_few in
      let g = quarter c - a * U in
      let xl = x_le a c x cp top lo hi in
      rw (cosine_is a c (first a c x cp top lo hi))
      (own_numbers (cos_fix x) (odd_num g d) (odd_den d) (d * N) o.0 o.1
      (cos_below (a * U) g d x (omega arith) xl t.0.0 t.0.1 (omega arith) t.1.0 t.1.1 (omega arith))
      (cos_above (a * U) g d x (omega arith) xl t.0.0 t.0.1 (omega arith) t.1.0 t.1.1 (omega arith))
      (spread 6291456 d D N (own_series (a * U) d (omega arith)))
      (mul-le-mul_left d (odd_le (a * U) d)))
    where
      spread : (g d D N : ℕ) → g * D ≤ g * N + D → g * (d * D) ≤ g * (d * N) + d * D
      spread g d D N h = omega (arith, mul-le-mul_left d h)

  -- x is its own tangent
  pub tan_own : (65535 * sine_num 0 a c * c ≤ 65536 * a * sine_num 1 a c) × (65536 * a * sine_num 1 a c ≤ 65537 * sine_num 0 a c * c)
  tan_own =
      let o = own_parts in
      let N = sinc_num (a * U) (unit c) in
      rw (sine_is a c (first a c x cp top lo hi)) (times a c U N (sine_num 1 a c) o.0 o.1)
    where
      times : (a c U N n : ℕ) → 65535 * (c * U * N) ≤ 65536 * n → 65536 * n ≤ 65537 * (c * U * N) → (65535 * (a * U * N) * c ≤ 65536 * a * n) × (65536 * a * n ≤ 65537 * (a * U * N) * c)
      times a c U N n h k = (simp ac (omega (arith, simp ac at (mul-le-mul_left a h))), simp ac (omega (arith, simp ac at (mul-le-mul_left a k))))
