-- The method's error: two to the power of the fixed-point logarithm is the significand to one part in 63000. The stored logarithms are right by a test at all
-- of them; the rest's three terms stay between the two second-order bounds of the exponential; the addition law joins them. Assumes nothing.
use mathlib.Core.Path.{◌≡◌, refl, sym, ap, ◌∙◌}
use mathlib.Core.Bool.{Bool}
use Prim.Native.Nat.{ℕ, zero, suc, ◌+◌, ◌-◌, ◌*◌, ◌/◌, ◌%◌, ◌≤◌, ◌<◌}
use native.Mathlib.Nat.{le_trans, le_of_eq, le_of_lt, mul_assoc, add-mul, one-mul, mul-pos, add-le-add, mul-le-mul, mul-le-mul_left, mul-le-mul_right, le_of_mul-le-mul_right, div-mul-le_self, lt-div-mul-add, sub-le, mul_right_comm}
use native.Mathlib.Omega.{arith}
use lib.Dec.{leb, ltb, leb→le, ltb→lt, lit<, lit≤}
use lib.ListN.{get_or}
use Rattle.series.specs.Exponential.{exp_num, exp_den}
use Rattle.series.proofs.Algebra.{ac, loosen, sub_mul}
use Rattle.series.proofs.Exponential.{quadratic_le}
use Rattle.series.proofs.Tail.{quadratic_ge}
use Rattle.power.specs.Exact.{sum_num, sum_den}
use Rattle.power.specs.Power.{log2_e, product_of}
use Rattle.power.proofs.Numbers.{P, L, M}
use Rattle.power.proofs.TwoPower.{two_at, two_at_is, power_law}
use Rattle.power.proofs.Moves.{sum_den_pos}
use Rattle.lists.proofs.Table.{at}
use Rattle.log10.specs.Log10.{logs, rest_of, part_of}

-- ---- the stored logarithms
right_below : ℕ → ℕ → Bool
right_below j l = leb (2147483648 * (64 * sum_num l P)) (2147483649 * ((64 + j) * sum_den P))

right_above : ℕ → ℕ → Bool
right_above j l = leb (2147483648 * ((64 + j) * sum_den P)) (2147483649 * (64 * sum_num l P))

module _ (j : ℕ) (jl : j < 64) where
  pub stored_lt : get_or logs j 0 < P
  stored_lt = ltb→lt (get_or logs j 0) P (at 0 (λ j l. ltb l P) logs tt j jl)

  stored_below : 2147483648 * (64 * sum_num (get_or logs j 0) P) ≤ 2147483649 * ((64 + j) * sum_den P)
  unfolding right_below sum_num sum_den exp_num exp_den
  stored_below = leb→le (2147483648 * (64 * sum_num (get_or logs j 0) P)) (2147483649 * ((64 + j) * sum_den P)) (at 0 right_below logs tt j jl)

  stored_above : 2147483648 * ((64 + j) * sum_den P) ≤ 2147483649 * (64 * sum_num (get_or logs j 0) P)
  unfolding right_above sum_num sum_den exp_num exp_den
  stored_above = leb→le (2147483648 * ((64 + j) * sum_den P)) (2147483649 * (64 * sum_num (get_or logs j 0) P)) (at 0 right_above logs tt j jl)

-- ---- the rest: with every number a variable, S / D is about (H + d) / H
-- a m ≤ x: the sum at x / z, over z = Q m, from below
lower_1 : (S D z x a Q m : ℕ) → 0 < m → z ≡ Q * m → a * m ≤ x → D * (2 * (z * z) + 2 * (z * x) + x * x) ≤ S * (2 * (z * z)) → D * (2 * (Q * Q) + 2 * (Q * a) + a * a) ≤ S * (2 * (Q * Q))
lower_1 S D z x a Q m mp e h g =
    le_of_mul-le-mul_right {k = m * m} (le_trans (le_of_eq (left D Q a m)) (le_trans (mul-le-mul_left D (add-le-add (add-le-add (le_of_eq (ap (λ (y : ℕ). 2 * (y * y)) (sym e))) (mul-le-mul_left 2 (mul-le-mul (le_of_eq (sym e)) h))) (mul-le-mul h h))) (le_trans g (le_of_eq (ap (λ (y : ℕ). S * (2 * (y * y))) e ∙ right S Q m))))) (mul-pos mp mp)
  where
    left : (D Q a m : ℕ) → D * (2 * (Q * Q) + 2 * (Q * a) + a * a) * (m * m) ≡ D * (2 * (Q * m * (Q * m)) + 2 * (Q * m * (a * m)) + a * m * (a * m))
    left D Q a m = simp ac

    right : (S Q m : ℕ) → S * (2 * (Q * m * (Q * m))) ≡ S * (2 * (Q * Q)) * (m * m)
    right S Q m = simp ac

-- x ≤ a m: the same from above
upper_1 : (R S D z x a Q m : ℕ) → 0 < m → z ≡ Q * m → x ≤ a * m → R * (S * (2 * (z * z))) ≤ (R * (2 * (z * z) + 2 * (z * x) + x * x) + x * x) * D → R * (S * (2 * (Q * Q))) ≤ (R * (2 * (Q * Q) + 2 * (Q * a) + a * a) + a * a) * D
upper_1 R S D z x a Q m mp e h g =
    le_of_mul-le-mul_right {k = m * m} (le_trans (le_of_eq (sym (right R S Q m) ∙ ap (λ (y : ℕ). R * (S * (2 * (y * y)))) (sym e))) (le_trans g (le_trans (mul-le-mul_right D wide) (le_of_eq (left R D Q a m))))) (mul-pos mp mp)
  where
    wide : R * (2 * (z * z) + 2 * (z * x) + x * x) + x * x ≤ R * (2 * (Q * m * (Q * m)) + 2 * (Q * m * (a * m)) + a * m * (a * m)) + a * m * (a * m)
    wide = add-le-add (mul-le-mul_left R (add-le-add (add-le-add (le_of_eq (ap (λ (y : ℕ). 2 * (y * y)) e)) (mul-le-mul_left 2 (mul-le-mul (le_of_eq e) h))) (mul-le-mul h h))) (mul-le-mul h h)

    left : (R D Q a m : ℕ) → (R * (2 * (Q * m * (Q * m)) + 2 * (Q * m * (a * m)) + a * m * (a * m)) + a * m * (a * m)) * D ≡ (R * (2 * (Q * Q) + 2 * (Q * a) + a * a) + a * a) * D * (m * m)
    left R D Q a m = simp ac

    right : (R S Q m : ℕ) → R * (S * (2 * (Q * m * (Q * m)))) ≡ R * (S * (2 * (Q * Q))) * (m * m)
    right R S Q m = simp ac

-- the polynomials: with rr = r², aa = a², tt = x²
poly_lower : (r x a rr aa tt : ℕ) → 2 * P * r ≤ 2 * P * x + rr → 16129 * rr ≤ 16384 * tt → tt ≤ aa + 2 * a + 1 → x ≤ a + 1 → a ≤ r → rr ≤ 67108864 * r → r ≤ 67108864
    → 65535 * (2 * (P * P) + 2 * (P * (r + 1))) ≤ 65536 * (2 * (P * P) + 2 * (P * a) + aa)
poly_lower r x a rr aa tt f g h i j k l = omega arith

poly_upper : (r x rr tt : ℕ) → 2 * P * x + rr ≤ 2 * P * r + 11000 * P → tt ≤ rr → rr ≤ 67108864 * r → r ≤ 67108864
    → 65535 * (191 * (2 * (P * P) + 2 * (P * x) + tt) + tt) ≤ 65536 * (191 * (2 * (P * P) + 2 * (P * r)))
poly_upper r x rr tt f g h i = omega arith

-- over H
finish_lower : (m n S D H d r Q w v : ℕ) → 0 < w → w ≡ 2 * (Q * Q) → d * Q ≤ (r + 1) * H → m * (w + 2 * (Q * (r + 1))) ≤ n * v → D * v ≤ S * w → m * (D * (H + d)) ≤ n * (S * H)
finish_lower m n S D H d r Q w v wp e h k g = le_of_mul-le-mul_right {k = w} (go (r + 1) h k) wp
  where
    go : (i : ℕ) → d * Q ≤ i * H → m * (w + 2 * (Q * i)) ≤ n * v → m * (D * (H + d)) * w ≤ n * (S * H) * w
    go i p q = simp ac (omega (arith, simp ac at (mul-le-mul_right (H * D) q), simp ac at (mul-le-mul_right (n * H) g), simp ac at (mul-le-mul_right (2 * Q * m * D) p), simp ac at (ap (λ (y : ℕ). m * D * d * y) e)))

finish_upper : (m n S D H d r R Q w v : ℕ) → 0 < R * w → w ≡ 2 * (Q * Q) → r * H ≤ d * Q → m * v ≤ n * (R * (w + 2 * (Q * r))) → R * (S * w) ≤ v * D → m * (S * H) ≤ n * (D * (H + d))
finish_upper m n S D H d r R Q w v wp e h k g =
    le_of_mul-le-mul_right {k = R * w} (simp ac (omega (arith, simp ac at (mul-le-mul_right (H * D) k), simp ac at (mul-le-mul_right (m * H) g), simp ac at (mul-le-mul_right (2 * Q * n * R * D) h), simp ac at (ap (λ (y : ℕ). n * R * D * d * y) e)))) wp

-- ---- the two together
join_over : (m₁ m₂ m₃ n₁ n₂ n₃ D S H x u h U G : ℕ) → 0 < h → 0 < D → H ≡ h * G → m₁ * (D * x) ≤ n₁ * (S * H) → m₂ * (h * D) ≤ n₂ * (64 * u) → m₃ * (u * S) ≤ n₃ * (U * D) → m₁ * m₂ * m₃ * (x * D) ≤ n₁ * n₂ * n₃ * (64 * G * U)
join_over m₁ m₂ m₃ n₁ n₂ n₃ D S H x u h U G hp dp e h₁ h₂ h₃ =
    le_of_mul-le-mul_right {k = h * D} (simp ac (omega (arith, simp ac at (mul-le-mul_right m₃ (mul-le-mul (rw e at h₁) h₂)), simp ac at (mul-le-mul_right (n₁ * n₂ * 64 * (h * G)) h₃)))) (mul-pos hp dp)

join_under : (m₁ m₂ m₃ n₁ n₂ n₃ D S H x u h U G : ℕ) → 0 < h → 0 < D → H ≡ h * G → m₁ * (S * H) ≤ n₁ * (D * x) → m₂ * (64 * u) ≤ n₂ * (h * D) → m₃ * (U * D) ≤ n₃ * (u * S) → m₁ * m₂ * m₃ * (64 * G * U) ≤ n₁ * n₂ * n₃ * (x * D)
join_under m₁ m₂ m₃ n₁ n₂ n₃ D S H x u h U G hp dp e h₁ h₂ h₃ =
    le_of_mul-le-mul_right {k = h * D} (simp ac (omega (arith, simp ac at (mul-le-mul_right n₃ (mul-le-mul (rw e at h₁) h₂)), simp ac at (mul-le-mul_right (m₁ * m₂ * 64 * (h * G)) h₃)))) (mul-pos hp dp)

module _ (t : ℕ) (tl : t < 8388608) where
  abbrev d : ℕ
  d = t % 131072

  abbrev h : ℕ
  h = 64 + t / 131072

  abbrev H : ℕ
  H = h * 131072

  abbrev r : ℕ
  r = d * 32768 / h

  abbrev s : ℕ
  s = r * r / P

  abbrev k : ℕ
  k = s * r / P / 3

  r_lo : r * h ≤ d * 32768
  r_lo = div-mul-le_self (d * 32768) h

  r_hi : d * 32768 ≤ (r + 1) * h
  r_hi = simp (add-mul, one-mul) (le_of_lt (lt-div-mul-add {a = d * 32768} {b = h} (omega arith)))

  pub r_small : t % 131072 * 32768 / (64 + t / 131072) ≤ 67108864
  r_small = le_of_mul-le-mul_right {k = h} (le_trans r_lo (go h (omega arith))) (omega arith)
    where
      go : (h : ℕ) → 64 ≤ h → d * 32768 ≤ 67108864 * h
      go h l = omega arith

  pub rr : t % 131072 * 32768 / (64 + t / 131072) * (t % 131072 * 32768 / (64 + t / 131072)) ≤ 67108864 * (t % 131072 * 32768 / (64 + t / 131072))
  rr = mul-le-mul_right r r_small

  s_lo : s * P ≤ r * r
  s_lo = div-mul-le_self (r * r) P

  s_hi : r * r ≤ s * P + P
  s_hi = le_of_lt (lt-div-mul-add {a = r * r} {b = P} (lit< tt))

  pub s_r : 64 * (t % 131072 * 32768 / (64 + t / 131072) * (t % 131072 * 32768 / (64 + t / 131072)) / P) ≤ t % 131072 * 32768 / (64 + t / 131072)
  s_r = omega (arith, s_lo, rr)

  pub s_small : t % 131072 * 32768 / (64 + t / 131072) * (t % 131072 * 32768 / (64 + t / 131072)) / P ≤ 1048576
  s_small = omega (arith, s_r, r_small)

  pub sr : t % 131072 * 32768 / (64 + t / 131072) * (t % 131072 * 32768 / (64 + t / 131072)) / P * (t % 131072 * 32768 / (64 + t / 131072)) ≤ t % 131072 * 32768 / (64 + t / 131072) * (t % 131072 * 32768 / (64 + t / 131072)) / P * 67108864
  sr = mul-le-mul_left s r_small

  k_s : 192 * k ≤ s
  k_s = omega (arith, sr, div-mul-le_self (s * r) P)

  rest_is : rest_of t ≡ r - s / 2 + k
  unfolding rest_of
  rest_is = refl

  pub rest_le : rest_of t ≤ t % 131072 * 32768 / (64 + t / 131072)
  rest_le = rw rest_is (omega (arith, k_s, s_r))

  rest_lower : 2 * P * r ≤ 2 * P * rest_of t + r * r
  rest_lower = rw rest_is (omega (arith, s_lo, s_r))

  rest_upper : 2 * P * rest_of t + r * r ≤ 2 * P * r + 11000 * P
  rest_upper = rw rest_is (omega (arith, s_hi, s_r, k_s, s_small))

  rest_most : 127 * r ≤ 128 * rest_of t
  rest_most = rw rest_is (omega (arith, s_r))

  abbrev g : ℕ
  g = product_of (rest_of t) log2_e

  abbrev S : ℕ
  S = sum_num g P

  abbrev D : ℕ
  D = sum_den P

  -- the exponent g L / (P M) is that of the rest
  exponent_le : g * L ≤ rest_of t * M
  exponent_le = go (rest_of t) g (div-mul-le_self (rest_of t * log2_e) P)
    where
      go : (x y : ℕ) → y * P ≤ x * log2_e → y * L ≤ x * M
      go x y f = le_of_mul-le-mul_right {k = P} (le_trans (le_of_eq (mul_right_comm y L P)) (le_trans (mul-le-mul_right L f) (le_trans (le_of_eq (mul_assoc x log2_e L)) (le_trans (mul-le-mul_left x (lit≤ tt)) (le_of_eq (sym (mul_assoc x M P))))))) (lit< tt)

  exponent_ge : rest_of t * M ≤ g * L + M
  exponent_ge = go (rest_of t) g (le_trans rest_le r_small) (le_of_lt (lt-div-mul-add {a = rest_of t * log2_e} {b = P} (lit< tt)))
    where
      go : (x y : ℕ) → x ≤ 67108864 → x * log2_e ≤ y * P + P → x * M ≤ y * L + M
      go x y f g = omega arith

  r_h : r * H ≤ d * P
  r_h = omega (arith, mul-le-mul_right 131072 r_lo, mul_assoc r h 131072)

  d_p : d * P ≤ (r + 1) * H
  d_p = omega (arith, mul-le-mul_right 131072 r_hi, mul_assoc (r + 1) h 131072)

  -- one unit less than the rest, and still not below
  abbrev a : ℕ
  a = rest_of t - 1

  a_le : a * M ≤ g * L
  a_le = go (rest_of t) (g * L) exponent_ge
    where
      go : (x y : ℕ) → x * M ≤ y + M → (x - 1) * M ≤ y
      go x y f = omega (arith, sub_mul x 1 M)

  series_lo : 65535 * (sum_den P * (H + d)) ≤ 65536 * (sum_num g P * H)
  unfolding sum_num sum_den
  series_lo =
      finish_lower 65535 65536 S D H d r P (2 * (P * P)) (2 * (P * P) + 2 * (P * a) + a * a) (lit< tt) refl d_p
      (poly_lower r (rest_of t) a (r * r) (a * a) (rest_of t * rest_of t) rest_lower (squares r (rest_of t) rest_most) (next (rest_of t)) (omega arith) (le_trans (sub-le (rest_of t) 1) rest_le) rr r_small)
      (lower_1 S D (P * M) (g * L) a P M (lit< tt) refl a_le (quadratic_le 9 (g * L) (P * M)))
    where
      squares : (x y : ℕ) → 127 * x ≤ 128 * y → 16129 * (x * x) ≤ 16384 * (y * y)
      squares x y f = omega (arith, mul-le-mul f f)

      next : (x : ℕ) → x * x ≤ (x - 1) * (x - 1) + 2 * (x - 1) + 1
      next zero = omega arith
      next (suc x) = let e : suc x - 1 ≡ x = omega arith in rw e (omega arith)

  series_hi : 65535 * (sum_num g P * H) ≤ 65536 * (sum_den P * (H + d))
  unfolding sum_num sum_den
  series_hi =
      finish_upper 65535 65536 S D H d r 191 P (2 * (P * P)) (191 * (2 * (P * P) + 2 * (P * rest_of t) + rest_of t * rest_of t) + rest_of t * rest_of t) (lit< tt) refl r_h
      (poly_upper r (rest_of t) (r * r) (rest_of t * rest_of t) rest_upper (mul-le-mul rest_le rest_le) rr r_small)
      (upper_1 191 S D (P * M) (g * L) (rest_of t) P M (lit< tt) refl exponent_le (quadratic_ge 191 9 (g * L) (P * M) (lit< tt) (omega (arith, exponent_le, rest_le, r_small))))

  jl : t / 131072 < 64
  jl = omega arith

  g_small : g < P
  g_small = go (rest_of t) g (le_trans rest_le r_small) (div-mul-le_self (rest_of t * log2_e) P)
    where
      go : (x y : ℕ) → x ≤ 67108864 → y * P ≤ x * log2_e → y < P
      go x y a b = omega arith

  pub part_small : part_of t ≤ 8589934592
  unfolding part_of
  part_small = omega (arith, g_small, stored_lt (t / 131072) jl)

  abbrev l : ℕ
  l = get_or logs (t / 131072) 0

  -- below P a two-power is its sum
  plain : (p : ℕ) → p < P → two_at P p ≡ sum_num p P
  plain p h = two_at_is P p 0 p (lit< tt) h (omega arith) ∙ one-mul (sum_num p P)

  law : (2097151 * (two_at P (part_of t) * D) ≤ 2097152 * (sum_num l P * S)) × (2097152 * (sum_num l P * S) ≤ 2097153 * (two_at P (part_of t) * D))
  unfolding part_of
  law = rw (plain l (stored_lt (t / 131072) jl), plain g g_small) at (power_law P l g (lit< tt))

  d_pos : 0 < sum_den P
  d_pos = sum_den_pos P (lit< tt)

  digits : H + d ≡ t + 8388608
  digits = omega arith

  pub log10_method_over : 63000 * ((t + 8388608) * sum_den P) ≤ 63001 * (8388608 * two_at P (part_of t))
  log10_method_over =
      rw (← digits)
      (loosen (65535 * 2147483648 * 2097152) (65536 * 2147483649 * 2097153) 63000 63001 ((H + d) * D) (8388608 * two_at P (part_of t)) (lit< tt) (lit≤ tt)
      (join_over 65535 2147483648 2097152 65536 2147483649 2097153 D S H (H + d) (sum_num l P) h (two_at P (part_of t)) 131072 (omega arith) d_pos refl series_lo (stored_above (t / 131072) jl) law.1))

  pub log10_method_under : 63000 * (8388608 * two_at P (part_of t)) ≤ 63001 * ((t + 8388608) * sum_den P)
  log10_method_under =
      rw (← digits)
      (loosen (65535 * 2147483648 * 2097151) (65536 * 2147483649 * 2097152) 63000 63001 (8388608 * two_at P (part_of t)) ((H + d) * D) (lit< tt) (lit≤ tt)
      (join_under 65535 2147483648 2097151 65536 2147483649 2097152 D S H (H + d) (sum_num l P) h (two_at P (part_of t)) 131072 (omega arith) d_pos refl series_hi (stored_below (t / 131072) jl) law.0))
