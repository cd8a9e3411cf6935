-- The reduction's and the rounding's errors: the result, times log2 10, is the fixed-point logarithm to within 10 ^ -5; and so moved up by 2 ^ -16 it lies
-- 171798 units of Q32 above it, and moved down, below. Assumes nothing.
use mathlib.Core.Path.{◌≡◌, refl, sym, ap, ◌∙◌}
use mathlib.Core.Bool.{Bool, true, false, not}
use Prim.Native.Nat.{ℕ, zero, suc, ◌+◌, ◌-◌, ◌*◌, ◌/◌, ◌^◌, ◌≤◌, ◌<◌}
use native.Mathlib.Nat.{le_trans, le-add_right, le_of_eq, le_of_lt, mul_assoc, mul-add, add-mul, one-mul, sub-add_cancel, mul-le-mul_right, le_of_mul-le-mul_right, div-mul-le_self, lt-div-mul-add}
use native.Mathlib.Omega.{arith}
use lib.Dec.{T, ltb, eqb-suc-zero, lit<, lit≤, ltb→lt, nltb→le}
use Rattle.series.specs.Near.{Relative}
use Rattle.series.proofs.Algebra.{ac}
use Rattle.fixed.specs.Fixed.{shifted}
use Rattle.fixed.proofs.Packs.{packed}
use Rattle.log10.specs.Exact.{up_sign, up_num, down_sign, down_num}
use Rattle.log10.specs.Log10.{log10_two, pack_zero}
use Rattle.power.proofs.Numbers.{P, M}

-- log2 10 over 10 ^ 14
abbrev pub K : ℕ
K = 332192809488736

pub log10_rounding : (q : ℕ) → q < 18446744073709551616 → Relative (2 ^ 24) q (2 ^ 32) (pack_zero q)
unfolding pack_zero
log10_rounding zero h = (refl, lit≤ tt, lit≤ tt)
log10_rounding (suc q) h = rw (eqb-suc-zero q) (packed (suc q) 32 h (omega arith) (lit≤ tt))

-- ---- a / c from q / P, and q from v k / P
product_le : (q v k K M Q : ℕ) → 0 < Q → q * Q ≤ v * k → k * K ≤ Q * M → q * K ≤ v * M
product_le q v k K M Q qp h g = le_of_mul-le-mul_right {k = Q} (simp ac (omega (arith, simp ac at (mul-le-mul_right K h), simp ac at (mul-le-mul_right v g)))) qp

product_ge : (m n q v k K M Q : ℕ) → 0 < Q → v * k ≤ (q + 1) * Q → m * (Q * M) ≤ n * (k * K) → m * (v * M) ≤ n * ((q + 1) * K)
product_ge m n q v k K M Q qp h g = le_of_mul-le-mul_right {k = Q} (go (q + 1) h) qp
  where
    go : (i : ℕ) → v * k ≤ i * Q → m * (v * M) * Q ≤ n * (i * K) * Q
    go i f = simp ac (omega (arith, simp ac at (mul-le-mul_right (n * K) f), simp ac at (mul-le-mul_right v g)))

-- with x = P a K, y = v c M, z = P c M, w = q K c and k = c K
atoms_over : (x y z w : ℕ) → 16777216 * x ≤ 16777217 * w → w ≤ y → y ≤ 130 * z → 100000 * x ≤ 100000 * y + z
atoms_over x y z w f g h = omega arith

atoms_under : (x y z w k : ℕ) → 16777215 * w ≤ 16777216 * x → 1000000000 * y ≤ 1000000001 * (w + k) → w ≤ y → y ≤ 130 * z → 1000000000 * k ≤ z → 100000 * y ≤ 100000 * x + z
atoms_under x y z w k f g h i j = last (first f (le_trans h i)) (second g h i j) j
  where
    first : 16777215 * w ≤ 16777216 * x → w ≤ 130 * z → 16777216 * w ≤ 16777216 * x + 130 * z
    first f h = omega arith

    second : 1000000000 * y ≤ 1000000001 * (w + k) → w ≤ y → y ≤ 130 * z → 1000000000 * k ≤ z → 5000000 * y ≤ 5000000 * (w + k) + z
    second g h i j = omega arith

    last : 16777216 * w ≤ 16777216 * x + 130 * z → 5000000 * y ≤ 5000000 * (w + k) + z → 1000000000 * k ≤ z → 100000 * y ≤ 100000 * x + z
    last p q j = omega arith

module _ (v a c : ℕ) (vl : v ≤ 130 * P) (lo : 16777215 * (v * log10_two / P) * c ≤ 16777216 * a * P) (hi : 16777216 * a * P ≤ 16777217 * (v * log10_two / P) * c) where
  abbrev q : ℕ
  q = v * log10_two / P

  q_k : q * K ≤ v * M
  q_k = product_le q v log10_two K M P (lit< tt) (div-mul-le_self (v * log10_two) P) (lit≤ tt)

  v_m : 1000000000 * (v * M) ≤ 1000000001 * ((q + 1) * K)
  v_m = product_ge 1000000000 1000000001 q v log10_two K M P (lit< tt) (simp (add-mul, one-mul) (le_of_lt (lt-div-mul-add {a = v * log10_two} {b = P} (lit< tt)))) (lit≤ tt)

  y_le : v * (c * M) ≤ 130 * (P * (c * M))
  y_le = le_trans (mul-le-mul_right (c * M) vl) (le_of_eq (mul_assoc 130 P (c * M)))

  w_le : q * K * c ≤ v * (c * M)
  w_le = le_trans (mul-le-mul_right c q_k) (le_of_eq (turn v M c))
    where
      turn : (v M c : ℕ) → v * M * c ≡ v * (c * M)
      turn v M c = simp ac

  pub log10_reduction_over : 100000 * (P * (a * K)) ≤ 100000 * (v * (c * M)) + P * (c * M)
  log10_reduction_over = atoms_over (P * (a * K)) (v * (c * M)) (P * (c * M)) (q * K * c) (go 16777216 16777217 a q c P K hi) w_le y_le
    where
      go : (m n a q c Q k : ℕ) → m * a * Q ≤ n * q * c → m * (Q * (a * k)) ≤ n * (q * k * c)
      go m n a q c Q k f = simp ac (simp ac at (mul-le-mul_right k f))

  pub log10_reduction_under : 100000 * (v * (c * M)) ≤ 100000 * (P * (a * K)) + P * (c * M)
  log10_reduction_under = atoms_under (P * (a * K)) (v * (c * M)) (P * (c * M)) (q * K * c) (c * K) (go 16777215 16777216 a q c P K lo) (more 1000000000 1000000001 q v c K M v_m) w_le y_le (omega arith)
    where
      go : (m n a q c Q k : ℕ) → m * q * c ≤ n * a * Q → m * (q * k * c) ≤ n * (Q * (a * k))
      go m n a q c Q k f = simp ac (simp ac at (mul-le-mul_right k f))

      more : (m n q v c k l : ℕ) → m * (v * l) ≤ n * ((q + 1) * k) → m * (v * (c * l)) ≤ n * (q * k * c + c * k)
      more m n q v c k l f = simp ac (simp (ac, one-mul) at (mul-le-mul_right c f))

-- ---- moved by 2 ^ -16, over C = 65536 c M
difference : (x y k : ℕ) → y ≤ x → (x - y) * k + y * k ≡ x * k
difference x y k h = sym (add-mul (x - y) y k) ∙ ap (λ (z : ℕ). z * k) (sub-add_cancel h)

module _ (a c k C : ℕ) where
  -- by cases on whether a / c is above 2 ^ -16
  moved : (b : Bool) → (T b → c < 65536 * a) → (T (not b) → 65536 * a ≤ c) → 65536 * a * k ≤ 128 * C → shifted b ((65536 * a - c + (c - 65536 * a)) * k) C + 65536 * a * k ≡ 128 * C + c * k
  moved true f g h =
      let l = f tt in
      let e : 65536 * a - c + (c - 65536 * a) ≡ 65536 * a - c = omega arith in
      rw e (omega (arith, difference (65536 * a) c k (le_of_lt l)))
  moved false f g h =
      let l = g tt in
      let e : 65536 * a - c + (c - 65536 * a) ≡ c - 65536 * a = omega arith in
      rw e (omega (arith, difference c (65536 * a) k l))

  moved_not : (b : Bool) → (T b → c < 65536 * a) → (T (not b) → 65536 * a ≤ c) → c * k ≤ 128 * C → shifted (not b) ((65536 * a - c + (c - 65536 * a)) * k) C + c * k ≡ 128 * C + 65536 * a * k
  moved_not true f g h =
      let l = f tt in
      let e : 65536 * a - c + (c - 65536 * a) ≡ 65536 * a - c = omega arith in
      rw e (omega (arith, difference (65536 * a) c k (le_of_lt l)))
  moved_not false f g h =
      let l = g tt in
      let e : 65536 * a - c + (c - 65536 * a) ≡ c - 65536 * a = omega arith in
      rw e (omega (arith, difference c (65536 * a) k l))

  up_minus : 65536 * a * k ≤ 128 * C → shifted (up_sign true a c) (up_num true a c * k) C + 65536 * a * k ≡ 128 * C + c * k
  unfolding up_sign up_num
  up_minus h = moved (ltb c (65536 * a)) (λ u. ltb→lt c (65536 * a) u) (λ u. nltb→le c (65536 * a) u) h

  up_plus : shifted (up_sign false a c) (up_num false a c * k) C ≡ 128 * C + (65536 * a * k + c * k)
  unfolding up_sign up_num
  up_plus = ap (λ (z : ℕ). 128 * C + z) (add-mul (65536 * a) c k)

  down_plus : c * k ≤ 128 * C → shifted (down_sign false a c) (down_num false a c * k) C + c * k ≡ 128 * C + 65536 * a * k
  unfolding down_sign down_num up_sign up_num
  down_plus h = moved_not (ltb c (65536 * a)) (λ u. ltb→lt c (65536 * a) u) (λ u. nltb→le c (65536 * a) u) h

  down_minus : 65536 * a * k + c * k ≤ 128 * C → shifted (down_sign true a c) (down_num true a c * k) C + (65536 * a * k + c * k) ≡ 128 * C
  unfolding down_sign down_num up_sign up_num
  down_minus h = rw (add-mul (65536 * a) c k) (sub-add_cancel h)

-- in units of 1 / (P C), with every product a number: x = P a K, y = v c M, z = P c M, k = P c K, j = 171798 C
above_plus : (A t W x y z k j : ℕ) → A ≡ t + (65536 * x + k) → W ≡ t + 65536 * y → 100000 * y ≤ 100000 * x + z → 10000 * j ≤ 26215 * z → 332 * z ≤ 100 * k → W + j ≤ A
above_plus A t W x y z k j e f g h i = omega arith

above_minus : (A t W x y z k j : ℕ) → A + 65536 * x ≡ t + k → W + 65536 * y ≡ t → 100000 * x ≤ 100000 * y + z → 10000 * j ≤ 26215 * z → 332 * z ≤ 100 * k → W + j ≤ A
above_minus A t W x y z k j e f g h i = omega arith

below_plus : (A t W x y z k j : ℕ) → A + k ≡ t + 65536 * x → W ≡ t + 65536 * y → 100000 * x ≤ 100000 * y + z → 10000 * j ≤ 26215 * z → 332 * z ≤ 100 * k → A + j ≤ W
below_plus A t W x y z k j e f g h i = omega arith

below_minus : (A t W x y z k j : ℕ) → A + (65536 * x + k) ≡ t → W + 65536 * y ≡ t → 100000 * y ≤ 100000 * x + z → 10000 * j ≤ 26215 * z → 332 * z ≤ 100 * k → A + j ≤ W
below_minus A t W x y z k j e f g h i = omega arith

unit_small : (c : ℕ) → c * K ≤ 128 * (65536 * c * M)
unit_small c = omega arith

module _ (a c v : ℕ) (over : 100000 * (P * (a * K)) ≤ 100000 * (v * (c * M)) + P * (c * M)) (under : 100000 * (v * (c * M)) ≤ 100000 * (P * (a * K)) + P * (c * M)) where
  abbrev C : ℕ
  C = 65536 * c * M

  step : 10000 * (C * 171798) ≤ 26215 * (P * (c * M))
  step = omega arith

  unit : 332 * (P * (c * M)) ≤ 100 * (P * (c * K))
  unit = omega arith

  turned : P * (65536 * a * K) ≡ 65536 * (P * (a * K))
  turned = go P a K
    where
      go : (Q a k : ℕ) → Q * (65536 * a * k) ≡ 65536 * (Q * (a * k))
      go Q a k = simp ac

  times : (x : ℕ) → P * (65536 * a * K + x) ≡ 65536 * (P * (a * K)) + P * x
  times x = mul-add P (65536 * a * K) x ∙ ap (λ (z : ℕ). z + P * x) turned

  place_plus : C * shifted false v P ≡ P * (128 * C) + 65536 * (v * (c * M))
  place_plus = go P c M v
    where
      go : (Q c m v : ℕ) → 65536 * c * m * (128 * Q + v) ≡ Q * (128 * (65536 * c * m)) + 65536 * (v * (c * m))
      go Q c m v = simp ac

  place_minus : v ≤ 128 * P → C * shifted true v P + 65536 * (v * (c * M)) ≡ P * (128 * C)
  place_minus h = ap (λ (z : ℕ). C * (128 * P - v) + z) (turn c M v) ∙ sym (mul-add C (128 * P - v) v) ∙ ap (λ (z : ℕ). C * z) (sub-add_cancel h) ∙ go P c M
    where
      turn : (c m v : ℕ) → 65536 * (v * (c * m)) ≡ 65536 * c * m * v
      turn c m v = simp ac

      go : (Q c m : ℕ) → 65536 * c * m * (128 * Q) ≡ Q * (128 * (65536 * c * m))
      go Q c m = simp ac

  -- above by 171798 units
  pub far_up : (s : Bool) → (s ≡ true → (v ≤ 128 * P) × (65536 * a * K + c * K ≤ 128 * (65536 * c * M))) → 65536 * c * M * (shifted s v P + 171798) ≤ P * shifted (up_sign s a c) (up_num s a c * K) (65536 * c * M)
  far_up false h =
      rw (mul-add C (shifted false v P) 171798)
      (above_plus (P * shifted (up_sign false a c) (up_num false a c * K) C) (P * (128 * C)) (C * shifted false v P) (P * (a * K)) (v * (c * M)) (P * (c * M)) (P * (c * K)) (C * 171798)
      (ap (λ (z : ℕ). P * z) (up_plus a c K C) ∙ mul-add P (128 * C) (65536 * a * K + c * K) ∙ ap (λ (z : ℕ). P * (128 * C) + z) (times (c * K))) place_plus under step unit)
  far_up true h =
      let m = h refl in
      rw (mul-add C (shifted true v P) 171798)
      (above_minus (P * shifted (up_sign true a c) (up_num true a c * K) C) (P * (128 * C)) (C * shifted true v P) (P * (a * K)) (v * (c * M)) (P * (c * M)) (P * (c * K)) (C * 171798)
      (go (shifted (up_sign true a c) (up_num true a c * K) C) (up_minus a c K C (le_trans (le-add_right (65536 * a * K) (c * K)) m.1))) (place_minus m.0) over step unit)
    where
      go : (A : ℕ) → A + 65536 * a * K ≡ 128 * C + c * K → P * A + 65536 * (P * (a * K)) ≡ P * (128 * C) + P * (c * K)
      go A e = ap (λ (z : ℕ). P * A + z) (sym turned) ∙ sym (mul-add P A (65536 * a * K)) ∙ ap (λ (z : ℕ). P * z) e ∙ mul-add P (128 * C) (c * K)

  -- and below
  pub far_down : (s : Bool) → (s ≡ true → (v ≤ 128 * P) × (65536 * a * K + c * K ≤ 128 * (65536 * c * M))) → P * shifted (down_sign s a c) (down_num s a c * K) (65536 * c * M) + 65536 * c * M * 171798 ≤ 65536 * c * M * shifted s v P
  far_down false h =
      below_plus (P * shifted (down_sign false a c) (down_num false a c * K) C) (P * (128 * C)) (C * shifted false v P) (P * (a * K)) (v * (c * M)) (P * (c * M)) (P * (c * K)) (C * 171798)
      (go (shifted (down_sign false a c) (down_num false a c * K) C) (down_plus a c K C (unit_small c))) place_plus over step unit
    where
      go : (A : ℕ) → A + c * K ≡ 128 * C + 65536 * a * K → P * A + P * (c * K) ≡ P * (128 * C) + 65536 * (P * (a * K))
      go A e = sym (mul-add P A (c * K)) ∙ ap (λ (z : ℕ). P * z) e ∙ mul-add P (128 * C) (65536 * a * K) ∙ ap (λ (z : ℕ). P * (128 * C) + z) turned
  far_down true h =
      let m = h refl in
      below_minus (P * shifted (down_sign true a c) (down_num true a c * K) C) (P * (128 * C)) (C * shifted true v P) (P * (a * K)) (v * (c * M)) (P * (c * M)) (P * (c * K)) (C * 171798)
      (go (shifted (down_sign true a c) (down_num true a c * K) C) (down_minus a c K C m.1)) (place_minus m.0) under step unit
    where
      go : (A : ℕ) → A + (65536 * a * K + c * K) ≡ 128 * C → P * A + (65536 * (P * (a * K)) + P * (c * K)) ≡ P * (128 * C)
      go A e = ap (λ (z : ℕ). P * A + z) (sym (times (c * K))) ∙ sym (mul-add P A (65536 * a * K + c * K)) ∙ ap (λ (z : ℕ). P * z) e
