-- The reduction's error: how far the fixed-point argument is from the exact one. It is less than one unit of Q32 for the two-power, and for another base
-- one unit for the cut of the argument, one for that of the product, and what the base's logarithm lost, once for each whole number. Assumes nothing.
use mathlib.Core.Path.{◌≡◌, sym}
use mathlib.Core.Bool.{Bool, true, false}
use Prim.Native.Nat.{ℕ, ◌+◌, ◌-◌, ◌*◌, ◌/◌, ◌^◌, ◌≤◌, ◌<◌}
use native.Mathlib.Nat.{le_trans, le_of_eq, le_of_lt, mul_comm, mul_assoc, add-mul, mul-sub, mul-pos, mul-le-mul_left, mul-le-mul_right, le_of_mul-le-mul_right, mul_right_comm, div-mul-le_self, lt-div-mul-add, le-div_iff_mul-le, div-lt_iff_lt-mul}
use native.Mathlib.Omega.{arith}
use lib.Dec.{lit<, lit≤}
use lib.Pow.{pow_pos}
use Rattle.series.specs.Near.{Relative}
use Rattle.series.proofs.Algebra.{ac}
use Rattle.series.proofs.Nearness.{relative_other}
use Rattle.fixed.specs.Fixed.{shifted}
use Rattle.power.specs.Exact.{sum_den, two_num, two_den}
use Rattle.power.specs.Power.{power_of}
use Rattle.power.proofs.Numbers.{P, M}
use Rattle.power.proofs.TwoPower.{two_at}
use Rattle.power.proofs.Moves.{Ratio, sum_den_pos, reduction}
use Rattle.power.proofs.Signs.{two_shifted}
use Rattle.power.proofs.Rounding.{power_near}

-- w near ± a / c + 128, at most 50 units of Q32 away
ratio : (s : Bool) (a c w d : ℕ) → 0 < c → d ≤ 50 → c * w ≤ P * shifted s a c + c * d → P * shifted s a c ≤ c * w + c * d → Ratio (two_at P w * sum_den c) (two_at c (shifted s a c) * sum_den P)
ratio s a c w d cp dl h k = reduction P w c (shifted s a c) d (lit< tt) cp h k (omega arith) (omega arith)

-- the power of w is near the two-power of ± a / c
signed_near : (s : Bool) (a c w : ℕ) → 0 < c → a ≤ 128 * c → 2 * P ≤ w → w < 255 * P → Ratio (two_at P w * sum_den c) (two_at c (shifted s a c) * sum_den P)
    → Relative (2 ^ 20) (two_num s a c) (two_den s a c) (power_of w)
signed_near s a c w cp al lo hi r =
    relative_other 1048576 (two_at c (shifted s a c)) (2 ^ 128 * sum_den c) (two_num s a c) (two_den s a c) (power_of w) (mul-pos {m = 2 ^ 128} (pow_pos 128) (sum_den_pos c cp)) (sym (two_shifted s a c cp al))
    (power_near w c (shifted s a c) lo hi r)

-- ---- the product with a base's logarithm, with every number a variable: v is a / c, k is K / M and u is their product, all of scale Q and cut
product_le : (a c v k u K M Q : ℕ) → 0 < Q → v * c ≤ a * Q → k * M ≤ K * Q → u * Q ≤ v * k → c * M * u ≤ Q * (a * K)
product_le a c v k u K M Q qp h₁ h₂ h₃ =
    le_of_mul-le-mul_right {k = Q} (simp ac (omega (arith, simp ac at (mul-le-mul_right (c * M) h₃), simp ac at (mul-le-mul_right (v * c) h₂), simp ac at (mul-le-mul_right (K * Q) h₁)))) qp

product_ge : (a c v k u K M Q B J : ℕ) → 0 < Q → a * Q ≤ (v + 1) * c → K * Q ≤ (k + 1) * M → v * k ≤ u * Q + Q → v ≤ B * Q → K ≤ J * M → Q * (a * K) ≤ c * M * u + c * M * (1 + B + J)
product_ge a c v k u K M Q B J qp h₁ h₂ h₃ h₄ h₅ =
    let s : v * K ≤ (u + 1 + B) * M = le_of_mul-le-mul_right {k = Q} (simp ac (omega (arith, simp ac at (mul-le-mul_right v h₂), simp ac at (mul-le-mul_right M h₃), simp ac at (mul-le-mul_right M h₄)))) qp in
    simp ac (omega (arith, simp ac at (mul-le-mul_right K h₁), simp ac at (mul-le-mul_right c s), simp ac at (mul-le-mul_right c h₅)))

-- the same for ± a K / (c M) + 128
shift_over : (s : Bool) (x y c e Q : ℕ) → c * x ≤ Q * y → Q * y ≤ c * x + c * e → c * shifted s x Q ≤ Q * shifted s y c + c * e
shift_over false x y c e Q h k = simp ac (omega (arith, simp ac at h))
shift_over true x y c e Q h k = rw (mul-sub c (128 * Q) x, mul-sub Q (128 * c) y, turn c Q) (go (c * x) (Q * y) (c * e) h k)
  where
    turn : (c Q : ℕ) → Q * (128 * c) ≡ c * (128 * Q)
    turn c Q = simp ac

    go : (x y e : ℕ) → x ≤ y → y ≤ x + e → c * (128 * Q) - x ≤ c * (128 * Q) - y + e
    go x y e h k = omega arith

shift_under : (s : Bool) (x y c e Q : ℕ) → c * x ≤ Q * y → Q * y ≤ c * x + c * e → Q * shifted s y c ≤ c * shifted s x Q + c * e
shift_under false x y c e Q h k = simp ac (omega (arith, simp ac at k))
shift_under true x y c e Q h k = rw (mul-sub c (128 * Q) x, mul-sub Q (128 * c) y, turn c Q) (go (c * x) (Q * y) (c * e) h k)
  where
    turn : (c Q : ℕ) → Q * (128 * c) ≡ c * (128 * Q)
    turn c Q = simp ac

    go : (x y e : ℕ) → x ≤ y → y ≤ x + e → c * (128 * Q) - y ≤ c * (128 * Q) - x + e
    go x y e h k = omega arith

cut_over : (a c : ℕ) → 0 < c → a * P ≤ (a * P / c + 1) * c
cut_over a c cp = simp add-mul (omega (arith, lt-div-mul-add {a = a * P} cp))

-- ---- a base whose log2 is K / M, and k of Q32, cut, at a number of size at most B
module _ (K k B : ℕ) (kl : k * M ≤ K * P) (kh : K * P ≤ (k + 1) * M) (K4 : K ≤ 4 * M) (BK : B * K ≤ 126 * M) (Bl : B ≤ 40) where
  Bk : B * k ≤ 126 * P
  Bk = le_of_mul-le-mul_right {k = M} (le_trans (le_of_eq (mul_assoc B k M)) (le_trans (mul-le-mul_left B kl) (le_trans (le_of_eq (sym (mul_assoc B K P))) (le_trans (mul-le-mul_right P BK) (lit≤ tt))))) (lit< tt)

  module _ (a c : ℕ) (cp : 0 < c) (al : a ≤ B * c) where
    v_le : a * P / c ≤ B * P
    v_le = le_of_mul-le-mul_right {k = c} (le_trans (div-mul-le_self (a * P) c) (le_trans (mul-le-mul_right P al) (le_of_eq (mul_right_comm B c P)))) cp

    pub product_small : a * P / c * k / P ≤ 126 * P
    product_small = le_trans (le_of_mul-le-mul_right {k = P} (le_trans (div-mul-le_self (a * P / c * k) P) (le_trans (mul-le-mul_right k v_le) (le_of_eq (mul_right_comm B P k)))) (lit< tt)) Bk

    pub size_small : a * K ≤ 128 * (c * M)
    size_small = le_trans (mul-le-mul_right K al) (le_trans (le_of_eq (mul_right_comm B c K)) (le_trans (mul-le-mul_right c BK) (omega arith)))

    -- the reduction's error of exp (B = 3), of pow10 (B = 37) and of tanh (B = 10): from below none, from above B + 5 units
    base_le : c * M * (a * P / c * k / P) ≤ P * (a * K)
    base_le = product_le a c (a * P / c) k (a * P / c * k / P) K M P (lit< tt) (div-mul-le_self (a * P) c) kl (div-mul-le_self (a * P / c * k) P)

    base_ge : P * (a * K) ≤ c * M * (a * P / c * k / P) + c * M * (1 + B + 4)
    base_ge = product_ge a c (a * P / c) k (a * P / c * k / P) K M P B 4 (lit< tt) (cut_over a c cp) kh (le_of_lt (lt-div-mul-add {a = a * P / c * k} {b = P} (lit< tt))) v_le K4

    place_lo : (s : Bool) (u : ℕ) → u ≤ 126 * P → 2 * P ≤ shifted s u P
    place_lo true u h = omega arith
    place_lo false u h = omega arith

    place_hi : (s : Bool) (u : ℕ) → u ≤ 126 * P → shifted s u P < 255 * P
    place_hi true u h = omega arith
    place_hi false u h = omega arith

    pub base_reduction : (s : Bool) → Ratio (two_at P (shifted s (a * P / c * k / P) P) * sum_den (c * M)) (two_at (c * M) (shifted s (a * K) (c * M)) * sum_den P)
    base_reduction s =
        let u = a * P / c * k / P in
        ratio s (a * K) (c * M) (shifted s u P) (1 + B + 4) (mul-pos cp (lit< tt)) (omega arith)
        (shift_over s u (a * K) (c * M) (1 + B + 4) P base_le base_ge)
        (shift_under s u (a * K) (c * M) (1 + B + 4) P base_le base_ge)

    pub base_near : (s : Bool) → Relative (2 ^ 20) (two_num s (a * K) (c * M)) (two_den s (a * K) (c * M)) (power_of (shifted s (a * P / c * k / P) P))
    base_near s =
        let u = a * P / c * k / P in
        signed_near s (a * K) (c * M) (shifted s u P) (mul-pos cp (lit< tt)) size_small (place_lo s u product_small) (place_hi s u product_small) (base_reduction s)

-- ---- the two-power itself: w is ± a / c + 128, cut
module _ (s : Bool) (a c : ℕ) (cp : 0 < c) (lo : 2 * c ≤ shifted s a c) (hi : shifted s a c < 255 * c) where
  pub spot_lo : 2 * P ≤ shifted s a c * P / c
  spot_lo = (le-div_iff_mul-le cp).1 (omega arith)

  pub spot_hi : shifted s a c * P / c < 255 * P
  spot_hi = (div-lt_iff_lt-mul cp).1 (omega arith)

  small : (s : Bool) → 2 * c ≤ shifted s a c → shifted s a c < 255 * c → a ≤ 128 * c
  small true l h = omega arith
  small false l h = omega arith

  pub exp2_reduction : (c * (shifted s a c * P / c) ≤ P * shifted s a c + c * 1) × (P * shifted s a c ≤ c * (shifted s a c * P / c) + c * 1)
  exp2_reduction = (omega (arith, div-mul-le_self (shifted s a c * P) c, mul_comm c (shifted s a c * P / c)), omega (arith, lt-div-mul-add {a = shifted s a c * P} cp, mul_comm c (shifted s a c * P / c)))

  pub spot_near : Relative (2 ^ 20) (two_num s a c) (two_den s a c) (power_of (shifted s a c * P / c))
  spot_near = signed_near s a c (shifted s a c * P / c) cp (small s lo hi) spot_lo spot_hi (ratio s a c (shifted s a c * P / c) 1 cp (lit≤ tt) exp2_reduction.0 exp2_reduction.1)
