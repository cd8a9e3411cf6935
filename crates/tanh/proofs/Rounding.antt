-- The rounding's error: (P - e) / (P + e) in Q31, cut, then packed, against (Y - X) / (Y + X), where e / P is near X / Y. Assumes nothing.
use mathlib.Core.Path.{◌≡◌, ap, ◌∙◌}
use Prim.Native.Nat.{ℕ, ◌+◌, ◌*◌, ◌≤◌, ◌<◌}
use native.Mathlib.Nat.{le_trans, le_of_eq, mul_comm, mul_assoc, add-mul, one-mul, mul-le-mul, mul-le-mul_left, mul-le-mul_right, le_of_mul-le-mul_right}
use native.Mathlib.Omega.{arith}
use Rattle.series.proofs.Algebra.{ac}
use Rattle.power.proofs.Numbers.{P}

-- e / P is X / Y to one part in 900000, and one unit
pub record Partner (e X Y : ℕ) : Type 0 where
  pub over : 900000 * (e * Y) ≤ 900001 * (P * X)
  pub under : 900000 * (P * X) ≤ 900001 * ((e + 1) * Y)

-- with d = P - e and Z - 2X = Y - X: the two differ by 2 (P X - e Y) / ((P + e) (X + Y))
cross : (d e s X B Y Z : ℕ) → d + e ≡ s → B + X ≡ Y → X + Y ≡ Z → d * Z + 2 * (e * Y) ≡ B * (s + e) + 2 * (s * X)
cross d e s X B Y Z p q r = rw (← p, ← r, ← q) (simp ac (omega arith))

module _ (e X B Y Z d : ℕ) (h : Partner e X Y) (el : e ≤ P) (ed : d + e ≡ P) (by : B + X ≡ Y) (xy : X + Y ≡ Z) where
  wide : P * Y ≤ (P + e) * Z
  wide = mul-le-mul {n₁ = P} {m₁ = Y} {n₂ = P + e} {m₂ = Z} (omega arith) (omega arith)

  apart : d * Z + 2 * (e * Y) ≡ B * (P + e) + 2 * (P * X)
  apart = cross d e P X B Y Z ed by xy

  e_y : e * Y ≤ P * Y
  e_y = mul-le-mul_right Y el

  XY : P * X ≤ P * Y
  XY = mul-le-mul_left P (omega arith)

  -- to one part in 350000
  upper : 350000 * (d * Z) ≤ 350000 * (B * (P + e)) + (P + e) * Z
  upper = go (e * Y) (P * X) ((P + e) * Z) (d * Z) (B * (P + e)) Y (le_trans h.under (le_of_eq (ap (λ (z : ℕ). 900001 * z) (add-mul e 1 Y ∙ ap (λ (z : ℕ). e * Y + z) (one-mul Y))))) wide apart e_y
    where
      go : (e_y PX W dZ BP y : ℕ) → 900000 * PX ≤ 900001 * (e_y + y) → P * y ≤ W → dZ + 2 * e_y ≡ BP + 2 * PX → e_y ≤ P * y → 350000 * dZ ≤ 350000 * BP + W
      go e_y PX W dZ BP y f g k l = omega arith

  lower : 350000 * (B * (P + e)) ≤ 350000 * (d * Z) + (P + e) * Z
  lower = omega (arith, h.over, wide, apart, XY)

  module _ (q x w : ℕ) (qd : q * (P + e) ≤ d * 2147483648) (dq : d * 2147483648 ≤ (q + 1) * (P + e)) (ql : q ≤ 2147483648)
      (lo : 16777215 * q * w ≤ 16777216 * x * 2147483648) (hi : 16777216 * x * 2147483648 ≤ 16777217 * q * w) where
    s_pos : 0 < P + e
    s_pos = omega arith

    -- the cut
    cut_upper : 350000 * (q * Z) ≤ 2147483648 * (350000 * B + Z)
    cut_upper = le_of_mul-le-mul_right {k = P + e} (go (P + e) 350000 2147483648 q Z d B qd upper) s_pos
      where
        go : (s G H q Z d B : ℕ) → q * s ≤ d * H → G * (d * Z) ≤ G * (B * s) + s * Z → G * (q * Z) * s ≤ H * (G * B + Z) * s
        go s G H q Z d B f g = simp ac (omega (arith, simp ac at (mul-le-mul_right (G * Z) f), simp ac at (mul-le-mul_right H g)))

    cut_lower : 2147483648 * (350000 * B) ≤ 350000 * ((q + 1) * Z) + 2147483648 * Z
    cut_lower = le_of_mul-le-mul_right {k = P + e} (go (P + e) 350000 2147483648 (q + 1) Z d B dq lower) s_pos
      where
        go : (s G H r Z d B : ℕ) → d * H ≤ r * s → G * (B * s) ≤ G * (d * Z) + s * Z → H * (G * B) * s ≤ (G * (r * Z) + H * Z) * s
        go s G H r Z d B f g = simp ac (omega (arith, simp ac at (mul-le-mul_right (G * Z) f), simp ac at (mul-le-mul_right H g)))

    -- and the packing: at most 1 / 2 ^ 18 in all
    qw : q * w * Z ≤ 2147483648 * (w * Z)
    qw = le_trans (le_of_eq (mul_assoc q w Z)) (mul-le-mul_right (w * Z) ql)

    pub tanh_rounding_over : 262144 * (x * Z) ≤ 262144 * (B * w) + Z * w
    tanh_rounding_over = go (x * Z) (q * w * Z) (B * w) (Z * w) (first x w q Z hi) (second w q Z B cut_upper) (le_trans qw (le_of_eq (ap (λ (z : ℕ). 2147483648 * z) (mul_comm w Z))))
      where
        first : (x w q Z : ℕ) → 16777216 * x * 2147483648 ≤ 16777217 * q * w → 16777216 * (2147483648 * (x * Z)) ≤ 16777217 * (q * w * Z)
        first x w q Z f = simp ac (simp ac at (mul-le-mul_right Z f))

        second : (w q Z B : ℕ) → 350000 * (q * Z) ≤ 2147483648 * (350000 * B + Z) → 350000 * (q * w * Z) ≤ 2147483648 * (350000 * (B * w) + Z * w)
        second w q Z B f = simp ac (simp ac at (mul-le-mul_right w f))

        go : (xZ qwZ Bw Zw : ℕ) → 16777216 * (2147483648 * xZ) ≤ 16777217 * qwZ → 350000 * qwZ ≤ 2147483648 * (350000 * Bw + Zw) → qwZ ≤ 2147483648 * Zw → 262144 * xZ ≤ 262144 * Bw + Zw
        go xZ qwZ Bw Zw f g k = omega arith

    pub tanh_rounding_under : 262144 * (B * w) ≤ 262144 * (x * Z) + Z * w
    tanh_rounding_under = go (x * Z) (q * w * Z) (B * w) (Z * w) (first x w q Z lo) (second w q Z B cut_lower) (le_trans qw (le_of_eq (ap (λ (z : ℕ). 2147483648 * z) (mul_comm w Z))))
      where
        first : (x w q Z : ℕ) → 16777215 * q * w ≤ 16777216 * x * 2147483648 → 16777215 * (q * w * Z) ≤ 16777216 * (2147483648 * (x * Z))
        first x w q Z f = simp ac (simp ac at (mul-le-mul_right Z f))

        second : (w q Z B : ℕ) → 2147483648 * (350000 * B) ≤ 350000 * ((q + 1) * Z) + 2147483648 * Z → 2147483648 * (350000 * (B * w)) ≤ 350000 * (q * w * Z + Z * w) + 2147483648 * (Z * w)
        second w q Z B f = simp ac (simp (ac, one-mul) at (mul-le-mul_right w f))

        go : (xZ qwZ Bw Zw : ℕ) → 16777215 * qwZ ≤ 16777216 * (2147483648 * xZ) → 2147483648 * (350000 * Bw) ≤ 350000 * (qwZ + Zw) + 2147483648 * Zw → qwZ ≤ 2147483648 * Zw → 262144 * Bw ≤ 262144 * xZ + Zw
        go xZ qwZ Bw Zw f g k = omega arith
