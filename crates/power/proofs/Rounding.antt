-- The rounding's error, and the three errors together: the float of two to the power w - 128 against the exact two-power of any fraction near w.
-- The exponent is put into its field, so one rounding is left, to 24 digits. Assumes nothing.
use mathlib.Core.Path.{◌≡◌, refl, ap, ◌∙◌}
use mathlib.Core.Bool.{false}
use Prim.Native.Nat.{ℕ, ◌+◌, ◌-◌, ◌*◌, ◌/◌, ◌%◌, ◌^◌, ◌≤◌, ◌<◌}
use native.Mathlib.Nat.{mul-pos, mul-le-mul_right, le_of_mul-le-mul_right, mod-lt}
use native.Mathlib.Omega.{arith}
use lib.Dec.{lit<, lit≤}
use lib.Pow.{pow_pos, pow-add}
use lib.Ieee.{binary32, of_bits}
use lib.Ieee.Exact.{HasValue}
use Rattle.series.specs.Near.{Relative}
use Rattle.series.proofs.Algebra.{ac, loosen}
use Rattle.series.proofs.Nearness.{relative_value}
use Rattle.fixed.proofs.Fields.{pattern_carry, value_other}
use Rattle.power.specs.Exact.{sum_num, sum_den}
use Rattle.power.specs.Power.{fraction_of, power_of}
use Rattle.power.proofs.Numbers.{P}
use Rattle.power.proofs.TwoPower.{two_at}
use Rattle.power.proofs.Moves.{Ratio, sum_den_pos}
use Rattle.power.proofs.Method.{fraction_lo, fraction_hi, power_method_over, power_method_under}

-- ---- 24 digits
abbrev pub digits : ℕ → ℕ
digits h = (fraction_of h + 256) / 512

pub digits_lo : (h : ℕ) → h < P → 8388608 ≤ digits h
digits_lo h l = omega (arith, fraction_lo h l)

pub digits_hi : (h : ℕ) → h < P → digits h ≤ 16777216
digits_hi h l = omega (arith, fraction_hi h l)

-- the rounding's error of exp2, exp and pow10: the significand to 24 digits. The exponent adds none
power_rounding_over : (h : ℕ) → h < P → 16777216 * (512 * digits h) ≤ 16777217 * fraction_of h
power_rounding_over h l = omega (arith, fraction_lo h l)

power_rounding_under : (h : ℕ) → h < P → 16777216 * fraction_of h ≤ 16777217 * (512 * digits h)
power_rounding_under h l = omega (arith, fraction_lo h l)

module _ (w : ℕ) (lo : 2 * P ≤ w) (hi : w < 255 * P) where
  abbrev h : ℕ
  h = w % P

  abbrev E : ℕ
  E = 2 ^ (w / P - 1)

  h_lt : h < P
  h_lt = mod-lt w (lit< tt)

  pub power_value : HasValue (power_of w) false (digits (w % P) * 2 ^ (w / P - 1)) (2 ^ 150)
  unfolding power_of
  power_value =
      value_other (of_bits binary32 ((w / P - 2) * 8388608 + digits h)) false (digits h * 2 ^ (w / P - 2)) (2 ^ 149) (digits h * E) (2 ^ 150) (pow_pos 149)
      (rw (ap (λ (i : ℕ). 2 ^ i) back ∙ pow-add 2 1 (w / P - 2)) (turn (digits h) (2 ^ (w / P - 2)) (2 ^ 149) (2 ^ 150) refl))
      (pattern_carry (w / P - 2) (digits h) (omega arith) (digits_lo h h_lt) (digits_hi h h_lt))
    where
      back : w / P - 1 ≡ 1 + (w / P - 2)
      back = omega arith

      turn : (q x a b : ℕ) → 2 * a ≡ b → q * (2 * x) * a ≡ q * x * b
      turn q x a b e = rw (← e) (simp ac)

  whole_power : two_at P w ≡ 2 * E * sum_num h P
  unfolding two_at
  whole_power = ap (λ (z : ℕ). z * sum_num h P) (ap (λ (i : ℕ). 2 ^ i) back ∙ pow-add 2 1 (w / P - 1))
    where
      back : w / P ≡ 1 + (w / P - 1)
      back = omega arith

-- ---- the three together, with every number a variable
join_under : (m₁ m₂ m₃ n₁ n₂ n₃ U Dp Dc E S f q G W : ℕ) → 0 < Dp → 0 < G → m₁ * (U * Dp) ≤ n₁ * (2 * E * S * Dc) → m₂ * (2 * G * W * S) ≤ n₂ * (f * Dp) → m₃ * f ≤ n₃ * (G * q)
    → m₁ * m₂ * m₃ * (U * W) ≤ n₁ * n₂ * n₃ * (q * E * Dc)
join_under m₁ m₂ m₃ n₁ n₂ n₃ U Dp Dc E S f q G W dp gp h₁ h₂ h₃ =
    le_of_mul-le-mul_right {k = G * Dp} (simp ac (omega (arith, simp ac at (mul-le-mul_right (m₂ * m₃ * G * W) h₁), simp ac at (mul-le-mul_right (n₁ * m₃ * E * Dc) h₂), simp ac at (mul-le-mul_right (n₁ * n₂ * E * Dc * Dp) h₃)))) (mul-pos gp dp)

join_over : (m₁ m₂ m₃ n₁ n₂ n₃ U Dp Dc E S f q G W : ℕ) → 0 < Dp → 0 < G → m₁ * (2 * E * S * Dc) ≤ n₁ * (U * Dp) → m₂ * (f * Dp) ≤ n₂ * (2 * G * W * S) → m₃ * (G * q) ≤ n₃ * f
    → m₁ * m₂ * m₃ * (q * E * Dc) ≤ n₁ * n₂ * n₃ * (U * W)
join_over m₁ m₂ m₃ n₁ n₂ n₃ U Dp Dc E S f q G W dp gp h₁ h₂ h₃ =
    le_of_mul-le-mul_right {k = G * Dp} (simp ac (omega (arith, simp ac at (mul-le-mul_right (n₂ * n₃ * G * W) h₁), simp ac at (mul-le-mul_right (m₁ * n₃ * E * Dc) h₂), simp ac at (mul-le-mul_right (m₁ * m₂ * E * Dc * Dp) h₃)))) (mul-pos gp dp)

lift_under : (B b U F W q E D : ℕ) → B * (U * W) ≤ b * (q * E * D) → B * U * (F * W) ≤ b * (q * E) * (F * D)
lift_under B b U F W q E D k = simp ac (simp ac at (mul-le-mul_right F k))

lift_over : (B b U F W q E D : ℕ) → b * (q * E * D) ≤ B * (U * W) → b * (q * E) * (F * D) ≤ B * U * (F * W)
lift_over B b U F W q E D k = simp ac (simp ac at (mul-le-mul_right F k))

-- A / c near w of Q32: the power of w is near the two-power of A / c - 128
pub power_near : (w c A : ℕ) → 2 * P ≤ w → w < 255 * P → Ratio (two_at P w * sum_den c) (two_at c A * sum_den P) → Relative (2 ^ 20) (two_at c A) (2 ^ 128 * sum_den c) (power_of w)
power_near w c A lo hi r =
    let hl = h_lt w lo hi in
    let x = h w lo hi in
    let e = E w lo hi in
    let q = digits x in
    let k = rw (whole_power w lo hi) at r in
    relative_value 1048576 (two_at c A) (2 ^ 128 * sum_den c) (q * e) (2 ^ 150) (power_of w) (pow_pos 150) (power_value w lo hi)
    (lift_under 1048575 1048576 (two_at c A) (2 ^ 128) 4194304 q e (sum_den c)
    (loosen (1900000 * 33554432 * 16777216) (1900001 * 33554433 * 16777217) 1048575 1048576 (two_at c A * 4194304) (q * e * sum_den c) (lit< tt) (lit≤ tt)
    (join_under 1900000 33554432 16777216 1900001 33554433 16777217 (two_at c A) (sum_den P) (sum_den c) e (sum_num x P) (fraction_of x) q 512 4194304 (sum_den_pos P (lit< tt)) (lit< tt) k.under (power_method_under x hl) (power_rounding_under x hl))))
    (lift_over 1048577 1048576 (two_at c A) (2 ^ 128) 4194304 q e (sum_den c)
    (loosen (1900000 * 33554432 * 16777216) (1900001 * 33554433 * 16777217) 1048576 1048577 (q * e * sum_den c) (two_at c A * 4194304) (lit< tt) (lit≤ tt)
    (join_over 1900000 33554432 16777216 1900001 33554433 16777217 (two_at c A) (sum_den P) (sum_den c) e (sum_num x P) (fraction_of x) q 512 4194304 (sum_den_pos P (lit< tt)) (lit< tt) k.over (power_method_over x hl) (power_rounding_over x hl))))
