-- From 10 on E is at least 2 ^ 20, so that the curve is 1 to within 2 ^ -18. Assumes nothing.
use mathlib.Core.Path.{◌≡◌}
use mathlib.Core.Bool.{Bool, true, false}
use Prim.Native.Nat.{ℕ, ◌+◌, ◌-◌, ◌*◌, ◌%◌, ◌≤◌, ◌<◌}
use native.Mathlib.Nat.{le_trans, mul-pos, mul-le-mul, mul-le-mul_right, le_of_mul-le-mul_right, le-div_iff_mul-le}
use native.Mathlib.Omega.{arith}
use lib.Dec.{lit<}
use lib.Pow.{pow_mono}
use Rattle.power.specs.Exact.{sum_num, sum_den, ceiling, two_num, two_den}
use Rattle.power.proofs.TwoPower.{two_hi}
use Rattle.power.proofs.Moves.{sum_ge, sum_mono}
use Rattle.power.proofs.Signs.{ceiling_ge, ceiling_lt}
use Rattle.power.proofs.Numbers.{M}
use Rattle.tanh.proofs.Pair.{K, lesser, greater}

module _ (a c : ℕ) (cp : 0 < c) (al : 10 * c ≤ a) where
  abbrev v : ℕ
  v = a * K

  abbrev d : ℕ
  d = c * M

  dp : 0 < d
  dp = mul-pos cp (lit< tt)

  twenty : 20 * d ≤ v
  twenty = omega arith

  pub far : (s : Bool) → 524288 * lesser s (two_num s (a * K) (c * M)) (two_den s (a * K) (c * M)) ≤ greater s (two_num s (a * K) (c * M)) (two_den s (a * K) (c * M))
  unfolding two_num two_den
  far false =
      le_trans (mul-le-mul_right (sum_den d) (omega arith)) (mul-le-mul {n₁ = 1048576} (pow_mono {i = 20} ((le-div_iff_mul-le dp).1 twenty)) (sum_ge (v % d) d))
  far true =
      let m = ceiling v d in
      let ml : 20 ≤ m = le_of_mul-le-mul_right {k = d} (le_trans twenty (ceiling_ge v d dp)) dp in
      let xl : sum_num (m * d - v) d ≤ 2 * sum_den d = le_trans (sum_mono (m * d - v) d d (omega (arith, ceiling_lt v d dp))) (two_hi d) in
      le_trans (go (sum_num (m * d - v) d) (sum_den d) xl) (mul-le-mul_right (sum_den d) (pow_mono {i = 20} ml))
    where
      go : (x y : ℕ) → x ≤ 2 * y → 524288 * x ≤ 1048576 * y
      go x y h = omega arith

-- 1 against (Y - X) / (Y + X)
pub far_over : (X Y B Z : ℕ) → 524288 * X ≤ Y → B + X ≡ Y → X + Y ≡ Z → 262144 * (1 * Z) ≤ 262144 * (B * 1) + Z * 1
far_over X Y B Z h e f = omega arith

pub far_under : (X Y B Z : ℕ) → B + X ≡ Y → X + Y ≡ Z → 262144 * (B * 1) ≤ 262144 * (1 * Z) + Z * 1
far_under X Y B Z e f = omega arith
