-- What each test of the three curves tells, with the numbers as the program writes them. Assumes nothing.
use mathlib.Core.Path.{◌≡◌, sym, ◌∙◌, subst}
use mathlib.Core.Bool.{Bool, true, false, ◌&&◌}
use Prim.Native.Nat.{ℕ, ◌-◌, ◌≤◌, ◌<◌}
use native.Mathlib.Omega.{arith}
use lib.Dec.{T}
use lib.Ieee.{Float, binary32, of_bits, neg, lt, le, is_nan}
use lib.Ieee.Bits.{is_true}
use lib.Ieee.Fits.{and_l, and_r}
use Rattle.fixed.specs.Fixed.{small, shifted, place_of, size_of}
use Rattle.fixed.proofs.Order.{on, off, other_off, not_lt, not_le, is_no_number}
use Rattle.power.specs.Power.{zero_f, exp2_low, exp2_high, exp_low, ten_low, ten_high, log2_e, log2_ten, product_of, power_of, fall_of, exp2_of, exp_of, pow10_of}
use Rattle.power.specs.Near.{Exp2Near, ExpNear, Pow10Near}
use Rattle.power.proofs.Curves.{exp2_small, exp2_middle, exp2_near, exp_near, pow10_near, ten_is}
use Rattle.power.proofs.Ranges.{Room, exp2_room, exp_room, ten_room}

module _ (t : Float) where
  -- ---- exp2, from -126 to below 127
  inside : (le (neg (of_bits binary32 1123811328)) t && lt t (of_bits binary32 1123942400)) ≡ true → T (le exp2_low t) × T (lt t exp2_high)
  unfolding of_bits neg
  inside e = (and_l (le exp2_low t) (lt t exp2_high) (on e), and_r (le exp2_low t) (lt t exp2_high) (on e))

  pub exp2_fits : (le (neg (of_bits binary32 1123811328)) t && lt t (of_bits binary32 1123942400)) ≡ true → T (small t)
  exp2_fits e = let i = inside e in exp2_small t i.0 i.1

  pub exp2_from : (le (neg (of_bits binary32 1123811328)) t && lt t (of_bits binary32 1123942400)) ≡ true → 8589934592 ≤ place_of t
  exp2_from e = let i = inside e in (exp2_room t i.0 i.1).0

  pub exp2_to : (le (neg (of_bits binary32 1123811328)) t && lt t (of_bits binary32 1123942400)) ≡ true → place_of t < 1095216660480
  exp2_to e = let i = inside e in (exp2_room t i.0 i.1).1

  pub exp2_is : (le (neg (of_bits binary32 1123811328)) t && lt t (of_bits binary32 1123942400)) ≡ true → exp2_of t ≡ power_of (place_of t)
  exp2_is e = let i = inside e in exp2_middle t i.0 i.1

  pub exp2_nan : is_nan t ≡ true → exp2_of t ≡ t
  exp2_nan e = let n = is_no_number t e in (exp2_near t).no_number n ∙ sym n

  pub exp2_low_is : lt t (neg (of_bits binary32 1123811328)) ≡ true → exp2_of t ≡ of_bits binary32 0
  unfolding of_bits neg
  exp2_low_is e = (exp2_near t).low (on e)

  -- a number outside, and not below, is above
  pub exp2_high_is : (le (neg (of_bits binary32 1123811328)) t && lt t (of_bits binary32 1123942400)) ≡ false → is_nan t ≡ false → lt t (neg (of_bits binary32 1123811328)) ≡ false → exp2_of t ≡ of_bits binary32 2139095040
  unfolding of_bits neg
  exp2_high_is e n l = (exp2_near t).high (not_lt t exp2_high (off n) (unfold is_nan in tt) (other_off (le exp2_low t) (lt t exp2_high) (off e) (not_lt t exp2_low (off n) (unfold is_nan in tt) (off l))))

  pub exp2_met : (r : Float) → exp2_of t ≡ r → Exp2Near t r
  exp2_met r e = subst (Exp2Near t) e (exp2_near t)

  -- ---- exp, from -3 to 0
  exp_inside : (le (neg (of_bits binary32 1077936128)) t && le t (of_bits binary32 0)) ≡ true → T (le exp_low t && le t zero_f)
  unfolding of_bits neg
  exp_inside e = on e

  room : (le (neg (of_bits binary32 1077936128)) t && le t (of_bits binary32 0)) ≡ true → Room t log2_e
  room e = let i = exp_inside e in exp_room t (and_l (le exp_low t) (le t zero_f) i) (and_r (le exp_low t) (le t zero_f) i)

  pub exp_fits : (le (neg (of_bits binary32 1077936128)) t && le t (of_bits binary32 0)) ≡ true → T (small t)
  exp_fits e = (room e).narrow

  pub exp_size_le : (le (neg (of_bits binary32 1077936128)) t && le t (of_bits binary32 0)) ≡ true → size_of t ≤ 549755813888
  exp_size_le e = (room e).size

  pub exp_product_le : (le (neg (of_bits binary32 1077936128)) t && le t (of_bits binary32 0)) ≡ true → product_of (size_of t) 6196328018 ≤ 541165879296
  exp_product_le e = (room e).product

  pub exp_is : (le (neg (of_bits binary32 1077936128)) t && le t (of_bits binary32 0)) ≡ true → exp_of t ≡ power_of (549755813888 - product_of (size_of t) 6196328018)
  unfolding exp_of fall_of
  exp_is e = rw (is_true (le exp_low t && le t zero_f) (exp_inside e))

  pub exp_off : (le (neg (of_bits binary32 1077936128)) t && le t (of_bits binary32 0)) ≡ false → exp_of t ≡ of_bits binary32 2143289344
  unfolding of_bits neg
  exp_off e = (exp_near t).elsewhere (off e)

  pub exp_met : (r : Float) → exp_of t ≡ r → ExpNear t r
  exp_met r e = subst (ExpNear t) e (exp_near t)

  -- ---- the power of ten, from -37 to 37
  ten_inside : (le (neg (of_bits binary32 1108606976)) t && le t (of_bits binary32 1108606976)) ≡ true → T (le ten_low t) × T (le t ten_high)
  unfolding of_bits neg
  ten_inside e = (and_l (le ten_low t) (le t ten_high) (on e), and_r (le ten_low t) (le t ten_high) (on e))

  wide : (le (neg (of_bits binary32 1108606976)) t && le t (of_bits binary32 1108606976)) ≡ true → Room t log2_ten
  wide e = let i = ten_inside e in ten_room t i.0 i.1

  pub ten_fits : (le (neg (of_bits binary32 1108606976)) t && le t (of_bits binary32 1108606976)) ≡ true → T (small t)
  ten_fits e = (wide e).narrow

  pub ten_size_le : (le (neg (of_bits binary32 1108606976)) t && le t (of_bits binary32 1108606976)) ≡ true → size_of t ≤ 549755813888
  ten_size_le e = (wide e).size

  pub ten_product_le : (le (neg (of_bits binary32 1108606976)) t && le t (of_bits binary32 1108606976)) ≡ true → product_of (size_of t) 14267572527 ≤ 541165879296
  ten_product_le e = (wide e).product

  pub ten_on : (le (neg (of_bits binary32 1108606976)) t && le t (of_bits binary32 1108606976)) ≡ true → pow10_of t ≡ power_of (shifted (lt t (of_bits binary32 0)) (product_of (size_of t) 14267572527) 4294967296)
  unfolding of_bits
  ten_on e = let i = ten_inside e in ten_is t i.0 i.1

  pub ten_nan : is_nan t ≡ true → pow10_of t ≡ t
  ten_nan e = let n = is_no_number t e in (pow10_near t).no_number n ∙ sym n

  pub ten_low_is : lt t (neg (of_bits binary32 1108606976)) ≡ true → pow10_of t ≡ of_bits binary32 0
  unfolding of_bits neg
  ten_low_is e = (pow10_near t).low (on e)

  -- a number outside, and not below, is above
  pub ten_high_is : (le (neg (of_bits binary32 1108606976)) t && le t (of_bits binary32 1108606976)) ≡ false → is_nan t ≡ false → lt t (neg (of_bits binary32 1108606976)) ≡ false → pow10_of t ≡ of_bits binary32 2139095040
  unfolding of_bits neg
  ten_high_is e n l = (pow10_near t).high (not_le t ten_high (off n) (unfold is_nan in tt) (other_off (le ten_low t) (le t ten_high) (off e) (not_lt t ten_low (off n) (unfold is_nan in tt) (off l))))

  pub ten_met : (r : Float) → pow10_of t ≡ r → Pow10Near t r
  ten_met r e = subst (Pow10Near t) e (pow10_near t)

-- 128 ± u stays in the range of `power`
pub side_from : (s : Bool) (u : ℕ) → u ≤ 541165879296 → 8589934592 ≤ shifted s u 4294967296
side_from true u h = omega arith
side_from false u h = omega arith

pub side_to : (s : Bool) (u : ℕ) → u ≤ 541165879296 → shifted s u 4294967296 < 1095216660480
side_to true u h = omega arith
side_to false u h = omega arith

-- what `exp2`, `exp` and `pow10` need
pub ruleset exp2_tests = (exp2_fits, exp2_from, exp2_to, exp2_is, exp2_nan, exp2_low_is, exp2_high_is, exp2_met)

pub ruleset exp_tests = (exp_fits, exp_size_le, exp_product_le, exp_is, exp_off, exp_met)

pub ruleset ten_tests = (ten_fits, ten_size_le, ten_product_le, ten_on, ten_nan, ten_low_is, ten_high_is, ten_met, side_from, side_to)
