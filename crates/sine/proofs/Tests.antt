-- What each test of sin, cos and tan tells, with the numbers as the program writes them. Assumes nothing.
use mathlib.Core.Path.{◌≡◌, refl, subst}
use mathlib.Core.Bool.{true, false, ◌&&◌}
use Prim.Native.Nat.{ℕ, ◌+◌, ◌-◌, ◌*◌, ◌/◌, ◌%◌, ◌≤◌, ◌<◌}
use native.Mathlib.Nat.{mul-pos}
use native.Mathlib.Omega.{arith}
use lib.Dec.{T}
use lib.Ieee.{Float, binary32, of_bits, to_bits, fits, lt, le}
use lib.Ieee.Bits.{is_true, is_false}
use Rattle.fixed.specs.Fixed.{small, size_of, pack_of}
use Rattle.fixed.proofs.Order.{on, off}
use Rattle.sine.specs.Sine.{eight, little, up_to, wave_of, ratio_of, sin_of, cos_of, tan_of, Sine, Tangent}
use Rattle.sine.proofs.Cases.{up_small, from_says, below_says, none_says, sin_near, cos_near}
use Rattle.sine.proofs.Fields.{Ready, ready, narrow_small, tan_near}

module _ (x : Float) where
  -- ---- sin, from 2 ^ -10 to 8, and below
  pub sin_fits : (le (of_bits binary32 981467136) x && le x (of_bits binary32 1090519040)) ≡ true → T (small x)
  unfolding of_bits
  sin_fits e = up_small x (from_says x (on e)).0

  pub sin_on : (le (of_bits binary32 981467136) x && le x (of_bits binary32 1090519040)) ≡ true → sin_of x ≡ wave_of 0 (size_of x / 2)
  unfolding sin_of of_bits
  sin_on e = let t = from_says x (on e) in rw (is_true (up_to eight x) t.0, is_false (lt x little) t.1)

  pub sin_own : (le (of_bits binary32 0) x && lt x (of_bits binary32 981467136)) ≡ true → sin_of x ≡ x
  unfolding sin_of of_bits
  sin_own e = let t = below_says x (on e) in rw (is_true (up_to eight x) t.0, is_true (lt x little) t.1)

  pub sin_off : (le (of_bits binary32 981467136) x && le x (of_bits binary32 1090519040)) ≡ false → (le (of_bits binary32 0) x && lt x (of_bits binary32 981467136)) ≡ false → sin_of x ≡ of_bits binary32 2143289344
  unfolding sin_of of_bits
  sin_off e f = rw (is_false (up_to eight x) (none_says x (off e) (off f)))

  pub sin_met : (r : Float) → sin_of x ≡ r → Sine 0 x r
  sin_met r e = subst (Sine 0 x) e (sin_near x)

  -- ---- cos, from 0 to 8
  pub cos_fits : (le (of_bits binary32 0) x && le x (of_bits binary32 1090519040)) ≡ true → T (small x)
  unfolding of_bits
  cos_fits e = up_small x (on e)

  pub cos_on : (le (of_bits binary32 0) x && le x (of_bits binary32 1090519040)) ≡ true → cos_of x ≡ wave_of 1 (size_of x / 2)
  unfolding cos_of of_bits
  cos_on e = rw e

  pub cos_off : (le (of_bits binary32 0) x && le x (of_bits binary32 1090519040)) ≡ false → cos_of x ≡ of_bits binary32 2143289344
  unfolding cos_of of_bits
  cos_off e = rw e

  pub cos_met : (r : Float) → cos_of x ≡ r → Sine 1 x r
  cos_met r e = subst (Sine 1 x) e (cos_near x)

  -- ---- tan, from 2 ^ -24 to 1.5, and below
  pub tan_fits : (le (of_bits binary32 0) x && le x (of_bits binary32 1069547520)) ≡ true → T (small x)
  unfolding of_bits
  tan_fits e = narrow_small x (on e)

  pub tan_own : (le (of_bits binary32 0) x && le x (of_bits binary32 1069547520)) ≡ true → lt x (of_bits binary32 864026624) ≡ true → tan_of x ≡ x
  unfolding tan_of of_bits
  tan_own e f = rw (e, f)

  known : T (fits binary32 x) → (le (of_bits binary32 0) x && le x (of_bits binary32 1069547520)) ≡ true → lt x (of_bits binary32 864026624) ≡ false → Ready x (to_bits binary32 x % 2147483648 / 8388608)
  unfolding of_bits
  known h e f = ready x h (on e) (off f) (to_bits binary32 x % 2147483648 / 8388608) refl

  pub tan_angle : T (fits binary32 x) → (le (of_bits binary32 0) x && le x (of_bits binary32 1069547520)) ≡ true → lt x (of_bits binary32 864026624) ≡ false → size_of x / 2 ≤ 3221225472
  tan_angle h e f = (known h e f).angle

  pub tan_field : T (fits binary32 x) → (le (of_bits binary32 0) x && le x (of_bits binary32 1069547520)) ≡ true → lt x (of_bits binary32 864026624) ≡ false → 62 ≤ to_bits binary32 x % 2147483648 / 8388608
  tan_field h e f = (known h e f).field

  pub tan_below : T (fits binary32 x) → (le (of_bits binary32 0) x && le x (of_bits binary32 1069547520)) ≡ true → lt x (of_bits binary32 864026624) ≡ false → to_bits binary32 x % 2147483648 / 8388608 ≤ 133
  tan_below h e f = (known h e f).below

  pub tan_on : (le (of_bits binary32 0) x && le x (of_bits binary32 1069547520)) ≡ true → lt x (of_bits binary32 864026624) ≡ false → tan_of x ≡ pack_of ((to_bits binary32 x % 8388608 + 8388608) * ratio_of (size_of x / 2)) (182 - to_bits binary32 x % 2147483648 / 8388608)
  unfolding tan_of of_bits
  tan_on e f = rw (e, f)

  pub tan_off : (le (of_bits binary32 0) x && le x (of_bits binary32 1069547520)) ≡ false → tan_of x ≡ of_bits binary32 2143289344
  unfolding tan_of of_bits
  tan_off e = rw e

  pub tan_met : (r : Float) → T (fits binary32 x) → tan_of x ≡ r → Tangent x r
  tan_met r h e = subst (Tangent x) e (tan_near x h)

pub tan_some : (d y : ℕ) → 8388608 ≤ d → 0 < y → 0 < d * y
tan_some d y h p = mul-pos {m = d} (omega arith) p

-- what the three functions need
pub ruleset sin_tests = (sin_fits, sin_on, sin_own, sin_off, sin_met)

pub ruleset cos_tests = (cos_fits, cos_on, cos_off, cos_met)

pub ruleset tan_tests = (tan_fits, tan_own, tan_angle, tan_field, tan_below, tan_on, tan_off, tan_met, tan_some)
