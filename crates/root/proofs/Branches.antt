-- What each test of sqrt tells, with the numbers as the program writes them. Assumes nothing.
use mathlib.Core.Path.{◌≡◌, refl, sym, subst}
use mathlib.Core.Bool.{true, false}
use Prim.Native.Nat.{◌+◌, ◌-◌, ◌/◌, ◌%◌, ◌≤◌, ◌<◌}
use native.Mathlib.Omega.{arith}
use lib.Dec.{T}
use lib.Ieee.{Float, binary32, of_bits, to_bits, fits, lt, le, eq}
use Rattle.fixed.proofs.Fields.{bits_no_nan}
use Rattle.root.specs.Root.{root_at, sqrt_of, Root}
use Rattle.root.proofs.Tests.{some, infinite_root, zero_root, no_root}
use Rattle.root.proofs.Cases.{Above, above, sqrt_near}

module _ (x : Float) where
  pub sqrt_far : le (of_bits binary32 2139095040) x ≡ true → sqrt_of x ≡ x
  unfolding of_bits
  sqrt_far e = sym (infinite_root x e)

  pub sqrt_zero : eq x (of_bits binary32 0) ≡ true → sqrt_of x ≡ x
  unfolding of_bits
  sqrt_zero e = sym (zero_root x e)

  pub sqrt_none : lt (of_bits binary32 0) x ≡ false → eq x (of_bits binary32 0) ≡ false → sqrt_of x ≡ of_bits binary32 2143289344
  unfolding of_bits
  sqrt_none e f = sym (no_root x e f)

  known : T (fits binary32 x) → lt (of_bits binary32 0) x ≡ true → le (of_bits binary32 2139095040) x ≡ false → Above x (to_bits binary32 x % 2147483648 / 8388608) (to_bits binary32 x % 8388608 + 8388608)
  unfolding of_bits
  known h e f = above x (some x e f) h (to_bits binary32 x % 2147483648 / 8388608) (to_bits binary32 x % 8388608 + 8388608) refl refl

  pub low_some : T (fits binary32 x) → lt (of_bits binary32 0) x ≡ true → le (of_bits binary32 2139095040) x ≡ false → to_bits binary32 x % 2147483648 / 8388608 ≡ 0 → 0 < to_bits binary32 x % 8388608 + 8388608 - 8388608
  low_some h e f z = ((known h e f).low_parts z).some

  pub low_is : T (fits binary32 x) → lt (of_bits binary32 0) x ≡ true → le (of_bits binary32 2139095040) x ≡ false → to_bits binary32 x % 2147483648 / 8388608 ≡ 0 → sqrt_of x ≡ of_bits binary32 (root_at (to_bits binary32 x % 8388608 + 8388608 - 8388608) 1)
  low_is h e f z = sym ((known h e f).low_root z)

  pub high_most : T (fits binary32 x) → lt (of_bits binary32 0) x ≡ true → le (of_bits binary32 2139095040) x ≡ false → 0 < to_bits binary32 x % 2147483648 / 8388608 → to_bits binary32 x % 2147483648 / 8388608 ≤ 254
  high_most h e f p = ((known h e f).high_parts (λ z. omega arith)).most

  pub high_is : T (fits binary32 x) → lt (of_bits binary32 0) x ≡ true → le (of_bits binary32 2139095040) x ≡ false → 0 < to_bits binary32 x % 2147483648 / 8388608 → sqrt_of x ≡ of_bits binary32 (root_at (to_bits binary32 x % 8388608 + 8388608) (to_bits binary32 x % 2147483648 / 8388608))
  high_is h e f p = sym ((known h e f).high_root (λ z. omega arith))

  pub sqrt_met : (r : Float) → T (fits binary32 x) → sqrt_of x ≡ r → Root x r
  sqrt_met r h e = subst (Root x) e (sqrt_near x h)

-- what `guess` and `sqrt` need
pub ruleset no_nans = (bits_no_nan)

pub ruleset sqrt_tests = (sqrt_far, sqrt_zero, sqrt_none, low_some, low_is, high_most, high_is, sqrt_met, bits_no_nan)
