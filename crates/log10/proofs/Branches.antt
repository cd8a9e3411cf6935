-- What each test of log10 tells, with the numbers as the program writes them. Assumes nothing.
use mathlib.Core.Path.{◌≡◌, refl, sym, ◌∙◌, subst}
use mathlib.Core.Bool.{true, false, not}
use Prim.Native.Nat.{◌+◌, ◌-◌, ◌*◌, ◌/◌, ◌%◌, ◌≤◌}
use lib.Dec.{T}
use lib.Ieee.{Float, binary32, of_bits, to_bits, fits, le, is_nan}
use Rattle.fixed.proofs.Order.{on, off, le_right}
use Rattle.log10.specs.Log10.{part_of, tenth_of, log10_of}
use Rattle.log10.specs.Near.{Log10Near}
use Rattle.log10.proofs.Distance.{Ready, ready, log10_near, at_infinity}

module _ (x : Float) where
  pub log10_far : T (fits binary32 x) → le (of_bits binary32 2139095040) x ≡ true → log10_of x ≡ x
  unfolding of_bits
  log10_far h e = let i = at_infinity x (on e) in (log10_near x h).infinite i ∙ sym i

  pub log10_number : le (of_bits binary32 897988541) x ≡ true → T (not (is_nan x))
  log10_number e = le_right (of_bits binary32 897988541) x (on e)

  known : T (fits binary32 x) → le (of_bits binary32 897988541) x ≡ true → le (of_bits binary32 2139095040) x ≡ false → Ready x (to_bits binary32 x % 2147483648 / 8388608) (to_bits binary32 x % 8388608 + 8388608)
  unfolding of_bits
  known h e f = ready x h (on e) (off f) (to_bits binary32 x % 2147483648 / 8388608) (to_bits binary32 x % 8388608 + 8388608) refl refl

  pub log10_high : T (fits binary32 x) → le (of_bits binary32 897988541) x ≡ true → le (of_bits binary32 2139095040) x ≡ false → to_bits binary32 x % 2147483648 / 8388608 ≤ 254
  log10_high h e f = (known h e f).high

  pub log10_on : T (fits binary32 x) → le (of_bits binary32 897988541) x ≡ true → le (of_bits binary32 2139095040) x ≡ false → log10_of x ≡ tenth_of (to_bits binary32 x % 2147483648 / 8388608 * 4294967296 + part_of (to_bits binary32 x % 8388608 + 8388608 - 8388608))
  log10_on h e f = sym (known h e f).is

  pub log10_off : T (fits binary32 x) → le (of_bits binary32 897988541) x ≡ false → log10_of x ≡ of_bits binary32 2143289344
  unfolding of_bits
  log10_off h e = (log10_near x h).elsewhere (off e)

  pub log10_met : (r : Float) → T (fits binary32 x) → log10_of x ≡ r → Log10Near x r
  log10_met r h e = subst (Log10Near x) e (log10_near x h)

-- what `log10` needs
pub ruleset log10_tests = (log10_far, log10_number, log10_high, log10_on, log10_off, log10_met)
