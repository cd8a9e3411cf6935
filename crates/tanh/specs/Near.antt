-- How near tanh is to the exact one. Assumes nothing.
use Rattle.std.specs.Prelude.{◌≡◌, Bool, true, not, ◌^◌, T, pos, Float}
use Rattle.std.specs.Float.{nan, inf, fin}
use Rattle.std.specs.Float.Ieee.{le, neg, is_nan}
use Rattle.std.specs.Float.Ieee.Positive.{num, den}
use Rattle.std.specs.Float.Ieee.Scale.{finite}
use Rattle.series.specs.Near.{Absolute}
use Rattle.fixed.specs.Fixed.{sign_of}
use Rattle.tanh.specs.Exact.{tanh_minus, tanh_num, tanh_den}
use Rattle.tanh.specs.Tanh.{one, tanh_of}

-- every number within 2 ^ -18; odd; 1 and -1 at the infinities, and never beyond them
pub record TanhNear (x r : Float) : Type 0 where
  pub no_number : x ≡ nan → r ≡ nan
  pub infinite : (s : Bool) → x ≡ inf s → r ≡ fin s 1 (pos 0)
  pub near : T (finite x) → Absolute (2 ^ 18) (tanh_minus (sign_of x) (num x) (den x)) (tanh_num (sign_of x) (num x) (den x)) (tanh_den (sign_of x) (num x) (den x)) r
  pub odd : tanh_of (neg x) ≡ neg r
  pub bounded : T (not (is_nan x)) → T (le (fin true 1 (pos 0)) r) × T (le r one)
