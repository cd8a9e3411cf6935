-- How near the three curves are to the exact ones. Assumes nothing.
use Rattle.std.specs.Prelude.{◌≡◌, false, not, ◌&&◌, ◌%◌, ◌^◌, T, Float}
use Rattle.std.specs.Float.{nan, inf}
use Rattle.std.specs.Float.Ieee.{lt, le}
use Rattle.std.specs.Float.Ieee.Exact.{HasValue}
use Rattle.std.specs.Float.Ieee.Positive.{num, den}
use Rattle.series.specs.Near.{Relative}
use Rattle.fixed.specs.Fixed.{sign_of}
use Rattle.power.specs.Exact.{two_num, two_den, e_num, e_den, ten_num, ten_den}
use Rattle.power.specs.Power.{zero_f, exp2_low, exp2_high, exp_low, ten_low, ten_high}

-- exp2 from -126 to below 127 to one part in 2 ^ 18, exact at whole numbers; 0 below, infinity from 127 on
pub record Exp2Near (t r : Float) : Type 0 where
  pub no_number : t ≡ nan → r ≡ nan
  pub low : T (lt t exp2_low) → r ≡ zero_f
  pub high : T (le exp2_high t) → r ≡ inf false
  pub near : T (le exp2_low t) → T (lt t exp2_high) → Relative (2 ^ 18) (two_num (sign_of t) (num t) (den t)) (two_den (sign_of t) (num t) (den t)) r
  pub whole : T (le exp2_low t) → T (lt t exp2_high) → num t % den t ≡ 0 → HasValue r false (two_num (sign_of t) (num t) (den t)) (two_den (sign_of t) (num t) (den t))

-- exp from -3 to 0 to one part in 2 ^ 18; elsewhere not a number
pub record ExpNear (t r : Float) : Type 0 where
  pub near : T (le exp_low t) → T (le t zero_f) → Relative (2 ^ 18) (e_num (sign_of t) (num t) (den t)) (e_den (sign_of t) (num t) (den t)) r
  pub elsewhere : T (not (le exp_low t && le t zero_f)) → r ≡ nan

-- the power of ten from -37 to 37 to one part in 2 ^ 14; 0 below, infinity above
pub record Pow10Near (t r : Float) : Type 0 where
  pub no_number : t ≡ nan → r ≡ nan
  pub low : T (lt t ten_low) → r ≡ zero_f
  pub high : T (lt ten_high t) → r ≡ inf false
  pub near : T (le ten_low t) → T (le t ten_high) → Relative (2 ^ 14) (ten_num (sign_of t) (num t) (den t)) (ten_den (sign_of t) (num t) (den t)) r
