-- How near log10 is to the exact one. Assumes nothing.
use Rattle.std.specs.Prelude.{◌≡◌, Bool, false, not, ℕ, ◌*◌, ◌≤◌, T, Float}
use Rattle.std.specs.Float.{nan, inf}
use Rattle.std.specs.Float.Ieee.{le}
use Rattle.std.specs.Float.Ieee.Positive.{num, den}
use Rattle.std.specs.Float.Ieee.Scale.{finite}
use Rattle.fixed.specs.Fixed.{sign_of}
use Rattle.power.specs.Exact.{ten_num, ten_den}
use Rattle.log10.specs.Exact.{up_sign, up_num, down_sign, down_num}
use Rattle.log10.specs.Log10.{least}

-- 10 ^ (r - 2 ^ -16) ≤ x ≤ 10 ^ (r + 2 ^ -16), for r = ± a / c and x = y / z
pub record Between (s : Bool) (a c y z : ℕ) : Type 0 where
  pub low : ten_num (down_sign s a c) (down_num s a c) (65536 * c) * z ≤ y * ten_den (down_sign s a c) (down_num s a c) (65536 * c)
  pub high : y * ten_den (up_sign s a c) (up_num s a c) (65536 * c) ≤ ten_num (up_sign s a c) (up_num s a c) (65536 * c) * z

-- from the float nearest 10 ^ -6 on; infinity at infinity; elsewhere not a number
pub record Log10Near (x r : Float) : Type 0 where
  pub finite_result : T (le least x) → T (finite x) → T (finite r)
  pub near : T (le least x) → T (finite x) → Between (sign_of r) (num r) (den r) (num x) (den x)
  pub infinite : x ≡ inf false → r ≡ inf false
  pub elsewhere : T (not (le least x)) → r ≡ nan
