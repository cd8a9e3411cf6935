-- The range of each curve's argument; outside of it a curve gives 0, an infinity or not a number. Definitions only.
use Rattle.std.specs.Prelude.{T, Float}
use Rattle.std.specs.Float.Ieee.{le, lt}
use Rattle.power.specs.Power.{zero_f, exp2_low, exp2_high, exp_low, ten_low, ten_high}
use Rattle.log10.specs.Log10.{least}
use Rattle.sine.specs.Sine.{eight, one_five, up_to}

-- exp2: from -126 to below 127
abbrev pub InExp2 : Float → Type 0
InExp2 x = T (le exp2_low x) × T (lt x exp2_high)

-- exp: from -3 to 0
abbrev pub InExp : Float → Type 0
InExp x = T (le exp_low x) × T (le x zero_f)

-- the power of ten: from -37 to 37
abbrev pub InPow10 : Float → Type 0
InPow10 x = T (le ten_low x) × T (le x ten_high)

-- the logarithm to base 10: from the float nearest 10 ^ -6 on
abbrev pub InLog10 : Float → Type 0
InLog10 x = T (le least x)

-- sine and cosine: from 0 to 8
abbrev pub InSine : Float → Type 0
InSine x = T (up_to eight x)

-- tangent: from 0 to 1.5
abbrev pub InTan : Float → Type 0
InTan x = T (up_to one_five x)
