-- What callers of tanh use: its result is a float of the format, from -1 to 1. Assumes nothing.
use mathlib.Core.Bool.{true, false, not}
use lib.IntN.{pos}
use lib.Dec.{T}
use lib.Ieee.{Float, nan, fin, binary32, lt, le, ne, neg, fits, is_nan}
use lib.Ieee.Fits.{neg-fits}
use Rattle.fixed.specs.Fixed.{size_of}
use Rattle.fixed.proofs.Fields.{cond_fits}
use Rattle.fixed.proofs.Packs.{pack_fits}
use Rattle.line.proofs.Range.{In, in_of}
use Rattle.power.specs.Power.{zero_f, product_of}
use Rattle.tanh.specs.Tanh.{two_log2_e, decay_of, quotient_of, one, tiny, ten, above_of, tanh_of}
use Rattle.tanh.proofs.Curve.{tanh_bounded}

above_fits : (a : Float) → T (fits binary32 a) → T (fits binary32 (above_of a))
unfolding above_of fits
above_fits a h = cond_fits (lt a tiny) a _ h (cond_fits (le ten a) one _ tt (pack_fits (quotient_of (decay_of (product_of (size_of a) two_log2_e))) 31))

pub tanh_fits : (x : Float) → T (fits binary32 x) → T (fits binary32 (tanh_of x))
unfolding tanh_of fits
tanh_fits x h = cond_fits (ne x x) nan _ tt (cond_fits (lt x zero_f) (neg (above_of (neg x))) _ (neg-fits binary32 (above_of (neg x)) (above_fits (neg x) (neg-fits binary32 x h))) (above_fits x h))

pub tanh_in : (x : Float) → T (fits binary32 x) → T (not (is_nan x)) → In binary32 (fin true 1 (pos 0)) (fin false 1 (pos 0)) (tanh_of x)
tanh_in x h n = in_of binary32 (fin true 1 (pos 0)) (fin false 1 (pos 0)) (tanh_of x) (unfold fits in tt) (tanh_fits x h) (tanh_bounded x n).0 (tanh_bounded x n).1
