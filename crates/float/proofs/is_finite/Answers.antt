-- `float::is_finite` meets its contract: a finite number less itself is a zero, and of an infinity or what is not a number that is not a number. Assumes nothing.
use Rattle.std.proofs.Common.{◌≡◌, true, false, pos, refl, ap}
use lib.Ieee.{Float, nan, inf, fin, binary32, add, sub, neg, eq, of_bits}
use lib.Ieee.Scale.{finite}
use Rattle.float.proofs.Remainder.{less_itself}
use Rattle.float.proofs.is_finite.Goals as goal

by_difference : (x : Float) → eq (sub binary32 x x) (fin false 0 (pos 0)) ≡ finite x
unfolding sub add neg eq
by_difference nan = refl
by_difference (inf true) = refl
by_difference (inf false) = refl
by_difference (fin s m e) = ap (λ (z : Float). eq z (fin false 0 (pos 0))) (less_itself s m e)

pub returns : goal.returns
unfolding of_bits
returns c = by_difference c.args.x
