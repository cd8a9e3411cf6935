-- `log10::part` meets its contract. Assumes nothing.
use mathlib.Core.Path.{refl}
use Prim.Native.Nat.{◌/◌}
use native.Mathlib.Omega.{arith}
use Rattle.log10.specs.Log10.{part_of}
use Rattle.log10.proofs.Method.{stored_lt, part_small}
use Rattle.log10.proofs.part.Goals as goal

pub overflow_add-result : goal.overflow_add-result
overflow_add-result c = omega (arith, stored_lt (c.args.t / 131072) (omega arith))

pub returns : goal.returns
unfolding part_of
returns c = let s = c in rw (c.product.ensures, c.rest.ensures.0) (refl, part_small s.args.t s.requires)
