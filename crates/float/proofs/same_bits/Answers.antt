-- `float::same_bits` meets its contract: what compares as equal has bits to compare, and what does not has the same only where neither is a number. Assumes nothing.
use Rattle.std.proofs.lemmas.Float.{T_from_true}
use Rattle.float.proofs.Bits.{equals_number, unequal_bits}
use Rattle.float.proofs.same_bits.Goals as goal

pub float_to_bits-result-then-a-b : goal.float_to_bits-result-then-a-b
float_to_bits-result-then-a-b c = equals_number c.args.a c.args.b c.if-a-b.true

pub returns : goal.returns
returns c = unequal_bits c.args.a c.args.b (T_from_true _ c.well_formed.0.1) (T_from_true _ c.well_formed.1.0.1) c.if-a-b.false
