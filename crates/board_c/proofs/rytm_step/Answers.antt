-- `board_c::rytm_step` meets its contract: the step's answer, numbered, which is that of a call, since what a caller lends as a `&[u8]` is a list of bytes. Assumes nothing.
use mathlib.Core.Path.{refl}
use Rattle.promise.proofs.Calls.{step_answers}
use Rattle.board_c.specs.Calls.{numbered}
use Rattle.board_c.proofs.rytm_step.Goals as goal

pub returns : goal.returns
unfolding numbered
returns c = record {
  is = rw (← c.new-x.ensures, ← c.advance-refusal.ensures, ← c.number.ensures);
  call = step_answers _ _ _ _ _ _ (λ i. (c.type_inv.frame i).fits) refl;
}
