-- `promise::step` meets its contract: the board's answer, which is that of a call, since what a caller lends as a `&[u8]` is a list of bytes. Assumes nothing.
use Rattle.promise.proofs.Calls.{step_answers}
use Rattle.promise.proofs.step.Goals as goal

pub returns : goal.returns
returns c = (c.step.ensures, step_answers _ _ _ _ _ _ (λ i. (c.type_inv.f i).fits) c.step.ensures)
