-- `promise::receive` meets its contract: the answer is that of a call, since what a caller lends as a `&[u8]` is a list of bytes. Assumes nothing.
use Rattle.promise.proofs.Calls.{receive_answers}
use Rattle.promise.proofs.receive.Goals as goal

pub returns-clause-call : goal.returns-clause-call
returns-clause-call c = receive_answers _ _ _ _ _ _ _ _ _ (λ i. (c.type_inv.f i).fits) c.receive.ensures
