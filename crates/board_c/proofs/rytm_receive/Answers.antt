-- `board_c::rytm_receive` meets its contract: the answer of the call, numbered. Assumes nothing.
use mathlib.Core.Path.{refl}
use Rattle.promise.proofs.Calls.{receive_answers}
use Rattle.board_c.specs.Calls.{numbered_received}
use Rattle.board_c.proofs.rytm_receive.Goals as goal

pub returns : goal.returns
unfolding numbered_received
returns c =
    let h = rw c.new-x.ensures at c.receive-refusal.ensures in
    record {
      is = rw (← h.is, ← c.number.ensures) refl;
      receives = rw (← h.is) h;
      call = rw (← h.is) (receive_answers _ _ _ _ _ _ _ _ _ (λ i. (c.type_inv.frame i).fits) h);
    }
