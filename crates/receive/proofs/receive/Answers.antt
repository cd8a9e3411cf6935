-- `receive::receive` meets its contract: a call that is not refused is a step whose words are copied, and a refused one leaves destination and board. Assumes nothing.
use mathlib.Core.Path.{refl}
use borrow.Author.Rules.{rules}
use Rattle.board.specs.Board.{answer}
use Rattle.receive.specs.Receive.{received_if, written_if}
use Rattle.receive.proofs.Told.{accepted_receives, refused_receives}
use Rattle.receive.proofs.receive.Goals as goal

pub returns-in-Ok : goal.returns-in-Ok
returns-in-Ok c = accepted_receives _ _ _ _ _ _ _ (answer c.stepped.new.board c.stepped.result) _ (search rules) (search rules) (search rules) (search rules)

pub returns-in-Err : goal.returns-in-Err
unfolding received_if written_if
returns-in-Err c = refused_receives _ _ _ _ _ _ _ c.in-Err.refusal _ _ (search rules) c.refused.ensures refl
