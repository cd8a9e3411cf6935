-- `recording::next` meets its contract: the tests in their order, and each answer is one call or none. Assumes nothing.
use borrow.Author.Rules.{rules}
use Rattle.recording.specs.Play.{next_of}
use Rattle.recording.proofs.Replay.{next_answers}
use Rattle.recording.proofs.next.Goals as goal

pub returns-then-rec-extent : goal.returns-then-rec-extent
unfolding next_of
returns-then-rec-extent c = next_answers c.args.rec.now c.args.p _ c.type_inv.rec (search rules)

pub returns-then-p : goal.returns-then-p
unfolding next_of
returns-then-p c = next_answers c.args.rec.now c.args.p _ c.type_inv.rec (search rules)

pub returns-then-n-p : goal.returns-then-n-p
unfolding next_of
returns-then-n-p c = next_answers c.args.rec.now c.args.p _ c.type_inv.rec (search rules)

pub returns : goal.returns
unfolding next_of
returns c = next_answers c.args.rec.now c.args.p _ c.type_inv.rec (search rules)
