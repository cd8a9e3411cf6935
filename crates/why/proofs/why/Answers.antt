-- `why::why` meets its contract: the answer is its definition's, of a frame that is a list of bytes, as a lent `&[u8]` is. Assumes nothing.
use mathlib.Core.Path.{sym, subst}
use borrow.Author.Rules.{rules}
use Rattle.std.specs.Prelude.{Result}
use Rattle.board.specs.declared.refusals.Refusal.{Refusal}
use Rattle.why.specs.declared.Reason.{Reason}
use Rattle.why.specs.Why.{told_if, why_of}
use Rattle.why.specs.Told.{Told}
use Rattle.why.proofs.Whole.{told}
use Rattle.why.proofs.why.Goals as goal

pub returns-clause-value : goal.returns-clause-value
unfolding why_of told_if
returns-clause-value c = search rules

pub returns-clause-told : goal.returns-clause-told
returns-clause-told c =
    let a = c.args in
    subst (λ (r : Result Reason Refusal). Told a.board a.f.now a.dac.now a.fx.now a.x a.voice a.side r) (sym (returns-clause-value c)) (told _ _ _ _ _ _ _ (λ i. (c.type_inv.f i).fits))
