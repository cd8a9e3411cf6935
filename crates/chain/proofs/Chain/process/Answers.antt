-- `Chain::process` meets its contract: what it gives is its definition's, and so what that promises holds of it. Assumes nothing.
use mathlib.Core.Path.{sym, subst}
use borrow.Author.Rules.{rules}
use Rattle.chain.specs.declared.ChainOut.{ChainOut}
use Rattle.chain.specs.Chain.{gain_of, process_of, EachItsOwn, Stored, Traced}
use Rattle.chain.proofs.Own.{each_its_own, stored, traced}
use Rattle.chain.proofs.Chain.process.Goals as goal

pub returns-clause-value : goal.returns-clause-value
unfolding process_of gain_of
returns-clause-value c = search rules

pub returns-clause-own : goal.returns-clause-own
returns-clause-own c = let a = c.args in subst (λ (o : ChainOut). EachItsOwn a.f.now a.v a.x a.self o) (sym (returns-clause-value c)) (each_its_own a.f.now a.v a.x a.self)

pub returns-clause-stored : goal.returns-clause-stored
returns-clause-stored c = let a = c.args in subst (λ (o : ChainOut). Stored a.f.now a.v a.x a.self o) (sym (returns-clause-value c)) (stored a.f.now a.v a.x a.self)

pub returns-clause-traced : goal.returns-clause-traced
returns-clause-traced c = let a = c.args in subst (λ (o : ChainOut). Traced o) (sym (returns-clause-value c)) (traced a.f.now a.v a.x a.self)
