-- `DualOsc::sample` meets its contract: what it gives is its definition's, and so follows the code list and differs from before R-7 on the plain path alone. Assumes nothing.
use mathlib.Core.Path.{sym, subst}
use borrow.Author.Rules.{rules}
use Rattle.dual.specs.declared.DualOut.{DualOut}
use Rattle.dual.specs.Dual.{gain_of, sample_by, sample_of}
use Rattle.dual.specs.Codes.{FollowsItsCode}
use Rattle.dual.specs.BeforeR7.{OnlyPlainChanged}
use Rattle.dual.proofs.Codes.{follows_its_code}
use Rattle.dual.proofs.BeforeR7.{only_plain_changed}
use Rattle.dual.proofs.DualOsc.sample.Goals as goal

pub returns-clause-value : goal.returns-clause-value
unfolding sample_of sample_by gain_of
returns-clause-value c = search rules

pub returns-clause-code : goal.returns-clause-code
returns-clause-code c = let a = c.args in subst (λ (o : DualOut). FollowsItsCode a.f.now a.d a.self o) (sym (returns-clause-value c)) (follows_its_code a.f.now a.d a.self a.w)

pub returns-clause-alone : goal.returns-clause-alone
returns-clause-alone c = let a = c.args in subst (λ (o : DualOut). OnlyPlainChanged a.f.now a.d a.self a.w o) (sym (returns-clause-value c)) (only_plain_changed a.f.now a.d a.self a.w)
