-- `promise::fresh` meets its contract: the board is a fresh one, and a seed is below 2 ^ 32. Assumes nothing.
use mathlib.Core.Path.{sym, subst}
use Rattle.board.specs.declared.Analog.{Analog}
use Rattle.promise.specs.Promise.{Promised}
use Rattle.promise.proofs.Whole.{fresh_promised}
use Rattle.promise.proofs.BeforeR5.{same_records_same_answers}
use Rattle.promise.proofs.BeforeR7.{none_plain_same_answers}
use Rattle.promise.proofs.BeforeR8.{storing_changes_nothing}
use Rattle.promise.proofs.fresh.Goals as goal

pub returns : goal.returns
returns c =
    let a = c.args in
    let is = c.fresh.ensures in
    let fits = c.ranges.seed.fits in (
      is,
      subst (λ (b : Analog). Promised b) (sym is) (fresh_promised a.seed a.ideal fits),
      same_records_same_answers a.seed a.ideal,
      none_plain_same_answers a.seed a.ideal fits,
      storing_changes_nothing a.seed a.ideal,
    )
