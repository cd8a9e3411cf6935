-- `slots::right_table` meets its contract: eight slots are a right table where each voice is one of them. Assumes nothing.
use mathlib.Core.Path.{refl, ◌∙◌}
use borrow.Author.Rules.{rules}
use borrow.Author.Tests.{tests}
use Rattle.std.specs.List.{list_any}
use Rattle.std.proofs.lemmas.Iterator.{YieldsList-from_range}
use Rattle.std.proofs.lemmas.Iterator.Search.{all_from_yields_List}
use Rattle.slots.proofs.Below.{names}
use Rattle.slots.proofs.Tables.{right_by_names}
use Rattle.slots.proofs.right_table.Goals as goal

pub returns : goal.returns
returns c =
    let t = c.args.slots.now in
    all_from_yields_List (λ v. list_any (names v) t) _ _ _ c.all.ensures.ran (YieldsList-from_range _ _ _ refl refl) (λ x b q k. search (rules, tests)) ∙ right_by_names t (search (rules, tests))
