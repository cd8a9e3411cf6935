-- `board::all_in_range` meets its contract: the words are in range if those of its list are. Assumes nothing.
use mathlib.Core.Path.{◌≡◌, refl, sym, ap, ◌∙◌}
use mathlib.Core.Bool.{Bool, ◌&&◌}
use mathlib.Core.List.{List, [], ◌∷◌}
use lib.IntN.{ℤ, pos}
use lib.ListN.{get_or, take}
use Prim.Native.Nat.{◌+◌}
use borrow.Author.Rules.{rules}
use Rattle.std.specs.List.{list_all}
use Rattle.std.proofs.Common.{take_all}
use Rattle.std.proofs.lemmas.List.Folds.{list_all_more}
use Rattle.board.specs.Board.{in_range, all_in_range}
use Rattle.board.proofs.all_in_range.Goals as goal

list_is : (zs : List ℤ) → all_in_range zs ≡ list_all in_range zs
unfolding all_in_range
list_is [] = refl
list_is (z ∷ zs) = ap (λ (b : Bool). in_range z && b) (list_is zs)

pub loop-x-preserved : goal.loop-x-preserved
loop-x-preserved c =
    let xs = c.args.dac.now in
    let i = c.loop-x.x-index in
    let more : list_all in_range (take (i + 1) xs) ≡ (list_all in_range (take i xs) && in_range (get_or xs i (pos 0))) = list_all_more in_range xs i (pos 0) (search rules) in
    rw (more, ← c.loop-x.invariant, c.in_range-ok.ensures) (search rules)

pub returns : goal.returns
returns c = c.loop-x.invariant ∙ ap (list_all in_range) (take_all c.loop-x.x-index c.args.dac.now c.loop-x-test.false) ∙ sym (list_is c.args.dac.now)
