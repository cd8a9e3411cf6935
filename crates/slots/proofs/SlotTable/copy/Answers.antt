-- `slots::SlotTable::copy` meets its contract: after twelve turns each word is the one of its place, negated. Assumes nothing.
use native.Mathlib.Omega.{arith}
use Prim.Native.Nat.{ℕ}
use mathlib.Core.Path.{ap, ◌≡◌, refl, sym, subst, ◌∙◌}
use mathlib.Core.List.{List}
use lib.IntN.{ℤ}
use borrow.Author.Rules.{rules}
use Rattle.slots.specs.Slots.{copy_of}
use Rattle.slots.specs.Copied.{Copied}
use Rattle.slots.proofs.Copy.{turns_copy, copied}
use Rattle.slots.proofs.SlotTable.copy.Goals as goal

pub returns-clause-value : goal.returns-clause-value
returns-clause-value c =
    let twelve : c.loop-i.i ≡ 12 = omega arith in
    rw twelve at c.loop-i.invariant ∙ turns_copy c.self.inside.slots.now c.args.rx c.self.invariant _ refl ∙ ap (λ (t : List ℕ). copy_of t c.args.rx) (search rules)

pub returns-clause-copied : goal.returns-clause-copied
returns-clause-copied c =
    subst (λ (l : List ℤ). Copied c.args.self.now c.args.rx l) (sym (returns-clause-value c))
    (copied c.args.self.now c.args.rx (search rules) (search rules) (search rules))
