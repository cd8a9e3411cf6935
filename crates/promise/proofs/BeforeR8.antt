-- R-8 beside what was before it, of every list of calls from a fresh board. Assumes nothing.
use Prim.Native.Nat.{ℕ}
use mathlib.Core.Path.{refl, sym, subst}
use mathlib.Core.Bool.{Bool}
use mathlib.Core.List.{List, [], ◌∷◌}
use Rattle.chain.specs.Chain.{chain_new}
use Rattle.chain.specs.BeforeR8.{ChainBefore, chain_new_before, earlier_chain, before}
use Rattle.chain.proofs.BeforeR8.{new_right}
use Rattle.bus.proofs.Before.{Each}
use Rattle.bus.proofs.BeforeR8.{RightlyStored, every_frame}
use Rattle.board.specs.declared.Analog.{Analog}
use Rattle.board.specs.Board.{fresh_of}
use Rattle.board.specs.Before.{BoardOn, stepped_on, earlier_board}
use Rattle.board.proofs.Before.{fresh_same, fresh_each, stepped_same, stepped_kept}
use Rattle.promise.specs.Calls.{Given, Call, next_of, reached_of, Reached}
use Rattle.promise.specs.Promise.{EachAccepted}
use Rattle.promise.specs.Before.{Unchanged}
use Rattle.promise.specs.BeforeR8.{StoringChangesNothing}
use Rattle.promise.proofs.Before.{StepAsThen, unchanged, reached_holds}

-- each chain's stored coefficients are those of their pair, and nothing is asked of a step
abbrev pub AllRight : Analog → Type 0
AllRight b = Each RightlyStored b.chains

abbrev Any : Analog → Given → Type 0
Any b g = Unit

any : (b : Analog) (calls : List Call) → EachAccepted Any b calls
any b [] = tt
any b (k ∷ ks) = (λ t. tt, any (next_of b k) ks)

step_as_then : StepAsThen (earlier_board earlier_chain) (stepped_on before) AllRight Any
step_as_then = record {
  same = λ b g t r u. stepped_same before RightlyStored b g.frame g.dac g.fx g.inputs (every_frame g.frame) r;
  kept = λ b g r u. stepped_kept before RightlyStored b g.frame g.dac g.fx g.inputs (every_frame g.frame) r;
}

module _ (seed : ℕ) (ideal : Bool) where
  fresh_right : AllRight (fresh_of seed ideal)
  fresh_right = fresh_each RightlyStored new_right seed ideal

  right : (calls : List Call) → AllRight (reached_of (fresh_of seed ideal) calls)
  right calls = reached_holds (earlier_board earlier_chain) (stepped_on before) AllRight Any step_as_then (fresh_of seed ideal) fresh_right calls (any (fresh_of seed ideal) calls)

  pub storing_changes_nothing : StoringChangesNothing seed ideal
  unfolding chain_new chain_new_before
  storing_changes_nothing = record {
    fresh = λ calls v h. (right calls v h).is;
    answers = λ calls.
        subst (λ (y : BoardOn ChainBefore). Unchanged (earlier_board earlier_chain) (stepped_on before) (fresh_of seed ideal) y calls) (sym (fresh_same before refl seed ideal))
        (unchanged (earlier_board earlier_chain) (stepped_on before) AllRight Any step_as_then (fresh_of seed ideal) fresh_right calls (any (fresh_of seed ideal) calls));
  }

pub reached_right : (b : Analog) → Reached b → AllRight b
reached_right b r = subst (λ (x : Analog). AllRight x) (sym r.is) (right r.seed r.ideal r.calls)
