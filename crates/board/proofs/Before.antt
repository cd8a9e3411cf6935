-- A step beside one on boards with chains of before a request: where each chain's sample, as long as something holds of it, gives what it gave then and keeps that, so does
-- the step. Assumes nothing.
use Prim.Native.Nat.{ℕ, zero, suc}
use mathlib.Core.Path.{◌≡◌, refl, sym, ap, ◌∙◌, subst}
use mathlib.Core.Bool.{Bool}
use mathlib.Core.List.{List, ◌∷◌}
use lib.ListN.{replicate, get_or-replicate}
use lib.IntN.{ℤ}
use Rattle.std.specs.Prelude.{map}
use Rattle.sources.specs.Sources.{sound_of}
use Rattle.chain.specs.declared.Chain.{Chain}
use Rattle.chain.specs.Chain.{no_chain, chain_new}
use Rattle.chain.specs.Before.{Kind}
use Rattle.bus.specs.Before.{earlier_chains}
use Rattle.bus.proofs.Before.{Each, AsThen, voices_same, voices_kept}
use Rattle.board.specs.declared.Analog.{Analog}
use Rattle.board.specs.declared.Inputs.{Inputs}
use Rattle.board.specs.Board.{fresh_of, taken_of, stepped_of}
use Rattle.board.specs.Before.{fresh_on, taken_on, stepped_on, earlier_answer, earlier_board}

module _ {C : Type 0} (k : Kind C) where
  copies : k.new ≡ k.earlier chain_new → (n : ℕ) → replicate n k.new ≡ map k.earlier (replicate n chain_new)
  copies e zero = refl
  copies e (suc n) = ap (λ (l : List C). k.new ∷ l) (copies e n) ∙ ap (λ (c : C). c ∷ map k.earlier (replicate n chain_new)) e

  pub fresh_same : k.new ≡ k.earlier chain_new → (seed : ℕ) (ideal : Bool) → fresh_on k seed ideal ≡ earlier_board k.earlier (fresh_of seed ideal)
  unfolding fresh_on fresh_of earlier_chains
  fresh_same e seed ideal = rw (copies e 8) refl

pub fresh_each : (I : Chain → Type 0) → I chain_new → (seed : ℕ) (ideal : Bool) → Each I (fresh_of seed ideal).chains
unfolding fresh_of
fresh_each I new seed ideal v h = subst (λ (c : Chain). I c) (sym (get_or-replicate 8 v chain_new no_chain h)) new

module _ {C : Type 0} (k : Kind C) (I : Chain → Type 0) (b : Analog) (f : List ℕ) (dac : List ℤ) (fx : List ℕ) (x : Inputs) (h : AsThen k I f) (i : Each I b.chains) where
  pub stepped_same : stepped_on k (earlier_board k.earlier b) f dac fx x ≡ earlier_answer (earlier_board k.earlier) (stepped_of b f dac fx x)
  unfolding stepped_on stepped_of taken_on taken_of
  stepped_same = rw (voices_same k I f dac (sound_of f dac (taken_of b)).src h b.chains i) refl

  pub stepped_kept : Each I (stepped_of b f dac fx x).board.chains
  unfolding stepped_of
  stepped_kept = voices_kept k I f dac (sound_of f dac (taken_of b)).src h b.chains i
