-- The voices beside those with chains of before a request: where each chain's sample, as long as something holds of it, gives what it gave then and keeps that, so do the
-- voices. Assumes nothing.
use Prim.Native.Nat.{ℕ, ◌<◌}
use mathlib.Core.Path.{◌≡◌, refl, sym, ap, ◌∙◌}
use mathlib.Core.List.{List}
use lib.ListN.{get_or, set, get_or-map}
use lib.IntN.{ℤ}
use lib.Ieee.{Float}
use Rattle.std.proofs.lemmas.List.{map-set}
use Rattle.float.specs.Consts.{k0p5}
use Rattle.float.specs.Ops.{◌⊗◌}
use Rattle.float.specs.Floats.{to24_of}
use Rattle.lists.proofs.Sweep.{turns_match, set_keeps}
use Rattle.chain.specs.declared.Chain.{Chain}
use Rattle.chain.specs.declared.ChainOut.{ChainOut}
use Rattle.chain.specs.Chain.{no_chain, process_of}
use Rattle.chain.specs.Before.{OutOn, Kind, earlier_out}
use Rattle.bus.specs.Bus.{Bus, input_of, added_of, turn_of, voices_of}
use Rattle.bus.specs.Before.{BusOn, turn_on, voices_on, earlier_chains, earlier_bus}

-- I of each of the eight chains
abbrev pub Each : (Chain → Type 0) → List Chain → Type 0
Each I l = (v : ℕ) → v < 8 → I (get_or l v no_chain)

-- with this frame a sample of a chain of which I holds is that of then, and keeps I
pub record AsThen {C : Type 0} (k : Kind C) (I : Chain → Type 0) (f : List ℕ) : Type 0 where
  pub same : (v : ℕ) (x : Float) (c : Chain) → v < 8 → I c → k.process f v x (k.earlier c) ≡ earlier_out k.earlier (process_of f v x c)
  pub kept : (v : ℕ) (x : Float) (c : Chain) → v < 8 → I c → I (process_of f v x c).chain

record Beside {C : Type 0} (k : Kind C) (I : Chain → Type 0) (b : Bus) (e : BusOn C) : Type 0 where
  is : e ≡ earlier_bus k.earlier b
  holds : Each I b.chains

module _ {C : Type 0} (k : Kind C) (I : Chain → Type 0) (f : List ℕ) (dac : List ℤ) (src : List Float) (h : AsThen k I f) where
  -- voice v's sample, and what a sample makes of the voices
  abbrev now : ℕ → Bus → ChainOut
  now v b = process_of f v (input_of dac src v) (get_or b.chains v no_chain)

  abbrev made : ℕ → Bus → OutOn C → BusOn C
  made v b o = record { chains = set (earlier_chains k.earlier b.chains) v o.chain; rx = set b.rx v (to24_of (o.y.l ⊗ k0p5)); mix = added_of f v b.mix o.y }

  sample : (v : ℕ) (b : Bus) → v < 8 → Each I b.chains → k.process f v (input_of dac src v) (get_or (earlier_chains k.earlier b.chains) v (k.earlier no_chain)) ≡ earlier_out k.earlier (now v b)
  unfolding earlier_chains
  sample v b l i = ap (k.process f v (input_of dac src v)) (get_or-map k.earlier b.chains v no_chain) ∙ h.same v (input_of dac src v) (get_or b.chains v no_chain) l (i v l)

  turn : (v : ℕ) (b : Bus) (e : BusOn C) → v < 8 → Beside k I b e → Beside k I (turn_of f dac src v b) (turn_on k f dac src v e)
  unfolding turn_of turn_on earlier_chains
  turn v b e l r = record {
    is =
        ap (turn_on k f dac src v) r.is
        ∙ ap (made v b) (sample v b l r.holds)
        ∙ ap (λ (c : List C). record { chains = c; rx = set b.rx v (to24_of ((now v b).y.l ⊗ k0p5)); mix = added_of f v b.mix (now v b).y }) (sym (map-set k.earlier b.chains v (now v b).chain));
    holds = λ u m. set_keeps I no_chain b.chains v (now v b).chain u (r.holds u m) (h.kept v (input_of dac src v) (get_or b.chains v no_chain) l (r.holds v l));
  }

  module _ (chains : List Chain) (i : Each I chains) where
    beside : Beside k I (voices_of f dac src chains) (voices_on k f dac src (earlier_chains k.earlier chains))
    unfolding voices_of voices_on
    beside = turns_match (Beside k I) 8 (turn_of f dac src) (turn_on k f dac src) _ _ turn (record { is = refl; holds = i })

    pub voices_same : voices_on k f dac src (earlier_chains k.earlier chains) ≡ earlier_bus k.earlier (voices_of f dac src chains)
    voices_same = beside.is

    pub voices_kept : Each I (voices_of f dac src chains).chains
    voices_kept = beside.holds
