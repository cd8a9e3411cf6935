-- The voices beside those before R-5: receive words, left mix and the chains' earlier fields are theirs on any frame; and where both records of each voice are the same
-- bytes, all of it while both amps of each chain stand alike. Assumes nothing.
use Prim.Native.Nat.{ℕ}
use mathlib.Core.Path.{◌≡◌, refl, sym, ap, ap₂, ◌∙◌}
use mathlib.Core.Bool.{cond}
use mathlib.Core.List.{List}
use lib.ListN.{get_or, set, get_or-map}
use lib.IntN.{ℤ}
use lib.Ieee.{Float}
use Rattle.std.proofs.lemmas.List.{map-set}
use Rattle.float.specs.Consts.{k0p5}
use Rattle.float.specs.Ops.{◌⊕◌, ◌⊗◌}
use Rattle.float.specs.Floats.{to24_of}
use Rattle.frame.specs.Offsets.{VCA_L}
use Rattle.frame.specs.Frame.{routed_off}
use Rattle.lists.proofs.Sweep.{turns_match}
use Rattle.stereo.specs.declared.Mix.{Mix}
use Rattle.chain.specs.declared.Chain.{Chain}
use Rattle.chain.specs.declared.ChainOut.{ChainOut}
use Rattle.chain.specs.Chain.{no_chain, process_of}
use Rattle.chain.specs.Before.{OutOn}
use Rattle.chain.specs.BeforeR5.{ChainBefore, process_before, earlier_chain, before}
use Rattle.chain.proofs.BeforeR5.{left_of, left_as_before, as_before, alike_after}
use Rattle.bus.specs.Bus.{Bus, input_of, contribution_of, added_of, turn_of, voices_of}
use Rattle.bus.specs.Before.{BusOn, turn_on, voices_on, earlier_chains}
use Rattle.bus.specs.BeforeR5.{LeftAsBefore, SameRecords}
use Rattle.bus.proofs.Alone.{pushed}
use Rattle.bus.proofs.Before.{AsThen}

-- a chain's amps stand alike
abbrev pub AmpsAlike : Chain → Type 0
AmpsAlike c = c.amp_r ≡ c.amp

pub same_records : (f : List ℕ) → SameRecords f → AsThen before AmpsAlike f
same_records f r = record { same = λ v x c l e. as_before f v x c e (r v l); kept = λ v x c l e. alike_after f v x c e (r v l) }

module _ (f : List ℕ) (dac : List ℤ) (src : List Float) where
  -- voice v's sample, and the one before R-5
  abbrev now : ℕ → Bus → ChainOut
  now v b = process_of f v (input_of dac src v) (get_or b.chains v no_chain)

  abbrev then : ℕ → BusOn ChainBefore → OutOn ChainBefore
  then v e = process_before f v (input_of dac src v) (get_or e.chains v (earlier_chain no_chain))

  sample : (v : ℕ) (b : Bus) (e : BusOn ChainBefore) → LeftAsBefore b e → then v e ≡ left_of (now v b)
  unfolding earlier_chains
  sample v b e h =
      ap (λ (l : List ChainBefore). process_before f v (input_of dac src v) (get_or l v (earlier_chain no_chain))) h.chains
      ∙ ap (process_before f v (input_of dac src v)) (get_or-map earlier_chain b.chains v no_chain)
      ∙ left_as_before f v (input_of dac src v) (get_or b.chains v no_chain)

  turn : (v : ℕ) (b : Bus) (e : BusOn ChainBefore) → LeftAsBefore b e → LeftAsBefore (turn_of f dac src v b) (turn_on before f dac src v e)
  unfolding turn_of turn_on added_of earlier_chains
  turn v b e h = record {
    chains = ap₂ (λ (l : List ChainBefore) (o : OutOn ChainBefore). set l v o.chain) h.chains (sample v b e h) ∙ sym (map-set earlier_chain b.chains v (now v b).chain);
    rx = ap₂ (λ (l : List ℤ) (o : OutOn ChainBefore). set l v (to24_of (o.y.l ⊗ k0p5))) h.rx (sample v b e h);
    left =
        let off = routed_off f v in
        pushed (λ (m : Mix). m.l) off e.mix _
        ∙ ap₂ (λ (m : Float) (o : OutOn ChainBefore). cond off m (m ⊕ contribution_of f VCA_L v o.y.l)) h.left (sample v b e h)
        ∙ sym (pushed (λ (m : Mix). m.l) off b.mix _);
  }

  pub voices_left : (chains : List Chain) → LeftAsBefore (voices_of f dac src chains) (voices_on before f dac src (earlier_chains earlier_chain chains))
  unfolding voices_of voices_on
  voices_left chains = turns_match LeftAsBefore 8 (turn_of f dac src) (turn_on before f dac src) _ _ (λ v b e k h. turn v b e h) (record { chains = refl; rx = refl; left = refl })
