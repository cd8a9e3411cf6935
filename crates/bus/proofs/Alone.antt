-- Each side of the voices' mix is the sum of its own samples. Assumes nothing.
use Prim.Native.Nat.{ℕ, zero, suc}
use native.Mathlib.Nat.{le_refl}
use mathlib.Core.Path.{◌≡◌, refl, ap, ap₂, ◌∙◌}
use mathlib.Core.Bool.{Bool, true, false, cond}
use mathlib.Core.List.{List}
use lib.ListN.{get_or, replicate}
use lib.IntN.{ℤ, pos}
use lib.Ieee.{Float}
use Rattle.float.specs.Consts.{k0}
use Rattle.float.specs.Ops.{◌⊕◌}
use Rattle.frame.specs.Offsets.{VCA_L, VCA_R}
use Rattle.frame.specs.Frame.{routed_off}
use Rattle.lists.specs.Turns.{turns_of}
use Rattle.lists.proofs.Sweep.{turns_later}
use Rattle.stereo.specs.declared.Mix.{Mix}
use Rattle.chain.specs.declared.Chain.{Chain}
use Rattle.chain.specs.Chain.{no_chain, process_of}
use Rattle.bus.specs.Bus.{Bus, input_of, contribution_of, added_of, turn_of, voices_of, sample_of, sum_of, EachSideAlone}
use Rattle.bus.proofs.Kept.{Fed, turn}

-- a side of a mix that a voice is added to or kept from
pub pushed : (g : Mix → Float) (off : Bool) (m n : Mix) → g (cond off m n) ≡ cond off (g m) (g n)
pushed g true m n = refl
pushed g false m n = refl

module _ (f : List ℕ) (dac : List ℤ) (src : List Float) (chains : List Chain) where
  abbrev start : Bus
  start = record { chains = chains; rx = replicate 12 (pos 0); mix = record { l = k0; r = k0 } }

  abbrev after : ℕ → Bus
  after n = turns_of n (turn_of f dac src) start

  -- turn n takes the sample of the chain that was given
  own : (n : ℕ) → (process_of f n (input_of dac src n) (get_or (after n).chains n no_chain)).y ≡ (sample_of f dac src chains n).y
  unfolding sample_of
  own n = ap (λ (c : Chain). (process_of f n (input_of dac src n) c).y) (turns_later (λ (b : Bus). b.chains) no_chain (Fed f dac src chains) (turn_of f dac src) (turn f dac src chains) start n n (le_refl n))

  sums : (n : ℕ) → ((after n).mix.l ≡ sum_of f VCA_L (λ v. (sample_of f dac src chains v).y.l) n) × ((after n).mix.r ≡ sum_of f VCA_R (λ v. (sample_of f dac src chains v).y.r) n)
  unfolding turns_of turn_of added_of sum_of
  sums zero = (refl, refl)
  sums (suc n) =
      let off = routed_off f n in (
        pushed (λ (m : Mix). m.l) off (after n).mix _ ∙ ap₂ (λ (m : Float) (y : Mix). cond off m (m ⊕ contribution_of f VCA_L n y.l)) (sums n).0 (own n),
        pushed (λ (m : Mix). m.r) off (after n).mix _ ∙ ap₂ (λ (m : Float) (y : Mix). cond off m (m ⊕ contribution_of f VCA_R n y.r)) (sums n).1 (own n),
      )

  pub each_side_alone : EachSideAlone f dac src chains (voices_of f dac src chains).mix
  unfolding voices_of
  each_side_alone = record { left = (sums 8).0; right = (sums 8).1 }
