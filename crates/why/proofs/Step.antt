-- A share's figures are the step's: its levels those of the next board, and each side of the voices' mix the sum of the contributions. Assumes nothing.
use Prim.Native.Nat.{ℕ, ◌+◌, ◌*◌, ◌<◌}
use mathlib.Core.Path.{◌≡◌, refl, sym, ap, ◌∙◌, subst}
use mathlib.Core.Bool.{Bool, true, false, cond}
use mathlib.Core.List.{List}
use lib.ListN.{get_or, length}
use lib.IntN.{ℤ}
use lib.Ieee.{Float}
use Rattle.float.specs.Consts.{k0}
use Rattle.float.specs.Ops.{◌⊕◌}
use Rattle.stereo.specs.declared.Mix.{Mix}
use Rattle.stereo.specs.declared.Side.{Side}
use Rattle.stereo.specs.declared.Side.TheVariants.{Left, Right}
use Rattle.stereo.specs.Stereo.{side_of}
use Rattle.frame.specs.Offsets.{FRQ, FLT_ENV}
use Rattle.frame.specs.Frame.{signed_f, routed_off}
use Rattle.lists.proofs.Sweep.{turns_match}
use Rattle.sources.specs.Sources.{sound_of}
use Rattle.chain.specs.declared.Chain.{Chain}
use Rattle.chain.specs.Chain.{no_chain, settings_of, cutoff_of, limited_of, process_of, pair_fc}
use Rattle.chain.proofs.Own.{traced}
use Rattle.chain.proofs.BeforeR8.{FromPair, fc_after}
use Rattle.bus.specs.Bus.{input_of, contribution_of, added_of, sample_of, voices_of, sum_of}
use Rattle.bus.proofs.Kept.{own_chain}
use Rattle.bus.proofs.Alone.{pushed, each_side_alone}
use Rattle.board.specs.declared.Analog.{Analog}
use Rattle.board.specs.declared.Inputs.{Inputs}
use Rattle.board.specs.Board.{taken_of, voice_of, stepped_of}
use Rattle.promise.specs.Levels.{chain_filter, level_at}
use Rattle.why.specs.Why.{vca_of, adds_of, share_of}
use Rattle.why.specs.Told.{amp_at, product_of, OfTheStep, Sums}

module _ (b : Analog) (f : List ℕ) (dac : List ℤ) where
  abbrev src : List Float
  src = (sound_of f dac (taken_of b)).src

  skipped : (b : Bool) (m c : Float) → cond b m (m ⊕ c) ≡ cond b m (m ⊕ cond b k0 c)
  skipped true m c = refl
  skipped false m c = refl

  added : (v : ℕ) (s : Side) (m : Mix) → let p = share_of b f dac v s in side_of s (added_of f v m (voice_of b f dac v).y) ≡ cond p.off (side_of s m) (side_of s m ⊕ p.adds)
  unfolding share_of added_of adds_of
  added v Left m = pushed (λ (n : Mix). n.l) (routed_off f v) m _ ∙ skipped (routed_off f v) m.l _
  added v Right m = pushed (λ (n : Mix). n.r) (routed_off f v) m _ ∙ skipped (routed_off f v) m.r _

  product : (v : ℕ) (s : Side) → let p = share_of b f dac v s in p.adds ≡ cond p.off k0 (product_of p)
  unfolding share_of voice_of sample_of process_of adds_of contribution_of product_of
  product v Left = refl
  product v Right = refl

  module _ (fx : List ℕ) (x : Inputs) (long : length b.chains ≡ 8) (v : ℕ) (h : v < 8) where
    own : get_or (stepped_of b f dac fx x).board.chains v no_chain ≡ (voice_of b f dac v).chain
    unfolding stepped_of voice_of
    own = own_chain f dac src b.chains long v h

    level : (s : Side) → (share_of b f dac v s).level ≡ level_at (stepped_of b f dac fx x).board (amp_at s v h)
    unfolding share_of
    level Left = sym (ap (λ (c : Chain). c.amp.level) own)
    level Right = sym (ap (λ (c : Chain). c.amp_r.level) own)

    tangent : (voice_of b f dac v).cutoff ≡ limited_of (cutoff_of (signed_f f (FRQ + 2 * v)) (signed_f f (FLT_ENV + 8 * v)) (level_at (stepped_of b f dac fx x).board (chain_filter v h)))
    unfolding voice_of sample_of process_of settings_of
    tangent = sym (ap (λ (c : Chain). limited_of (cutoff_of (signed_f f (FRQ + 2 * v)) (signed_f f (FLT_ENV + 8 * v)) c.flt.level)) own)

    -- of a chain whose coefficients are those of their pair
    pub cutoff_stored : (s : Side) → FromPair (get_or b.chains v no_chain).coefs → (share_of b f dac v s).cutoff ≡ limited_of (get_or (stepped_of b f dac fx x).board.chains v no_chain).coefs.fc
    unfolding share_of voice_of sample_of
    cutoff_stored s r =
        let same = subst (λ (c : Chain). c.coefs.fc ≡ pair_fc f v c.flt.level) (sym own) (fc_after f v (input_of dac src v) (get_or b.chains v no_chain) r) in
        tangent ∙ ap limited_of (sym same)

    pub of_the_step : (s : Side) → OfTheStep b f dac fx x v h s
    unfolding share_of voice_of sample_of
    of_the_step s = record {
      chain = own;
      off = refl;
      level = level s;
      vca = refl;
      filtered = refl;
      cutoff = refl;
      traced = traced f v (input_of dac src v) (get_or b.chains v no_chain);
      tangent = tangent;
      product = product v s;
      added = added v s;
    }

  pub sums : (s : Side) → Sums b f dac s
  unfolding share_of voice_of adds_of sum_of
  sums s = side s ∙ turns_match (λ (m n : Float). m ≡ n) 8 _ _ k0 k0 (λ v m n h e. skipped (routed_off f v) m _ ∙ ap (λ (y : Float). cond (routed_off f v) y (y ⊕ (share_of b f dac v s).adds)) e) refl
    where
      side : (s : Side) → side_of s (voices_of f dac src b.chains).mix ≡ sum_of f (vca_of s) (λ v. side_of s (sample_of f dac src b.chains v).y) 8
      side Left = (each_side_alone f dac src b.chains).left
      side Right = (each_side_alone f dac src b.chains).right
