-- An answer is what it promises: the refusals in their order, and on a board that calls reach the first reason that holds. Assumes nothing.
use Prim.Native.Nat.{ℕ, ◌<◌}
use native.Mathlib.Omega.{arith}
use mathlib.Core.Path.{◌≡◌, refl, sym, subst}
use mathlib.Core.List.{List}
use lib.Dec.{ltb, lt→ltb}
use lib.IntN.{ℤ}
use lib.Ieee.{Float}
use lib.Ieee.Bits.{is_true}
use Rattle.std.proofs.Common.{le-ltb}
use Rattle.std.specs.Prelude.{Option, Some, None, Ok, Err}
use Rattle.stereo.specs.declared.Side.{Side}
use Rattle.frame.specs.Frame.{Bytes}
use Rattle.frame.proofs.Sizes.{word_in}
use Rattle.envelope.specs.Levels.{Level}
use Rattle.chain.proofs.Own.{filtered_fits}
use Rattle.bus.specs.Bus.{sample_of}
use Rattle.board.specs.declared.Analog.{Analog}
use Rattle.board.specs.declared.Inputs.{Inputs}
use Rattle.board.specs.declared.refusals.Refusal.{Refusal}
use Rattle.board.specs.declared.refusals.Refusal.TheVariants.{VoiceNumber}
use Rattle.board.specs.Board.{refusal_of, voice_of, stepped_of}
use Rattle.board.proofs.Numbers.{not_accepted}
use Rattle.promise.specs.Calls.{Reached}
use Rattle.promise.proofs.Kept.{Good, good_levels, stepped_good}
use Rattle.promise.proofs.Whole.{reached_within}
use Rattle.promise.proofs.BeforeR8.{reached_right}
use Rattle.why.specs.Why.{share_of, reason_of, why_refusal_of, told_if, why_of}
use Rattle.why.specs.Told.{amp_at, Answered, Told}
use Rattle.why.proofs.Products.{Figures}
use Rattle.why.proofs.First.{first_true}
use Rattle.why.proofs.Step.{of_the_step, cutoff_stored, sums}
use Rattle.why.proofs.Silent.{adds_nothing}

module _ (b : Analog) (f : List ℕ) (dac : List ℤ) (fx : List ℕ) (x : Inputs) (v : ℕ) (s : Side) where
  -- on a board within the ranges
  figures : Bytes f → Good b → v < 8 → Figures (share_of b f dac v s)
  unfolding share_of voice_of sample_of
  figures B g h =
      let o = of_the_step b f dac fx x g.long v h s in
      record {
        filtered = (filtered_fits f v _ _, o.traced.finite);
        level = subst (λ (l : Float). Level l) (sym o.level) (good_levels (stepped_of b f dac fx x).board (stepped_good b f dac fx x g B) (amp_at s v h));
        vca = word_in f B _;
        product = o.product;
      }

  abbrev o : Option Refusal
  o = refusal_of f dac fx x

  step_first : (r : Refusal) → o ≡ Some r → why_of b f dac fx x v s ≡ Err r
  unfolding why_of why_refusal_of told_if
  step_first r e = rw (e, not_accepted r) refl

  answered : o ≡ None → v < 8 → why_of b f dac fx x v s ≡ Ok (reason_of (share_of b f dac v s))
  unfolding why_of why_refusal_of told_if
  answered e h = rw (e, le-ltb 7 v (omega (arith, h))) refl

  voice_next : o ≡ None → 7 < v → why_of b f dac fx x v s ≡ Err VoiceNumber
  unfolding why_of why_refusal_of told_if
  voice_next e h = rw (e, is_true (ltb 7 v) (lt→ltb 7 v h)) refl

  reached : Bytes f → Reached b → o ≡ None → (h : v < 8) → Answered b f dac fx x v h s (why_of b f dac fx x v s)
  reached B r e h =
      let g = reached_within b r in
      let first = first_true (share_of b f dac v s) (figures B g h) in
      record {
        reason = reason_of (share_of b f dac v s);
        is = answered e h;
        first_true = first;
        share = of_the_step b f dac fx x g.long v h s;
        silent = λ k. adds_nothing b f dac s v (first.unheard k);
        stored = cutoff_stored b f dac fx x g.long v h s (reached_right b r v h);
      }

  pub told : Bytes f → Told b f dac fx x v s (why_of b f dac fx x v s)
  told B = record { step_first = step_first; voice_next = voice_next; reached = reached B; share = λ long h. of_the_step b f dac fx x long v h s; sums = sums b f dac s }
