-- A step beside the one before R-7: where no oscillator 1 sounds without FM or ring in it, it answers as that one. Assumes nothing.
use Prim.Native.Nat.{ℕ, zero, suc}
use mathlib.Core.Path.{◌≡◌, refl, sym, subst}
use mathlib.Core.Bool.{Bool, true, false, cond}
use mathlib.Core.List.{List, [], ◌∷◌}
use lib.ListN.{get_or, length}
use lib.Dec.{T, ltb, eqb}
use lib.IntN.{ℤ, pos, negsuc}
use lib.Ieee.{nan}
use lib.Ieee.Fits.{and_l, and_r}
use Rattle.std.specs.Prelude.{Option, Some}
use Rattle.std.specs.Int.Signed.{le_z}
use Rattle.frame.specs.Offsets.{FRAME_BYTES}
use Rattle.frame.specs.Frame.{Bytes}
use Rattle.sources.specs.Sources.{Sources, sound_of}
use Rattle.sources.specs.BeforeR7.{sound_before}
use Rattle.sources.proofs.Kept.{SourcesIn}
use Rattle.sources.proofs.BeforeR7.{Beside, sound_beside, all_at}
use Rattle.bus.specs.Bus.{input_of, voices_of}
use Rattle.bus.proofs.Fed.{Words, fed_alike, voices_fed}
use Rattle.board.specs.declared.Analog.{Analog}
use Rattle.board.specs.declared.Inputs.{Inputs}
use Rattle.board.specs.declared.refusals.Refusal.{Refusal}
use Rattle.board.specs.declared.refusals.Refusal.TheVariants.{ShortFrame, ShortParameters, DacCount}
use Rattle.board.specs.Board.{in_range, all_in_range, inputs_ok, taken_of, stepped_of, refusal_of, accepted}
use Rattle.board.specs.Before.{earlier_answer}
use Rattle.board.specs.BeforeR7.{stepped_before, NonePlain}

-- ---- the DAC words of an accepted step
each_in_range : (dac : List ℤ) → T (all_in_range dac) → (v : ℕ) → T (in_range (get_or dac v (pos 0)))
unfolding in_range all_in_range
each_in_range [] t v = tt
each_in_range (z ∷ zs) t zero = and_l (in_range z) (all_in_range zs) t
each_in_range (z ∷ zs) t (suc v) = each_in_range zs (and_r (in_range z) (all_in_range zs) t) v

words : (dac : List ℤ) → T (all_in_range dac) → Words dac
unfolding in_range
words dac t = record {
  least = λ v. let z = get_or dac v (pos 0) in and_l (le_z (negsuc 8388607) z) (le_z z (pos 8388607)) (each_in_range dac t v);
  most = λ v. let z = get_or dac v (pos 0) in and_r (le_z (negsuc 8388607) z) (le_z z (pos 8388607)) (each_in_range dac t v);
}

pub accepted_words : (f : List ℕ) (dac : List ℤ) (fx : List ℕ) (x : Inputs) → T (accepted (refusal_of f dac fx x)) → Words dac
unfolding refusal_of
accepted_words f dac fx x t = words dac (by (all_in_range dac) (inputs_ok x) refl refl)
  where
    -- a step that one of the last two tests refuses is not accepted, whatever the first three say
    refused : (a b c : Bool) (o : Option Refusal) → accepted o ≡ false → T (accepted (cond a (Some ShortFrame) (cond b (Some ShortParameters) (cond c o (Some DacCount))))) → ⊥
    refused true b c o e t = t
    refused false true c o e t = t
    refused false false true o e t = subst T e t
    refused false false false o e t = t

    by : (r i : Bool) → all_in_range dac ≡ r → inputs_ok x ≡ i → T r
    by true i d e = tt
    by false true d e = absurd (refused (ltb (length f) FRAME_BYTES) (ltb (length fx) 24) (eqb (length dac) 16) _ refl (simp (d, e) at t))
    by false false d e = absurd (refused (ltb (length f) FRAME_BYTES) (ltb (length fx) 24) (eqb (length dac) 16) _ refl (simp (d, e) at t))

-- ---- the step
rewrapped : (s e : Sources) → Beside s e → e ≡ record { duals = s.duals; hat = s.hat; toms = s.toms; cym = s.cym; w = s.w; src = e.src }
rewrapped s e h = rw (sym h.duals, sym h.hat, sym h.toms, sym h.cym, sym h.w) refl

module _ (b : Analog) (f : List ℕ) (B : Bytes f) (dac : List ℤ) (fx : List ℕ) (x : Inputs) (h : SourcesIn (taken_of b)) where
  pub stepped_as_before : Words dac → NonePlain f b → stepped_before b f dac fx x ≡ earlier_answer (λ (c : Analog). c) (stepped_of b f dac fx x)
  unfolding stepped_of stepped_before input_of taken_of
  stepped_as_before w q =
      let s = sound_of f dac (taken_of b) in
      let e = sound_before f dac (taken_of b) in
      let i = sound_beside f B dac (taken_of b) h q in
      let fed : voices_of f dac e.src b.chains ≡ voices_of f dac s.src b.chains =
      voices_fed f dac s.src e.src b.chains (λ v. sym (fed_alike dac v (get_or s.src v nan) (get_or e.src v nan) w (all_at s.src e.src v i.src))) in
      rw (rewrapped s e i, fed) refl
