-- What the sources of a step do to each voice: its own sample, from some state of the random source that all share; and their phases, levels and draws stay in their ranges. Assumes nothing.
use Prim.Native.Nat.{ℕ, ◌<◌}
use native.Mathlib.Omega.{arith}
use mathlib.Core.Path.{◌≡◌, refl, sym, ap, ◌∙◌, subst}
use mathlib.Core.List.{List}
use lib.ListN.{get_or, length, length-set}
use lib.IntN.{ℤ, pos}
use Rattle.frame.specs.Offsets.{tom_spec}
use Rattle.frame.specs.Frame.{Bytes}
use Rattle.lists.specs.Turns.{turns_of}
use Rattle.lists.proofs.Sweep.{turns_keep, set_keeps, Turn, turns_later, turns_at}
use Rattle.wobble.specs.declared.Wobble.{Wobble}
use Rattle.wobble.proofs.Kept.{WobbleIn}
use Rattle.dual.specs.declared.DualOsc.{DualOsc}
use Rattle.dual.specs.Dual as Dual
use Rattle.dual.proofs.Kept.{DualIn, dual_in}
use Rattle.tom.proofs.Kept.{tom_in}
use Rattle.hat.specs.declared.Hat.{Hat}
use Rattle.hat.specs.Hat as Hat
use Rattle.hat.proofs.Kept.{HatIn, hat_in}
use Rattle.cym.specs.declared.Cym.{Cym}
use Rattle.cym.specs.Cym as Cym
use Rattle.cym.proofs.Kept.{CymIn, cym_in}
use Rattle.sources.specs.Sources.{Sources, no_dual, no_tom, dual_turn, duals_of, tom_turn, toms_of, metal_of, sound_of}

-- ---- each voice by its own sample
pub record DualBy (f : List ℕ) (d : ℕ) (old new : DualOsc) : Type 0 where
  pub w : Wobble
  pub is : new ≡ (Dual.sample_of f d old w).dual

pub record HatBy (f : List ℕ) (old new : Hat) : Type 0 where
  pub w : Wobble
  pub is : new ≡ (Hat.sample_of f old w).hat

pub record CymBy (f : List ℕ) (old new : Cym) : Type 0 where
  pub w : Wobble
  pub is : new ≡ (Cym.sample_of f old w).cym

module _ (f : List ℕ) (dac : List ℤ) (s : Sources) where
  turn : (d : ℕ) (x : Sources) → Turn (λ (y : Sources). y.duals) no_dual (DualBy f) d x (dual_turn f d x)
  unfolding dual_turn
  turn d x = record { put = (Dual.sample_of f d (get_or x.duals d no_dual) x.w).dual; sets = refl; rule = record { w = x.w; is = refl } }

  -- voice n as it stands before its turn is as it stood at first
  pub dual_later : (n : ℕ) → get_or (turns_of n (dual_turn f) s).duals n no_dual ≡ get_or s.duals n no_dual
  dual_later n = turns_later (λ (y : Sources). y.duals) no_dual (DualBy f) (dual_turn f) turn s n n (omega arith)

  -- the toms leave the dual voices, and both leave hat and cymbal
  toms_leave : (toms_of f dac (duals_of f s)).duals ≡ (duals_of f s).duals
  unfolding toms_of tom_turn
  toms_leave = turns_keep (λ (x : Sources). x.duals ≡ (duals_of f s).duals) 3 (tom_turn f dac) (duals_of f s) (λ k x l e. e) refl

  hat_left : (toms_of f dac (duals_of f s)).hat ≡ s.hat
  unfolding toms_of tom_turn duals_of dual_turn
  hat_left =
      turns_keep (λ (x : Sources). x.hat ≡ s.hat) 3 (tom_turn f dac) (duals_of f s) (λ k x l e. e)
      (turns_keep (λ (x : Sources). x.hat ≡ s.hat) 3 (dual_turn f) s (λ k x l e. e) refl)

  cym_left : (toms_of f dac (duals_of f s)).cym ≡ s.cym
  unfolding toms_of tom_turn duals_of dual_turn
  cym_left =
      turns_keep (λ (x : Sources). x.cym ≡ s.cym) 3 (tom_turn f dac) (duals_of f s) (λ k x l e. e)
      (turns_keep (λ (x : Sources). x.cym ≡ s.cym) 3 (dual_turn f) s (λ k x l e. e) refl)

  pub dual_by : length s.duals ≡ 3 → (d : ℕ) → d < 3 → DualBy f d (get_or s.duals d no_dual) (get_or (sound_of f dac s).duals d no_dual)
  unfolding sound_of metal_of duals_of
  dual_by e d h =
      subst (λ (l : List DualOsc). DualBy f d (get_or s.duals d no_dual) (get_or l d no_dual)) (sym toms_leave)
      (turns_at (λ (y : Sources). y.duals) no_dual (DualBy f) (dual_turn f) turn s 3 d h (omega arith))

  pub hat_by : HatBy f s.hat (sound_of f dac s).hat
  unfolding sound_of metal_of
  hat_by =
      let t = toms_of f dac (duals_of f s) in
      let w = (Cym.sample_of f t.cym t.w).w in
      record { w = w; is = ap (λ (h : Hat). (Hat.sample_of f h w).hat) hat_left }

  pub cym_by : CymBy f s.cym (sound_of f dac s).cym
  unfolding sound_of metal_of
  cym_by =
      let t = toms_of f dac (duals_of f s) in
      record { w = t.w; is = ap (λ (c : Cym). (Cym.sample_of f c t.w).cym) cym_left }

-- ---- the ranges
pub record SourcesIn (s : Sources) : Type 0 where
  pub long : length s.duals ≡ 3
  pub duals : (d : ℕ) → d < 3 → DualIn (get_or s.duals d no_dual)
  pub hat : HatIn s.hat
  pub cym : CymIn s.cym
  pub w : WobbleIn s.w

module _ (f : List ℕ) (B : Bytes f) (dac : List ℤ) where
  dual_turn_in : (d : ℕ) (s : Sources) → d < 3 → SourcesIn s → SourcesIn (dual_turn f d s)
  unfolding dual_turn
  dual_turn_in d s l h =
      let o = dual_in f B d (get_or s.duals d no_dual) s.w (h.duals d l) h.w in
      record {
        long = length-set s.duals d _ ∙ h.long;
        duals = λ i m. set_keeps DualIn no_dual s.duals d _ i (h.duals i m) o.0;
        hat = h.hat;
        cym = h.cym;
        w = o.1;
      }

  tom_turn_in : (t : ℕ) (s : Sources) → SourcesIn s → SourcesIn (tom_turn f dac t s)
  unfolding tom_turn
  tom_turn_in t s h = record {
    long = h.long;
    duals = h.duals;
    hat = h.hat;
    cym = h.cym;
    w = tom_in f t (get_or dac (tom_spec t).dac (pos 0)) (get_or s.toms t no_tom) s.w h.w;
  }

  metal_in : (s : Sources) → SourcesIn s → SourcesIn (metal_of f s)
  unfolding metal_of
  metal_in s h =
      let o = cym_in f B s.cym s.w h.cym h.w in
      let p = hat_in f B s.hat (Cym.sample_of f s.cym s.w).w h.hat o.1 in
      record { long = h.long; duals = h.duals; hat = p.0; cym = o.0; w = p.1 }

  pub sound_in : (s : Sources) → SourcesIn s → SourcesIn (sound_of f dac s)
  unfolding sound_of toms_of duals_of
  sound_in s h = metal_in _ (turns_keep SourcesIn 3 (tom_turn f dac) _ (λ k x l i. tom_turn_in k x i) (turns_keep SourcesIn 3 (dual_turn f) s dual_turn_in h))
