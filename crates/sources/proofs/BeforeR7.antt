-- The sources of a step beside those of before R-7, where no oscillator 1 sounds without FM or ring: they stand alike after it, and each sample is the same or both are zeros. Assumes nothing.
use Prim.Native.Nat.{ℕ, zero, suc, ◌<◌, ◌≤◌}
use native.Mathlib.Omega.{arith}
use mathlib.Core.Path.{◌≡◌, refl, sym, ap, ap₂, subst, ◌∙◌}
use mathlib.Core.Bool.{false}
use mathlib.Core.List.{List, [], ◌∷◌}
use lib.ListN.{get_or, set}
use lib.IntN.{ℤ, pos}
use lib.Ieee.{Float, nan}
use Rattle.float.proofs.Zeros.{Alike, same}
use Rattle.frame.specs.Offsets.{HAT_VOICE, CYM_VOICE, dual_spec, tom_spec}
use Rattle.frame.specs.Frame.{Bytes}
use Rattle.lists.specs.Turns.{turns_of}
use Rattle.lists.proofs.Sweep.{turns_match}
use Rattle.wobble.specs.declared.Wobble.{Wobble}
use Rattle.dual.specs.declared.DualOsc.{DualOsc}
use Rattle.dual.specs.declared.DualOut.{DualOut}
use Rattle.dual.specs.Dual as Dual
use Rattle.dual.specs.BeforeR7.{plain_sounds, sample_before}
use Rattle.dual.proofs.Kept.{DualIn}
use Rattle.dual.proofs.BeforeR7.{only_plain_changed}
use Rattle.dual.proofs.Silent.{sample_alike}
use Rattle.tom.specs.declared.Tom.{Tom}
use Rattle.tom.specs.declared.TomOut.{TomOut}
use Rattle.tom.specs.Tom as Tom
use Rattle.cym.specs.declared.CymOut.{CymOut}
use Rattle.cym.specs.Cym as Cym
use Rattle.hat.specs.declared.Hat.{Hat}
use Rattle.hat.specs.declared.HatOut.{HatOut}
use Rattle.hat.specs.Hat as Hat
use Rattle.sources.specs.Sources.{Sources, no_dual, no_tom, dual_turn, duals_of, tom_turn, toms_of, metal_of, sound_of}
use Rattle.sources.specs.BeforeR7.{dual_turn_before, duals_before, sound_before}
use Rattle.sources.proofs.Kept.{SourcesIn, dual_later}

-- ---- lists of samples
pub AllAlike : List Float → List Float → Type 0
AllAlike [] [] = Unit
AllAlike [] (y ∷ m) = ⊥
AllAlike (x ∷ l) [] = ⊥
AllAlike (x ∷ l) (y ∷ m) = Alike x y × AllAlike l m

all_same : (l : List Float) → AllAlike l l
unfolding AllAlike
all_same [] = tt
all_same (x ∷ l) = (same refl, all_same l)

all_set : (l m : List Float) (k : ℕ) (x y : Float) → AllAlike l m → Alike x y → AllAlike (set l k x) (set m k y)
unfolding AllAlike
all_set [] [] k x y h a = tt
all_set [] (v ∷ m) k x y h a = absurd h
all_set (u ∷ l) [] k x y h a = absurd h
all_set (u ∷ l) (v ∷ m) zero x y h a = (a, h.1)
all_set (u ∷ l) (v ∷ m) (suc k) x y h a = (h.0, all_set l m k x y h.1 a)

pub all_at : (l m : List Float) (v : ℕ) → AllAlike l m → Alike (get_or l v nan) (get_or m v nan)
unfolding AllAlike
all_at [] [] v h = same refl
all_at [] (y ∷ m) v h = absurd h
all_at (x ∷ l) [] v h = absurd h
all_at (x ∷ l) (y ∷ m) zero h = h.0
all_at (x ∷ l) (y ∷ m) (suc v) h = all_at l m v h.1

-- ---- sources that stand alike, but for samples that may be zeros of two signs
pub record Beside (s e : Sources) : Type 0 where
  pub duals : e.duals ≡ s.duals
  pub hat : e.hat ≡ s.hat
  pub toms : e.toms ≡ s.toms
  pub cym : e.cym ≡ s.cym
  pub w : e.w ≡ s.w
  pub src : AllAlike s.src e.src

module _ (f : List ℕ) (B : Bytes f) (dac : List ℤ) where
  dual_beside : (d : ℕ) (s e : Sources) → DualIn (get_or s.duals d no_dual) → plain_sounds f d (get_or s.duals d no_dual) ≡ false → Beside s e → Beside (dual_turn f d s) (dual_turn_before f d e)
  unfolding dual_turn dual_turn_before
  dual_beside d s e i q h =
      let v = get_or s.duals d no_dual in
      let then : sample_before f d (get_or e.duals d no_dual) e.w ≡ sample_before f d v s.w = ap₂ (λ (l : List DualOsc) (w : Wobble). sample_before f d (get_or l d no_dual) w) h.duals h.w in
      let now = only_plain_changed f d v s.w in
      record {
        duals = ap₂ (λ (l : List DualOsc) (x : DualOsc). set l d x) h.duals (ap (λ (o : DualOut). o.dual) then ∙ sym now.dual);
        hat = h.hat;
        toms = h.toms;
        cym = h.cym;
        w = ap (λ (o : DualOut). o.w) then ∙ sym now.draws;
        src =
            subst (λ (o : DualOut). AllAlike (set s.src (dual_spec d).voice (Dual.sample_of f d v s.w).y) (set e.src (dual_spec d).voice o.y)) (sym then)
            (all_set s.src e.src (dual_spec d).voice _ _ h.src (sample_alike f B d v s.w i q));
      }

  tom_beside : (t : ℕ) (s e : Sources) → Beside s e → Beside (tom_turn f dac t s) (tom_turn f dac t e)
  unfolding tom_turn
  tom_beside t s e h =
      let o = λ (l : List Tom) (w : Wobble). Tom.sample_of f t (get_or dac (tom_spec t).dac (pos 0)) (get_or l t no_tom) w in
      let then : o e.toms e.w ≡ o s.toms s.w = ap₂ o h.toms h.w in
      record {
        duals = h.duals;
        hat = h.hat;
        toms = ap₂ (λ (l : List Tom) (x : TomOut). set l t x.tom) h.toms then;
        cym = h.cym;
        w = ap (λ (x : TomOut). x.w) then;
        src = all_set s.src e.src (tom_spec t).voice _ _ h.src (same (sym (ap (λ (x : TomOut). x.y) then)));
      }

  metal_beside : (s e : Sources) → Beside s e → Beside (metal_of f s) (metal_of f e)
  unfolding metal_of
  metal_beside s e h =
      let c : Cym.sample_of f e.cym e.w ≡ Cym.sample_of f s.cym s.w = ap₂ (Cym.sample_of f) h.cym h.w in
      let p : Hat.sample_of f e.hat (Cym.sample_of f e.cym e.w).w ≡ Hat.sample_of f s.hat (Cym.sample_of f s.cym s.w).w = ap₂ (λ (x : Hat) (o : CymOut). Hat.sample_of f x o.w) h.hat c in
      record {
        duals = h.duals;
        hat = ap (λ (o : HatOut). o.hat) p;
        toms = h.toms;
        cym = ap (λ (o : CymOut). o.cym) c;
        w = ap (λ (o : HatOut). o.w) p;
        src =
            all_set _ _ HAT_VOICE _ _ (all_set s.src e.src CYM_VOICE _ _ h.src (same (sym (ap (λ (o : CymOut). o.y) c)))) (same (sym (ap (λ (o : HatOut). o.y) p)));
      }

  module _ (s : Sources) (h : SourcesIn s) (q : (d : ℕ) → d < 3 → plain_sounds f d (get_or s.duals d no_dual) ≡ false) where
    duals_beside : (n : ℕ) → n ≤ 3 → Beside (turns_of n (dual_turn f) s) (turns_of n (dual_turn_before f) s)
    unfolding turns_of
    duals_beside zero l = record { duals = refl; hat = refl; toms = refl; cym = refl; w = refl; src = all_same s.src }
    duals_beside (suc n) l =
        let later = sym (dual_later f dac s n) in
        dual_beside n (turns_of n (dual_turn f) s) _ (subst DualIn later (h.duals n (omega arith))) (subst (λ (e : DualOsc). plain_sounds f n e ≡ false) later (q n (omega arith))) (duals_beside n (omega arith))

    pub sound_beside : Beside (sound_of f dac s) (sound_before f dac s)
    unfolding sound_of sound_before toms_of duals_of duals_before
    sound_beside = metal_beside _ _ (turns_match Beside 3 (tom_turn f dac) (tom_turn f dac) _ _ (λ t x y l. tom_beside t x y) (duals_beside 3 (omega arith)))
