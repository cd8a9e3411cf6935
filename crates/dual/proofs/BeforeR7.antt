-- A sample of a dual voice beside the one before R-7: with FM or ring on it is that one, without them only what is heard can differ, and it is that one's of the switch turned. Assumes nothing.
use Prim.Native.Nat.{ℕ}
use mathlib.Core.Path.{◌≡◌, refl, sym, ap, ◌∙◌}
use mathlib.Core.Bool.{Bool, true, false, ◌||◌, cond}
use mathlib.Core.List.{List}
use lib.Dec.{T}
use lib.Ieee.{Float}
use Rattle.vco.specs.declared.Pair.{Pair}
use Rattle.vco.specs.declared.PairOut.{PairOut}
use Rattle.wobble.specs.declared.Wobble.{Wobble}
use Rattle.dual.specs.declared.DualOsc.{DualOsc}
use Rattle.dual.specs.declared.Settings.{Settings}
use Rattle.dual.specs.Dual.{settings_of, paired_of, plain_of, sound_of, sample_by, sample_of}
use Rattle.dual.specs.Codes.{heard_of}
use Rattle.dual.specs.BeforeR7.{plain_before, sound_before, sample_before, OnlyPlainChanged, turned}
use Rattle.dual.proofs.Codes.{sound_heard}

-- what is chosen where the test holds
chosen : {A : Type 0} (b : Bool) (x y z : A) → T b → cond b x y ≡ cond b x z
chosen true x y z t = refl
chosen false x y z t = absurd t

-- what both have in common of what is chosen
shared : {A B : Type 0} (g : A → B) (b : Bool) (x y z : A) → g y ≡ g z → g (cond b x y) ≡ g (cond b x z)
shared g true x y z e = refl
shared g false x y z e = e

module _ (i : Settings) (p : Pair) (hz1 hz2 a : Float) where
  sound_modulated : T (i.fm || i.ring) → sound_of i p hz1 hz2 a ≡ sound_before i p hz1 hz2 a
  unfolding sound_of sound_before
  sound_modulated t = chosen (i.fm || i.ring) _ _ _ t

  sound_phases : (sound_of i p hz1 hz2 a).pair ≡ (sound_before i p hz1 hz2 a).pair
  unfolding sound_of sound_before plain_of plain_before
  sound_phases = shared (λ (o : PairOut). o.pair) (i.fm || i.ring) (paired_of i p hz1 hz2 a) (plain_of i p hz1 hz2) (plain_before i p hz1 hz2) refl

pub only_plain_changed : (f : List ℕ) (d : ℕ) (e : DualOsc) (w : Wobble) → OnlyPlainChanged f d e w (sample_of f d e w)
unfolding sample_of sample_before sample_by
only_plain_changed f d e w = record {
  modulated = λ t. rw (sound_modulated (settings_of f d) _ _ _ _ t) refl;
  dual = rw (sound_phases (settings_of f d) _ _ _ _) refl;
  draws = refl;
}

-- ---- the switch turned
sound_turned : (i : Settings) (p : Pair) (hz1 hz2 a : Float) → sound_of (turned i) p hz1 hz2 a ≡ sound_before i p hz1 hz2 a
unfolding sound_of sound_before paired_of plain_of plain_before
sound_turned i p hz1 hz2 a = by i.fm i.ring i.wave1 refl refl refl
  where
    by : (fm ring set : Bool) → i.fm ≡ fm → i.ring ≡ ring → i.wave1 ≡ set → sound_of (turned i) p hz1 hz2 a ≡ sound_before i p hz1 hz2 a
    by true ring set e r s = rw e refl
    by false true set e r s = rw (e, r) refl
    by false false true e r s = rw (e, r, s) refl
    by false false false e r s = rw (e, r, s) refl

-- a frame g that says to the voice what f says, but with the switch turned, sounds as f did
pub turned_as_before : (f g : List ℕ) (d : ℕ) (e : DualOsc) (w : Wobble) → settings_of g d ≡ turned (settings_of f d) → sample_of g d e w ≡ sample_before f d e w
unfolding sample_of sample_before sample_by
turned_as_before f g d e w s = rw (s, sound_turned (settings_of f d) _ _ _ _) refl

-- what was heard
pub before_heard : (i : Settings) (p : Pair) (hz1 hz2 a : Float) → (sound_before i p hz1 hz2 a).y ≡ heard_of (turned i) p
before_heard i p hz1 hz2 a = ap (λ (o : PairOut). o.y) (sym (sound_turned i p hz1 hz2 a)) ∙ sound_heard (turned i) p hz1 hz2 a
