-- Oscillator 1 follows its code: what a sample gives is heard by one formula, with FM or ring and without. And the phases: an oscillator that runs moves on alike on both paths. Assumes nothing.
use Prim.Native.Nat.{ℕ}
use mathlib.Core.Path.{◌≡◌, refl, ap, ap₂, ◌∙◌}
use mathlib.Core.Bool.{Bool, true, false, not, ◌&&◌, cond}
use mathlib.Core.List.{List}
use lib.Dec.{eqb}
use lib.Ieee.{Float, binary32, fits, le, lt, eq, mul, round, of_bits}
use Rattle.line.proofs.Range.{In, in_wide}
use Rattle.float.specs.Consts.{k0, k65535, FS, k0p001, k0p45}
use Rattle.float.specs.Ops.{◌⊗◌}
use Rattle.float.specs.Floats.{min_of}
use Rattle.envelope.specs.Moves.{dual_of}
use Rattle.vco.specs.declared.Pair.{Pair}
use Rattle.vco.specs.declared.PairOut.{PairOut}
use Rattle.vco.specs.Vco.{wave_from_bits, wave_at, osc_of, ring_of, modulated, advanced, advanced_fm, pair_of}
use Rattle.vco.proofs.Kept.{uncapped, advanced_alike}
use Rattle.wobble.specs.declared.Wobble.{Wobble}
use Rattle.wobble.proofs.Kept.{Unit}
use Rattle.dual.specs.declared.DualOsc.{DualOsc}
use Rattle.dual.specs.declared.Settings.{Settings}
use Rattle.dual.specs.Dual.{settings_of, trig_of, gain_of, paired_of, plain_of, sound_of, sample_by, sample_of}
use Rattle.dual.specs.Codes.{phases_of, heard_of, FollowsItsCode}

-- what a path gives is heard by the formula
pub sound_heard : (i : Settings) (p : Pair) (hz1 hz2 a : Float) → (sound_of i p hz1 hz2 a).y ≡ heard_of i p
unfolding sound_of paired_of plain_of pair_of heard_of osc_of ring_of wave_from_bits wave_at
sound_heard i p hz1 hz2 a = by i.fm i.ring i.wave1 refl refl refl
  where
    by : (fm ring set : Bool) → i.fm ≡ fm → i.ring ≡ ring → i.wave1 ≡ set → (sound_of i p hz1 hz2 a).y ≡ heard_of i p
    by true ring set e r s = rw e refl
    by false true set e r s = rw (e, r) refl
    by false false true e r s = rw (e, r, s) refl
    by false false false e r s = rw (e, r, s) refl

-- the phases after the trig
pub trigged : (i : Settings) (e : DualOsc) (det : List Float) (w : Wobble) → (trig_of (i.trig && not e.trig) (record { ph1 = e.ph1; ph2 = e.ph2 }) det w).phases ≡ phases_of i e
unfolding trig_of
trigged i e det w = by (i.trig && not e.trig)
  where
    by : (rise : Bool) → (trig_of rise (record { ph1 = e.ph1; ph2 = e.ph2 }) det w).phases ≡ cond rise (record { ph1 = k0; ph2 = k0 }) (record { ph1 = e.ph1; ph2 = e.ph2 })
    by true = refl
    by false = refl

-- a sample whose path is heard by any formula is heard by it at these phases
pub sample_heard : (sound : Settings → Pair → Float → Float → Float → PairOut) (heard : Pair → Float) (f : List ℕ) (d : ℕ) (e : DualOsc) (w : Wobble)
    → ((p : Pair) (hz1 hz2 a : Float) → (sound (settings_of f d) p hz1 hz2 a).y ≡ heard p)
    → let i = settings_of f d in (sample_by sound f d e w).y ≡ heard (phases_of i e) ⊗ gain_of (dual_of e.last_a i.ra e.amp).level
unfolding sample_by
sample_heard sound heard f d e w h =
    let i = settings_of f d in
    ap (λ (y : Float). y ⊗ gain_of (dual_of e.last_a i.ra e.amp).level) (h _ _ _ _ ∙ ap heard (trigged i e e.det w))

pub follows_its_code : (f : List ℕ) (d : ℕ) (e : DualOsc) (w : Wobble) → FollowsItsCode f d e (sample_of f d e w)
unfolding sample_of sample_by
follows_its_code f d e w = sample_heard sound_of (heard_of (settings_of f d)) f d e w (sound_heard (settings_of f d))

-- ---- and the phases
wide : (hz : Float) → In binary32 k0p001 (FS ⊗ k0p45) hz → In binary32 k0p001 k65535 hz
wide hz h = unfold fits le lt eq mul round of_bits in in_wide binary32 k0p001 k65535 h tt

-- with neither FM nor ring on the core takes each phase where the plain path does, but for an oscillator whose tune word is 0, which stands still there: at frequencies as `hz_runs` has them
abbrev pub Runs : ℕ → Float → Type 0
Runs tune hz = eqb tune 0 ≡ false → In binary32 k0p001 (FS ⊗ k0p45) hz

module _ (i : Settings) (p : Pair) (hz1 hz2 a : Float) where
  pub same_phases : i.fm ≡ false → Unit p.ph1 → Runs i.tune1 hz1 → Runs i.tune2 hz2
      → (paired_of i p hz1 hz2 a).pair ≡ (let o = (plain_of i p hz1 hz2).pair in record { ph1 = cond (eqb i.tune1 0) p.ph1 o.ph1; ph2 = cond (eqb i.tune2 0) p.ph2 o.ph2 })
  unfolding paired_of plain_of pair_of modulated
  same_phases e h f g = rw e (ap₂ (λ (x y : Float). record { ph1 = x; ph2 = y }) (first (eqb i.tune1 0) f) (second (eqb i.tune2 0) g))
    where
      first : (stopped : Bool) → (stopped ≡ false → In binary32 k0p001 (FS ⊗ k0p45) hz1)
          → cond stopped p.ph1 (advanced_fm p.ph1 (min_of hz1 (FS ⊗ k0p45)) FS) ≡ cond stopped p.ph1 (advanced p.ph1 hz1 FS)
      first true f = refl
      first false f = let k = f refl in rw (uncapped hz1 k, advanced_alike p.ph1 hz1 h (wide hz1 k)) refl

      second : (stopped : Bool) → (stopped ≡ false → In binary32 k0p001 (FS ⊗ k0p45) hz2)
          → cond stopped p.ph2 (advanced p.ph2 (min_of hz2 (FS ⊗ k0p45)) FS) ≡ cond stopped p.ph2 (advanced p.ph2 hz2 FS)
      second true g = refl
      second false g = rw (uncapped hz2 (g refl)) refl
