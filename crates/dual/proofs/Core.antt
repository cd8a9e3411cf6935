-- A voice without FM or ring beside what the shared core would give of it: the phases, and the whole sample where no tune word is 0 and oscillator 2 has the sine's code. Assumes nothing.
use Prim.Native.Nat.{ℕ, zero, suc, ◌≤◌}
use native.Mathlib.Omega.{arith}
use mathlib.Core.Path.{◌≡◌, refl, sym, ap, ap₂, ◌∙◌}
use mathlib.Core.Bool.{Bool, true, false, true≢false, not, ◌&&◌, ◌||◌, cond}
use mathlib.Core.List.{List}
use lib.ListN.{get_or}
use lib.Dec.{eqb}
use lib.Ieee.{Float, nan}
use Rattle.frame.specs.Offsets.{PITCH_REC}
use Rattle.frame.specs.Frame.{Bytes}
use Rattle.envelope.specs.Levels.{Level}
use Rattle.envelope.specs.Moves.{dual_of}
use Rattle.envelope.proofs.Settle.{dual_level}
use Rattle.vco.specs.declared.Pair.{Pair}
use Rattle.vco.specs.declared.Wave.TheVariants.{Sine}
use Rattle.vco.specs.Vco.{wave_from_bits, wave_at, osc_of, ring_of, pair_of}
use Rattle.wobble.specs.declared.Wobble.{Wobble}
use Rattle.wobble.specs.declared.Drift.{Drift}
use Rattle.wobble.specs.declared.Drawn.{Drawn}
use Rattle.wobble.specs.Wobble.{drift_of}
use Rattle.wobble.proofs.Kept.{WobbleIn, DriftIn, drift_in}
use Rattle.dual.specs.declared.DualOsc.{DualOsc}
use Rattle.dual.specs.declared.Settings.{Settings}
use Rattle.dual.specs.declared.Trigged.{Trigged}
use Rattle.dual.specs.Dual.{settings_of, trig_of, hz_of, paired_of, plain_of, sound_of, sample_by, sample_of}
use Rattle.dual.proofs.Kept.{none, DualIn, TriggedIn, hz_runs, cv_in, record_bytes, trig_in}
use Rattle.dual.specs.Codes.{phases_of}
use Rattle.dual.proofs.Codes.{Runs, trigged, same_phases}

-- a word that is not 0
some : (w : ℕ) → eqb w 0 ≡ false → 1 ≤ w
some zero e = absurd (true≢false e)
some (suc w) e = omega arith

same_sample : (i : Settings) (p : Pair) (hz1 hz2 a : Float) → i.fm ≡ false → i.ring ≡ false → eqb i.tune1 0 ≡ false → eqb i.tune2 0 ≡ false → i.wave2 ≡ Sine → (paired_of i p hz1 hz2 a).y ≡ (plain_of i p hz1 hz2).y
unfolding paired_of plain_of pair_of osc_of ring_of wave_from_bits wave_at
same_sample i p hz1 hz2 a e r s t w = by i.wave1 refl
  where
    by : (set : Bool) → i.wave1 ≡ set → (paired_of i p hz1 hz2 a).y ≡ (plain_of i p hz1 hz2).y
    by true c = rw (e, r, s, t, w, c) refl
    by false c = rw (e, r, s, t, w, c) refl

off : (a b : Bool) → a ≡ false → b ≡ false → (a || b) ≡ false
off a b e r = rw (e, r) refl

record Said (i : Settings) : Type 0 where
  tune1 : i.tune1 ≤ 65535
  tune2 : i.tune2 ≤ 65535
  rp : Bytes i.rp

said : (f : List ℕ) → Bytes f → (d : ℕ) → Said (settings_of f d)
unfolding settings_of
said f B d = record { tune1 = cv_in f B d 0; tune2 = cv_in f B d 1; rp = record_bytes f B d PITCH_REC }

module _ (f : List ℕ) (B : Bytes f) (d : ℕ) (e : DualOsc) (w : Wobble) (h : DualIn e) (k : WobbleIn w) where
  abbrev i : Settings
  i = settings_of f d

  abbrev t : Trigged
  t = trig_of (i.trig && not e.trig) (record { ph1 = e.ph1; ph2 = e.ph2 }) e.det w

  abbrev d1 : Drawn Drift
  d1 = drift_of (get_or e.drift 0 none) t.w

  abbrev d2 : Drawn Drift
  d2 = drift_of (get_or e.drift 1 none) d1.w

  abbrev hz1 : Float
  hz1 = hz_of i.tune1 (dual_of e.last_p i.rp e.pitch).level (get_or t.det 0 nan) d1.x.ratio

  abbrev hz2 : Float
  hz2 = hz_of i.tune2 (dual_of e.last_p i.rp e.pitch).level (get_or t.det 1 nan) d2.x.ratio

  trigged_in : TriggedIn t
  trigged_in = trig_in (i.trig && not e.trig) e w h k

  drifts : (DriftIn d1.x × WobbleIn d1.w) × (DriftIn d2.x × WobbleIn d2.w)
  drifts = let a = drift_in (get_or e.drift 0 none) t.w h.drift1 trigged_in.w in (a, drift_in (get_or e.drift 1 none) d1.w h.drift2 a.1)

  pitch_in : Level (dual_of e.last_p i.rp e.pitch).level
  pitch_in = dual_level e.last_p i.rp e.pitch (said f B d).rp h.pitch

  runs1 : Runs i.tune1 hz1
  runs1 s = hz_runs i.tune1 _ _ d1.x.ratio (some i.tune1 s) (said f B d).tune1 pitch_in trigged_in.det1 drifts.0.0.ratio

  runs2 : Runs i.tune2 hz2
  runs2 s = hz_runs i.tune2 _ _ d2.x.ratio (some i.tune2 s) (said f B d).tune2 pitch_in trigged_in.det2 drifts.1.0.ratio

  abbrev a : Float
  a = (dual_of e.last_m i.rm e.amp2).level

  phases : i.fm ≡ false → (paired_of i t.phases hz1 hz2 a).pair ≡ (let o = (plain_of i t.phases hz1 hz2).pair in record { ph1 = cond (eqb i.tune1 0) t.phases.ph1 o.ph1; ph2 = cond (eqb i.tune2 0) t.phases.ph2 o.ph2 })
  phases fm = same_phases i t.phases hz1 hz2 a fm trigged_in.phases.ph1.unit runs1 runs2

  -- the phases, whatever the tune words: an oscillator stopped by one stands still in the core
  pub core_phases : i.fm ≡ false → i.ring ≡ false → let core = (sample_by paired_of f d e w).dual in let own = (sample_of f d e w).dual in
      (core.ph1 ≡ cond (eqb i.tune1 0) (phases_of i e).ph1 own.ph1) × (core.ph2 ≡ cond (eqb i.tune2 0) (phases_of i e).ph2 own.ph2)
  unfolding sample_of sample_by sound_of
  core_phases fm ring = rw (off i.fm i.ring fm ring, sym (trigged i e e.det w)) (ap (λ (p : Pair). p.ph1) (phases fm), ap (λ (p : Pair). p.ph2) (phases fm))

  -- the whole sample, where both run and oscillator 2 has the sine's code
  pub core_alike : i.fm ≡ false → i.ring ≡ false → eqb i.tune1 0 ≡ false → eqb i.tune2 0 ≡ false → i.wave2 ≡ Sine → sample_of f d e w ≡ sample_by paired_of f d e w
  unfolding sample_of sample_by sound_of
  core_alike fm ring t1 t2 wave =
      let pair : (paired_of i t.phases hz1 hz2 a).pair ≡ (plain_of i t.phases hz1 hz2).pair = phases fm ∙ rw (t1, t2) refl in
      let o : paired_of i t.phases hz1 hz2 a ≡ plain_of i t.phases hz1 hz2 = ap₂ (λ (p : Pair) (y : Float). record { pair = p; y = y }) pair (same_sample i t.phases hz1 hz2 a fm ring t1 t2 wave) in
      rw (off i.fm i.ring fm ring, o) refl
