-- One sample of a dual voice, on any frame of bytes, keeps its phases from 0 to below 1, its detunes and drifts bounded and its levels levels, and so the random source. Assumes nothing.
use Prim.Native.Nat.{ℕ, ◌+◌, ◌*◌, ◌≤◌}
use mathlib.Core.Bool.{Bool, true, false, not, ◌&&◌, ◌||◌}
use mathlib.Core.List.{List}
use lib.ListN.{get_or}
use lib.Dec.{eqb}
use lib.IntN.{pos}
use lib.Ieee.{Float, nan, binary32, le, lt, eq, fits, of_bits, of_int}
use Rattle.line.proofs.Range.{In}
use Rattle.float.specs.Consts.{k0, k1, k127, FS, k65535, k0p001, k0p45}
use Rattle.float.specs.Ops.{◌⊗◌, ◌⊘◌}
use Rattle.float.specs.Floats.{min_of, clamp_of}
use Rattle.float.proofs.Numbers.{word_range, word_from}
use Rattle.float.proofs.Eval.{leaf, con, plus, times, over, capped, floored, clamped, range, proves}
use Rattle.frame.specs.Offsets.{PITCH_REC, AMP_REC, AMP2_REC, dual_spec}
use Rattle.frame.specs.Frame.{Bytes}
use Rattle.frame.proofs.Sizes.{word_in, bytes_in}
use Rattle.envelope.specs.Levels.{Level}
use Rattle.envelope.proofs.Ranges.{level_range}
use Rattle.envelope.proofs.Settle.{dual_level}
use Rattle.vco.specs.declared.Pair.{Pair}
use Rattle.vco.specs.declared.PairOut.{PairOut}
use Rattle.vco.specs.Vco.{pair_of}
use Rattle.vco.proofs.Kept.{Turn, turn_of_lem, osc_in, advanced_in, advanced_fm_in}
use Rattle.wobble.specs.declared.Wobble.{Wobble}
use Rattle.wobble.specs.declared.Drift.{Drift}
use Rattle.wobble.specs.Wobble.{DETUNE_CENTS, detune_of, drift_of}
use Rattle.wobble.proofs.Kept.{Ratio, WobbleIn, DriftIn, either, detune_in, drift_in}
use Rattle.dual.specs.Consts.{HZ_PER_TUNE, TUNE_PER_PITCH_LEVEL}
use Rattle.dual.specs.declared.DualOsc.{DualOsc}
use Rattle.dual.specs.declared.Settings.{Settings}
use Rattle.dual.specs.declared.Trigged.{Trigged}
use Rattle.dual.specs.Dual.{cv_at, record_at, settings_of, trig_of, hz_of, paired_of, plain_of, sound_of, sample_by, sample_of}

abbrev pub none : Drift
none = record { cents = nan; ratio = nan; n = 0 }

pub record DualIn (d : DualOsc) : Type 0 where
  pub ph1 : Turn d.ph1
  pub ph2 : Turn d.ph2
  pub pitch : Level d.pitch.level
  pub amp : Level d.amp.level
  pub amp2 : Level d.amp2.level
  pub det1 : Ratio (get_or d.det 0 nan)
  pub det2 : Ratio (get_or d.det 1 nan)
  pub drift1 : DriftIn (get_or d.drift 0 none)
  pub drift2 : DriftIn (get_or d.drift 1 none)

-- ---- what the frame gives
pub cv_in : (f : List ℕ) → Bytes f → (d k : ℕ) → cv_at f d k ≤ 65535
unfolding cv_at
cv_in f h d k = word_in f h ((dual_spec d).cv + 2 * k)

pub record_bytes : (f : List ℕ) → Bytes f → (d k : ℕ) → Bytes (record_at f d k)
unfolding record_at
record_bytes f h d k = bytes_in f h ((dual_spec d).env + 8 * k)

-- ---- the frequency
pub hz_in : (w : ℕ) (l t r : Float) → w ≤ 65535 → Level l → Ratio t → Ratio r → In binary32 k0 k65535 (hz_of w l t r)
unfolding hz_of of_bits proves
hz_in w l t r h a b c =
    range k0 k65535 (times (times (times (plus (leaf (word_range w h)) (times (floored (leaf (level_range l a)) k0) (con TUNE_PER_PITCH_LEVEL))) (con HZ_PER_TUNE)) (leaf b)) (leaf c)) tt

-- with a tune word other than 0: above 0.001 Hz, and so below the shared core's limit of 21,600 Hz that this never takes hold
pub hz_runs : (w : ℕ) (l t r : Float) → 1 ≤ w → w ≤ 65535 → Level l → Ratio t → Ratio r → In binary32 k0p001 (FS ⊗ k0p45) (hz_of w l t r)
unfolding hz_of of_bits proves
hz_runs w l t r g h a b c =
    range k0p001 (FS ⊗ k0p45) (times (times (times (plus (leaf (word_from w g h)) (times (floored (leaf (level_range l a)) k0) (con TUNE_PER_PITCH_LEVEL))) (con HZ_PER_TUNE)) (leaf b)) (leaf c)) tt

depth_in : (w : ℕ) (l : Float) → w ≤ 65535 → Level l → In binary32 k0 k65535 (of_int binary32 (pos w) ⊗ clamp_of (l ⊘ k127) k0 k1)
unfolding of_bits proves
depth_in w l h k = range k0 k65535 (times (leaf (word_range w h)) (clamped (over (leaf (level_range l k)) k127) k0 k1)) tt

cut_in : (v : Float) → In binary32 k0 k65535 v → In binary32 k0 k65535 (min_of v (FS ⊗ k0p45))
unfolding of_bits proves
cut_in v h = range k0 k65535 (capped (leaf h) (FS ⊗ k0p45)) tt

-- ---- the two phases
pub record PhasesIn (p : Pair) : Type 0 where
  pub ph1 : Turn p.ph1
  pub ph2 : Turn p.ph2

module _ (i : Settings) (p : Pair) (f1 f2 a : Float) (P : PhasesIn p) (F1 : In binary32 k0 k65535 f1) (F2 : In binary32 k0 k65535 f2) where
  plain_in : PhasesIn (plain_of i p f1 f2).pair
  unfolding plain_of
  plain_in = record { ph1 = advanced_in p.ph1 f1 P.ph1.unit F1; ph2 = advanced_in p.ph2 f2 P.ph2.unit F2 }

  paired_in : i.level2 ≤ 65535 → Level a → PhasesIn (paired_of i p f1 f2 a).pair
  unfolding paired_of pair_of
  paired_in w l = record {
    ph1 = either Turn (eqb i.tune1 0) p.ph1 _ P.ph1 (advanced_fm_in i.fm p.ph1 f1 _ _ P.ph1 F1 (depth_in i.level2 a w l) (osc_in (eqb i.tune2 0) i.wave2 p.ph2 P.ph2.unit));
    ph2 = either Turn (eqb i.tune2 0) p.ph2 _ P.ph2 (advanced_in p.ph2 _ P.ph2.unit (cut_in f2 F2));
  }

  sound_in : i.level2 ≤ 65535 → Level a → PhasesIn (sound_of i p f1 f2 a).pair
  unfolding sound_of
  sound_in w l = either (λ (o : PairOut). PhasesIn o.pair) (i.fm || i.ring) (paired_of i p f1 f2 a) (plain_of i p f1 f2) (paired_in w l) plain_in

-- ---- the trig
pub record TriggedIn (t : Trigged) : Type 0 where
  pub phases : PhasesIn t.phases
  pub det1 : Ratio (get_or t.det 0 nan)
  pub det2 : Ratio (get_or t.det 1 nan)
  pub w : WobbleIn t.w

pub trig_in : (rise : Bool) (d : DualOsc) (w : Wobble) → DualIn d → WobbleIn w → TriggedIn (trig_of rise (record { ph1 = d.ph1; ph2 = d.ph2 }) d.det w)
unfolding trig_of of_bits fits le lt eq
trig_in true d w h k =
    let a = detune_in w k in
    let b = detune_in (detune_of w DETUNE_CENTS).w a.0 in
    record { phases = record { ph1 = turn_of_lem _ tt; ph2 = turn_of_lem _ tt }; det1 = a.1; det2 = b.1; w = b.0 }
trig_in false d w h k = record { phases = record { ph1 = h.ph1; ph2 = h.ph2 }; det1 = h.det1; det2 = h.det2; w = k }

pub dual_in : (f : List ℕ) → Bytes f → (n : ℕ) (d : DualOsc) (w : Wobble) → DualIn d → WobbleIn w → DualIn (sample_of f n d w).dual × WobbleIn (sample_of f n d w).w
unfolding sample_of sample_by settings_of
dual_in f B n d w h k =
    let i = settings_of f n in
    let t = trig_of (i.trig && not d.trig) (record { ph1 = d.ph1; ph2 = d.ph2 }) d.det w in
    let T' = trig_in (i.trig && not d.trig) d w h k in
    let D1 = drift_in (get_or d.drift 0 none) t.w h.drift1 T'.w in
    let d1 = drift_of (get_or d.drift 0 none) t.w in
    let D2 = drift_in (get_or d.drift 1 none) d1.w h.drift2 D1.1 in
    let d2 = drift_of (get_or d.drift 1 none) d1.w in
    let pitch = dual_level d.last_p (record_at f n PITCH_REC) d.pitch (record_bytes f B n PITCH_REC) h.pitch in
    let amp = dual_level d.last_a (record_at f n AMP_REC) d.amp (record_bytes f B n AMP_REC) h.amp in
    let amp2 = dual_level d.last_m (record_at f n AMP2_REC) d.amp2 (record_bytes f B n AMP2_REC) h.amp2 in
    let F1 = hz_in (cv_at f n 0) _ _ d1.x.ratio (cv_in f B n 0) pitch T'.det1 D1.0.ratio in
    let F2 = hz_in (cv_at f n 1) _ _ d2.x.ratio (cv_in f B n 1) pitch T'.det2 D2.0.ratio in
    let s = sound_in i t.phases _ _ _ T'.phases F1 F2 (cv_in f B n 3) amp2 in (
      record { ph1 = s.ph1; ph2 = s.ph2; pitch = pitch; amp = amp; amp2 = amp2; det1 = T'.det1; det2 = T'.det2; drift1 = D1.0; drift2 = D2.0 },
      D2.1,
    )
