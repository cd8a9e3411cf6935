-- A dual-oscillator voice, from analog.rs. Definitions only.
use Rattle.std.specs.Prelude.{ℕ, ◌+◌, ◌*◌, Bool, true, false, not, ◌&&◌, ◌||◌, cond, List, [], ◌∷◌, get_or, eqb, pos, Float}
use Rattle.std.specs.Float.{binary32, nan}
use Rattle.std.specs.Float.Ieee.{le, of_int}
use Rattle.float.specs.Consts.{k0, k1, k2, LEVELS_PER_6DB, k127, k32767, FS, k0p3, k0p7, k_m128, k_m127p5, TAU}
use Rattle.float.specs.Ops.{◌⊕◌, ◌⊖◌, ◌⊗◌, ◌⊘◌}
use Rattle.float.specs.Floats.{max_of, clamp_of}
use Rattle.frame.specs.Frame.{word_at, bit_at, bytes_at}
use Rattle.frame.specs.Offsets.{PITCH_REC, AMP_REC, AMP2_REC, dual_spec}
use Rattle.envelope.specs.Moves.{dual_of}
use Rattle.power.specs.Power.{exp2_of}
use Rattle.sine.specs.Sine.{sin_of}
use Rattle.vco.specs.declared.Pair.{Pair}
use Rattle.vco.specs.declared.PairOut.{PairOut}
use Rattle.vco.specs.Vco.{wave_from_bits, advanced, pair_of}
use Rattle.wobble.specs.declared.Wobble.{Wobble}
use Rattle.wobble.specs.declared.Drift.{Drift}
use Rattle.wobble.specs.Wobble.{DETUNE_CENTS, detune_of, drift_new, drift_of}
use Rattle.dual.specs.Consts.{HZ_PER_TUNE, TUNE_PER_PITCH_LEVEL}
use Rattle.dual.specs.declared.DualOsc.{DualOsc}
use Rattle.dual.specs.declared.DualOut.{DualOut}
use Rattle.dual.specs.declared.Settings.{Settings}
use Rattle.dual.specs.declared.Trigged.{Trigged}

-- `DualOsc::new`
unfoldable pub dual_new : DualOsc
dual_new =
    let none : List ℕ = 0 ∷ 0 ∷ 0 ∷ 0 ∷ 0 ∷ 0 ∷ 0 ∷ 0 ∷ [] in
    record {
      last_p = none;
      last_a = none;
      ph1 = k0;
      ph2 = k0;
      pitch = record { level = k0 };
      amp = record { level = k_m128 };
      last_m = none;
      amp2 = record { level = k_m128 };
      trig = false;
      det = k1 ∷ k1 ∷ [];
      drift = drift_new ∷ drift_new ∷ [];
    }

-- a voice's switch k, its CV word k (TUNE1, TUNE2, LEVEL1, LEVEL2) and its record k (a pitch pair, an amplitude pair)
unfoldable pub switch_at : List ℕ → ℕ → ℕ → Bool
switch_at f d k = bit_at f (get_or (dual_spec d).sw k 0)

unfoldable pub cv_at : List ℕ → ℕ → ℕ → ℕ
cv_at f d k = word_at f ((dual_spec d).cv + 2 * k)

unfoldable pub record_at : List ℕ → ℕ → ℕ → List ℕ
record_at f d k = bytes_at f ((dual_spec d).env + 8 * k)

-- what the frame says to a voice
unfoldable pub settings_of : List ℕ → ℕ → Settings
settings_of f d = record {
  trig = switch_at f d 0;
  wave1 = switch_at f d 1;
  wave2 = wave_from_bits (switch_at f d 6) (switch_at f d 3) (switch_at f d 2);
  fm = switch_at f d 4;
  ring = not (switch_at f d 5);
  tune1 = cv_at f d 0;
  tune2 = cv_at f d 1;
  level1 = cv_at f d 2;
  level2 = cv_at f d 3;
  rp = record_at f d PITCH_REC;
  ra = record_at f d AMP_REC;
  rm = record_at f d AMP2_REC;
}

-- "A dual voice draws two detunes on a trig's rise, before its two drifts tick"
unfoldable pub trig_of : Bool → Pair → List Float → Wobble → Trigged
trig_of rise phases det w =
    let a = detune_of w DETUNE_CENTS in
    let b = detune_of a.w DETUNE_CENTS in
    cond rise (record { phases = record { ph1 = k0; ph2 = k0 }; det = a.x ∷ b.x ∷ []; w = b.w }) (record { phases = phases; det = det; w = w })

-- an oscillator's frequency
unfoldable pub hz_of : ℕ → Float → Float → Float → Float
hz_of tune pitch det ratio = (of_int binary32 (pos tune) ⊕ max_of pitch k0 ⊗ TUNE_PER_PITCH_LEVEL) ⊗ HZ_PER_TUNE ⊗ det ⊗ ratio

-- "The dual gain is 0 at or below -127.5", else 2 ^ ((level - 127) / 16)
unfoldable pub gain_of : Float → Float
gain_of level = cond (le level k_m127p5) k0 (exp2_of ((level ⊖ k127) ⊘ LEVELS_PER_6DB))

-- a level word, 1 nominal
unfoldable pub word_level : ℕ → Float
word_level w = of_int binary32 (pos w) ⊘ k32767

-- with FM or ring modulation: the shared core
unfoldable pub paired_of : Settings → Pair → Float → Float → Float → PairOut
paired_of i phases hz1 hz2 amp2 = pair_of phases (record {
  hz1 = hz1;
  hz2 = hz2;
  stopped1 = eqb i.tune1 0;
  stopped2 = eqb i.tune2 0;
  wave1 = wave_from_bits true false i.wave1;
  wave2 = i.wave2;
  level1 = word_level i.level1;
  level2 = word_level i.level2;
  depth_word = of_int binary32 (pos i.level2) ⊗ clamp_of (amp2 ⊘ k127) k0 k1;
  fm = i.fm;
  ring = i.ring;
}) FS

-- without them oscillator 1 is a sine, with saw added where its wave switch is clear (R-7): in the makers' code list a set switch is code 101, the sine, and a clear one 100, the sinesaw
unfoldable pub plain_of : Settings → Pair → Float → Float → PairOut
plain_of i phases hz1 hz2 =
    let o2 = sin_of (TAU ⊗ phases.ph2) in
    let o = sin_of (TAU ⊗ phases.ph1) in
    let o1 = cond i.wave1 o (k0p7 ⊗ o ⊕ k0p3 ⊗ (k2 ⊗ phases.ph1 ⊖ k1)) in
    record {
      pair = record { ph1 = advanced phases.ph1 hz1 FS; ph2 = advanced phases.ph2 hz2 FS };
      y = o1 ⊗ word_level i.level1 ⊕ o2 ⊗ word_level i.level2;
    }

-- the shared core runs only with FM or ring modulation on
unfoldable pub sound_of : Settings → Pair → Float → Float → Float → PairOut
sound_of i phases hz1 hz2 amp2 = cond (i.fm || i.ring) (paired_of i phases hz1 hz2 amp2) (plain_of i phases hz1 hz2)

-- `DualOsc::sample` of a voice whose oscillators sound by `sound`
unfoldable pub sample_by : (Settings → Pair → Float → Float → Float → PairOut) → List ℕ → ℕ → DualOsc → Wobble → DualOut
sample_by sound f d e w =
    let i = settings_of f d in
    let t = trig_of (i.trig && not e.trig) (record { ph1 = e.ph1; ph2 = e.ph2 }) e.det w in
    let none : Drift = record { cents = nan; ratio = nan; n = 0 } in
    let d1 = drift_of (get_or e.drift 0 none) t.w in
    let d2 = drift_of (get_or e.drift 1 none) d1.w in
    let pitch = dual_of e.last_p i.rp e.pitch in
    let amp = dual_of e.last_a i.ra e.amp in
    let amp2 = dual_of e.last_m i.rm e.amp2 in
    let hz1 = hz_of i.tune1 pitch.level (get_or t.det 0 nan) d1.x.ratio in
    let hz2 = hz_of i.tune2 pitch.level (get_or t.det 1 nan) d2.x.ratio in
    let s = sound i t.phases hz1 hz2 amp2.level in
    record {
      dual = record {
        last_p = i.rp;
        last_a = i.ra;
        ph1 = s.pair.ph1;
        ph2 = s.pair.ph2;
        pitch = pitch;
        amp = amp;
        last_m = i.rm;
        amp2 = amp2;
        trig = i.trig;
        det = t.det;
        drift = d1.x ∷ d2.x ∷ [];
      };
      w = d2.w;
      y = s.y ⊗ gain_of amp.level;
    }

unfoldable pub sample_of : List ℕ → ℕ → DualOsc → Wobble → DualOut
sample_of f d e w = sample_by sound_of f d e w
