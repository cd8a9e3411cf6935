-- A dual voice as it was before R-7: without FM or ring oscillator 1 had saw added where its wave switch is set. `x_before` is `x_of` of specs/Dual.antt as it stood; what R-7 left
-- alone is shared, and is today's. Definitions only.
use Rattle.std.specs.Prelude.{ℕ, ◌≡◌, Bool, not, ◌&&◌, ◌||◌, cond, List, eqb, T, Float}
use Rattle.std.specs.Float.Ieee.{le}
use Rattle.float.specs.Consts.{k1, k2, FS, k0p3, k0p7, k_m127p5, TAU}
use Rattle.float.specs.Ops.{◌⊕◌, ◌⊖◌, ◌⊗◌}
use Rattle.envelope.specs.Moves.{dual_of}
use Rattle.sine.specs.Sine.{sin_of}
use Rattle.vco.specs.declared.Pair.{Pair}
use Rattle.vco.specs.declared.PairOut.{PairOut}
use Rattle.vco.specs.Vco.{advanced}
use Rattle.wobble.specs.declared.Wobble.{Wobble}
use Rattle.dual.specs.declared.DualOsc.{DualOsc}
use Rattle.dual.specs.declared.DualOut.{DualOut}
use Rattle.dual.specs.declared.Settings.{Settings}
use Rattle.dual.specs.Dual.{settings_of, word_level, paired_of, sample_by}

unfoldable pub plain_before : Settings → Pair → Float → Float → PairOut
plain_before i phases hz1 hz2 =
    let o2 = sin_of (TAU ⊗ phases.ph2) in
    let o = sin_of (TAU ⊗ phases.ph1) in
    let o1 = cond i.wave1 (k0p7 ⊗ o ⊕ k0p3 ⊗ (k2 ⊗ phases.ph1 ⊖ k1)) o in
    record {
      pair = record { ph1 = advanced phases.ph1 hz1 FS; ph2 = advanced phases.ph2 hz2 FS };
      y = o1 ⊗ word_level i.level1 ⊕ o2 ⊗ word_level i.level2;
    }

unfoldable pub sound_before : Settings → Pair → Float → Float → Float → PairOut
sound_before i phases hz1 hz2 amp2 = cond (i.fm || i.ring) (paired_of i phases hz1 hz2 amp2) (plain_before i phases hz1 hz2)

unfoldable pub sample_before : List ℕ → ℕ → DualOsc → Wobble → DualOut
sample_before f d e w = sample_by sound_before f d e w

-- "with either on nothing changes", and without them nothing but the sample
pub record OnlyPlainChanged (f : List ℕ) (d : ℕ) (e : DualOsc) (w : Wobble) (r : DualOut) : Type 0 where
  pub modulated : let i = settings_of f d in T (i.fm || i.ring) → r ≡ sample_before f d e w
  pub dual : r.dual ≡ (sample_before f d e w).dual
  pub draws : r.w ≡ (sample_before f d e w).w

-- oscillator 1 of voice d, which stands as e, sounds without FM or ring in a sample of this frame: its level word is not 0, and the amp's level, after the tick, is above -127.5
unfoldable pub plain_sounds : List ℕ → ℕ → DualOsc → Bool
plain_sounds f d e = let i = settings_of f d in not (i.fm || i.ring) && not (eqb i.level1 0) && not (le (dual_of e.last_a i.ra e.amp).level k_m127p5)

-- the settings with oscillator 1's wave switch turned, where neither is on
abbrev pub turned : Settings → Settings
turned i = record {
  trig = i.trig;
  wave1 = cond (i.fm || i.ring) i.wave1 (not i.wave1);
  wave2 = i.wave2;
  fm = i.fm;
  ring = i.ring;
  tune1 = i.tune1;
  tune2 = i.tune2;
  level1 = i.level1;
  level2 = i.level2;
  rp = i.rp;
  ra = i.ra;
  rm = i.rm;
}
