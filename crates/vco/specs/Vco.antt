-- The dual-oscillator core, from vco.rs. Definitions only.
use Rattle.std.specs.Prelude.{Bool, true, false, ◌||◌, cond, T, Float}
use Rattle.std.specs.Float.Ieee.{neg, lt, le, eq}
use Rattle.std.specs.Float.Ieee.Scale.{finite}
use Rattle.float.specs.Consts.{k0, k1, k2, k4, k4096, k0p25, k0p3, k0p35, k0p45, k0p5, k0p7, k1p3, TAU}
use Rattle.float.specs.Ops.{◌⊕◌, ◌⊖◌, ◌⊗◌, ◌⊘◌}
use Rattle.float.specs.Floats.{abs_of, min_of, fract_of, rem_euclid_of}
use Rattle.sine.specs.Sine.{sin_of}
use Rattle.vco.specs.declared.Wave.{Wave}
use Rattle.vco.specs.declared.Wave.TheVariants.{Off, Sine, AsymSine, Triangle, SineSaw, Saw, Square}
use Rattle.vco.specs.declared.Osc2Set.{Osc2Set}
use Rattle.vco.specs.declared.Pair.{Pair}
use Rattle.vco.specs.declared.PairOut.{PairOut}

-- FM depth: units of oscillator 2's level word per 1.0 of relative frequency deviation
abbrev pub FM_UNITS : Float
FM_UNITS = k4096

-- "Waveform codes (a, b, c)": 101 sine, 001 asymmetric sine, 111 triangle, 100 sinesaw, 110 saw, 011 square, 000 and 010 off
unfoldable pub wave_from_bits : Bool → Bool → Bool → Wave
wave_from_bits true false true = Sine
wave_from_bits false false true = AsymSine
wave_from_bits true true true = Triangle
wave_from_bits true false false = SineSaw
wave_from_bits true true false = Saw
wave_from_bits false true true = Square
wave_from_bits false false false = Off
wave_from_bits false true false = Off

-- the asymmetric sine's place in its turn
unfoldable pub asym_of : Float → Float
asym_of ph = cond (lt ph k0p35) (ph ⊘ k0p7) (k0p5 ⊕ (ph ⊖ k0p35) ⊘ k1p3)

-- `Wave::at`
unfoldable pub wave_at : Wave → Float → Float
wave_at Off ph = k0
wave_at Sine ph = sin_of (TAU ⊗ ph)
wave_at AsymSine ph = sin_of (TAU ⊗ asym_of ph)
wave_at Triangle ph = k1 ⊖ k4 ⊗ abs_of (fract_of (ph ⊕ k0p25) ⊖ k0p5)
wave_at SineSaw ph = k0p7 ⊗ sin_of (TAU ⊗ ph) ⊕ k0p3 ⊗ (k2 ⊗ ph ⊖ k1)
wave_at Saw ph = k2 ⊗ fract_of (ph ⊕ k0p5) ⊖ k1
wave_at Square ph = cond (lt ph k0p5) k1 (neg k1)

-- a stopped oscillator gives 1
unfoldable pub osc_of : Bool → Wave → Float → Float
osc_of stopped wave ph = cond stopped k1 (wave_at wave ph)

-- ring modulation: times a square from oscillator 2's core
unfoldable pub ring_of : Bool → Float → Bool → Float → Float
ring_of on o1 stopped ph = cond on (o1 ⊗ cond (stopped || lt ph k0p5) k1 (neg k1)) o1

-- FM, through zero
unfoldable pub modulated : Bool → Float → Float → Float → Float
modulated fm f1 depth o2 = cond fm (f1 ⊗ (k1 ⊕ depth ⊘ FM_UNITS ⊗ o2)) f1

-- "A phase advances by frequency / 48000 and keeps its fraction"
unfoldable pub advanced : Float → Float → Float → Float
advanced ph hz fs = fract_of (ph ⊕ hz ⊘ fs)

-- "the FM phase uses a Euclidean remainder"; R-3: "A remainder that rounds to 1 now becomes 0"
unfoldable pub advanced_fm : Float → Float → Float → Float
advanced_fm ph hz fs = let r = rem_euclid_of (ph ⊕ hz ⊘ fs) k1 in cond (eq r k1) k0 r

-- "from 0 to below 1"
pub record BelowOne (x : Float) : Type 0 where
  pub from : T (le k0 x)
  pub below : T (lt x k1)

-- R-3: "For a phase from 0 to below 1 and a finite advance, the modulated phase advance promises 'from 0 to below 1'"
abbrev pub KeepsBelowOne : Float → Float → Float → Float → Type 0
KeepsBelowOne ph hz fs r = BelowOne ph → T (finite (hz ⊘ fs)) → BelowOne r

-- `Pair::sample`
unfoldable pub pair_of : Pair → Osc2Set → Float → PairOut
pair_of p s fs =
    let o2 = osc_of s.stopped2 s.wave2 p.ph2 in
    let o1 = ring_of s.ring (osc_of s.stopped1 s.wave1 p.ph1) s.stopped2 p.ph2 in
    let f1 = modulated s.fm (min_of s.hz1 (fs ⊗ k0p45)) s.depth_word o2 in
    record {
      pair = record {
        ph1 = cond s.stopped1 p.ph1 (advanced_fm p.ph1 f1 fs);
        ph2 = cond s.stopped2 p.ph2 (advanced p.ph2 (min_of s.hz2 (fs ⊗ k0p45)) fs);
      };
      y = o1 ⊗ s.level1 ⊕ cond s.fm k0 (o2 ⊗ s.level2);
    }
