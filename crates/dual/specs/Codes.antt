-- R-7: oscillator 1 of a dual voice follows its code everywhere, and what its two paths still do otherwise. Definitions only.
use Rattle.std.specs.Prelude.{ℕ, ◌≡◌, true, false, not, ◌&&◌, ◌||◌, cond, List, eqb, Float}
use Rattle.float.specs.Consts.{k0}
use Rattle.float.specs.Ops.{◌⊕◌, ◌⊗◌}
use Rattle.vco.specs.declared.Pair.{Pair}
use Rattle.vco.specs.declared.Wave.{Wave}
use Rattle.vco.specs.declared.Wave.TheVariants.{Sine}
use Rattle.vco.specs.Vco.{wave_from_bits, osc_of, ring_of}
use Rattle.dual.specs.declared.DualOsc.{DualOsc}
use Rattle.dual.specs.declared.DualOut.{DualOut}
use Rattle.dual.specs.declared.Settings.{Settings}
use Rattle.dual.specs.Dual.{settings_of, gain_of, word_level}

-- the phases that a sample sounds at
abbrev pub phases_of : Settings → DualOsc → Pair
phases_of i e = cond (i.trig && not e.trig) (record { ph1 = k0; ph2 = k0 }) (record { ph1 = e.ph1; ph2 = e.ph2 })

-- the makers' code list: oscillator 1's code is 1, 0 and its wave switch
abbrev pub wave1_of : Settings → Wave
wave1_of i = wave_from_bits true false i.wave1

-- what is heard of both oscillators, with FM or ring and without, by one formula. Oscillator 1 has the waveform that the code list names for its switch on both paths; to the bit the
-- path without them differs where `core` stands, and nowhere else: a tune word of 0 stops no oscillator there, and oscillator 2 is a sine whatever its code
unfoldable pub heard_of : Settings → Pair → Float
heard_of i p =
    let core = i.fm || i.ring in
    let o1 = osc_of (core && eqb i.tune1 0) (wave1_of i) p.ph1 in
    let o2 = osc_of (core && eqb i.tune2 0) (cond core i.wave2 Sine) p.ph2 in
    ring_of i.ring o1 (eqb i.tune2 0) p.ph2 ⊗ word_level i.level1 ⊕ cond i.fm k0 (o2 ⊗ word_level i.level2)

-- "Oscillator 1 follows its code everywhere": so a sample r of voice d sounds, whatever the frame
abbrev pub FollowsItsCode : List ℕ → ℕ → DualOsc → DualOut → Type 0
FollowsItsCode f d e r = let i = settings_of f d in r.y ≡ heard_of i (phases_of i e) ⊗ gain_of r.dual.amp.level
