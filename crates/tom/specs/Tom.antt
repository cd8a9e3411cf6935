-- A tom, from analog.rs. Definitions only.
use Rattle.std.specs.Prelude.{ℕ, ◌+◌, ◌-◌, ◌^◌, min, Bool, false, ◌||◌, cond, List, ltb, eqb, ℤ, pos, negsuc, Float}
use Rattle.std.specs.Float.{binary32}
use Rattle.std.specs.Float.Ieee.{neg, lt, le, of_int}
use Rattle.float.specs.Consts.{k0, k1, k2, k10, k2048, k12000, k32767, FS, k65535, k8388608, k0p03, k0p1, k0p99, k5p64, TAU}
use Rattle.float.specs.Ops.{◌⊕◌, ◌⊖◌, ◌⊗◌, ◌⊘◌}
use Rattle.float.specs.Floats.{min_of, max_of}
use Rattle.frame.specs.Frame.{word_f, signed_f}
use Rattle.frame.specs.Offsets.{tom_spec}
use Rattle.power.specs.Power.{exp2_of, exp_of}
use Rattle.sine.specs.Sine.{cos_of}
use Rattle.root.specs.Root.{sqrt_of}
use Rattle.wobble.specs.declared.Wobble.{Wobble}
use Rattle.wobble.specs.Wobble.{DETUNE_CENTS, detune_of}
use Rattle.tom.specs.declared.Tom.{Tom}
use Rattle.tom.specs.declared.TomOut.{TomOut}
use Rattle.wobble.specs.declared.Drawn.{Drawn}

-- the calibration's law: a tune CV of x * x / 2048 is x times this in Hz
abbrev pub TOM_HZ_PER_X : Float
TOM_HZ_PER_X = k0p1

-- zero words that make a rest
abbrev pub TOM_REST : ℕ
TOM_REST = 64

-- "a fresh tom counts as rested"
unfoldable pub tom_new : Tom
tom_new = record { y1 = k0; y2 = k0; det = k1; quiet = TOM_REST }

-- a DAC word of zero
abbrev pub is_zero : ℤ → Bool
is_zero (pos n) = eqb n 0
is_zero (negsuc n) = false

-- "Toms redraw detune on a nonzero DAC word after at least 64 zero ones"
unfoldable pub excite_of : ℤ → Tom → Wobble → Drawn Tom
excite_of d o w =
    let h = detune_of w DETUNE_CENTS in
    let counted : Tom = record { y1 = o.y1; y2 = o.y2; det = o.det; quiet = min (o.quiet + 1) (2 ^ 32 - 1) } in
    let moved : Tom = record { y1 = o.y1; y2 = o.y2; det = o.det; quiet = 0 } in
    let hit : Tom = record { y1 = o.y1; y2 = o.y2; det = h.x; quiet = 0 } in
    cond (is_zero d) (record { x = counted; w = w })
    (cond (ltb o.quiet TOM_REST) (record { x = moved; w = w }) (record { x = hit; w = h.w }))

-- the pitch of a tune CV
unfoldable pub hz_of : Float → Float → Float
hz_of cv det = TOM_HZ_PER_X ⊗ sqrt_of (k2048 ⊗ cv) ⊗ det

-- the part of the ring that a sample keeps, by the decay CV
unfoldable pub decay_of : Float → Float
decay_of d = let tau = k0p03 ⊗ exp2_of (max_of d k0 ⊗ k5p64) in exp_of (neg k1 ⊘ (tau ⊗ FS))

-- the resonator's next sample
unfoldable pub ring_of : Tom → Float → Float → Float → Float
ring_of t hz r x =
    let w = TAU ⊗ min_of hz k12000 ⊘ FS in
    k2 ⊗ r ⊗ cos_of w ⊗ t.y1 ⊖ r ⊗ r ⊗ t.y2 ⊕ x ⊗ (k1 ⊖ r)

-- `Tom::sample`: "Tune 65535, or pitch under 10 Hz, multiplies both states by 0.99"
unfoldable pub sample_of : List ℕ → ℕ → ℤ → Tom → Wobble → TomOut
sample_of f t d o w =
    let s = tom_spec t in
    let x = of_int binary32 d ⊘ k8388608 in
    let e = excite_of d o w in
    let cv = word_f f s.tune in
    let hz = hz_of cv e.x.det in
    let die = o.y1 ⊗ k0p99 in
    let y = ring_of o hz (decay_of (signed_f f s.decay ⊘ k32767)) x in
    cond (le k65535 cv || lt hz k10)
    (record { tom = record { y1 = die; y2 = o.y2 ⊗ k0p99; det = e.x.det; quiet = e.x.quiet }; w = e.w; y = die })
    (record { tom = record { y1 = y; y2 = o.y1; det = e.x.det; quiet = e.x.quiet }; w = e.w; y = y })
