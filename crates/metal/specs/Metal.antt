-- Draws on a hit, the bank of six squares and the filter, from analog.rs. Definitions only.
use Rattle.std.specs.Prelude.{ℕ, ◌+◌, ◌*◌, Bool, ◌&&◌, cond, List, get_or, set, eqb, pos, Float}
use Rattle.std.specs.Float.{binary32, nan}
use Rattle.std.specs.Float.Ieee.{neg, lt, of_int}
use Rattle.float.specs.Consts.{k0, k1, k2, FS, PI, k0p5, k43p62}
use Rattle.float.specs.Ops.{◌⊕◌, ◌⊖◌, ◌⊗◌, ◌⊘◌}
use Rattle.frame.specs.Frame.{field_at}
use Rattle.lists.specs.Turns.{turns_of}
use Rattle.sine.specs.Sine.{sin_of}
use Rattle.vco.specs.Vco.{advanced}
use Rattle.wobble.specs.declared.Wobble.{Wobble}
use Rattle.wobble.specs.declared.Drawn.{Drawn}
use Rattle.wobble.specs.Wobble.{DETUNE_CENTS, phase_of, detune_of}
use Rattle.metal.specs.declared.Drawn6.{Drawn6}
use Rattle.metal.specs.declared.Bank.{Bank}
use Rattle.metal.specs.declared.Svf.{Svf}
use Rattle.metal.specs.declared.SvfOut.{SvfOut}

-- a bank field's units per Hz
abbrev pub HAT_UNITS_PER_HZ : Float
HAT_UNITS_PER_HZ = k43p62

-- the k-th of six drawn by g
unfoldable pub draw : (Wobble → Drawn Float) → ℕ → Drawn (List Float) → Drawn (List Float)
draw g k d = let p = g d.w in record { x = set d.x k p.x; w = p.w }

-- the k-th of six phases drawn, and of six detunes
abbrev pub draw_phase : ℕ → Drawn (List Float) → Drawn (List Float)
draw_phase = draw phase_of

abbrev pub draw_detune : ℕ → Drawn (List Float) → Drawn (List Float)
draw_detune = draw (λ w. detune_of w DETUNE_CENTS)

-- a hit draws six detunes, and before them six phases where it follows silence
unfoldable pub hit_draws : Bool → Bool → List Float → List Float → Wobble → Drawn6
hit_draws hit silent ph det w =
    let p = turns_of 6 draw_phase (record { x = ph; w = w }) in
    let after : Drawn (List Float) = cond silent p (record { x = ph; w = w }) in
    let d = turns_of 6 draw_detune (record { x = det; w = after.w }) in
    cond hit (record { ph = after.x; det = d.x; w = d.w }) (record { ph = ph; det = det; w = w })

-- oscillator k of the bank: its phase advances, and its square joins the sum; where `skip` is true a field of 0 leaves it off
unfoldable pub turn_of : ℕ → List Float → Bool → ℕ → Bank → Bank
turn_of v det skip k b =
    let ph = advanced (get_or b.ph k nan) (of_int binary32 (pos v) ⊘ HAT_UNITS_PER_HZ ⊗ get_or det k nan) FS in
    cond (skip && eqb v 0) b
    (record { ph = set b.ph k ph; metal = b.metal ⊕ cond (lt ph k0p5) k1 (neg k1); running = b.running + 1 })

-- the six in turn, their fields from o on
unfoldable pub bank_of : List ℕ → ℕ → List Float → List Float → Bool → Bank
bank_of f o ph det skip = turns_of 6 (λ k b. turn_of (field_at f (o + 4 * k)) det skip k b) (record { ph = ph; metal = k0; running = 0 })

-- the coefficient of a cutoff in Hz
abbrev pub svf_coefficient : Float → Float
svf_coefficient fc = k2 ⊗ sin_of (PI ⊗ fc ⊘ FS)

-- one sample of a state-variable filter
unfoldable pub svf_of : Svf → Float → Float → Float → SvfOut
svf_of s x g damp =
    let high = x ⊖ s.low ⊖ damp ⊗ s.band in
    let band = s.band ⊕ g ⊗ high in
    record { svf = record { low = s.low ⊕ g ⊗ band; band = band }; high = high }
