-- Draws on a hit and the bank keep six phases from 0 to 1 and six detunes from 0.5 to 1.5. Assumes nothing.
use Prim.Native.Nat.{ℕ, ◌+◌, ◌*◌, ◌^◌, ◌<◌}
use native.Mathlib.Omega.{arith}
use native.Mathlib.Nat.{le_of_lt}
use mathlib.Core.Path.{◌≡◌}
use mathlib.Core.Bool.{Bool, true, false, ◌&&◌, cond}
use mathlib.Core.List.{List}
use lib.ListN.{get_or, set, length, length-set}
use lib.Dec.{eqb, le→leb}
use lib.IntN.{pos}
use lib.Ieee.{Float, nan, binary32, neg, le, lt, eq, fits, of_bits, of_int, round}
use Rattle.line.proofs.Range.{In}
use Rattle.line.proofs.Whole.{of_int_in}
use Rattle.float.specs.Consts.{k0, k127, FS, k65536, k0p5}
use Rattle.float.specs.Ops.{◌⊕◌, ◌⊗◌, ◌⊘◌}
use Rattle.float.proofs.Eval.{leaf, plus, times, over, range, proves}
use Rattle.float.proofs.Laws.{fract_in}
use Rattle.frame.specs.Frame.{Bytes, field_at}
use Rattle.frame.proofs.Sizes.{field_in}
use Rattle.lists.specs.Turns.{turns_of}
use Rattle.lists.proofs.Sweep.{turns_keep, set_keeps}
use Rattle.vco.specs.Vco.{advanced}
use Rattle.wobble.specs.declared.Wobble.{Wobble}
use Rattle.wobble.specs.Wobble.{DETUNE_CENTS, phase_of, detune_of}
use Rattle.wobble.proofs.Kept.{Unit, Ratio, WobbleIn, phase_in, detune_in}
use Rattle.wobble.specs.declared.Drawn.{Drawn}
use Rattle.metal.specs.declared.Drawn6.{Drawn6}
use Rattle.metal.specs.declared.Bank.{Bank}
use Rattle.metal.specs.Metal.{HAT_UNITS_PER_HZ, draw, draw_phase, draw_detune, hit_draws, turn_of, bank_of}

-- each of the six
pub record Six (P : Float → Type 0) (xs : List Float) : Type 0 where
  pub long : length xs ≡ 6
  pub each : (k : ℕ) → k < 6 → P (get_or xs k nan)

pub six_set : {P : Float → Type 0} (xs : List Float) (k : ℕ) (x : Float) → Six P xs → P x → Six P (set xs k x)
six_set {P} xs k x h p = record {
  long = rw (length-set xs k x) h.long;
  each = λ i l. set_keeps P nan xs k x i (h.each i l) p;
}

-- ---- draws
pub record DrawsIn (P : Float → Type 0) (d : Drawn (List Float)) : Type 0 where
  pub xs : Six P d.x
  pub w : WobbleIn d.w

pub record Drawn6In (d : Drawn6) : Type 0 where
  pub ph : Six Unit d.ph
  pub det : Six Ratio d.det
  pub w : WobbleIn d.w

phase_drawn : (k : ℕ) (d : Drawn (List Float)) → DrawsIn Unit d → DrawsIn Unit (draw_phase k d)
unfolding draw
phase_drawn k d h = let r = phase_in d.w h.w in record { xs = six_set d.x k (phase_of d.w).x h.xs r.1; w = r.0 }

phases_drawn : (d : Drawn (List Float)) → DrawsIn Unit d → DrawsIn Unit (turns_of 6 draw_phase d)
phases_drawn d h = turns_keep (DrawsIn Unit) 6 draw_phase d (λ k x l i. phase_drawn k x i) h

-- ---- the bank: a field below 2 ^ 22
turn_phase : (p t : Float) (v : ℕ) → Unit p → v < 2 ^ 22 → Ratio t → Unit (advanced p (of_int binary32 (pos v) ⊘ HAT_UNITS_PER_HZ ⊗ t) FS)
unfolding advanced of_bits proves
turn_phase p t v h k m = fract_in k127 _ (range k0 k127 (plus (leaf h) (over (times (over (leaf (field_range v k)) HAT_UNITS_PER_HZ) (leaf m)) FS)) tt)
  where
    field_range : (v : ℕ) → v < 2 ^ 22 → In binary32 k0 (k65536 ⊗ Rattle.float.specs.Consts.k64) (of_int binary32 (pos v))
    field_range v h = unfold of_int round fits le lt eq lib.Ieee.mul in of_int_in binary32 (pos 0) (pos (2 ^ 22)) k0 (k65536 ⊗ Rattle.float.specs.Consts.k64) (pos v) (le→leb 0 v (omega arith)) (le→leb v (2 ^ 22) (le_of_lt h)) tt

turn_in : (v : ℕ) (det : List Float) (skip : Bool) (k : ℕ) (b : Bank) → v < 2 ^ 22 → Six Ratio det → k < 6 → Six Unit b.ph → Six Unit (turn_of v det skip k b).ph
unfolding turn_of
turn_in v det skip k b m D l h = by (skip && eqb v 0)
  where
    ph : Float
    ph = advanced (get_or b.ph k nan) (of_int binary32 (pos v) ⊘ HAT_UNITS_PER_HZ ⊗ get_or det k nan) FS

    by : (c : Bool) → Six Unit (cond c b (record { ph = set b.ph k ph; metal = b.metal ⊕ cond (lt ph k0p5) Rattle.float.specs.Consts.k1 (neg Rattle.float.specs.Consts.k1); running = b.running + 1 })).ph
    by true = h
    by false = six_set b.ph k ph h (turn_phase (get_or b.ph k nan) (get_or det k nan) v (h.each k l) m (D.each k l))

pub bank_in : (f : List ℕ) → Bytes f → (o : ℕ) (ph det : List Float) (skip : Bool) → Six Unit ph → Six Ratio det → Six Unit (bank_of f o ph det skip).ph
unfolding bank_of
bank_in f B o ph det skip h D = turns_keep (λ (b : Bank). Six Unit b.ph) 6 (λ k b. turn_of (field_at f (o + 4 * k)) det skip k b) _ (λ k b l i. turn_in (field_at f (o + 4 * k)) det skip k b (field_in f B (o + 4 * k)) D l i) h

detune_drawn : (k : ℕ) (d : Drawn (List Float)) → DrawsIn Ratio d → DrawsIn Ratio (draw_detune k d)
unfolding draw
detune_drawn k d h = let r = detune_in d.w h.w in record { xs = six_set d.x k (detune_of d.w DETUNE_CENTS).x h.xs r.1; w = r.0 }

pub hit_in : (hit silent : Bool) (ph det : List Float) (w : Wobble) → Six Unit ph → Six Ratio det → WobbleIn w → Drawn6In (hit_draws hit silent ph det w)
unfolding hit_draws
hit_in hit silent ph det w h k m = by hit
  where
    after : Drawn (List Float)
    after = cond silent (turns_of 6 draw_phase (record { x = ph; w = w })) (record { x = ph; w = w })

    after_in_lem : DrawsIn Unit after
    after_in_lem = go silent
      where
        go : (s : Bool) → DrawsIn Unit (cond s (turns_of 6 draw_phase (record { x = ph; w = w })) (record { x = ph; w = w }))
        go true = phases_drawn (record { x = ph; w = w }) (record { xs = h; w = m })
        go false = record { xs = h; w = m }

    d : Drawn (List Float)
    d = turns_of 6 draw_detune (record { x = det; w = after.w })

    d_in : DrawsIn Ratio d
    d_in = turns_keep (DrawsIn Ratio) 6 draw_detune (record { x = det; w = after.w }) (λ k x l i. detune_drawn k x i) (record { xs = k; w = after_in_lem.w })

    by : (b : Bool) → Drawn6In (cond b (record { ph = after.x; det = d.x; w = d.w }) (record { ph = ph; det = det; w = w }))
    by true = record { ph = after_in_lem.xs; det = d_in.xs; w = d_in.w }
    by false = record { ph = h; det = k; w = m }
