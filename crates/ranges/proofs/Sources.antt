-- What the sources give to sine, cosine, exp2 and exp lies in their ranges. Assumes nothing.
use Prim.Native.Nat.{ℕ, min}
use native.Mathlib.Omega.{arith}
use mathlib.Core.Bool.{Bool, false, not, cond}
use mathlib.Core.List.{List}
use lib.Dec.{T}
use lib.Ieee.{Float, nan, binary32, neg, lt, ne, fits, of_bits, is_nan}
use lib.Ieee.Bits.{is_false}
use Rattle.line.proofs.Range.{In, in_cond, in_of}
use Rattle.float.specs.Consts.{k0, k1, k2, LEVELS_PER_6DB, k10, k64, k127, k500, k1200, k6000, k12000, k16000, k32767, k32768, FS, k0p03, k0p75, k1p5, k5p64, TAU, PI}
use Rattle.float.specs.Ops.{◌⊗◌, ◌⊘◌}
use Rattle.float.specs.Floats.{min_of}
use Rattle.float.proofs.Eval.{leaf, con, minus, times, over, capped, floored, clamped, range, proves}
use Rattle.frame.specs.declared.CymPath.{CymPath}
use Rattle.frame.specs.Offsets.{HAT_COLOUR, CYM_COLOUR, cym_paths, cym_path}
use Rattle.frame.specs.Frame.{Bytes, signed_f}
use Rattle.lists.proofs.Table.{at}
use Rattle.envelope.specs.Levels.{Level}
use Rattle.fixed.proofs.Order.{not_lt, a_number}
use Rattle.power.specs.Power.{zero_f, exp2_of}
use Rattle.sine.specs.Sine.{eight}
use Rattle.wobble.specs.declared.Wobble.{Wobble}
use Rattle.wobble.specs.declared.Drift.{Drift}
use Rattle.wobble.specs.Wobble.{DETUNE_CENTS, uni_of}
use Rattle.wobble.proofs.Kept.{Unit, WobbleIn, DriftIn, either, uni_in, cents_in}
use Rattle.vco.proofs.Kept.{asym_in}
use Rattle.envelope.proofs.Ranges.{level_range}
use Rattle.ranges.specs.Arguments.{detune, drift, turn, asym_turn, gain, hat_colour, hat_filter, cym_colour, cym_filter, decay_word, decay, ring_kept, ring}
use Rattle.ranges.specs.Ranges.{InExp2, InExp, InSine}
use Rattle.ranges.proofs.Inside.{Small, top, up_to_lem, small_call, small_power, up_power, signed_in, quotient_call}

-- ---- the oscillators
pub detune_call : (w : Wobble) → WobbleIn w → InExp2 (detune w)
unfolding of_bits proves
detune_call w h = small_call (range (neg k64) k64 (over (times (times (leaf (uni_in w h).1) (con DETUNE_CENTS)) (leaf h.depth)) k1200) tt)

pub drift_call : (d : Drift) (w : Wobble) → DriftIn d → WobbleIn w → InExp2 (drift d w)
unfolding of_bits proves
drift_call d w h k = small_call (range (neg k64) k64 (over (leaf (cents_in d.cents (uni_of w).x w.depth (uni_in w k).1 k.depth h.cents)) k1200) tt)

pub sine_call : (p : Float) → Unit p → InSine (turn p)
unfolding of_bits proves
sine_call p h = up_to_lem (range zero_f eight (times (con TAU) (leaf h)) tt)

pub asym_call : (p : Float) → Unit p → InSine (asym_turn p)
unfolding of_bits
asym_call p h = up_to_lem (asym_in p h)

pub gain_call : (x : Float) → Level x → InExp2 (gain x)
unfolding of_bits proves
gain_call x h = small_call (range (neg k64) k64 (over (minus (leaf (level_range x h)) (con k127)) LEVELS_PER_6DB) tt)

module _ (f : List ℕ) (B : Bytes f) where
  -- ---- hat and cymbal: a colour of c octaves
  colour_in : (c : Float) → In binary32 k0 k2 c → (o : ℕ) → Small (c ⊗ (signed_f f o ⊘ k32768))
  unfolding of_bits proves
  colour_in c h o = range (neg k64) k64 (times (leaf h) (over (leaf (signed_in f B o)) k32768)) tt

  hat_in : Small (hat_colour f)
  hat_in = colour_in k1p5 (unfold of_bits proves in range k0 k2 (con k1p5) tt) HAT_COLOUR

  cym_in : Small (cym_colour f)
  cym_in = colour_in k0p75 (unfold of_bits proves in range k0 k2 (con k0p75) tt) CYM_COLOUR

  pub hat_colour_call : InExp2 (hat_colour f)
  hat_colour_call = small_call hat_in

  pub hat_filter_call : InSine (hat_filter f)
  unfolding of_bits proves
  hat_filter_call = up_to_lem (range zero_f eight (over (times (con PI) (clamped (times (con k6000) (leaf (small_power hat_in))) k500 k16000)) FS) tt)

  pub cym_colour_call : InExp2 (cym_colour f)
  cym_colour_call = small_call cym_in

  -- a path's centre, or the cowbell's
  centre_in : (p : ℕ) (body : Bool) → In binary32 k500 k16000 (cond body k1200 (cym_path p).hz)
  unfolding of_bits proves
  centre_in p body = either (λ (x : Float). In binary32 k500 k16000 x) body k1200 (cym_path p).hz (range k500 k16000 (con k1200) tt) (range k500 k16000 (con (cym_path p).hz) tested)
    where
      tested : T (proves {f = binary32} k500 k16000 (con (cym_path p).hz))
      tested = unfold cym_path cym_paths in at (record { rec = 0; hz = nan; high = false }) (λ _ (c : CymPath). proves {f = binary32} k500 k16000 (con c.hz)) cym_paths tt (min p 4) (omega arith)

  -- a path of the cymbal, its centre moved by the colour or not
  pub cym_filter_call : (p : ℕ) (body fixed : Bool) → InSine (cym_filter (cond body k1200 (cym_path p).hz) fixed (exp2_of (cym_colour f)))
  unfolding of_bits proves
  cym_filter_call p body fixed =
      let h = centre_in p body in
      let wide = k16000 ⊗ top in
      let moved = in_cond binary32 zero_f wide fixed (λ t. range zero_f wide (leaf h) tt) (λ t. range zero_f wide (times (leaf h) (leaf (small_power cym_in))) tt) in
      up_to_lem (range zero_f eight (over (times (con PI) (capped (leaf moved) k16000)) FS) tt)

  -- ---- the toms
  decay_in : (o : ℕ) → In binary32 k0 k64 (decay (decay_word f o))
  unfolding of_bits proves
  decay_in o = range k0 k64 (times (floored (over (leaf (signed_in f B o)) k32767) k0) (con k5p64)) tt

  pub decay_call : (o : ℕ) → InExp2 (decay (decay_word f o))
  unfolding of_bits proves
  decay_call o = small_call (range (neg k64) k64 (leaf (decay_in o)) tt)

  pub keep_call : (o : ℕ) → InExp (ring_kept (decay_word f o))
  unfolding of_bits proves
  keep_call o = quotient_call (range k1 (FS ⊗ top) (times (times (con k0p03) (leaf (up_power (decay_in o)))) (con FS)) tt)

-- where the tom rings; a pitch that is infinite or not a number counts as 12000
pub ring_call : (hz : Float) → T (fits binary32 hz) → T (not (lt hz k10)) → InSine (ring hz)
unfolding of_bits is_nan proves
ring_call hz h t = up_to_lem (range zero_f eight (over (times (con TAU) (leaf cut)) FS) tt)
  where
    most : In binary32 k10 k12000 k12000
    most = range k10 k12000 (con k12000) tt

    cut : In binary32 k10 k12000 (min_of hz k12000)
    cut = unfold min_of in in_cond binary32 k10 k12000 (lt k12000 hz) (λ u. most) (λ u. in_cond binary32 k10 k12000 (ne hz hz) (λ v. most) (λ v.
        let n = a_number hz (is_false (ne hz hz) v) in
        in_of binary32 k10 k12000 hz tt h (not_lt hz k10 n tt t) (not_lt k12000 hz tt n u)))
