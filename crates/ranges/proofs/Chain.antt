-- What a voice's chain gives to exp2, tan and exp lies in their ranges. Assumes nothing.
use Prim.Native.Nat.{ℕ, ◌+◌, ◌*◌}
use mathlib.Core.List.{List}
use lib.Ieee.{Float, binary32, neg, of_bits, fits, le, lt, eq}
use Rattle.line.proofs.Range.{In, in_of}
use Rattle.float.specs.Consts.{k0, k10, k12, k60, k64, k127, k440, k512, k22000, k0p45, FS, TAU, PI}
use Rattle.float.specs.Ops.{◌⊗◌}
use Rattle.float.proofs.Eval.{leaf, con, plus, minus, times, over, capped, floored, clamped, range, proves}
use Rattle.frame.specs.Offsets.{FRQ, FLT_ENV}
use Rattle.frame.specs.Frame.{Bytes}
use Rattle.envelope.specs.Levels.{Level}
use Rattle.power.specs.Power.{zero_f, exp_low}
use Rattle.sine.specs.Sine.{one_five}
use Rattle.envelope.proofs.Ranges.{level_range}
use Rattle.chain.specs.Chain.{cutoff_of, limited_of}
use Rattle.ranges.specs.Arguments.{frq_word, depth_word, cutoff, tangent, pole}
use Rattle.ranges.specs.Ranges.{InExp2, InExp, InTan}
use Rattle.ranges.proofs.Inside.{Small, up_to_lem, small_call, small_power, signed_in}

module _ (f : List ℕ) (B : Bytes f) (v : ℕ) (l : Float) (h : Level l) where
  cutoff_small : Small (cutoff (frq_word f v) (depth_word f v) l)
  unfolding of_bits proves
  cutoff_small =
      range (neg k64) k64 (over (minus (plus (over (plus (leaf (signed_in f B (FRQ + 2 * v))) (times (leaf (signed_in f B (FLT_ENV + 8 * v))) (over (floored (leaf (level_range l h)) k0) k127))) k512) (con k64)) (con k60)) k12) tt

  pub cutoff_call : InExp2 (cutoff (frq_word f v) (depth_word f v) l)
  cutoff_call = small_call cutoff_small

  -- the cutoff itself
  pub cutoff_in : In binary32 k10 k22000 (cutoff_of (frq_word f v) (depth_word f v) l)
  unfolding cutoff_of of_bits proves
  cutoff_in = range k10 k22000 (clamped (times (con k440) (leaf (small_power cutoff_small))) k10 k22000) tt

-- a fresh chain's
pub fresh_cutoff_in : In binary32 k10 k22000 k440
unfolding of_bits fits le lt eq
fresh_cutoff_in = in_of binary32 k10 k22000 k440 tt tt tt tt

pub tan_call : (fc : Float) → In binary32 k10 k22000 fc → InTan (tangent fc)
unfolding limited_of of_bits proves
tan_call fc h = up_to_lem (range zero_f one_five (over (times (con PI) (capped (leaf h) (FS ⊗ k0p45))) FS) tt)

pub pole_call : (fc : Float) → In binary32 k10 k22000 fc → InExp (pole fc)
unfolding of_bits proves
pole_call fc h = let i = range exp_low zero_f (over (times (con (neg TAU)) (leaf h)) FS) tt in (i.from, i.upto)
