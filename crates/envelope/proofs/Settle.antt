-- A move of bytes keeps a level a level, and where it ticks, the level ends between where it stood and the record's target. Assumes nothing.
use mathlib.Core.Path.{◌≡◌}
use mathlib.Core.Bool.{Bool, true, false, cond}
use mathlib.Core.List.{List}
use Prim.Native.Nat.{ℕ}
use lib.Ieee.{Float, of_bits, neg, fits, le, lt, eq}
use Rattle.frame.specs.Frame.{Bytes}
use Rattle.envelope.specs.declared.Env.{Env}
use Rattle.envelope.specs.declared.SegEnv.{SegEnv}
use Rattle.envelope.specs.Record.{tick_level}
use Rattle.envelope.specs.Moves.{Move, given, stood, ticked, settle, dual_move, dual_of, hit_move, hit_of, seg_move, seg_of}
use Rattle.envelope.specs.Levels.{Level, Between}
use Rattle.envelope.proofs.Ranges.{record_in}
use Rattle.envelope.proofs.Arrive.{tick_between}

pub stood_in : (m : Move) (x : Float) → Bytes m.bytes → Level x → Level (stood m x)
stood_in m x h l = by m.restarted
  where
    by : (b : Bool) → Level (cond b (given m).start x)
    by true = (record_in m.bytes h).start.0
    by false = l

module _ (m : Move) (x : Float) (h : Bytes m.bytes) (l : Level x) where
  ticks_to : Between (stood m x) (tick_level (stood m x) (given m).target (given m).step) (given m).target × Level (tick_level (stood m x) (given m).target (given m).step)
  ticks_to = let r = record_in m.bytes h in tick_between (given m).target (given m).step r.target.0 r.step (stood m x) (stood_in m x h l)

  pub settle_in : Level (settle m x)
  unfolding settle
  settle_in = by (ticked m) m.parked
    where
      by : (t p : Bool) → Level (cond t (tick_level (stood m x) (given m).target (given m).step) (cond p Rattle.float.specs.Consts.k_m128 (stood m x)))
      by true p = ticks_to.1
      by false true = unfold of_bits neg fits le lt eq in record { f32 = tt; low = tt; high = tt }
      by false false = stood_in m x h l

  pub settle_between : ticked m ≡ true → Between (stood m x) (settle m x) (given m).target
  unfolding settle
  settle_between e = rw e ticks_to.0

-- ---- so each kind of envelope keeps its level a level
pub dual_level : (last r : List ℕ) (e : Env) → Bytes r → Level e.level → Level (dual_of last r e).level
unfolding dual_of dual_move
dual_level last r e h l = settle_in (dual_move last r) e.level h l

pub hit_level : (mode : ℕ) (r : List ℕ) (e : Env) → Bytes r → Level e.level → Level (hit_of mode r e).level
unfolding hit_of hit_move
hit_level mode r e h l = settle_in (hit_move mode r) e.level h l

pub seg_level : (amp : Bool) (r : List ℕ) (e : SegEnv) → Bytes r → Level e.level → Level (seg_of amp r e).level
unfolding seg_of seg_move
seg_level amp r e h l = settle_in (seg_move amp r e) e.level h l
