-- An envelope of any kind: what it keeps, the move that a record makes of it, and what it keeps after that. Definitions only.
use Rattle.std.specs.Prelude.{ℕ, zero, suc, true, false, List, T, Float}
use Rattle.envelope.specs.declared.SegEnv.{SegEnv}
use Rattle.envelope.specs.Record.{mode_of, record_of}
use Rattle.envelope.specs.Moves.{Move, ramps, dual_move, dual_of, hit_move, hit_of, seg_move, seg_of}

-- the four kinds, each with what it keeps: a dual voice's envelope its last record, the hat's and the cymbal's their last mode, a chain's its SegEnv
pub data State : Type 0 where
  dual : (last : List ℕ) → Float → State
  hit : (mode : ℕ) → Float → State
  chain_amp chain_filter : SegEnv → State

-- where its level stands
abbrev pub level_within : State → Float
level_within (dual last x) = x
level_within (hit mode x) = x
level_within (chain_amp e) = e.level
level_within (chain_filter e) = e.level

-- the move that a record makes of it
abbrev pub move_in : State → List ℕ → Move
move_in (dual last x) r = dual_move last r
move_in (hit mode x) r = hit_move mode r
move_in (chain_amp e) r = seg_move true r e
move_in (chain_filter e) r = seg_move false r e

-- what it keeps after a record
abbrev pub after_in : State → List ℕ → State
after_in (dual last x) r = dual r (dual_of last r (record { level = x })).level
after_in (hit mode x) r = hit (mode_of r) (hit_of mode r (record { level = x })).level
after_in (chain_amp e) r = chain_amp (seg_of true r e)
after_in (chain_filter e) r = chain_filter (seg_of false r e)

-- and after the same record n times
unfoldable pub after_times : ℕ → State → List ℕ → State
after_times zero s r = s
after_times (suc n) s r = after_in (after_times n s r) r

-- a record that neither holds nor parks an envelope of its kind, by its bytes alone: a dual voice's always, the hat's and the cymbal's with a first word
-- other than zero, a chain's with mode 9, B or F
abbrev pub NeverStops : State → List ℕ → Type 0
NeverStops (dual last x) r = Unit
NeverStops (hit mode x) r = T (record_of r).start_cmd
NeverStops (chain_amp e) r = T (ramps (mode_of r))
NeverStops (chain_filter e) r = T (ramps (mode_of r))
