-- The 42 levels and the 18 phases of a board. Definitions only.
use Rattle.std.specs.Prelude.{ℕ, zero, suc, ◌+◌, ◌*◌, ◌<◌, List, [], ◌∷◌, ◌++◌, get_or, Float}
use Rattle.std.proofs.Math.Nat.{suc-le-suc_iff}
use Rattle.std.proofs.Common.{zero-lt-suc}
use Rattle.std.specs.Float.{nan}
use Rattle.frame.specs.Frame.{bytes_at}
use Rattle.frame.specs.Offsets.{AMP_ENV, AMP_ENV_R, FLT_ENV, HAT_ENV, CYM_ENV, PITCH_REC, AMP_REC, AMP2_REC, dual_spec}
use Rattle.envelope.specs.Moves.{Move}
use Rattle.envelope.specs.States.{State, level_within, move_in}
use Rattle.cym.specs.Cym.{no_env}
use Rattle.sources.specs.Sources.{no_dual}
use Rattle.chain.specs.Chain.{no_chain}
use Rattle.board.specs.declared.Analog.{Analog}

-- all of a family, in order
unfoldable pub below : {A : Type 0} → (n : ℕ) → ((i : ℕ) → i < n → A) → List A
below zero c = []
below (suc n) c = c zero (zero-lt-suc n) ∷ below n (λ i h. c (suc i) (suc-le-suc_iff.1 h))

-- "There are 34 levels: three per dual voice, one hat, eight cymbal, two per chain", and with the right amp of each chain "There are now 42 levels"
pub data Which : Type 0 where
  pitch amp amp2 : (d : ℕ) → d < 3 → Which
  hat : Which
  cymbal : (r : ℕ) → r < 8 → Which
  chain_amp chain_filter : (v : ℕ) → v < 8 → Which
  chain_amp_r : (v : ℕ) → v < 8 → Which

unfoldable pub levels : List Which
levels = below 3 pitch ++ (below 3 amp ++ (below 3 amp2 ++ (below 1 (λ i h. hat) ++ (below 8 cymbal ++ (below 8 chain_amp ++ (below 8 chain_filter ++ below 8 chain_amp_r))))))

-- where the list has a level
abbrev pub place_of : Which → ℕ
place_of (pitch d h) = d
place_of (amp d h) = 3 + d
place_of (amp2 d h) = 3 + (3 + d)
place_of hat = 3 + (3 + (3 + 0))
place_of (cymbal r h) = 3 + (3 + (3 + (1 + r)))
place_of (chain_amp v h) = 3 + (3 + (3 + (1 + (8 + v))))
place_of (chain_filter v h) = 3 + (3 + (3 + (1 + (8 + (8 + v)))))
place_of (chain_amp_r v h) = 3 + (3 + (3 + (1 + (8 + (8 + (8 + v))))))

-- the envelope of a level, where it lies on the board
abbrev pub state_at : Analog → Which → State
state_at b (pitch d h) = let e = get_or b.duals d no_dual in State.dual e.last_p e.pitch.level
state_at b (amp d h) = let e = get_or b.duals d no_dual in State.dual e.last_a e.amp.level
state_at b (amp2 d h) = let e = get_or b.duals d no_dual in State.dual e.last_m e.amp2.level
state_at b hat = State.hit b.hat.mode b.hat.env.level
state_at b (cymbal r h) = State.hit (get_or b.cym.mode r 0) (get_or b.cym.env r no_env).level
state_at b (chain_amp v h) = State.chain_amp (get_or b.chains v no_chain).amp
state_at b (chain_filter v h) = State.chain_filter (get_or b.chains v no_chain).flt
state_at b (chain_amp_r v h) = State.chain_amp (get_or b.chains v no_chain).amp_r

-- where its record stands in the frame
abbrev pub offset_at : Which → ℕ
offset_at (pitch d h) = (dual_spec d).env + 8 * PITCH_REC
offset_at (amp d h) = (dual_spec d).env + 8 * AMP_REC
offset_at (amp2 d h) = (dual_spec d).env + 8 * AMP2_REC
offset_at hat = HAT_ENV
offset_at (cymbal r h) = CYM_ENV + 8 * r
offset_at (chain_amp v h) = AMP_ENV + 8 * v
offset_at (chain_filter v h) = FLT_ENV + 8 * v
offset_at (chain_amp_r v h) = AMP_ENV_R + 8 * v

-- the level, its eight bytes, and its move in an accepted step: the one that the definition of the step makes of the board and the bytes
abbrev pub level_at : Analog → Which → Float
level_at b w = level_within (state_at b w)

abbrev pub record_at : List ℕ → Which → List ℕ
record_at f w = bytes_at f (offset_at w)

abbrev pub move_at : Analog → List ℕ → Which → Move
move_at b f w = move_in (state_at b w) (record_at f w)

-- "An oscillator phase is a number of the board that one of the two phase rules above advances": two per dual voice, six of the hat, six of the cymbal
pub data Osc : Type 0 where
  dual1 dual2 : (d : ℕ) → d < 3 → Osc
  hat_osc cym_osc : (k : ℕ) → k < 6 → Osc

unfoldable pub phases : List Osc
phases = below 3 dual1 ++ (below 3 dual2 ++ (below 6 hat_osc ++ below 6 cym_osc))

abbrev pub phase_place : Osc → ℕ
phase_place (dual1 d h) = d
phase_place (dual2 d h) = 3 + d
phase_place (hat_osc k h) = 3 + (3 + k)
phase_place (cym_osc k h) = 3 + (3 + (6 + k))

-- where it stands on the board
abbrev pub phase_at : Analog → Osc → Float
phase_at b (dual1 d h) = (get_or b.duals d no_dual).ph1
phase_at b (dual2 d h) = (get_or b.duals d no_dual).ph2
phase_at b (hat_osc k h) = get_or b.hat.ph k nan
phase_at b (cym_osc k h) = get_or b.cym.ph k nan
