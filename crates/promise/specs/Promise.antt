-- What every list of calls keeps, in the terms of levels, phases and stretches. Definitions only.
use Rattle.std.specs.Prelude.{ℕ, suc, ◌≤◌, ◌≡◌, Bool, false, cond, ◌&&◌, List, [], ◌∷◌, ◌++◌, get_or, T, pos, nat_abs, Float}
use Rattle.std.specs.Float.Ieee.{le}
use Rattle.float.specs.Consts.{k0, k1, k127, k_m128}
use Rattle.envelope.specs.Record.{record_of}
use Rattle.envelope.specs.Moves.{Move, given, stood, ticked, settle}
use Rattle.envelope.specs.States.{NeverStops}
use Rattle.envelope.specs.Levels.{Between, Equal}
use Rattle.vco.specs.Vco.{BelowOne}
use Rattle.board.specs.declared.Analog.{Analog}
use Rattle.promise.specs.Calls.{Given, Call, given_of, taken, words_of, next_of, reached_of}
use Rattle.promise.specs.Levels.{Which, state_at, level_at, record_at, move_at, Osc, dual1, dual2, hat_osc, cym_osc, phase_at}

-- ---- the terms
-- a call of the list, and "A stretch is any run of neighbouring calls of the list"
pub record Place (calls : List Call) : Type 0 where
  pub before : List Call
  pub call : Call
  pub rest : List Call
  pub whole : before ++ (call ∷ rest) ≡ calls

pub record Stretch (calls : List Call) : Type 0 where
  pub before : List Call
  pub run : List Call
  pub rest : List Call
  pub whole : before ++ (run ++ rest) ≡ calls

-- the move that a call makes of a level, if it is accepted
abbrev pub move_of : Analog → Call → Which → Move
move_of b k w = move_at b (given_of k).frame w

-- "a tick is one application of the tick rule"; "refused ones .. tick nothing"
abbrev pub ticked_by : Analog → Call → Which → Bool
ticked_by b k w = taken k && ticked (move_of b k w)

-- "ticks are counted from the stretch's first call"
unfoldable pub ticks_in : Which → Analog → List Call → ℕ
ticks_in w b [] = 0
ticks_in w b (k ∷ ks) = cond (ticked_by b k w) (suc (ticks_in w (next_of b k) ks)) (ticks_in w (next_of b k) ks)

-- at each accepted step of a run, P of the board that it takes and of what it is given; "refused ones may carry anything"
abbrev pub EachAccepted : (Analog → Given → Type 0) → Analog → List Call → Type 0
EachAccepted P b [] = Unit
EachAccepted P b (k ∷ ks) = (T (taken k) → P b (given_of k)) × EachAccepted P (next_of b k) ks

-- "A level's record is unchanged in it if all its accepted steps carry the same eight bytes there"
abbrev pub Carries : Which → List ℕ → Analog → Given → Type 0
Carries w bytes b g = record_at g.frame w ≡ bytes

-- a step that belongs to a stretch for the level: one that restarts, holds or parks it "ends the stretch for that level and is not part of it"
pub record Continues (w : Which) (bytes : List ℕ) (b : Analog) (g : Given) : Type 0 where
  pub unchanged : Carries w bytes b g
  pub not_restarted : (move_at b g.frame w).restarted ≡ false
  pub not_held : (move_at b g.frame w).held ≡ false
  pub not_parked : (move_at b g.frame w).parked ≡ false

-- the target in a record's bytes
abbrev pub target_of : List ℕ → Float
target_of bytes = (record_of bytes).target

-- from lo to hi, ends included
pub record Within (lo hi x : Float) : Type 0 where
  pub from : T (le lo x)
  pub upto : T (le x hi)

-- "phases from 0 to 1", ends included; the six of the dual voices, and those alone, stay below 1.
-- A hat's or cymbal's phase can be exactly 1: it is drawn at a hit after silence, a random word of 2 ^ 32 - 1 draws 1 (`drawn_one` in crates/wobble/proofs), and where the
-- record parks the level in the same step the bank stands still and the phase stays as drawn.
abbrev pub PhaseIn : Osc → Float → Type 0
PhaseIn (dual1 d h) x = BelowOne x
PhaseIn (dual2 d h) x = BelowOne x
PhaseIn (hat_osc k h) x = Within k0 k1 x
PhaseIn (cym_osc k h) x = Within k0 k1 x

-- ---- the promise, from board b on, of this list of calls
pub record Promise (b : Analog) (calls : List Call) : Type 0 where
  -- "levels from -128 to 127"
  pub levels : (w : Which) → Within k_m128 k127 (level_at (reached_of b calls) w)
  -- "phases from 0 to 1", those of the dual voices below 1
  pub phases : (o : Osc) → PhaseIn o (phase_at (reached_of b calls) o)
  -- "each tick between where the level stood and its target"
  pub between : (p : Place calls) (w : Which) → let s = reached_of b p.before in
      T (ticked_by s p.call w) → let m = move_of s p.call w in Between (stood m (level_at s w)) (level_at (next_of s p.call) w) (given m).target
  -- "arrival within 131,072 ticks"
  pub arrives : (p : Stretch calls) (w : Which) (bytes : List ℕ) → let s = reached_of b p.before in
      EachAccepted (Continues w bytes) s p.run → 131072 ≤ ticks_in w s p.run → level_at (reached_of s p.run) w ≡ target_of bytes
  -- "and staying there": a level that somewhere in a stretch equals its target as a number equals it at the stretch's end
  pub stays : (p : Stretch calls) (w : Which) (bytes : List ℕ) (first later : List Call) → first ++ later ≡ p.run → let s = reached_of b p.before in
      EachAccepted (Continues w bytes) s p.run → Equal (level_at (reached_of s first) w) (target_of bytes) → Equal (level_at (reached_of s p.run) w) (target_of bytes)
  -- "words within ±8,388,607"
  pub words : (p : Place calls) (n : ℕ) → nat_abs (get_or (words_of (reached_of b p.before) p.call) n (pos 0)) ≤ 8388607

-- ---- said beyond that
-- how many calls of a run are accepted
unfoldable pub accepted_in : List Call → ℕ
accepted_in [] = 0
accepted_in (k ∷ ks) = cond (taken k) (suc (accepted_in ks)) (accepted_in ks)

-- a step that neither holds nor parks the level
pub record NotStopped (w : Which) (b : Analog) (g : Given) : Type 0 where
  pub not_held : (move_at b g.frame w).held ≡ false
  pub not_parked : (move_at b g.frame w).parked ≡ false

-- Moves are what the definition of the step makes of a board; a definition that restarted, held or parked more than it should would have fewer stretches.
-- So these say where each call takes each level, and the arrival in accepted steps, at last with no word of moves.
pub record Beyond (b : Analog) (calls : List Call) : Type 0 where
  -- each call takes each level where its move says, and a refused one nowhere
  pub moves : (p : Place calls) (w : Which) → let s = reached_of b p.before in
      level_at (next_of s p.call) w ≡ cond (taken p.call) (settle (move_of s p.call w) (level_at s w)) (level_at s w)
  -- a level that is its target to the bit stays so
  pub stays_exactly : (p : Stretch calls) (w : Which) (bytes : List ℕ) (first later : List Call) → first ++ later ≡ p.run → let s = reached_of b p.before in
      EachAccepted (Continues w bytes) s p.run → level_at (reached_of s first) w ≡ target_of bytes → level_at (reached_of s p.run) w ≡ target_of bytes
  -- where the accepted steps of a stretch carry one record and none holds or parks the level, 131,073 of them bring it onto its target: the first may restart it
  pub settles : (p : Stretch calls) (w : Which) (bytes : List ℕ) → let s = reached_of b p.before in
      EachAccepted (Carries w bytes) s p.run → EachAccepted (NotStopped w) s p.run → 131073 ≤ accepted_in p.run → level_at (reached_of s p.run) w ≡ target_of bytes
  -- and so they do where the record never stops the level, by its bytes alone
  pub carried : (p : Stretch calls) (w : Which) (bytes : List ℕ) → let s = reached_of b p.before in
      NeverStops (state_at s w) bytes → EachAccepted (Carries w bytes) s p.run → 131073 ≤ accepted_in p.run → level_at (reached_of s p.run) w ≡ target_of bytes

-- for each level and each number some list of calls has, from this board on, a stretch with that many ticks in which the level starts away from its target, and
-- with enough of them arrives: the arrival speaks of something
pub record Stretched (b : Analog) (w : Which) (n : ℕ) : Type 0 where
  pub run : List Call
  pub bytes : List ℕ
  pub stretch : EachAccepted (Continues w bytes) b run
  pub ticking : ticks_in w b run ≡ n
  pub away : Equal (level_at b w) (target_of bytes) → ⊥
  pub arrived : 131072 ≤ n → level_at (reached_of b run) w ≡ target_of bytes

-- what the contract of `fresh` says of its board
pub record Promised (b : Analog) : Type 0 where
  pub promise : (calls : List Call) → Promise b calls
  pub beyond : (calls : List Call) → Beyond b calls
  pub stretched : (w : Which) (n : ℕ) → Stretched b w n
