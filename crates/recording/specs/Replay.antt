-- A replay as a list of calls. Definitions only.
use Rattle.std.specs.Prelude.{ℕ, zero, suc, ◌+◌, ◌≡◌, false, List, [], ◌∷◌, map, length, replicate, pos}
use Rattle.board.specs.declared.Answer.{Answer}
use Rattle.board.specs.Board.{fresh_of, accepted}
use Rattle.promise.specs.Calls.{Given, step, answer, next_of, reached_of, answers_of}
use Rattle.promise.specs.Promise.{Promise, Beyond}
use Rattle.recording.specs.declared.Playing.{Playing}
use Rattle.recording.specs.declared.Played.{Played}
use Rattle.recording.specs.Format.{seed_of, ideal_of, steps_of, extent_of, entry_at, frame_at, fx_at, dac_at, inputs_at}
use Rattle.recording.specs.Play as Play

-- a step is given what the body at o holds
pub record BodyAt (r : List ℕ) (o : ℕ) (g : Given) : Type 0 where
  pub frame : g.frame ≡ frame_at r o
  pub dac : g.dac ≡ dac_at r (o + 688) 16
  pub fx : g.fx ≡ fx_at r o
  pub inputs : g.inputs ≡ inputs_at r (o + 752)

-- steps from step i on are given the bodies that the contents name
unfoldable pub Bodies : List ℕ → ℕ → List Given → Type 0
Bodies r i [] = Unit
Bodies r i (g ∷ gs) = BodyAt r (extent_of (steps_of r) (entry_at r i)) g × Bodies r (i + 1) gs

-- n steps of a replay, and where they leave it
unfoldable pub plays_of : ℕ → Playing → List ℕ → List Played
plays_of zero p r = []
plays_of (suc n) p r = Play.next_of p r ∷ plays_of n (Play.next_of p r).playing r

unfoldable pub after_of : ℕ → Playing → List ℕ → Playing
after_of zero p r = p
after_of (suc n) p r = after_of n (Play.next_of p r).playing r

-- a replayed step's answer, with the board that it leaves
unfoldable pub answered : Played → Answer
answered a = record { refusal = a.refusal; rx = a.rx; mix = a.mix; board = a.playing.board }

-- the first n steps of a recording that was opened to be played as p answer as steps with its bodies from the fresh board, leave the board that these leave, and so keep what
-- every list of calls keeps
pub record Replays (r : List ℕ) (p : Playing) (n : ℕ) : Type 0 where
  pub steps : List Given
  pub count : length steps ≡ n
  pub bodies : Bodies r 0 steps
  pub answers : map answered (plays_of n p r) ≡ answers_of (fresh_of (seed_of r) (ideal_of r)) steps
  pub board : (after_of n p r).board ≡ reached_of (fresh_of (seed_of r) (ideal_of r)) (map step steps)
  pub promise : Promise (fresh_of (seed_of r) (ideal_of r)) (map step steps)
  pub beyond : Beyond (fresh_of (seed_of r) (ideal_of r)) (map step steps)

-- a replayed step from any place in any slice is one step on the board that is being played, or it leaves all and answers zero words: so it may stand in a list
-- with direct steps
pub data OneCall (p : Playing) (a : Played) : Type 0 where
  played : (g : Given) → answered a ≡ answer p.board g → a.playing.board ≡ next_of p.board (step g) → OneCall p a
  left : accepted a.refusal ≡ false → a.rx ≡ replicate 12 (pos 0) → a.playing ≡ p → OneCall p a
