-- A recording opened, and played step by step. Definitions only.
use Rattle.std.specs.Prelude.{ℕ, ◌+◌, cond, List, length, replicate, ltb, eqb, pos, Some, Result, Ok, Err}
use Rattle.float.specs.Consts.{k0}
use Rattle.board.specs.Board.{fresh_of, answer_of}
use Rattle.board.specs.declared.Analog.{Analog}
use Rattle.board.specs.declared.Answer.{Answer}
use Rattle.board.specs.declared.refusals.Refusal.{Refusal}
use Rattle.board.specs.declared.refusals.Refusal.TheVariants.{BadOpening, WrongLength, NoBody}
use Rattle.recording.specs.declared.Playing.{Playing}
use Rattle.recording.specs.declared.Played.{Played}
use Rattle.recording.specs.Format.{seed_of, ideal_of, steps_of, bodies_of, opening_ok, extent_of, entry_at, named_to, frame_at, fx_at, dac_at, inputs_at}

-- "a fresh board", at the first step
unfoldable pub ready_of : List ℕ → Playing
ready_of r = record { board = fresh_of (seed_of r) (ideal_of r); steps = steps_of r; bodies = bodies_of r; at = 0 }

-- "refused by 6 .. by 7 .. by 8, tested in this order before the first step"
unfoldable pub open_of : List ℕ → Result Playing Refusal
open_of r =
    cond (opening_ok r)
    (cond (eqb (length r) (extent_of (steps_of r) (bodies_of r)))
    (cond (named_to r (bodies_of r) (steps_of r)) (Ok (ready_of r)) (Err NoBody))
    (Err WrongLength))
    (Err BadOpening)

-- "Each step answers as a direct call would": the call that the body at o makes
unfoldable pub body_of : Analog → List ℕ → ℕ → Answer
body_of b r o = answer_of b (frame_at r o) (dac_at r (o + 688) 16) (fx_at r o) (inputs_at r (o + 752))

-- the answer, accepted or refused, and the recording at its next step: "a refused step doesn't end the replay"
unfoldable pub passed_of : Playing → Answer → Played
passed_of p a = record {
  refusal = a.refusal;
  rx = a.rx;
  mix = a.mix;
  playing = record { board = a.board; steps = p.steps; bodies = p.bodies; at = p.at + 1 };
}

-- no step is played
unfoldable pub unplayed_of : Playing → Refusal → Played
unplayed_of p o = record { refusal = Some o; rx = replicate 12 (pos 0); mix = record { l = k0; r = k0 }; playing = p }

-- the next step, for any place and any slice: past the last step there is no body, and another length is a wrong one
unfoldable pub next_of : Playing → List ℕ → Played
next_of p r =
    cond (eqb (length r) (extent_of p.steps p.bodies))
    (cond (ltb p.at p.steps)
    (cond (ltb (entry_at r p.at) p.bodies)
    (passed_of p (body_of p.board r (extent_of p.steps (entry_at r p.at))))
    (unplayed_of p NoBody))
    (unplayed_of p NoBody))
    (unplayed_of p WrongLength)
