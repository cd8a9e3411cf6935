-- One law for every call: it makes the step with what it was given, or leaves the board; and each exported call's answer is that of its call. Assumes nothing.
use mathlib.Core.Path.{◌≡◌, refl, sym, ap, subst}
use mathlib.Core.Bool.{Bool, true, false, cond}
use mathlib.Core.List.{List}
use Prim.Native.Nat.{ℕ}
use lib.IntN.{ℤ}
use Rattle.board.specs.declared.Answer.{Answer}
use Rattle.frame.specs.Frame.{Bytes}
use Rattle.board.specs.declared.Analog.{Analog}
use Rattle.board.specs.declared.Inputs.{Inputs}
use Rattle.std.specs.Prelude.{Option, Some, None}
use Rattle.board.specs.declared.refusals.Refusal.{Refusal}
use Rattle.board.specs.Board.{number_of, refusal_of, stepped_of, refused_of, answered_if, answer_of}
use Rattle.board.proofs.Numbers.{not_accepted}
use Rattle.receive.specs.declared.Received.{Received}
use Rattle.receive.specs.Receive as Receive
use Rattle.receive.specs.Receive.{received_if, written_if, received_of, destination_of, Receives}
use Rattle.receive.proofs.Told.{step_taken}
use borrow.Author.Tests.{eqb-true}
use Rattle.promise.specs.Calls.{Given, answer, Call, step, receive, given_of, outcome_of, taken, written_of, next_of, AnswerOf, StepAnswer, ReceiveAnswer}

-- the board that an accepted call steps to
abbrev pub stepped_by : Analog → Given → Analog
stepped_by b g = (stepped_of b g.frame g.dac g.fx g.inputs).board

pub data Way (b : Analog) (k : Call) : Type 0 where
  took : taken k ≡ true → next_of b k ≡ stepped_by b (given_of k) → Way b k
  left : taken k ≡ false → next_of b k ≡ b → Way b k

pub way : (b : Analog) (k : Call) → Way b k
unfolding next_of
way b k = by (taken k) refl
  where
    by : (t : Bool) → taken k ≡ t → Way b k
    by true e = took e (ap (λ (c : Bool). cond c (stepped_by b (given_of k)) b) e)
    by false e = left e (ap (λ (c : Bool). cond c (stepped_by b (given_of k)) b) e)

-- a step's answer is that of its call
pub step_answer : (b : Analog) (g : Given) → AnswerOf b (step g) (answer b g).refusal (answer b g).rx (answer b g).board
unfolding answer_of answered_if refused_of stepped_of next_of
step_answer b g = by (taken (step g)) refl
  where
    o : Option Refusal
    o = refusal_of g.frame g.dac g.fx g.inputs

    by : (t : Bool) → t ≡ taken (step g) → AnswerOf b (step g) (answered_if t o b g.frame g.dac g.fx g.inputs).refusal (answer b g).rx (answered_if t o b g.frame g.dac g.fx g.inputs).board
    by true e = record { number = sym (eqb-true _ _ (sym e)); words = refl; board = rw (← e) }
    by false e = record { number = refl; words = refl; board = rw (← e) }

pub step_answers : (b : Analog) (f : List ℕ) (dac : List ℤ) (fx : List ℕ) (x : Inputs) (a : Answer) → Bytes f → a ≡ answer_of b f dac fx x → StepAnswer b f dac fx x a
step_answers b f dac fx x a B e =
    subst (λ (r : Answer). StepAnswer b f dac fx x r) (sym e)
    (record { bytes = B; call = step_answer b (record { frame = f; bytes = B; dac = dac; fx = fx; inputs = x }) })

-- and so is that of a step whose words are copied
receive_answer : (b : Analog) (g : Given) (slots : List ℕ) (dest : List ℤ) → let o = outcome_of (receive g slots dest) in let r = received_if o b (answer b g) in
    AnswerOf b (receive g slots dest) r.refusal (written_of r.refusal (written_if o slots (answer b g) dest)) r.board
unfolding received_if Receive.refused_of written_if written_of next_of
receive_answer b g slots dest = by (outcome_of k) refl
  where
    k : Call
    k = receive g slots dest

    a : Answer
    a = answer b g

    by : (o : Option Refusal) → o ≡ outcome_of k → AnswerOf b k (received_if o b a).refusal (written_of (received_if o b a).refusal (written_if o slots a dest)) (received_if o b a).board
    by None e = record {
      number = ap number_of e;
      words = rw (← e) refl;
      board = rw (← e) (ap (λ (y : Answer). y.board) (step_taken b g.frame g.dac g.fx g.inputs slots dest e));
    }
    by (Some o) e = record { number = ap number_of e; words = rw (← e) refl; board = rw (← e, not_accepted o) refl }

pub receive_answers : (b : Analog) (f : List ℕ) (dac : List ℤ) (fx : List ℕ) (x : Inputs) (slots : List ℕ) (dest : List ℤ) (r : Received) (after : List ℤ) → Bytes f → Receives b f dac fx x slots dest r after → ReceiveAnswer b f dac fx x slots dest r after
unfolding received_of destination_of
receive_answers b f dac fx x slots dest r after B h =
    rw (h.is, h.written) (record { bytes = B; call = receive_answer b (record { frame = f; bytes = B; dac = dac; fx = fx; inputs = x }) slots dest })
