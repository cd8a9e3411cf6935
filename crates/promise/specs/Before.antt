-- Lists of calls by the step of before a request, on the boards of then, and that they answered the same. Definitions only.
use Rattle.std.specs.Prelude.{◌≡◌, cond, List, [], ◌∷◌, length}
use Rattle.board.specs.declared.Analog.{Analog}
use Rattle.board.specs.Before.{StepOn, answer_on, earlier_answer}
use Rattle.receive.specs.Receive.{receive_refusal_of, received_of, destination_of}
use Rattle.receive.specs.Before.{received_on, written_on, earlier_received}
use Rattle.promise.specs.Calls.{answer, Call, step, receive, given_of, taken, reached_of}
use Rattle.promise.specs.Promise.{Place}

-- `next_of` and `reached_of` of specs/Calls.antt by that step. Whether a call is taken looks at no board, then as now
unfoldable pub next_on : {B : Type 0} → StepOn B → B → Call → B
next_on s b k = let g = given_of k in cond (taken k) (s b g.frame g.dac g.fx g.inputs).board b

unfoldable pub reached_on : {B : Type 0} → StepOn B → B → List Call → B
reached_on s b [] = b
reached_on s b (k ∷ ks) = reached_on s (next_on s b k) ks

-- a call's whole answer is that of then: its outcome, words, mix and board, and of a copy what it leaves in the destination. e tells a board by what boards had then
abbrev pub AnswersAsThen : {B : Type 0} → (Analog → B) → StepOn B → Analog → B → Call → Type 0
AnswersAsThen e s b y (step g) = earlier_answer e (answer b g) ≡ answer_on s y g.frame g.dac g.fx g.inputs
AnswersAsThen e s b y (receive g slots dest) =
    let o = receive_refusal_of g.frame g.dac g.fx g.inputs slots (length dest) in
    let a = answer_on s y g.frame g.dac g.fx g.inputs in
    (earlier_received e (received_of b g.frame g.dac g.fx g.inputs slots dest) ≡ received_on o y a) × (destination_of b g.frame g.dac g.fx g.inputs slots dest ≡ written_on o slots a dest)

-- from board b, which was y then, each call of a list answers what it answered then, and the list leads to the board of then
pub record Unchanged {B : Type 0} (e : Analog → B) (s : StepOn B) (b : Analog) (y : B) (calls : List Call) : Type 0 where
  pub answers : (p : Place calls) → AnswersAsThen e s (reached_of b p.before) (reached_on s y p.before) p.call
  pub board : e (reached_of b calls) ≡ reached_on s y calls
