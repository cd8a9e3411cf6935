-- Lists of calls beside those of before a request: where a step, as long as something holds of the board, answers what it answered then and keeps that, so does every list.
-- Assumes nothing.
use mathlib.Core.Path.{◌≡◌, refl, sym, ap, ◌∙◌, subst}
use mathlib.Core.Bool.{Bool, true, false, cond}
use mathlib.Core.List.{List, [], ◌∷◌, ◌++◌}
use lib.ListN.{length}
use lib.Dec.{T}
use Rattle.std.specs.Prelude.{Option, Some, None}
use Rattle.board.specs.declared.Analog.{Analog}
use Rattle.board.specs.declared.refusals.Refusal.{Refusal}
use Rattle.board.specs.Board.{refusal_of, accepted, stepped_of, refused_of, answered_if, answer_of}
use Rattle.board.specs.Before.{AnswerOn, StepOn, refused_on, answer_on, earlier_answer}
use Rattle.slots.specs.Slots.{copy_of}
use Rattle.receive.specs.Receive.{receive_refusal_of, refused_of as received_refused, received_if, written_if, received_of, destination_of}
use Rattle.receive.specs.Before.{received_on, written_on, earlier_received}
use Rattle.receive.proofs.Told.{step_accepted}
use Rattle.promise.specs.Calls.{Given, answer, Call, step, receive, given_of, taken, next_of, reached_of}
use Rattle.promise.specs.Promise.{EachAccepted}
use Rattle.promise.specs.Before.{next_on, reached_on, AnswersAsThen, Unchanged}
use Rattle.promise.proofs.Places.{each_at, each_split, each_whole}
use Rattle.promise.proofs.Calls.{stepped_by}

-- a step on boards of which I holds, given what P says, answers what it answered then, and keeps I
pub record StepAsThen {B : Type 0} (e : Analog → B) (s : StepOn B) (I : Analog → Type 0) (P : Analog → Given → Type 0) : Type 0 where
  pub same : (b : Analog) (g : Given) → T (accepted (refusal_of g.frame g.dac g.fx g.inputs)) → I b → P b g → s (e b) g.frame g.dac g.fx g.inputs ≡ earlier_answer e (stepped_of b g.frame g.dac g.fx g.inputs)
  pub kept : (b : Analog) (g : Given) → I b → P b g → I (stepped_by b g)

-- what a call steps with is accepted as a step
stepped_too : (k : Call) → T (taken k) → let g = given_of k in T (accepted (refusal_of g.frame g.dac g.fx g.inputs))
stepped_too (step g) t = t
stepped_too (receive g slots dest) t = step_accepted g.frame g.dac g.fx g.inputs slots dest t

module _ {B : Type 0} (e : Analog → B) (s : StepOn B) (I : Analog → Type 0) (P : Analog → Given → Type 0) (h : StepAsThen e s I P) where
  -- ---- one call
  module _ (b : Analog) (k : Call) (i : I b) (p : T (taken k) → P b (given_of k)) where
    next_same : next_on s (e b) k ≡ e (next_of b k)
    unfolding next_of next_on
    next_same = by (taken k) (λ t. h.same b (given_of k) (stepped_too k t) i (p t))
      where
        by : (t : Bool) → (T t → let g = given_of k in s (e b) g.frame g.dac g.fx g.inputs ≡ earlier_answer e (stepped_of b g.frame g.dac g.fx g.inputs))
            → let g = given_of k in cond t (s (e b) g.frame g.dac g.fx g.inputs).board (e b) ≡ e (cond t (stepped_by b g) b)
        by true q = ap (λ (a : AnswerOn B). a.board) (q tt)
        by false q = refl

    next_kept : I (next_of b k)
    unfolding next_of
    next_kept = by (taken k) p
      where
        by : (t : Bool) → (T t → P b (given_of k)) → I (cond t (stepped_by b (given_of k)) b)
        by true p = h.kept b (given_of k) i (p tt)
        by false p = i

  -- what a step answers, accepted or not
  answer_same : (b : Analog) (g : Given) → I b → (T (taken (step g)) → P b g) → answer_on s (e b) g.frame g.dac g.fx g.inputs ≡ earlier_answer e (answer b g)
  unfolding answer_of answered_if refused_of answer_on refused_on
  answer_same b g i p = by (taken (step g)) (λ t. h.same b g t i (p t))
    where
      o : Option Refusal
      o = refusal_of g.frame g.dac g.fx g.inputs

      by : (t : Bool) → (T t → s (e b) g.frame g.dac g.fx g.inputs ≡ earlier_answer e (stepped_of b g.frame g.dac g.fx g.inputs))
          → cond t (s (e b) g.frame g.dac g.fx g.inputs) (refused_on (e b) o) ≡ earlier_answer e (answered_if t o b g.frame g.dac g.fx g.inputs)
      by true q = q tt
      by false q = refl

  call_same : (b : Analog) (k : Call) → I b → (T (taken k) → P b (given_of k)) → AnswersAsThen e s b (e b) k
  unfolding received_of destination_of received_if received_refused written_if received_on written_on
  call_same b (step g) i p = sym (answer_same b g i p)
  call_same b (receive g slots dest) i p = (received told refl, written told refl)
    where
      told : Option Refusal
      told = receive_refusal_of g.frame g.dac g.fx g.inputs slots (length dest)

      -- the step's answer, if the call is not refused
      same : None ≡ told → earlier_answer e (answer b g) ≡ answer_on s (e b) g.frame g.dac g.fx g.inputs
      same n = let q = p (subst (λ (o : Option Refusal). T (accepted o)) n tt) in sym (answer_same b g i (λ t. q))

      received : (o : Option Refusal) → o ≡ told → earlier_received e (received_if o b (answer b g)) ≡ received_on o (e b) (answer_on s (e b) g.frame g.dac g.fx g.inputs)
      received None n = ap (received_on None (e b)) (same n)
      received (Some o) n = refl

      written : (o : Option Refusal) → o ≡ told → written_if o slots (answer b g) dest ≡ written_on o slots (answer_on s (e b) g.frame g.dac g.fx g.inputs) dest
      written None n = ap (λ (a : AnswerOn B). copy_of slots a.rx) (same n)
      written (Some o) n = refl

  -- ---- lists
  -- a board that calls lead to, and the one that they led to then
  record Led (b : Analog) (ks : List Call) : Type 0 where
    holds : I (reached_of b ks)
    board : e (reached_of b ks) ≡ reached_on s (e b) ks

  -- up to any call of the list
  led : (b : Analog) → I b → (before rest : List Call) → EachAccepted P b (before ++ rest) → Led b before
  unfolding reached_of reached_on
  led b i [] rest c = record { holds = i; board = refl }
  led b i (k ∷ ks) rest c =
      let r = led (next_of b k) (next_kept b k i c.0) ks rest c.1 in
      record { holds = r.holds; board = r.board ∙ ap (λ (y : B). reached_on s y ks) (sym (next_same b k i c.0)) }

  module _ (b : Analog) (i : I b) (calls : List Call) (c : EachAccepted P b calls) where
    pub unchanged : Unchanged e s b (e b) calls
    unchanged = record {
      answers = λ p.
          let a = each_split P b calls p c in
          let r = led b i p.before (p.call ∷ p.rest) a in
          subst (λ (y : B). AnswersAsThen e s (reached_of b p.before) y p.call) r.board (call_same (reached_of b p.before) p.call r.holds (each_at P b p.before p.call p.rest a));
      board = (led b i calls [] (each_whole P b calls c)).board;
    }

    pub reached_holds : I (reached_of b calls)
    reached_holds = (led b i calls [] (each_whole P b calls c)).holds
