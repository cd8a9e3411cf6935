-- What is answered and written as the definitions have it is copied as they say, and a refusal leaves destination and board. Assumes nothing.
use Prim.Native.Nat.{ℕ}
use mathlib.Core.Path.{◌≡◌, refl, sym, ap, subst, ◌∙◌}
use mathlib.Core.Bool.{Bool, true, false, cond}
use mathlib.Core.List.{List}
use lib.ListN.{length}
use lib.Dec.{T}
use lib.IntN.{ℤ}
use Rattle.std.specs.Prelude.{Option, Some, None}
use Rattle.board.specs.Board.{accepted, refusal_of, stepped_of, answered_if, answer_of}
use Rattle.board.specs.declared.Analog.{Analog}
use Rattle.board.specs.declared.Answer.{Answer}
use Rattle.board.specs.declared.Inputs.{Inputs}
use Rattle.board.specs.declared.refusals.Refusal.{Refusal}
use Rattle.slots.specs.Slots.{copy_of}
use Rattle.slots.specs.Copied.{Copied}
use Rattle.receive.specs.declared.Received.{Received}
use Rattle.receive.specs.Receive.{receive_refusal_of, refused_of, received_if, written_if, received_of, destination_of, Receives}

-- the step's own refusals come first
pub step_accepted : (f : List ℕ) (dac : List ℤ) (fx : List ℕ) (x : Inputs) (slots : List ℕ) (dest : List ℤ) → T (accepted (receive_refusal_of f dac fx x slots (length dest))) → T (accepted (refusal_of f dac fx x))
unfolding receive_refusal_of
step_accepted f dac fx x slots dest t = by (accepted (refusal_of f dac fx x)) _ refl t
  where
    by : (a : Bool) (later : Option Refusal) → accepted (refusal_of f dac fx x) ≡ a → T (accepted (cond a later (refusal_of f dac fx x))) → T (accepted (refusal_of f dac fx x))
    by true later e t = subst T (sym e) tt
    by false later e t = t

module _ (b : Analog) (f : List ℕ) (dac : List ℤ) (fx : List ℕ) (x : Inputs) (slots : List ℕ) (dest : List ℤ) where
  abbrev told : Option Refusal
  told = receive_refusal_of f dac fx x slots (length dest)

  -- one that is not refused is a step that is not refused
  pub step_taken : None ≡ told → answer_of b f dac fx x ≡ stepped_of b f dac fx x
  unfolding answer_of answered_if
  step_taken e = by (accepted (refusal_of f dac fx x)) (step_accepted f dac fx x slots dest (subst (λ (o : Option Refusal). T (accepted o)) e tt))
    where
      by : (t : Bool) → T t → answered_if t (refusal_of f dac fx x) b f dac fx x ≡ stepped_of b f dac fx x
      by true t = refl
      by false t = absurd t

  -- the step's answer and its words, copied
  pub accepted_receives : (a : Answer) (after : List ℤ) → None ≡ told → a ≡ stepped_of b f dac fx x → after ≡ copy_of slots a.rx → Copied slots a.rx after → Receives b f dac fx x slots dest (record { refusal = None; mix = a.mix; board = a.board }) after
  unfolding received_of destination_of received_if written_if
  accepted_receives a after n s w c =
      let e : a ≡ answer_of b f dac fx x = s ∙ sym (step_taken n) in
      record {
        is = rw (← n, e) refl;
        written = rw (← n) (w ∙ ap (λ (y : Answer). copy_of slots y.rx) e);
        copied = subst (λ (y : Answer). Copied slots y.rx after) e c;
        untouched = tt;
      }

  -- a refusal
  pub refused_receives : (o : Refusal) (r : Received) (after : List ℤ) → Some o ≡ told → r ≡ received_if (Some o) b (answer_of b f dac fx x) → after ≡ written_if (Some o) slots (answer_of b f dac fx x) dest → Receives b f dac fx x slots dest r after
  unfolding received_of destination_of received_if written_if refused_of
  refused_receives o r after n e w = record {
    is = rw (← n) e;
    written = rw (← n) w;
    copied = rw e tt;
    untouched = rw e (record { words = w; mix = refl; board = refl });
  }
