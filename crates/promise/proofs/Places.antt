-- What holds of each accepted call of a list holds at any place of it, on the board that the calls before lead to. Assumes nothing.
use mathlib.Core.Path.{sym, subst}
use mathlib.Core.List.{List, [], ◌∷◌, ◌++◌, append-nil}
use lib.Dec.{T}
use Rattle.board.specs.declared.Analog.{Analog}
use Rattle.promise.specs.Calls.{Given, Call, given_of, taken, next_of, reached_of}
use Rattle.promise.specs.Promise.{Place, EachAccepted}

module _ (P : Analog → Given → Type 0) where
  pub each_at : (b : Analog) (before : List Call) (k : Call) (rest : List Call) → EachAccepted P b (before ++ (k ∷ rest)) → T (taken k) → P (reached_of b before) (given_of k)
  unfolding reached_of
  each_at b [] k rest h = h.0
  each_at b (j ∷ js) k rest h = each_at (next_of b j) js k rest h.1

  -- of the list as a place of it has it, and of all of it
  pub each_split : (b : Analog) (calls : List Call) (p : Place calls) → EachAccepted P b calls → EachAccepted P b (p.before ++ (p.call ∷ p.rest))
  each_split b calls p h = subst (λ (l : List Call). EachAccepted P b l) (sym p.whole) h

  pub each_whole : (b : Analog) (calls : List Call) → EachAccepted P b calls → EachAccepted P b (calls ++ [])
  each_whole b calls h = subst (λ (l : List Call). EachAccepted P b l) (sym (append-nil calls)) h
