-- The text that a replay prints. Definitions only.
use Rattle.std.specs.Prelude.{ℕ, zero, suc, Bool, cond, List, [], ◌∷◌, ◌++◌, length, take, ltb, ℤ, Some, Result, Ok, Err}
use Rattle.text.specs.Text.{decimal_of, words_of}
use Rattle.board.specs.Board.{number_of}
use Rattle.board.specs.declared.refusals.Refusal.{Refusal}
use Rattle.board.specs.declared.refusals.Refusal.TheVariants.{BadOpening, WrongLength}
use Rattle.recording.specs.declared.Playing.{Playing}
use Rattle.recording.specs.declared.Played.{Played}
use Rattle.recording.specs.Format.{opening_ok}
use Rattle.recording.specs.Play.{open_of, next_of}

-- "step number from 0, answer number (0 for done) and the twelve receive words, all decimal, one blank between"
unfoldable pub step_line : ℕ → ℕ → List ℤ → List ℕ
step_line i number rx = decimal_of i ++ ((32 ∷ []) ++ (decimal_of number ++ (words_of rx ++ (10 ∷ []))))

-- the line of step i
unfoldable pub line_of : ℕ → Played → List ℕ
line_of i a = step_line i (number_of a.refusal) a.rx

-- "one line a step": the lines of the next n steps
unfoldable pub lines_of : ℕ → Playing → List ℕ → List ℕ
lines_of zero p r = []
lines_of (suc n) p r = line_of p.at (next_of p r) ++ lines_of n (next_of p r).playing r

-- "A refused recording prints its refusal number alone"
unfoldable pub refusal_line : ℕ → List ℕ
refusal_line number = decimal_of number ++ (10 ∷ [])

-- "A longer input counts as one of wrong length"; a bad opening comes first
unfoldable pub long_of : List ℕ → Refusal
long_of r = cond (opening_ok r) WrongLength BadOpening

-- the recording, or why it is refused; of a longer input than the buffer, r is what the buffer holds
unfoldable pub opened_of : Bool → List ℕ → Result Playing Refusal
opened_of longer r = cond longer (Err (long_of r)) (open_of r)

-- the lines of all steps, or that of the refusal
abbrev pub opened_text : List ℕ → Result Playing Refusal → List ℕ
opened_text r (Ok p) = lines_of p.steps p r
opened_text r (Err e) = refusal_line (number_of (Some e))

-- all that is printed for an input; of a longer one than the buffer, r is what the buffer holds
unfoldable pub text_of : Bool → List ℕ → List ℕ
text_of longer r = opened_text r (opened_of longer r)

-- all that is printed for an input of any length: the buffer holds 65,536 bytes of it
unfoldable pub printed_of : List ℕ → List ℕ
printed_of input = text_of (ltb 65536 (length input)) (take 65536 input)
