-- What a question from C is to the board. Definitions only.
use Rattle.std.specs.Prelude.{ℕ, ◌≡◌, Bool, true, false, List, ℤ, Float, Some, Result, Ok, Err}
use Rattle.float.specs.Consts.{k0}
use Rattle.stereo.specs.declared.Side.{Side}
use Rattle.stereo.specs.declared.Side.TheVariants.{Left, Right}
use Rattle.board.specs.Board as Board
use Rattle.board.specs.declared.Analog.{Analog}
use Rattle.board.specs.declared.Inputs.{Inputs}
use Rattle.board.specs.declared.refusals.Refusal.{Refusal}
use Rattle.why.specs.declared.Reason.{Reason}
use Rattle.why.specs.Why.{number_of, value_of, why_of}
use Rattle.why.specs.Told.{Told}
use Rattle.why_c.specs.declared.Why.{Why}

-- false says left, true right: "only left or right can be said"
abbrev pub side_said : Bool → Side
side_said false = Left
side_said true = Right

-- a reason by its number with its value, or "a refusal gives its number alone"
abbrev pub numbered_why : Result Reason Refusal → Why
numbered_why (Ok r) = record { number = 0; reason = number_of r; value = value_of r }
numbered_why (Err o) = record { number = Board.number_of (Some o); reason = 0; value = k0 }

-- the answer to a question, numbered, and what it promises
pub record WhyAnswer (b : Analog) (f : List ℕ) (dac : List ℤ) (fx : List ℕ) (x : Inputs) (v : ℕ) (s : Side) (r : Why) : Type 0 where
  pub is : r ≡ numbered_why (why_of b f dac fx x v s)
  pub told : Told b f dac fx x v s (why_of b f dac fx x v s)
