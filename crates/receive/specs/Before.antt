-- A copied step on boards of before a request. `x_on` is `x_if` of specs/Receive.antt. Definitions only.
use Rattle.std.specs.Prelude.{ℕ, List, ℤ, Option, Some, None}
use Rattle.float.specs.Consts.{k0}
use Rattle.stereo.specs.declared.Mix.{Mix}
use Rattle.board.specs.declared.Analog.{Analog}
use Rattle.board.specs.declared.refusals.Refusal.{Refusal}
use Rattle.board.specs.Before.{AnswerOn}
use Rattle.slots.specs.Slots.{copy_of}
use Rattle.receive.specs.declared.Received.{Received}

pub record ReceivedOn (B : Type 0) : Type 0 where
  pub refusal : Option Refusal
  pub mix : Mix
  pub board : B

unfoldable pub received_on : {B : Type 0} → Option Refusal → B → AnswerOn B → ReceivedOn B
received_on None b a = record { refusal = None; mix = a.mix; board = a.board }
received_on (Some o) b a = record { refusal = Some o; mix = record { l = k0; r = k0 }; board = b }

unfoldable pub written_on : {B : Type 0} → Option Refusal → List ℕ → AnswerOn B → List ℤ → List ℤ
written_on None slots a dest = copy_of slots a.rx
written_on (Some o) slots a dest = dest

-- today's, its board told by what boards had then
abbrev pub earlier_received : {B : Type 0} → (Analog → B) → Received → ReceivedOn B
earlier_received e r = record { refusal = r.refusal; mix = r.mix; board = e r.board }
