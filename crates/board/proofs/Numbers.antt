-- Every refusal has a number, and none of them is 0. Assumes nothing.
use mathlib.Core.Path.{◌≡◌, refl}
use mathlib.Core.Bool.{false}
use Rattle.std.specs.Prelude.{Some}
use Rattle.board.specs.Board.{accepted}
use Rattle.board.specs.declared.refusals.Refusal.{Refusal}
use Rattle.board.specs.declared.refusals.Refusal.TheVariants.{ShortFrame, ShortParameters, DacCount, DacRange, InputRange, BadOpening, WrongLength, NoBody, SlotTable, DestinationCount, VoiceNumber}

pub not_accepted : (r : Refusal) → accepted (Some r) ≡ false
not_accepted ShortFrame = refl
not_accepted ShortParameters = refl
not_accepted DacCount = refl
not_accepted DacRange = refl
not_accepted InputRange = refl
not_accepted BadOpening = refl
not_accepted WrongLength = refl
not_accepted NoBody = refl
not_accepted SlotTable = refl
not_accepted DestinationCount = refl
not_accepted VoiceNumber = refl
