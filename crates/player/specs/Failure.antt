-- What was read before a failure, and what is said of one. Definitions only.
use Rattle.std.specs.Prelude.{ℕ, List, codes}
use Rattle.std.specs.declared.result.Result.{Result}
use Rattle.std.specs.declared.result.Result.TheVariants.{Ok, Err}
use Rattle.player.specs.declared.Unread.{Unread}
use Rattle.player.specs.declared.Failure.{Failure}
use Rattle.player.specs.declared.Failure.TheVariants.{Unread as NotRead, Unwritten}

-- how many bytes came, in all or before the read that failed
abbrev pub read_of : Result ℕ Unread → ℕ
read_of (Ok n) = n
read_of (Err e) = e.length

-- the message
unfoldable pub message_of : Failure → List ℕ
message_of NotRead = codes "the input cannot be read"
message_of Unwritten = codes "the output cannot be written; what was written is not whole"
