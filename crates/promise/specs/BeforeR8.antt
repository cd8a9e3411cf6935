-- What R-8 says of lists of calls: "On every board that calls reach from a fresh one the stored coefficients equal those freshly worked out from the stored pair, and no answer
-- changes". Definitions only.
use Rattle.std.specs.Prelude.{ℕ, ◌≡◌, ◌<◌, Bool, List, get_or}
use Rattle.chain.specs.Chain.{no_chain, coefs_of}
use Rattle.chain.specs.BeforeR8.{earlier_chain, before}
use Rattle.board.specs.Board.{fresh_of}
use Rattle.board.specs.Before.{fresh_on, stepped_on, earlier_board}
use Rattle.promise.specs.Calls.{Call, reached_of}
use Rattle.promise.specs.Before.{Unchanged}

-- every list, with no condition
pub record StoringChangesNothing (seed : ℕ) (ideal : Bool) : Type 0 where
  pub fresh : (calls : List Call) (v : ℕ) → v < 8 → let q = (get_or (reached_of (fresh_of seed ideal) calls).chains v no_chain).coefs in q ≡ coefs_of q.fc q.res
  pub answers : (calls : List Call) → Unchanged (earlier_board earlier_chain) (stepped_on before) (fresh_of seed ideal) (fresh_on before seed ideal) calls
