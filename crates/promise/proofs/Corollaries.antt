-- What people ask of a board in use, as consequences of its promise. Assumes nothing.
use Prim.Native.Nat.{ℕ, ◌≤◌}
use native.Mathlib.Omega.{arith}
use mathlib.Core.Path.{◌≡◌}
use mathlib.Core.List.{List}
use Rattle.board.specs.declared.Analog.{Analog}
use Rattle.promise.specs.Calls.{Call, reached_of}
use Rattle.promise.specs.Levels.{Which, level_at}
use Rattle.promise.specs.Promise.{EachAccepted, Carries, NotStopped, accepted_in, target_of, Stretch, Promised}

-- a level whose record stops changing, and that is neither held nor parked, stands on its target within 2.74 seconds: 131,520 accepted steps at 48 kHz
pub settled : (b : Analog) → Promised b → (calls : List Call) (p : Stretch calls) (w : Which) (bytes : List ℕ) → let s = reached_of b p.before in
    EachAccepted (Carries w bytes) s p.run → EachAccepted (NotStopped w) s p.run → 131520 ≤ accepted_in p.run → level_at (reached_of s p.run) w ≡ target_of bytes
settled b k calls p w bytes c l n = (k.beyond calls).settles p w bytes c l (omega arith)
