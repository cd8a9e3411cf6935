-- A good opening has its 20 bytes. Assumes nothing.
use Prim.Native.Nat.{ℕ, ◌≤◌, ◌<◌}
use native.Mathlib.Omega.{arith}
use native.Mathlib.Decide.{dec_lt}
use mathlib.Core.Path.{◌≡◌, sym, ◌∙◌}
use mathlib.Core.Bool.{true, false, true≢false}
use mathlib.Core.List.{List}
use lib.ListN.{length}
use borrow.Author.Tests.{lt-ltb}
use Rattle.recording.specs.Format.{opening_ok}

pub opening_long : (r : List ℕ) → opening_ok r ≡ true → 20 ≤ length r
unfolding opening_ok
opening_long r h = by (dec_lt (length r) 20)
  where
    short : length r < 20 → opening_ok r ≡ false
    short l = rw (lt-ltb (length r) 20 l)

    by : Dec (length r < 20) → 20 ≤ length r
    by (yes l) = absurd (true≢false (sym h ∙ short l))
    by (no l) = omega arith
