-- `recording::named` meets its contract: it stops at the first entry that names no body. Assumes nothing.
use Prim.Native.Nat.{ℕ, zero, suc, ◌≤◌, ◌<◌}
use native.Mathlib.Omega.{arith}
use native.Mathlib.Nat.{zero-add}
use native.Mathlib.Decide.{dec_lt}
use mathlib.Core.Path.{◌≡◌, refl}
use mathlib.Core.Bool.{Bool, true, false, ◌&&◌}
use mathlib.Core.List.{List}
use lib.ListN.{length}
use lib.Dec.{ltb}
use borrow.Author.Rules.{rules}
use borrow.Author.Tests.{tests, lt-ltb, le-ltb}
use Rattle.std.specs.Bool.{MatchBool}
use Rattle.std.specs.List.{AllWithin, HoldsAt, range_with_len}
use Rattle.std.proofs.lemmas.Iterator.{cases_from_all, YieldsList-from_range}
use Rattle.std.proofs.lemmas.List.FromFn.{length-range_with_len, get_or-range_with_len}
use Rattle.recording.specs.Format.{entry_at, named_to}
use Rattle.recording.proofs.named.Goals as goal

all_named : (r : List ℕ) (bodies n : ℕ) → ((k : ℕ) → k < n → entry_at r k < bodies) → true ≡ named_to r bodies n
unfolding named_to
all_named r bodies zero h = refl
all_named r bodies (suc n) h = rw (← all_named r bodies n (λ k l. h k (omega arith)), lt-ltb (entry_at r n) bodies (h n (omega arith))) refl

one_unnamed : (r : List ℕ) (bodies n k : ℕ) → k < n → bodies ≤ entry_at r k → false ≡ named_to r bodies n
unfolding named_to
one_unnamed r bodies zero k l h = absurd (omega arith)
one_unnamed r bodies (suc n) k l h = by (dec_lt k n) (named_to r bodies n) (λ b. one_unnamed r bodies n k b h)
  where
    by : Dec (k < n) → (a : Bool) → (k < n → false ≡ a) → false ≡ (a && ltb (entry_at r n) bodies)
    by (yes b) a e = rw (← e b) refl
    by (no b) true e = let i : k ≡ n = omega arith in rw (le-ltb (entry_at r n) bodies (rw i at h)) refl
    by (no b) false e = refl

answers : (r : List ℕ) (bodies n : ℕ) (b : Bool) → MatchBool b (AllWithin (λ i. entry_at r i < bodies) (range_with_len 0 n) 0 (length (range_with_len 0 n))) ((k : ℕ) × (k < length (range_with_len 0 n)) × HoldsAt (λ i. bodies ≤ entry_at r i) (range_with_len 0 n) k) → b ≡ named_to r bodies n
answers r bodies n true h = all_named r bodies n (λ k l. rw (get_or-range_with_len 0 n k 0 l, zero-add k) at (h k 0 (omega arith) (rw (length-range_with_len 0 n) l)))
answers r bodies n false (k, l, h) =
    let m = rw (length-range_with_len 0 n) at l in
    one_unnamed r bodies n k m (rw (get_or-range_with_len 0 n k 0 m, zero-add k) at (h 0))

pub returns : goal.returns
returns c =
    answers c.args.rec.now c.args.bodies c.args.steps c.all.result
    (cases_from_all _ _ _ (λ i. entry_at c.args.rec.now i < c.args.bodies) (λ i. c.args.bodies ≤ entry_at c.args.rec.now i) c.all.ensures.ran (YieldsList-from_range 0 c.args.steps c.args.steps refl (omega arith)) (λ i f k. search (rules, tests)) (λ i f k. search (rules, tests)))
