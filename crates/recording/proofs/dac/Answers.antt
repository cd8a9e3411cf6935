-- `recording::dac` meets its contract: each word is the recording's. Assumes nothing.
use Prim.Native.Nat.{ℕ, zero, suc, ◌+◌, ◌*◌, ◌≤◌, ◌<◌}
use native.Mathlib.Numerals.{add-one}
use native.Mathlib.Omega.{arith}
use native.Mathlib.Decide.{dec_lt}
use mathlib.Core.Path.{◌≡◌, refl, sym, ◌∙◌, subst}
use mathlib.Core.List.{List, map}
use lib.ListN.{get_or}
use lib.IntN.{pos}
use denote.Param.Members.{Mut}
use borrow.Author.Rules.{rules}
use Rattle.std.specs.Fn.{Called}
use Rattle.std.specs.Array.{IsFromFnResultFrom}
use Rattle.std.specs.List.{range_with_len}
use Rattle.std.proofs.lemmas.List.FromFn.{fill_by_all, map-range_with_len_more}
use Rattle.recording.specs.Format.{number_at, word_of, dac_at}
use Rattle.recording.proofs.dac.Goals as goal

-- where each call leaves the callee as it was and answers h of its index, the list has h of each index
module _ {F B : Type 0} (g : Mut F (ℕ × Unit {0}) B) (h : ℕ → B) (f : F) (same : (i : ℕ) (y : B) (q : F) → Called g f (i, tt) y q → (q ≡ f) × (y ≡ h i)) (ys : List B) where
  each_is : (n i : ℕ) → IsFromFnResultFrom g f ys i n → (k : ℕ) (d : B) → i ≤ k → k < i + n → get_or ys k d ≡ h k
  each_is zero i t k d low high = absurd (omega arith)
  each_is (suc n) i (q, y, at, call, rest) k d low high = by (dec_lt i k) (same i y q call) (λ e l. each_is n (i + 1) (subst (λ (p : F). IsFromFnResultFrom g p ys (i + 1) n) e rest) k d (omega arith) (omega arith))
    where
      by : Dec (i < k) → (q ≡ f) × (y ≡ h i) → (q ≡ f → i < k → get_or ys k d ≡ h k) → get_or ys k d ≡ h k
      by (yes l) (e, v) later = later e l
      by (no l) (e, v) later = let s : k ≡ i = omega arith in rw s (at.1 d ∙ v)

dac_is : (r : List ℕ) (o n : ℕ) → dac_at r o n ≡ map (λ i. word_of (number_at r (o + 4 * i))) (range_with_len 0 n)
unfolding dac_at
dac_is r o zero = refl
dac_is r o (suc n) = rw (dac_is r o n) (sym (rw add-one at (map-range_with_len_more (λ i. word_of (number_at r (o + 4 * i))) 0 n n (omega arith))))

pub returns : goal.returns
returns c =
    let f = λ (i : ℕ). word_of (number_at c.args.rec.now (c.args.o + 4 * i)) in
    let items = c.from_fn.ensures.items in
    fill_by_all f c.from_fn.result 16 (pos 0) items.long (λ k l. each_is _ f _ (λ i y q t. search rules) c.from_fn.result 16 0 items.each k (pos 0) (omega arith) (omega arith))
    ∙ sym (dac_is c.args.rec.now c.args.o 16)
