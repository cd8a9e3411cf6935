-- Lists of numbers: what is counted is found, and a list of n numbers that has each below n has them in some order, each once: taking out one number after the other leaves those below it.
-- Assumes nothing.
use Prim.Native.Nat.{ℕ, zero, suc, ◌+◌, ◌≤◌, ◌<◌}
use native.Mathlib.Omega.{arith}
use native.Mathlib.Nat.{zero-add}
use native.Mathlib.Numerals.{add-one}
use mathlib.Core.Path.{◌≡◌, refl, sym, ap, subst, ◌∙◌}
use mathlib.Core.Bool.{Bool, true, false, cond, not, ◌||◌, true≢false}
use mathlib.Core.List.{List, [], ◌∷◌, ◌++◌, map-id}
use lib.ListN.{length, get_or, take}
use lib.Dec.{eqb}
use borrow.Author.Tests.{ne_eqb, eqb-true}
use Rattle.std.specs.Prelude.{IsPermutation, count_by}
use Rattle.std.specs.List.{list_any, position_or_len, before_first, after_first, range_with_len}
use Rattle.std.proofs.lemmas.List.{take-take}
use Rattle.std.proofs.lemmas.List.Sums.{sum_by-cons, sum_by-take-le, count_by_more_yes, split_at_first, passes_at_first}
use Rattle.std.proofs.lemmas.List.Sorted.{IsPermutation-refl, IsPermutation-trans, IsPermutation-cons, IsPermutation-to_front, IsPermutation-append_comm, length_permutation, list_any-IsPermutation}
use Rattle.std.proofs.lemmas.List.FromFn.{map-range_with_len_more}

-- ---- counted
-- what is counted is found
pub counted : (p : ℕ → Bool) (t : List ℕ) → 1 ≤ count_by p t → list_any p t ≡ true
counted p [] h = absurd (omega arith)
counted p (s ∷ t) h = by (p s) (rw (sum_by-cons (λ (x : ℕ). cond (p x) 1 0) s t) at h) (counted p t)
  where
    by : (b : Bool) → 1 ≤ cond b 1 0 + count_by p t → (1 ≤ count_by p t → list_any p t ≡ true) → (b || list_any p t) ≡ true
    by true k r = refl
    by false k r = r (omega arith)

-- two places of a list are counted twice
pub counted_twice : (p : ℕ → Bool) (t : List ℕ) (k i : ℕ) → k < i → i < length t → p (get_or t k 0) ≡ true → p (get_or t i 0) ≡ true → 2 ≤ count_by p t
counted_twice p t k i h l a b =
    let f : ℕ → ℕ = λ (x : ℕ). cond (p x) 1 0 in
    omega (
      arith,
      sum_by-take-le f t (i + 1),
      count_by_more_yes p t i 0 l b,
      rw (take-take (k + 1) i t (omega arith)) at (sum_by-take-le f (take i t) (k + 1)),
      count_by_more_yes p t k 0 (omega arith) a,
    )

-- ---- taken out
-- the test for v
abbrev pub names : ℕ → ℕ → Bool
names v s = eqb s v

-- what is found has its place
pub found : (p : ℕ → Bool) (t : List ℕ) → list_any p t ≡ true → position_or_len p t < length t
found p [] h = absurd (true≢false (sym h))
found p (s ∷ t) h = by (p s) h (found p t)
  where
    by : (b : Bool) → (b || list_any p t) ≡ true → (list_any p t ≡ true → position_or_len p t < length t) → cond (not b) (1 + position_or_len p t) 0 < suc (length t)
    by true k r = omega arith
    by false k r = omega (arith, r k)

record TakenOut (v : ℕ) (t : List ℕ) : Type 0 where
  rest : List ℕ
  moved : IsPermutation (v ∷ rest) t

taken_out : (v : ℕ) (t : List ℕ) → list_any (names v) t ≡ true → TakenOut v t
taken_out v t h =
    let l = found (names v) t h in
    let b = before_first (names v) t in
    let a = after_first (names v) t in
    let e : t ≡ b ++ (v ∷ a) = split_at_first (names v) t 0 l ∙ ap (λ (s : ℕ). b ++ (s ∷ a)) (eqb-true _ v (passes_at_first (names v) t 0 l)) in
    record { rest = a ++ b; moved = subst (λ (u : List ℕ). IsPermutation (v ∷ (a ++ b)) u) (sym e) (IsPermutation-append_comm (v ∷ a) b) }

range_more : (n : ℕ) → range_with_len 0 (suc n) ≡ range_with_len 0 n ++ (n ∷ [])
range_more n =
    sym (map-id (range_with_len 0 (suc n)))
    ∙ rw add-one at (map-range_with_len_more (λ (i : ℕ). i) 0 n n (zero-add n))
    ∙ ap (λ (l : List ℕ). l ++ (n ∷ [])) (map-id (range_with_len 0 n))

-- a list of n numbers that has each below n has them in some order, each once
pub all_below : (n : ℕ) (t : List ℕ) → length t ≡ n → ((v : ℕ) → v < n → list_any (names v) t ≡ true) → IsPermutation (range_with_len 0 n) t
all_below zero [] e h = IsPermutation-refl []
all_below zero (s ∷ t) e h = absurd (omega arith)
all_below (suc n) t e h =
    let o = taken_out n t (h n (omega arith)) in
    let r = all_below n o.rest (omega (arith, length_permutation _ _ o.moved))
    (λ v l. sym (ap (λ (b : Bool). b || list_any (names v) o.rest) (ne_eqb n v (λ q. omega arith))) ∙ list_any-IsPermutation (names v) _ _ o.moved ∙ h v (omega arith)) in
    subst (λ (u : List ℕ). IsPermutation u t) (sym (range_more n))
    (IsPermutation-trans _ _ _ (IsPermutation-to_front (range_with_len 0 n) n) (IsPermutation-trans _ _ _ (IsPermutation-cons n _ _ r) o.moved))
