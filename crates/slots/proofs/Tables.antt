-- A right table names the voices in some order, each once: so its opposite undoes it, and is a right table too. Eight slots that name each voice are one. Assumes nothing.
use Prim.Native.Nat.{ℕ, ◌<◌}
use native.Mathlib.Omega.{arith}
use native.Mathlib.Nat.{zero-add}
use mathlib.Core.Path.{◌≡◌, refl, sym, ap, subst, ◌∙◌}
use mathlib.Core.Bool.{Bool, true, false, ◌&&◌, true≢false}
use mathlib.Core.List.{List}
use lib.ListN.{length, get_or}
use lib.Dec.{eqb}
use borrow.Author.Tests.{eq-eqb, eqb-true}
use Rattle.std.specs.Prelude.{IsPermutation, count_by}
use Rattle.std.specs.List.{list_any, list_all, position_or_len}
use Rattle.std.proofs.lemmas.List.Folds.{list_any_at}
use Rattle.std.proofs.lemmas.List.Sums.{passes_at_first, position_or_len_is, AllPass-from_list_all, list_all-from_AllPass}
use Rattle.std.proofs.lemmas.List.Sorted.{All-permutation, sum_by-IsPermutation}
use Rattle.std.proofs.lemmas.List.FromFn.{length-range_with_len, get_or-range_with_len, length-map-range_with_len, get_or-map-range_with_len}
use Rattle.slots.specs.Slots.{voices, right_table, opposite_of}
use Rattle.slots.specs.Copied.{RightTable}
use Rattle.slots.proofs.Below.{names, found, counted, counted_twice, all_below}

-- ---- each voice
each_voice : (p : ℕ → Bool) → ((v : ℕ) → v < 8 → p v ≡ true) → list_all p voices ≡ true
each_voice p h = list_all-from_AllPass p voices (λ k d l. let i : k < 8 = omega (arith, length-range_with_len 0 8) in rw (get_or-range_with_len 0 8 k d i, zero-add k) (h k i))

voice_each : (p : ℕ → Bool) → list_all p voices ≡ true → (v : ℕ) → v < 8 → p v ≡ true
voice_each p h v l =
    subst (λ (i : ℕ). p i ≡ true) (get_or-range_with_len 0 8 v 0 l ∙ zero-add v)
    (AllPass-from_list_all p voices h v 0 (omega (arith, length-range_with_len 0 8)))

both : (a b : Bool) → (a && b) ≡ true → (a ≡ true) × (b ≡ true)
both true b h = (refl, h)
both false b h = absurd (true≢false (sym h))

-- ---- each voice is named once
module _ (t : List ℕ) (h : right_table t ≡ true) where
  pub right_length : length t ≡ 8
  unfolding right_table
  right_length = eqb-true (length t) 8 (both (eqb (length t) 8) _ h).0

  right_once : (v : ℕ) → v < 8 → count_by (names v) t ≡ 1
  unfolding right_table
  right_once v l = eqb-true _ 1 (voice_each (λ i. eqb (count_by (names i) t) 1) (both (eqb (length t) 8) _ h).1 v l)

  right_named : (v : ℕ) → v < 8 → list_any (names v) t ≡ true
  right_named v l = counted (names v) t (omega (arith, right_once v l))

-- ---- a table that names each of eight voices
module _ (t : List ℕ) (e : length t ≡ 8) (h : (v : ℕ) → v < 8 → list_any (names v) t ≡ true) where
  named_rearranged : IsPermutation voices t
  named_rearranged = all_below 8 t e h

  pub named_right : right_table t ≡ true
  unfolding right_table
  named_right = rw (eq-eqb (length t) 8 e) (each_voice (λ v. eqb (count_by (names v) t) 1) (λ v l. eq-eqb _ _ (sum_by-IsPermutation _ voices t named_rearranged ∙ once v l)))
    where
      once : (v : ℕ) → v < 8 → count_by (names v) voices ≡ 1
      once v l = eqb-true _ 1 (voice_each (λ i. eqb (count_by (names i) voices) 1) refl v l)

-- ---- a right table
module _ (t : List ℕ) (h : right_table t ≡ true) where
  pub right_rearranged : IsPermutation voices t
  right_rearranged = named_rearranged t (right_length t h) (right_named t h)

  -- each of its slots names a voice
  pub right_below : (s : ℕ) → s < 8 → get_or t s 0 < 8
  right_below s l =
      All-permutation (λ (v : ℕ). v < 8) voices t right_rearranged (λ k d i. rw (get_or-range_with_len 0 8 k d (rw (length-range_with_len 0 8) at i)) (omega (arith, length-range_with_len 0 8)))
      s 0 (rw (right_length t h) l)

  -- where the opposite table has a voice
  pub right_slot : (v : ℕ) → v < 8 → (position_or_len (names v) t < 8) × (get_or t (position_or_len (names v) t) 0 ≡ v)
  right_slot v l =
      let k = found (names v) t (right_named t h v l) in
      (omega (arith, k, right_length t h), eqb-true _ v (passes_at_first (names v) t 0 k))

  pub opposite_at : (v : ℕ) → v < 8 → get_or (opposite_of t) v 0 ≡ position_or_len (names v) t
  unfolding opposite_of
  opposite_at v l = get_or-map-range_with_len (λ i. position_or_len (names i) t) 0 8 v v 0 l (zero-add v)

  -- a slot's voice is found at that slot, since no other names it
  slot_back : (s : ℕ) → s < 8 → position_or_len (names (get_or t s 0)) t ≡ s
  slot_back s l =
      let p = names (get_or t s 0) in
      let here : p (get_or t s 0) ≡ true = eq-eqb _ _ refl in
      position_or_len_is p t s 0 (omega (arith, right_length t h)) (λ k i. other p k i here (right_once t h (get_or t s 0) (right_below s l)) (p (get_or t k 0)) refl) (λ i. here)
    where
      other : (p : ℕ → Bool) (k : ℕ) → k < s → p (get_or t s 0) ≡ true → count_by p t ≡ 1 → (b : Bool) → p (get_or t k 0) ≡ b → p (get_or t k 0) ≡ false
      other p k i here one true q = absurd (omega (arith, one, counted_twice p t k s i (omega (arith, right_length t h)) q here))
      other p k i here one false q = q

  pub opposite_length : length (opposite_of t) ≡ 8
  unfolding opposite_of
  opposite_length = length-map-range_with_len (λ v. position_or_len (names v) t) 0 8

  pub opposite_is_right : right_table (opposite_of t) ≡ true
  opposite_is_right = named_right (opposite_of t) opposite_length (λ s l. list_any_at (names s) (opposite_of t) (get_or t s 0) 0 (omega (arith, opposite_length, right_below s l)) (rw (opposite_at (get_or t s 0) (right_below s l), slot_back s l) (eq-eqb s s refl)))

  pub is_right_table : RightTable t
  is_right_table = record {
    order = right_rearranged;
    opposite = λ v l. ap (λ (s : ℕ). get_or t s 0) (opposite_at v l) ∙ (right_slot v l).1;
    opposite_right = opposite_is_right;
  }

-- so eight slots are a right table where each voice is named
pub right_by_names : (t : List ℕ) → length t ≡ 8 → list_all (λ v. list_any (names v) t) voices ≡ right_table t
right_by_names t e = by (right_table t) all refl refl
  where
    all : Bool
    all = list_all (λ v. list_any (names v) t) voices

    by : (a b : Bool) → right_table t ≡ a → all ≡ b → b ≡ a
    by true b h k = sym k ∙ each_voice (λ v. list_any (names v) t) (right_named t h)
    by false true h k = sym (named_right t e (voice_each (λ v. list_any (names v) t) k)) ∙ h
    by false false h k = refl
