-- The copy by a right table: which word is which, the voices rearranged and negated, and brought back by the opposite table. Assumes nothing.
use Prim.Native.Nat.{ℕ, zero, suc, ◌+◌, ◌-◌, ◌≤◌, ◌<◌}
use native.Mathlib.Omega.{arith}
use mathlib.Core.Path.{◌≡◌, refl, sym, ap, subst, ◌∙◌}
use mathlib.Core.Bool.{true}
use mathlib.Core.List.{List, [], ◌∷◌, map, map-append}
use lib.ListN.{length, get_or, take, length-map, length-append}
use lib.Seq.{get_or-take, length-take-le}
use lib.Dec.{lit≤}
use lib.IntN.{ℤ, pos, negsuc, neg_ℤ, neg_ℤ-neg_ℤ, nat_abs}
use Rattle.std.specs.Prelude.{IsPermutation}
use Rattle.std.specs.List.{position_or_len}
use Rattle.std.proofs.lemmas.List.{get_or-map, get_or_append_left, get_or-append_right, take_at, ext_get_or}
use Rattle.std.proofs.lemmas.List.Sorted.{IsPermutation-map}
use Rattle.std.proofs.lemmas.List.FromFn.{fill_by_all}
use Rattle.lists.specs.Turns.{each_of}
use Rattle.lists.proofs.Sweep.{each_length, each_at}
use Rattle.bus.specs.Bus.{InWordRange}
use Rattle.slots.specs.Slots.{voices, right_table, opposite_of, raw_of, negated_of, copy_of}
use Rattle.slots.specs.Copied.{raw_voices, copied_voices, Negates, Copied}
use Rattle.slots.proofs.Below.{names}
use Rattle.slots.proofs.Tables.{right_length, right_rearranged, right_slot, opposite_at, opposite_length, opposite_is_right, is_right_table}

-- ---- words at their places, negated
module _ (words : List ℤ) (places : List ℕ) where
  negated_length : length (negated_of words places) ≡ length places
  unfolding negated_of
  negated_length = length-map places _

  negated_at : (i : ℕ) → i < length places → Negates words (negated_of words places) i (get_or places i 0)
  unfolding negated_of
  negated_at i l = get_or-map _ places i 0 (pos 0) l

neg_size : (z : ℤ) → nat_abs (neg_ℤ z) ≡ nat_abs z
neg_size (pos zero) = refl
neg_size (pos (suc n)) = refl
neg_size (negsuc n) = refl

negated_words : (rx : List ℤ) → InWordRange rx → (places : List ℕ) → InWordRange (negated_of rx places)
unfolding negated_of
negated_words rx h [] k = lit≤ tt
negated_words rx h (v ∷ l) zero = omega (arith, h v, neg_size (get_or rx v (pos 0)))
negated_words rx h (v ∷ l) (suc k) = negated_words rx h l k

pub copy_words : (t : List ℕ) (rx : List ℤ) → InWordRange rx → InWordRange (copy_of t rx)
unfolding copy_of
copy_words t rx h = negated_words rx h (raw_of t)

-- ---- the raw words in the order of the copy
pub raw_main : (t : List ℕ) (i : ℕ) → i < 2 → get_or (raw_of t) i 0 ≡ 10 + i
unfolding raw_of
raw_main t zero l = refl
raw_main t (suc zero) l = refl
raw_main t (suc (suc i)) l = absurd (omega arith)

module _ (t : List ℕ) (right : right_table t ≡ true) where
  pub raw_voice : (i : ℕ) → 2 ≤ i → i < 10 → get_or (raw_of t) i 0 ≡ get_or t (i - 2) 0
  unfolding raw_of
  raw_voice i h l =
      let e : i ≡ suc (suc (i - 2)) = omega arith in
      subst (λ (k : ℕ). get_or (raw_of t) k 0 ≡ get_or t (i - 2) 0) (sym e) (get_or_append_left t (8 ∷ (9 ∷ [])) 0 (i - 2) (omega (arith, right_length t right)))

  pub raw_audio_in : (i : ℕ) → 10 ≤ i → i < 12 → get_or (raw_of t) i 0 ≡ 8 + (i - 10)
  unfolding raw_of
  raw_audio_in i h l =
      let e : i ≡ suc (suc (8 + (i - 10))) = omega arith in
      subst (λ (k : ℕ). get_or (raw_of t) k 0 ≡ 8 + (i - 10)) (sym e)
      (get_or-append_right t (8 ∷ (9 ∷ [])) 8 (8 + (i - 10)) 0 (right_length t right) (omega arith) ∙ by (i - 10) (omega arith))
    where
      by : (k : ℕ) → k < 2 → get_or (8 ∷ (9 ∷ [])) (8 + k - 8) 0 ≡ 8 + k
      by zero l = refl
      by (suc zero) l = refl
      by (suc (suc k)) l = absurd (omega arith)

  raw_length : length (raw_of t) ≡ 12
  unfolding raw_of
  raw_length = omega (arith, length-append t (8 ∷ (9 ∷ [])), right_length t right)

-- ---- by a right table
module _ (t : List ℕ) (rx : List ℤ) (right : right_table t ≡ true) where
  abbrev negated : ℕ → ℤ
  negated v = neg_ℤ (get_or rx v (pos 0))

  copy_length : length (copy_of t rx) ≡ 12
  unfolding copy_of
  copy_length = negated_length rx (raw_of t) ∙ raw_length t right

  copy_at : (i : ℕ) → i < 12 → Negates rx (copy_of t rx) i (get_or (raw_of t) i 0)
  unfolding copy_of
  copy_at i l = negated_at rx (raw_of t) i (omega (arith, raw_length t right))

  -- the voices of the copy are those that the table names
  voices_by : copied_voices (copy_of t rx) ≡ negated_of rx t
  unfolding copy_of raw_of negated_of
  voices_by =
      let f = λ (v : ℕ). neg_ℤ (get_or rx v (pos 0)) in
      ap (take 8) (map-append f t (8 ∷ (9 ∷ []))) ∙ take_at (map f t) (map f (8 ∷ (9 ∷ []))) 8 (length-map t f ∙ right_length t right)

  -- a voice that was negated where its slot has it is negated again where the opposite table has that slot
  negated_twice : (again : List ℤ) → raw_voices again ≡ negated_of rx t → (v : ℕ) → v < 8 → get_or (negated_of again (opposite_of t)) v (pos 0) ≡ get_or rx v (pos 0)
  negated_twice again e v l =
      let k = right_slot t right v l in
      let s = position_or_len (names v) t in
      negated_at again (opposite_of t) v (omega (arith, opposite_length t right))
      ∙ ap (λ (i : ℕ). neg_ℤ (get_or again i (pos 0))) (opposite_at t right v l)
      ∙ ap neg_ℤ (sym (get_or-take 8 again s (pos 0) k.0) ∙ ap (λ (l : List ℤ). get_or l s (pos 0)) e ∙ negated_at rx t s (omega (arith, k.0, right_length t right)) ∙ ap negated k.1)
      ∙ neg_ℤ-neg_ℤ (get_or rx v (pos 0))

  -- twelve turns, each of which puts the word of its place, make the copy
  pub turns_copy : (start : List ℤ) → length start ≡ 12 → each_of 12 (λ i x. neg_ℤ (get_or rx (get_or (raw_of t) i 0) (pos 0))) (pos 0) start ≡ copy_of t rx
  turns_copy start twelve =
      let put = λ (i : ℕ) (x : ℤ). neg_ℤ (get_or rx (get_or (raw_of t) i 0) (pos 0)) in
      let size = each_length put (pos 0) start 12 ∙ twelve in
      ext_get_or (pos 0) (each_of 12 put (pos 0) start) (copy_of t rx) (size ∙ sym copy_length)
      (λ i l. let k : i < 12 = rw size at l in each_at put (pos 0) start 12 i k (omega arith) ∙ sym (copy_at i k))

-- ---- what it keeps
module _ (t : List ℕ) (rx : List ℤ) (right : right_table t ≡ true) (long : length rx ≡ 12) where
  raw_voices_length : length (raw_voices rx) ≡ 8
  raw_voices_length = length-take-le 8 rx (omega arith)

  raw_voices_at : raw_voices rx ≡ map (λ v. get_or rx v (pos 0)) voices
  raw_voices_at = fill_by_all (λ v. get_or rx v (pos 0)) (raw_voices rx) 8 (pos 0) raw_voices_length (λ v l. get_or-take 8 rx v (pos 0) l)

  voices_rearranged : IsPermutation (map neg_ℤ (raw_voices rx)) (copied_voices (copy_of t rx))
  unfolding negated_of
  voices_rearranged = rw (raw_voices_at, voices_by t rx right) (IsPermutation-map (λ v. neg_ℤ (get_or rx v (pos 0))) voices t (right_rearranged t right))

  voices_back : (again : List ℤ) → raw_voices again ≡ copied_voices (copy_of t rx) → copied_voices (copy_of (opposite_of t) again) ≡ raw_voices rx
  voices_back again e =
      let eight = negated_length again (opposite_of t) ∙ opposite_length t right in
      voices_by (opposite_of t) again (opposite_is_right t right)
      ∙ ext_get_or (pos 0) (negated_of again (opposite_of t)) (raw_voices rx) (eight ∙ sym raw_voices_length)
      (λ v l. let i : v < 8 = rw eight at l in negated_twice t rx right again (e ∙ voices_by t rx right) v i ∙ sym (get_or-take 8 rx v (pos 0) i))

  pub copied : InWordRange rx → Copied t rx (copy_of t rx)
  copied h =
      let at = copy_at t rx right in
      let put = λ (v : ℕ). neg_ℤ (get_or rx v (pos 0)) in
      record {
        table = is_right_table t right;
        long = copy_length t rx right;
        main = λ i l. at i (omega arith) ∙ ap put (raw_main t i l);
        voice = λ s l. at (2 + s) (omega arith) ∙ ap put (raw_voice t right (2 + s) (omega arith) (omega arith) ∙ ap (λ (k : ℕ). get_or t k 0) (omega arith));
        audio_in = λ i l. at (10 + i) (omega arith) ∙ ap put (raw_audio_in t right (10 + i) (omega arith) (omega arith) ∙ omega arith);
        rearranged = voices_rearranged;
        back = voices_back;
        within = copy_words t rx h;
      }
