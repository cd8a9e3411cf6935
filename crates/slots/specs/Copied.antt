-- What a right slot table is, and what the copy of receive words by it keeps. Definitions only.
use Rattle.std.specs.Prelude.{◌≡◌, ℕ, ◌+◌, ◌<◌, List, map, length, get_or, take, drop, true, ℤ, pos, neg_ℤ, IsPermutation}
use Rattle.bus.specs.Bus.{InWordRange}
use Rattle.slots.specs.Slots.{voices, right_table, opposite_of, copy_of}

pub record RightTable (t : List ℕ) : Type 0 where
  -- it names the voices in some order, each once
  pub order : IsPermutation voices t
  -- the opposite table has at a voice's place the slot that names it, and is a right table too
  pub opposite : (v : ℕ) → v < 8 → get_or t (get_or (opposite_of t) v 0) 0 ≡ v
  pub opposite_right : right_table (opposite_of t) ≡ true

-- the eight voice words of raw words, and of a copy
abbrev pub raw_voices : List ℤ → List ℤ
raw_voices rx = take 8 rx

abbrev pub copied_voices : List ℤ → List ℤ
copied_voices copy = take 8 (drop 2 copy)

-- word i of a copy is raw word v, negated
abbrev pub Negates : List ℤ → List ℤ → ℕ → ℕ → Type 0
Negates rx copy i v = get_or copy i (pos 0) ≡ neg_ℤ (get_or rx v (pos 0))

pub record Copied (t : List ℕ) (rx copy : List ℤ) : Type 0 where
  pub table : RightTable t
  -- "Words 0, 1 are MAIN (raw 10, 11), word 2+s is the voice named by slot s, words 10, 11 AUDIO IN (raw 8, 9)"
  pub long : length copy ≡ 12
  pub main : (i : ℕ) → i < 2 → Negates rx copy i (10 + i)
  pub voice : (s : ℕ) → s < 8 → Negates rx copy (2 + s) (get_or t s 0)
  pub audio_in : (i : ℕ) → i < 2 → Negates rx copy (10 + i) (8 + i)
  -- "the eight voice words are the raw ones rearranged and negated, each exactly once"
  pub rearranged : IsPermutation (map neg_ℤ (raw_voices rx)) (copied_voices copy)
  -- "copying them by the opposite table .. gives the raw ones back": wherever they stand as the voices of raw words, that copy's voices are the raw ones
  pub back : (again : List ℤ) → raw_voices again ≡ copied_voices copy → copied_voices (copy_of (opposite_of t) again) ≡ raw_voices rx
  -- the words are within ±8,388,607, as the raw ones are
  pub within : InWordRange copy
