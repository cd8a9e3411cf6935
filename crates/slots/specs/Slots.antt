-- A slot table, and the copy of the receive words by it: "The audio interrupt copies them .. (MAIN, the voices by slot .., AUDIO IN), negating every word" (analog.rs, lines 612 to 618). Definitions only.
use Rattle.std.specs.Prelude.{ℕ, ◌+◌, Bool, ◌&&◌, List, [], ◌∷◌, ◌++◌, map, length, get_or, count_by, eqb, ℤ, pos, neg_ℤ}
use Rattle.std.specs.List.{list_all, position_or_len, range_with_len}
use Rattle.board.specs.Board.{RX_AUDIO_IN, RX_MAIN}

-- the eight voices
abbrev pub voices : List ℕ
voices = range_with_len 0 8

-- "eight bytes naming each of 0 to 7 once"
unfoldable pub right_table : List ℕ → Bool
right_table t = eqb (length t) 8 && list_all (λ v. eqb (count_by (λ s. eqb s v) t) 1) voices

-- "the opposite table (at place t the s whose slot names t)"
unfoldable pub opposite_of : List ℕ → List ℕ
opposite_of t = map (λ v. position_or_len (λ s. eqb s v) t) voices

-- the raw words in the order of the copy: "Words 0, 1 are MAIN (raw 10, 11), word 2+s is the voice named by slot s, words 10, 11 AUDIO IN (raw 8, 9)"
unfoldable pub raw_of : List ℕ → List ℕ
raw_of t = RX_MAIN ∷ ((RX_MAIN + 1) ∷ (t ++ (RX_AUDIO_IN ∷ ((RX_AUDIO_IN + 1) ∷ []))))

-- the words at these places, in this order: "the copy negates each word"
unfoldable pub negated_of : List ℤ → List ℕ → List ℤ
negated_of words places = map (λ i. neg_ℤ (get_or words i (pos 0))) places

-- the copy of the raw words by a slot table
unfoldable pub copy_of : List ℕ → List ℤ → List ℤ
copy_of t rx = negated_of rx (raw_of t)
