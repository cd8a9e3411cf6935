-- A recording's bytes: the opening, the contents, the bodies. Definitions only.
use Rattle.std.specs.Prelude.{ℕ, zero, suc, ◌+◌, ◌-◌, ◌*◌, Bool, true, false, cond, ◌&&◌, List, [], ◌∷◌, ◌++◌, length, get_or, take, drop, ltb, leb, eqb, ℤ, pos, negsuc}
use Rattle.std.specs.Float.{binary32}
use Rattle.std.specs.Float.Ieee.{of_bits}
use Rattle.frame.specs.Frame.{word_at}
use Rattle.board.specs.declared.Inputs.{Inputs}

-- "All numbers are unsigned and big-endian": four bytes
unfoldable pub number_at : List ℕ → ℕ → ℕ
number_at r o = word_at r o * 65536 + word_at r (o + 2)

-- "two's complement"
unfoldable pub word_of : ℕ → ℤ
word_of w = cond (ltb w 2147483648) (pos w) (negsuc (4294967295 - w))

-- the opening's fields: "an ideal byte", "a 4-byte seed, a 4-byte step count", "a 4-byte body count"
abbrev pub ideal_of : List ℕ → Bool
ideal_of r = eqb (get_or r 5 0) 1

abbrev pub seed_of : List ℕ → ℕ
seed_of r = number_at r 8

abbrev pub steps_of : List ℕ → ℕ
steps_of r = number_at r 12

abbrev pub bodies_of : List ℕ → ℕ
bodies_of r = number_at r 16

-- from the least to the most
unfoldable pub in_bounds : ℕ → ℕ → ℕ → Bool
in_bounds x least most = leb least x && leb x most

-- "the four letters RVBR"
unfoldable pub letters_ok : List ℕ → Bool
letters_ok r = eqb (get_or r 0 0) 82 && eqb (get_or r 1 0) 86 && eqb (get_or r 2 0) 66 && eqb (get_or r 3 0) 82

-- "An opening is bad if it is under 20 bytes or any of its fields isn't as said here"
unfoldable pub opening_ok : List ℕ → Bool
opening_ok r =
    cond (ltb (length r) 20) false
    (letters_ok r && eqb (get_or r 4 0) 1 && leb (get_or r 5 0) 1 && eqb (get_or r 6 0) 0 && eqb (get_or r 7 0) 0 && in_bounds (steps_of r) 1 65536 && in_bounds (bodies_of r) 1 4096)

-- "20 + 4 times steps + 768 times bodies"
unfoldable pub extent_of : ℕ → ℕ → ℕ
extent_of steps bodies = 20 + 4 * steps + 768 * bodies

-- "for each step the 4-byte number of its body, from 0"
abbrev pub entry_at : List ℕ → ℕ → ℕ
entry_at r i = number_at r (20 + 4 * i)

-- each of the first n entries names one of the bodies
unfoldable pub named_to : List ℕ → ℕ → ℕ → Bool
named_to r bodies zero = true
named_to r bodies (suc n) = named_to r bodies n && ltb (entry_at r n) bodies

-- a body at o: "664 of frame, 24 of FX, sixteen 4-byte DAC words (two's complement), four f32 bit patterns"
abbrev pub frame_at : List ℕ → ℕ → List ℕ
frame_at r o = take 664 (drop o r)

abbrev pub fx_at : List ℕ → ℕ → List ℕ
fx_at r o = take 24 (drop (o + 664) r)

-- the first n words from o on
unfoldable pub dac_at : List ℕ → ℕ → ℕ → List ℤ
dac_at r o zero = []
dac_at r o (suc n) = dac_at r o n ++ (word_of (number_at r (o + 4 * n)) ∷ [])

-- "audio left and right, ext left and right"; every pattern of a value that is no number stands for one that is none
unfoldable pub inputs_at : List ℕ → ℕ → Inputs
inputs_at r o = record {
  audio = record { l = of_bits binary32 (number_at r o); r = of_bits binary32 (number_at r (o + 4)) };
  ext = record { l = of_bits binary32 (number_at r (o + 8)); r = of_bits binary32 (number_at r (o + 12)) };
}
