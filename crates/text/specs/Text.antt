-- Numbers as ASCII text. Definitions only.
use Rattle.std.specs.Prelude.{ℕ, zero, suc, ◌+◌, ◌-◌, ◌*◌, ◌/◌, ◌%◌, cond, List, [], ◌∷◌, ◌++◌, ltb, ℤ, pos, negsuc}

-- the decimal digits of n without zeros before them, its last k at most
unfoldable pub digits_of : ℕ → ℕ → List ℕ
digits_of zero n = []
digits_of (suc k) n = cond (ltb n 10) ((48 + n) ∷ []) (digits_of k (n / 10) ++ ((48 + n % 10) ∷ []))

-- a number of 32 bits has ten at most
abbrev pub decimal_of : ℕ → List ℕ
decimal_of n = digits_of 10 n

-- the number that decimal digits read, after a number n
unfoldable pub read_of : ℕ → List ℕ → ℕ
read_of n [] = n
read_of n (d ∷ ds) = read_of (n * 10 + (d - 48)) ds

-- a minus where it is negative, then the digits of its size
unfoldable pub signed_of : ℤ → List ℕ
signed_of (pos n) = decimal_of n
signed_of (negsuc n) = 45 ∷ decimal_of (suc n)

-- each word after a blank
unfoldable pub words_of : List ℤ → List ℕ
words_of [] = []
words_of (w ∷ ws) = 32 ∷ signed_of w ++ words_of ws
