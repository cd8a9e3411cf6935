-- The control frame's fields, as lists of bytes give them. Definitions only.
use Rattle.std.specs.Prelude.{ℕ, ◌+◌, ◌-◌, ◌*◌, ◌/◌, ◌%◌, ◌^◌, ◌<◌, Bool, not, cond, List, [], ◌∷◌, get_or, ltb, eqb, ℤ, pos, negsuc, Float}
use Rattle.std.specs.Float.{binary32}
use Rattle.std.specs.Float.Ieee.{of_int}
use Rattle.frame.specs.Offsets.{SWITCHES, ROUTE, flt_at, route_bit}
use Rattle.frame.specs.declared.FltType.{FltType}
use Rattle.frame.specs.declared.FltType.TheVariants.{Lp2, Lp1, Bp, Hp1, Hp2, Bs, Pk}

-- a list of bytes
abbrev pub Bytes : List ℕ → Type 0
Bytes f = (i : ℕ) → get_or f i 0 < 256

-- a word: big-endian, 16 bits, unsigned
abbrev pub word_at : List ℕ → ℕ → ℕ
word_at f o = get_or f o 0 * 256 + get_or f (o + 1) 0

-- a word that is called signed: two's complement
abbrev pub signed_of : ℕ → ℤ
signed_of w = cond (ltb w 32768) (pos w) (negsuc (65535 - w))

-- both as an f32, which holds them exactly
abbrev pub word_f : List ℕ → ℕ → Float
word_f f o = of_int binary32 (pos (word_at f o))

abbrev pub signed_f : List ℕ → ℕ → Float
signed_f f o = of_int binary32 (signed_of (word_at f o))

-- bit k of a byte
abbrev pub bit_of : ℕ → ℕ → Bool
bit_of b k = not (eqb (b / 2 ^ k % 2) 0)

-- switch n: bit n mod 8 of byte 160 + n div 8
abbrev pub bit_at : List ℕ → ℕ → Bool
bit_at f n = bit_of (get_or f (SWITCHES + n / 8) 0) (n % 8)

-- a metal oscillator's 32-bit field, its low 22 bits
abbrev pub field_at : List ℕ → ℕ → ℕ
field_at f o = get_or f (o + 1) 0 % 64 * 65536 + get_or f (o + 2) 0 * 256 + get_or f (o + 3) 0

-- a record: eight bytes
unfoldable pub bytes_at : List ℕ → ℕ → List ℕ
bytes_at f o =
    get_or f o 0 ∷ get_or f (o + 1) 0 ∷ get_or f (o + 2) 0 ∷ get_or f (o + 3) 0 ∷ get_or f (o + 4) 0 ∷ get_or f (o + 5) 0 ∷ get_or f (o + 6) 0 ∷ get_or f (o + 7) 0 ∷ []

-- a set bit of the route mask keeps its voice from the mix
unfoldable pub routed_off : List ℕ → ℕ → Bool
routed_off f v = bit_of (get_or f ROUTE 0) (route_bit v)

-- a voice's filter code: three bits
unfoldable pub flt_code : List ℕ → ℕ → ℕ
flt_code f v = get_or f (flt_at v).byte 0 / 2 ^ (flt_at v).lo % 8

-- "Filter types: 6 LP1, 1 BP, 2 HP1, 4 HP2, 5 BS, 3 PK", and the others LP2
unfoldable pub flt_type_of : ℕ → FltType
flt_type_of code =
    cond (eqb code 6) Lp1 (cond (eqb code 1) Bp (cond (eqb code 2) Hp1 (cond (eqb code 4) Hp2 (cond (eqb code 5) Bs (cond (eqb code 3) Pk Lp2)))))
