-- A float's place and size in fixed point, and the float of a fixed-point number. Assumes nothing.
use Rattle.std.specs.Prelude.{Bool, true, false, cond, ℕ, ◌+◌, ◌-◌, ◌*◌, ◌/◌, ◌^◌, ltb, Float}
use Rattle.std.specs.Int.Count.{count_leading_zeros}
use Rattle.std.specs.Float.{nan, inf, fin, binary32}
use Rattle.std.specs.Float.Ieee.{up, down, neg, of_bits}

-- ± a / c + 128 is shifted s a c / c; true is the minus sign
abbrev pub shifted : Bool → ℕ → ℕ → ℕ
shifted true a c = 128 * c - a
shifted false a c = 128 * c + a

-- the sign, true for minus
unfoldable pub sign_of : Float → Bool
sign_of nan = false
sign_of (inf s) = s
sign_of (fin s m e) = s

-- r, with its sign turned where s is minus
abbrev pub with_sign : Bool → Float → Float
with_sign true r = neg r
with_sign false r = r

-- t is below 128 in size
unfoldable pub small : Float → Bool
small nan = false
small (inf s) = false
small (fin s m e) = ltb (m * up e) (128 * down e)

-- t + 128 in Q32, cut
unfoldable pub place_of : Float → ℕ
place_of nan = 0
place_of (inf s) = 0
place_of (fin s m e) = shifted s (m * up e) (down e) * 2 ^ 32 / down e

-- the size of t in Q32, cut
unfoldable pub size_of : Float → ℕ
size_of nan = 0
size_of (inf s) = 0
size_of (fin s m e) = m * up e * 2 ^ 32 / down e

-- both by a pattern's fields: digits D and exponent's field x are D * 2 ^ (x - 150)
unfoldable pub place_at : Bool → ℕ → ℕ → ℕ
place_at s x D = cond (ltb x 118) (shifted s D (2 ^ 32 * 2 ^ (118 - x)) / 2 ^ (118 - x)) (shifted s (D * 2 ^ (x - 118)) (2 ^ 32))

unfoldable pub size_at : ℕ → ℕ → ℕ
size_at x D = cond (ltb x 118) (D / 2 ^ (118 - x)) (D * 2 ^ (x - 118))

-- q of Qk as a float: its leading 24 digits, rounded at the 25th
unfoldable pub pack_of : ℕ → ℕ → Float
pack_of q k =
    let z = count_leading_zeros 64 q in
    of_bits binary32 ((189 - z - k) * 2 ^ 23 + (q * 2 ^ z / 2 ^ 39 + 1) / 2)
