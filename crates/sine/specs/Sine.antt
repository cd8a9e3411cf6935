-- sin, cos and tan of an `f32`: how they are computed, and how near they are. Assumes nothing.
use Rattle.std.specs.Prelude.{◌≡◌, Bool, true, false, cond, not, ◌&&◌, List, [], ◌∷◌, ℕ, zero, suc, ◌+◌, ◌-◌, ◌*◌, ◌/◌, ◌%◌, ◌^◌, pos, negsuc, T, Float}
use Rattle.std.specs.Float.{nan, inf, fin, binary32}
use Rattle.std.specs.Float.Ieee.{up, down, neg, lt, le, to_bits}
use Rattle.series.specs.Near.{Relative, Absolute}
use Rattle.fixed.specs.Fixed.{size_of, pack_of}
use Rattle.sine.specs.Series.{paired}
use Rattle.sine.specs.Exact.{turns, folded, lower, sine_num, sine_den}

-- ---- how they are computed

-- 8, 2 ^ -10, 1.5 and 2 ^ -24
abbrev pub eight : Float
eight = fin false 1 (pos 3)

abbrev pub little : Float
little = fin false 1 (negsuc 9)

abbrev pub one_five : Float
one_five = fin false 3 (negsuc 0)

abbrev pub tiny : Float
tiny = fin false 1 (negsuc 23)

-- x is a number from 0 to b; -0 counts as 0
abbrev pub up_to : Float → Float → Bool
up_to b x = le (fin false 0 (pos 0)) x && le x b

-- 4 ^ j / (2 j + 1)! in Q32, to the nearest; the last is less, for the next term, which is left out
abbrev pub coefs : List ℕ
coefs = 4294967296 ∷ 2863311531 ∷ 572662306 ∷ 54539267 ∷ 3029959 ∷ 108525 ∷ []

-- sin z / z in Q32, for v = z² / 4 in Q32
unfoldable pub sinc_of : ℕ → ℕ
sinc_of v = paired (2 ^ 32) coefs v (v * v / 2 ^ 32)

-- a quarter turn in Q31, cut
abbrev pub quarter31 : ℕ
quarter31 = 3373259426

-- the sine of an angle of Q31 within a quarter turn, in Q63, and 1 more, so that it is not 0
unfoldable pub sine_fix : ℕ → ℕ
unfolding sinc_of
sine_fix z = z * sinc_of (z * z / 2 ^ 32) + 1

abbrev pub signed : Bool → Float → Float
signed true r = neg r
signed false r = r

-- the sine of x, of Q31, and j quarter turns
unfoldable pub wave_of : ℕ → ℕ → Float
unfolding sine_fix
wave_of j x = let k = x / quarter31 + j in signed (lower k) (pack_of (sine_fix (folded k quarter31 (x % quarter31))) 63)

-- a number below 2 ^ -10 is its own sine
unfoldable pub sin_of : Float → Float
unfolding wave_of
sin_of x = cond (up_to eight x) (cond (lt x little) x (wave_of 0 (size_of x / 2))) nan

unfoldable pub cos_of : Float → Float
unfolding wave_of
cos_of x = cond (up_to eight x) (wave_of 1 (size_of x / 2)) nan

-- sin z / z over cos z in Q32, for an angle z of Q31 up to 1.5
unfoldable pub ratio_of : ℕ → ℕ
unfolding sinc_of sine_fix
ratio_of z = sinc_of (z * z / 2 ^ 32) * 2 ^ 31 / (sine_fix (quarter31 - z) / 2 ^ 32)

-- a number below 2 ^ -24 is its own tangent; of any other the digits are multiplied
unfoldable pub tan_of : Float → Float
unfolding ratio_of
tan_of x =
    let b = to_bits binary32 x in
    let q = (b % 2 ^ 23 + 2 ^ 23) * ratio_of (size_of x / 2) in
    cond (up_to one_five x) (cond (lt x tiny) x (pack_of q (182 - b % 2 ^ 31 / 2 ^ 23))) nan

-- ---- how near they are

-- r is within 2 ^ -20 of the exact sine of x and j quarter turns, for x from 0 to 8; for any other x it is not a number
abbrev pub Sine : ℕ → Float → Float → Type 0
Sine j nan r = r ≡ nan
Sine j (inf s) r = r ≡ nan
Sine j (fin s m e) r =
    (T (up_to eight (fin s m e)) → Absolute (2 ^ 20) (lower (turns (m * up e) (down e) + j)) (sine_num j (m * up e) (down e)) (sine_den (down e)) r)
    × (T (not (up_to eight (fin s m e))) → r ≡ nan)

-- r is the exact sine over the exact cosine of x, to one part in 2 ^ 16, for x from 0 to 1.5, where neither has a minus sign and both have the same denominator; a zero is its own tangent; for any other x it is not a number
abbrev pub Tangent : Float → Float → Type 0
Tangent nan r = r ≡ nan
Tangent (inf s) r = r ≡ nan
Tangent (fin s zero e) r = r ≡ fin s zero e
Tangent (fin s (suc m) e) r =
    (T (up_to one_five (fin s (suc m) e)) → Relative (2 ^ 16) (sine_num 0 (suc m * up e) (down e)) (sine_num 1 (suc m * up e) (down e)) r)
    × (T (not (up_to one_five (fin s (suc m) e))) → r ≡ nan)
