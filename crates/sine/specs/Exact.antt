-- The exact sine, cosine and tangent of a number x = a / c that is not negative, as fractions. Assumes nothing.
use Rattle.std.specs.Prelude.{Bool, cond, List, [], ◌∷◌, ℕ, ◌+◌, ◌-◌, ◌*◌, ◌/◌, ◌%◌, ◌^◌, leb, eqb}
use Rattle.sine.specs.Series.{alternating}

-- A turn is 2 P, and P is 314159265358979 / 10 ^ 14. In units of 1 / unit c, x is a * 2 * 10 ^ 14 and a quarter turn, P / 2, is quarter c.
abbrev pub unit : ℕ → ℕ
unit c = c * 200000000000000

abbrev pub quarter : ℕ → ℕ
quarter c = 314159265358979 * c

-- the whole quarter turns in x, and what is left
abbrev pub turns : ℕ → ℕ → ℕ
turns a c = a * 200000000000000 / quarter c

abbrev pub rest : ℕ → ℕ → ℕ
rest a c = a * 200000000000000 % quarter c

-- Whole turns drop out, and by symmetry an angle within a quarter turn is left: of k quarter turns, each of size q, and m more it is m or q - m, with a minus sign in the lower half of the circle.
abbrev pub folded : ℕ → ℕ → ℕ → ℕ
folded k q m = cond (eqb (k % 2) 0) m (q - m)

abbrev pub lower : ℕ → Bool
lower k = leb 2 (k % 4)

-- 13! / 1!, 13! / 3!, .., 13! / 13!
abbrev pub odds : List ℕ
odds = 6227020800 ∷ 1037836800 ∷ 51891840 ∷ 1235520 ∷ 17160 ∷ 156 ∷ 1 ∷ []

-- 1 - z² / 3! + .. + z¹² / 13! at z = f / d
abbrev pub sinc_num : ℕ → ℕ → ℕ
sinc_num f d = alternating odds (f * f) (d * d)

abbrev pub sinc_den : ℕ → ℕ
sinc_den d = 6227020800 * (d * d) ^ 6

-- and the odd series to power 13, z times that
abbrev pub odd_num : ℕ → ℕ → ℕ
odd_num f d = f * sinc_num f d

abbrev pub odd_den : ℕ → ℕ
odd_den d = d * sinc_den d

-- The sine of x and j quarter turns; its sign is lower (turns a c + j). The cosine is the sine a quarter turn on, so at j = 1.
abbrev pub sine_num : ℕ → ℕ → ℕ → ℕ
sine_num j a c = odd_num (folded (turns a c + j) (quarter c) (rest a c)) (unit c)

abbrev pub sine_den : ℕ → ℕ
sine_den c = odd_den (unit c)
