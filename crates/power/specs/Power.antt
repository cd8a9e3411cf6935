-- What the curves compute: the two-power in fixed point, put together as a float. Assumes nothing.
use Rattle.std.specs.Prelude.{true, false, cond, ◌&&◌, List, [], ◌∷◌, ℕ, ◌+◌, ◌-◌, ◌*◌, ◌/◌, ◌%◌, ◌^◌, pos, get_or, Float}
use Rattle.std.specs.Float.{nan, inf, fin, binary32}
use Rattle.std.specs.Float.Ieee.{of_bits, lt, le, ne}
use Rattle.series.specs.Horner.{horner}
use Rattle.fixed.specs.Fixed.{place_of, size_of}

-- 2 ^ (i / 32) in Q30, cut
abbrev pub roots : List ℕ
roots =
    1073741824 ∷ 1097253708 ∷ 1121280435 ∷ 1145833280 ∷ 1170923761 ∷ 1196563653 ∷ 1222764985 ∷ 1249540052
    ∷ 1276901416 ∷ 1304861916 ∷ 1333434672 ∷ 1362633089 ∷ 1392470868 ∷ 1422962010 ∷ 1454120821 ∷ 1485961920
    ∷ 1518500249 ∷ 1551751075 ∷ 1585729999 ∷ 1620452965 ∷ 1655936264 ∷ 1692196547 ∷ 1729250826 ∷ 1767116488
    ∷ 1805811301 ∷ 1845353419 ∷ 1885761398 ∷ 1927054195 ∷ 1969251187 ∷ 2012372173 ∷ 2056437386 ∷ 2101467501 ∷ []

-- (ln 2 / 32) ^ j / j! in Q32, cut
abbrev pub coefs : List ℕ
coefs = 4294967296 ∷ 93032639 ∷ 1007582 ∷ 7275 ∷ []

-- 2 ^ h in Q62, for an h of Q32: the root at its first five digits, times the series at the rest
abbrev pub scaled_of : ℕ → ℕ
scaled_of h = horner (2 ^ 32) coefs (h % 2 ^ 27 * 32) * get_or roots (h / 2 ^ 27) 0

-- the same in Q32, cut
unfoldable pub fraction_of : ℕ → ℕ
fraction_of h = scaled_of h / 2 ^ 30

-- two to the power w - 128, for a w of Q32: the exponent's field, and 24 digits, to the nearest
unfoldable pub power_of : ℕ → Float
power_of w = of_bits binary32 ((w / 2 ^ 32 - 2) * 2 ^ 23 + (fraction_of (w % 2 ^ 32) + 2 ^ 8) / 2 ^ 9)

-- v * k in Q32, for v and k of Q32, cut
abbrev pub product_of : ℕ → ℕ → ℕ
product_of v k = v * k / 2 ^ 32

-- log2 e and log2 10 in Q32, cut
abbrev pub log2_e : ℕ
log2_e = 6196328018

abbrev pub log2_ten : ℕ
log2_ten = 14267572527

-- plus zero
abbrev pub zero_f : Float
zero_f = fin false 0 (pos 0)

-- -126, 127, -3, -37, 37
abbrev pub exp2_low : Float
exp2_low = fin true 63 (pos 1)

abbrev pub exp2_high : Float
exp2_high = fin false 127 (pos 0)

abbrev pub exp_low : Float
exp_low = fin true 3 (pos 0)

abbrev pub ten_low : Float
ten_low = fin true 37 (pos 0)

abbrev pub ten_high : Float
ten_high = fin false 37 (pos 0)

-- exp2: 0 below -126, infinity from 127 on, and between them the power of the argument's place
unfoldable pub exp2_of : Float → Float
exp2_of t = cond (ne t t) nan (cond (lt t exp2_low) zero_f (cond (le exp2_high t) (inf false) (power_of (place_of t))))

-- a base whose log2 is k in Q32, to the power of a number below 0, and of one above
unfoldable pub fall_of : ℕ → Float → Float
fall_of k t = power_of (2 ^ 39 - product_of (size_of t) k)

unfoldable pub rise_of : ℕ → Float → Float
rise_of k t = power_of (2 ^ 39 + product_of (size_of t) k)

-- exp: from -3 to 0, elsewhere not a number
unfoldable pub exp_of : Float → Float
exp_of t = cond (le exp_low t && le t zero_f) (fall_of log2_e t) nan

-- the power of ten: 0 below -37, infinity above 37
unfoldable pub pow10_of : Float → Float
pow10_of t = cond (ne t t) nan (cond (lt t ten_low) zero_f (cond (lt ten_high t) (inf false) (cond (lt t zero_f) (fall_of log2_ten t) (rise_of log2_ten t))))
