-- What log10 computes: the exponent, a stored logarithm of the significand's first six digits, and three terms of the series for the rest. Assumes nothing.
use Rattle.std.specs.Prelude.{false, cond, List, [], ◌∷◌, ℕ, ◌+◌, ◌-◌, ◌*◌, ◌/◌, ◌%◌, ◌^◌, leb, eqb, negsuc, get_or, Float}
use Rattle.std.specs.Float.{nan, inf, fin, binary32}
use Rattle.std.specs.Float.Ieee.{to_bits, le, neg}
use Rattle.fixed.specs.Fixed.{pack_of}
use Rattle.power.specs.Power.{zero_f, product_of, log2_e}

-- log2 (1 + j / 64) in Q32, cut
abbrev pub logs : List ℕ
logs =
    0 ∷ 96069025 ∷ 190671290 ∷ 283850911 ∷ 375650042 ∷ 466108992 ∷ 555266329 ∷ 643158980
    ∷ 729822323 ∷ 815290272 ∷ 899595355 ∷ 982768792 ∷ 1064840562 ∷ 1145839467 ∷ 1225793196 ∷ 1304728378
    ∷ 1382670639 ∷ 1459644647 ∷ 1535674166 ∷ 1610782092 ∷ 1684990500 ∷ 1758320681 ∷ 1830793180 ∷ 1902427828
    ∷ 1973243776 ∷ 2043259527 ∷ 2112492963 ∷ 2180961372 ∷ 2248681478 ∷ 2315669461 ∷ 2381940980 ∷ 2447511201
    ∷ 2512394809 ∷ 2576606037 ∷ 2640158677 ∷ 2703066100 ∷ 2765341278 ∷ 2826996792 ∷ 2888044852 ∷ 2948497312
    ∷ 3008365682 ∷ 3067661139 ∷ 3126394546 ∷ 3184576457 ∷ 3242217133 ∷ 3299326552 ∷ 3355914416 ∷ 3411990165
    ∷ 3467562986 ∷ 3522641820 ∷ 3577235372 ∷ 3631352117 ∷ 3685000314 ∷ 3738188006 ∷ 3790923031 ∷ 3843213029
    ∷ 3895065449 ∷ 3946487553 ∷ 3997486425 ∷ 4048068976 ∷ 4098241947 ∷ 4148011917 ∷ 4197385310 ∷ 4246368395 ∷ []

-- log10 2 in Q32, cut
abbrev pub log10_two : ℕ
log10_two = 1292913986

-- what is left of the significand t / 2 ^ 23 after its first six digits, over them, as r - r² / 2 + r³ / 3 in Q32
unfoldable pub rest_of : ℕ → ℕ
rest_of t =
    let r = t % 2 ^ 17 * 2 ^ 15 / (64 + t / 2 ^ 17) in
    let s = r * r / 2 ^ 32 in
    r - s / 2 + s * r / 2 ^ 32 / 3

-- log2 of the significand 1 + t / 2 ^ 23, in Q32
unfoldable pub part_of : ℕ → ℕ
part_of t = get_or logs (t / 2 ^ 17) 0 + product_of (rest_of t) log2_e

-- log2 of the float of the pattern b, plus 127, in Q32
unfoldable pub place_log : ℕ → ℕ
place_log b = b / 2 ^ 23 * 2 ^ 32 + part_of (b % 2 ^ 23)

-- q of Q32 as a float
unfoldable pub pack_zero : ℕ → Float
pack_zero q = cond (eqb q 0) zero_f (pack_of q 32)

-- log10 of 2 to the power w - 127, for a w of Q32
unfoldable pub tenth_of : ℕ → Float
tenth_of w = cond (leb (127 * 2 ^ 32) w) (pack_zero (product_of (w - 127 * 2 ^ 32) log10_two)) (neg (pack_zero (product_of (127 * 2 ^ 32 - w) log10_two)))

-- the float nearest 10 ^ -6
abbrev pub least : Float
least = fin false 8796093 (negsuc 42)

-- from there on; infinity at infinity; elsewhere not a number
unfoldable pub log10_of : Float → Float
log10_of x = cond (le least x) (cond (le (inf false) x) x (tenth_of (place_log (to_bits binary32 x)))) nan
