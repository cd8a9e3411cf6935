-- What tanh computes: (1 - E) / (1 + E) with E = e ^ -2a, in fixed point, for the size a; then the sign. Assumes nothing.
use Rattle.std.specs.Prelude.{false, cond, ℕ, ◌+◌, ◌-◌, ◌*◌, ◌/◌, ◌%◌, ◌^◌, pos, negsuc, Float}
use Rattle.std.specs.Float.{nan, fin}
use Rattle.std.specs.Float.Ieee.{lt, le, ne, neg}
use Rattle.fixed.specs.Fixed.{size_of, pack_of}
use Rattle.power.specs.Power.{zero_f, product_of, fraction_of}

-- 2 log2 e in Q32, cut
abbrev pub two_log2_e : ℕ
two_log2_e = 12392656037

-- 2 ^ -u in Q32, for a u of Q32, cut
unfoldable pub decay_of : ℕ → ℕ
decay_of u =
    let w = 2 ^ 39 - u in
    fraction_of (w % 2 ^ 32) / 2 ^ (128 - w / 2 ^ 32)

-- (1 - e) / (1 + e) in Q31, for an e of Q32, cut
unfoldable pub quotient_of : ℕ → ℕ
quotient_of e = (2 ^ 32 - e) * 2 ^ 31 / (2 ^ 32 + e)

abbrev pub one : Float
one = fin false 1 (pos 0)

-- 2 ^ -10, below which the curve is its argument, and 10, from which it is 1
abbrev pub tiny : Float
tiny = fin false 1 (negsuc 9)

abbrev pub ten : Float
ten = fin false 5 (pos 1)

-- for an argument that is not below 0
unfoldable pub above_of : Float → Float
above_of a = cond (lt a tiny) a (cond (le ten a) one (pack_of (quotient_of (decay_of (product_of (size_of a) two_log2_e))) 31))

-- for every argument: odd
unfoldable pub tanh_of : Float → Float
tanh_of x = cond (ne x x) nan (cond (lt x zero_f) (neg (above_of (neg x))) (above_of x))
