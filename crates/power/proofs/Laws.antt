-- What callers of the curves use: a range of the argument gives a range of the result, by its ends alone; and the ranges that the board needs. Assumes nothing.
use mathlib.Core.Bool.{Bool, true, false, not, true≢false, ◌&&◌}
use Prim.Native.Nat.{ℕ, ◌+◌, ◌-◌, ◌*◌, ◌/◌, ◌%◌, ◌^◌}
use native.Mathlib.Omega.{arith}
use lib.IntN.{pos, negsuc}
use lib.Dec.{T, T_not, not_T}
use lib.Ieee.{Float, nan, inf, fin, binary32, of_bits, lt, le, eq, ne, fits, is_nan}
use lib.Ieee.Bits.{of_bits-fits}
use lib.Ieee.Fits.{and_l, and_r}
use lib.Ieee.Positive.{num, den}
use Rattle.series.specs.Horner.{horner}
use Rattle.series.specs.Near.{Relative}
use Rattle.fixed.specs.Fixed.{sign_of, place_of, size_of}
use Rattle.fixed.proofs.Fields.{cond_fits}
use Rattle.fixed.proofs.Order.{le_make, not_lt, not_le, le_left, lt_not_le}
use Rattle.line.proofs.Mono.{Good, le_trans_good}
use Rattle.line.proofs.Range.{In, ends, inside, between, good, good_of}
use Rattle.power.specs.Exact.{ten_num, ten_den}
use Rattle.power.specs.Near.{Pow10Near}
use Rattle.power.specs.Power.{fraction_of, power_of, zero_f, exp2_low, exp2_high, exp_low, ten_low, ten_high, log2_e, product_of, fall_of, exp2_of, exp_of, pow10_of}
use Rattle.power.proofs.Curves.{pow10_near}
use Rattle.power.proofs.Order.{exp2_mono, exp_mono}

-- ---- the results are floats of the format
power_fits : (w : ℕ) → T (fits binary32 (power_of w))
unfolding power_of
power_fits w = of_bits-fits binary32 ((w / 4294967296 - 2) * 8388608 + (fraction_of (w % 4294967296) + 256) / 512)

pub exp2_fits : (t : Float) → T (fits binary32 (exp2_of t))
unfolding exp2_of fits
exp2_fits t = cond_fits (ne t t) nan _ tt (cond_fits (lt t exp2_low) zero_f _ tt (cond_fits (le exp2_high t) (inf false) _ tt (power_fits (place_of t))))

pub exp_fits : (t : Float) → T (fits binary32 (exp_of t))
unfolding exp_of fall_of fits
exp_fits t = cond_fits (le exp_low t && le t zero_f) (power_of (549755813888 - product_of (size_of t) log2_e)) nan (power_fits (549755813888 - product_of (size_of t) log2_e)) tt

-- ---- ranges by their ends
low_good : Good binary32 exp2_low
low_good = unfold fits in (tt, tt)

high_good : Good binary32 exp2_high
high_good = unfold fits in (tt, tt)

pub below : (t b : Float) → Good binary32 t → Good binary32 b → T (le t b) → T (lt b exp2_high) → T (lt t exp2_high)
below t b g k h l =
    not_le exp2_high t (unfold is_nan in tt) (le_left t b h) (not_T (le exp2_high t) (λ u. T_not (le exp2_high b) (lt_not_le b exp2_high l) (le_trans_good binary32 exp2_high t b high_good g k u h)))

module _ (lo hi : Float) where
  -- what the two ends are to pass
  abbrev pub exp2_t : Float → Float → Bool
  exp2_t a b = (le exp2_low a && lt b exp2_high) && (ends binary32 lo hi && (inside lo hi (exp2_of a) && inside lo hi (exp2_of b)))

  pub exp2_in : {a b t : Float} → In binary32 a b t → T (exp2_t a b) → In binary32 lo hi (exp2_of t)
  exp2_in {a} {b} {t} h k =
      let p = and_l (le exp2_low a && lt b exp2_high) (ends binary32 lo hi && (inside lo hi (exp2_of a) && inside lo hi (exp2_of b))) k in
      let q = and_r (le exp2_low a && lt b exp2_high) (ends binary32 lo hi && (inside lo hi (exp2_of a) && inside lo hi (exp2_of b))) k in
      let e = and_l (ends binary32 lo hi) (inside lo hi (exp2_of a) && inside lo hi (exp2_of b)) q in
      let i = and_r (ends binary32 lo hi) (inside lo hi (exp2_of a) && inside lo hi (exp2_of b)) q in
      let al = and_l (le exp2_low a) (lt b exp2_high) p in
      let bh = and_r (le exp2_low a) (lt b exp2_high) p in
      let tl = le_trans_good binary32 exp2_low a t low_good h.low h.ok al h.from in
      let bl = le_trans_good binary32 exp2_low t b low_good h.ok h.high tl h.upto in
      let th = below t b h.ok h.high h.upto bh in
      let ah = below a t h.low h.ok h.from th in
      between binary32 lo hi (exp2_of a) (exp2_of b) (exp2_of t) (good_of binary32 lo (and_l (good binary32 lo) (good binary32 hi) e)) (good_of binary32 hi (and_r (good binary32 lo) (good binary32 hi) e))
      (exp2_fits a) (exp2_fits b) (exp2_fits t) (and_l (inside lo hi (exp2_of a)) (inside lo hi (exp2_of b)) i) (and_r (inside lo hi (exp2_of a)) (inside lo hi (exp2_of b)) i)
      (exp2_mono a t al ah h.from tl th) (exp2_mono t b tl th h.upto bl bh)

  abbrev pub exp_t : Float → Float → Bool
  exp_t a b = (le exp_low a && le b zero_f) && (ends binary32 lo hi && (inside lo hi (exp_of a) && inside lo hi (exp_of b)))

  pub exp_in : {a b t : Float} → In binary32 a b t → T (exp_t a b) → In binary32 lo hi (exp_of t)
  exp_in {a} {b} {t} h k =
      let p = and_l (le exp_low a && le b zero_f) (ends binary32 lo hi && (inside lo hi (exp_of a) && inside lo hi (exp_of b))) k in
      let q = and_r (le exp_low a && le b zero_f) (ends binary32 lo hi && (inside lo hi (exp_of a) && inside lo hi (exp_of b))) k in
      let e = and_l (ends binary32 lo hi) (inside lo hi (exp_of a) && inside lo hi (exp_of b)) q in
      let i = and_r (ends binary32 lo hi) (inside lo hi (exp_of a) && inside lo hi (exp_of b)) q in
      let al = and_l (le exp_low a) (le b zero_f) p in
      let bh = and_r (le exp_low a) (le b zero_f) p in
      let lg : Good binary32 exp_low = unfold fits in (tt, tt) in
      let zg : Good binary32 zero_f = unfold fits in (tt, tt) in
      let tl = le_trans_good binary32 exp_low a t lg h.low h.ok al h.from in
      let bl = le_trans_good binary32 exp_low t b lg h.ok h.high tl h.upto in
      let th = le_trans_good binary32 t b zero_f h.ok h.high zg h.upto bh in
      let ah = le_trans_good binary32 a t zero_f h.low h.ok zg h.from th in
      between binary32 lo hi (exp_of a) (exp_of b) (exp_of t) (good_of binary32 lo (and_l (good binary32 lo) (good binary32 hi) e)) (good_of binary32 hi (and_r (good binary32 lo) (good binary32 hi) e))
      (exp_fits a) (exp_fits b) (exp_fits t) (and_l (inside lo hi (exp_of a)) (inside lo hi (exp_of b)) i) (and_r (inside lo hi (exp_of a)) (inside lo hi (exp_of b)) i)
      (exp_mono a t al ah h.from tl th) (exp_mono t b tl th h.upto bl bh)

-- ---- the ranges of the board
-- from -1 to 1: from 1 / 2 to 2
pub exp2_octave : {t : Float} → In binary32 (fin true 1 (pos 0)) (fin false 1 (pos 0)) t → In binary32 (fin false 1 (negsuc 0)) (fin false 1 (pos 1)) (exp2_of t)
unfolding exp2_of power_of place_of fraction_of horner of_bits lt le eq ne fits
exp2_octave h = exp2_in (fin false 1 (negsuc 0)) (fin false 1 (pos 1)) h tt

-- from -1 / 2 to 1 / 2: from 1 / 2 to 3 / 2
pub exp2_half : {t : Float} → In binary32 (fin true 1 (negsuc 0)) (fin false 1 (negsuc 0)) t → In binary32 (fin false 1 (negsuc 0)) (fin false 3 (negsuc 0)) (exp2_of t)
unfolding exp2_of power_of place_of fraction_of horner of_bits lt le eq ne fits
exp2_half h = exp2_in (fin false 1 (negsuc 0)) (fin false 3 (negsuc 0)) h tt

-- from -16 to 0: from 2 ^ -16 to 1
pub exp2_gain : {t : Float} → In binary32 (fin true 1 (pos 4)) (fin false 0 (pos 0)) t → In binary32 (fin false 1 (negsuc 15)) (fin false 1 (pos 0)) (exp2_of t)
unfolding exp2_of power_of place_of fraction_of horner of_bits lt le eq ne fits
exp2_gain h = exp2_in (fin false 1 (negsuc 15)) (fin false 1 (pos 0)) h tt

-- from -126 to the last float below 127: from 2 ^ -126 to 2 ^ 127, so finite and above 0
pub exp2_all : {t : Float} → In binary32 (fin true 63 (pos 1)) (fin false 16646143 (negsuc 16)) t → In binary32 (fin false 1 (negsuc 125)) (fin false 1 (pos 127)) (exp2_of t)
unfolding exp2_of power_of place_of fraction_of horner of_bits lt le eq ne fits
exp2_all h = exp2_in (fin false 1 (negsuc 125)) (fin false 1 (pos 127)) h tt

-- from -3 to 0: from 25 / 512 to 1
pub exp_all : {t : Float} → In binary32 (fin true 3 (pos 0)) (fin false 0 (pos 0)) t → In binary32 (fin false 25 (negsuc 8)) (fin false 1 (pos 0)) (exp_of t)
unfolding exp_of fall_of power_of size_of fraction_of horner of_bits lt le eq ne fits
exp_all h = exp_in (fin false 25 (negsuc 8)) (fin false 1 (pos 0)) h tt

-- a power of ten is not negative
plus : (b n d : ℕ) (r : Float) → Relative b n d r → T (le zero_f r)
plus b n d nan h = absurd h
plus b n d (inf s) h = absurd h
plus b n d (fin true m e) h = absurd (true≢false h.0)
plus b n d (fin false m e) h = le_make false 0 (pos 0) false m e (omega arith)

pub pow10_positive : (t : Float) → T (not (is_nan t)) → T (le zero_f (pow10_of t))
pow10_positive t n = go (lt t ten_low) (lt ten_high t) (λ u. u) (λ u. u) (λ u. u) (λ u. u)
  where
    r : Pow10Near t (pow10_of t)
    r = pow10_near t

    go : (x y : Bool) → (T x → T (lt t ten_low)) → (T (not x) → T (not (lt t ten_low))) → (T y → T (lt ten_high t)) → (T (not y) → T (not (lt ten_high t))) → T (le zero_f (pow10_of t))
    go true y f f' g g' = rw (r.low (f tt)) (unfold le lt eq in tt)
    go false true f f' g g' = rw (r.high (g tt)) (unfold le lt eq in tt)
    go false false f f' g g' =
        plus (2 ^ 14) (ten_num (sign_of t) (num t) (den t)) (ten_den (sign_of t) (num t) (den t)) (pow10_of t)
        (r.near (not_lt t ten_low n (unfold is_nan in tt) (f' tt)) (not_lt ten_high t (unfold is_nan in tt) n (g' tt)))
