-- The three curves keep their distances, for every argument. Assumes nothing.
use mathlib.Core.Path.{◌≡◌, refl, ◌∙◌}
use mathlib.Core.Bool.{Bool, true, false, not, ◌&&◌, cond}
use Prim.Native.Nat.{ℕ, ◌+◌, ◌*◌, ◌/◌, ◌%◌, ◌^◌, ◌≤◌, ◌<◌}
use native.Mathlib.Nat.{le_of_lt, mul-pos, mul-one, zero-mul, zero-div}
use native.Mathlib.Omega.{arith}
use lib.IntN.{ℤ, pos}
use lib.Dec.{T, lt→ltb, nltb→le, lit<, lit≤}
use lib.Ieee.{Float, nan, inf, fin, up, down, lt, le, ne, eq}
use lib.Ieee.Bits.{is_true, is_false}
use lib.Ieee.Fits.{and_i}
use lib.Ieee.Positive.{num, den}
use lib.Ieee.Exact.{HasValue}
use Rattle.series.specs.Near.{Relative}
use Rattle.series.proofs.Nearness.{relative_looser}
use Rattle.fixed.specs.Fixed.{shifted, small, sign_of, place_of, size_of}
use Rattle.fixed.proofs.Fields.{down_pos}
use Rattle.fixed.proofs.Order.{le_says, lt_says, le_not_lt, lt_not_le, lt_left, le_left, le_right, lt_le, same_number}
use Rattle.power.specs.Exact.{two_num, two_den, e_num, e_den, ten_num, ten_den}
use Rattle.power.specs.Power.{zero_f, exp2_low, exp2_high, exp_low, ten_low, ten_high, log2_e, log2_ten, product_of, power_of, fall_of, rise_of, exp2_of, exp_of, pow10_of}
use Rattle.power.specs.Near.{Exp2Near, ExpNear, Pow10Near}
use Rattle.power.proofs.Reduction.{spot_near, base_near}
use Rattle.power.proofs.Whole.{whole}

-- ---- exp2
pub exp2_lo : (s : Bool) (m : ℕ) (e : ℤ) → T (le exp2_low (fin s m e)) → 2 * down e ≤ shifted s (m * up e) (down e)
exp2_lo true m e h = let g = le_says true 63 (pos 1) true m e h in omega arith
exp2_lo false m e h = omega arith

pub exp2_hi : (s : Bool) (m : ℕ) (e : ℤ) → T (lt (fin s m e) exp2_high) → shifted s (m * up e) (down e) < 255 * down e
exp2_hi true m e h = omega (arith, down_pos e)
exp2_hi false m e h = let g = lt_says false m e false 127 (pos 0) h in omega arith

small_of : (s : Bool) (a c : ℕ) → 0 < c → 2 * c ≤ shifted s a c → shifted s a c < 255 * c → a < 128 * c
small_of true a c p l h = omega arith
small_of false a c p l h = omega arith

-- from -126 to below 127
pub exp2_small : (t : Float) → T (le exp2_low t) → T (lt t exp2_high) → T (small t)
unfolding small lt le eq
exp2_small nan h k = k
exp2_small (inf true) h k = h
exp2_small (inf false) h k = k
exp2_small (fin s m e) h k = lt→ltb (m * up e) (128 * down e) (small_of s (m * up e) (down e) (down_pos e) (exp2_lo s m e h) (exp2_hi s m e k))

exp2_inside : (t : Float) → T (le exp2_low t) → T (lt t exp2_high) → Relative (2 ^ 20) (two_num (sign_of t) (num t) (den t)) (two_den (sign_of t) (num t) (den t)) (power_of (place_of t))
unfolding place_of sign_of lt le eq
exp2_inside nan h k = absurd k
exp2_inside (inf true) h k = absurd h
exp2_inside (inf false) h k = absurd k
exp2_inside (fin s m e) h k = spot_near s (m * up e) (down e) (down_pos e) (exp2_lo s m e h) (exp2_hi s m e k)

exp2_whole : (t : Float) → T (le exp2_low t) → T (lt t exp2_high) → num t % den t ≡ 0 → HasValue (power_of (place_of t)) false (two_num (sign_of t) (num t) (den t)) (two_den (sign_of t) (num t) (den t))
unfolding place_of sign_of lt le eq
exp2_whole nan h k z = absurd k
exp2_whole (inf true) h k z = absurd h
exp2_whole (inf false) h k z = absurd k
exp2_whole (fin s m e) h k z =
    let lo = exp2_lo s m e h in
    let hi = exp2_hi s m e k in
    whole s (m * up e) (down e) (down_pos e) lo hi (le_of_lt (small_of s (m * up e) (down e) (down_pos e) lo hi)) z

-- at or above 127 is not below -126, and above 37 not below -37
above : (n : ℕ) → 0 < n → (t : Float) → T (le (fin false n (pos 0)) t) → (low : ℕ) (d : ℤ) → T (not (lt t (fin true low d)))
unfolding lt le eq
above n p nan h low d = tt
above n p (inf true) h low d = absurd h
above n p (inf false) h low d = tt
above n p (fin false m e) h low d = tt
above n p (fin true m e) h low d = absurd (none (le_says false n (pos 0) true m e h).0)
  where
    none : n * 1 * down e ≡ 0 → ⊥
    none z = let g = mul-pos p (down_pos e) in omega (arith, mul-one n)

pub exp2_middle : (t : Float) → T (le exp2_low t) → T (lt t exp2_high) → exp2_of t ≡ power_of (place_of t)
unfolding exp2_of
exp2_middle t h k = rw (same_number t (lt_left t exp2_high k), is_false (lt t exp2_low) (le_not_lt exp2_low t h), is_false (le exp2_high t) (lt_not_le t exp2_high k))

exp2_no_number : (t : Float) → t ≡ nan → exp2_of t ≡ nan
unfolding exp2_of ne eq
exp2_no_number t e = rw e

exp2_low_lem : (t : Float) → T (lt t exp2_low) → exp2_of t ≡ zero_f
unfolding exp2_of
exp2_low_lem t h = rw (same_number t (lt_left t exp2_low h), is_true (lt t exp2_low) h)

exp2_high_lem : (t : Float) → T (le exp2_high t) → exp2_of t ≡ inf false
unfolding exp2_of
exp2_high_lem t h = rw (same_number t (le_right exp2_high t h), is_false (lt t exp2_low) (above 127 (lit< tt) t h 63 (pos 1)), is_true (le exp2_high t) h)

pub exp2_near : (t : Float) → Exp2Near t (exp2_of t)
exp2_near t = record {
  no_number = exp2_no_number t;
  low = exp2_low_lem t;
  high = exp2_high_lem t;
  near = λ h k. rw (exp2_middle t h k) (relative_looser 1048575 262143 (two_num (sign_of t) (num t) (den t)) (two_den (sign_of t) (num t) (den t)) (power_of (place_of t)) (lit< tt) (lit≤ tt) (exp2_inside t h k));
  whole = λ h k z. rw (exp2_middle t h k) (exp2_whole t h k z);
}

-- ---- exp
pub exp_size : (s : Bool) (m : ℕ) (e : ℤ) → T (le exp_low (fin s m e)) → T (le (fin s m e) zero_f) → m * up e ≤ 3 * down e
exp_size true m e h k = let g = le_says true 3 (pos 0) true m e h in omega arith
exp_size false m e h k = let g = le_says false m e false 0 (pos 0) k in omega (arith, down_pos e)

-- at 0 the powers below and above 1 are one
nought : (a c k : ℕ) → a ≡ 0 → a * 4294967296 / c * k / 4294967296 ≡ 0
nought a c k z = rw (z, zero-mul 4294967296, zero-div c, zero-mul k) refl

exp_inside : (t : Float) → T (le exp_low t) → T (le t zero_f) → Relative (2 ^ 20) (e_num (sign_of t) (num t) (den t)) (e_den (sign_of t) (num t) (den t)) (fall_of log2_e t)
unfolding fall_of size_of sign_of e_num e_den lt le eq
exp_inside nan h k = absurd k
exp_inside (inf true) h k = absurd h
exp_inside (inf false) h k = absurd k
exp_inside (fin true m e) h k = base_near 144269504088896 log2_e 3 (lit≤ tt) (lit≤ tt) (lit≤ tt) (lit≤ tt) (lit≤ tt) (m * up e) (down e) (down_pos e) (exp_size true m e h k) true
exp_inside (fin false m e) h k =
    let z : m * up e ≡ 0 = let g = le_says false m e false 0 (pos 0) k in omega (arith, mul-one (m * up e)) in
    rw (nought (m * up e) (down e) log2_e z)
    (rw (nought (m * up e) (down e) log2_e z) at (base_near 144269504088896 log2_e 3 (lit≤ tt) (lit≤ tt) (lit≤ tt) (lit≤ tt) (lit≤ tt) (m * up e) (down e) (down_pos e) (exp_size false m e h k) false))

pub exp_near : (t : Float) → ExpNear t (exp_of t)
exp_near t = record {
  near = λ h k. unfold exp_of in rw (is_true (le exp_low t && le t zero_f) (and_i (le exp_low t) (le t zero_f) h k)) (relative_looser 1048575 262143 (e_num (sign_of t) (num t) (den t)) (e_den (sign_of t) (num t) (den t)) (fall_of log2_e t) (lit< tt) (lit≤ tt) (exp_inside t h k));
  elsewhere = λ h. unfold exp_of in rw (is_false (le exp_low t && le t zero_f) h);
}

-- ---- pow10
pub ten_size : (s : Bool) (m : ℕ) (e : ℤ) → T (le ten_low (fin s m e)) → T (le (fin s m e) ten_high) → m * up e ≤ 37 * down e
ten_size true m e h k = let g = le_says true 37 (pos 0) true m e h in omega arith
ten_size false m e h k = let g = le_says false m e false 37 (pos 0) k in omega arith

ten_base : (s : Bool) (m : ℕ) (e : ℤ) → m * up e ≤ 37 * down e
    → Relative (2 ^ 20) (ten_num s (m * up e) (down e)) (ten_den s (m * up e) (down e)) (power_of (shifted s (m * up e * 4294967296 / down e * log2_ten / 4294967296) 4294967296))
unfolding ten_num ten_den
ten_base s m e h = base_near 332192809488736 log2_ten 37 (lit≤ tt) (lit≤ tt) (lit≤ tt) (lit≤ tt) (lit≤ tt) (m * up e) (down e) (down_pos e) h s

ten_fall : (t : Float) → T (le ten_low t) → T (le t ten_high) → T (lt t zero_f) → Relative (2 ^ 20) (ten_num (sign_of t) (num t) (den t)) (ten_den (sign_of t) (num t) (den t)) (fall_of log2_ten t)
unfolding fall_of size_of sign_of lt le eq
ten_fall nan h k l = absurd l
ten_fall (inf true) h k l = absurd h
ten_fall (inf false) h k l = absurd k
ten_fall (fin true m e) h k l = ten_base true m e (ten_size true m e h k)
ten_fall (fin false m e) h k l = absurd (none (lt_says false m e false 0 (pos 0) l))
  where
    none : m * up e * 1 < 0 * 1 * down e → ⊥
    none g = omega arith

ten_rise : (t : Float) → T (le ten_low t) → T (le t ten_high) → T (not (lt t zero_f)) → Relative (2 ^ 20) (ten_num (sign_of t) (num t) (den t)) (ten_den (sign_of t) (num t) (den t)) (rise_of log2_ten t)
unfolding rise_of size_of sign_of lt le eq
ten_rise nan h k l = absurd h
ten_rise (inf true) h k l = absurd h
ten_rise (inf false) h k l = absurd k
ten_rise (fin false m e) h k l = ten_base false m e (ten_size false m e h k)
ten_rise (fin true m e) h k l =
    let g = nltb→le 0 (m * up e * 1 + 0 * 1 * down e) l in
    let z : m * up e ≡ 0 = omega arith in
    rw (nought (m * up e) (down e) log2_ten z) (rw (nought (m * up e) (down e) log2_ten z) at (ten_base true m e (ten_size true m e h k)))

ten_inside : (t : Float) → T (le ten_low t) → T (le t ten_high) → Relative (2 ^ 20) (ten_num (sign_of t) (num t) (den t)) (ten_den (sign_of t) (num t) (den t)) (cond (lt t zero_f) (fall_of log2_ten t) (rise_of log2_ten t))
ten_inside t h k = go (lt t zero_f) (ten_fall t h k) (ten_rise t h k)
  where
    go : (b : Bool) → (T b → Relative (2 ^ 20) (ten_num (sign_of t) (num t) (den t)) (ten_den (sign_of t) (num t) (den t)) (fall_of log2_ten t))
        → (T (not b) → Relative (2 ^ 20) (ten_num (sign_of t) (num t) (den t)) (ten_den (sign_of t) (num t) (den t)) (rise_of log2_ten t))
        → Relative (2 ^ 20) (ten_num (sign_of t) (num t) (den t)) (ten_den (sign_of t) (num t) (den t)) (cond b (fall_of log2_ten t) (rise_of log2_ten t))
    go true f g = f tt
    go false f g = g tt

ten_middle : (t : Float) → T (le ten_low t) → T (le t ten_high) → pow10_of t ≡ cond (lt t zero_f) (fall_of log2_ten t) (rise_of log2_ten t)
unfolding pow10_of
ten_middle t h k = rw (same_number t (le_left t ten_high k), is_false (lt t ten_low) (le_not_lt ten_low t h), is_false (lt ten_high t) (le_not_lt t ten_high k))

pub ten_is : (t : Float) → T (le ten_low t) → T (le t ten_high) → pow10_of t ≡ power_of (shifted (lt t zero_f) (product_of (size_of t) log2_ten) 4294967296)
unfolding fall_of rise_of
ten_is t h k = ten_middle t h k ∙ go (lt t zero_f)
  where
    go : (b : Bool) → cond b (fall_of log2_ten t) (rise_of log2_ten t) ≡ power_of (shifted b (product_of (size_of t) log2_ten) 4294967296)
    go true = refl
    go false = refl

ten_no_number : (t : Float) → t ≡ nan → pow10_of t ≡ nan
unfolding pow10_of ne eq
ten_no_number t e = rw e

ten_low_lem : (t : Float) → T (lt t ten_low) → pow10_of t ≡ zero_f
unfolding pow10_of
ten_low_lem t h = rw (same_number t (lt_left t ten_low h), is_true (lt t ten_low) h)

ten_high_lem : (t : Float) → T (lt ten_high t) → pow10_of t ≡ inf false
unfolding pow10_of
ten_high_lem t h = rw (same_number t (le_right ten_high t (lt_le ten_high t h)), is_false (lt t ten_low) (above 37 (lit< tt) t (lt_le ten_high t h) 37 (pos 0)), is_true (lt ten_high t) h)

pub pow10_near : (t : Float) → Pow10Near t (pow10_of t)
pow10_near t = record {
  no_number = ten_no_number t;
  low = ten_low_lem t;
  high = ten_high_lem t;
  near = λ h k. rw (ten_middle t h k) (relative_looser 1048575 16383 (ten_num (sign_of t) (num t) (den t)) (ten_den (sign_of t) (num t) (den t)) (cond (lt t zero_f) (fall_of log2_ten t) (rise_of log2_ten t)) (lit< tt) (lit≤ tt) (ten_inside t h k));
}
