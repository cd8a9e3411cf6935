-- From a range by its ends to the range of a curve; and what the frame's signed words, the two-power and a quotient give. Assumes nothing.
use Prim.Native.Nat.{ℕ, ◌-◌, ◌*◌, ◌^◌, ◌≤◌, ◌<◌}
use native.Mathlib.Omega.{arith}
use mathlib.Core.Path.{sym, subst}
use mathlib.Core.Bool.{Bool, true, false, not, cond}
use mathlib.Core.List.{List}
use lib.Dec.{T, ltb, ltb→lt, nltb→le, le→leb, lit<}
use lib.IntN.{pos, negsuc}
use lib.Pow.{pow_pos}
use lib.Ieee.{Float, Format, binary32, fin, low, neg, div, le, lt, eq, ne, fits, of_bits, of_int, round}
use lib.Ieee.Fits.{and_i}
use lib.Ieee.Scale.{round_same}
use lib.Ieee.Positive.{value_pos}
use Rattle.line.proofs.Units.{Is, div_is, neg_is}
use Rattle.line.proofs.Mono.{Under, units_of, good_is, good_under, round_le, le_trans_good}
use Rattle.line.proofs.Rounds.{sign}
use Rattle.line.proofs.Range.{In}
use Rattle.line.proofs.Whole.{of_int_in}
use Rattle.float.specs.Consts.{k0, k1, k64, k32768}
use Rattle.float.specs.Ops.{◌⊘◌}
use Rattle.frame.specs.Frame.{Bytes, signed_f, word_at}
use Rattle.frame.proofs.Sizes.{word_in}
use Rattle.series.specs.Horner.{horner}
use Rattle.fixed.specs.Fixed.{place_of}
use Rattle.power.specs.Power.{zero_f, exp2_low, fraction_of, power_of, exp2_of}
use Rattle.power.proofs.Laws.{below, exp2_in}
use Rattle.sine.specs.Sine.{up_to}
use Rattle.ranges.specs.Ranges.{InExp2, InExp}

-- from 0 to b, as sine and tangent ask for it
pub up_to_lem : {b x : Float} → In binary32 zero_f b x → T (up_to b x)
up_to_lem {b} {x} h = and_i (le zero_f x) (le x b) h.from h.upto

-- ---- from -64 to 64: in the range of exp2, whose answer is finite
abbrev pub Small : Float → Type 0
Small x = In binary32 (neg k64) k64 x

pub small_call : {x : Float} → Small x → InExp2 x
unfolding of_bits
small_call {x} h =
    (unfold fits neg le in le_trans_good binary32 exp2_low (neg k64) x (tt, tt) h.low h.ok tt h.from, below x k64 h.ok h.high h.upto (unfold lt in tt))

-- 2 ^ 64
abbrev pub top : Float
top = fin false 1 (pos 64)

pub small_power : {x : Float} → Small x → In binary32 zero_f top (exp2_of x)
unfolding exp2_of power_of place_of fraction_of horner of_bits neg lt le eq ne fits
small_power h = exp2_in zero_f top h tt

-- from 0 on it is at least 1
pub up_power : {x : Float} → In binary32 k0 k64 x → In binary32 k1 top (exp2_of x)
unfolding exp2_of power_of place_of fraction_of horner of_bits lt le eq ne fits
up_power h = exp2_in k1 top h tt

-- ---- a signed word
pub signed_in : (f : List ℕ) → Bytes f → (o : ℕ) → In binary32 (neg k32768) k32768 (signed_f f o)
unfolding of_bits of_int round fits le lt eq neg
signed_in f h o = by (word_at f o) (word_in f h o) (ltb (word_at f o) 32768) (ltb→lt (word_at f o) 32768) (nltb→le (word_at f o) 32768)
  where
    by : (w : ℕ) → w ≤ 65535 → (b : Bool) → (T b → w < 32768) → (T (not b) → 32768 ≤ w) → In binary32 (neg k32768) k32768 (of_int binary32 (cond b (pos w) (negsuc (65535 - w))))
    by w k true l g = let i = l tt in of_int_in binary32 (negsuc 32767) (pos 32767) (neg k32768) k32768 (pos w) tt (le→leb w 32767 (omega arith)) tt
    by w k false l g = let i = g tt in of_int_in binary32 (negsuc 32767) (pos 32767) (neg k32768) k32768 (negsuc (65535 - w)) (le→leb (65535 - w) 32767 (omega arith)) tt tt

-- ---- what is not above 0, over what is at least as great, lies from -3 to 0
module _ (f : Format) (x y : Float) (u r : ℕ) (X : Is f x true u) (Y : Is f y false r) (R : 0 < r) (l : u ≤ r) where
  quotient_low : T (le (round f true 3 1) (div f x y))
  quotient_low =
      subst (λ (z : Float). T (le (round f true 3 1) z)) (sym (div_is f x y true u false r X Y R))
      (subst (λ (z : Float). T (le z (round f true u r))) (round_same f true (3 * r) r 3 1 R (lit< tt) (omega arith)) (round_le f true (3 * r) true u r R (omega arith)))

  quotient_high : T (le (div f x y) (round f false 0 1))
  quotient_high =
      subst (λ (z : Float). T (le z (round f false 0 1))) (sym (div_is f x y true u false r X Y R))
      (subst (λ (z : Float). T (le (round f true u r) z)) (round_same f false 0 r 0 1 R (lit< tt) (omega arith)) (round_le f true u false 0 r R (omega arith)))

-- -1 over what is at least 1
pub quotient_call : {b y : Float} → In binary32 k1 b y → InExp (neg k1 ⊘ y)
unfolding of_bits
quotient_call {b} {y} h = by (sign y) (good_is binary32 y h.ok) (good_under binary32 k1 y h.low h.ok h.from)
  where
    u : ℕ
    u = units_of binary32 k1 h.low

    r : ℕ
    r = units_of binary32 y h.ok

    some : 0 < u
    some = value_pos k1 u (2 ^ low binary32) tt (pow_pos (low binary32)) (good_is binary32 k1 h.low)

    by : (s : Bool) → Is binary32 y s r → Under false u s r → InExp (neg k1 ⊘ y)
    by true i l = absurd (omega (arith, some))
    by false i l =
        let X = neg_is binary32 k1 false u (good_is binary32 k1 h.low) in
        unfold round in (quotient_low binary32 (neg k1) y u r X i (omega (arith, some)) l, quotient_high binary32 (neg k1) y u r X i (omega (arith, some)) l)
