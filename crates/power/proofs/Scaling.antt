-- A significand of 24 digits times a power of two: both products are exact, so the answer is the exponent's field with the digits. Assumes nothing.
use mathlib.Core.Path.{◌≡◌, refl, ap, ◌∙◌}
use mathlib.Core.Bool.{false}
use mathlib.Core.Logic.{◌⊎◌, inl, inr}
use Prim.Native.Nat.{ℕ, ◌+◌, ◌*◌, ◌^◌, ◌≤◌, ◌<◌}
use native.Mathlib.Nat.{eq-or-lt_of_le, lt_of_le_of_lt, mul-le-mul, mul-one, mul_assoc, mul_right_comm, mul-mul-mul_comm}
use native.Mathlib.Omega.{arith}
use lib.Dec.{lit<, lit≤}
use lib.IntN.{pos}
use lib.Pow.{pow_pos, pow-add, pow_mono}
use lib.Ieee.{Float, binary32, of_bits, of_int, round, mul}
use lib.Ieee.Back.{round_whole}
use lib.Ieee.Bits.{of_bits-fits}
use lib.Ieee.Fits.{mul-fits}
use Rattle.line.proofs.Units.{Is}
use Rattle.line.proofs.Rounds.{Rep}
use Rattle.line.proofs.Exact.{mul_exact, value_unique}
use Rattle.fixed.proofs.Fields.{pattern_carry, value_other}
use Rattle.pow2.specs.Powers.{TwoPower}

-- 24 digits, moved up by j places, are a value of the format
rep : (m j : ℕ) → m ≤ 16777216 → j ≤ 252 → Rep binary32 (m * 2 ^ j)
rep m j h k = go (eq-or-lt_of_le h)
  where
    fine : m * 2 ^ j < 2 ^ 277
    fine = lt_of_le_of_lt (mul-le-mul h (pow_mono k)) (lit< tt)

    carried : (x y : ℕ) → y ≡ 2 * x → 16777216 * x ≡ 8388608 * y
    carried x y e = omega arith

    go : (m ≡ 16777216) ⊎ (m < 16777216) → Rep binary32 (m * 2 ^ j)
    go (inl e) = record { q = 8388608; j = 1 + j; few = lit< tt; is = ap (λ (z : ℕ). z * 2 ^ j) e ∙ carried (2 ^ j) (2 ^ (1 + j)) (pow-add 2 1 j); fine = fine }
    go (inr l) = record { q = m; j = j; few = l; is = refl; fine = fine }

-- 2 ^ -23, as the code has it
abbrev pub q23 : Float
q23 = of_bits binary32 872415232

q23_is : Is binary32 q23 false (2 ^ 126)
unfolding of_bits
q23_is = (refl, refl)

module _ (m : ℕ) (hi : m ≤ 16777216) where
  whole_is : Is binary32 (of_int binary32 (pos m)) false (m * 2 ^ 149)
  unfolding of_int
  whole_is = value_other (round binary32 false m 1) false m 1 (m * 2 ^ 149) (2 ^ 149) (lit< tt) (mul-one (m * 2 ^ 149)) (round_whole binary32 false m hi)

  abbrev significand : Float
  significand = mul binary32 (of_int binary32 (pos m)) q23

  significand_is : Is binary32 significand false (m * 2 ^ 126)
  significand_is = mul_exact binary32 (of_int binary32 (pos m)) q23 false false (m * 2 ^ 149) (2 ^ 126) (m * 2 ^ 126) whole_is q23_is (mul_right_comm m (2 ^ 149) (2 ^ 126)) (rep m 126 hi (lit≤ tt))

  times_is : (i : ℕ) (p : Float) → i < 253 → TwoPower p i → Is binary32 (mul binary32 significand p) false (m * 2 ^ i)
  times_is i p l h =
      mul_exact binary32 significand p false false (m * 2 ^ 126) (2 ^ i * 2 ^ 23) (m * 2 ^ i) significand_is
      (value_other p false (2 ^ i) (2 ^ 126) (2 ^ i * 2 ^ 23) (2 ^ 149) (pow_pos 126) (mul_assoc (2 ^ i) (2 ^ 23) (2 ^ 126)) h)
      (mul-mul-mul_comm m (2 ^ 126) (2 ^ i) (2 ^ 23)) (rep m i hi (omega arith))

pub product_is_pattern : (i m : ℕ) (p : Float) → i < 253 → 8388608 ≤ m → m ≤ 16777216 → TwoPower p i
    → mul binary32 (mul binary32 (of_int binary32 (pos m)) q23) p ≡ of_bits binary32 (i * 8388608 + m)
product_is_pattern i m p l lo hi h =
    value_unique binary32 (mul binary32 (significand m hi) p) (of_bits binary32 (i * 8388608 + m)) false (m * 2 ^ i) (mul-fits binary32 (significand m hi) p) (of_bits-fits binary32 (i * 8388608 + m))
    (times_is m hi i p l h) (pattern_carry i m l lo hi)
