-- The digits and the exponent's field of a number x = a / c from 1 / g on, for a g up to 2 ^ 24. Assumes nothing.
use mathlib.Core.Path.{◌≡◌}
use mathlib.Core.Bool.{Bool}
use Prim.Native.Nat.{ℕ, ◌+◌, ◌-◌, ◌*◌, ◌/◌, ◌%◌, ◌^◌, ◌≤◌, ◌<◌}
use native.Mathlib.Nat.{le_trans, le_of_eq, lt_irrefl, lt_of_lt_of_le, lt_of_le_of_lt, lt_of_not-le, mul-le-mul_left, mul-lt-mul_of_pos_left, mul-lt-mul_of_pos_right, mul-le-mul}
use native.Mathlib.Omega.{arith}
use lib.IntN.{ℤ}
use lib.Dec.{T, leb, lit<, lit≤}
use lib.Pow.{pow_mono, shl_lt}
use lib.Ieee.{fin, binary32, up, down, fits, to_bits}
use lib.Ieee.Fits.{down_pos}
use lib.Ieee.Positive.{first_pos}
use Rattle.series.proofs.Algebra.{ac}
use Rattle.fixed.specs.Fixed.{small}
use Rattle.fixed.proofs.Placed.{Told, told, zero_told}

too_small : (a c d g W : ℕ) → 0 < a → a * W ≡ d * c → c ≤ a * g → d * g < W → ⊥
too_small a c d g W p e h l = lt_irrefl (a * W) (lt_of_le_of_lt (le_trans (le_of_eq e) (le_trans (mul-le-mul_left d h) (le_of_eq (shuffle d a g)))) (mul-lt-mul_of_pos_left l p))
  where
    shuffle : (d a g : ℕ) → d * (a * g) ≡ a * (d * g)
    shuffle d a g = simp ac

module _ (g : ℕ) (gl : g ≤ 16777216) (s : Bool) (m : ℕ) (e : ℤ) (h : T (fits binary32 (fin s m e))) (i : T (small (fin s m e))) (low : down e ≤ m * up e * g) where
  abbrev b : ℕ
  b = to_bits binary32 (fin s m e)

  abbrev f : ℕ
  f = b % 2147483648 / 8388608

  abbrev d : ℕ
  d = b % 8388608 + 8388608

  some : 0 < m * up e
  some = first_pos (m * up e) g (lt_of_lt_of_le (down_pos e) low)

  field_some : f ≡ 0 → ⊥
  field_some z = too_small (m * up e) (down e) (b % 8388608 * 2 ^ 0) g (2 ^ 149) some (zero_told (fin s m e) h i z).1 low (lt_of_lt_of_le (few (b % 8388608) (omega arith)) (lit≤ tt))
    where
      few : (d : ℕ) → d < 8388608 → d * 1 * g < 140737488355328
      few d l = lt_of_le_of_lt (mul-le-mul {n₂ = 8388607} (omega arith) gl) (lit< tt)

  pub parts : Told (fin s m e) (leb 2147483648 (to_bits binary32 (fin s m e))) (to_bits binary32 (fin s m e) % 2147483648 / 8388608) (to_bits binary32 (fin s m e) % 8388608)
  parts = told (fin s m e) h i field_some

  pub field_above : (k : ℕ) → 0 < g → 2 ^ (24 + k) * g ≤ 2 ^ 149 → k + 1 < to_bits binary32 (fin s m e) % 2147483648 / 8388608
  field_above k gp l = lt_of_not-le (λ (n : f ≤ k + 1). too_small (m * up e) (down e) (d * 2 ^ (f - 1)) g (2 ^ 149) some parts.value.1 low (lt_of_lt_of_le (mul-lt-mul_of_pos_right (lt_of_lt_of_le (shl_lt 24 (f - 1) (omega arith)) (pow_mono (omega arith))) gp) l))
