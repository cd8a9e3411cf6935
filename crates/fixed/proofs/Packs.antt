-- A fixed-point number as a float, to one part in 2 ^ 24: 25 leading digits are kept, and one is added before the last is dropped. Assumes nothing.
use mathlib.Core.Path.{◌≡◌, sym, ap, ◌∙◌, subst}
use Prim.Native.Nat.{ℕ, suc, ◌+◌, ◌-◌, ◌*◌, ◌/◌, ◌%◌, ◌^◌, ◌≤◌, ◌<◌}
use mathlib.Core.Bool.{false}
use native.Mathlib.Nat.{le_trans, le_of_eq, mul-le-mul_right, le_of_mul-le-mul_right, mul-le-mul, lt_irrefl, lt_of_not-le, lt_of_lt_of_le}
use native.Mathlib.Omega.{arith}
use lib.Dec.{T}
use lib.Count.{count_leading_zeros, leading_top}
use lib.Pow.{pow_pos, pow-add, pow_mono, shl_exact, shl_lt}
use lib.Ieee.{binary32, fits}
use lib.Ieee.Bits.{of_bits-fits}
use lib.Ieee.Exact.{HasValue}
use Rattle.series.specs.Near.{Relative}
use Rattle.series.proofs.Algebra.{ac}
use Rattle.series.proofs.Nearness.{relative_value}
use Rattle.fixed.specs.Fixed.{pack_of}
use Rattle.fixed.proofs.Fields.{pattern_carry, bits_no_nan}

-- the numbers, with the powers of two as they are: X * K * Z = F * W
low : (B b q m X K Z F W : ℕ) → 0 < Z → X * K * Z ≡ F * W → B * (q * Z) ≤ b * (m * F) → B * q * W ≤ b * (m * X) * K
low B b q m X K Z F W p e h = le_of_mul-le-mul_right {k = Z} (simp ac (omega (arith, simp ac at (mul-le-mul_right W h), simp ac at (ap (λ (w : ℕ). w * (b * m)) e)))) p

high : (B b q m X K Z F W : ℕ) → 0 < Z → X * K * Z ≡ F * W → b * (m * F) ≤ B * (q * Z) → b * (m * X) * K ≤ B * q * W
high B b q m X K Z F W p e h = le_of_mul-le-mul_right {k = Z} (simp ac (omega (arith, simp ac at (mul-le-mul_right W h), simp ac at (ap (λ (w : ℕ). w * (b * m)) e)))) p

module _ (q k : ℕ) (fit : q < 18446744073709551616) (qp : 0 < q) (kl : k ≤ 120) where
  abbrev z : ℕ
  z = count_leading_zeros 64 q

  tops : (j : ℕ) × (z + suc j ≡ 64) × (2 ^ j ≤ q) × (q < 2 ^ suc j)
  tops = leading_top 64 q qp fit

  pub z_lt : count_leading_zeros 64 q < 64
  z_lt = omega (arith, tops.1)

  pub shl_is : q * 2 ^ count_leading_zeros 64 q % 18446744073709551616 ≡ q * 2 ^ count_leading_zeros 64 q
  shl_is = shl_exact (suc tops.0) z 64 tops.3 (omega (arith, tops.1))

  top_lo : 9223372036854775808 ≤ q * 2 ^ z
  top_lo = le_trans (le_of_eq (ap (λ (i : ℕ). 2 ^ i) sum ∙ pow-add 2 tops.0 z)) (mul-le-mul_right (2 ^ z) tops.2)
    where
      sum : 63 ≡ tops.0 + z
      sum = omega (arith, tops.1)

  top_hi : q * 2 ^ z < 18446744073709551616
  top_hi = subst (λ (i : ℕ). q * 2 ^ z < 2 ^ i) sum (shl_lt (suc tops.0) z tops.3)
    where
      sum : suc tops.0 + z ≡ 64
      sum = omega (arith, tops.1)

  abbrev m : ℕ
  m = (q * 2 ^ z / 549755813888 + 1) / 2

  m_lo : 8388608 ≤ m
  m_lo = omega (arith, top_lo)

  m_hi : m ≤ 16777216
  m_hi = omega (arith, top_hi)

  powers : 2 ^ (189 - z - k) * 2 ^ k * 2 ^ z ≡ 1099511627776 * 2 ^ 149
  powers = ap (λ (w : ℕ). w * 2 ^ z) (sym (pow-add 2 (189 - z - k) k)) ∙ sym (pow-add 2 (189 - z - k + k) z) ∙ ap (λ (i : ℕ). 2 ^ i) sum
    where
      sum : 189 - z - k + k + z ≡ 189
      sum = omega (arith, z_lt)

  pub pack_value : HasValue (pack_of q k) false ((q * 2 ^ count_leading_zeros 64 q / 549755813888 + 1) / 2 * 2 ^ (189 - count_leading_zeros 64 q - k)) (2 ^ 149)
  unfolding pack_of
  pack_value = pattern_carry (189 - z - k) m (omega arith) m_lo m_hi

  pub packed : Relative 16777216 q (2 ^ k) (pack_of q k)
  packed =
      relative_value 16777216 q (2 ^ k) (m * 2 ^ (189 - z - k)) (2 ^ 149) (pack_of q k) (pow_pos 149)
      pack_value
      (low 16777215 16777216 q m (2 ^ (189 - z - k)) (2 ^ k) (2 ^ z) 1099511627776 (2 ^ 149) (pow_pos z) powers (omega (arith, top_lo)))
      (high 16777217 16777216 q m (2 ^ (189 - z - k)) (2 ^ k) (2 ^ z) 1099511627776 (2 ^ 149) (pow_pos z) powers (omega (arith, top_lo)))

  -- what is below 1 is packed to at most 1
  pub pack_le_one : k ≤ 64 → q < 2 ^ k → (q * 2 ^ count_leading_zeros 64 q / 549755813888 + 1) / 2 * 2 ^ (189 - count_leading_zeros 64 q - k) ≤ 2 ^ 149
  pack_le_one kw h = mul-le-mul {n₁ = m} {m₁ = 2 ^ (189 - z - k)} {n₂ = 16777216} {m₂ = 2 ^ 125} m_hi (pow_mono short)
    where
      fewer : tops.0 < k
      fewer = lt_of_not-le (λ (g : k ≤ tops.0). lt_irrefl q (lt_of_lt_of_le h (le_trans (pow_mono g) tops.2)))

      short : 189 - z - k ≤ 125
      short = omega (arith, fewer, tops.1)

  pub bits_lt : (189 - count_leading_zeros 64 q - k) * 8388608 + (q * 2 ^ count_leading_zeros 64 q / 549755813888 + 1) / 2 < 2139095040
  bits_lt = omega (arith, m_hi)

-- ---- what is packed is a float of the format
pub pack_fits : (q k : ℕ) → T (fits binary32 (pack_of q k))
unfolding pack_of
pack_fits q k = of_bits-fits binary32 ((189 - count_leading_zeros 64 q - k) * 8388608 + (q * 2 ^ count_leading_zeros 64 q / 549755813888 + 1) / 2)

-- what `pack` needs
pub ruleset packs = (z_lt, shl_is, packed, bits_lt, bits_no_nan)
