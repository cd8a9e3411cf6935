-- The place of a number whose size in Q32 is 0: 128, or one unit less below 0. Assumes nothing.
use mathlib.Core.Path.{◌≡◌, sym, subst}
use mathlib.Core.Bool.{true, false}
use Prim.Native.Nat.{ℕ, ◌+◌, ◌*◌, ◌/◌, ◌<◌}
use native.Mathlib.Nat.{div-eq_of_lt-le, lt-div-mul-add}
use native.Mathlib.Omega.{arith}
use lib.IntN.{pos}
use lib.Dec.{T}
use lib.Ieee.{Float, nan, inf, fin, binary32, up, down, lt, is_nan, of_bits}
use Rattle.fixed.specs.Fixed.{small, shifted, size_of, place_of}
use Rattle.fixed.proofs.Fields.{down_pos}
use Rattle.fixed.proofs.Placed.{no_nan, tiny_size, low_from, place_from}
use Rattle.fixed.proofs.Order.{on, off, lt_says, le_says, not_lt}

module _ (a c : ℕ) (cp : 0 < c) (z : 0 ≡ a * 4294967296 / c) where
  few : a * 4294967296 < c
  few = omega (arith, subst (λ (q : ℕ). a * 4294967296 < q * c + c) (sym z) (lt-div-mul-add {a = a * 4294967296} {b = c} cp))

  above : 549755813888 ≡ shifted false a c * 4294967296 / c
  above = sym (div-eq_of_lt-le {k = 549755813888} c (omega (arith, few)) (omega (arith, few)))

  below : 0 < a → 549755813887 ≡ shifted true a c * 4294967296 / c
  below p = sym (div-eq_of_lt-le {k = 549755813887} c (omega (arith, few)) (omega (arith, few)))

  zero : a ≡ 0 → 549755813888 ≡ shifted true a c * 4294967296 / c
  zero e = sym (div-eq_of_lt-le {k = 549755813888} c (omega arith) (omega arith))

pub tiny_below : (t : Float) → T (small t) → 0 ≡ size_of t → lt t (of_bits binary32 0) ≡ true → 549755813887 ≡ place_of t
unfolding small size_of place_of of_bits
tiny_below nan i z l = absurd i
tiny_below (inf s) i z l = absurd i
tiny_below (fin false m e) i z l = absurd (none (lt_says false m e false 0 (pos 0) (on l)))
  where
    none : m * up e * 1 < 0 * 1 * down e → ⊥
    none g = omega arith
tiny_below (fin true m e) i z l = below (m * up e) (down e) (down_pos e) z (some (lt_says true m e false 0 (pos 0) (on l)))
  where
    some : 0 < m * up e * 1 + 0 * 1 * down e → 0 < m * up e
    some g = omega arith

pub tiny_above : (t : Float) → T (small t) → 0 ≡ size_of t → lt t (of_bits binary32 0) ≡ false → 549755813888 ≡ place_of t
unfolding small size_of place_of is_nan of_bits
tiny_above nan i z l = absurd i
tiny_above (inf s) i z l = absurd i
tiny_above (fin false m e) i z l = above (m * up e) (down e) (down_pos e) z
tiny_above (fin true m e) i z l = zero (m * up e) (down e) (down_pos e) z (none (le_says false 0 (pos 0) true m e (not_lt (fin true m e) (fin false 0 (pos 0)) tt tt (off l))))
  where
    none : (0 * 1 * down e ≡ 0) × (m * up e * 1 ≡ 0) → m * up e ≡ 0
    none g = omega arith

-- what `spot` needs
pub ruleset spots = (no_nan, tiny_size, low_from, place_from, tiny_below, tiny_above)
