-- A minus sign is one more in the highest place of the pattern. Assumes nothing.
use mathlib.Core.Path.{◌≡◌, refl, sym, ap, ◌∙◌, subst}
use mathlib.Core.Bool.{Bool, true, false, not, true≢false}
use Prim.Native.Nat.{ℕ, ◌+◌, ◌*◌, ◌/◌, ◌%◌, ◌≤◌, ◌<◌}
use native.Mathlib.Nat.{add-zero}
use native.Mathlib.Omega.{arith}
use lib.IntN.{ℤ}
use lib.Dec.{T, leb→le, nleb→lt}
use lib.Ieee.{Float, nan, inf, fin, binary32, fits, is_nan, neg, of_bits, to_bits, nan_bits}
use lib.Ieee.Bits.{of_bits-fits, of_bits-to_bits, to_bits-lt, nan_bits_is}
use lib.Ieee.Fits.{neg-fits}
use Rattle.series.specs.Near.{Relative}
use Rattle.fixed.specs.Fixed.{pack_of}
use Rattle.fixed.proofs.Order.{on, off}
use Rattle.sine.specs.Exact.{lower}
use Rattle.sine.specs.Sine.{signed}

-- of a value that is not negative
to_bits_neg : (m : ℕ) (e : ℤ) → to_bits binary32 (fin false m e) + 2147483648 ≡ to_bits binary32 (neg (fin false m e))
unfolding to_bits neg
to_bits_neg m e = omega arith

bits_as : (s : Bool) (m : ℕ) (e : ℤ) (n : ℕ) → T (fits binary32 (fin false m e)) → (s ≡ true → n ≡ 1) → (s ≡ false → n ≡ 0) → of_bits binary32 (to_bits binary32 (fin false m e) + n * 2147483648) ≡ signed s (fin false m e)
bits_as true m e n h a b = ap (λ (i : ℕ). of_bits binary32 (to_bits binary32 (fin false m e) + i * 2147483648)) (a refl) ∙ ap (of_bits binary32) (to_bits_neg m e) ∙ of_bits-to_bits binary32 (neg (fin false m e)) (neg-fits binary32 (fin false m e) h)
bits_as false m e n h a b = ap (λ (i : ℕ). of_bits binary32 (to_bits binary32 (fin false m e) + i * 2147483648)) (b refl) ∙ ap (of_bits binary32) (add-zero (to_bits binary32 (fin false m e))) ∙ of_bits-to_bits binary32 (fin false m e) h

-- v with the sign of k quarter turns
pub record Turned (k : ℕ) (v : Float) : Type 0 where
  pub number : T (not (is_nan v))
  pub room : to_bits binary32 v + k % 4 / 2 * 2147483648 < 4294967296
  pub good : T (not (nan_bits binary32 (to_bits binary32 v + k % 4 / 2 * 2147483648)))
  pub is : of_bits binary32 (to_bits binary32 v + k % 4 / 2 * 2147483648) ≡ signed (lower k) v

module _ (k m : ℕ) (e : ℤ) (h : T (fits binary32 (fin false m e))) where
  abbrev v : Float
  v = fin false m e

  is_signed : of_bits binary32 (to_bits binary32 v + k % 4 / 2 * 2147483648) ≡ signed (lower k) v
  is_signed = bits_as (lower k) m e (k % 4 / 2) h (λ (q : lower k ≡ true). high (leb→le 2 (k % 4) (on q))) (λ (q : lower k ≡ false). low (nleb→lt 2 (k % 4) (off q)))
    where
      high : 2 ≤ k % 4 → k % 4 / 2 ≡ 1
      high l = omega arith

      low : k % 4 < 2 → k % 4 / 2 ≡ 0
      low l = omega arith

  no_nan : (s : Bool) → T (not (is_nan (signed s v)))
  unfolding neg is_nan
  no_nan true = tt
  no_nan false = tt

  below : to_bits binary32 v + k % 4 / 2 * 2147483648 < 4294967296
  below = omega (arith, to_bits_neg m e, to_bits-lt binary32 (neg v) (neg-fits binary32 v h))

  of_plus : Turned k v
  unfolding is_nan
  of_plus =
      record {
        number = tt;
        room = below;
        good = subst (λ (b : Bool). T (not b)) (sym (nan_bits_is binary32 (to_bits binary32 v + k % 4 / 2 * 2147483648))) (subst (λ (u : Float). T (not (is_nan u))) (sym is_signed) (no_nan (lower k)));
        is = is_signed;
      }

pub turned : (k b q d : ℕ) (v : Float) → T (fits binary32 v) → Relative b q d v → Turned k v
turned k b q d nan h w = absurd w
turned k b q d (inf s) h w = absurd w
turned k b q d (fin true m e) h w = absurd (true≢false w.0)
turned k b q d (fin false m e) h w = of_plus k m e h

pub pack_fits : (q k : ℕ) → T (fits binary32 (pack_of q k))
unfolding pack_of
pack_fits q k = of_bits-fits binary32 _
