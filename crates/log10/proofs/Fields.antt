-- The fields of a finite float from 10 ^ -6 on: plus, normal, and its exponent's field from 107 to 254. Assumes nothing.
use mathlib.Core.Path.{◌≡◌, refl, sym, ap, ◌∙◌, subst}
use mathlib.Core.Bool.{Bool, true, false, not, cond}
use Prim.Native.Nat.{ℕ, zero, suc, ◌+◌, ◌-◌, ◌*◌, ◌/◌, ◌%◌, ◌^◌, ◌≤◌, ◌<◌}
use native.Mathlib.Nat.{le_trans, le_of_eq, lt_irrefl, lt_of_lt_of_le, lt_of_not-le, mul-one, one-mul, add_comm, mul-le-mul_right, le_of_mul-le-mul_right}
use native.Mathlib.Omega.{arith}
use lib.IntN.{negsuc}
use lib.Dec.{T, leb, eqb, nleb→lt, lit≤}
use lib.Pow.{pow_mono, shl_lt}
use lib.Ieee.{Float, nan, inf, fin, binary32, up, down, le, of_bits, to_bits, of_fields, fits}
use lib.Ieee.Bits.{of_bits-to_bits}
use lib.Ieee.Exact.{HasValue}
use lib.Ieee.Scale.{finite}
use Rattle.series.proofs.Algebra.{ac}
use Rattle.fixed.proofs.Fields.{down_pos, zero_field, some_field}
use Rattle.fixed.proofs.Order.{le_says}
use Rattle.log10.specs.Log10.{least}

-- ---- by a value D * 2 ^ k / 2 ^ 149
scaled : (n d D k : ℕ) → 0 < d → 8796093 * 1 * d ≤ n * 2 ^ 43 → n * 2 ^ 149 ≡ D * 2 ^ k * d → 8796093 * 2 ^ 106 ≤ D * 2 ^ k
scaled n d D k dp h e = le_of_mul-le-mul_right {k = d} (go (2 ^ 106) (2 ^ 43) (2 ^ 149) (D * 2 ^ k) refl e (mul-le-mul_right (2 ^ 106) h)) dp
  where
    go : (a b c x : ℕ) → c ≡ a * b → n * c ≡ x * d → 8796093 * 1 * d * a ≤ n * b * a → 8796093 * a * d ≤ x * d
    go a b c x p q r = le_trans (le_of_eq (left a d)) (le_trans r (le_of_eq (right n a b ∙ ap (λ (z : ℕ). n * z) (sym p) ∙ q)))
      where
        left : (a d : ℕ) → 8796093 * a * d ≡ 8796093 * 1 * d * a
        left a d = simp (ac, one-mul)

        right : (n a b : ℕ) → n * b * a ≡ n * (a * b)
        right n a b = simp ac

bound : (x : Float) (s : Bool) (D k : ℕ) → T (le least x) → T (finite x) → HasValue x s (D * 2 ^ k) (2 ^ 149) → (s ≡ false) × (8796093 * 2 ^ 106 ≤ D * 2 ^ k)
bound nan s D k h f v = absurd v
bound (inf t) s D k h f v = absurd v
bound (fin false m i) s D k h f v = (sym v.0, scaled (m * up i) (down i) D k (down_pos i) (le_says false 8796093 (negsuc 42) false m i h) v.1)
bound (fin true m i) s D k h f v = absurd (none (le_says false 8796093 (negsuc 42) true m i h).0)
  where
    none : 8796093 * 1 * down i ≡ 0 → ⊥
    none z = omega (arith, down_pos i)

large : (D k : ℕ) → D < 16777216 → 8796093 * 2 ^ 106 ≤ D * 2 ^ k → 106 ≤ k
large D k h g = le_of_lt_suc (lt_of_not-le (λ (l : suc k ≤ 106). lt_irrefl (D * 2 ^ k) (lt_of_lt_of_le (shl_lt {a = D} 24 k h) (le_trans (pow_mono {j = 129} (omega arith)) (le_trans (lit≤ tt) g)))))
  where
    le_of_lt_suc : 106 < suc k → 106 ≤ k
    le_of_lt_suc p = omega arith

not_ones : (s : Bool) (d : ℕ) → T (finite (of_fields binary32 s 255 d)) → ⊥
unfolding of_fields
not_ones s d i = go (eqb d 0) i
  where
    go : (b : Bool) → T (finite (cond b (inf s) nan)) → ⊥
    go true j = j
    go false j = j

-- ---- the fields
pub record Told (x : Float) (e t : ℕ) : Type 0 where
  pub low : 107 ≤ e
  pub high : e ≤ 254
  pub value : HasValue x false ((t + 8388608) * 2 ^ (e - 1)) (2 ^ 149)

module _ (x : Float) (h : T (fits binary32 x)) (l : T (le least x)) (f : T (finite x)) where
  abbrev b : ℕ
  b = to_bits binary32 x

  same : of_fields binary32 (leb 2147483648 b) (b % 2147483648 / 8388608) (b % 8388608) ≡ x
  unfolding of_bits
  same = of_bits-to_bits binary32 x h

  case : (s : Bool) (e t : ℕ) → t < 8388608 → e < 256 → of_fields binary32 s e t ≡ x → (s ≡ false) × Told x e t
  case s zero t tl el q = absurd (none (bound x s t 0 l f (subst (λ (v : Float). HasValue v s (t * 2 ^ 0) (2 ^ 149)) q (zero_field s t))).1)
    where
      none : 8796093 * 2 ^ 106 ≤ t * 2 ^ 0 → ⊥
      none g = lt_irrefl t (lt_of_lt_of_le tl (le_trans (lit≤ tt) (le_trans g (le_of_eq (mul-one t)))))
  case s (suc e) t tl el q =
      let ne : e ≡ 254 → ⊥ = λ w. not_ones s t (subst (λ (v : Float). T (finite v)) (sym q ∙ ap (λ (y : ℕ). of_fields binary32 s (suc y) t) w) f) in
      let v : HasValue x s ((t + 8388608) * 2 ^ e) (2 ^ 149) = subst (λ (v : Float). HasValue v s ((t + 8388608) * 2 ^ e) (2 ^ 149)) q (rw (add_comm t 8388608) (some_field s e t (omega arith))) in
      let g = bound x s (t + 8388608) e l f v in
      let k = large (t + 8388608) e (omega arith) g.1 in
      let back : suc e - 1 ≡ e = omega arith in
      (g.0, record { low = omega arith; high = omega arith; value = rw back (rw g.0 at v) })

  all : (leb 2147483648 b ≡ false) × Told x (b % 2147483648 / 8388608) (b % 8388608)
  all = case (leb 2147483648 b) (b % 2147483648 / 8388608) (b % 8388608) (omega arith) (omega arith) same

  pub bits_lt : to_bits binary32 x < 2147483648
  bits_lt = nleb→lt 2147483648 b (subst (λ (z : Bool). T (not z)) (sym all.0) tt)

  pub told : Told x (to_bits binary32 x / 8388608) (to_bits binary32 x % 8388608)
  told = let e : b % 2147483648 ≡ b = omega (arith, bits_lt) in rw e at all.1
