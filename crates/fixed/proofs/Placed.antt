-- Where a float stands: its pattern's fields give t + 128 and the size of t in Q32, cut. Assumes nothing.
use mathlib.Core.Path.{◌≡◌, refl, sym, ap, ◌∙◌, subst}
use Prim.Native.Nat.{ℕ, zero, suc, ◌+◌, ◌-◌, ◌*◌, ◌/◌, ◌%◌, ◌^◌, ◌≤◌, ◌<◌}
use mathlib.Core.Bool.{Bool, true, false, cond, not}
use mathlib.Core.Logic.{◌⊎◌, inl, inr}
use native.Mathlib.Nat.{le_trans, lt_of_lt_of_le, mul-one, div-one, mul-le-mul_right, mul-lt-mul_of_pos_right, lt_of_mul-lt-mul_right, eq_of_mul-eq-mul_right, lt_of_not-le, add_comm, lt_irrefl, mul-le-mul_left, le_of_suc-le-suc, eq-zero-or-pos}
use native.Mathlib.Omega.{arith}
use lib.IntN.{ℤ}
use lib.Dec.{T, leb, ltb, eqb, ltb→lt, nltb→le, lit<}
use lib.Pow.{pow_pos, pow-add, pow_mono}
use lib.Ieee.{Float, nan, inf, fin, binary32, up, down, of_bits, to_bits, of_fields, fits, is_nan}
use lib.Ieee.Bits.{of_bits-to_bits}
use lib.Ieee.Exact.{HasValue}
use lib.Ieee.Nearest.{div_same}
use Rattle.series.proofs.Algebra.{ac, sub_mul}
use Rattle.fixed.specs.Fixed.{place_at, place_of, size_at, size_of, small, shifted}
use Rattle.fixed.proofs.Fields.{down_pos, zero_field, some_field}
use Rattle.fixed.proofs.Shifts.{size_tiny}

-- (128 c ± a) / c over another denominator
cross : (s : Bool) (a c D K P : ℕ) → a * P * K ≡ D * c → shifted s a c * P * K ≡ shifted s D (P * K) * c
cross false a c D K P e =
    simp ac (omega (arith, simp ac at e))
cross true a c D K P e =
    let u : 128 * c * P * K ≡ 128 * (P * K) * c = simp ac in
    rw (sub_mul (128 * c) a P, sub_mul (128 * c * P) (a * P) K, sub_mul (128 * (P * K)) D c, e, u)

-- the fraction a / c is D * 2 ^ x / 2 ^ 149
pub small_power : (x : ℕ) → x < 117 → 4294967296 * 2 ^ (118 - suc x) * 2 ^ x ≡ 2 ^ 149
small_power x h = ap (λ (z : ℕ). z * 2 ^ x) (sym (pow-add 2 32 (118 - suc x))) ∙ sym (pow-add 2 (32 + (118 - suc x)) x) ∙ ap (λ (z : ℕ). 2 ^ z) sum
  where
    sum : 32 + (118 - suc x) + x ≡ 149
    sum = omega arith

pub big_power : (x : ℕ) → 117 ≤ x → 2 ^ (suc x - 118) * 2 ^ 117 ≡ 2 ^ x
big_power x h = sym (pow-add 2 (suc x - 118) 117) ∙ ap (λ (z : ℕ). 2 ^ z) sum
  where
    sum : suc x - 118 + 117 ≡ x
    sum = omega arith

pub under : (a c D X K W P : ℕ) → 0 < X → P * K * X ≡ W → a * W ≡ D * X * c → a * P * K ≡ D * c
under a c D X K W P p w e = eq_of_mul-eq-mul_right X p (a * P * K) (D * c) (simp ac (simp ac at (ap (λ (z : ℕ). a * z) w ∙ e)))

pub over : (a c D X Y Z P : ℕ) → 0 < Z → Y * Z ≡ X → a * (P * Z) ≡ D * X * c → a * P ≡ D * Y * c
over a c D X Y Z P p w e = eq_of_mul-eq-mul_right Z p (a * P) (D * Y * c) (simp ac (simp ac at (e ∙ ap (λ (z : ℕ). D * z * c) (sym w))))

spot : (s : Bool) (a c D x : ℕ) → 0 < c → a * 2 ^ 149 ≡ D * 2 ^ x * c → place_at s (suc x) D ≡ shifted s a c * 4294967296 / c
unfolding place_at
spot s a c D x cp e = go (ltb (suc x) 118) (λ t. ltb→lt (suc x) 118 t) (λ t. nltb→le (suc x) 118 t)
  where
    K : ℕ
    K = 2 ^ (118 - suc x)

    Y : ℕ
    Y = 2 ^ (suc x - 118)

    go : (b : Bool) → (T b → suc x < 118) → (T (not b) → 118 ≤ suc x) → cond b (shifted s D (4294967296 * 2 ^ (118 - suc x)) / 2 ^ (118 - suc x)) (shifted s (D * 2 ^ (suc x - 118)) 4294967296) ≡ shifted s a c * 4294967296 / c
    go true y n =
        sym (div_same (shifted s a c * 4294967296) c (shifted s D (4294967296 * K)) K cp (pow_pos (118 - suc x))
        (cross s a c D K 4294967296 (under a c D (2 ^ x) K (2 ^ 149) 4294967296 (pow_pos x) (small_power x (le_of_suc-le-suc (y tt))) e)))
    go false y n =
        sym (div_same (shifted s a c * 4294967296) c (shifted s (D * Y) 4294967296) 1 cp (lit< tt)
        (cross s a c (D * Y) 1 4294967296 (mul-one (a * 4294967296) ∙ over a c D (2 ^ x) Y (2 ^ 117) 4294967296 (pow_pos 117) (big_power x (le_of_suc-le-suc (n tt))) e))
        ∙ div-one (shifted s (D * Y) 4294967296))

size_is : (a c D x : ℕ) → 0 < c → a * 2 ^ 149 ≡ D * 2 ^ x * c → size_at (suc x) D ≡ a * 4294967296 / c
unfolding size_at
size_is a c D x cp e = go (ltb (suc x) 118) (λ t. ltb→lt (suc x) 118 t) (λ t. nltb→le (suc x) 118 t)
  where
    go : (b : Bool) → (T b → suc x < 118) → (T (not b) → 118 ≤ suc x) → cond b (D / 2 ^ (118 - suc x)) (D * 2 ^ (suc x - 118)) ≡ a * 4294967296 / c
    go true y n =
        sym (div_same (a * 4294967296) c D (2 ^ (118 - suc x)) cp (pow_pos (118 - suc x)) (under a c D (2 ^ x) (2 ^ (118 - suc x)) (2 ^ 149) 4294967296 (pow_pos x) (small_power x (le_of_suc-le-suc (y tt))) e))
    go false y n =
        sym (div_same (a * 4294967296) c (D * 2 ^ (suc x - 118)) 1 cp (lit< tt) (mul-one (a * 4294967296) ∙ over a c D (2 ^ x) (2 ^ (suc x - 118)) (2 ^ 117) 4294967296 (pow_pos 117) (big_power x (le_of_suc-le-suc (n tt))) e)
        ∙ div-one (D * 2 ^ (suc x - 118)))

-- ---- by a value D * 2 ^ x / 2 ^ 149 of t
small_says : (s : Bool) (m : ℕ) (e : ℤ) → T (small (fin s m e)) → m * up e < 128 * down e
unfolding small
small_says s m e t = ltb→lt (m * up e) (128 * down e) t

pub low_field : (a c D X W : ℕ) → 0 < W → a < 128 * c → a * W ≡ D * X * c → D * X < 128 * W
low_field a c D X W wp h e = lt_of_mul-lt-mul_right c (subst (λ (z : ℕ). z < 128 * W * c) e (simp ac (simp ac at (mul-lt-mul_of_pos_right h wp))))

pub field_lt : (D x : ℕ) → 8388608 ≤ D → D * 2 ^ x < 128 * 2 ^ 149 → x < 133
field_lt D x l h = lt_of_not-le (λ (g : 133 ≤ x). lt_irrefl (D * 2 ^ x) (lt_of_lt_of_le h (le_trans (mul-le-mul_left 8388608 (pow_mono g)) (mul-le-mul_right (2 ^ x) l))))

place_value : (t : Float) (s : Bool) (D x : ℕ) → HasValue t s (D * 2 ^ x) (2 ^ 149) → place_at s (suc x) D ≡ place_of t
unfolding place_of
place_value nan s D x v = absurd v
place_value (inf r) s D x v = absurd v
place_value (fin r m e) s D x v = rw v.0 (spot s (m * up e) (down e) D x (down_pos e) v.1)

size_value : (t : Float) (s : Bool) (D x : ℕ) → HasValue t s (D * 2 ^ x) (2 ^ 149) → size_at (suc x) D ≡ size_of t
unfolding size_of
size_value nan s D x v = absurd v
size_value (inf r) s D x v = absurd v
size_value (fin r m e) s D x v = size_is (m * up e) (down e) D x (down_pos e) v.1

bound_of : (t : Float) (s : Bool) (D x : ℕ) → HasValue t s (D * 2 ^ x) (2 ^ 149) → T (small t) → 8388608 ≤ D → x < 133
bound_of nan s D x v i l = absurd v
bound_of (inf r) s D x v i l = absurd v
bound_of (fin r m e) s D x v i l = field_lt D x l (low_field (m * up e) (down e) D (2 ^ x) (2 ^ 149) (pow_pos 149) (small_says r m e i) v.1)

-- ---- by the fields of the pattern
not_ones : (s : Bool) (d : ℕ) → T (small (of_fields binary32 s 255 d)) → ⊥
unfolding of_fields small
not_ones s d i = go (eqb d 0) i
  where
    go : (b : Bool) → T (small (cond b (inf s) nan)) → ⊥
    go true j = j
    go false j = j

-- what the fields x and d of a normal t tell
pub record Told (t : Float) (s : Bool) (x d : ℕ) : Type 0 where
  pub low : x ≤ 133
  pub value : HasValue t s ((d + 8388608) * 2 ^ (x - 1)) (2 ^ 149)
  pub place : place_at s x (d + 8388608) ≡ place_of t
  pub size : size_at x (d + 8388608) ≡ size_of t

module _ (t : Float) (h : T (fits binary32 t)) (i : T (small t)) where
  same : of_fields binary32 (leb 2147483648 (to_bits binary32 t)) (to_bits binary32 t % 2147483648 / 8388608) (to_bits binary32 t % 8388608) ≡ t
  unfolding of_bits
  same = of_bits-to_bits binary32 t h

  zero_case : (x : ℕ) (s : Bool) (d : ℕ) → of_fields binary32 s x d ≡ t → x ≡ 0 → HasValue t s (d * 2 ^ 0) (2 ^ 149)
  zero_case x s d q z = subst (λ (v : Float). HasValue v s (d * 2 ^ 0) (2 ^ 149)) (ap (λ (x : ℕ). of_fields binary32 s x d) (sym z) ∙ q) (zero_field s d)

  some_case : (x : ℕ) (s : Bool) (d : ℕ) → x < 256 → of_fields binary32 s x d ≡ t → (x ≡ 0 → ⊥) → Told t s x d
  some_case zero s d l q z = absurd (z refl)
  some_case (suc x) s d l q z =
      let ne : x ≡ 254 → ⊥ = λ w. not_ones s d (subst (λ (v : Float). T (small v)) (sym q ∙ ap (λ (y : ℕ). of_fields binary32 s (suc y) d) w) i) in
      let v : HasValue t s ((d + 8388608) * 2 ^ x) (2 ^ 149) = subst (λ (v : Float). HasValue v s ((d + 8388608) * 2 ^ x) (2 ^ 149)) q (rw (add_comm d 8388608) (some_field s x d (omega arith))) in
      let back : suc x - 1 ≡ x = omega arith in
      record { low = bound_of t s (d + 8388608) x v i (omega arith); value = rw back v; place = place_value t s (d + 8388608) x v; size = size_value t s (d + 8388608) x v }

  -- a subnormal t
  pub zero_told : to_bits binary32 t % 2147483648 / 8388608 ≡ 0 → HasValue t (leb 2147483648 (to_bits binary32 t)) (to_bits binary32 t % 8388608 * 2 ^ 0) (2 ^ 149)
  zero_told z = let b = to_bits binary32 t in zero_case (b % 2147483648 / 8388608) (leb 2147483648 b) (b % 8388608) same z

  pub zero_size : to_bits binary32 t % 2147483648 / 8388608 ≡ 0 → size_at 1 (to_bits binary32 t % 8388608) ≡ size_of t
  zero_size z = let b = to_bits binary32 t in size_value t (leb 2147483648 b) (b % 8388608) 0 (zero_told z)

  -- a normal t
  pub told : (to_bits binary32 t % 2147483648 / 8388608 ≡ 0 → ⊥) → Told t (leb 2147483648 (to_bits binary32 t)) (to_bits binary32 t % 2147483648 / 8388608) (to_bits binary32 t % 8388608)
  told z = let b = to_bits binary32 t in some_case (b % 2147483648 / 8388608) (leb 2147483648 b) (b % 8388608) (omega arith) same z

  -- from the field 94 on
  told_from : 94 ≤ to_bits binary32 t % 2147483648 / 8388608 → Told t (leb 2147483648 (to_bits binary32 t)) (to_bits binary32 t % 2147483648 / 8388608) (to_bits binary32 t % 8388608)
  told_from l = told (λ z. omega arith)

  pub low_from : 94 ≤ to_bits binary32 t % 2147483648 / 8388608 → to_bits binary32 t % 2147483648 / 8388608 ≤ 133
  low_from l = (told_from l).low

  pub place_from : 94 ≤ to_bits binary32 t % 2147483648 / 8388608 → place_at (leb 2147483648 (to_bits binary32 t)) (to_bits binary32 t % 2147483648 / 8388608) (to_bits binary32 t % 8388608 + 8388608) ≡ place_of t
  place_from l = (told_from l).place

  pub size_from : 94 ≤ to_bits binary32 t % 2147483648 / 8388608 → size_at (to_bits binary32 t % 2147483648 / 8388608) (to_bits binary32 t % 8388608 + 8388608) ≡ size_of t
  size_from l = (told_from l).size

  -- a t with a field below 94: its size
  by_field : {A : Type 0} → (to_bits binary32 t % 2147483648 / 8388608 ≡ 0 → A) → ((to_bits binary32 t % 2147483648 / 8388608 ≡ 0 → ⊥) → A) → A
  by_field {A} f g = go (eq-zero-or-pos (to_bits binary32 t % 2147483648 / 8388608))
    where
      go : (to_bits binary32 t % 2147483648 / 8388608 ≡ 0) ⊎ (0 < to_bits binary32 t % 2147483648 / 8388608) → A
      go (inl z) = f z
      go (inr p) = g (λ z. omega arith)

  pub tiny_size : to_bits binary32 t % 2147483648 / 8388608 < 94 → 0 ≡ size_of t
  tiny_size l =
      let b = to_bits binary32 t in
      by_field
      (λ z. size_tiny 1 (b % 8388608) (lit< tt) (omega arith) ∙ zero_size z)
      (λ z. size_tiny (b % 2147483648 / 8388608) (b % 8388608 + 8388608) l (omega arith) ∙ (told z).size)

pub no_nan : (t : Float) → T (small t) → T (not (is_nan t))
unfolding small is_nan
no_nan nan i = i
no_nan (inf s) i = absurd i
no_nan (fin s m e) i = tt

-- what `size` needs
pub ruleset sizes = (no_nan, tiny_size, low_from, size_from)
