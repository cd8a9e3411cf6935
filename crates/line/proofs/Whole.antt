-- Casts between integers and floats: an integer as a float keeps the order, and a float cut toward zero keeps within the whole numbers that bound it. Assumes nothing.
use mathlib.Core.Path.{◌≡◌, refl, sym, ap, ◌∙◌, subst}
use Prim.Native.Nat.{ℕ, zero, suc, ◌-◌, ◌*◌, ◌/◌, ◌^◌, ◌≤◌, min}
use native.Mathlib.Nat.{le_of_lt, le_of_eq, mul_comm, mul-one, mul_right_comm, div-le_of_le-mul, min-le_left, le_trans}
use native.Mathlib.Omega.{arith}
use mathlib.Core.Bool.{Bool, true, false, ◌&&◌, ◌||◌}
use lib.IntN.{ℤ, pos, negsuc, neg_ℤ, nat_abs}
use lib.Dec.{T, ltb, eqb, leb→le, ltb→lt, eqb→eq, lit<}
use lib.Signed.{le_z}
use lib.Ieee.{Float, nan, inf, fin, Format, low, up, down, of_int, to_signed, lt, le, eq}
use lib.Ieee.Fits.{and_l, and_r, of_int-fits}
use lib.Ieee.Exact.{HasValue}
use Rattle.line.proofs.Bools.{or_e}
use Rattle.line.proofs.Units.{Is}
use Rattle.line.proofs.Mono.{round_le}
use Rattle.line.proofs.Range.{In, good, good_of, ends, inside, between, wide_t}

-- ---- an integer as a float
pub of_int_le : (f : Format) (y z : ℤ) → T (le_z y z) → T (le (of_int f y) (of_int f z))
unfolding of_int
of_int_le f (pos m) (pos n) t = round_le f false m false n 1 (lit< tt) (leb→le m n t)
of_int_le f (negsuc m) (pos n) t = round_le f true (suc m) false n 1 (lit< tt) (omega arith)
of_int_le f (negsuc m) (negsuc n) t = round_le f true (suc m) true (suc n) 1 (lit< tt) (let h = leb→le n m t in omega arith)
of_int_le f (pos m) (negsuc n) t = absurd t

-- from a to b, as a range: the test computes
pub of_int_in : (f : Format) (a b : ℤ) (lo hi : Float) (z : ℤ) → T (le_z a z) → T (le_z z b) → T (wide_t f lo hi (of_int f a) (of_int f b)) → In f lo hi (of_int f z)
of_int_in f a b lo hi z g h t =
    let x = of_int f a in
    let y = of_int f b in
    let e = and_l (ends f lo hi) (inside lo hi x && inside lo hi y) t in
    let i = and_r (ends f lo hi) (inside lo hi x && inside lo hi y) t in
    between f lo hi x y (of_int f z) (good_of f lo (and_l (good f lo) (good f hi) e)) (good_of f hi (and_r (good f lo) (good f hi) e)) (of_int-fits f a) (of_int-fits f b) (of_int-fits f z)
    (and_l (inside lo hi x) (inside lo hi y) i) (and_r (inside lo hi x) (inside lo hi y) i) (of_int_le f a z g) (of_int_le f z b h)

-- a whole number of at most prec digits is exact
whole_is : (f : Format) (x : Float) (s : Bool) (n : ℕ) → HasValue x s n 1 → Is f x s (n * 2 ^ low f)
whole_is f nan s n h = absurd h
whole_is f (inf t) s n h = absurd h
whole_is f (fin t m e) s n h = (h.0, ap (λ (z : ℕ). z * 2 ^ low f) (sym (mul-one (m * up e)) ∙ h.1) ∙ mul_right_comm n (down e) (2 ^ low f))

-- ---- a float cut toward zero
le_by : (a b : ℕ) (u : Bool) → T (ltb a b || (eqb a b && u)) → a ≤ b
le_by a b u t = or_e (ltb a b) (eqb a b && u) (λ h. le_of_lt (ltb→lt a b h)) (λ h. le_of_eq (eqb→eq a b (and_l (eqb a b) u h))) t

negated : (n : ℕ) → nat_abs (neg_ℤ (pos n)) ≡ n
negated zero = refl
negated (suc n) = refl

cut_le : (m u d N h : ℕ) → m * u * 1 ≤ N * 1 * d → min (m * u / d) h ≤ N
cut_le m u d N h k = le_trans (min-le_left (m * u / d) h) (div-le_of_le-mul d (rw (mul_comm d N) (simp mul-one at k)))

turn : (a b : ℕ) (u v : Bool) → T (ltb a b || (eqb b a && (u || v))) → a ≤ b
turn a b u v t = or_e (ltb a b) (eqb b a && (u || v)) (λ h. le_of_lt (ltb→lt a b h)) (λ h. le_of_eq (sym (eqb→eq b a (and_l (eqb b a) (u || v) h)))) t

-- from -N to N, cut, is from -N to N
pub cut_within : (h N : ℕ) (y : Float) → T (le (fin true N (pos 0)) y) → T (le y (fin false N (pos 0))) → nat_abs (to_signed h y) ≤ N
unfolding le lt eq to_signed
cut_within h N nan a b = absurd a
cut_within h N (inf true) a b = absurd a
cut_within h N (inf false) a b = absurd b
cut_within h N (fin true m e) a b = subst (λ (z : ℕ). z ≤ N) (sym (negated (min (m * up e / down e) (2 ^ h)))) (cut_le m (up e) (down e) N (2 ^ h) (turn (m * up e * 1) (N * 1 * down e) true (eqb (N * 1 * down e) 0) a))
cut_within h N (fin false m e) a b = cut_le m (up e) (down e) N (2 ^ h - 1) (le_by (m * up e * 1) (N * 1 * down e) (true || eqb (m * up e * 1) 0) b)
