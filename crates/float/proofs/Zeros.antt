-- A zero that is added, on either side, changes nothing but -0, and a sum is -0 only where both its terms are. Assumes nothing.
use Prim.Native.Nat.{ℕ, zero, suc, ◌+◌, ◌-◌, ◌*◌, ◌^◌, ◌≤◌, ◌<◌}
use native.Mathlib.Nat.{add-zero, zero-add, sub-zero, zero-lt-suc, zero-mul, mul-pos}
use Rattle.std.proofs.Common.{le-ltb, lt-ltb}
use Rattle.std.proofs.lemmas.Float.{lt_irrefl, lt_of_lt_of_le}
use native.Mathlib.Omega.{arith}
use mathlib.Core.Path.{◌≡◌, refl, sym, ap, ◌∙◌, subst}
use mathlib.Core.Bool.{Bool, true, false, true≢false, not, ◌&&◌, ◌||◌, cond, beq}
use lib.Dec.{T, ltb, eqb, ltb→lt, eqb→eq}
use lib.IntN.{ℤ}
use lib.Pow.{pow_pos}
use lib.Ieee.{Float, nan, inf, fin, Format, binary32, prec, emax, low, up, down, round, units, odd, sum, add, rem, lt, le, eq, fits, of_bits}
use lib.Ieee.Fits.{and_l, add-fits, rem-fits, up_pos, down_pos}
use Rattle.line.proofs.Bools.{or_e}
use Rattle.line.proofs.Units.{Is, add_is}
use Rattle.line.proofs.Rounds.{rep_same, exact_at}
use Rattle.line.proofs.Exact.{value_unique}
use Rattle.line.proofs.Mono.{good_is, units_of, round_le}
use Rattle.line.proofs.Range.{In}
use Rattle.line.proofs.Rem.{one, nought, rem_is, rem_part, part_unit}
use Rattle.float.specs.Consts.{k0, k1}
use Rattle.float.specs.Floats.{fract_of, rem_euclid_of}
use Rattle.float.proofs.Laws.{minus_zero}

-- ---- what is rounded
pub plus_whole : (m : ℕ) (e : ℤ) → T (not (minus_zero (fin false m e)))
plus_whole zero e = tt
plus_whole (suc m) e = tt

plus_odd : (d q k l : ℕ) → T (not (minus_zero (odd d false q k l)))
unfolding odd
plus_odd d zero k l = tt
plus_odd d (suc q) k l = plus_whole _ _

-- without a minus
plus_units : (f : Format) (q k : ℕ) → T (not (minus_zero (units f false q k)))
unfolding units
plus_units f q k = by (ltb (q * 2 ^ k) (2 ^ (low f + suc (emax f))))
  where
    by : (b : Bool) → T (not (minus_zero (cond b (odd (suc (prec f)) false q k (low f)) (inf false))))
    by true = plus_odd (suc (prec f)) q k (low f)
    by false = tt

plus_round : (f : Format) (a c : ℕ) → T (not (minus_zero (round f false a c)))
unfolding round
plus_round f a c = plus_units f _ _

-- with one, of what is not zero: -0 is not at or below the smallest of such
none_below : (e : ℤ) → T (le (fin true 0 e) (round binary32 true 1 (2 ^ 149))) → ⊥
unfolding round le lt eq
none_below e t =
    let a = 0 * up e * 2 ^ 149 in
    let b = 1 * 1 * down e in
    or_e (ltb b a) (eqb a b && (true || eqb a 0)) (λ l. omega (arith, ltb→lt b a l, zero-mul (up e))) (λ q. omega (arith, down_pos e, eqb→eq a b (and_l (eqb a b) (true || eqb a 0) q), zero-mul (up e))) t

minus_round : (n : ℕ) → 0 < n → T (not (minus_zero (round binary32 true n (2 ^ 149))))
minus_round n h = by (round binary32 true n (2 ^ 149)) (round_le binary32 true n true 1 (2 ^ 149) (pow_pos 149) h)
  where
    by : (z : Float) → T (le z (round binary32 true 1 (2 ^ 149))) → T (not (minus_zero z))
    by nan t = tt
    by (inf s) t = tt
    by (fin s (suc m) e) t = tt
    by (fin false zero e) t = tt
    by (fin true zero e) t = absurd (none_below e t)

-- ---- a sum
sum_stays : (s : Bool) (q : ℕ) (t : Bool) (r : ℕ) → (s ≡ true → 0 < q) → T (not (minus_zero (sum binary32 s q t r (2 ^ 149))))
unfolding sum
sum_stays false q false r h = plus_round binary32 (q + r) (2 ^ 149)
sum_stays true q true r h = minus_round (q + r) (omega (arith, h refl))
sum_stays false q true r h = by (ltb q r) (ltb→lt q r)
  where
    by : (b : Bool) → (T b → q < r) → T (not (minus_zero (cond b (round binary32 true (r - q) (2 ^ 149)) (round binary32 false (q - r) (2 ^ 149)))))
    by true l = minus_round (r - q) (omega (arith, l tt))
    by false l = plus_round binary32 (q - r) (2 ^ 149)
sum_stays true q false r h = by (ltb q r) (ltb r q) (ltb→lt r q)
  where
    by : (b c : Bool) → (T c → r < q) → T (not (minus_zero (cond b (round binary32 false (r - q) (2 ^ 149)) (round binary32 c (q - r) (2 ^ 149)))))
    by true c l = plus_round binary32 (r - q) (2 ^ 149)
    by false true l = minus_round (q - r) (omega (arith, l tt))
    by false false l = plus_round binary32 (q - r) (2 ^ 149)

-- a value that is neither zero nor without a minus has a size
some : (s : Bool) (m : ℕ) (e : ℤ) (q : ℕ) → T (not (minus_zero (fin s m e))) → m * up e * 2 ^ 149 ≡ q * down e → s ≡ true → 0 < q
some false m e q h i d = absurd (true≢false (sym d))
some true zero e q h i d = absurd h
some true (suc m) e zero h i d = absurd (omega (arith, i, mul-pos (mul-pos (zero-lt-suc m) (up_pos e)) (pow_pos 149)))
some true (suc m) e (suc q) h i d = zero-lt-suc q

pub sum_not_minus : (x y : Float) → T (fits binary32 x) → T (fits binary32 y) → T (not (minus_zero x)) → T (not (minus_zero (add binary32 x y)))
unfolding add
sum_not_minus nan y fx fy h = tt
sum_not_minus (inf s) nan fx fy h = tt
sum_not_minus (inf s) (inf t) fx fy h = by (beq s t)
  where
    by : (b : Bool) → T (not (minus_zero (cond b (inf s) nan)))
    by true = tt
    by false = tt
sum_not_minus (inf s) (fin t n d) fx fy h = tt
sum_not_minus (fin s m e) nan fx fy h = tt
sum_not_minus (fin s m e) (inf t) fx fy h = tt
sum_not_minus (fin s m e) (fin t n d) fx fy h =
    let x = fin s m e in
    let y = fin t n d in
    let q = units_of binary32 x (fx, tt) in
    let r = units_of binary32 y (fy, tt) in
    let i : Is binary32 x s q = good_is binary32 x (fx, tt) in
    subst (λ (z : Float). T (not (minus_zero z))) (sym (add_is binary32 x y s q t r i (good_is binary32 y (fy, tt)))) (sum_stays s q t r (some s m e q h i.1))

-- ---- a zero that is added
above : (q : ℕ) → 0 ≤ q
above q = omega arith

sum_zero : (s : Bool) (q : ℕ) (t : Bool) → (s ≡ true → 0 < q) → sum binary32 s q t 0 (2 ^ 149) ≡ round binary32 s q (2 ^ 149)
unfolding sum
sum_zero false q false h = rw (add-zero q) refl
sum_zero true q true h = rw (add-zero q) refl
sum_zero false q true h = rw (le-ltb q 0 (above q), sub-zero q) refl
sum_zero true q false h = rw (le-ltb q 0 (above q), lt-ltb 0 q (h refl), sub-zero q) refl

-- and from it
sum_from : (t s : Bool) (q : ℕ) → (s ≡ true → 0 < q) → sum binary32 t 0 s q (2 ^ 149) ≡ round binary32 s q (2 ^ 149)
unfolding sum
sum_from false false q h = rw (zero-add q) refl
sum_from true true q h = rw (zero-add q) refl
sum_from false true q h = rw (lt-ltb 0 q (h refl), sub-zero q) refl
sum_from true false zero h = refl
sum_from true false (suc q) h = rw (lt-ltb 0 (suc q) (zero-lt-suc q), sub-zero (suc q)) refl

-- a zero has no size
zero_units : (t : Bool) (n : ℕ) (d : ℤ) (fz : T (fits binary32 (fin t n d))) → T (eq (fin t n d) k0) → units_of binary32 (fin t n d) (fz, tt) ≡ 0
unfolding eq of_bits
zero_units t n d fz e = none (units_of binary32 (fin t n d) (fz, tt)) (good_is binary32 (fin t n d) (fz, tt)).1
  where
    none : (r : ℕ) → n * up d * 2 ^ 149 ≡ r * down d → r ≡ 0
    none zero i = refl
    none (suc r) i = absurd (omega (arith, i, mul-pos (zero-lt-suc r) (down_pos d), eqb→eq (n * up d * 1) (0 * 1 * down d) (and_l (eqb (n * up d * 1) (0 * 1 * down d)) _ e)))

-- what is rounded of a value's own size is the value
rounded_is : (x y : Float) (s : Bool) (q : ℕ) → T (fits binary32 x) → T (fits binary32 y) → Is binary32 x s q → y ≡ round binary32 s q (2 ^ 149) → y ≡ x
rounded_is x y s q fx fy i r = value_unique binary32 y x s q fy fx (subst (λ (z : Float). Is binary32 z s q) (sym r) (exact_at binary32 s q (rep_same binary32 x s q fx i))) i

pub plus_zero : (x z : Float) → T (fits binary32 x) → T (not (minus_zero x)) → T (fits binary32 z) → T (eq z k0) → add binary32 x z ≡ x
unfolding add eq of_bits
plus_zero x nan fx h fz e = absurd e
plus_zero x (inf t) fx h fz e = absurd e
plus_zero nan (fin t n d) fx h fz e = refl
plus_zero (inf s) (fin t n d) fx h fz e = refl
plus_zero (fin s m a) (fin t n d) fx h fz e =
    let x = fin s m a in
    let z = fin t n d in
    let q = units_of binary32 x (fx, tt) in
    let i : Is binary32 x s q = good_is binary32 x (fx, tt) in
    rounded_is x (add binary32 x z) s q fx (add-fits binary32 x z) i
    (add_is binary32 x z s q t _ i (good_is binary32 z (fz, tt)) ∙ ap (λ (y : ℕ). sum binary32 s q t y (2 ^ 149)) (zero_units t n d fz e) ∙ sum_zero s q t (some s m a q h i.1))

pub zero_plus : (z x : Float) → T (fits binary32 z) → T (eq z k0) → T (fits binary32 x) → T (not (minus_zero x)) → add binary32 z x ≡ x
unfolding add eq of_bits
zero_plus nan x fz e fx h = absurd e
zero_plus (inf t) x fz e fx h = absurd e
zero_plus (fin t n d) nan fz e fx h = refl
zero_plus (fin t n d) (inf s) fz e fx h = refl
zero_plus (fin t n d) (fin s m a) fz e fx h =
    let x = fin s m a in
    let z = fin t n d in
    let q = units_of binary32 x (fx, tt) in
    let i : Is binary32 x s q = good_is binary32 x (fx, tt) in
    rounded_is x (add binary32 z x) s q fx (add-fits binary32 z x) i
    (add_is binary32 z x t _ s q (good_is binary32 z (fz, tt)) i ∙ ap (λ (y : ℕ). sum binary32 t y s q (2 ^ 149)) (zero_units t n d fz e) ∙ sum_from t s q (some s m a q h i.1))

-- ---- two values that are one, or zeros with any signs: what is added to them decides
pub data Alike (x y : Float) : Type 0 where
  same : x ≡ y → Alike x y
  zeros : T (fits binary32 x) → T (eq x k0) → T (fits binary32 y) → T (eq y k0) → Alike x y

pub alike_plus : (x y w : Float) → Alike x y → T (fits binary32 w) → T (not (minus_zero w)) → add binary32 x w ≡ add binary32 y w
alike_plus x y w (same e) f h = ap (λ (z : Float). add binary32 z w) e
alike_plus x y w (zeros fx ex fy ey) f h = zero_plus x w fx ex f h ∙ sym (zero_plus y w fy ey f h)

-- a number other than zero is not -0
pub positive : (x : Float) → T (lt k0 x) → T (not (minus_zero x))
unfolding lt of_bits
positive nan t = tt
positive (inf s) t = tt
positive (fin s (suc m) e) t = tt
positive (fin false zero e) t = tt
positive (fin true zero e) t = absurd t

pub negative : (x : Float) → T (lt x k0) → T (not (minus_zero x))
unfolding lt of_bits
negative nan t = tt
negative (inf s) t = tt
negative (fin s (suc m) e) t = tt
negative (fin false zero e) t = tt
negative (fin true zero e) t = absurd (omega (arith, ltb→lt 0 (0 * up e * 1 + 0 * down e) t, zero-mul (up e), zero-mul (down e)))

-- ---- the two remainders by 1, of a number above zero
pub below_not : (a b : Float) → T (le a b) → lt b a ≡ false
below_not a b h = by (lt b a) refl
  where
    by : (c : Bool) → lt b a ≡ c → c ≡ false
    by true e = absurd (lt_irrefl b (lt_of_lt_of_le b a b (subst T (sym e) tt) h))
    by false e = refl

pub rem_euclid_fract : (x : Float) → T (fits binary32 x) → T (lt k0 x) → rem_euclid_of x k1 ≡ fract_of x
unfolding rem_euclid_of fract_of of_bits
rem_euclid_fract nan f t = absurd (unfold lt in t)
rem_euclid_fract (inf s) f t = unfold rem add lt in refl
rem_euclid_fract (fin true m e) f t = absurd (unfold lt in t)
rem_euclid_fract (fin false m e) f t =
    let r = rem binary32 (fin false m e) one in
    let i : In binary32 nought one r = part_unit binary32 r (rem-fits binary32 (fin false m e) one f) (rem_part binary32 (fin false m e) (f, tt)) in
    rw (below_not nought r i.from) (sym (plus_zero r nought i.ok.0 (rw (rem_is binary32 false m e) (plus_round binary32 _ _)) (unfold fits in tt) (unfold eq in tt)))
