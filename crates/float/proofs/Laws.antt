-- What a phase keeps and a word is bounded by: `fract` lies from 0 to below 1, `rem_euclid(1.0)` from 0 to 1, `to24` within ±8388607. Assumes nothing.
use Rattle.std.proofs.Common.{◌≡◌, ℕ, zero, suc, ◌+◌, ◌*◌, ◌%◌, ◌^◌, ◌<◌, ◌≤◌, Bool, true, false, not, T, eqb, ℤ, pos, nat_abs, sym, refl, ap, ◌∙◌, subst, zero-le, lt_of_le_of_lt, add-zero, le_of_lt, lt_irrefl, zero-lt-suc, mul-pos, zero-mul, arith, lit<, lit≤, eqb→eq, pow_pos, le-ltb, lt-ltb}
use native.Mathlib.Nat.{sub-zero, zero-mod}
use lib.Ieee.{Float, Format, binary32, nan, inf, fin, level, low, up, down, round, neg, sum, add, mul, rem, lt, le, eq, fits, of_bits, to_signed}
use lib.Ieee.Fits.{and_l, and_r, add-fits, rem-fits, down_pos, up_pos}
use lib.Ieee.Scale.{round_same}
use Rattle.line.proofs.Bools.{bool_ext}
use Rattle.line.proofs.Units.{Is, eq_is}
use Rattle.line.proofs.Rounds.{sign, has_finite}
use Rattle.line.proofs.Exact.{unit_is}
use Rattle.line.proofs.Mono.{Good, Under, good_is, units_of, le→under, under→le, neg_le}
use Rattle.line.proofs.Range.{In, in_add, in_mul, in_self, in_cond, cut_high, cut_low, lt→le, le→lt, not_lt}
use Rattle.line.proofs.Rem.{Part, one, nought, nought_is, nought_good, nought_in, rem_is, rem_part, part_unit, part_both, part_plus}
use Rattle.line.proofs.Whole.{cut_within}
use Rattle.float.specs.Consts.{k0, k1}
use Rattle.float.specs.Floats.{abs_of, signum_of, clamp_of, fract_of, rem_euclid_of, FULL_SCALE, to24_of}
use Rattle.float.proofs.Eval.{in_clamp}

-- ---- fract
fract_part : (x : Float) → Good binary32 x → sign x ≡ false → Part binary32 (fract_of x) false
unfolding fract_of of_bits
fract_part x g e = part_plus binary32 (rem binary32 x one) (subst (λ (s : Bool). Part binary32 (rem binary32 x one) s) e (rem_part binary32 x g))

fract_fits : (x : Float) → T (fits binary32 (fract_of x))
unfolding fract_of
fract_fits x = add-fits binary32 (rem binary32 x k1) k0

-- of a zero with a sign
fract_zero : (m : ℕ) (e : ℤ) → m ≡ 0 → fract_of (fin true m e) ≡ nought
unfolding fract_of of_bits
fract_zero m e z =
    ap (λ (k : ℕ). add binary32 (rem binary32 (fin true k e) one) nought) z
    ∙ ap (λ (y : Float). add binary32 y nought) (rem_is binary32 true 0 e ∙ ap (λ (k : ℕ). round binary32 true (k % down e) (down e)) (zero-mul (up e)) ∙ ap (λ (k : ℕ). round binary32 true k (down e)) (zero-mod (down e))
    ∙ round_same binary32 true 0 (down e) 0 1 (down_pos e) (pow_pos 0) (zero-mul 1 ∙ sym (zero-mul (down e))))
    ∙ cleared
  where
    cleared : add binary32 (round binary32 true 0 1) nought ≡ nought
    cleared = unfold round add in refl

none_left : (m u l : ℕ) → 0 < u → 0 < l → m * u * l ≡ 0 → m ≡ 0
none_left zero u l h k e = refl
none_left (suc m) u l h k e = absurd (lt_irrefl 0 (subst (λ (z : ℕ). 0 < z) e (mul-pos (mul-pos (zero-lt-suc m) h) k)))

no_size : (q : ℕ) → 0 + q ≡ 0 → q ≡ 0
no_size q h = omega arith

-- of what is not below zero: from 0 to 1, both zeros taken
pub fract_in : (hi x : Float) → In binary32 nought hi x → In binary32 nought one (fract_of x)
fract_in hi nan h = absurd h.ok.1
fract_in hi (inf s) h = absurd h.ok.1
fract_in hi (fin false m e) h = part_unit binary32 (fract_of (fin false m e)) (fract_fits (fin false m e)) (fract_part (fin false m e) h.ok refl)
fract_in hi (fin true m e) h =
    let k = good_is binary32 (fin true m e) h.ok in
    let z = no_size (units_of binary32 (fin true m e) h.ok) (le→under binary32 nought (fin true m e) false 0 true (units_of binary32 (fin true m e) h.ok) (nought_is binary32) k h.from) in
    subst (λ (y : Float). In binary32 nought one y) (sym (fract_zero m e (none_left m (up e) (2 ^ low binary32) (up_pos e) (pow_pos (low binary32)) (k.1 ∙ ap (λ (q : ℕ). q * down e) z ∙ zero-mul (down e))))) (nought_in binary32)

-- no fraction is 1, that of a negative number neither
not_one : (y : Float) (s : Bool) (q : ℕ) → Is binary32 y s q → (s ≡ false → q < 2 ^ low binary32) → eq y one ≡ false
not_one y s q i h = eq_is binary32 y one s q false (2 ^ low binary32) i (unit_is binary32 false) ∙ bool_ext (level s q false (2 ^ low binary32)) false (no s (2 ^ low binary32) (pow_pos (low binary32)) h) (λ t. absurd t)
  where
    no : (s : Bool) (o : ℕ) → 0 < o → (s ≡ false → q < o) → T (level s q false o) → T false
    no false o p h t = absurd (lt_irrefl o (subst (λ (z : ℕ). z < o) (eqb→eq q o (and_l (eqb q o) true t)) (h refl)))
    no true o p h t = absurd (lt_irrefl 0 (subst (λ (z : ℕ). 0 < z) (sym (eqb→eq q o (and_l (eqb q o) (eqb q 0) t)) ∙ eqb→eq q 0 (and_r (eqb q o) (eqb q 0) t)) p))

pub fract_not_one : (x : Float) → T (fits binary32 x) → eq (fract_of x) one ≡ false
unfolding fract_of of_bits
fract_not_one nan f = unfold rem add eq in refl
fract_not_one (inf s) f = unfold rem add eq in refl
fract_not_one (fin false m e) f = let p = fract_part (fin false m e) (f, tt) refl in not_one (fract_of (fin false m e)) false p.size_of p.is (λ q. p.small)
fract_not_one (fin true m e) f =
    let r = rem binary32 (fin true m e) one in
    let p = rem_part binary32 (fin true m e) (f, tt) in
    let low = under→le binary32 r nought true p.size_of false 0 p.is (nought_is binary32) zero-le in
    by (add binary32 r nought) (plus r (cut_high (part_both binary32 r true (rem-fits binary32 (fin true m e) one f) p) nought (unfold fits in tt) low))
  where
    plus : (y : Float) → In binary32 (fin true 1 (pos 0)) nought y → In binary32 (fin true 1 (pos 0)) nought (add binary32 y nought)
    plus y h = unfold fits add le lt eq in in_add binary32 (fin true 1 (pos 0)) nought h (in_self binary32 nought tt) tt

    small : (s : Bool) (q : ℕ) → Under s q false 0 → s ≡ false → q < 2 ^ low binary32
    small false q h e = lt_of_le_of_lt h (pow_pos (low binary32))
    small true q h e = absurd (subst T e tt)

    by : (y : Float) → In binary32 (fin true 1 (pos 0)) nought y → eq y one ≡ false
    by y h =
        let q = units_of binary32 y h.ok in
        let i = good_is binary32 y h.ok in
        not_one y (sign y) q i (small (sign y) q (le→under binary32 y nought (sign y) q false 0 i (nought_is binary32) h.upto))

-- so of what is not below zero it is below 1
pub fract_below : (hi x : Float) → In binary32 nought hi x → T (lt (fract_of x) one)
fract_below hi x h = le→lt (fract_of x) one (fract_in hi x h).upto (fract_not_one x h.ok.0)

-- ---- rem_euclid by 1: 1 itself can be reached
pub rem_euclid_in : (x : Float) → Good binary32 x → In binary32 nought one (rem_euclid_of x k1)
unfolding rem_euclid_of abs_of of_bits fits
rem_euclid_in x g =
    let r = part_both binary32 (rem binary32 x one) (sign x) (rem-fits binary32 x one g.0) (rem_part binary32 x g) in
    in_cond binary32 nought one (lt (rem binary32 x one) nought)
    (λ t. up_one (rem binary32 x one) (cut_high r nought tt (lt→le (rem binary32 x one) nought t)))
    (λ t. cut_low r nought tt (not_lt binary32 nought (rem binary32 x one) (tt, tt) r.ok t))
  where
    up_one : (y : Float) → In binary32 (fin true 1 (pos 0)) nought y → In binary32 nought one (add binary32 y one)
    up_one y h = unfold fits add le lt eq in in_add binary32 nought one h (in_self binary32 one tt) tt

-- ---- a word
pub word_in : (x : Float) → T (fits binary32 x) → nat_abs (to24_of x) ≤ 8388607
unfolding to24_of of_bits
word_in nan f = unfold clamp_of mul to_signed lt in lit≤ tt
word_in (inf true) f = unfold clamp_of mul to_signed lt neg in lit≤ tt
word_in (inf false) f = unfold clamp_of mul to_signed lt neg in lit≤ tt
word_in (fin s m e) f = unfold fits mul neg le lt eq in
    let h = in_mul binary32 (fin true 8388607 (pos 0)) (fin false 8388607 (pos 0)) (in_clamp binary32 (neg k1) k1 (fin s m e) (f, tt) (neg k1) k1 tt) (in_self binary32 FULL_SCALE tt) tt in
    cut_within 31 8388607 (mul binary32 (clamp_of (fin s m e) (neg k1) k1) FULL_SCALE) h.from h.upto

-- ---- abs and signum of a finite number
pub abs_is : (f : Format) (x : Float) (s : Bool) (q : ℕ) → Is f x s q → Is f (abs_of x) false q
unfolding abs_of
abs_is f nan s q h = absurd h
abs_is f (inf t) s q h = absurd h
abs_is f (fin t m e) s q h = (refl, h.1)

pub signum_is : (f : Format) (x : Float) (s : Bool) (q : ℕ) → Is f x s q → signum_of x ≡ fin s 1 (pos 0)
unfolding signum_of
signum_is f nan s q h = absurd h
signum_is f (inf t) s q h = absurd h
signum_is f (fin t m e) s q h = ap (λ (u : Bool). fin u 1 (pos 0)) h.0

-- ---- the sign of a zero that is added is lost, but to -0
abbrev pub minus_zero : Float → Bool
minus_zero nan = false
minus_zero (inf s) = false
minus_zero (fin s zero e) = s
minus_zero (fin s (suc m) e) = false

pub either_zero : (w : Float) → T (not (minus_zero w)) → add binary32 w (fin true 0 (pos 0)) ≡ add binary32 w (fin false 0 (pos 0))
unfolding add sum
either_zero nan h = refl
either_zero (inf s) h = refl
either_zero (fin false m e) h = rw (zero-mul (down e), le-ltb (m * up e * 1) 0 (none (m * up e * 1)), sub-zero (m * up e * 1), add-zero (m * up e * 1))
  where
    none : (n : ℕ) → 0 ≤ n
    none n = omega arith
either_zero (fin true zero e) h = absurd h
either_zero (fin true (suc m) e) h =
    let a = suc m * up e * 1 in
    let p : 0 < a = mul-pos (mul-pos (zero-lt-suc m) (up_pos e)) (lit< tt) in
    rw (zero-mul (down e), le-ltb a 0 (le_of_lt p), lt-ltb 0 a p, sub-zero a, add-zero a)

-- ---- the size of what lies from -hi to hi
neg_neg : (x : Float) → neg (neg x) ≡ x
unfolding neg
neg_neg nan = refl
neg_neg (inf true) = refl
neg_neg (inf false) = refl
neg_neg (fin true m e) = refl
neg_neg (fin false m e) = refl

pub abs_in : (hi x : Float) → In binary32 (neg hi) hi x → In binary32 nought hi (abs_of x)
abs_in hi nan h = absurd h.ok.1
abs_in hi (inf s) h = absurd h.ok.1
abs_in hi (fin s m e) h =
    let x = fin s m e in
    let q = units_of binary32 x h.ok in
    let i = good_is binary32 x h.ok in
    let a = abs_is binary32 x s q i in
    record {
      low = nought_good binary32;
      high = h.high;
      ok = (abs_fits s h.ok.0, has_finite (abs_of x) false q (2 ^ low binary32) a);
      from = under→le binary32 nought (abs_of x) false 0 false q (nought_is binary32) a (none q);
      upto = by s h;
    }
  where
    none : (n : ℕ) → 0 ≤ n
    none n = omega arith

    abs_fits : (s : Bool) → T (fits binary32 (fin s m e)) → T (fits binary32 (abs_of (fin s m e)))
    abs_fits s t = unfold abs_of in same m t
      where
        same : (m : ℕ) → T (fits binary32 (fin s m e)) → T (fits binary32 (fin false m e))
        same zero t = unfold fits in t
        same (suc m) t = unfold fits in t

    by : (s : Bool) → In binary32 (neg hi) hi (fin s m e) → T (le (abs_of (fin s m e)) hi)
    by false k = unfold abs_of in k.upto
    by true k = unfold abs_of neg in subst (λ (z : Float). T (le (fin false m e) z)) (neg_neg hi) (neg_le binary32 (neg hi) (fin true m e) k.low k.ok k.from)
