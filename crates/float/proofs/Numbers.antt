-- What is a number: a product of finite values, and its quotient by a constant; and what is zero: a value neither below nor above it. Assumes nothing.
use Prim.Native.Nat.{ℕ, suc, zero, ◌+◌, ◌≤◌}
use native.Mathlib.Omega.{arith}
use mathlib.Core.Path.{sym, ◌∙◌}
use mathlib.Core.Bool.{Bool, true, false, not, ◌||◌, cond}
use lib.Dec.{T, ltb, eqb, le→leb, ltb→lt, eqb→eq, eqb-suc-zero}
use lib.IntN.{ℤ, pos}
use lib.Ieee.{Float, nan, inf, fin, Format, binary32, prec, low, mul, div, round, units, odd, le, lt, eq, fits, is_nan, of_bits, of_int, below, level}
use lib.Ieee.Fits.{and_i, and_l, and_r, eq→eqb}
use lib.Ieee.Scale.{finite}
use Rattle.line.proofs.Bools.{or_r, or_e}
use Rattle.line.proofs.Range.{In, in_of}
use Rattle.line.proofs.Whole.{of_int_in}
use Rattle.float.specs.Consts.{k0, k1, k65535}

-- ---- an unsigned word as a float
pub word_range : (w : ℕ) → w ≤ 65535 → In binary32 k0 k65535 (of_int binary32 (pos w))
word_range w h = unfold of_bits of_int round fits le lt eq in of_int_in binary32 (pos 0) (pos 65535) k0 k65535 (pos w) (le→leb 0 w (omega arith)) (le→leb w 65535 h) tt

-- and one other than 0
pub word_from : (w : ℕ) → 1 ≤ w → w ≤ 65535 → In binary32 k1 k65535 (of_int binary32 (pos w))
word_from w g h = unfold of_bits of_int round fits le lt eq in of_int_in binary32 (pos 1) (pos 65535) k1 k65535 (pos w) (le→leb 1 w g) (le→leb w 65535 h) tt

-- ---- a number
odd_number : (d : ℕ) (s : Bool) (q k l : ℕ) → T (not (is_nan (odd d s q k l)))
unfolding odd is_nan
odd_number d s zero k l = tt
odd_number d s (suc q) k l = tt

round_number : (f : Format) (s : Bool) (a c : ℕ) → T (not (is_nan (round f s a c)))
unfolding round units is_nan
round_number f s a c = by _ _ _
  where
    by : (b : Bool) (q k : ℕ) → T (not (is_nan (cond b (odd (suc (prec f)) s q k (low f)) (inf s))))
    by true q k = odd_number (suc (prec f)) s q k (low f)
    by false q k = tt

pub mul_number : (f : Format) (x y : Float) → T (finite x) → T (finite y) → T (not (is_nan (mul f x y)))
unfolding mul
mul_number f nan y h k = absurd h
mul_number f (inf s) y h k = absurd h
mul_number f (fin s m e) nan h k = absurd k
mul_number f (fin s m e) (inf t) h k = absurd k
mul_number f (fin s m e) (fin t n d) h k = round_number f _ _ _

pub over_number : (f : Format) (x : Float) (t : Bool) (n : ℕ) (d : ℤ) → T (not (is_nan x)) → T (not (is_nan (div f x (fin t (suc n) d))))
unfolding div is_nan
over_number f nan t n d h = absurd h
over_number f (inf s) t n d h = tt
over_number f (fin s m e) t n d h = rw (eqb-suc-zero n) (round_number f _ _ _)

-- ---- zero
-- what lies below zero does not lie above it too
apart : (s : Bool) (a b : ℕ) → T (below s a false b) → T (below false b s a || level false b s a) → ⊥
apart false a b h k = or_e (ltb b a) (level false b false a) (λ l. omega (arith, ltb→lt a b h, ltb→lt b a l)) (λ q. omega (arith, ltb→lt a b h, eqb→eq b a (and_l (eqb b a) (true || eqb b 0) q))) k
apart true a b h k = omega (arith, ltb→lt 0 (a + b) h, eqb→eq b a (and_l (eqb b a) (false || eqb b 0) k), eqb→eq b 0 (and_r (eqb b a) (false || eqb b 0) k))

turned : (s : Bool) (a b : ℕ) → T (level s a false b) → T (level false b s a)
turned false a b h = and_i (eqb b a) (true || eqb b 0) (eq→eqb (sym (eqb→eq a b (and_l (eqb a b) (true || eqb a 0) h)))) tt
turned true a b h =
    let e = eqb→eq a b (and_l (eqb a b) (false || eqb a 0) h) in
    and_i (eqb b a) (false || eqb b 0) (eq→eqb (sym e)) (eq→eqb (sym e ∙ eqb→eq a 0 (and_r (eqb a b) (false || eqb a 0) h)))

pub zero_is : (x : Float) → T (le k0 x) → T (le x k0) → T (eq x k0)
unfolding le lt eq of_bits
zero_is x h k = or_e (lt x k0) (eq x k0) (λ l. absurd (never x l h)) (λ e. e) k
  where
    never : (x : Float) → T (lt x k0) → T (lt k0 x || eq k0 x) → ⊥
    never nan l h = l
    never (inf true) l h = h
    never (inf false) l h = l
    never (fin s m e) l h = apart s _ _ l h

pub zero_in : (x : Float) → T (fits binary32 x) → T (eq x k0) → In binary32 k0 k0 x
unfolding le fits of_bits lt eq
zero_in x h e = in_of binary32 k0 k0 x tt h (or_r (lt k0 x) (eq k0 x) (other x e)) (or_r (lt x k0) (eq x k0) e)
  where
    other : (x : Float) → T (eq x k0) → T (eq k0 x)
    other nan e = e
    other (inf s) e = e
    other (fin s m e) h = turned s _ _ h
