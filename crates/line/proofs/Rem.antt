-- The remainder by 1 is exact, has the sign of what is divided, and is below 1 in size. Assumes nothing.
use mathlib.Core.Path.{◌≡◌, refl, sym, ap, ◌∙◌, subst}
use Prim.Native.Nat.{ℕ, zero, suc, ◌+◌, ◌-◌, ◌*◌, ◌%◌, ◌^◌, ◌≤◌, ◌<◌}
use native.Mathlib.Nat.{lt_of_le_of_lt, mod-lt, mod-le, mod-one, mul-one, one-mul, mul_assoc, mul_comm, zero-mul, mul-lt-mul_of_pos_right, add-zero, le_of_lt, pow-succ'}
use native.Mathlib.Omega.{arith}
use mathlib.Core.Bool.{Bool, true, false, ◌&&◌}
use lib.IntN.{ℤ, pos, negsuc}
use lib.Dec.{T, leb, ltb, eqb, ltb→lt, leb→le, eqb→eq}
use lib.Pow.{pow-add, pow_pos, pow_mono}
use lib.Ieee.{binary32, binary64, rem, Float, nan, inf, fin, Format, prec, emax, low, up, down, round, sum, add, fits}
use lib.Ieee.Fits.{and_l, and_r}
use lib.Ieee.Scale.{round_same, overflow}
use Rattle.line.proofs.Units.{Is, add_is}
use Rattle.line.proofs.Rounds.{Rep, rep_zero, sign, exact_at, has_finite, down_exp}
use Rattle.line.proofs.Exact.{unit_is}
use Rattle.line.proofs.Mono.{Good, under_minus, under_plus, under→le}
use Rattle.line.proofs.Range.{In, good, good_of}

abbrev pub nought : Float
nought = fin false 0 (pos 0)

abbrev pub one : Float
one = fin false 1 (pos 0)

pub rem_is : (f : Format) (s : Bool) (m : ℕ) (e : ℤ) → rem f (fin s m e) one ≡ round f s (m * up e % down e) (down e)
unfolding rem
rem_is f s m e = simp (mul-one, one-mul)

-- the remainder in units of the format's smallest value
pub record Part (f : Format) (x : Float) (s : Bool) : Type 0 where
  pub size_of : ℕ
  pub is : Is f x s size_of
  pub rep : Rep f size_of
  pub small : size_of < 2 ^ low f

part_at : (f : Format) (s : Bool) (a k : ℕ) → a < 2 ^ k → k ≤ low f → a < 2 ^ prec f → Part f (round f s a (2 ^ k)) s
part_at f s a k h K p =
    let j = low f - k in
    let e : 2 ^ j * 2 ^ k ≡ 2 ^ low f = sym (pow-add 2 j k) ∙ ap (λ (z : ℕ). 2 ^ z) (back k (low f) K) in
    let small : a * 2 ^ j < 2 ^ low f = subst (λ (z : ℕ). a * 2 ^ j < z) (mul_comm (2 ^ k) (2 ^ j) ∙ e) (mul-lt-mul_of_pos_right h (pow_pos j)) in
    let r : Rep f (a * 2 ^ j) = record { q = a; j = j; few = p; is = refl; fine = under (a * 2 ^ j) (2 ^ low f) (overflow f) small (pow_mono (more (low f) (suc (emax f)))) } in
    let same = round_same f s a (2 ^ k) (a * 2 ^ j) (2 ^ low f) (pow_pos k) (pow_pos (low f)) (ap (λ (z : ℕ). a * z) (sym e) ∙ sym (mul_assoc a (2 ^ j) (2 ^ k))) in
    record { size_of = a * 2 ^ j; is = subst (λ (z : Float). Is f z s (a * 2 ^ j)) (sym same) (exact_at f s (a * 2 ^ j) r); rep = r; small = small }
  where
    back : (k l : ℕ) → k ≤ l → l - k + k ≡ l
    back k l h = omega arith

    more : (p j : ℕ) → p ≤ p + j
    more p j = omega arith

    under : (x y z : ℕ) → x < y → y ≤ z → x < z
    under x y z a b = omega arith

part_of : (f : Format) (s : Bool) (m : ℕ) (e : ℤ) → m < 2 ^ prec f → down e ≤ 2 ^ low f → Part f (round f s (m * up e % down e) (down e)) s
part_of f s m (pos k) a b =
    subst (λ (z : ℕ). Part f (round f s z 1) s) (sym (mod-one (m * 2 ^ k))) (part_at f s 0 0 (pow_pos 0) (none (low f)) (pow_pos (prec f)))
  where
    none : (x : ℕ) → 0 ≤ x
    none x = omega arith
part_of f s m (negsuc k) a b =
    subst (λ (z : ℕ). Part f (round f s (z % 2 ^ suc k) (2 ^ suc k)) s) (sym (mul-one m))
    (part_at f s (m % 2 ^ suc k) (suc k) (mod-lt m (pow_pos (suc k))) (down_exp (suc k) (low f) b) (lt_of_le_of_lt (mod-le m (2 ^ suc k)) a))

pub fits_parts : (f : Format) (s : Bool) (m : ℕ) (e : ℤ) → T (fits f (fin s m e)) → m < 2 ^ prec f × down e ≤ 2 ^ low f
unfolding fits
fits_parts f s zero (pos k) t = (pow_pos (prec f), pow_pos (low f))
fits_parts f s zero (negsuc k) t = (pow_pos (prec f), absurd (no (2 ^ k) (pow_pos k) (sym (pow-succ' 2 k) ∙ sym (one-mul (2 ^ suc k)) ∙ eqb→eq (1 * 2 ^ suc k) 1 t)))
  where
    no : (p : ℕ) → 0 < p → 2 * p ≡ 1 → ⊥
    no p h e = omega arith
fits_parts f s (suc m) e t =
    let a = eqb (suc m % 2) 1 in
    let b = ltb (suc m) (2 ^ prec f) in
    let c = leb (down e) (2 ^ low f) in
    let d = ltb (suc m * up e) (2 ^ suc (emax f) * down e) in
    (ltb→lt (suc m) (2 ^ prec f) (and_r a b (and_l (a && b) c (and_l (a && b && c) d t))), leb→le (down e) (2 ^ low f) (and_r (a && b) c (and_l (a && b && c) d t)))

pub rem_part : (f : Format) (x : Float) → Good f x → Part f (rem f x one) (sign x)
rem_part f nan g = absurd g.1
rem_part f (inf s) g = absurd g.1
rem_part f (fin s m e) g =
    let p = fits_parts f s m e g.0 in
    subst (λ (z : Float). Part f z s) (sym (rem_is f s m e)) (part_of f s m e p.0 p.1)

-- ---- as a range
pub nought_is : (f : Format) → Is f nought false 0
nought_is f = (refl, zero-mul (2 ^ low f))

part_good : (f : Format) (x : Float) (s : Bool) → T (fits f x) → Part f x s → Good f x
part_good f x s t p = (t, has_finite x s p.size_of (2 ^ low f) p.is)

whole_good : (f : Format) (s : Bool) → T (good f (fin s 0 (pos 0)) && good f (fin s 1 (pos 0)))
unfolding fits
whole_good binary32 false = tt
whole_good binary32 true = tt
whole_good binary64 false = tt
whole_good binary64 true = tt

pub nought_good : (f : Format) → Good f nought
nought_good f = good_of f nought (and_l (good f nought) (good f one) (whole_good f false))

unit_good : (f : Format) (s : Bool) → Good f (fin s 1 (pos 0))
unit_good f s = good_of f (fin s 1 (pos 0)) (and_r (good f (fin s 0 (pos 0))) (good f (fin s 1 (pos 0))) (whole_good f s))

-- of what is not negative: from 0 to 1
pub part_unit : (f : Format) (x : Float) → T (fits f x) → Part f x false → In f nought one x
part_unit f x t p = record {
  low = nought_good f;
  high = unit_good f false;
  ok = part_good f x false t p;
  from = under→le f nought x false 0 false p.size_of (nought_is f) p.is (none p.size_of);
  upto = under→le f x one false p.size_of false (2 ^ low f) p.is (unit_is f false) (le_of_lt p.small);
}
  where
    none : (x : ℕ) → 0 ≤ x
    none x = omega arith

-- of any: from -1 to 1
pub part_both : (f : Format) (x : Float) (s : Bool) → T (fits f x) → Part f x s → In f (fin true 1 (pos 0)) one x
part_both f x s t p = record {
  low = unit_good f true;
  high = unit_good f false;
  ok = part_good f x s t p;
  from = under→le f (fin true 1 (pos 0)) x true (2 ^ low f) s p.size_of (unit_is f true) p.is (under_minus (2 ^ low f) s p.size_of (le_of_lt p.small));
  upto = under→le f x one s p.size_of false (2 ^ low f) p.is (unit_is f false) (under_plus (2 ^ low f) s p.size_of (le_of_lt p.small));
}

plain : (f : Format) (q : ℕ) → sum f false q false 0 (2 ^ low f) ≡ round f false q (2 ^ low f)
unfolding sum
plain f q = ap (λ (z : ℕ). round f false z (2 ^ low f)) (add-zero q)

-- adding 0 to it changes nothing but a zero's sign
pub part_plus : (f : Format) (x : Float) → Part f x false → Part f (add f x nought) false
part_plus f x p = record {
  size_of = p.size_of;
  is = subst (λ (z : Float). Is f z false p.size_of) (sym (add_is f x nought false p.size_of false 0 p.is (nought_is f) ∙ plain f p.size_of)) (exact_at f false p.size_of p.rep);
  rep = p.rep;
  small = p.small;
}

pub nought_in : (f : Format) → In f nought one nought
nought_in f = part_unit f nought (nought_good f).0 (record { size_of = 0; is = nought_is f; rep = rep_zero f; small = pow_pos (low f) })
