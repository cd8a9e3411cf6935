-- abs as the greater of a number and zero less it; signum by the tests that the code makes: below zero, above it, equal to it, and else not a number. Assumes nothing.
use Rattle.std.proofs.Common.{◌≡◌, ℕ, zero, suc, ◌+◌, ◌*◌, ◌<◌, Bool, true, false, not, ◌&&◌, ◌||◌, T, eqb, ℤ, pos, negsuc, sym, refl, ap, ◌∙◌, mul-pos, arith, eqb→eq, ltb-false, ltb-true, eq-eqb, eqb-true}
use mathlib.Core.Bool.{or-true}
use lib.Pow.{pow-lt}
use lib.Ieee.{Float, binary32, nan, inf, fin, up, down, lt, eq, neg, add, sub, div, fits, of_bits}
use lib.Ieee.Fits.{neg-fits, up_pos, down_pos}
use Rattle.float.specs.Floats.{abs_of, signum_of}
use Rattle.float.proofs.Laws.{minus_zero}
use Rattle.float.proofs.Zeros.{plus_whole, zero_plus}
use Rattle.float.proofs.Never.{no}

abbrev pub zero+ : Float
zero+ = fin false 0 (pos 0)

-- ---- the size
-- a zero is written in one way
flat : (e : ℤ) → up e * down e ≡ 1 → e ≡ pos 0
flat (pos zero) h = refl
flat (pos (suc k)) h = let p = pow-lt {i = 0} {j = suc k} (omega arith) in absurd (omega arith)
flat (negsuc k) h = let p = pow-lt {i = 0} {j = suc k} (omega arith) in absurd (omega arith)

and_left : (a b : Bool) → (a && b) ≡ true → a ≡ true
and_left true b e = refl
and_left false b e = e

-- a number that is not zero has no zero magnitude
big : (m : ℕ) (e : ℤ) → 0 < suc m * up e
big m e = mul-pos (omega arith) (up_pos e)

-- zero less a number other than +0 is that number with its sign turned
from_zero : (s : Bool) (m : ℕ) (e : ℤ) → T (fits binary32 (fin s m e)) → T (not (minus_zero (fin (not s) m e))) → sub binary32 zero+ (fin s m e) ≡ fin (not s) m e
unfolding sub neg eq fits of_bits
from_zero s m e t h = zero_plus zero+ (fin (not s) m e) tt tt (neg-fits binary32 (fin s m e) t) h

-- so the number itself is its size where zero less it lies below it, and zero less it elsewhere
pub abs_above : (x : Float) → T (fits binary32 x) → lt (sub binary32 zero+ x) x ≡ true → x ≡ abs_of x
unfolding lt sub add neg abs_of
abs_above nan t h = refl
abs_above (inf true) t h = no h
abs_above (inf false) t h = refl
abs_above (fin false m e) t h = refl
abs_above (fin true m e) t h = no (ap (λ (z : Float). lt z (fin true m e)) (sym (from_zero true m e t (plus_whole m e))) ∙ h)

pub abs_from : (x : Float) → T (fits binary32 x) → lt (sub binary32 zero+ x) x ≡ false → sub binary32 zero+ x ≡ abs_of x
unfolding lt sub add neg abs_of fits
abs_from nan t h = refl
abs_from (inf true) t h = refl
abs_from (inf false) t h = no (sym h)
abs_from (fin true m e) t h = from_zero true m e t (plus_whole m e)
abs_from (fin false zero e) t h = rw (flat e (eqb→eq (up e * down e) 1 t)) refl
abs_from (fin false (suc m) e) t h =
    let p = mul-pos (big m e) (down_pos e) in
    let q = ltb-false 0 (suc m * up e * down e + suc m * up e * down e) (ap (λ (z : Float). lt z (fin false (suc m) e)) (sym (from_zero false (suc m) e t tt)) ∙ h) in
    absurd (omega arith)

-- two zeros are level
clash : {X : Type 0} (a b : ℕ) (s : Bool) → a ≡ 0 → b ≡ 0 → (eqb a b && (s || eqb a 0)) ≡ false → X
clash a b s p q l = no (sym (level_by (eqb a b) (eqb a 0) (eq-eqb a b (p ∙ sym q)) (eq-eqb a 0 p) l))
  where
    level_by : (t u : Bool) → t ≡ true → u ≡ true → (t && (s || u)) ≡ false → true ≡ false
    level_by t u e f g = sym (ap (λ (v : Bool). v && (s || u)) e ∙ ap (λ (v : Bool). s || v) f ∙ or-true s) ∙ g

-- what neither test nor equality finds is no number
pub abs_none : (x : Float) → lt x zero+ ≡ false → lt zero+ x ≡ false → eq x zero+ ≡ false → x ≡ nan
unfolding lt eq
abs_none nan h k l = refl
abs_none (inf true) h k l = no (sym h)
abs_none (inf false) h k l = no (sym k)
abs_none (fin true m e) h k l =
    let q = ltb-false 0 (m * up e * 1 + 0 * down e) h in clash (m * up e * 1) (0 * down e) false (omega arith) (omega arith) l
abs_none (fin false m e) h k l =
    let q = ltb-false (0 * down e) (m * up e * 1) k in clash (m * up e * 1) (0 * down e) true (omega arith) (omega arith) l

-- ---- the sign
pub signum_below : (x : Float) → lt x zero+ ≡ true → fin true 1 (pos 0) ≡ signum_of x
unfolding lt signum_of
signum_below nan h = no h
signum_below (inf true) h = refl
signum_below (inf false) h = no h
signum_below (fin true m e) h = refl
signum_below (fin false m e) h = let k = ltb-true (m * up e * 1) (0 * down e) h in absurd (omega arith)

pub signum_above : (x : Float) → lt zero+ x ≡ true → fin false 1 (pos 0) ≡ signum_of x
unfolding lt signum_of
signum_above nan h = no h
signum_above (inf true) h = no h
signum_above (inf false) h = refl
signum_above (fin false m e) h = refl
signum_above (fin true m e) h = no h

pub signum_nan : (x : Float) → x ≡ nan → x ≡ signum_of x
unfolding signum_of
signum_nan x e = rw e

-- one over a zero is an infinity with the zero's sign
pub signum_zero : (x : Float) (b : Bool) → eq x zero+ ≡ true → lt (div binary32 (fin false 1 (pos 0)) x) zero+ ≡ b → fin b 1 (pos 0) ≡ signum_of x
unfolding eq signum_of div lt
signum_zero nan b h l = no h
signum_zero (inf s) b h l = no h
signum_zero (fin s zero e) b h l = ap (λ (t : Bool). fin t 1 (pos 0)) (sym l ∙ over s)
  where
    over : (s : Bool) → lt (div binary32 (fin false 1 (pos 0)) (fin s 0 e)) zero+ ≡ s
    over true = refl
    over false = refl
signum_zero (fin s (suc m) e) b h l =
    let c = big m e in
    let q = eqb-true (suc m * up e * 1) (0 * down e) (and_left (eqb (suc m * up e * 1) (0 * down e)) _ h) in
    absurd (omega arith)
