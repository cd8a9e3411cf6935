-- What the tests of `sqrt` tell of its argument. Assumes nothing.
use mathlib.Core.Path.{◌≡◌, refl, sym, ap, ap₂, ◌∙◌}
use mathlib.Core.Bool.{Bool, true, false, ◌||◌, beq, true≢false}
use Prim.Native.Nat.{ℕ, zero, suc, ◌*◌, ◌≤◌, ◌<◌}
use native.Mathlib.Nat.{mul-pos, zero-mul}
use native.Mathlib.Omega.{arith}
use lib.IntN.{ℤ, pos}
use lib.Dec.{eqb, eqb→eq, eqb-suc-zero}
use lib.Ieee.{Float, nan, inf, fin, up, down, eq, lt, le, level, is_nan}
use lib.Ieee.Fits.{and_l, up_pos}
use Rattle.fixed.proofs.Order.{on, off, lt_says, not_lt, le_says}
use Rattle.root.specs.Root.{sqrt_of}

abbrev nought : Float
nought = fin false 0 (pos 0)

no : {b : Bool} → b ≡ true → b ≡ false → ⊥
no p q = true≢false (sym p ∙ q)

above : (m : ℕ) (e : ℤ) → 0 < suc m * up e
above m e = mul-pos {m = suc m} (omega arith) (up_pos e)

-- a number above 0
pub record Some (x : Float) : Type 0 where
  pub m : ℕ
  pub e : ℤ
  pub is : x ≡ fin false (suc m) e

pub some : (x : Float) → lt nought x ≡ true → le (inf false) x ≡ false → Some x
unfolding lt le eq
some nan a b = absurd (true≢false (sym a))
some (inf true) a b = absurd (true≢false (sym a))
some (inf false) a b = absurd (true≢false b)
some (fin true m e) a b = absurd (true≢false (sym a))
some (fin false zero e) a b = absurd (none (lt_says false 0 (pos 0) false 0 e (on a)))
  where
    none : 0 * 1 * down e < 0 * up e * 1 → ⊥
    none h = omega arith
some (fin false (suc m) e) a b = record { m = m; e = e; is = refl }

pub infinite_root : (x : Float) → le (inf false) x ≡ true → x ≡ sqrt_of x
unfolding le lt eq sqrt_of
infinite_root nan h = refl
infinite_root (inf true) h = absurd (true≢false (sym h))
infinite_root (inf false) h = refl
infinite_root (fin s m e) h = absurd (true≢false (sym h))

pub zero_root : (x : Float) → eq x nought ≡ true → x ≡ sqrt_of x
unfolding eq sqrt_of
zero_root nan h = refl
zero_root (inf s) h = absurd (true≢false (sym h))
zero_root (fin s zero e) h = refl
zero_root (fin s (suc m) e) h = absurd (none (eqb→eq (suc m * up e * 1) (0 * 1 * down e) (and_l (eqb (suc m * up e * 1) (0 * 1 * down e)) (beq s false || eqb (suc m * up e * 1) 0) (on h))))
  where
    none : suc m * up e * 1 ≡ 0 * 1 * down e → ⊥
    none z = omega (arith, above m e)

-- what is neither above 0 nor 0 has no root
zero_eq : (s : Bool) (e : ℤ) → eq (fin s 0 e) nought ≡ true
unfolding eq
zero_eq s e = ap₂ (λ (a b : ℕ). level s a false b) (ap (λ (z : ℕ). z * 1) (zero-mul (up e))) (zero-mul (down e)) ∙ at_zero s
  where
    at_zero : (s : Bool) → level s 0 false 0 ≡ true
    at_zero true = refl
    at_zero false = refl

pub no_root : (x : Float) → lt nought x ≡ false → eq x nought ≡ false → nan ≡ sqrt_of x
unfolding lt sqrt_of is_nan
no_root nan a b = refl
no_root (inf true) a b = refl
no_root (inf false) a b = absurd (true≢false a)
no_root (fin s zero e) a b = absurd (no (zero_eq s e) b)
no_root (fin true (suc m) e) a b = rw (eqb-suc-zero m)
no_root (fin false (suc m) e) a b = absurd (none (le_says false (suc m) e false 0 (pos 0) (not_lt nought (fin false (suc m) e) tt tt (off a))))
  where
    none : suc m * up e * 1 ≤ 0 * 1 * down e → ⊥
    none z = omega (arith, above m e)
