-- The two-power in fixed point never falls: within one root by Horner's rule, and from one root to the next by a test at all of them. Assumes nothing.
use mathlib.Core.Path.{◌≡◌, subst}
use mathlib.Core.Logic.{◌⊎◌, inl, inr}
use mathlib.Core.Bool.{Bool, true, false, ◌||◌}
use Prim.Native.Nat.{ℕ, zero, suc, ◌+◌, ◌-◌, ◌*◌, ◌/◌, ◌%◌, ◌≤◌, ◌<◌}
use native.Mathlib.Nat.{le_refl, le_trans, eq-or-lt_of_le, add-zero, add-suc, mul-le-mul_left, mul-le-mul_right}
use native.Mathlib.Omega.{arith}
use lib.Dec.{T, leb, eqb, leb→le, eqb→eq, lit<}
use lib.ListN.{get_or}
use lib.Pow.{shr_mono}
use Rattle.series.specs.Horner.{horner}
use Rattle.series.proofs.Horner.{horner_mono}
use Rattle.power.specs.Power.{roots, coefs, fraction_of}
use Rattle.power.proofs.Method.{series_lo, series_hi}
use Rattle.lists.proofs.Table.{at}

-- a root, times the series at 1, is at most the next root
step_up : ℕ → ℕ → Bool
step_up i x = eqb i 31 || leb (4389014792 * x) (4294967296 * get_or roots (suc i) 0)

next : (i : ℕ) → i < 31 → 4389014792 * get_or roots i 0 ≤ 4294967296 * get_or roots (suc i) 0
unfolding step_up
next i h = pick (eqb i 31) (λ t. none (eqb→eq i 31 t)) (at 0 step_up roots tt i (omega arith))
  where
    none : i ≡ 31 → ⊥
    none e = omega arith

    pick : (b : Bool) → (T b → ⊥) → T (b || leb (4389014792 * get_or roots i 0) (4294967296 * get_or roots (suc i) 0)) → 4389014792 * get_or roots i 0 ≤ 4294967296 * get_or roots (suc i) 0
    pick true f t = absurd (f tt)
    pick false f t = leb→le (4389014792 * get_or roots i 0) (4294967296 * get_or roots (suc i) 0) t

climb : (i d : ℕ) → i + d < 32 → get_or roots i 0 ≤ get_or roots (i + d) 0
climb i zero h = rw (add-zero i) (le_refl (get_or roots i 0))
climb i (suc d) h =
    rw (add-suc i d)
    (le_trans (climb i d (omega arith)) (smaller (get_or roots (i + d) 0) (get_or roots (suc (i + d)) 0) (next (i + d) (omega arith))))
  where
    smaller : (x y : ℕ) → 4389014792 * x ≤ 4294967296 * y → x ≤ y
    smaller x y k = omega arith

jump : (i j : ℕ) → i < j → j < 32 → 4389014792 * get_or roots i 0 ≤ 4294967296 * get_or roots j 0
jump i j h k =
    let e : suc i + (j - suc i) ≡ j = omega arith in
    le_trans (next i (omega arith)) (mul-le-mul_left 4294967296 (subst (λ (z : ℕ). get_or roots (suc i) 0 ≤ get_or roots z 0) e (climb (suc i) (j - suc i) (omega arith))))

pub fraction_mono : (h l : ℕ) → h ≤ l → l < 4294967296 → fraction_of h ≤ fraction_of l
unfolding fraction_of
fraction_mono h l k b = shr_mono 30 (go (eq-or-lt_of_le quotients))
  where
    quotients : h / 134217728 ≤ l / 134217728
    quotients = omega arith

    go : (h / 134217728 ≡ l / 134217728) ⊎ (h / 134217728 < l / 134217728)
        → horner 4294967296 coefs (h % 134217728 * 32) * get_or roots (h / 134217728) 0 ≤ horner 4294967296 coefs (l % 134217728 * 32) * get_or roots (l / 134217728) 0
    go (inl e) = rw e (mul-le-mul_right (get_or roots (l / 134217728) 0) (horner_mono 4294967296 (h % 134217728 * 32) (l % 134217728 * 32) (lit< tt) (omega arith) coefs))
    go (inr s) =
        le_trans (mul-le-mul_right (get_or roots (h / 134217728) 0) (series_hi (h % 134217728) (omega arith)))
        (le_trans (jump (h / 134217728) (l / 134217728) s (omega arith)) (mul-le-mul_right (get_or roots (l / 134217728) 0) (series_lo (l % 134217728))))
