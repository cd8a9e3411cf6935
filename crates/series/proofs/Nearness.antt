-- Nearness of a float to a fraction, by any fraction that the float equals, and to the same fraction written otherwise. Assumes nothing.
use mathlib.Core.Path.{◌≡◌, ap}
use mathlib.Core.Bool.{Bool, true, false, not}
use Prim.Native.Nat.{ℕ, ◌+◌, ◌-◌, ◌*◌, ◌≤◌, ◌<◌}
use native.Mathlib.Nat.{mul_assoc, one-mul, add-sub_cancel, le_of_mul-le-mul_right, mul-le-mul_right}
use native.Mathlib.Omega.{arith}
use lib.Ieee.{Float, nan, inf, fin, up, down, neg}
use lib.Ieee.Exact.{HasValue}
use Rattle.series.specs.Near.{Relative, Absolute}
use Rattle.series.proofs.Algebra.{ac, loosen}

carry_lo : (B b num den a c n d : ℕ) → 0 < c → n * c ≡ a * d → B * num * c ≤ b * a * den → B * num * d ≤ b * n * den
carry_lo B b num den a c n d pos q h =
    le_of_mul-le-mul_right {k = c} (simp ac (omega (arith, simp ac at (mul-le-mul_right d h), simp ac at (ap (λ (z : ℕ). z * (b * den)) q)))) pos

carry_hi : (B b num den a c n d : ℕ) → 0 < c → n * c ≡ a * d → b * a * den ≤ B * num * c → b * n * den ≤ B * num * d
carry_hi B b num den a c n d pos q h =
    le_of_mul-le-mul_right {k = c} (simp ac (omega (arith, simp ac at (mul-le-mul_right d h), simp ac at (ap (λ (z : ℕ). z * (b * den)) q)))) pos

-- by a fraction a / c that r equals
pub relative_value : (b num den a c : ℕ) (r : Float) → 0 < c → HasValue r false a c → (b - 1) * num * c ≤ b * a * den → b * a * den ≤ (b + 1) * num * c → Relative b num den r
relative_value b num den a c nan pos v h₁ h₂ = v
relative_value b num den a c (inf s) pos v h₁ h₂ = v
relative_value b num den a c (fin s m e) pos v h₁ h₂ = (
  v.0,
  carry_lo (b - 1) b num den a c (m * up e) (down e) pos v.1 h₁,
  carry_hi (b + 1) b num den a c (m * up e) (down e) pos v.1 h₂,
)

other_lo : (B b num den num' den' a d : ℕ) → 0 < den → num * den' ≡ num' * den → B * num * d ≤ b * a * den → B * num' * d ≤ b * a * den'
other_lo B b num den num' den' a d pos q h =
    le_of_mul-le-mul_right {k = den} (simp ac (omega (arith, simp ac at (mul-le-mul_right den' h), simp ac at (ap (λ (z : ℕ). z * (B * d)) q)))) pos

other_hi : (B b num den num' den' a d : ℕ) → 0 < den → num * den' ≡ num' * den → b * a * den ≤ B * num * d → b * a * den' ≤ B * num' * d
other_hi B b num den num' den' a d pos q h =
    le_of_mul-le-mul_right {k = den} (simp ac (omega (arith, simp ac at (mul-le-mul_right den' h), simp ac at (ap (λ (z : ℕ). z * (B * d)) q)))) pos

-- num / den is num' / den' too
pub relative_other : (b num den num' den' : ℕ) (r : Float) → 0 < den → num * den' ≡ num' * den → Relative b num den r → Relative b num' den' r
relative_other b num den num' den' nan pos q w = w
relative_other b num den num' den' (inf s) pos q w = w
relative_other b num den num' den' (fin s m e) pos q w = (
  w.0,
  other_lo (b - 1) b num den num' den' (m * up e) (down e) pos q w.1,
  other_hi (b + 1) b num den num' den' (m * up e) (down e) pos q w.2,
)

fewer : (k b : ℕ) → k ≤ b → k * (b + 1) ≤ (k + 1) * b
fewer k b h = simp (ac, one-mul) (omega arith)

-- a narrower distance is a distance
pub relative_looser : (b k num den : ℕ) (r : Float) → 0 < k → k ≤ b → Relative (b + 1) num den r → Relative (k + 1) num den r
relative_looser b k num den nan p h w = w
relative_looser b k num den (inf s) p h w = w
relative_looser b k num den (fin s m e) p h w =
    let x = num * down e in
    let y = m * up e * den in
    let one : (i : ℕ) → i + 1 - 1 ≡ i = λ i. add-sub_cancel i 1 in (
      w.0,
      rw (one k, mul_assoc k num (down e), mul_assoc (k + 1) (m * up e) den) (loosen b (b + 1) k (k + 1) x y (omega arith) (fewer k b h) (rw (one b, mul_assoc b num (down e), mul_assoc (b + 1) (m * up e) den) at w.1)),
      rw (mul_assoc (k + 1) (m * up e) den, mul_assoc (k + 1 + 1) num (down e)) (loosen (b + 1) (b + 1 + 1) (k + 1) (k + 1 + 1) y x (omega arith) (fewer (k + 1) (b + 1) (omega arith)) (rw (mul_assoc (b + 1) (m * up e) den, mul_assoc (b + 1 + 1) num (down e)) at w.2)),
    )

-- ---- at most 1 / b away
-- both signs turned
pub absolute_neg : (b : ℕ) (sign : Bool) (num den : ℕ) (r : Float) → Absolute b sign num den r → Absolute b (not sign) num den (neg r)
unfolding neg
absolute_neg b sign num den nan h = h
absolute_neg b sign num den (inf s) h = h
absolute_neg b false num den (fin false m e) h = h
absolute_neg b false num den (fin true m e) h = h
absolute_neg b true num den (fin false m e) h = h
absolute_neg b true num den (fin true m e) h = h
