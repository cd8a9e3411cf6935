-- The reduction: the angle within a quarter turn is off by at most two units of Q31, or it is as near to 0, where the sign turns.
-- A quarter turn of Q31 is cut by less than a seventh of a unit, so of up to six of them the program counts as many as there are, or one more. Assumes nothing.
use mathlib.Core.Path.{◌≡◌, refl, ap, ◌∙◌, subst}
use mathlib.Core.Logic.{◌⊎◌, inl, inr}
use mathlib.Core.Bool.{Bool, true, false, not, cond}
use Prim.Native.Nat.{ℕ, suc, ◌+◌, ◌-◌, ◌*◌, ◌/◌, ◌%◌, ◌≤◌, ◌<◌}
use native.Mathlib.Nat.{le_of_lt, le_of_suc-le-suc, lt_of_not-le, mul-le-mul_right, mod-lt, div-add-mod', eq-or-lt_of_le, sub-add_cancel, div-lt_iff_lt-mul}
use native.Mathlib.Omega.{arith}
use lib.Dec.{T, T_not, eqb, eqb→eq, leb→le, le→leb, lit<}
use lib.Ieee.Fits.{eq→eqb}
use Rattle.line.proofs.Bools.{bool_ext}
use Rattle.sine.specs.Sine.{quarter31}
use Rattle.sine.specs.Exact.{unit, quarter, turns, rest, folded, lower}

abbrev C : ℕ
C = quarter31

abbrev Q : ℕ
Q = 2147483648

-- f / d is z / Q to two units, with the same sign; or both are that small
pub record Same (d f z : ℕ) (s t : Bool) : Type 0 where
  pub sign : s ≡ t
  pub low : z * d ≤ f * Q + 2 * d
  pub high : f * Q ≤ z * d + 2 * d

abbrev pub Near : ℕ → ℕ → ℕ → Bool → Bool → Type 0
Near d f z s t = Same d f z s t ⊎ (z * d + f * Q ≤ 2 * d)

-- an even quarter and the next are in the same half of the circle
next_lower : (n : ℕ) → n % 2 ≡ 0 → lower n ≡ lower (n + 1)
next_lower n e = bool_ext (lower n) (lower (n + 1)) (λ t. omega (arith, leb→le, le→leb)) (λ t. omega (arith, leb→le, le→leb))

module _ (d q a x k m k' m' j : ℕ) (dp : 0 < d)
    (gap-low : C * d ≤ q * Q) (gap-high : 7 * (q * Q) ≤ 7 * (C * d) + d)
    (lo : x * d ≤ a * Q) (hi : a * Q < x * d + d)
    (ea : k * q + m ≡ a) (ml : m < q) (ex : k' * C + m' ≡ x) (ml' : m' < C) (few : k ≤ 6) where
  -- the facts, times what makes them linear
  xd : C * (k' * d) + m' * d ≡ x * d
  xd = omega (arith, ap (λ (y : ℕ). y * d) ex)

  kd : k * d ≤ 6 * d
  kd = mul-le-mul_right d few

  gaps_low : C * (k * d) ≤ k * q * Q
  gaps_low = omega (arith, mul-le-mul_right k gap-low)

  gaps_high : 7 * (k * q * Q) ≤ 7 * (C * (k * d)) + k * d
  gaps_high = omega (arith, mul-le-mul_right k gap-high)

  no_fewer : k ≤ k'
  no_fewer = le_of_suc-le-suc (lt_of_not-le (λ (g : suc k' ≤ k). clash (mul-le-mul_right d (more g))))
    where
      more : suc k' ≤ k → x + 1 ≤ k * C
      more g = omega arith

      clash : (x + 1) * d ≤ k * C * d → ⊥
      clash g = omega (arith, gaps_low)

  no_more : k' ≤ k + 1
  no_more = le_of_suc-le-suc (lt_of_not-le (λ (g : suc (k + 1) ≤ k'). clash (mul-le-mul_right d g)))
    where
      clash : suc (k + 1) * d ≤ k' * d → ⊥
      clash g = omega (arith, gaps_high, kd, xd)

  -- as many: both angles are what is left, or both what it lacks of a quarter
  as_many : (n : ℕ) (s : Bool) → k ≡ k' → Near d (folded n q m) (folded n C m') s s
  as_many n s e = go (eqb (n % 2) 0)
    where
      xd' : C * (k * d) + m' * d ≡ x * d
      xd' = ap (λ (y : ℕ). C * (y * d) + m' * d) e ∙ xd

      back : (C - m') * d + m' * d ≡ C * d
      back = omega (arith, ap (λ (y : ℕ). y * d) (sub-add_cancel (le_of_lt ml')))

      go : (b : Bool) → Near d (cond b m (q - m)) (cond b m' (C - m')) s s
      go true = inl (record { sign = refl; low = omega (arith, xd', gaps_high, kd); high = omega (arith, xd', gaps_low) })
      go false = inl (record { sign = refl; low = omega (arith, xd', gaps_low, back); high = omega (arith, xd', gaps_high, kd, back) })

  -- one more: of what is left next to nothing lacks of a quarter, and next to nothing is left by the program's count
  one_more : (n : ℕ) → k' ≡ k + 1 → Near d (folded n q m) (folded (n + 1) C m') (lower n) (lower (n + 1))
  one_more n e = go (eqb (n % 2) 0) (eqb ((n + 1) % 2) 0) (eqb→eq (n % 2) 0) (eqb→eq ((n + 1) % 2) 0) (λ t h. T_not (eqb (n % 2) 0) t (eq→eqb h)) (λ t h. T_not (eqb ((n + 1) % 2) 0) t (eq→eqb h))
    where
      xd' : C * (k * d + d) + m' * d ≡ x * d
      xd' = omega (arith, xd, ap (λ (y : ℕ). y * d) e)

      back : (C - m') * d + m' * d ≡ C * d
      back = omega (arith, ap (λ (y : ℕ). y * d) (sub-add_cancel (le_of_lt ml')))

      both : m' * d + (q - m) * Q ≤ d
      both = omega (arith, xd', gaps_high, kd)

      go : (b b' : Bool) → (T b → n % 2 ≡ 0) → (T b' → (n + 1) % 2 ≡ 0) → (T (not b) → n % 2 ≡ 0 → ⊥) → (T (not b') → (n + 1) % 2 ≡ 0 → ⊥) → Near d (cond b m (q - m)) (cond b' m' (C - m')) (lower n) (lower (n + 1))
      go true true f f' g g' = let h = f tt in let h' = f' tt in absurd (omega arith)
      go true false f f' g g' = inl (record { sign = next_lower n (f tt); low = omega (arith, both, back); high = omega (arith, both, back) })
      go false true f f' g g' = inr (omega (arith, both))
      go false false f f' g g' = absurd (g' tt (odd_next (g tt)))
        where
          odd_next : (n % 2 ≡ 0 → ⊥) → (n + 1) % 2 ≡ 0
          odd_next h = omega arith

  pub reduced : Near d (folded (k + j) q m) (folded (k' + j) C m') (lower (k + j)) (lower (k' + j))
  reduced = go (eq-or-lt_of_le no_fewer)
    where
      go : (k ≡ k') ⊎ (k < k') → Near d (folded (k + j) q m) (folded (k' + j) C m') (lower (k + j)) (lower (k' + j))
      go (inl e) = subst (λ (y : ℕ). Near d (folded (k + j) q m) (folded (y + j) C m') (lower (k + j)) (lower (y + j))) e (as_many (k + j) (lower (k + j)) e)
      go (inr l) = let e : k' ≡ k + 1 = omega (arith, no_more) in subst (λ (y : ℕ). Near d (folded (k + j) q m) (folded y C m') (lower (k + j)) (lower y)) (sum e) (one_more (k + j) e)
        where
          sum : k' ≡ k + 1 → k + j + 1 ≡ k' + j
          sum e = omega arith

-- of x = a / c up to 8, in Q31
pub sin_reduction : (a c x j : ℕ) → 0 < c → x * c ≤ a * Q → a * Q < x * c + c → a ≤ 8 * c → Near (unit c) (folded (turns a c + j) (quarter c) (rest a c)) (folded (x / C + j) C (x % C)) (lower (turns a c + j)) (lower (x / C + j))
sin_reduction a c x j cp lo hi h =
    let q = quarter c in
    let A = a * 200000000000000 in
    reduced (unit c) q A x (A / q) (A % q) (x / C) (x % C) j (omega arith) (omega arith) (omega arith) (omega arith) (omega arith)
    (div-add-mod' A q) (mod-lt A (omega arith)) (div-add-mod' x C) (mod-lt x (lit< tt))
    (le_of_suc-le-suc ((div-lt_iff_lt-mul {k = q} (omega arith)).1 (omega arith)))
