-- The two-power of fractions turns sums into products, to one part in 2 ^ 21, also where the whole part jumps. It is the addition law of its sum, with
-- the sum at 1 being 2 to one part in 2 ^ 24. Assumes nothing.
use mathlib.Core.Path.{◌≡◌, sym, ap, ap₂, ◌∙◌}
use mathlib.Core.Bool.{Bool, true, false, not}
use Prim.Native.Nat.{ℕ, ◌+◌, ◌-◌, ◌*◌, ◌/◌, ◌%◌, ◌^◌, ◌≤◌, ◌<◌}
use native.Mathlib.Nat.{le_trans, le_of_eq, mul_comm, mul_assoc, add-mul, mul-one, mul-pos, mul-le-mul_right, add-mul-div_right, add-mul-mod_self_right, mod-eq_of_lt, div-eq_of_lt, zero-add, mod-add-div', mod-lt}
use native.Mathlib.Omega.{arith}
use lib.Dec.{T, ltb, ltb→lt, nltb→le, lit<, lit≤}
use lib.Pow.{pow-add}
use Rattle.series.specs.Exponential.{exp_num, exp_den}
use Rattle.series.proofs.Algebra.{ac}
use Rattle.series.proofs.Exponential.{num_scale, den_scale}
use Rattle.series.proofs.Tail.{addition}
use Rattle.power.specs.Exact.{sum_num, sum_den}
use Rattle.power.proofs.Numbers.{L, M}

-- two to the power A / c is two_at c A / sum_den c
unfoldable pub two_at : ℕ → ℕ → ℕ
two_at c A = 2 ^ (A / c) * sum_num (A % c) c

-- 2 itself is close to S at 1
two_closed_hi : exp_num 11 L M ≤ 2 * exp_den 11 M
unfolding exp_num exp_den
two_closed_hi = lit≤ tt

two_closed_lo : 16777215 * (2 * exp_den 11 M) ≤ 16777216 * exp_num 11 L M
unfolding exp_num exp_den
two_closed_lo = lit≤ tt

pub two_hi : (c : ℕ) → sum_num c c ≤ 2 * sum_den c
unfolding sum_num sum_den
two_hi c = rw (num_scale 11 c L M, den_scale M c 11) (le_trans (mul-le-mul_right (c ^ 11) two_closed_hi) (le_of_eq (mul_assoc 2 (exp_den 11 M) (c ^ 11))))

two_lo : (c : ℕ) → 16777215 * (2 * sum_den c) ≤ 16777216 * sum_num c c
unfolding sum_num sum_den
two_lo c = rw (num_scale 11 c L M, den_scale M c 11) (go (exp_den 11 M) (exp_num 11 L M) (c ^ 11) two_closed_lo)
  where
    go : (d n C : ℕ) → 16777215 * (2 * d) ≤ 16777216 * n → 16777215 * (2 * (d * C)) ≤ 16777216 * (n * C)
    go d n C h = omega (arith, simp mul_assoc at (mul-le-mul_right C h))

-- the addition law of the sum, for arguments that add up to at most 7 / 5
fourteen : (x y z : ℕ) → 0 < z → (x + y) * 5 ≤ 7 * z
    → (exp_num 11 (x + y) z * exp_den 11 z ≤ exp_num 11 x z * exp_num 11 y z) × (4194304 * (exp_num 11 x z * exp_num 11 y z) ≤ 4194305 * (exp_num 11 (x + y) z * exp_den 11 z))
fourteen = addition 11 7 4194304 7 5 (lit< tt) (lit< tt) (lit≤ tt) (unfold exp_den in lit≤ tt)

small : (a c : ℕ) → a < 2 * c → a * L * 5 ≤ 7 * (c * M)
small a c h = omega arith

sum_law : (c p r : ℕ) → 0 < c → p + r < 2 * c → (sum_num (p + r) c * sum_den c ≤ sum_num p c * sum_num r c) × (4194304 * (sum_num p c * sum_num r c) ≤ 4194305 * (sum_num (p + r) c * sum_den c))
unfolding sum_num sum_den
sum_law c p r cp h =
    rw (add-mul p r L) (fourteen (p * L) (r * L) (c * M) (mul-pos cp (lit< tt)) (rw (sym (add-mul p r L)) (small (p + r) c h)))

-- ---- with a carry: p + r = c + q
carry_lo : (d a b s q w : ℕ) → 4194304 * (s * q) ≤ 4194305 * w → 16777215 * (2 * d) ≤ 16777216 * s → w ≤ a * b → 2097151 * (2 * (q * d)) ≤ 2097152 * (a * b)
carry_lo d a b s q w h₁ h₂ h₃ = omega (arith, simp mul_assoc at (mul-le-mul_right q h₂), mul_comm d q)

carry_hi : (d a b s q w : ℕ) → w ≤ s * q → s ≤ 2 * d → 4194304 * (a * b) ≤ 4194305 * w → 2097152 * (a * b) ≤ 2097153 * (2 * (q * d))
carry_hi d a b s q w h₁ h₂ h₃ = omega (arith, simp mul_assoc at (mul-le-mul_right q h₂), mul_comm d q)

split : (r n c : ℕ) → r < c → 0 < c → ((r + n * c) / c ≡ n) × ((r + n * c) % c ≡ r)
split r n c h cp = (add-mul-div_right r n cp ∙ ap (λ (z : ℕ). z + n) (div-eq_of_lt h) ∙ zero-add n, add-mul-mod_self_right r n c ∙ mod-eq_of_lt h)

pub two_at_is : (c r n A : ℕ) → 0 < c → r < c → r + n * c ≡ A → two_at c A ≡ 2 ^ n * sum_num r c
unfolding two_at
two_at_is c r n A cp h e = let z = split r n c h cp in rw (← e) (ap₂ (λ (i j : ℕ). 2 ^ i * sum_num j c) z.0 z.1)

-- with the powers of two put back
back_lo : (m n X Y a b k w d : ℕ) → m * (k * (w * d)) ≤ n * (a * b) → m * (X * Y * k * w * d) ≤ n * (X * a * (Y * b))
back_lo m n X Y a b k w d h = simp ac (simp ac at (mul-le-mul_right (X * Y) h))

back_hi : (m n X Y a b k w d : ℕ) → n * (a * b) ≤ m * (k * (w * d)) → n * (X * a * (Y * b)) ≤ m * (X * Y * k * w * d)
back_hi m n X Y a b k w d h = simp ac (simp ac at (mul-le-mul_right (X * Y) h))

module _ (c A B : ℕ) (cp : 0 < c) where
  abbrev p : ℕ
  p = A % c

  abbrev r : ℕ
  r = B % c

  abbrev X : ℕ
  X = 2 ^ (A / c)

  abbrev Y : ℕ
  Y = 2 ^ (B / c)

  Law : Type 0
  Law = (2097151 * (two_at c (A + B) * sum_den c) ≤ 2097152 * (two_at c A * two_at c B)) × (2097152 * (two_at c A * two_at c B) ≤ 2097153 * (two_at c (A + B) * sum_den c))

  together : A + B ≡ p + r + (A / c + B / c) * c
  together = ap₂ (λ (a b : ℕ). a + b) (sym (mod-add-div' A c)) (sym (mod-add-div' B c)) ∙ go p r (A / c) (B / c)
    where
      go : (p r m n : ℕ) → p + m * c + (r + n * c) ≡ p + r + (m + n) * c
      go p r m n = simp add-mul (omega arith)

  bound : p + r < 2 * c
  bound = omega (arith, mod-lt A cp, mod-lt B cp)

  finish : (k q : ℕ) → two_at c (A + B) ≡ X * Y * k * sum_num q c → 2097151 * (k * (sum_num q c * sum_den c)) ≤ 2097152 * (sum_num p c * sum_num r c) → 2097152 * (sum_num p c * sum_num r c) ≤ 2097153 * (k * (sum_num q c * sum_den c)) → Law
  unfolding Law
  finish k q e lo hi = rw e (unfold two_at in (back_lo 2097151 2097152 X Y (sum_num p c) (sum_num r c) k (sum_num q c) (sum_den c) lo, back_hi 2097153 2097152 X Y (sum_num p c) (sum_num r c) k (sum_num q c) (sum_den c) hi))

  no_carry : p + r < c → Law
  no_carry h =
      let s = sum_law c p r cp bound in
      finish 1 (p + r)
      (two_at_is c (p + r) (A / c + B / c) (A + B) cp h (sym together) ∙ ap (λ (z : ℕ). z * sum_num (p + r) c) (pow-add 2 (A / c) (B / c) ∙ sym (mul-one (X * Y))))
      (omega arith)
      (omega arith)

  carry : c ≤ p + r → Law
  carry h =
      let q = p + r - c in
      let cq : c + q ≡ p + r = omega arith in
      let s = sum_law c p r cp bound in
      let t = rw cq at (sum_law c c q cp (omega (arith, bound))) in
      finish 2 q
      (two_at_is c q (A / c + B / c + 1) (A + B) cp (omega (arith, bound)) (simp add-mul (omega (arith, simp add-mul at together))) ∙ ap (λ (z : ℕ). z * sum_num q c) (pow-add 2 (A / c + B / c) 1 ∙ ap (λ (z : ℕ). z * 2) (pow-add 2 (A / c) (B / c))))
      (carry_lo (sum_den c) (sum_num p c) (sum_num r c) (sum_num c c) (sum_num q c) (sum_num (p + r) c * sum_den c) t.1 (two_lo c) s.0)
      (carry_hi (sum_den c) (sum_num p c) (sum_num r c) (sum_num c c) (sum_num q c) (sum_num (p + r) c * sum_den c) t.0 (two_hi c) s.1)

  pub power_law : (2097151 * (two_at c (A + B) * sum_den c) ≤ 2097152 * (two_at c A * two_at c B)) × (2097152 * (two_at c A * two_at c B) ≤ 2097153 * (two_at c (A + B) * sum_den c))
  unfolding Law
  power_law = go (ltb (p + r) c) (λ t. ltb→lt (p + r) c t) (λ t. nltb→le (p + r) c t)
    where
      go : (b : Bool) → (T b → p + r < c) → (T (not b) → c ≤ p + r) → Law
      go true f g = no_carry (f tt)
      go false f g = carry (g tt)
