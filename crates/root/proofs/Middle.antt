-- Between two neighbours of the format the middle's square decides. In units of 2 ^ -149 the root is the root of q, times W = 2 ^ Y, and n * W is the value of 24 digits nearest to it.
-- A value of the format that lies below or above n * W lies a whole W away, or n is the least of its binade, and is then not past the root. Assumes nothing.
use mathlib.Core.Path.{◌≡◌, sym, ap, ◌∙◌, subst}
use mathlib.Core.Logic.{◌⊎◌, inl, inr}
use mathlib.Core.Bool.{Bool, true, false, not}
use Prim.Native.Nat.{ℕ, zero, suc, ◌+◌, ◌-◌, ◌*◌, ◌^◌, ◌≤◌, ◌<◌}
use native.Mathlib.Nat.{le_trans, le_of_eq, le_of_lt, lt_of_lt_of_le, lt_of_le_of_lt, eq-or-lt_of_le, mul_assoc, mul_comm, mul_left_comm, mul-pos, mul-le-mul, mul-le-mul_right, mul-lt-mul_of_pos_right, le_of_mul-le-mul_right, lt_of_mul-lt-mul_right}
use native.Mathlib.Omega.{arith}
use lib.Dec.{T, leb, leb→le, nleb→lt}
use lib.Pow.{pow_pos, pow-add, pow_mono, shl_lt}
use lib.Ieee.{fin, binary32, up, down}
use lib.Ieee.Fits.{down_pos}
use lib.Ieee.Digits.{back}
use Rattle.root.specs.Root.{NoneNearer, square}
use Rattle.line.proofs.Rounds.{Rep, fits_sized}
use Rattle.series.proofs.Algebra.{ac}
use Rattle.root.proofs.Whole.{Nearest}

pub le_or_lt : (a b : ℕ) → (a ≤ b) ⊎ (b < a)
le_or_lt a b = go (leb a b) (leb→le a b) (nleb→lt a b)
  where
    go : (c : Bool) → (T c → a ≤ b) → (T (not c) → b < a) → (a ≤ b) ⊎ (b < a)
    go true y n = inl (y tt)
    go false y n = inr (n tt)

-- ---- how near to n * 2 ^ Y a value of k units can lie
module _ (n Y k : ℕ) (lo : 8388608 ≤ n) (u : Rep binary32 k) where
  -- it is a multiple of 2 ^ Y, or less than the least number of 24 digits
  coarse : Y ≤ u.j → (w : ℕ) × (k ≡ w * 2 ^ Y)
  coarse h = (u.q * 2 ^ (u.j - Y), u.is ∙ ap (λ (z : ℕ). u.q * z) (ap (λ (i : ℕ). 2 ^ i) (sym (back u.j Y h)) ∙ pow-add 2 (u.j - Y) Y) ∙ sym (mul_assoc u.q (2 ^ (u.j - Y)) (2 ^ Y)))

  fine : u.j < Y → k < 8388608 * 2 ^ Y
  fine h = lt_of_le_of_lt (le_of_eq u.is) (lt_of_lt_of_le (shl_lt 24 u.j u.few) (le_trans (pow_mono (omega arith)) (le_of_eq (pow-add 2 23 Y))))

  below : k < n * 2 ^ Y → 8388608 < n → k + 2 ^ Y ≤ n * 2 ^ Y
  below h l = elim (le_or_lt Y u.j) [ inl c ↦ step (coarse c).0 (coarse c).1 | inr f ↦ omega (arith, fine f, mul-le-mul_right (2 ^ Y) l) ]
    where
      step : (w : ℕ) → k ≡ w * 2 ^ Y → k + 2 ^ Y ≤ n * 2 ^ Y
      step w e = let c : w < n = lt_of_mul-lt-mul_right (2 ^ Y) (subst (λ (z : ℕ). z < n * 2 ^ Y) e h) in omega (arith, mul-le-mul_right (2 ^ Y) c)

  above : n * 2 ^ Y < k → n * 2 ^ Y + 2 ^ Y ≤ k
  above h = elim (le_or_lt Y u.j) [ inl c ↦ step (coarse c).0 (coarse c).1 | inr f ↦ omega (arith, fine f, mul-le-mul_right (2 ^ Y) lo) ]
    where
      step : (w : ℕ) → k ≡ w * 2 ^ Y → n * 2 ^ Y + 2 ^ Y ≤ k
      step w e = let c : n < w = lt_of_mul-lt-mul_right (2 ^ Y) (subst (λ (z : ℕ). n * 2 ^ Y < z) e h) in omega (arith, mul-le-mul_right (2 ^ Y) c)

-- ---- the middle's square against q * W * W
four : (a w : ℕ) → a * a * (w * w) ≡ a * w * (a * w)
four a w = simp ac

half_under : (q n W k : ℕ) → suc n * suc n < q + suc n → k + W ≤ suc n * W → square (suc n * W + k) ≤ 4 * q * (W * W)
half_under q n W k h l =
    let m : suc n * W + k ≤ (2 * n + 1) * W = omega arith in
    let s : (2 * n + 1) * (2 * n + 1) ≤ 4 * q = omega arith in
    le_trans (mul-le-mul m m) (le_trans (le_of_eq (sym (four (2 * n + 1) W))) (mul-le-mul_right (W * W) s))

half_least : (q n W k : ℕ) → n * n ≤ q → k ≤ n * W → square (n * W + k) ≤ 4 * q * (W * W)
half_least q n W k h l =
    let m : n * W + k ≤ 2 * n * W = omega arith in
    let s : 2 * n * (2 * n) ≤ 4 * q = omega arith in
    le_trans (mul-le-mul m m) (le_trans (le_of_eq (sym (four (2 * n) W))) (mul-le-mul_right (W * W) s))

half_over : (q n W k : ℕ) → q ≤ n * n + n → n * W + W ≤ k → 4 * q * (W * W) ≤ square (n * W + k)
half_over q n W k h l =
    let m : (2 * n + 1) * W ≤ n * W + k = omega arith in
    let s : 4 * q ≤ (2 * n + 1) * (2 * n + 1) = omega arith in
    le_trans (mul-le-mul_right (W * W) s) (le_trans (le_of_eq (four (2 * n + 1) W)) (mul-le-mul m m))

-- ---- from units to fractions: the root is that of p / w, n * W units are a / c, and k units are b / g
module _ (p w a c b g q n W k U : ℕ) (up : 0 < U) (cp : 0 < c) (gp : 0 < g) (ep : p * U * U ≡ q * (W * W) * w) (ea : a * U ≡ n * W * c) (eb : b * U ≡ k * g) where
  sum : (a * g + b * c) * U ≡ (n * W + k) * (c * g)
  sum = simp ac (omega (arith, simp ac at (ap (λ (z : ℕ). z * g) ea), simp ac at (ap (λ (z : ℕ). z * c) eb)))

  left : square (a * g + b * c) * w * (U * U) ≡ square (n * W + k) * (square (c * g) * w)
  left = go (a * g + b * c) (n * W + k) (c * g) sum
    where
      go : (t s d : ℕ) → t * U ≡ s * d → t * t * w * (U * U) ≡ s * s * (d * d * w)
      go t s d e = sh₁ t w U ∙ ap (λ (z : ℕ). z * z * w) e ∙ sh₂ s d w
        where
          sh₁ : (t w U : ℕ) → t * t * w * (U * U) ≡ t * U * (t * U) * w
          sh₁ t w U = simp ac

          sh₂ : (s d w : ℕ) → s * d * (s * d) * w ≡ s * s * (d * d * w)
          sh₂ s d w = simp ac

  right : 4 * p * square (c * g) * (U * U) ≡ 4 * q * (W * W) * (square (c * g) * w)
  right = sh₁ p (c * g) U ∙ ap (λ (z : ℕ). 4 * z * (c * g * (c * g))) ep ∙ sh₂ q (W * W) w (c * g)
    where
      sh₁ : (p d U : ℕ) → 4 * p * (d * d) * (U * U) ≡ 4 * (p * U * U) * (d * d)
      sh₁ p d U = simp (mul_assoc, mul_comm, mul_left_comm)

      sh₂ : (q v w d : ℕ) → 4 * (q * v * w) * (d * d) ≡ 4 * q * v * (d * d * w)
      sh₂ q v w d = simp (mul_assoc, mul_comm, mul_left_comm)

  at_most : square (n * W + k) ≤ 4 * q * (W * W) → square (a * g + b * c) * w ≤ 4 * p * square (c * g)
  at_most h = le_of_mul-le-mul_right (le_trans (le_of_eq left) (le_trans (mul-le-mul_right (square (c * g) * w) h) (le_of_eq (sym right)))) (mul-pos up up)

  at_least : 4 * q * (W * W) ≤ square (n * W + k) → 4 * p * square (c * g) ≤ square (a * g + b * c) * w
  at_least h = le_of_mul-le-mul_right (le_trans (le_of_eq right) (le_trans (mul-le-mul_right (square (c * g) * w) h) (le_of_eq (sym left)))) (mul-pos up up)

  less : b * c < a * g → k < n * W
  less h = lt_of_mul-lt-mul_right (c * g) (subst (λ (z : ℕ). z < n * W * (c * g)) left' (subst (λ (z : ℕ). b * c * U < z) right' (mul-lt-mul_of_pos_right h up)))
    where
      left' : b * c * U ≡ k * (c * g)
      left' = simp ac (simp ac at (ap (λ (z : ℕ). z * c) eb))

      right' : a * g * U ≡ n * W * (c * g)
      right' = simp ac (simp ac at (ap (λ (z : ℕ). z * g) ea))

  more : a * g < b * c → n * W < k
  more h = lt_of_mul-lt-mul_right (c * g) (subst (λ (z : ℕ). n * W * (c * g) < z) left' (subst (λ (z : ℕ). z < b * c * U) right' (mul-lt-mul_of_pos_right h up)))
    where
      left' : b * c * U ≡ k * (c * g)
      left' = simp ac (simp ac at (ap (λ (z : ℕ). z * c) eb))

      right' : a * g * U ≡ n * W * (c * g)
      right' = simp ac (simp ac at (ap (λ (z : ℕ). z * g) ea))

-- the rounding: no value of the format lies nearer
module _ (p w a c q n Y : ℕ) (cp : 0 < c) (ep : p * 2 ^ 149 * 2 ^ 149 ≡ q * (2 ^ Y * 2 ^ Y) * w) (ea : a * 2 ^ 149 ≡ n * 2 ^ Y * c) (r : Nearest q n) (lo : 8388608 ≤ n) (ql : 70368744177664 ≤ q) where
  lower : (n k : ℕ) → 8388608 ≤ n → n * n < q + n → k < n * 2 ^ Y → (8388608 < n → k + 2 ^ Y ≤ n * 2 ^ Y) → square (n * 2 ^ Y + k) ≤ 4 * q * (2 ^ Y * 2 ^ Y)
  lower zero k l h g f = absurd (none l)
    where
      none : 8388608 ≤ 0 → ⊥
      none z = omega arith
  lower (suc n) k l h g f = elim (eq-or-lt_of_le l) [
    | inl e ↦ half_least q (suc n) (2 ^ Y) k (subst (λ (z : ℕ). z * z ≤ q) e ql) (le_of_lt g)
    | inr m ↦ half_under q n (2 ^ Y) k h (f m)
  ]

  pub sqrt_rounding : NoneNearer p w a c
  sqrt_rounding =
      record {
        under =
            λ m e f h.
            let u = fits_sized binary32 (fin false m e) f tt in
            let k = u.size_of in
            let l = less p w a c (m * up e) (down e) q n (2 ^ Y) k (2 ^ 149) (pow_pos 149) cp (down_pos e) ep ea u.is.1 h in
            at_most p w a c (m * up e) (down e) q n (2 ^ Y) k (2 ^ 149) (pow_pos 149) cp (down_pos e) ep ea u.is.1
            (lower n k lo r.past l (below n Y k lo u.rep l));
        over =
            λ m e f h.
            let u = fits_sized binary32 (fin false m e) f tt in
            let k = u.size_of in
            let l = more p w a c (m * up e) (down e) q n (2 ^ Y) k (2 ^ 149) (pow_pos 149) cp (down_pos e) ep ea u.is.1 h in
            at_least p w a c (m * up e) (down e) q n (2 ^ Y) k (2 ^ 149) (pow_pos 149) cp (down_pos e) ep ea u.is.1
            (half_over q n (2 ^ Y) k r.short (above n Y k lo u.rep l));
      }
