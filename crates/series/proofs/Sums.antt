-- Finite sums and products of series, over ℕ. Assumes nothing.
use mathlib.Core.Path.{◌≡◌, refl, sym, ap, ap₂, ◌∙◌, subst}
use Prim.Native.Nat.{ℕ, zero, suc, ◌+◌, ◌*◌, ◌≤◌, ◌<◌}
use native.Mathlib.Nat.{le_trans, le_of_eq, eq_of_mul-eq-mul_right, mul-pos, le-add_right, le_refl, mul_comm, mul_assoc, mul_left_comm, mul-add, add-mul, mul-zero, zero-mul, zero-add, add-zero, add-suc, suc-add, mul-le-mul_left}
use native.Mathlib.Omega.{arith}
use Rattle.series.proofs.Algebra.{ac}

-- a series from its second term
abbrev pub next : (ℕ → ℕ) → ℕ → ℕ
next t i = t (suc i)

-- t 0 + .. + t n
unfoldable pub sum : (ℕ → ℕ) → ℕ → ℕ
sum t zero = t 0
sum t (suc n) = sum t n + t (suc n)

-- the sum of t i * u j over i + j = m
unfoldable pub conv : (ℕ → ℕ) → (ℕ → ℕ) → ℕ → ℕ
conv t u zero = t 0 * u 0
conv t u (suc m) = t 0 * u (suc m) + conv (next t) u m

front : (t : ℕ → ℕ) (n : ℕ) → sum t (suc n) ≡ t 0 + sum (next t) n
unfolding sum
front t zero = refl
front t (suc n) = go (sum t (suc n)) (sum (next t) n) (front t n)
  where
    go : (a b : ℕ) → a ≡ t 0 + b → a + t (suc (suc n)) ≡ t 0 + (b + t (suc (suc n)))
    go a b e = omega arith

pub sum_mono : (t : ℕ → ℕ) (n k : ℕ) → sum t n ≤ sum t (k + n)
unfolding sum
sum_mono t n zero = rw (zero-add n) (le_refl (sum t n))
sum_mono t n (suc k) = rw (suc-add k n) (omega (arith, sum_mono t n k))

row_step : (a s r w c : ℕ) → a * s + r + (a * w + c) ≡ a * (s + w) + (r + c)
row_step a s r w c = simp mul-add (omega arith)

-- a triangle by its first row
row : (t u : ℕ → ℕ) (n : ℕ) → sum (conv t u) (suc n) ≡ t 0 * sum u (suc n) + sum (conv (next t) u) n
unfolding sum conv
row t u zero = simp mul-add (omega arith)
row t u (suc n) = rw (row t u n) (row_step (t 0) (sum u (suc n)) (sum (conv (next t) u) n) (u (suc (suc n))) (conv (next t) u (suc n)))

-- a triangle is in the square
tri_step : (a b r q s : ℕ) → s ≤ b → r ≤ q * s → a * b + r ≤ (a + q) * b
tri_step a b r q s h k = simp add-mul (omega (arith, mul-le-mul_left q h))

pub triangle_le : (t u : ℕ → ℕ) (n : ℕ) → sum (conv t u) n ≤ sum t n * sum u n
unfolding sum conv
triangle_le t u zero = le_refl (t 0 * u 0)
triangle_le t u (suc n) =
    subst (λ (z : ℕ). sum (conv t u) (suc n) ≤ z * sum u (suc n)) (sym (front t n))
    (le_trans (le_of_eq (row t u n)) (tri_step (t 0) (sum u (suc n)) (sum (conv (next t) u) n) (sum (next t) n) (sum u n) (le-add_right (sum u n) (u (suc n))) (triangle_le (next t) u n)))

-- and the square in the triangle of twice the side
first_row : (t u : ℕ → ℕ) (k : ℕ) → t 0 * sum u k ≤ sum (conv t u) k
unfolding sum conv
first_row t u zero = le_refl (t 0 * u 0)
first_row t u (suc k) = le_trans (le-add_right (t 0 * sum u (suc k)) (sum (conv (next t) u) k)) (le_of_eq (sym (row t u k)))

sq_step : (a b r q s : ℕ) → s ≤ b → q * s ≤ r → (a + q) * s ≤ a * b + r
sq_step a b r q s h k = simp add-mul (omega (arith, mul-le-mul_left a h))

pub square_le : (t u : ℕ → ℕ) (n k : ℕ) → sum t n * sum u k ≤ sum (conv t u) (n + k)
unfolding sum
square_le t u zero k = rw (zero-add k) (first_row t u k)
square_le t u (suc n) k =
    rw (suc-add n k, front t n, row t u (n + k))
    (sq_step (t 0) (sum u (suc (n + k))) (sum (conv (next t) u) (n + k)) (sum (next t) n) (sum u k) (rw (suc-add n k) at (sum_mono u k (suc n))) (square_le (next t) u n k))

-- ---- the product of two exponential series

pub conv_ext : (t t' u : ℕ → ℕ) (m : ℕ) → ((i : ℕ) → i ≤ m → t i ≡ t' i) → conv t u m ≡ conv t' u m
unfolding conv
conv_ext t t' u zero h = ap (λ (z : ℕ). z * u 0) (h 0 (le_refl 0))
conv_ext t t' u (suc m) h = ap₂ (λ (a b : ℕ). a * u (suc m) + b) (h 0 (omega arith)) (conv_ext (next t) (next t') u m (λ i l. h (suc i) (omega arith)))

pub conv_ext_r : (t u u' : ℕ → ℕ) (m : ℕ) → ((i : ℕ) → i ≤ m → u i ≡ u' i) → conv t u m ≡ conv t u' m
unfolding conv
conv_ext_r t u u' zero h = ap (λ (z : ℕ). t 0 * z) (h 0 (le_refl 0))
conv_ext_r t u u' (suc m) h = ap₂ (λ (a b : ℕ). t 0 * a + b) (h (suc m) (le_refl (suc m))) (conv_ext_r (next t) u u' m (λ i l. h i (omega arith)))

abbrev times : ℕ → (ℕ → ℕ) → ℕ → ℕ
times x t i = x * t i

scale_step : (x a b r : ℕ) → x * a * b + x * r ≡ x * (a * b + r)
scale_step x a b r = simp (mul-add, mul_assoc)

conv_times : (x : ℕ) (t u : ℕ → ℕ) (m : ℕ) → conv (times x t) u m ≡ x * conv t u m
unfolding conv
conv_times x t u zero = mul_assoc x (t 0) (u 0)
conv_times x t u (suc m) = rw (conv_times x (next t) u m) (scale_step x (t 0) (u (suc m)) (conv (next t) u m))

scale_step_r : (x a b r : ℕ) → a * (x * b) + x * r ≡ x * (a * b + r)
scale_step_r x a b r = simp ac

conv_times_r : (x : ℕ) (t u : ℕ → ℕ) (m : ℕ) → conv t (times x u) m ≡ x * conv t u m
unfolding conv
conv_times_r x t u zero = mul_left_comm (t 0) x (u 0)
conv_times_r x t u (suc m) = rw (conv_times_r x (next t) u m) (scale_step_r x (t 0) (u (suc m)) (conv (next t) u m))

shift_base : (a b c d : ℕ) → d ≡ 0 → a * b + c * d ≡ a * b
shift_base a b c d e = rw (e, mul-zero c) (add-zero (a * b))

-- a series whose first term is 0
shift_r : (t u : ℕ → ℕ) (m : ℕ) → u 0 ≡ 0 → conv t u (suc m) ≡ conv t (next u) m
unfolding conv
shift_r t u zero e = shift_base (t 0) (u 1) (t 1) (u 0) e
shift_r t u (suc m) e = ap (λ (z : ℕ). t 0 * u (suc (suc m)) + z) (shift_r (next t) u m e)

shift_l : (t u : ℕ → ℕ) (m : ℕ) → t 0 ≡ 0 → conv t u (suc m) ≡ conv (next t) u m
unfolding conv
shift_l t u m e = rw (e, zero-mul (u (suc m))) (zero-add (conv (next t) u m))

-- each term by its number, counted from k
abbrev weigh : ℕ → (ℕ → ℕ) → ℕ → ℕ
weigh k t i = (k + i) * t i

weigh_base : (k a b : ℕ) → (k + 0) * (a * b) ≡ (k + 0) * a * b + a * ((0 + 0) * b)
weigh_base k a b = rw (add-zero k, zero-mul b, mul-zero a) (sym (mul_assoc k a b) ∙ sym (add-zero (k * a * b)))

weigh_step : (k m a b c p q : ℕ) → (suc k + m) * c ≡ p + q → (k + suc m) * (a * b + c) ≡ (k + 0) * a * b + p + (a * ((0 + suc m) * b) + q)
weigh_step k m a b c p q e =
    let n = suc m in
    rw (add-zero k, zero-add n) (simp ac (omega (arith, simp ac at (subst (λ (z : ℕ). z * c ≡ p + q) (suc-add k m ∙ sym (add-suc k m)) e))))

leibniz : (k m : ℕ) (t u : ℕ → ℕ) → (k + m) * conv t u m ≡ conv (weigh k t) u m + conv t (weigh 0 u) m
unfolding conv
leibniz k zero t u = weigh_base k (t 0) (u 0)
leibniz k (suc m) t u =
    weigh_step k m (t 0) (u (suc m)) (conv (next t) u m) (conv (next (weigh k t)) u m) (conv (next t) (weigh 0 u) m)
    (leibniz (suc k) m (next t) u ∙ ap (λ (z : ℕ). z + conv (next t) (weigh 0 u) m) (conv_ext (weigh (suc k) (next t)) (next (weigh k t)) u m (λ i l. ap (λ (z : ℕ). z * t (suc i)) (suc-add k i ∙ sym (add-suc k i)))))

-- three series whose terms are x ^ j / j!, y ^ j / j! and (x + y) ^ j / j! of z, up to the same factor, for the first M
module _ (M x y z : ℕ) (zp : 0 < z) (t u v : ℕ → ℕ)
    (ht : (i : ℕ) → i < M → suc i * t (suc i) * z ≡ x * t i)
    (hu : (i : ℕ) → i < M → suc i * u (suc i) * z ≡ y * u i)
    (hv : (i : ℕ) → i < M → suc i * v (suc i) * z ≡ (x + y) * v i)
    (ut : u 0 ≡ t 0) (vt : v 0 ≡ t 0) where
  left : (m : ℕ) → m < M → z * conv (weigh 0 t) u (suc m) ≡ x * conv t u m
  left m l =
      ap (λ (w : ℕ). z * w) (shift_l (weigh 0 t) u m (zero-mul (t 0)))
      ∙ sym (conv_times z (next (weigh 0 t)) u m)
      ∙ conv_ext (times z (next (weigh 0 t))) (times x t) u m (λ i h. mul_comm z ((0 + suc i) * t (suc i)) ∙ ap (λ (w : ℕ). w * t (suc i) * z) (zero-add (suc i)) ∙ ht i (omega arith))
      ∙ conv_times x t u m

  right : (m : ℕ) → m < M → z * conv t (weigh 0 u) (suc m) ≡ y * conv t u m
  right m l =
      ap (λ (w : ℕ). z * w) (shift_r t (weigh 0 u) m (zero-mul (u 0)))
      ∙ sym (conv_times_r z t (next (weigh 0 u)) m)
      ∙ conv_ext_r t (times z (next (weigh 0 u))) (times y u) m (λ i h. mul_comm z ((0 + suc i) * u (suc i)) ∙ ap (λ (w : ℕ). w * u (suc i) * z) (zero-add (suc i)) ∙ hu i (omega arith))
      ∙ conv_times_r y t u m

  -- the product's terms go by the same rule as those of v
  rule : (m : ℕ) → m < M → suc m * conv t u (suc m) * z ≡ (x + y) * conv t u m
  rule m l = go (conv t u (suc m)) (conv (weigh 0 t) u (suc m)) (conv t (weigh 0 u) (suc m)) (conv t u m) (ap (λ (w : ℕ). w * conv t u (suc m)) (sym (zero-add (suc m))) ∙ leibniz 0 (suc m) t u) (left m l) (right m l)
    where
      go : (c a b d : ℕ) → suc m * c ≡ a + b → z * a ≡ x * d → z * b ≡ y * d → suc m * c * z ≡ (x + y) * d
      go c a b d e f g = rw e (simp ac (omega arith))

  -- the binomial theorem: the product's terms are those of v
  pub binomial : (m : ℕ) → m ≤ M → conv t u m ≡ t 0 * v m
  unfolding conv
  binomial zero l = ap (λ (w : ℕ). t 0 * w) (ut ∙ sym vt)
  binomial (suc m) l = go (conv t u (suc m)) (conv t u m) (v (suc m)) (v m) (rule m l) (hv m l) (binomial m (omega arith))
    where
      go : (c d w p : ℕ) → suc m * c * z ≡ (x + y) * d → suc m * w * z ≡ (x + y) * p → d ≡ t 0 * p → c ≡ t 0 * w
      go c d w p e f g =
          eq_of_mul-eq-mul_right (suc m * z) (mul-pos {m = suc m} (omega arith) zp) c (t 0 * w)
          (mul_left_comm c (suc m) z ∙ sym (mul_assoc (suc m) c z) ∙ e ∙ ap (λ (q : ℕ). (x + y) * q) g ∙ mul_left_comm (x + y) (t 0) p ∙ ap (λ (q : ℕ). t 0 * q) (sym f) ∙ shuffle (t 0) (suc m) w z)
        where
          shuffle : (a b c d : ℕ) → a * (b * c * d) ≡ a * c * (b * d)
          shuffle a b c d = simp ac

  pub binomial_sum : (m : ℕ) → m ≤ M → sum (conv t u) m ≡ t 0 * sum v m
  unfolding sum
  binomial_sum zero l = binomial 0 l
  binomial_sum (suc m) l = rw (binomial_sum m (omega arith), binomial (suc m) l) (sym (mul-add (t 0) (sum v m) (v (suc m))))
