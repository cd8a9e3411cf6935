-- How the two-power moves when its argument moves a little, over one denominator and over two. It is the addition law with the small step as one part:
-- the two-power of the step is at least 1, and at most 1 and one part in R. Assumes nothing.
use mathlib.Core.Path.{◌≡◌, sym, ap, ◌∙◌, subst}
use mathlib.Core.Bool.{Bool, true, false, not}
use Prim.Native.Nat.{ℕ, zero, suc, ◌+◌, ◌-◌, ◌*◌, ◌/◌, ◌%◌, ◌^◌, ◌≤◌, ◌<◌}
use native.Mathlib.Nat.{le_trans, le_of_eq, le_of_lt, mul_comm, mul_assoc, one-mul, mul-pos, mul-le-mul_left, mul-le-mul_right, mul-lt-mul_of_pos_left, le_of_mul-le-mul_right, mod-add-div', mod-lt, zero-mul, pow-suc, pow-zero}
use native.Mathlib.Omega.{arith}
use lib.Dec.{T, leb, leb→le, nleb→lt, lit<}
use lib.Pow.{pow_pos}
use Rattle.series.proofs.Algebra.{ac}
use Rattle.series.proofs.Exponential.{num_scale, den_scale, num_zero, num_mono, at_least_one, den_pos}
use Rattle.series.proofs.Tail.{near_one}
use Rattle.power.specs.Exact.{sum_num, sum_den}
use Rattle.power.proofs.Numbers.{L, M}
use Rattle.power.proofs.TwoPower.{two_at, two_at_is, power_law}

pub sum_den_pos : (c : ℕ) → 0 < c → 0 < sum_den c
unfolding sum_den
sum_den_pos c cp = den_pos 11 (c * M) (mul-pos cp (lit< tt))

pub sum_ge : (p c : ℕ) → sum_den c ≤ sum_num p c
unfolding sum_num sum_den
sum_ge p c = at_least_one 11 (p * L) (c * M)

pub sum_zero : (c : ℕ) → sum_num 0 c ≡ sum_den c
unfolding sum_num sum_den
sum_zero c = rw (zero-mul L) (num_zero 11 (c * M))

pub sum_mono : (p q c : ℕ) → p ≤ q → sum_num p c ≤ sum_num q c
unfolding sum_num
sum_mono p q c h = num_mono 11 (p * L) (q * L) (c * M) (mul-le-mul_right L h)

-- ---- a small step d of c
module _ (c d : ℕ) (cp : 0 < c) (dc : d < c) where
  step_is : two_at c d ≡ sum_num d c
  step_is = two_at_is c d 0 d cp dc (omega (arith, zero-mul c)) ∙ one-mul (sum_num d c)

  step_le : (R : ℕ) → (R + 1) * (d * L) ≤ c * M → R * two_at c d ≤ (R + 1) * sum_den c
  step_le R h = rw step_is (unfold sum_num sum_den in near_one R 11 (d * L) (c * M) (mul-pos cp (lit< tt)) h)

-- a two-power is at least 1
two_ge : (c e : ℕ) → sum_den c ≤ two_at c e
unfolding two_at
two_ge c e = le_trans (sum_ge (e % c) c) (le_trans (le_of_eq (sym (one-mul (sum_num (e % c) c)))) (mul-le-mul_right (sum_num (e % c) c) (pow_pos (e / c))))

-- with every number a variable
up_step : (m n R Q D x y s : ℕ) → 0 < D → m * (y * D) ≤ n * (x * s) → R * s ≤ Q * D → m * R * y ≤ n * Q * x
up_step m n R Q D x y s dp h k = le_of_mul-le-mul_right {k = D} (simp ac (omega (arith, simp ac at (mul-le-mul_right R h), simp ac at (mul-le-mul_right (n * x) k)))) dp

down_step : (m n D x y s : ℕ) → 0 < D → n * (x * s) ≤ m * (y * D) → D ≤ s → n * x ≤ m * y
down_step m n D x y s dp h k = le_of_mul-le-mul_right {k = D} (simp ac (omega (arith, simp ac at h, simp ac at (mul-le-mul_right (n * x) k)))) dp

-- the two-power does not fall, but for one part in 2 ^ 21
pub rise : (c X Y : ℕ) → 0 < c → X ≤ Y → 2097152 * two_at c X ≤ 2097153 * two_at c Y
rise c X Y cp h =
    let e : X + (Y - X) ≡ Y = omega arith in
    subst (λ (z : ℕ). 2097152 * two_at c X ≤ 2097153 * two_at c z) e
    (down_step 2097153 2097152 (sum_den c) (two_at c X) (two_at c (X + (Y - X))) (two_at c (Y - X)) (sum_den_pos c cp) (power_law c X (Y - X) cp).1 (two_ge c (Y - X)))

-- x and y are equal to one part in 1900000
pub record Ratio (x y : ℕ) : Type 0 where
  pub over : 1900000 * x ≤ 1900001 * y
  pub under : 1900000 * y ≤ 1900001 * x

flip : {x y : ℕ} → Ratio x y → Ratio y x
flip r = record { over = r.under; under = r.over }

ratio : (x y : ℕ) → 2097152 * x ≤ 2097153 * y → 2097151 * 33554432 * y ≤ 2097152 * 33554433 * x → Ratio x y
ratio x y h k = record { over = omega arith; under = omega arith }

module _ (c : ℕ) (cp : 0 < c) where
  forth : (X e : ℕ) → e < c → 33554433 * (e * L) ≤ c * M → Ratio (two_at c X) (two_at c (X + e))
  forth X e h k =
      let p = power_law c X e cp in
      let dp = sum_den_pos c cp in
      ratio (two_at c X) (two_at c (X + e))
      (down_step 2097153 2097152 (sum_den c) (two_at c X) (two_at c (X + e)) (two_at c e) dp p.1 (two_ge c e))
      (up_step 2097151 2097152 33554432 33554433 (sum_den c) (two_at c X) (two_at c (X + e)) (two_at c e) dp p.0 (step_le c e cp h 33554432 k))

  -- X and Y are at most d apart
  pub move : (X Y d : ℕ) → X ≤ Y + d → Y ≤ X + d → d < c → 33554433 * (d * L) ≤ c * M → Ratio (two_at c X) (two_at c Y)
  move X Y d h k dc small = go (leb X Y) (λ t. leb→le X Y t) (λ t. le_of_lt (nleb→lt X Y t))
    where
      one : (X Y : ℕ) → X ≤ Y → Y ≤ X + d → Ratio (two_at c X) (two_at c Y)
      one X Y l m =
          let e : X + (Y - X) ≡ Y = omega arith in
          subst (λ (z : ℕ). Ratio (two_at c X) (two_at c z)) e (forth X (Y - X) (omega arith) (le_trans (mul-le-mul_left 33554433 (mul-le-mul_right L (omega arith))) small))

      go : (b : Bool) → (T b → X ≤ Y) → (T (not b) → Y ≤ X) → Ratio (two_at c X) (two_at c Y)
      go true f g = one X Y (f tt) k
      go false f g = flip (one Y X (g tt) h)

-- ---- over another denominator
pub sum_scale : (k p c : ℕ) → sum_num (k * p) (k * c) ≡ sum_num p c * k ^ 11
unfolding sum_num
sum_scale k p c = rw (mul_assoc k p L, mul_assoc k c M) (num_scale 11 k (p * L) (c * M))

pub sum_den_scale : (k c : ℕ) → sum_den (k * c) ≡ sum_den c * k ^ 11
unfolding sum_den
sum_den_scale k c = rw (mul_assoc k c M) (den_scale (c * M) k 11)

pub two_scale : (k c A : ℕ) → 0 < k → 0 < c → two_at (k * c) (k * A) ≡ two_at c A * k ^ 11
two_scale k c A kp cp =
    two_at_is (k * c) (k * (A % c)) (A / c) (k * A) (mul-pos kp cp) (mul-lt-mul_of_pos_left (mod-lt A cp) kp) (again (A % c) (A / c) (mod-add-div' A c))
    ∙ ap (λ (z : ℕ). 2 ^ (A / c) * z) (sum_scale k (A % c) c)
    ∙ (unfold two_at in sym (mul_assoc (2 ^ (A / c)) (sum_num (A % c) c) (k ^ 11)))
  where
    again : (r n : ℕ) → r + n * c ≡ A → k * r + n * (k * c) ≡ k * A
    again r n e = rw (← e) (simp ac)

pow_positive : (a n : ℕ) → 0 < a → 0 < a ^ n
pow_positive a zero h = rw (pow-zero a) (lit< tt)
pow_positive a (suc n) h = rw (pow-suc a n) (mul-pos (pow_positive a n h) h)

across : (m n x y X Y k l dx dy : ℕ) → 0 < k → 0 < l → X ≡ x * k → Y ≡ y * l → dx * k ≡ dy * l → m * X ≤ n * Y → m * (x * dy) ≤ n * (y * dx)
across m n x y X Y k l dx dy kp lp e f g h =
    le_of_mul-le-mul_right {k = k * l} (simp ac (omega (arith, simp ac at (mul-le-mul_right (dy * l) (rw (e, f) at h)), simp ac at (ap (λ (z : ℕ). z * (n * y * l)) g)))) (mul-pos kp lp)

other : (c P A : ℕ) → 0 < c → 0 < P → two_at (c * P) (P * A) ≡ two_at c A * P ^ 11
other c P A cp pp = ap (λ (z : ℕ). two_at z (P * A)) (mul_comm c P) ∙ two_scale P c A pp cp

dens : (c P : ℕ) → sum_den P * c ^ 11 ≡ sum_den c * P ^ 11
dens c P = sym (sum_den_scale c P) ∙ ap sum_den (mul_comm c P) ∙ sum_den_scale P c

-- W / P and A / c are at most d / P apart
pub reduction : (P W c A d : ℕ) → 0 < P → 0 < c → c * W ≤ P * A + c * d → P * A ≤ c * W + c * d → d < P → 33554433 * (d * L) ≤ P * M
    → Ratio (two_at P W * sum_den c) (two_at c A * sum_den P)
reduction P W c A d pp cp h k dp small =
    let r = move (c * P) (mul-pos cp pp) (c * W) (P * A) (c * d) h k (mul-lt-mul_of_pos_left dp cp) (wide 33554433 L M small) in
    let x = two_scale c P W cp pp in
    let y = other c P A cp pp in
    let g = dens c P in
    record {
      over = across 1900000 1900001 (two_at P W) (two_at c A) (two_at (c * P) (c * W)) (two_at (c * P) (P * A)) (c ^ 11) (P ^ 11) (sum_den P) (sum_den c) (pow_positive c 11 cp) (pow_positive P 11 pp) x y g r.over;
      under = across 1900000 1900001 (two_at c A) (two_at P W) (two_at (c * P) (P * A)) (two_at (c * P) (c * W)) (P ^ 11) (c ^ 11) (sum_den c) (sum_den P) (pow_positive P 11 pp) (pow_positive c 11 cp) y x (sym g) r.under;
    }
  where
    wide : (q l m : ℕ) → q * (d * l) ≤ P * m → q * (c * d * l) ≤ c * P * m
    wide q l m e = le_trans (le_of_eq (left q c d l)) (le_trans (mul-le-mul_left c e) (le_of_eq (sym (mul_assoc c P m))))
      where
        left : (q c d l : ℕ) → q * (c * d * l) ≡ c * (q * (d * l))
        left q c d l = simp ac

-- W / P at most A / c
pub rise_across : (P W c A : ℕ) → 0 < P → 0 < c → c * W ≤ P * A → 2097152 * (two_at P W * sum_den c) ≤ 2097153 * (two_at c A * sum_den P)
rise_across P W c A pp cp h =
    across 2097152 2097153 (two_at P W) (two_at c A) (two_at (c * P) (c * W)) (two_at (c * P) (P * A)) (c ^ 11) (P ^ 11) (sum_den P) (sum_den c) (pow_positive c 11 cp) (pow_positive P 11 pp)
    (two_scale c P W cp pp) (other c P A cp pp) (dens c P) (rise (c * P) (c * W) (P * A) (mul-pos cp pp) h)
