-- The method's error: 2 ^ h in fixed point is the exact sum at h to one part in 2 ^ 25. The roots and the coefficients are right by closed tests; Horner's
-- lemma gives the series at the last digits, and the addition law joins the two. Assumes nothing.
use mathlib.Core.Path.{◌≡◌, refl, sym, ap, ap₂, ◌∙◌}
use mathlib.Core.Bool.{Bool}
use Prim.Native.Nat.{ℕ, ◌+◌, ◌*◌, ◌/◌, ◌%◌, ◌^◌, ◌≤◌, ◌<◌}
use native.Mathlib.Nat.{le_refl, le_trans, le_of_eq, le_of_lt, mul_comm, mul-add, add-mul, mul-pos, mul-le-mul, mul-le-mul_right, le_of_mul-le-mul_right, div-mul-le_self, lt-div-mul-add, pow-suc}
use native.Mathlib.Omega.{arith}
use lib.Dec.{T, leb, leb→le, lit<, lit≤}
use lib.ListN.{get_or}
use Rattle.series.specs.Exponential.{exp_num, exp_den}
use Rattle.series.specs.Horner.{horner}
use Rattle.series.proofs.Algebra.{ac}
use Rattle.series.proofs.Exponential.{num_scale, den_scale}
use Rattle.series.proofs.Horner.{fit, err, total, fix_le, horner_le, horner_ge}
use Rattle.series.proofs.Polynomial.{cs, cs_is, length_cs, scale, snoc}
use Rattle.series.proofs.Tail.{addition}
use Rattle.power.specs.Exact.{sum_num, sum_den}
use Rattle.power.specs.Power.{roots, coefs, scaled_of, fraction_of}
use Rattle.power.proofs.Numbers.{P, L, M}
use Rattle.power.proofs.Moves.{sum_scale, sum_den_scale, sum_den_pos}
use Rattle.lists.proofs.Table.{at}

-- 32 * 10 ^ 14
abbrev N : ℕ
N = 3200000000000000

-- ---- the roots, each by a test at all of them
cut_below : ℕ → ℕ → Bool
cut_below i x = leb (x * sum_den 32) (1073741824 * sum_num i 32)

cut_above : ℕ → ℕ → Bool
cut_above i x = leb (1073741824 * sum_num i 32) ((x + 1) * sum_den 32)

scaled_le : (x d n k q : ℕ) → x * d ≤ q * n → x * (d * k) ≤ q * (n * k)
scaled_le x d n k q h = simp ac (simp ac at (mul-le-mul_right k h))

module _ (i : ℕ) (il : i < 32) where
  pub root_lo : 1073741824 ≤ get_or roots i 0
  root_lo = leb→le 1073741824 (get_or roots i 0) (at 0 (λ i x. leb 1073741824 x) roots tt i il)

  pub root_hi : get_or roots i 0 ≤ 2101467501
  root_hi = leb→le (get_or roots i 0) 2101467501 (at 0 (λ i x. leb x 2101467501) roots tt i il)

  below : get_or roots i 0 * sum_den 32 ≤ 1073741824 * sum_num i 32
  unfolding cut_below sum_num sum_den exp_num exp_den
  below = leb→le (get_or roots i 0 * sum_den 32) (1073741824 * sum_num i 32) (at 0 cut_below roots tt i il)

  above : 1073741824 * sum_num i 32 ≤ (get_or roots i 0 + 1) * sum_den 32
  unfolding cut_above sum_num sum_den exp_num exp_den
  above = leb→le (1073741824 * sum_num i 32) ((get_or roots i 0 + 1) * sum_den 32) (at 0 cut_above roots tt i il)

  -- over the denominator P
  root_le : get_or roots i 0 * sum_den P ≤ 1073741824 * sum_num (134217728 * i) P
  root_le = rw (sum_den_scale 134217728 32, sum_scale 134217728 i 32) (scaled_le (get_or roots i 0) (sum_den 32) (sum_num i 32) (134217728 ^ 11) 1073741824 below)

  root_ge : 1073741824 * sum_num (134217728 * i) P ≤ (get_or roots i 0 + 1) * sum_den P
  root_ge = rw (sum_den_scale 134217728 32, sum_scale 134217728 i 32) (scaled_le 1073741824 (sum_num i 32) (sum_den 32) (134217728 ^ 11) (get_or roots i 0 + 1) above)

-- ---- the series at the last digits g, which are g * 32 of Q32
fits : T (fit P (exp_den 11 N) 1 40 coefs (cs L N 11))
unfolding exp_den cs scale snoc total
fits = tt

err_is : err 1 40 coefs ≡ 52
unfolding err
err_is = refl

cancel_le : (x X D E c k d n : ℕ) → 0 < c → 0 < k → D * E ≡ d * k → X ≡ n * k → x * D * (E * c) ≤ P * X * c → x * d ≤ P * n
cancel_le x X D E c k d n cp kp e f h =
    le_of_mul-le-mul_right {k = k * c} (simp ac (omega (arith, simp ac at (rw f at h), simp ac at (ap (λ (z : ℕ). z * (x * c)) e)))) (mul-pos kp cp)

cancel_ge : (x X D E c k d n : ℕ) → 0 < c → 0 < k → D * E ≡ d * k → X ≡ n * k → P * X * c ≤ x * D * (E * c) → P * n ≤ x * d
cancel_ge x X D E c k d n cp kp e f h =
    le_of_mul-le-mul_right {k = k * c} (simp ac (omega (arith, simp ac at (rw f at h), simp ac at (ap (λ (z : ℕ). z * (x * c)) e)))) (mul-pos kp cp)

module _ (g c : ℕ) (cp : 0 < c) (is : c ≡ P) (gl : g < 134217728) where
  thirty_two : c * N ≡ 32 * (c * M)
  thirty_two = omega arith

  den_is : exp_den 11 N * c ^ 11 ≡ sum_den c * 32 ^ 11
  unfolding sum_den
  den_is = sym (den_scale N c 11) ∙ ap (exp_den 11) thirty_two ∙ den_scale (c * M) 32 11

  num_is : exp_num 11 (g * 32 * L) (c * N) ≡ sum_num g c * 32 ^ 11
  unfolding sum_num
  num_is = ap₂ (exp_num 11) turn thirty_two ∙ num_scale 11 32 (g * L) (c * M)
    where
      turn : g * 32 * L ≡ 32 * (g * L)
      turn = omega arith

  series_le : horner P coefs (g * 32) * sum_den c ≤ P * sum_num g c
  series_le =
      cancel_le (horner P coefs (g * 32)) (exp_num 11 (g * 32 * L) (c * N)) (exp_den 11 N) (c ^ 11) c (32 ^ 11) (sum_den c) (sum_num g c) cp (lit< tt) den_is num_is
      (rw (length_cs L N 11, cs_is L N (g * 32) c 11, pow-suc c 11) at
      (horner_le P (exp_den 11 N) 1 40 (g * 32) c (g * 32) (lit< tt) (le_of_eq (ap (λ (z : ℕ). g * 32 * z) is)) (rw is (omega arith)) (omega arith) (omega arith) coefs (cs L N 11) fits))

  series_ge : P * sum_num g c ≤ (horner P coefs (g * 32) + 52) * sum_den c
  series_ge =
      cancel_ge (horner P coefs (g * 32) + 52) (exp_num 11 (g * 32 * L) (c * N)) (exp_den 11 N) (c ^ 11) c (32 ^ 11) (sum_den c) (sum_num g c) cp (lit< tt) den_is num_is
      (rw (length_cs L N 11, cs_is L N (g * 32) c 11, pow-suc c 11, err_is) at
      (horner_ge P (exp_den 11 N) 1 40 (g * 32) c (g * 32) (lit< tt) (le_of_eq (ap (λ (z : ℕ). g * 32 * z) is)) (rw is (omega arith)) (omega arith) (omega arith) coefs (cs L N 11) fits))

pub series_lo : (g : ℕ) → P ≤ horner P coefs (g * 32)
unfolding horner
series_lo g = omega arith

pub series_hi : (g : ℕ) → g < 134217728 → horner P coefs (g * 32) ≤ 4389014792
unfolding total
series_hi g l = fix_le P (g * 32) (lit< tt) (omega arith) coefs

-- ---- the two together
seven_tenths : (x y z : ℕ) → 0 < z → (x + y) * 10 ≤ 7 * z
    → (exp_num 11 (x + y) z * exp_den 11 z ≤ exp_num 11 x z * exp_num 11 y z) × (17179869184 * (exp_num 11 x z * exp_num 11 y z) ≤ 17179869185 * (exp_num 11 (x + y) z * exp_den 11 z))
seven_tenths = addition 11 16 17179869184 7 10 (lit< tt) (lit< tt) (lit≤ tt) (unfold exp_den in lit≤ tt)

sum_add : (p g c : ℕ) → 0 < c → p + g < c → (sum_num (p + g) c * sum_den c ≤ sum_num p c * sum_num g c) × (17179869184 * (sum_num p c * sum_num g c) ≤ 17179869185 * (sum_num (p + g) c * sum_den c))
unfolding sum_num sum_den
sum_add p g c cp h = rw (add-mul p g L) (seven_tenths (p * L) (g * L) (c * M) (mul-pos cp (lit< tt)) (small (p * L) (g * L) (sym (add-mul p g L))))
  where
    small : (x y : ℕ) → x + y ≡ (p + g) * L → (x + y) * 10 ≤ 7 * (c * M)
    small x y e = omega arith

join_le : (K J D Sx Sy Sh T y c Q R : ℕ) → 0 < D → 0 < Q → T * D ≤ Q * Sx → y * D ≤ R * Sy → K * (Sx * Sy) ≤ J * (Sh * D) → c * Q ≤ y * T → K * (c * D) ≤ J * (R * Sh)
join_le K J D Sx Sy Sh T y c Q R dp qp h₁ h₂ h₃ h₄ =
    le_of_mul-le-mul_right {k = Q * D} (simp ac (omega (arith, simp ac at (mul-le-mul_right (K * D * D) h₄), simp ac at (mul-le-mul_right K (mul-le-mul h₁ h₂)), simp ac at (mul-le-mul_right (R * Q) h₃)))) (mul-pos qp dp)

join_ge : (D Sx Sy Sh T y c Q R e f : ℕ) → 0 < D → 0 < Q → Q * Sx ≤ (T + 1) * D → R * Sy ≤ (y + e) * D → Sh * D ≤ Sx * Sy → (T + 1) * (y + e) ≤ (c + f) * Q → R * Sh ≤ (c + f) * D
join_ge D Sx Sy Sh T y c Q R e f dp qp h₁ h₂ h₃ h₄ =
    le_of_mul-le-mul_right {k = Q * D} (le_trans (le_of_eq (a R Sh Q D)) (le_trans (mul-le-mul_right (R * Q) h₃) (le_trans (le_of_eq (b Sx Sy R Q)) (le_trans (mul-le-mul h₁ h₂) (le_trans (le_of_eq (d (T + 1) D (y + e))) (le_trans (mul-le-mul_right (D * D) h₄) (le_of_eq (g (c + f) Q D)))))))) (mul-pos qp dp)
  where
    a : (R S Q D : ℕ) → R * S * (Q * D) ≡ S * D * (R * Q)
    a R S Q D = simp ac

    b : (x y R Q : ℕ) → x * y * (R * Q) ≡ Q * x * (R * y)
    b x y R Q = simp ac

    d : (t D y : ℕ) → t * D * (y * D) ≡ t * y * (D * D)
    d t D y = simp ac

    g : (c Q D : ℕ) → c * Q * (D * D) ≡ c * D * (Q * D)
    g c Q D = simp ac

-- what the product's cut and the two errors lose
lost : (T y c : ℕ) → T ≤ 2101467501 → y ≤ 4389014792 → y * T ≤ c * 1073741824 + 1073741824 → (T + 1) * (y + 52) ≤ (c + 120) * 1073741824
lost T y c h k l = omega (arith, simp (add-mul, mul-add) at (le_refl ((T + 1) * (y + 52))), mul_comm T y)

loose_le : (x y : ℕ) → 17179869184 * x ≤ 17179869185 * y → 33554432 * x ≤ 33554433 * y
loose_le x y h = omega arith

loose_ge : (f D x : ℕ) → P ≤ f → x ≤ (f + 120) * D → 33554432 * x ≤ 33554433 * (f * D)
loose_ge f D x h k = omega (arith, simp add-mul at k, mul-le-mul_right D h)

module _ (h : ℕ) (hl : h < P) where
  abbrev g : ℕ
  g = h % 134217728

  abbrev i : ℕ
  i = h / 134217728

  abbrev y : ℕ
  y = horner P coefs (g * 32)

  y_hi : y ≤ 4389014792
  y_hi = series_hi g (omega arith)

  y_lo : P ≤ y
  y_lo = series_lo g

  pub scaled_lo : 4611686018427387904 ≤ scaled_of h
  scaled_lo = mul-le-mul y_lo (root_lo i (omega arith))

  pub scaled_hi : scaled_of h ≤ 9223372036854775808
  scaled_hi = le_trans (mul-le-mul y_hi (root_hi i (omega arith))) (lit≤ tt)

  cut : y * get_or roots i 0 < fraction_of h * 1073741824 + 1073741824
  unfolding fraction_of
  cut = lt-div-mul-add {a = y * get_or roots i 0} {b = 1073741824} (lit< tt)

  kept : fraction_of h * 1073741824 ≤ y * get_or roots i 0
  unfolding fraction_of
  kept = div-mul-le_self (y * get_or roots i 0) 1073741824

  pub fraction_lo : P ≤ fraction_of h
  unfolding fraction_of
  fraction_lo = omega (arith, scaled_lo)

  pub fraction_hi : fraction_of h ≤ 8589934592
  unfolding fraction_of
  fraction_hi = omega (arith, scaled_hi)

  whole : 134217728 * i + g ≡ h
  whole = omega arith

  add : (sum_num h P * sum_den P ≤ sum_num (134217728 * i) P * sum_num g P) × (17179869184 * (sum_num (134217728 * i) P * sum_num g P) ≤ 17179869185 * (sum_num h P * sum_den P))
  add = rw whole at (sum_add (134217728 * i) g P (lit< tt) (omega arith))

  -- the method's error of exp2, exp and pow10, which share this core
  pub power_method_over : 33554432 * (fraction_of h * sum_den P) ≤ 33554433 * (P * sum_num h P)
  power_method_over =
      loose_le (fraction_of h * sum_den P) (P * sum_num h P)
      (join_le 17179869184 17179869185 (sum_den P) (sum_num (134217728 * i) P) (sum_num g P) (sum_num h P) (get_or roots i 0) y (fraction_of h) 1073741824 P (sum_den_pos P (lit< tt)) (lit< tt)
      (root_le i (omega arith)) (series_le g P (lit< tt) refl (omega arith)) add.1 kept)

  pub power_method_under : 33554432 * (P * sum_num h P) ≤ 33554433 * (fraction_of h * sum_den P)
  power_method_under =
      loose_ge (fraction_of h) (sum_den P) (P * sum_num h P) fraction_lo
      (join_ge (sum_den P) (sum_num (134217728 * i) P) (sum_num g P) (sum_num h P) (get_or roots i 0) y (fraction_of h) 1073741824 P 52 120 (sum_den_pos P (lit< tt)) (lit< tt)
      (root_ge i (omega arith)) (series_ge g P (lit< tt) refl (omega arith)) add.0 (lost (get_or roots i 0) y (fraction_of h) (root_hi i (omega arith)) y_hi (le_of_lt cut)))
