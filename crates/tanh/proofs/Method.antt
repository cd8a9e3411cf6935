-- The method's and the reduction's errors: e ^ -2a in fixed point is X / Y to one part in 900000, and one unit of Q32. Assumes nothing.
use mathlib.Core.Path.{◌≡◌, refl, sym, ap, ◌∙◌}
use mathlib.Core.Logic.{◌⊎◌, inl, inr}
use mathlib.Core.Bool.{Bool, true}
use Prim.Native.Nat.{ℕ, ◌+◌, ◌-◌, ◌*◌, ◌/◌, ◌%◌, ◌^◌, ◌≤◌, ◌<◌}
use native.Mathlib.Nat.{le_trans, le_of_eq, le_of_lt, add-mul, one-mul, mul-pos, mul-le-mul_left, mul-le-mul_right, le_of_mul-le-mul_right, div-mul-le_self, lt-div-mul-add, eq-or-lt_of_le, le-div_iff_mul-le}
use native.Mathlib.Omega.{arith}
use lib.Dec.{lit<, lit≤}
use lib.Pow.{pow_pos, pow-add, pow_mono}
use Rattle.series.specs.Horner.{horner}
use Rattle.series.proofs.Algebra.{ac, loosen}
use Rattle.power.specs.Exact.{sum_num, sum_den, two_num, two_den}
use Rattle.power.specs.Power.{fraction_of}
use Rattle.power.proofs.Numbers.{P, M}
use Rattle.power.proofs.TwoPower.{two_at}
use Rattle.power.proofs.Moves.{sum_den_pos}
use Rattle.power.proofs.Method.{fraction_lo, fraction_hi, power_method_over, power_method_under}
use Rattle.power.proofs.Mono.{fraction_mono}
use Rattle.power.proofs.Reduction.{base_reduction, size_small}
use Rattle.tanh.specs.Tanh.{two_log2_e, decay_of}
use Rattle.tanh.proofs.Pair.{K, lesser, greater, pair_over, pair_under}
use Rattle.tanh.proofs.Rounding.{Partner}

shift_over : (m n e k N f D S Q : ℕ) → e * k ≤ f → m * (f * D) ≤ n * (Q * S) → m * (e * (k * N * D)) ≤ n * (Q * (N * S))
shift_over m n e k N f D S Q h g = simp ac (omega (arith, simp ac at (mul-le-mul_right (m * N * D) h), simp ac at (mul-le-mul_right N g)))

shift_under : (m n e k N f D S Q : ℕ) → f ≤ e * k → m * (Q * S) ≤ n * (f * D) → m * (Q * (N * S)) ≤ n * (e * (k * N * D))
shift_under m n e k N f D S Q h g = simp ac (omega (arith, simp ac at (mul-le-mul_right (n * N * D) h), simp ac at (mul-le-mul_right N g)))

module _ (u : ℕ) (ul : u ≤ 30 * P) where
  abbrev w : ℕ
  w = 549755813888 - u

  abbrev h : ℕ
  h = w % P

  abbrev k : ℕ
  k = 128 - w / P

  powers : 2 ^ k * 2 ^ (w / P) ≡ 2 ^ 128
  powers = sym (pow-add 2 k (w / P)) ∙ ap (λ (i : ℕ). 2 ^ i) sum
    where
      sum : k + w / P ≡ 128
      sum = omega arith

  kept : decay_of u * 2 ^ k ≤ fraction_of h
  unfolding decay_of
  kept = div-mul-le_self (fraction_of h) (2 ^ k)

  cut : fraction_of h ≤ (decay_of u + 1) * 2 ^ k
  unfolding decay_of
  cut = simp (add-mul, one-mul) (le_of_lt (lt-div-mul-add {a = fraction_of h} {b = 2 ^ k} (pow_pos k)))

  h_lt : h < P
  h_lt = omega arith

  tanh_method_over : 33554432 * (decay_of u * (2 ^ 128 * sum_den P)) ≤ 33554433 * (P * two_at P w)
  unfolding two_at
  tanh_method_over = rw (← powers) (shift_over 33554432 33554433 (decay_of u) (2 ^ k) (2 ^ (w / P)) (fraction_of h) (sum_den P) (sum_num h P) P kept (power_method_over h h_lt))

  tanh_method_under : 33554432 * (P * two_at P w) ≤ 33554433 * ((decay_of u + 1) * (2 ^ 128 * sum_den P))
  unfolding two_at
  tanh_method_under = rw (← powers) (shift_under 33554432 33554433 (decay_of u + 1) (2 ^ k) (2 ^ (w / P)) (fraction_of h) (sum_den P) (sum_num h P) P cut (power_method_under h h_lt))

  halved : (j : ℕ) → j ≤ k → decay_of u * 2 ^ j ≤ 8589934592
  halved j l = le_trans (mul-le-mul_left (decay_of u) (pow_mono l)) (le_trans kept (fraction_hi h h_lt))

  pub decay_pos : 0 < decay_of u
  unfolding decay_of
  decay_pos = (le-div_iff_mul-le (pow_pos k)).1 (le_trans (le_of_eq (one-mul (2 ^ k))) (le_trans (pow_mono {j = 32} (omega arith)) (fraction_lo h h_lt)))

  pub decay_le : decay_of u ≤ 4294967296
  decay_le = go (eq-or-lt_of_le top)
    where
      top : w / P ≤ 128
      top = omega arith

      start : decay_of 0 ≡ 4294967296
      start = unfold decay_of fraction_of horner in refl

      go : (w / P ≡ 128) ⊎ (w / P < 128) → decay_of u ≤ 4294967296
      go (inl e) = let z : u ≡ 0 = omega arith in rw z (le_of_eq start)
      go (inr l) = let g = halved 1 (omega arith) in omega arith

  -- from 2 ^ -10 on it is well below 1
  pub decay_lt : 12000000 ≤ u → decay_of u ≤ 4290000000
  decay_lt ug = go (eq-or-lt_of_le top)
    where
      top : w / P ≤ 127
      top = omega arith

      there : fraction_of 4282967296 ≤ 8578000000
      there = unfold fraction_of horner in lit≤ tt

      near : w / P ≡ 127 → fraction_of h ≤ 8578000000
      near e = le_trans (fraction_mono h 4282967296 (omega arith) (lit< tt)) there

      go : (w / P ≡ 127) ⊎ (w / P < 127) → decay_of u ≤ 4290000000
      go (inl e) = let one : 1 ≤ k = omega arith in let g = le_trans (mul-le-mul_left (decay_of u) (pow_mono one)) (le_trans kept (near e)) in omega arith
      go (inr l) = let g = halved 2 (omega arith) in omega arith

-- ---- with X and Y
join_over : (m₁ m₂ m₃ n₁ n₂ n₃ e F Dp Dc Q t U X Y : ℕ) → 0 < F → 0 < Dp → 0 < Dc → m₁ * (e * (F * Dp)) ≤ n₁ * (Q * t) → m₂ * (t * Dc) ≤ n₂ * (U * Dp) → m₃ * (Y * U) ≤ n₃ * (X * (F * Dc))
    → m₁ * m₂ * m₃ * (e * Y) ≤ n₁ * n₂ * n₃ * (Q * X)
join_over m₁ m₂ m₃ n₁ n₂ n₃ e F Dp Dc Q t U X Y fp dp cp h₁ h₂ h₃ =
    le_of_mul-le-mul_right {k = F * Dp * Dc} (simp ac (omega (arith, simp ac at (mul-le-mul_right (m₂ * m₃ * Dc * Y) h₁), simp ac at (mul-le-mul_right (n₁ * m₃ * Q * Y) h₂), simp ac at (mul-le-mul_right (n₁ * n₂ * Q * Dp) h₃)))) (mul-pos (mul-pos fp dp) cp)

join_under : (m₁ m₂ m₃ n₁ n₂ n₃ e F Dp Dc Q t U X Y : ℕ) → 0 < F → 0 < Dp → 0 < Dc → m₁ * (Q * t) ≤ n₁ * (e * (F * Dp)) → m₂ * (U * Dp) ≤ n₂ * (t * Dc) → m₃ * (X * (F * Dc)) ≤ n₃ * (Y * U)
    → m₁ * m₂ * m₃ * (Q * X) ≤ n₁ * n₂ * n₃ * (e * Y)
join_under m₁ m₂ m₃ n₁ n₂ n₃ e F Dp Dc Q t U X Y fp dp cp h₁ h₂ h₃ =
    le_of_mul-le-mul_right {k = F * Dp * Dc} (simp ac (omega (arith, simp ac at (mul-le-mul_right (n₂ * n₃ * Dc * Y) h₁), simp ac at (mul-le-mul_right (m₁ * n₃ * Q * Y) h₂), simp ac at (mul-le-mul_right (m₁ * m₂ * Q * Dp) h₃)))) (mul-pos (mul-pos fp dp) cp)

module _ (s : Bool) (a c : ℕ) (cp : 0 < c) (al : a ≤ 10 * c) (ul : a * P / c * two_log2_e / P ≤ 30 * P) where
  abbrev Mp : 0 < c * M
  Mp = mul-pos cp (lit< tt)

  pub tanh_reduction : Partner (decay_of (a * P / c * two_log2_e / P)) (lesser s (two_num s (a * K) (c * M)) (two_den s (a * K) (c * M))) (greater s (two_num s (a * K) (c * M)) (two_den s (a * K) (c * M)))
  tanh_reduction =
      let u = a * P / c * two_log2_e / P in
      let r = base_reduction K two_log2_e 10 (lit≤ tt) (lit≤ tt) (lit≤ tt) (lit≤ tt) (lit≤ tt) a c cp al true in
      let vl = size_small K two_log2_e 10 (lit≤ tt) (lit≤ tt) (lit≤ tt) (lit≤ tt) (lit≤ tt) a c cp al in
      let X = lesser s (two_num s (a * K) (c * M)) (two_den s (a * K) (c * M)) in
      let Y = greater s (two_num s (a * K) (c * M)) (two_den s (a * K) (c * M)) in
      let t = two_at P (549755813888 - u) in
      let U = two_at (c * M) (128 * (c * M) - a * K) in
      record {
        over = loosen (33554432 * 1900000 * 2097151) (33554433 * 1900001 * 2097152) 900000 900001 (decay_of u * Y) (P * X) (lit< tt) (lit≤ tt)
            (join_over 33554432 1900000 2097151 33554433 1900001 2097152 (decay_of u) (2 ^ 128) (sum_den P) (sum_den (c * M)) P t U X Y (pow_pos 128) (sum_den_pos P (lit< tt)) (sum_den_pos (c * M) Mp)
            (tanh_method_over u ul) r.over (pair_under (a * K) (c * M) Mp vl s));
        under = loosen (33554432 * 1900000 * 2097151) (33554433 * 1900001 * 2097152) 900000 900001 (P * X) ((decay_of u + 1) * Y) (lit< tt) (lit≤ tt)
            (join_under 33554432 1900000 2097151 33554433 1900001 2097152 (decay_of u + 1) (2 ^ 128) (sum_den P) (sum_den (c * M)) P t U X Y (pow_pos 128) (sum_den_pos P (lit< tt)) (sum_den_pos (c * M) Mp)
            (tanh_method_under u ul) r.under (pair_over (a * K) (c * M) Mp vl s));
      }
