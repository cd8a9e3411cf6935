-- The curve of a size a / c: small, large and between. Assumes nothing.
use mathlib.Core.Path.{◌≡◌}
use mathlib.Core.Bool.{Bool, false}
use Prim.Native.Nat.{ℕ, ◌+◌, ◌-◌, ◌*◌, ◌/◌, ◌^◌, ◌≤◌, ◌<◌}
use native.Mathlib.Nat.{le_trans, le_of_lt, lt_of_le_of_lt, lt_of_mul-lt-mul_right, one-mul, add-mul, mul-le-mul_right, le_of_mul-le-mul_right, div-mul-le_self, lt-div-mul-add, le-div_iff_mul-le}
use native.Mathlib.Omega.{arith}
use lib.IntN.{ℤ}
use lib.Ieee.{fin, up, down}
use Rattle.series.specs.Near.{Relative}
use Rattle.power.specs.Exact.{two_num, two_den}
use Rattle.power.proofs.Numbers.{M}
use Rattle.tanh.specs.Tanh.{two_log2_e, decay_of, quotient_of}
use Rattle.tanh.proofs.Pair.{K, lesser, greater}
use Rattle.tanh.proofs.Rounding.{tanh_rounding_over, tanh_rounding_under}
use Rattle.tanh.proofs.Method.{decay_pos, decay_lt, tanh_reduction}
use Rattle.tanh.proofs.Tiny.{tiny_over, tiny_under}
use Rattle.tanh.proofs.Far.{far, far_over, far_under}
use Rattle.tanh.proofs.Sign.{Close}
use Rattle.power.proofs.Numbers.{P}

module _ (s : Bool) (a c : ℕ) (cp : 0 < c) where
  abbrev v : ℕ
  v = a * K

  abbrev d : ℕ
  d = c * M

  abbrev pub X : ℕ
  X = lesser s (two_num s v d) (two_den s v d)

  abbrev pub Y : ℕ
  Y = greater s (two_num s v d) (two_den s v d)

  pub small_case : 1024 * a ≤ c → Close X Y a c
  small_case h = record { over = λ B Z p q. tiny_over s a c cp h B Z p q; under = λ B Z p q. tiny_under s a c cp h B Z p q }

  pub large_case : 10 * c ≤ a → Close X Y 1 1
  large_case h = record { over = λ B Z p q. far_over X Y B Z (far a c cp h s) p q; under = λ B Z p q. far_under X Y B Z p q }

  module _ (lo : c ≤ 1024 * a) (hi : a ≤ 10 * c) where
    abbrev u : ℕ
    u = a * P / c * two_log2_e / P

    size_lo : 4194304 ≤ a * P / c
    size_lo = (le-div_iff_mul-le cp).1 (omega arith)

    pub size_hi : a * P / c ≤ 10 * P
    size_hi = le_of_mul-le-mul_right {k = c} (le_trans (div-mul-le_self (a * P) c) (omega (arith, mul-le-mul_right P hi))) cp

    pub u_lo : 12000000 ≤ a * P / c * two_log2_e / P
    u_lo = omega (arith, size_lo)

    pub u_hi : a * P / c * two_log2_e / P ≤ 30 * P
    u_hi = omega (arith, size_hi)

    abbrev e : ℕ
    e = decay_of u

    pub e_hi : decay_of (a * P / c * two_log2_e / P) ≤ 4290000000
    e_hi = decay_lt u u_hi u_lo

    abbrev pub q : ℕ
    q = quotient_of e

    q_over : q * (P + e) ≤ (P - e) * 2147483648
    unfolding quotient_of
    q_over = div-mul-le_self ((P - e) * 2147483648) (P + e)

    q_under : (P - e) * 2147483648 ≤ (q + 1) * (P + e)
    unfolding quotient_of
    q_under = simp (add-mul, one-mul) (omega (arith, lt-div-mul-add {a = (P - e) * 2147483648} {b = P + e} (omega arith), add-mul q 1 (P + e)))

    pub q_hi : q < 2147483648
    q_hi = lt_of_mul-lt-mul_right (P + e) (lt_of_le_of_lt q_over (omega (arith, decay_pos u u_hi)))

    pub q_lo : 0 < q
    unfolding quotient_of
    q_lo = (le-div_iff_mul-le {k = P + e} (omega arith)).1 (omega (arith, e_hi))

    pub between_case : (m : ℕ) (i : ℤ) → Relative (2 ^ 24) q (2 ^ 31) (fin false m i) → Close X Y (m * up i) (down i)
    between_case m i h =
        let k = tanh_reduction s a c cp hi u_hi in
        let el : e ≤ P = omega (arith, e_hi) in
        let ed : P - e + e ≡ P = omega (arith, e_hi) in
        record {
          over = λ B Z p r. tanh_rounding_over e X B Y Z (P - e) k el ed p r q (m * up i) (down i) q_over q_under (le_of_lt q_hi) h.1 h.2;
          under = λ B Z p r. tanh_rounding_under e X B Y Z (P - e) k el ed p r q (m * up i) (down i) q_over q_under (le_of_lt q_hi) h.1 h.2;
        }
