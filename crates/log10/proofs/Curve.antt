-- The logarithm keeps its distance: the method's error and the reduction's leave room between the powers of ten moved up and down. Assumes nothing.
use mathlib.Core.Path.{◌≡◌, refl, sym, ap, ◌∙◌, subst}
use mathlib.Core.Bool.{Bool, true, false, true≢false}
use Prim.Native.Nat.{ℕ, ◌+◌, ◌-◌, ◌*◌, ◌/◌, ◌%◌, ◌^◌, ◌≤◌, ◌<◌}
use native.Mathlib.Nat.{le_trans, le_of_eq, mul_assoc, add-mul, one-mul, mul-sub, sub-add_cancel, mul-pos, mul-le-mul_right, le_of_mul-le-mul_right, mod-add-div', mod-lt}
use native.Mathlib.Omega.{arith}
use lib.Dec.{T, nltb→le, lit<, lit≤}
use lib.Pow.{pow_pos, pow-add}
use Rattle.series.specs.Exponential.{exp_num, exp_den}
use Rattle.series.proofs.Algebra.{ac, loosen}
use Rattle.fixed.specs.Fixed.{shifted}
use Rattle.power.specs.Exact.{sum_num, sum_den, two_num, two_den, ten_num, ten_den}
use Rattle.power.proofs.Numbers.{P, M}
use Rattle.power.proofs.TwoPower.{two_at, two_at_is, power_law}
use Rattle.power.proofs.Moves.{sum_den_pos, rise_across}
use Rattle.power.proofs.Signs.{two_plus, two_minus}
use Rattle.log10.specs.Exact.{up_sign, up_num, down_sign, down_num}
use Rattle.log10.specs.Log10.{part_of}
use Rattle.log10.specs.Near.{Between}
use Rattle.log10.proofs.Method.{log10_method_over, log10_method_under}
use Rattle.log10.proofs.Rounding.{K, far_up, far_down}

-- whole powers of two come off
two_whole : (c n f : ℕ) → 0 < c → two_at c (n * c + f) ≡ 2 ^ n * two_at c f
two_whole c n f cp =
    two_at_is c (f % c) (n + f / c) (n * c + f) cp (mod-lt f cp) (go (f % c) (f / c) (mod-add-div' f c))
    ∙ ap (λ (z : ℕ). z * sum_num (f % c) c) (pow-add 2 n (f / c)) ∙ (unfold two_at in mul_assoc (2 ^ n) (2 ^ (f / c)) (sum_num (f % c) c))
  where
    go : (r m : ℕ) → r + m * c ≡ f → r + (n + m) * c ≡ n * c + f
    go r m e = simp add-mul (omega arith)

-- the two-power of 171798 units
step_is : two_at P 171798 ≡ sum_num 171798 P
step_is = two_at_is P 171798 0 171798 (lit< tt) (lit< tt) refl ∙ one-mul (sum_num 171798 P)

step_ge : 1000027 * sum_den P ≤ 1000000 * sum_num 171798 P
unfolding sum_num sum_den exp_num exp_den
step_ge = lit≤ tt

-- ---- with every number a variable
chain_high : (m₁ n₁ m₂ n₂ m₃ n₃ x e D Dc J f u h w A : ℕ) → 0 < D → m₁ * (x * D) ≤ n₁ * (4 * J * f) → u ≡ 4 * e * f → m₂ * (u * h) ≤ n₂ * (w * D) → m₃ * D ≤ n₃ * h → m₂ * (w * Dc) ≤ n₂ * (A * D)
    → m₁ * m₂ * m₃ * m₂ * (x * e * Dc) ≤ n₁ * n₂ * n₃ * n₂ * (J * A)
chain_high m₁ n₁ m₂ n₂ m₃ n₃ x e D Dc J f u h w A dp a b c d g =
    let p : m₁ * (x * e * D) ≤ n₁ * (J * u) = le_trans (le_of_eq (p₁ m₁ x e D)) (le_trans (mul-le-mul_right e a) (le_of_eq (p₂ n₁ J f e ∙ ap (λ (z : ℕ). n₁ * (J * z)) (sym b)))) in
    let q : m₂ * m₃ * u ≤ n₂ * n₃ * w = le_of_mul-le-mul_right {k = D} (simp ac (omega (arith, simp ac at (mul-le-mul_right n₃ c), simp ac at (mul-le-mul_right (m₂ * u) d)))) dp in
    le_of_mul-le-mul_right {k = D} (simp ac (omega (arith, simp ac at (mul-le-mul_right (m₂ * m₃ * m₂ * Dc) p), simp ac at (mul-le-mul_right (n₁ * J * m₂ * Dc) q), simp ac at (mul-le-mul_right (n₁ * n₂ * n₃ * J) g)))) dp
  where
    p₁ : (m x e D : ℕ) → m * (x * e * D) ≡ m * (x * D) * e
    p₁ m x e D = simp ac

    p₂ : (n J f e : ℕ) → n * (4 * J * f) * e ≡ n * (J * (4 * e * f))
    p₂ n J f e = simp ac

chain_low : (m₁ n₁ m₂ n₂ m₃ n₃ x e D Dc J f u h w A : ℕ) → 0 < D → m₁ * (4 * J * f) ≤ n₁ * (x * D) → u ≡ 4 * e * f → m₂ * (w * h) ≤ n₂ * (u * D) → m₃ * D ≤ n₃ * h → m₂ * (A * D) ≤ n₂ * (w * Dc)
    → m₁ * m₂ * m₃ * m₂ * (J * A) ≤ n₁ * n₂ * n₃ * n₂ * (x * e * Dc)
chain_low m₁ n₁ m₂ n₂ m₃ n₃ x e D Dc J f u h w A dp a b c d g =
    let p : m₁ * (J * u) ≤ n₁ * (x * e * D) = le_trans (le_of_eq (ap (λ (z : ℕ). m₁ * (J * z)) b ∙ sym (p₂ m₁ J f e))) (le_trans (mul-le-mul_right e a) (le_of_eq (sym (p₁ n₁ x e D)))) in
    let q : m₂ * m₃ * w ≤ n₂ * n₃ * u = le_of_mul-le-mul_right {k = D} (simp ac (omega (arith, simp ac at (mul-le-mul_right n₃ c), simp ac at (mul-le-mul_right (m₂ * w) d)))) dp in
    le_of_mul-le-mul_right {k = D} (simp ac (omega (arith, simp ac at (mul-le-mul_right (n₂ * n₃ * n₂ * Dc) p), simp ac at (mul-le-mul_right (m₁ * J * n₂ * Dc) q), simp ac at (mul-le-mul_right (m₁ * m₂ * m₃ * J) g)))) dp
  where
    p₁ : (m x e D : ℕ) → m * (x * e * D) ≡ m * (x * D) * e
    p₁ m x e D = simp ac

    p₂ : (n J f e : ℕ) → n * (4 * J * f) * e ≡ n * (J * (4 * e * f))
    p₂ n J f e = simp ac

-- from the powers of two to the fractions
turn_high : (y z x e F J Dc A num den : ℕ) → 0 < J → 0 < F * Dc → y * (J * F) ≡ x * e * z → x * e * Dc ≤ J * A → num * (F * Dc) ≡ A * den → y * den ≤ num * z
turn_high y z x e F J Dc A num den jp fp p q r =
    let s : y * (F * Dc) ≤ A * z = le_of_mul-le-mul_right {k = J} (simp ac (omega (arith, simp ac at (ap (λ (i : ℕ). i * Dc) p), simp ac at (mul-le-mul_right z q)))) jp in
    le_of_mul-le-mul_right {k = F * Dc} (simp ac (omega (arith, simp ac at (mul-le-mul_right den s), simp ac at (ap (λ (i : ℕ). i * z) r)))) fp

turn_low : (y z x e F J Dc A num den : ℕ) → 0 < J → 0 < F * Dc → y * (J * F) ≡ x * e * z → J * A ≤ x * e * Dc → num * (F * Dc) ≡ A * den → num * z ≤ y * den
turn_low y z x e F J Dc A num den jp fp p q r =
    let s : A * z ≤ y * (F * Dc) = le_of_mul-le-mul_right {k = J} (simp ac (omega (arith, simp ac at (ap (λ (i : ℕ). i * Dc) p), simp ac at (mul-le-mul_right z q)))) jp in
    le_of_mul-le-mul_right {k = F * Dc} (simp ac (omega (arith, simp ac at (mul-le-mul_right den s), simp ac at (ap (λ (i : ℕ). i * z) r)))) fp

-- the exact power of ten over 2 ^ 128, where the minus sign leaves room
exact : (s : Bool) (a c : ℕ) → 0 < c → (s ≡ true → a ≤ 128 * c) → two_num s a c * (2 ^ 128 * sum_den c) ≡ two_at c (shifted s a c) * two_den s a c
exact false a c cp h = two_plus a c cp
exact true a c cp h = two_minus a c cp (h refl)

module _ (a c : ℕ) where
  abbrev Fits : Type 0
  Fits = 65536 * a * K + c * K ≤ 128 * (65536 * c * M)

  unit_small : c * K ≤ 128 * (65536 * c * M)
  unit_small = omega arith

  up_room : (s : Bool) → (s ≡ true → Fits) → up_sign s a c ≡ true → up_num s a c * K ≤ 128 * (65536 * c * M)
  unfolding up_sign up_num
  up_room false h e = absurd (true≢false (sym e))
  up_room true h e = le_trans (le_trans (mul-le-mul_right K least) (le_of_eq (add-mul (65536 * a) c K))) (h refl)
    where
      least : 65536 * a - c + (c - 65536 * a) ≤ 65536 * a + c
      least = omega arith

  down_room : (s : Bool) → (s ≡ true → Fits) → down_sign s a c ≡ true → down_num s a c * K ≤ 128 * (65536 * c * M)
  unfolding down_sign down_num up_sign up_num
  down_room true h e = le_trans (le_of_eq (add-mul (65536 * a) c K)) (h refl)
  down_room false h e = le_trans (mul-le-mul_right K (small (nltb→le c (65536 * a) (subst T (sym e) tt)))) unit_small
    where
      small : 65536 * a ≤ c → 65536 * a - c + (c - 65536 * a) ≤ c
      small l = omega arith

-- ---- x = y / z has the pattern's fields e and t, and its result ± a / c comes from v
module _ (e t y z a c v : ℕ) (s : Bool) (el : 1 ≤ e) (tl : t < 8388608) (cp : 0 < c)
    (value : y * 2 ^ 149 ≡ (t + 8388608) * 2 ^ (e - 1) * z)
    (place : shifted s v P ≡ (e + 1) * P + part_of t)
    (over : 100000 * (P * (a * K)) ≤ 100000 * (v * (c * M)) + P * (c * M))
    (under : 100000 * (v * (c * M)) ≤ 100000 * (P * (a * K)) + P * (c * M))
    (room : s ≡ true → (v ≤ 128 * P) × (65536 * a * K + c * K ≤ 128 * (65536 * c * M))) where
  abbrev C : ℕ
  C = 65536 * c * M

  Cp : 0 < C
  Cp = mul-pos {m = 65536 * c} (mul-pos {m = 65536} (lit< tt) cp) (lit< tt)

  abbrev E : ℕ
  E = 2 ^ (e - 1)

  abbrev W : ℕ
  W = shifted s v P

  u_is : two_at P W ≡ 4 * E * two_at P (part_of t)
  u_is = ap (two_at P) place ∙ two_whole P (e + 1) (part_of t) (lit< tt) ∙ ap (λ (k : ℕ). k * two_at P (part_of t)) (ap (λ (i : ℕ). 2 ^ i) back ∙ pow-add 2 2 (e - 1))
    where
      back : e + 1 ≡ 2 + (e - 1)
      back = omega arith

  d_pos : 0 < sum_den P
  d_pos = sum_den_pos P (lit< tt)

  step_at : 1000027 * sum_den P ≤ 1000000 * two_at P 171798
  step_at = rw step_is step_ge

  abbrev Au : ℕ
  Au = shifted (up_sign s a c) (up_num s a c * K) C

  abbrev Ad : ℕ
  Ad = shifted (down_sign s a c) (down_num s a c * K) C

  high : (t + 8388608) * E * sum_den C ≤ 2097152 * two_at C Au
  high =
      go (loosen (63000 * 2097152 * 1000027 * 2097152) (63001 * 2097153 * 1000000 * 2097153) 1 1 ((t + 8388608) * E * sum_den C) (2097152 * two_at C Au) (lit< tt) (lit≤ tt)
      (chain_high 63000 63001 2097152 2097153 1000027 1000000 (t + 8388608) E (sum_den P) (sum_den C) 2097152 (two_at P (part_of t)) (two_at P W) (two_at P 171798) (two_at P (W + 171798)) (two_at C Au)
      d_pos (log10_method_over t tl) u_is (power_law P W 171798 (lit< tt)).1 step_at
      (rise_across P (W + 171798) C Au (lit< tt) Cp (far_up a c v over under s room))))
    where
      go : {x y : ℕ} → 1 * x ≤ 1 * y → x ≤ y
      go h = omega arith

  w_big : 171798 ≤ W
  w_big = rw place (omega arith)

  low : 2097152 * two_at C Ad ≤ (t + 8388608) * E * sum_den C
  low =
      go (loosen (63000 * 2097152 * 1000027 * 2097152) (63001 * 2097153 * 1000000 * 2097153) 1 1 (2097152 * two_at C Ad) ((t + 8388608) * E * sum_den C) (lit< tt) (lit≤ tt)
      (chain_low 63000 63001 2097152 2097153 1000027 1000000 (t + 8388608) E (sum_den P) (sum_den C) 2097152 (two_at P (part_of t)) (two_at P W) (two_at P 171798) (two_at P (W - 171798)) (two_at C Ad)
      d_pos (log10_method_under t tl) u_is (rw (sub-add_cancel w_big) at (power_law P (W - 171798) 171798 (lit< tt)).1) step_at
      (rise_across C Ad P (W - 171798) Cp (lit< tt) down)))
    where
      go : {x y : ℕ} → 1 * x ≤ 1 * y → x ≤ y
      go h = omega arith

      down : P * Ad ≤ C * (W - 171798)
      down = rw (mul-sub C W 171798) (omega (arith, far_down a c v over under s room))

  f_pos : 0 < 2 ^ 128 * sum_den C
  f_pos = mul-pos {m = 2 ^ 128} (pow_pos 128) (sum_den_pos C Cp)

  pub between : Between s a c y z
  unfolding ten_num ten_den
  between = record {
    low = turn_low y z (t + 8388608) E (2 ^ 128) 2097152 (sum_den C) (two_at C Ad) (two_num (down_sign s a c) (down_num s a c * K) C) (two_den (down_sign s a c) (down_num s a c * K) C) (lit< tt) f_pos value low
        (exact (down_sign s a c) (down_num s a c * K) C Cp (down_room a c s (λ q. (room q).1)));
    high = turn_high y z (t + 8388608) E (2 ^ 128) 2097152 (sum_den C) (two_at C Au) (two_num (up_sign s a c) (up_num s a c * K) C) (two_den (up_sign s a c) (up_num s a c * K) C) (lit< tt) f_pos value high
        (exact (up_sign s a c) (up_num s a c * K) C Cp (up_room a c s (λ q. (room q).1)));
  }
