-- Below 2 ^ -10 the argument itself is near: to the first order E is 1 + 2a, so that (E - 1) / (E + 1) is a, and what is left is of the order a². Assumes nothing.
use mathlib.Core.Path.{◌≡◌, ap}
use mathlib.Core.Bool.{Bool}
use Prim.Native.Nat.{ℕ, ◌+◌, ◌-◌, ◌*◌, ◌^◌, ◌≤◌, ◌<◌}
use native.Mathlib.Nat.{le_trans, le_of_eq, mul_assoc, mul_left_comm, mul-add, add-mul, mul-pos, mul-le-mul_left, mul-le-mul_right, le_of_mul-le-mul_right, sub-add_cancel}
use native.Mathlib.Omega.{arith}
use lib.Dec.{lit<, lit≤}
use lib.Pow.{pow_pos}
use Rattle.series.proofs.Algebra.{ac, loosen}
use Rattle.series.proofs.Exponential.{linear_le, geometric_le}
use Rattle.power.specs.Exact.{sum_num, sum_den, two_num, two_den}
use Rattle.power.proofs.Numbers.{L, M}
use Rattle.power.proofs.TwoPower.{two_at, two_at_is}
use Rattle.power.proofs.Moves.{sum_den_pos}
use Rattle.tanh.proofs.Pair.{K, lesser, greater, pair_over, pair_under, inverse_over, inverse_under}

-- ---- with every number a variable: X / Y is about F / p, where p = G S and F = G D
ratio_over : (m n k l X Y F p q : ℕ) → 0 < F → m * (X * F) ≤ n * (Y * q) → k * (p * q) ≤ l * (F * F) → m * k * (X * p) ≤ n * l * (Y * F)
ratio_over m n k l X Y F p q fp h g = le_of_mul-le-mul_right {k = F} (simp ac (omega (arith, simp ac at (mul-le-mul_right (k * p) h), simp ac at (mul-le-mul_right (n * Y) g)))) fp

ratio_under : (m n k l X Y F p q : ℕ) → 0 < F → m * (Y * q) ≤ n * (X * F) → k * (F * F) ≤ l * (p * q) → m * k * (Y * F) ≤ n * l * (X * p)
ratio_under m n k l X Y F p q fp h g = le_of_mul-le-mul_right {k = F} (simp ac (omega (arith, simp ac at (mul-le-mul_right (l * p) h), simp ac at (mul-le-mul_right (m * Y) g)))) fp

cancel : (m n X Y G S D : ℕ) → 0 < G → m * (X * (G * S)) ≤ n * (Y * (G * D)) → m * (X * S) ≤ n * (Y * D)
cancel m n X Y G S D gp h = le_of_mul-le-mul_right {k = G} (simp ac h) gp

-- and S / D between 1 + t / z and z / y
bound_over : (m n X Y S D z t : ℕ) → 0 < D → m * (X * S) ≤ n * (Y * D) → D * (z + t) ≤ S * z → m * (X * (z + t)) ≤ n * (Y * z)
bound_over m n X Y S D z t dp h g = le_of_mul-le-mul_right {k = D} (simp ac (omega (arith, simp ac at (mul-le-mul_right z h), simp ac at (mul-le-mul_right (m * X) g)))) dp

bound_under : (m n X Y S D z y : ℕ) → 0 < D → m * (Y * D) ≤ n * (X * S) → S * y ≤ D * z → m * (Y * y) ≤ n * (X * z)
bound_under m n X Y S D z y dp h g = le_of_mul-le-mul_right {k = D} (simp ac (omega (arith, simp ac at (mul-le-mul_right y h), simp ac at (mul-le-mul_right (n * X) g)))) dp

-- and t / z about 2 a / c
slope_over : (m n X Y z t c a : ℕ) → 0 < z → m * (X * (z + t)) ≤ n * (Y * z) → 999 * (a * z) ≤ 500 * (c * t) → m * (X * (500 * c + 999 * a)) ≤ 500 * n * (Y * c)
slope_over m n X Y z t c a zp h g = le_of_mul-le-mul_right {k = z} (simp ac (omega (arith, simp ac at (mul-le-mul_right (500 * c) h), simp ac at (mul-le-mul_right (m * X) g)))) zp

slope_under : (m n X Y z t y c a g : ℕ) → 0 < z → y + t ≡ z → g + 2001 * a ≡ 1000 * c → m * (Y * y) ≤ n * (X * z) → 1000 * (c * t) ≤ 2001 * (a * z) → m * (Y * g) ≤ 1000 * n * (X * c)
slope_under m n X Y z t y c a g zp p q h k =
    le_of_mul-le-mul_right {k = z} (le_trans (le_of_eq (left m Y g z)) (le_trans (mul-le-mul_left (m * Y) small) (le_trans (le_of_eq (middle m Y c y)) (le_trans (mul-le-mul_left (1000 * c) h) (le_of_eq (right c n X z)))))) zp
  where
    small : g * z ≤ 1000 * (c * y)
    small = omega (arith, add-mul g (2001 * a) z, mul_assoc 2001 a z, ap (λ (i : ℕ). i * z) q, mul_assoc 1000 c z, mul-add c y t, ap (λ (i : ℕ). c * i) p)

    left : (m Y g z : ℕ) → m * (Y * g) * z ≡ m * Y * (g * z)
    left m Y g z = simp ac

    middle : (m Y c y : ℕ) → m * Y * (1000 * (c * y)) ≡ 1000 * c * (m * (Y * y))
    middle m Y c y = simp ac

    right : (c n X z : ℕ) → 1000 * c * (n * (X * z)) ≡ 1000 * n * (X * c) * z
    right c n X z = simp ac

-- ---- the rest is of the second order
square_over : (a c : ℕ) → 1024 * a ≤ c → 1000001 * c * (262144 * a + 262143 * c) + 2000 * (500 * c + 999 * a) * (262144 * a) ≤ 2000 * (500 * c + 999 * a) * (262145 * c)
square_over a c h = omega (arith, mul-le-mul_right a h, mul-le-mul_right c h)

square_under : (a c g : ℕ) → 1024 * a ≤ c → g + 2001 * a ≡ 1000 * c → 1000001 * c * (262143 * c) ≤ 1000 * g * (262145 * c + 262144 * a) + 1000001 * c * (262144 * a)
square_under a c g h e =
    omega (
      arith,
      atoms (a * a) (a * c) (c * c) (g * a) (g * c)
          (omega (arith, mul-le-mul_right a h)) (omega (arith, mul-le-mul_right c h)) (omega (arith, ap (λ (i : ℕ). i * a) e)) (omega (arith, ap (λ (i : ℕ). i * c) e)),
    )
  where
    atoms : (aa ac cc ga gc : ℕ) → 1024 * aa ≤ ac → 1024 * ac ≤ cc → ga + 2001 * aa ≡ 1000 * ac → gc + 2001 * ac ≡ 1000 * cc → 1000001 * (262143 * cc) ≤ 1000 * (262145 * gc + 262144 * ga) + 1000001 * (262144 * ac)
    atoms aa ac cc ga gc f g k l = omega arith

-- X d ≤ n Y c, and the polynomial inequality over d
finish_over : (X Y a c d n : ℕ) → 0 < d → X * d ≤ n * (Y * c) → n * c * (262144 * a + 262143 * c) + d * (262144 * a) ≤ d * (262145 * c) → X * (262144 * a + 262143 * c) + Y * (262144 * a) ≤ Y * (262145 * c)
finish_over X Y a c d n dp h k =
    le_of_mul-le-mul_right {k = d} (simp ac (omega (arith, simp ac at (mul-le-mul_right (262144 * a + 262143 * c) h), simp ac at (mul-le-mul_right Y k)))) dp

finish_under : (X Y a c g n : ℕ) → 0 < n * c → Y * g ≤ n * (X * c) → n * c * (262143 * c) ≤ g * (262145 * c + 262144 * a) + n * c * (262144 * a) → Y * (262143 * c) ≤ X * (262145 * c + 262144 * a) + Y * (262144 * a)
finish_under X Y a c g n np h k =
    le_of_mul-le-mul_right {k = n * c} (simp ac (omega (arith, simp ac at (mul-le-mul_right (262145 * c + 262144 * a) h), simp ac at (mul-le-mul_right Y k)))) np

-- in terms of B = Y - X and Z = X + Y
turn_over : (X Y B Z a c : ℕ) → B + X ≡ Y → X + Y ≡ Z → X * (262144 * a + 262143 * c) + Y * (262144 * a) ≤ Y * (262145 * c) → 262144 * (a * Z) ≤ 262144 * (B * c) + Z * c
turn_over X Y B Z a c e f h = rw (← f) (omega (arith, add-mul B X c, ap (λ (z : ℕ). z * c) e))

turn_under : (X Y B Z a c : ℕ) → B + X ≡ Y → X + Y ≡ Z → Y * (262143 * c) ≤ X * (262145 * c + 262144 * a) + Y * (262144 * a) → 262144 * (B * c) ≤ 262144 * (a * Z) + Z * c
turn_under X Y B Z a c e f h = rw (← f) (omega (arith, add-mul B X c, ap (λ (z : ℕ). z * c) e))

-- the slope 2 as the product of the two logarithms
slope_low : (A B a c p q k l : ℕ) → A * (p * q) ≤ B * (k * l) → A * (a * (c * p * q)) ≤ B * (c * (a * k * l))
slope_low A B a c p q k l h = simp ac (simp ac at (mul-le-mul_right (a * c) h))

slope_high : (A B a c p q k l : ℕ) → A * (k * l) ≤ B * (p * q) → A * (c * (a * k * l)) ≤ B * (a * (c * p * q))
slope_high A B a c p q k l h = simp ac (simp ac at (mul-le-mul_right (a * c) h))

steep : (a c p q k l : ℕ) → 1024 * a ≤ c → k * l ≤ 1024 * (p * q) → a * k * l ≤ c * p * q
steep a c p q k l h g = simp ac (omega (arith, simp ac at (mul-le-mul_right a g), simp ac at (mul-le-mul_right (p * q) h)))

module _ (s : Bool) (a c : ℕ) (cp : 0 < c) (al : 1024 * a ≤ c) where
  abbrev v : ℕ
  v = a * K

  abbrev d : ℕ
  d = c * M

  abbrev X : ℕ
  X = lesser s (two_num s v d) (two_den s v d)

  abbrev Y : ℕ
  Y = greater s (two_num s v d) (two_den s v d)

  dp : 0 < d
  dp = mul-pos cp (lit< tt)

  vd : v < d
  vd = omega arith

  vl : v ≤ 128 * d
  vl = omega arith

  d_pos : 0 < sum_den d
  d_pos = sum_den_pos d dp

  f_pos : 0 < 2 ^ 128 * sum_den d
  f_pos = mul-pos {m = 2 ^ 128} (pow_pos 128) d_pos

  plus_is : two_at d (128 * d + v) ≡ 2 ^ 128 * sum_num v d
  plus_is = two_at_is d v 128 (128 * d + v) dp vd (omega arith)

  over : 1000000 * (X * sum_num v d) ≤ 1000001 * (Y * sum_den d)
  over =
      cancel 1000000 1000001 X Y (2 ^ 128) (sum_num v d) (sum_den d) (pow_pos 128)
      (rw (← plus_is) (loosen (2097151 * 2097152) (2097152 * 2097153) 1000000 1000001 (X * two_at d (128 * d + v)) (Y * (2 ^ 128 * sum_den d)) (lit< tt) (lit≤ tt)
      (ratio_over 2097151 2097152 2097152 2097153 X Y (2 ^ 128 * sum_den d) (two_at d (128 * d + v)) (two_at d (128 * d - v)) f_pos (pair_over v d dp vl s) (inverse_over v d dp vl))))

  under : 1000000 * (Y * sum_den d) ≤ 1000001 * (X * sum_num v d)
  under =
      cancel 1000000 1000001 Y X (2 ^ 128) (sum_den d) (sum_num v d) (pow_pos 128)
      (rw (← plus_is) (loosen (2097151 * 2097151) (2097152 * 2097152) 1000000 1000001 (Y * (2 ^ 128 * sum_den d)) (X * two_at d (128 * d + v)) (lit< tt) (lit≤ tt)
      (ratio_under 2097151 2097152 2097151 2097152 X Y (2 ^ 128 * sum_den d) (two_at d (128 * d + v)) (two_at d (128 * d - v)) f_pos (pair_under v d dp vl s) (inverse_under v d dp vl))))

  -- the argument of the sum is v L / (d M)
  linear : sum_den d * (d * M + v * L) ≤ sum_num v d * (d * M)
  unfolding sum_num sum_den
  linear = linear_le 10 (v * L) (d * M)

  v_l : v * L ≤ d * M
  v_l = steep a c M M K L al (lit≤ tt)

  geometric : sum_num v d * (d * M - v * L) ≤ sum_den d * (d * M)
  unfolding sum_num sum_den
  geometric = geometric_le 11 (v * L) (d * M - v * L) (d * M) (sub-add_cancel v_l)

  slope_lo : 999 * (a * (d * M)) ≤ 500 * (c * (v * L))
  slope_lo = slope_low 999 500 a c M M K L (lit≤ tt)

  slope_hi : 1000 * (c * (v * L)) ≤ 2001 * (a * (d * M))
  slope_hi = slope_high 1000 2001 a c M M K L (lit≤ tt)

  abbrev g : ℕ
  g = 1000 * c - 2001 * a

  g_is : g + 2001 * a ≡ 1000 * c
  g_is = omega arith

  zp : 0 < d * M
  zp = mul-pos dp (lit< tt)

  first : X * (2000 * (500 * c + 999 * a)) ≤ 1000001 * (Y * c)
  first = go X (500 * c + 999 * a) (Y * c) (slope_over 1000000 1000001 X Y (d * M) (v * L) c a zp (bound_over 1000000 1000001 X Y (sum_num v d) (sum_den d) (d * M) (v * L) d_pos over linear) slope_lo)
    where
      go : (x y z : ℕ) → 1000000 * (x * y) ≤ 500 * 1000001 * z → x * (2000 * y) ≤ 1000001 * z
      go x y z h = omega (arith, mul_left_comm x 2000 y)

  second : Y * (1000 * g) ≤ 1000001 * (X * c)
  second = go Y g (X * c) (slope_under 1000000 1000001 X Y (d * M) (v * L) (d * M - v * L) c a g zp (sub-add_cancel v_l) g_is (bound_under 1000000 1000001 X Y (sum_num v d) (sum_den d) (d * M) (d * M - v * L) d_pos under geometric) slope_hi)
    where
      go : (x y z : ℕ) → 1000000 * (x * y) ≤ 1000 * 1000001 * z → x * (1000 * y) ≤ 1000001 * z
      go x y z h = omega (arith, mul_left_comm x 1000 y)

  module _ (B Z : ℕ) (by : B + X ≡ Y) (xy : X + Y ≡ Z) where
    pub tiny_over : 262144 * (a * Z) ≤ 262144 * (B * c) + Z * c
    tiny_over = turn_over X Y B Z a c by xy (finish_over X Y a c (2000 * (500 * c + 999 * a)) 1000001 (omega arith) first (square_over a c al))

    pub tiny_under : 262144 * (B * c) ≤ 262144 * (a * Z) + Z * c
    tiny_under = turn_under X Y B Z a c by xy (finish_under X Y a c (1000 * g) 1000001 (omega arith) second (square_under a c g al g_is))
