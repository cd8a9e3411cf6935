-- A number below 2 ^ -10 is its own sine to 2 ^ -20: the series' second term is z² / 6 of the first. Assumes nothing.
use mathlib.Core.Path.{◌≡◌, sym, ap}
use Prim.Native.Nat.{ℕ, ◌+◌, ◌-◌, ◌*◌, ◌^◌, ◌≤◌, ◌<◌}
use native.Mathlib.Nat.{le_trans, le_of_eq, mul-add, mul-le-mul, mul-le-mul_left, mul-le-mul_right, sub-le, pow-suc, div-eq_of_lt, mod-eq_of_lt}
use native.Mathlib.Omega.{arith}
use Rattle.series.proofs.Algebra.{ac}
use Rattle.sine.specs.Series.{alternating}
use Rattle.sine.specs.Exact.{unit, quarter, turns, rest, odds, odd_num, sine_num, sine_den, sinc_num, sinc_den}
use Rattle.sine.proofs.Nested.{tail}
use Rattle.sine.proofs.Method.{odd_le}

-- within the first quarter nothing is folded
pub no_turns : (a c : ℕ) → a * 200000000000000 < quarter c → turns a c ≡ 0
no_turns a c h = div-eq_of_lt h

pub all_rest : (a c : ℕ) → a * 200000000000000 < quarter c → rest a c ≡ a * 200000000000000
all_rest a c h = mod-eq_of_lt h

pub sine_is : (a c : ℕ) → a * 200000000000000 < quarter c → sine_num 0 a c ≡ odd_num (a * 200000000000000) (unit c)
sine_is a c h = rw (no_turns a c h, all_rest a c h)

-- what a difference loses
lost : (g A B : ℕ) → g * B ≤ A → g * A ≤ g * (A - B) + A
lost g A B h =
    let e : A ≤ A - B + B = omega arith in
    let l : g * A ≤ g * (A - B) + g * B = le_trans (mul-le-mul_left g e) (le_of_eq (mul-add g (A - B) B)) in
    omega arith

second : (g k s z Z N : ℕ) → g * s ≤ z → N ≤ k * Z → 6 * g * (s * N) ≤ 6 * k * (Z * z)
second g k s z Z N h l = simp ac (omega (arith, simp ac at (mul-le-mul_right (6 * N) h), simp ac at (mul-le-mul_right (6 * z) l)))

-- below 2 ^ -10 the series is its first term, but for one part in 6 * 2 ^ 20
pub own_series : (f d : ℕ) → 1024 * f ≤ d → 6291456 * sinc_den d ≤ 6291456 * sinc_num f d + sinc_den d
unfolding alternating
own_series f d h =
    let z = d * d in
    let N = alternating (tail odds) (f * f) z in
    lost 6291456 (sinc_den d) (f * f * N)
    (le_trans (second 1048576 1037836800 (f * f) z (z ^ 5) N (omega (arith, mul-le-mul h h)) (sub-le (1037836800 * z ^ 5) (f * f * alternating (tail (tail odds)) (f * f) z)))
    (le_of_eq (ap (λ (y : ℕ). 6227020800 * y) (sym (pow-suc z 5)))))

-- ---- x = a / c below 2 ^ -10
turned : (a c f d N : ℕ) → f * c ≡ a * d → f * N * c ≡ a * (d * N)
turned a c f d N e = simp ac (simp ac at (ap (λ (y : ℕ). y * N) e))

own_low : (a c d N D : ℕ) → 1024 * a ≤ c → 6291456 * D ≤ 6291456 * N + D → 1048576 * (a * (d * D)) ≤ 1048576 * (a * (d * N)) + d * D * c
own_low a c d N D h l =
    let x = simp ac at (mul-le-mul_right (a * d) l) in
    let y = simp ac at (mul-le-mul_right (d * D) h) in
    simp ac (omega arith)

pub sine_own : (a c : ℕ) → 0 < c → 1024 * a ≤ c
    → (1048576 * (a * sine_den c) ≤ 1048576 * (sine_num 0 a c * c) + sine_den c * c) × (sine_num 0 a c * c ≤ a * sine_den c)
sine_own a c cp h =
    let f = a * 200000000000000 in
    let d = unit c in
    let N = sinc_num f d in
    let D = sinc_den d in
    let e : f * N * c ≡ a * (d * N) = turned a c f d N (sh a c 200000000000000) in
    let l : 6291456 * D ≤ 6291456 * N + D = own_series f d (omega arith) in
    rw (sine_is a c (omega arith), e) (own_low a c d N D h l, mul-le-mul_left a (mul-le-mul_left d (odd_le f d)))
  where
    sh : (a c u : ℕ) → a * u * c ≡ a * (c * u)
    sh a c u = simp ac
