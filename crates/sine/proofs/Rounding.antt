-- The rounding: the sine in Q63 as a float, with its sign, is within 2 ^ -20 of the exact one. Assumes nothing.
use mathlib.Core.Path.{sym}
use mathlib.Core.Logic.{inl, inr}
use mathlib.Core.Bool.{Bool, true, false, not, cond}
use Prim.Native.Nat.{ℕ, ◌+◌, ◌-◌, ◌*◌, ◌/◌, ◌%◌, ◌^◌, ◌≤◌, ◌<◌}
use native.Mathlib.Nat.{le_trans, le_of_eq, le_of_lt, mul_assoc, mul-le-mul, mul-le-mul_right, le_of_mul-le-mul_right, sub-le, mod-lt, div-le_of_le-mul}
use native.Mathlib.Omega.{arith}
use lib.Dec.{eqb, lit<, lit≤}
use lib.Ieee.{Float, nan, inf, fin, up, down, neg}
use Rattle.series.specs.Near.{Relative, Apart, Absolute}
use Rattle.series.proofs.Algebra.{ac}
use Rattle.series.proofs.Nearness.{absolute_neg}
use Rattle.fixed.specs.Fixed.{pack_of}
use Rattle.fixed.proofs.Packs.{packed}
use Rattle.sine.specs.Exact.{unit, quarter, turns, rest, folded, lower, sinc_num, sinc_den, odd_num, odd_den, sine_num, sine_den}
use Rattle.sine.specs.Sine.{quarter31, sine_fix, signed, wave_of}
use Rattle.sine.proofs.Pairs.{sinc_le}
use Rattle.sine.proofs.Turn.{Near, sin_reduction}
use Rattle.sine.proofs.Method.{sin_method, odd_le}

-- ---- the numbers: R / t is q / W to one part in b, and q / W is off by e / W

round_high : (b q t R W num den e k : ℕ) → 0 < b * W → b * R * W ≤ (b + 1) * q * t → q * den ≤ W * num + e * den → num ≤ 2 * den → k * (2 * W + (b + 1) * e) ≤ b * W → k * (R * den) ≤ k * (num * t) + den * t
round_high b q t R W num den e k bp h₁ h₂ h₃ h₄ =
    le_of_mul-le-mul_right {k = b * W}
    (simp ac (omega (arith, simp ac at (mul-le-mul_right (k * den) h₁), simp ac at (mul-le-mul_right (k * (b + 1) * t) h₂), simp ac at (mul-le-mul_right (k * W * t) h₃), simp ac at (mul-le-mul_right (den * t) h₄))))
    bp

round_low : (b q t R W num den e k : ℕ) → 0 < b * W → b * q * t ≤ (b + 1) * R * W → W * num ≤ q * den + e * den → num ≤ 2 * den → k * (2 * W + (b + 1) * e) ≤ (b + 1) * W → k * (num * t) ≤ k * (R * den) + den * t
round_low b q t R W num den e k bp h₁ h₂ h₃ h₄ =
    le_of_mul-le-mul_right {k = (b + 1) * W}
    (simp ac (omega (arith, simp ac at (mul-le-mul_right (k * den) h₁), simp ac at (mul-le-mul_right (k * b * t) h₂), simp ac at (mul-le-mul_right (k * W * t) h₃), simp ac at (mul-le-mul_right (den * t) h₄))))
    (le_trans bp (mul-le-mul_right W (omega arith)))

-- ---- the rounding to a float

abbrev W : ℕ
W = 2 ^ 63

-- 295 units of Q31
abbrev E : ℕ
E = 295 * 4294967296

pub sin_rounding : (q num den : ℕ) (r : Float) → Relative 16777216 q W r → q * den ≤ W * num + E * den → W * num ≤ q * den + E * den → num ≤ 2 * den → Absolute 1048576 false num den r
sin_rounding q num den nan w h l b = w
sin_rounding q num den (inf s) w h l b = w
sin_rounding q num den (fin s m e) w h l b =
    rw w.0 (
      round_high 16777216 q (down e) (m * up e) W num den E 1048576 (lit< tt) w.2 h b (lit≤ tt),
      round_low 16777215 q (down e) (m * up e) W num den E 1048576 (lit< tt) w.1 l b (lit≤ tt),
    )

pub signed_absolute : (s : Bool) (num den : ℕ) (r : Float) → Absolute 1048576 false num den r → Absolute 1048576 s num den (signed s r)
signed_absolute true num den r h = absolute_neg 1048576 false num den r h
signed_absolute false num den r h = h

-- where the sign turns, both are next to nothing
pub size_high : (b B g l p q t R W : ℕ) → 0 < b * W → b * R * W ≤ B * q * t → q ≤ p → g * B * p ≤ l * (b * W) → g * R ≤ l * t
size_high b B g l p q t R W bp h₁ h₂ h₃ =
    le_of_mul-le-mul_right {k = b * W}
    (simp ac (omega (arith, simp ac at (mul-le-mul_right g h₁), simp ac at (mul-le-mul_right (g * B * t) h₂), simp ac at (mul-le-mul_right t h₃))))
    bp

small_apart : (s t : Bool) (R T num den : ℕ) → 268435456 * R ≤ 1 * T → 1073741824 * num ≤ den → Apart 1048576 s t (R * den) (num * T) (den * T)
small_apart s t R T num den h k = go s t
  where
    x : 268435456 * (R * den) ≤ den * T
    x = omega (arith, mul-le-mul_right den h)

    y : 1073741824 * (num * T) ≤ den * T
    y = omega (arith, mul-le-mul_right T k)

    go : (s t : Bool) → Apart 1048576 s t (R * den) (num * T) (den * T)
    go false false = (omega (arith, x), omega (arith, y))
    go true true = (omega (arith, x), omega (arith, y))
    go false true = omega (arith, x, y)
    go true false = omega (arith, x, y)

small_absolute : (s t : Bool) (q num den : ℕ) (r : Float) → Relative 16777216 q W r → q ≤ 8589934593 → 1073741824 * num ≤ den → Absolute 1048576 t num den (signed s r)
unfolding neg
small_absolute true t q num den nan w h k = w
small_absolute false t q num den nan w h k = w
small_absolute true t q num den (inf s) w h k = w
small_absolute false t q num den (inf s) w h k = w
small_absolute true t q num den (fin s m e) w h k = small_apart (not s) t (m * up e) (down e) num den (size_high 16777216 16777217 268435456 1 8589934593 q (down e) (m * up e) W (lit< tt) w.2 h (lit≤ tt)) k
small_absolute false t q num den (fin s m e) w h k = small_apart s t (m * up e) (down e) num den (size_high 16777216 16777217 268435456 1 8589934593 q (down e) (m * up e) W (lit< tt) w.2 h (lit≤ tt)) k

-- ---- the sine of x, of Q31, and j quarter turns
pub folded_le : (k q m : ℕ) → m ≤ q → folded k q m ≤ q
folded_le k q m h = go (eqb (k % 2) 0)
  where
    go : (b : Bool) → cond b m (q - m) ≤ q
    go true = h
    go false = sub-le q m

square_le : (z : ℕ) → z ≤ quarter31 → z * z / 4294967296 ≤ 4294967296
square_le z h = div-le_of_le-mul 4294967296 (le_trans (mul-le-mul h h) (lit≤ tt))

pub fix_small : (z : ℕ) → z ≤ quarter31 → sine_fix z < 18446744073709551616
unfolding sine_fix
fix_small z h = omega (arith, mul-le-mul h (sinc_le (z * z / 4294967296) (square_le z h)))

fix_tiny : (z : ℕ) → z ≤ 2 → sine_fix z ≤ 8589934593
unfolding sine_fix
fix_tiny z h = omega (arith, mul-le-mul h (sinc_le (z * z / 4294967296) (square_le z (le_trans h (lit≤ tt)))))

pub fix_pos : (z : ℕ) → 0 < sine_fix z
unfolding sine_fix
fix_pos z = omega arith

sized : (f d g : ℕ) → f ≤ g * d → odd_num f d ≤ g * odd_den d
sized f d g h = le_trans (mul-le-mul h (odd_le f d)) (le_of_eq (mul_assoc g d (sinc_den d)))

few : (z d f : ℕ) → 0 < d → z * d + f * 2147483648 ≤ 2 * d → z ≤ 2
few z d f dp h = le_of_mul-le-mul_right {k = d} (omega arith) dp

nothing : (f d : ℕ) → f * 2147483648 ≤ 2 * d → 1073741824 * odd_num f d ≤ odd_den d
nothing f d h = le_trans (le_of_eq (sym (mul_assoc 1073741824 f (sinc_num f d)))) (mul-le-mul (omega arith) (odd_le f d))

pub wave_near : (a c x j : ℕ) → 0 < c → x * c ≤ a * 2147483648 → a * 2147483648 < x * c + c → a ≤ 8 * c → Absolute 1048576 (lower (turns a c + j)) (sine_num j a c) (sine_den c) (wave_of j x)
unfolding wave_of
wave_near a c x j cp lo hi h = go (sin_reduction a c x j cp lo hi h)
  where
    f : ℕ
    f = folded (turns a c + j) (quarter c) (rest a c)

    z : ℕ
    z = folded (x / quarter31 + j) quarter31 (x % quarter31)

    z_le : z ≤ quarter31
    z_le = folded_le (x / quarter31 + j) quarter31 (x % quarter31) (le_of_lt (mod-lt x (lit< tt)))

    f_le : f ≤ 2 * unit c
    f_le = le_trans (folded_le (turns a c + j) (quarter c) (rest a c) (le_of_lt (mod-lt (a * 200000000000000) (omega arith)))) (omega arith)

    near : Relative 16777216 (sine_fix z) (2 ^ 63) (pack_of (sine_fix z) 63)
    near = packed (sine_fix z) 63 (fix_small z z_le) (fix_pos z) (lit≤ tt)

    go : Near (unit c) f z (lower (turns a c + j)) (lower (x / quarter31 + j)) → Absolute 1048576 (lower (turns a c + j)) (odd_num f (unit c)) (odd_den (unit c)) (signed (lower (x / quarter31 + j)) (pack_of (sine_fix z) 63))
    go (inl s) =
        let m = sin_method f (unit c) z (omega arith) s.low s.high f_le z_le in
        rw s.sign
        (signed_absolute (lower (x / quarter31 + j)) (odd_num f (unit c)) (odd_den (unit c)) (pack_of (sine_fix z) 63)
        (sin_rounding (sine_fix z) (odd_num f (unit c)) (odd_den (unit c)) (pack_of (sine_fix z) 63) near m.0 m.1 (sized f (unit c) 2 f_le)))
    go (inr t) =
        small_absolute (lower (x / quarter31 + j)) (lower (turns a c + j)) (sine_fix z) (odd_num f (unit c)) (odd_den (unit c)) (pack_of (sine_fix z) 63) near
        (fix_tiny z (few z (unit c) f (omega arith) t)) (nothing f (unit c) (omega arith))
