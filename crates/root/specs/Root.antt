-- The square root of an `f32`: how it is computed, and what correctly rounded means. Definitions only. Assumes nothing.
use Rattle.std.specs.Prelude.{◌≡◌, true, false, cond, ℕ, zero, suc, ◌+◌, ◌-◌, ◌*◌, ◌/◌, ◌%◌, ◌^◌, ◌≤◌, ◌<◌, ℤ, T, leb, ltb, eqb, Float}
use Rattle.std.specs.Int.Count.{count_leading_zeros}
use Rattle.std.specs.Float.{nan, inf, fin, binary32}
use Rattle.std.specs.Float.Ieee.{up, down, fits, of_bits, to_bits}

-- ---- how it is computed

-- one more binary digit of a root: f, or the next number if its square is still at most q
abbrev pub digit : ℕ → ℕ → ℕ
digit q f = cond (leb (suc f * suc f) q) (suc f) f

-- the whole part of the root of q, for a q below 4 ^ k
unfoldable pub floor_root : ℕ → ℕ → ℕ
floor_root zero q = 0
floor_root (suc k) q = digit q (2 * floor_root k (q / 4))

-- f, or the next number if the root of q is past the middle: (f + 1/2)² is f² + f + 1/4
abbrev pub nearer : ℕ → ℕ → ℕ
nearer q f = cond (ltb (f * f + f) q) (suc f) f

-- the whole number nearest to the root of q, for a q below 2 ^ 48
unfoldable pub nearest_root : ℕ → ℕ
unfolding floor_root
nearest_root q = nearer q (floor_root 24 q)

-- The number d * 2 ^ (x - 150), for a d of up to 24 digits. By an even power of two it is brought to q, of 47 or 48 digits: then its root is that of q, of 24 digits, times 2 ^ (exponent - 149).
abbrev pub odd : ℕ → ℕ → ℕ
odd d x = (x + count_leading_zeros 64 d + 1) % 2

abbrev pub scaled : ℕ → ℕ → ℕ
scaled d x = d * 2 ^ (count_leading_zeros 64 d + odd d x - 17)

abbrev pub exponent : ℕ → ℕ → ℕ
exponent d x = (x + 165 - count_leading_zeros 64 d - odd d x) / 2

-- the pattern of its root
unfoldable pub root_at : ℕ → ℕ → ℕ
unfolding nearest_root
root_at d x = exponent d x * 8388608 + nearest_root (scaled d x)

-- by the pattern of the argument: the digits and the exponent's field, where a field of 0 counts as 1
unfoldable pub root_bits : ℕ → ℕ
unfolding root_at
root_bits b = cond (ltb b 8388608) (root_at b 1) (root_at (b % 8388608 + 8388608) (b / 8388608))

-- a zero is its own root; of a negative number there is none
unfoldable pub sqrt_of : Float → Float
unfolding root_bits
sqrt_of nan = nan
sqrt_of (inf s) = cond s nan (inf false)
sqrt_of (fin s m e) = cond (eqb m 0) (fin s m e) (cond s nan (of_bits binary32 (root_bits (to_bits binary32 (fin s m e)))))

-- ---- what it means

abbrev pub square : ℕ → ℕ
square n = n * n

-- No value n * 2 ^ d of the format lies nearer to the root of p / w than a / c: the root is not on that value's side of the middle, ((a / c + n * 2 ^ d) / 2)² against p / w.
-- (A negative value lies farther than zero.)
pub record NoneNearer (p w a c : ℕ) : Type 0 where
  pub under : (n : ℕ) (d : ℤ) → T (fits binary32 (fin false n d)) → n * up d * c < a * down d → square (a * down d + n * up d * c) * w ≤ 4 * p * square (c * down d)
  pub over : (n : ℕ) (d : ℤ) → T (fits binary32 (fin false n d)) → a * down d < n * up d * c → 4 * p * square (c * down d) ≤ square (a * down d + n * up d * c) * w

-- r is a value of the format, and none lies nearer to the root of p / w
abbrev pub Correct : ℕ → ℕ → Float → Type 0
Correct p w nan = ⊥
Correct p w (inf s) = ⊥
Correct p w (fin s n d) = (s ≡ false) × T (fits binary32 (fin s n d)) × NoneNearer p w (n * up d) (down d)

-- r is the square root of x, correctly rounded; zeros, the infinities and what is not a number or negative as in IEEE 754
abbrev pub Root : Float → Float → Type 0
Root nan r = r ≡ nan
Root (inf true) r = r ≡ nan
Root (inf false) r = r ≡ inf false
Root (fin s zero e) r = r ≡ fin s zero e
Root (fin true (suc m) e) r = r ≡ nan
Root (fin false (suc m) e) r = Correct (suc m * up e) (down e) r
