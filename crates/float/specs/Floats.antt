-- Rust's functions on f32, for every value. Definitions only.
use Rattle.std.specs.Prelude.{Bool, false, cond, eqb, ℤ, pos, Float}
use Rattle.std.specs.Float.{binary32, nan, inf, fin}
use Rattle.std.specs.Float.Ieee.{neg, add, mul, rem, lt, ne, to_signed, to_bits}
use Rattle.float.specs.Consts.{k0, k1, k8388607}

-- the value without its sign
unfoldable pub abs_of : Float → Float
abs_of nan = nan
abs_of (inf s) = inf false
abs_of (fin s m e) = fin false m e

-- 1 with the value's sign, a zero's too
unfoldable pub signum_of : Float → Float
signum_of nan = nan
signum_of (inf s) = fin s 1 (pos 0)
signum_of (fin s m e) = fin s 1 (pos 0)

-- the lesser, and the other where one is not a number; Rust leaves open which of two unlike zeros it is, here the first
unfoldable pub min_of : Float → Float → Float
min_of a b = cond (lt b a) b (cond (ne a a) b a)

-- the greater, likewise
unfoldable pub max_of : Float → Float → Float
max_of a b = cond (lt a b) b (cond (ne a a) b a)

-- x where it lies from lo to hi or is not a number, and else the end that it passed
unfoldable pub clamp_of : Float → Float → Float → Float
clamp_of x lo hi = cond (lt x lo) lo (cond (lt hi x) hi x)

-- whether two values have the same bits: +0 and -0 do not. A value that is no number is one value here, with one pattern of bits, and so has its own
unfoldable pub same_bits : Float → Float → Bool
same_bits a b = eqb (to_bits binary32 a) (to_bits binary32 b)

-- what follows the point, with x's sign, but +0 of every whole number
unfoldable pub fract_of : Float → Float
fract_of x = add binary32 (rem binary32 x k1) k0

-- x less a whole multiple of y, not below zero but for the rounding: a tiny negative remainder plus y can round to y
unfoldable pub rem_euclid_of : Float → Float → Float
rem_euclid_of x y = let r = rem binary32 x y in cond (lt r k0) (add binary32 r (abs_of y)) r

-- the word of a sample of 1
abbrev pub FULL_SCALE : Float
FULL_SCALE = k8388607

-- "To a word": clamped to ±1, times 8388607, cut toward zero; not a number gives 0
unfoldable pub to24_of : Float → ℤ
to24_of x = to_signed 31 (mul binary32 (clamp_of x (neg k1) k1) FULL_SCALE)
