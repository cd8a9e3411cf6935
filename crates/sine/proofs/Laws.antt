-- What callers use: sin and cos lie within ±1.01, sin is not negative up to 3.1, tan is not negative and at most 50. Assumes nothing.
use mathlib.Core.Path.{◌≡◌, sym, subst}
use mathlib.Core.Bool.{Bool, true, false, cond, true≢false}
use Prim.Native.Nat.{ℕ, zero, suc, ◌+◌, ◌*◌, ◌/◌, ◌%◌, ◌^◌, ◌≤◌, ◌<◌}
use native.Mathlib.Nat.{le_trans, le_of_lt, lt_of_le_of_lt, mod-lt, mul-pos, mul-le-mul_right, le_of_mul-le-mul_right}
use native.Mathlib.Omega.{arith}
use lib.IntN.{ℤ, pos, negsuc}
use lib.Dec.{T, lit<, lit≤}
use lib.Arith.{lt→nleb}
use lib.Ieee.{Float, nan, inf, fin, binary32, up, down, neg, lt, le, eq, fits}
use lib.Ieee.Bits.{is_true, is_false, of_bits-fits}
use lib.Ieee.Fits.{and_i, and_l, down_pos, cond-fits, nan-fits, neg-fits}
use Rattle.line.proofs.Range.{In, in_of}
use Rattle.series.specs.Near.{Relative}
use Rattle.fixed.specs.Fixed.{size_of, pack_of}
use Rattle.fixed.proofs.Order.{le_make}
use Rattle.fixed.proofs.Packs.{packed}
use Rattle.sine.specs.Exact.{unit, folded, lower, sine_num, sine_den}
use Rattle.sine.specs.Sine.{eight, little, one_five, tiny, up_to, quarter31, sine_fix, signed, wave_of, sin_of, cos_of, tan_of}
use Rattle.sine.proofs.Rounding.{size_high, folded_le, fix_small, fix_pos}
use Rattle.sine.proofs.Cases.{half_size, minus_zero, up_to_lem, under}
use Rattle.sine.proofs.Tangent.{den_pos, sine_part, cosine_part}
use Rattle.sine.proofs.Fields.{tan_near}
use Rattle.sine.proofs.Bound.{sine_high}

abbrev pub nought : Float
nought = fin false 0 (pos 0)

-- the `f32` nearest 1.01
abbrev pub most : Float
most = fin false 4236247 (negsuc 21)

abbrev pub least : Float
least = fin true 4236247 (negsuc 21)

-- ---- a float by its size and its sign
record Sized (v : Float) : Type 0 where
  above : T (le least v)
  below : T (le v most)

plus_in : (m : ℕ) (e : ℤ) → m * up e * 4194304 ≤ 4236247 * down e → Sized (fin false m e)
plus_in m e h = record { above = le_make true 4236247 (negsuc 21) false m e tt; below = le_make false m e false 4236247 (negsuc 21) h }

minus_in : (m : ℕ) (e : ℤ) → m * up e * 4194304 ≤ 4236247 * down e → Sized (fin true m e)
minus_in m e h = record { above = le_make true 4236247 (negsuc 21) true m e h; below = le_make true m e false 4236247 (negsuc 21) tt }

-- a sine in Q63, packed
signed_in : (s : Bool) (q : ℕ) (v : Float) → Relative 16777216 q (2 ^ 63) v → 1000 * q ≤ 9297159013149614014464 → Sized (signed s v)
unfolding neg
signed_in s q nan w h = absurd w
signed_in s q (inf t) w h = absurd w
signed_in s q (fin true m e) w h = absurd (true≢false w.0)
signed_in true q (fin false m e) w h = minus_in m e (omega (arith, size_high 16777216 16777217 4194304 4236246 9297159013149614014 q (down e) (m * up e) (2 ^ 63) (lit< tt) w.2 (omega arith) (lit≤ tt)))
signed_in false q (fin false m e) w h = plus_in m e (omega (arith, size_high 16777216 16777217 4194304 4236246 9297159013149614014 q (down e) (m * up e) (2 ^ 63) (lit< tt) w.2 (omega arith) (lit≤ tt)))

wave_in : (j x : ℕ) → Sized (wave_of j x)
unfolding wave_of
wave_in j x =
    let k = x / quarter31 + j in
    let z = folded k quarter31 (x % quarter31) in
    let h : z ≤ quarter31 = folded_le k quarter31 (x % quarter31) (le_of_lt (mod-lt x (lit< tt))) in
    signed_in (lower k) (sine_fix z) (pack_of (sine_fix z) 63) (packed (sine_fix z) 63 (fix_small z h) (fix_pos z) (lit≤ tt)) (sine_high z h)

-- a number below 2 ^ -10
own_in : (x : Float) → T (up_to eight x) → T (lt x little) → Sized x
unfolding le lt eq
own_in nan t l = absurd t
own_in (inf true) t l = absurd t
own_in (inf false) t l = absurd t
own_in (fin false m e) t l = plus_in m e (omega (arith, under false m e little eight tt t l))
own_in (fin true m e) t l = minus_in m e (omega (arith, minus_zero m e eight t))

sin_sized : (x : Float) → T (up_to eight x) → Sized (sin_of x)
unfolding sin_of
sin_sized x t = rw (is_true (up_to eight x) t) (go (lt x little) (λ l. l))
  where
    go : (b : Bool) → (T b → T (lt x little)) → Sized (cond b x (wave_of 0 (size_of x / 2)))
    go true l = own_in x t (l tt)
    go false l = wave_in 0 (size_of x / 2)

cos_sized : (x : Float) → T (up_to eight x) → Sized (cos_of x)
unfolding cos_of
cos_sized x t = rw (is_true (up_to eight x) t) (wave_in 1 (size_of x / 2))

range : (b x : Float) → T (le nought x) → T (le x b) → T (up_to b x)
range b x l h = and_i (le nought x) (le x b) l h

-- ---- sin and cos
pub sin_least : (x : Float) → T (le nought x) → T (le x eight) → T (le least (sin_of x))
sin_least x l h = (sin_sized x (range eight x l h)).above

pub sin_most : (x : Float) → T (le nought x) → T (le x eight) → T (le (sin_of x) most)
sin_most x l h = (sin_sized x (range eight x l h)).below

pub cos_least : (x : Float) → T (le nought x) → T (le x eight) → T (le least (cos_of x))
cos_least x l h = (cos_sized x (range eight x l h)).above

pub cos_most : (x : Float) → T (le nought x) → T (le x eight) → T (le (cos_of x) most)
cos_most x l h = (cos_sized x (range eight x l h)).below

wave_fits : (j x : ℕ) → T (fits binary32 (wave_of j x))
unfolding wave_of pack_of
wave_fits j x = go (lower (x / quarter31 + j)) (pack_of (sine_fix (folded (x / quarter31 + j) quarter31 (x % quarter31))) 63) (of_bits-fits binary32 _)
  where
    go : (s : Bool) (v : Float) → T (fits binary32 v) → T (fits binary32 (signed s v))
    go true v h = neg-fits binary32 v h
    go false v h = h

pub sin_fits : (x : Float) → T (fits binary32 x) → T (fits binary32 (sin_of x))
unfolding sin_of
sin_fits x h = cond-fits binary32 (up_to eight x) (cond (lt x little) x (wave_of 0 (size_of x / 2))) nan (cond-fits binary32 (lt x little) x (wave_of 0 (size_of x / 2)) h (wave_fits 0 (size_of x / 2))) (nan-fits binary32)

pub cos_fits : (x : Float) → T (fits binary32 (cos_of x))
unfolding cos_of
cos_fits x = cond-fits binary32 (up_to eight x) (wave_of 1 (size_of x / 2)) nan (wave_fits 1 (size_of x / 2)) (nan-fits binary32)

pub sin_in : (x : Float) → In binary32 nought eight x → In binary32 least most (sin_of x)
unfolding fits
sin_in x i = in_of binary32 least most (sin_of x) tt (sin_fits x i.ok.0) (sin_least x i.from i.upto) (sin_most x i.from i.upto)

pub cos_in : (x : Float) → In binary32 nought eight x → In binary32 least most (cos_of x)
unfolding fits
cos_in x i = in_of binary32 least most (cos_of x) tt (cos_fits x) (cos_least x i.from i.upto) (cos_most x i.from i.upto)

-- ---- sin up to 3.1
-- the `f32` nearest 3.1
abbrev pub three_one : Float
three_one = fin false 6501171 (negsuc 20)

not_minus : (q : ℕ) (v : Float) → Relative 16777216 q (2 ^ 63) v → T (le nought v)
not_minus q nan w = absurd w
not_minus q (inf s) w = absurd w
not_minus q (fin true m e) w = absurd (true≢false w.0)
not_minus q (fin false m e) w = le_make false 0 (pos 0) false m e (omega arith)

upper_half : (x : ℕ) → x < 6746518852 → T (le nought (wave_of 0 x))
unfolding wave_of
upper_half x h =
    let k = x / quarter31 + 0 in
    let z = folded k quarter31 (x % quarter31) in
    let l : z ≤ quarter31 = folded_le k quarter31 (x % quarter31) (le_of_lt (mod-lt x (lit< tt))) in
    let e : lower k ≡ false = is_false (lower k) (lt→nleb 2 (k % 4) (omega arith)) in
    subst (λ (s : Bool). T (le nought (signed s (pack_of (sine_fix z) 63)))) (sym e) (not_minus (sine_fix z) (pack_of (sine_fix z) 63) (packed (sine_fix z) 63 (fix_small z l) (fix_pos z) (lit≤ tt)))

below_eight : (s : Bool) (m : ℕ) (e : ℤ) → m * up e ≤ 8 * down e → T (le (fin s m e) eight)
below_eight false m e h = le_make false m e false 1 (pos 3) (omega arith)
below_eight true m e h = le_make true m e false 1 (pos 3) tt

-- x up to 3.1 is below 8, and less than half a turn
record Half (x : Float) : Type 0 where
  wide : T (up_to eight x)
  short : size_of x / 2 < 6746518852

half : (x : Float) → T (up_to three_one x) → Half x
unfolding le lt eq size_of
half nan t = absurd t
half (inf true) t = absurd t
half (inf false) t = absurd t
half (fin s m e) t =
    let h = up_to_lem s m e three_one tt t in
    let i = half_size (m * up e) (down e) (down_pos e) in
    record {
      wide = and_i (le nought (fin s m e)) (le (fin s m e) eight) (and_l (le nought (fin s m e)) (le (fin s m e) three_one) t) (below_eight s m e (omega arith));
      short = lt_of_le_of_lt (le_of_mul-le-mul_right {k = down e} (le_trans i.0 (omega (arith, h))) (down_pos e)) (lit< {m = 6657199104} tt);
    }

pub sin_not_minus : (x : Float) → T (le nought x) → T (le x three_one) → T (le nought (sin_of x))
unfolding sin_of
sin_not_minus x l h = let i = half x (range three_one x l h) in rw (is_true (up_to eight x) i.wide) (go i.short (lt x little))
  where
    go : size_of x / 2 < 6746518852 → (b : Bool) → T (le nought (cond b x (wave_of 0 (size_of x / 2))))
    go i true = l
    go i false = upper_half (size_of x / 2) i

-- ---- tan
abbrev pub fifty : Float
fifty = fin false 25 (pos 1)

-- of a number above 0
record Small (v : Float) : Type 0 where
  above : T (le nought v)
  below : T (le v fifty)

fifty_times : (R t n c D : ℕ) → 0 < c → 2 * n ≤ 3 * D → D ≤ 33 * c → 65536 * R * c ≤ 65537 * n * t → R ≤ 50 * t
fifty_times R t n c D cp h k l = le_of_mul-le-mul_right {k = c} (omega (arith, mul-le-mul_right t h, mul-le-mul_right t k)) cp

relative_small : (n c D : ℕ) (v : Float) → 0 < c → 2 * n ≤ 3 * D → D ≤ 33 * c → Relative 65536 n c v → Small v
relative_small n c D nan cp h k w = absurd w
relative_small n c D (inf s) cp h k w = absurd w
relative_small n c D (fin true m e) cp h k w = absurd (true≢false w.0)
relative_small n c D (fin false m e) cp h k w =
    record {
      above = le_make false 0 (pos 0) false m e (omega arith);
      below = le_make false m e false 25 (pos 1) (omega (arith, fifty_times (m * up e) (down e) n c D cp h k w.2));
    }

below_fifty : (s : Bool) (e : ℤ) → T (le (fin s zero e) fifty)
below_fifty false e = le_make false 0 e false 25 (pos 1) (omega arith)
below_fifty true e = le_make true 0 e false 25 (pos 1) tt

tan_small : (x : Float) → T (fits binary32 x) → T (up_to one_five x) → Small (tan_of x)
unfolding le lt eq
tan_small nan h t = absurd t
tan_small (inf true) h t = absurd t
tan_small (inf false) h t = absurd t
tan_small (fin s zero e) h t =
    subst Small (sym (tan_near (fin s zero e) h))
    (record { above = and_l (le nought (fin s zero e)) (le (fin s zero e) one_five) t; below = below_fifty s e })
tan_small (fin s (suc m) e) h t =
    let a = suc m * up e in
    let c = down e in
    let i = half_size a c (down_pos e) in
    let u : 2 * a ≤ 3 * c = omega (arith, up_to_lem s (suc m) e one_five tt t) in
    let sp = sine_part a c (a * 4294967296 / c / 2) (down_pos e) u i.0 i.1 in
    let cp = cosine_part a c (a * 4294967296 / c / 2) (down_pos e) u i.0 i.1 in
    relative_small (sine_num 0 a c) (sine_num 1 a c) (sine_den c) (tan_of (fin s (suc m) e)) (omega (arith, cp, below_den c (down_pos e))) sp cp ((tan_near (fin s (suc m) e) h).0 t)
  where
    below_den : (c : ℕ) → 0 < c → 0 < sine_den c
    below_den c h = mul-pos {m = unit c} (omega arith) (den_pos (unit c) (omega arith))

pub tan_not_minus : (x : Float) → T (fits binary32 x) → T (le nought x) → T (le x one_five) → T (le nought (tan_of x))
tan_not_minus x f l h = (tan_small x f (range one_five x l h)).above

pub tan_most : (x : Float) → T (fits binary32 x) → T (le nought x) → T (le x one_five) → T (le (tan_of x) fifty)
tan_most x f l h = (tan_small x f (range one_five x l h)).below

pub tan_fits : (x : Float) → T (fits binary32 x) → T (fits binary32 (tan_of x))
unfolding tan_of pack_of
tan_fits x h = cond-fits binary32 (up_to one_five x) _ nan (cond-fits binary32 (lt x tiny) x _ h (of_bits-fits binary32 _)) (nan-fits binary32)

pub tan_in : (x : Float) → In binary32 nought one_five x → In binary32 nought fifty (tan_of x)
unfolding fits
tan_in x i = in_of binary32 nought fifty (tan_of x) tt (tan_fits x i.ok.0) (tan_not_minus x i.ok.0 i.from i.upto) (tan_most x i.ok.0 i.from i.upto)
