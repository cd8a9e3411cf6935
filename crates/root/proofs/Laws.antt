-- What callers use: the root of a number from 0 to hi lies from 0 to b, where b² is at least hi. Otherwise b would be nearer. Assumes nothing.
use mathlib.Core.Path.{◌≡◌, sym, subst}
use mathlib.Core.Bool.{Bool, true, false, not, cond, ◌&&◌, true≢false}
use Prim.Native.Nat.{ℕ, zero, suc, ◌+◌, ◌*◌, ◌≤◌, ◌<◌}
use native.Mathlib.Nat.{le_of_mul-le-mul_right, mul-le-mul, mul-le-mul_right, mul-pos}
use native.Mathlib.Omega.{arith}
use lib.IntN.{ℤ, pos}
use lib.Dec.{T, leb, eqb, leb→le}
use lib.Ieee.{Float, nan, inf, fin, binary32, up, down, fits, le, lt, eq, is_nan, of_bits, to_bits}
use lib.Ieee.Bits.{of_bits-fits}
use lib.Ieee.Fits.{and_l, and_r, cond-fits, nan-fits, down_pos, up_pos}
use lib.Ieee.Positive.{positive, num, den}
use Rattle.line.proofs.Range.{In, ends, in_of}
use Rattle.series.proofs.Algebra.{ac}
use Rattle.fixed.proofs.Order.{le_says, lt_says, le_make, not_le}
use Rattle.root.specs.Root.{root_bits, sqrt_of, square, Correct}
use Rattle.root.proofs.Cases.{sqrt_near}

abbrev pub nought : Float
nought = fin false 0 (pos 0)

-- hi and b are above 0, b is a value of the format, and hi is at most b²
abbrev pub room : Float → Float → Bool
room hi b = positive hi && (positive b && (fits binary32 b && leb (num hi * (den b * den b)) (num b * num b * den hi)))

-- (u + v)² ≤ 4 v² for u above v
too_near : (u v : ℕ) → v < u → square (u + v) ≤ 4 * square v → ⊥
too_near u v l h = let m : 2 * v + 1 ≤ u + v = omega arith in omega (arith, mul-le-mul m m)

-- r = a / c is above b = B / g, and x = p / w at most hi = H / i
past : (a c B g p w H i : ℕ) → 0 < w → 0 < i → B * c < a * g → square (a * g + B * c) * w ≤ 4 * p * square (c * g) → p * i ≤ H * w → H * (g * g) ≤ B * B * i → ⊥
past a c B g p w H i wp ip l h k m =
    too_near (a * g) (B * c) l
    (le_of_mul-le-mul_right {k = w * i}
    (simp ac (omega (arith, simp ac at (mul-le-mul_right i h), simp ac at (mul-le-mul_right (4 * square (c * g)) k), simp ac at (mul-le-mul_right (4 * w * square c) m))))
    (mul-pos wp ip))

record Between (b v : Float) : Type 0 where
  above : T (le nought v)
  below : T (le v b)

-- the root of p / w, a number above 0 and at most H / i
root_between : (p w H : ℕ) (i : ℤ) (k : ℕ) (g : ℤ) (v : Float) → 0 < w → T (fits binary32 (fin false k g)) → p * down i ≤ H * w → H * (down g * down g) ≤ k * up g * (k * up g) * down i → Correct p w v → Between (fin false k g) v
unfolding is_nan
root_between p w H i k g nan wp f h m v = absurd v
root_between p w H i k g (inf s) wp f h m v = absurd v
root_between p w H i k g (fin true n d) wp f h m v = absurd (true≢false v.0)
root_between p w H i k g (fin false n d) wp f h m v = record { above = le_make false 0 (pos 0) false n d (omega arith); below = go (le (fin false n d) (fin false k g)) (λ t. t) }
  where
    none : T (lt (fin false k g) (fin false n d)) → ⊥
    none l = past (n * up d) (down d) (k * up g) (down g) p w H (down i) wp (down_pos i) (lt_says false k g false n d l) (v.2.under k g f (lt_says false k g false n d l)) h m

    go : (t : Bool) → (T (not t) → T (not (le (fin false n d) (fin false k g)))) → T t
    go true f = tt
    go false f = absurd (none (not_le (fin false n d) (fin false k g) tt tt (f tt)))

sized : (hi b x : Float) → T (positive hi) → T (positive b) → T (fits binary32 b) → T (leb (num hi * (den b * den b)) (num b * num b * den hi)) → T (fits binary32 x) → T (le nought x) → T (le x hi) → Between b (sqrt_of x)
unfolding le lt eq
sized nan b x hp bp f t fx l h = absurd hp
sized (inf s) b x hp bp f t fx l h = absurd hp
sized (fin true H i) b x hp bp f t fx l h = absurd hp
sized (fin false H i) nan x hp bp f t fx l h = absurd bp
sized (fin false H i) (inf s) x hp bp f t fx l h = absurd bp
sized (fin false H i) (fin true k g) x hp bp f t fx l h = absurd bp
sized (fin false H i) (fin false k g) nan hp bp f t fx l h = absurd l
sized (fin false H i) (fin false k g) (inf true) hp bp f t fx l h = absurd l
sized (fin false H i) (fin false k g) (inf false) hp bp f t fx l h = absurd h
sized (fin false H i) (fin false k g) (fin true zero e) hp bp f t fx l h = subst (Between (fin false k g)) (sym (sqrt_near (fin true zero e) fx)) (record { above = l; below = le_make true 0 e false k g tt })
sized (fin false H i) (fin false k g) (fin false zero e) hp bp f t fx l h = subst (Between (fin false k g)) (sym (sqrt_near (fin false zero e) fx)) (record { above = l; below = le_make false 0 e false k g (omega arith) })
sized (fin false H i) (fin false k g) (fin true (suc m) e) hp bp f t fx l h = absurd (none (le_says false 0 (pos 0) true (suc m) e l).1)
  where
    none : suc m * up e * 1 ≡ 0 → ⊥
    none z = omega (arith, mul-pos {m = suc m} (omega arith) (up_pos e))
sized (fin false H i) (fin false k g) (fin false (suc m) e) hp bp f t fx l h =
    root_between (suc m * up e) (down e) (H * up i) i k g (sqrt_of (fin false (suc m) e)) (down_pos e) f (le_says false (suc m) e false H i h)
    (leb→le (H * up i * (down g * down g)) (k * up g * (k * up g) * down i) t) (sqrt_near (fin false (suc m) e) fx)

between : (hi b x : Float) → T (room hi b) → T (fits binary32 x) → T (le nought x) → T (le x hi) → Between b (sqrt_of x)
between hi b x t f l h =
    let q : Bool = leb (num hi * (den b * den b)) (num b * num b * den hi) in
    let t₁ = and_r (positive hi) (positive b && (fits binary32 b && q)) t in
    let t₂ = and_r (positive b) (fits binary32 b && q) t₁ in
    sized hi b x (and_l (positive hi) (positive b && (fits binary32 b && q)) t) (and_l (positive b) (fits binary32 b && q) t₁) (and_l (fits binary32 b) q t₂) (and_r (fits binary32 b) q t₂) f l h

pub sqrt_not_minus : (hi b x : Float) → T (room hi b) → T (fits binary32 x) → T (le nought x) → T (le x hi) → T (le nought (sqrt_of x))
sqrt_not_minus hi b x t f l h = (between hi b x t f l h).above

pub sqrt_most : (hi b x : Float) → T (room hi b) → T (fits binary32 x) → T (le nought x) → T (le x hi) → T (le (sqrt_of x) b)
sqrt_most hi b x t f l h = (between hi b x t f l h).below

pub sqrt_fits : (x : Float) → T (fits binary32 x) → T (fits binary32 (sqrt_of x))
unfolding sqrt_of
sqrt_fits nan h = h
sqrt_fits (inf true) h = nan-fits binary32
sqrt_fits (inf false) h = h
sqrt_fits (fin s m e) h = cond-fits binary32 (eqb m 0) (fin s m e) (cond s nan (of_bits binary32 (root_bits (to_bits binary32 (fin s m e))))) h (cond-fits binary32 s nan (of_bits binary32 (root_bits (to_bits binary32 (fin s m e)))) (nan-fits binary32) (of_bits-fits binary32 (root_bits (to_bits binary32 (fin s m e)))))

-- at given ends `tt` proves the two tests
pub sqrt_in : (hi b x : Float) → T (room hi b) → T (ends binary32 nought b) → In binary32 nought hi x → In binary32 nought b (sqrt_of x)
sqrt_in hi b x t e i = in_of binary32 nought b (sqrt_of x) e (sqrt_fits x i.ok.0) (sqrt_not_minus hi b x t i.ok.0 i.from i.upto) (sqrt_most hi b x t i.ok.0 i.from i.upto)
