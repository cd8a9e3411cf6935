-- Finite values as places on a line of natural numbers, o for zero: the order is that of the places, and a sum stands where the exact sum does, rounded. Assumes nothing.
use mathlib.Core.Path.{◌≡◌, refl, sym, ap, ◌∙◌, subst}
use Prim.Native.Nat.{ℕ, ◌+◌, ◌-◌, ◌*◌, ◌^◌, ◌≤◌, ◌<◌}
use native.Mathlib.Nat.{le-add_left, zero-mul}
use native.Mathlib.Omega.{arith}
use mathlib.Core.Bool.{Bool, true, false, not, ◌||◌}
use lib.IntN.{pos}
use lib.Dec.{T, leb, leb→le}
use lib.Pow.{pow_mono}
use lib.Ieee.{unlike, Float, fin, Format, prec, low, round, neg, add, sub, mul, le, eq, fits, below}
use lib.Ieee.Fits.{round-fits}
use lib.Ieee.Scale.{overflow, finite}
use Rattle.line.proofs.Units.{Is, add_is, neg_is, lt_is, eq_is}
use Rattle.line.proofs.Places.{Pos, spot, spot_pos, le_pos, sum_pos}
use Rattle.line.proofs.Rounds.{Room, Rep, rep_zero, rnd, rnd_near, rnd_under, round_is_rnd, rnd_below, rnd_above, sign, Sized, fits_sized, rep_same, finite_between}
use Rattle.line.proofs.Exact.{mul_unit}

-- x is a value of the format f, at the place p
pub record At (f : Format) (o : ℕ) (x : Float) (p : ℕ) : Type 0 where
  pub s : Bool
  pub q : ℕ
  pub is : Is f x s q
  pub rep : Rep f q
  pub place : Pos o s q p

pub at_le : (f : Format) (o : ℕ) (x y : Float) (p p' : ℕ) → At f o x p → At f o y p' → le x y ≡ leb p p'
unfolding le
at_le f o x y p p' h k =
    ap (λ (z : Bool). z || eq x y) (lt_is f x y h.s h.q k.s k.q h.is k.is)
    ∙ ap (λ (z : Bool). below h.s h.q k.s k.q || z) (eq_is f x y h.s h.q k.s k.q h.is k.is)
    ∙ le_pos o h.s h.q k.s k.q p p' h.place k.place

pub at_zero : (f : Format) (o : ℕ) → At f o (fin false 0 (pos 0)) o
at_zero f o = record { s = false; q = 0; is = (refl, zero-mul (2 ^ low f)); rep = rep_zero f; place = omega arith }

-- ---- the negative, and times 1 or -1: the place turned about o, or kept
turned : (o : ℕ) (s : Bool) (q p p' : ℕ) → p + p' ≡ o + o → Pos o s q p → Pos o (not s) q p'
turned o false q p p' e h = omega arith
turned o true q p p' e h = omega arith

pub at_neg : (f : Format) (o : ℕ) (x : Float) (p p' : ℕ) → p + p' ≡ o + o → At f o x p → At f o (neg x) p'
at_neg f o x p p' e h = record { s = not h.s; q = h.q; is = neg_is f x h.s h.q h.is; rep = h.rep; place = turned o h.s h.q p p' e h.place }

at_unit : (f : Format) (o : ℕ) (x : Float) (p p' : ℕ) (w : Bool) (h : At f o x p) → Pos o (unlike h.s w) h.q p' → At f o (mul f x (fin w 1 (pos 0))) p'
at_unit f o x p p' w h k = record { s = unlike h.s w; q = h.q; is = mul_unit f x h.s w h.q h.is h.rep; rep = h.rep; place = k }

pub at_times_one : (f : Format) (o : ℕ) (x : Float) (p : ℕ) → At f o x p → At f o (mul f x (fin false 1 (pos 0))) p
at_times_one f o x p h = at_unit f o x p p false h (kept h.s h.q h.place)
  where
    kept : (s : Bool) (q : ℕ) → Pos o s q p → Pos o (unlike s false) q p
    kept false q h = h
    kept true q h = h

pub at_times_minus_one : (f : Format) (o : ℕ) (x : Float) (p p' : ℕ) → p + p' ≡ o + o → At f o x p → At f o (mul f x (fin true 1 (pos 0))) p'
at_times_minus_one f o x p p' e h = at_unit f o x p p' true h (back h.s h.q h.place)
  where
    back : (s : Bool) (q : ℕ) → Pos o s q p → Pos o (unlike s true) q p'
    back false q h = turned o false q p p' e h
    back true q h = turned o true q p p' e h

-- ---- from the place z of an exact result to the place z' of its rounding: no held value is crossed, and the error is half a unit in the last place at most
pub record Rounds (f : Format) (o z z' : ℕ) : Type 0 where
  pub under : (y : Float) (v : ℕ) → At f o y v → z ≤ v → z' ≤ v
  pub over : (y : Float) (v : ℕ) → At f o y v → v ≤ z → v ≤ z'
  pub near : (i : ℕ) → z < o + 2 ^ (prec f + i) → o < z + 2 ^ (prec f + i) → (2 * z' ≤ 2 * z + 2 ^ i) × (2 * z ≤ 2 * z' + 2 ^ i)

-- x stands where z does, rounded
pub record Rounded (f : Format) (o : ℕ) (x : Float) (z : ℕ) : Type 0 where
  pub to : ℕ
  pub at : At f o x to
  pub rounds : Rounds f o z to

under_pos : (f : Format) (o : ℕ) (u : Bool) (n z z' : ℕ) → rnd f n < overflow f → Pos o u n z → Pos o u (rnd f n) z' → (t : Bool) (q v : ℕ) → Pos o t q v → Rep f q → z ≤ v → z' ≤ v
under_pos f o false n z z' U a b false q v c r h = let k = rnd_below f n q U r (omega arith) in omega arith
under_pos f o false n z z' U a b true q v c r h = let k = rnd_below f n q U r (omega arith) in omega arith
under_pos f o true n z z' U a b true q v c r h = let k = rnd_above f n q U r (omega arith) in omega arith
under_pos f o true n z z' U a b false q v c r h = omega arith

over_pos : (f : Format) (o : ℕ) (u : Bool) (n z z' : ℕ) → rnd f n < overflow f → Pos o u n z → Pos o u (rnd f n) z' → (t : Bool) (q v : ℕ) → Pos o t q v → Rep f q → v ≤ z → v ≤ z'
over_pos f o true n z z' U a b true q v c r h = let k = rnd_below f n q U r (omega arith) in omega arith
over_pos f o true n z z' U a b false q v c r h = let k = rnd_below f n q U r (omega arith) in omega arith
over_pos f o false n z z' U a b false q v c r h = let k = rnd_above f n q U r (omega arith) in omega arith
over_pos f o false n z z' U a b true q v c r h = omega arith

size_under : (o : ℕ) (u : Bool) (n z b : ℕ) → Pos o u n z → z < o + b → o < z + b → n < b
size_under o false n z b h l g = omega arith
size_under o true n z b h l g = omega arith

near_pos : (o : ℕ) (u : Bool) (n r z z' b : ℕ) → Pos o u n z → Pos o u r z' → (2 * r ≤ 2 * n + b) × (2 * n ≤ 2 * r + b) → (2 * z' ≤ 2 * z + b) × (2 * z ≤ 2 * z' + b)
near_pos o false n r z z' b h k c = omega arith
near_pos o true n r z z' b h k c = omega arith

pub round_line : (f : Format) (o j : ℕ) → Room f j → 2 * 2 ^ (prec f + j) ≤ o → (u : Bool) (n z : ℕ) → Pos o u n z → n < 2 ^ (prec f + j) → Rounded f o (round f u n (2 ^ low f)) z
round_line f o j R B u n z h k =
    let U = rnd_under f n j R k in
    let i = round_is_rnd f u n j R k in
    let v = (rnd_near f n j k).0 in
    let to = spot o u (rnd f n) in
    let w = spot_pos o u (rnd f n) (fit (rnd f n) n (2 ^ j) (2 ^ (prec f + j)) o v k (pow_mono (le-add_left j (prec f))) B) in
    record {
      to = to;
      at = record { s = u; q = rnd f n; is = i; rep = rep_same f (round f u n (2 ^ low f)) u (rnd f n) (round-fits f u n (2 ^ low f)) i; place = w };
      rounds = record {
        under = λ y v a. under_pos f o u n z to U h w a.s a.q v a.place a.rep;
        over = λ y v a. over_pos f o u n z to U h w a.s a.q v a.place a.rep;
        near = λ i l g. near_pos o u n (rnd f n) z to (2 ^ i) h w (rnd_near f n i (size_under o u n z (2 ^ (prec f + i)) h l g));
      };
    }
  where
    fit : (r n u w o : ℕ) → 2 * r ≤ 2 * n + u → n < w → u ≤ w → 2 * w ≤ o → r ≤ o
    fit r n u w o a b c d = omega arith

-- ---- the sum, and the difference
pub at_add : (f : Format) (o j : ℕ) → Room f j → 2 * 2 ^ (prec f + j) ≤ o → (x y : Float) (p p' z : ℕ) → At f o x p → At f o y p' → z + o ≡ p + p'
    → z < o + 2 ^ (prec f + j) → o < z + 2 ^ (prec f + j) → Rounded f o (add f x y) z
at_add f o j R B x y p p' z h k e l g =
    let v = sum_pos f o (2 ^ low f) h.s h.q k.s k.q p p' z h.place k.place e in
    subst (λ (w : Float). Rounded f o w z) (sym (add_is f x y h.s h.q k.s k.q h.is k.is ∙ v.2))
    (round_line f o j R B v.0 v.1 z v.3 (size_under o v.0 v.1 z (2 ^ (prec f + j)) v.3 l g))

pub at_sub : (f : Format) (o j : ℕ) → Room f j → 2 * 2 ^ (prec f + j) ≤ o → (x y : Float) (p p' z : ℕ) → At f o x p → At f o y p' → p' ≤ o + o → z + p' ≡ p + o
    → z < o + 2 ^ (prec f + j) → o < z + 2 ^ (prec f + j) → Rounded f o (sub f x y) z
unfolding sub
at_sub f o j R B x y p p' z h k b e l g = at_add f o j R B x (neg y) p (o + o - p') z h (at_neg f o y p' (o + o - p') (omega arith) k) (omega arith) l g

-- ---- a value between two places
pub record Between (f : Format) (o : ℕ) (x : Float) (a b : ℕ) : Type 0 where
  pub at : ℕ
  pub is : At f o x at
  pub from : a ≤ at
  pub upto : at ≤ b

pub between : (f : Format) (o : ℕ) (lo x hi : Float) (a b : ℕ) → At f o lo a → At f o hi b → T (fits f x) → T (finite lo) → T (finite hi) → T (le lo x) → T (le x hi) → Between f o x a b
between f o lo x hi a b h k F L H t u = go (sign x) (fits_sized f x F (finite_between lo x hi L H t u))
  where
    fill : (p : ℕ) → At f o x p → Between f o x a b
    fill p i = record { at = p; is = i; from = leb→le a p (subst T (at_le f o lo x a p h i) t); upto = leb→le p b (subst T (at_le f o x hi p b i k) u) }

    shift : (d : ℕ) (t : Bool) (q p : ℕ) → Pos o t q p → Pos (o + d) t q (p + d)
    shift d false q p h = omega arith
    shift d true q p h = omega arith

    go : (s : Bool) → Sized f x s → Between f o x a b
    go false z = fill (o + z.size_of) (record { s = false; q = z.size_of; is = z.is; rep = z.rep; place = refl })
    go true z =
        let q = z.size_of in
        let lo' : At f (o + q) lo (a + q) = record { s = h.s; q = h.q; is = h.is; rep = h.rep; place = shift q h.s h.q a h.place } in
        let x' : At f (o + q) x o = record { s = true; q = q; is = z.is; rep = z.rep; place = refl } in
        let w : a + q ≤ o = leb→le (a + q) o (subst T (at_le f (o + q) lo x (a + q) o lo' x') t) in
        fill (o - q) (record { s = true; q = q; is = z.is; rep = z.rep; place = omega arith })
