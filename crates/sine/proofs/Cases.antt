-- sin and cos of every `f32`: the ranges, and the distances. The cosine is the sine a quarter turn on, j = 1, so `sin_method`, `sin_reduction` and `sin_rounding` serve both. Assumes nothing.
use mathlib.Core.Path.{◌≡◌, refl, sym, ap, ◌∙◌, subst}
use mathlib.Core.Bool.{Bool, true, false, not, cond, ◌&&◌}
use Prim.Native.Nat.{ℕ, ◌+◌, ◌*◌, ◌/◌, ◌≤◌, ◌<◌}
use native.Mathlib.Nat.{le_of_lt, zero-mul, div-mul-le_self, lt-div-mul-add, mul-le-mul_right}
use native.Mathlib.Omega.{arith}
use lib.IntN.{ℤ, pos, negsuc}
use lib.Dec.{T, lt→ltb, T_not, not_T}
use lib.Ieee.{Float, nan, inf, fin, up, down, lt, le, eq, is_nan}
use lib.Ieee.Bits.{is_true, is_false}
use lib.Ieee.Fits.{and_i, and_l, and_r, down_pos}
use lib.Ieee.Positive.{positive, num, den}
use Rattle.series.specs.Near.{Absolute, Apart}
use Rattle.fixed.specs.Fixed.{size_of, small}
use Rattle.fixed.proofs.Order.{le_says, le_make, lt_says, not_lt, le_not_lt, le_left, other_off}
use Rattle.sine.specs.Exact.{turns, lower, sine_num, sine_den}
use Rattle.sine.specs.Sine.{eight, little, up_to, wave_of, sin_of, cos_of, Sine}
use Rattle.sine.proofs.Rounding.{wave_near}
use Rattle.sine.proofs.Small.{no_turns, sine_own}

-- ---- what the tests tell
-- a number from 0 on with a minus sign is 0
pub minus_zero : (m : ℕ) (e : ℤ) (b : Float) → T (up_to b (fin true m e)) → m * up e ≡ 0
minus_zero m e b t = omega (arith, le_says false 0 (pos 0) true m e (and_l (le (fin false 0 (pos 0)) (fin true m e)) (le (fin true m e) b) t))

-- a number from 0 to b, one below b, and one that is not
pub up_to_lem : (s : Bool) (m : ℕ) (e : ℤ) (b : Float) → T (positive b) → T (up_to b (fin s m e)) → m * up e * den b ≤ num b * down e
up_to_lem s m e nan p t = absurd p
up_to_lem s m e (inf r) p t = absurd p
up_to_lem s m e (fin true n d) p t = absurd p
up_to_lem true m e (fin false n d) p t = rw (minus_zero m e (fin false n d) t) (omega arith)
up_to_lem false m e (fin false n d) p t = le_says false m e false n d (and_r (le (fin false 0 (pos 0)) (fin false m e)) (le (fin false m e) (fin false n d)) t)

pub under : (s : Bool) (m : ℕ) (e : ℤ) (b r : Float) → T (positive b) → T (up_to r (fin s m e)) → T (lt (fin s m e) b) → m * up e * den b ≤ num b * down e
under s m e nan r p t l = absurd p
under s m e (inf u) r p t l = absurd p
under s m e (fin true n d) r p t l = absurd p
under true m e (fin false n d) r p t l = rw (minus_zero m e r t) (omega arith)
under false m e (fin false n d) r p t l = le_of_lt (lt_says false m e false n d l)

pub not_under : (s : Bool) (m : ℕ) (e : ℤ) (b : Float) → T (positive b) → T (not (lt (fin s m e) b)) → num b * down e ≤ m * up e * den b
unfolding is_nan
not_under s m e nan p n = absurd p
not_under s m e (inf u) p n = absurd p
not_under s m e (fin true k d) p n = absurd p
not_under true m e (fin false k d) p n = omega (arith, le_says false k d true m e (not_lt (fin true m e) (fin false k d) tt tt n))
not_under false m e (fin false k d) p n = le_says false k d false m e (not_lt (fin false m e) (fin false k d) tt tt n)

-- ---- the argument in Q31
pub half_size : (a c : ℕ) → 0 < c → (a * 4294967296 / c / 2 * c ≤ a * 2147483648) × (a * 2147483648 < a * 4294967296 / c / 2 * c + c)
half_size a c cp =
    let q = a * 4294967296 / c in
    let l = div-mul-le_self (a * 4294967296) c in
    let h = lt-div-mul-add {a = a * 4294967296} cp in
    let x = mul-le-mul_right c (halves_low q) in
    let y = mul-le-mul_right c (halves_high q) in
    (omega arith, omega arith)
  where
    halves_low : (q : ℕ) → 2 * (q / 2) ≤ q
    halves_low q = omega arith

    halves_high : (q : ℕ) → q ≤ 2 * (q / 2) + 1
    halves_high q = omega arith

wave_at_lem : (j : ℕ) (s : Bool) (m : ℕ) (e : ℤ) → T (up_to eight (fin s m e)) → Absolute 1048576 (lower (turns (m * up e) (down e) + j)) (sine_num j (m * up e) (down e)) (sine_den (down e)) (wave_of j (size_of (fin s m e) / 2))
unfolding size_of
wave_at_lem j s m e t = let h = half_size (m * up e) (down e) (down_pos e) in wave_near (m * up e) (down e) (m * up e * 4294967296 / down e / 2) j (down_pos e) h.0 h.1 (omega (arith, up_to_lem s m e eight tt t))

-- ---- cos
pub cos_near : (x : Float) → Sine 1 x (cos_of x)
unfolding cos_of le lt eq
cos_near nan = refl
cos_near (inf true) = refl
cos_near (inf false) = refl
cos_near (fin s m e) = ((λ t. rw (is_true (up_to eight (fin s m e)) t) (wave_at_lem 1 s m e t)), (λ n. rw (is_false (up_to eight (fin s m e)) n)))

-- ---- sin
own_absolute : (s : Bool) (m : ℕ) (e : ℤ) → T (up_to eight (fin s m e)) → T (lt (fin s m e) little) → Absolute 1048576 (lower (turns (m * up e) (down e) + 0)) (sine_num 0 (m * up e) (down e)) (sine_den (down e)) (fin s m e)
own_absolute s m e t l =
    let a = m * up e in
    let c = down e in
    let h : 1024 * a ≤ c = omega (arith, under s m e little eight tt t l) in
    let o = sine_own a c (down_pos e) h in
    subst (λ (b : Bool). Absolute 1048576 b (sine_num 0 a c) (sine_den c) (fin s m e)) (sym (ap (λ (k : ℕ). lower (k + 0)) (no_turns a c (omega (arith, down_pos e))))) (go s t o.0 o.1)
  where
    go : (s : Bool) → T (up_to eight (fin s m e)) → 1048576 * (m * up e * sine_den (down e)) ≤ 1048576 * (sine_num 0 (m * up e) (down e) * down e) + sine_den (down e) * down e → sine_num 0 (m * up e) (down e) * down e ≤ m * up e * sine_den (down e)
        → Apart 1048576 s false (m * up e * sine_den (down e)) (sine_num 0 (m * up e) (down e) * down e) (sine_den (down e) * down e)
    go false t p q = (p, omega arith)
    go true t p q = none (m * up e) (sine_den (down e)) (sine_num 0 (m * up e) (down e) * down e) (sine_den (down e) * down e) (minus_zero m e eight t) q
      where
        none : (a x y z : ℕ) → a ≡ 0 → y ≤ a * x → 1048576 * (a * x + y) ≤ z
        none a x y z e h = let k : a * x ≡ 0 = ap (λ (w : ℕ). w * x) e ∙ zero-mul x in omega arith

pub sin_near : (x : Float) → Sine 0 x (sin_of x)
unfolding sin_of le lt eq
sin_near nan = refl
sin_near (inf true) = refl
sin_near (inf false) = refl
sin_near (fin s m e) = ((λ t. rw (is_true (up_to eight (fin s m e)) t) (go t (lt (fin s m e) little) (λ l. l))), (λ n. rw (is_false (up_to eight (fin s m e)) n)))
  where
    go : T (up_to eight (fin s m e)) → (b : Bool) → (T b → T (lt (fin s m e) little)) → Absolute 1048576 (lower (turns (m * up e) (down e) + 0)) (sine_num 0 (m * up e) (down e)) (sine_den (down e)) (cond b (fin s m e) (wave_of 0 (size_of (fin s m e) / 2)))
    go t true l = own_absolute s m e t (l tt)
    go t false l = wave_at_lem 0 s m e t

-- ---- what the functions ask
pub up_small : (x : Float) → T (up_to eight x) → T (small x)
unfolding le lt eq small
up_small nan t = t
up_small (inf true) t = t
up_small (inf false) t = t
up_small (fin s m e) t = lt→ltb (m * up e) (128 * down e) (omega (arith, up_to_lem s m e eight tt t, down_pos e))

-- ---- where the sine is its argument, is computed, and is no number
from_little : (x : Float) → T (le little x) → T (le (fin false 0 (pos 0)) x)
unfolding le lt eq
from_little nan h = h
from_little (inf true) h = h
from_little (inf false) h = tt
from_little (fin false m e) h = le_make false 0 (pos 0) false m e (omega arith)
from_little (fin true m e) h = absurd (none (le_says false 1 (negsuc 9) true m e h).0)
  where
    none : 1 * 1 * down e ≡ 0 → ⊥
    none z = omega (arith, down_pos e)

to_eight : (x : Float) → T (lt x little) → T (le x eight)
unfolding le lt eq
to_eight nan h = h
to_eight (inf true) h = tt
to_eight (inf false) h = h
to_eight (fin true m e) h = le_make true m e false 1 (pos 3) tt
to_eight (fin false m e) h = le_make false m e false 1 (pos 3) (omega (arith, lt_says false m e false 1 (negsuc 9) h))

module _ (x : Float) where
  pub from_says : T (le little x && le x eight) → T (up_to eight x) × T (not (lt x little))
  from_says t =
      let l = and_l (le little x) (le x eight) t in
      (and_i (le (fin false 0 (pos 0)) x) (le x eight) (from_little x l) (and_r (le little x) (le x eight) t), le_not_lt little x l)

  pub below_says : T (le (fin false 0 (pos 0)) x && lt x little) → T (up_to eight x) × T (lt x little)
  below_says t =
      let l = and_r (le (fin false 0 (pos 0)) x) (lt x little) t in
      (and_i (le (fin false 0 (pos 0)) x) (le x eight) (and_l (le (fin false 0 (pos 0)) x) (lt x little) t) (to_eight x l), l)

  pub none_says : T (not (le little x && le x eight)) → T (not (le (fin false 0 (pos 0)) x && lt x little)) → T (not (up_to eight x))
  none_says n b = not_T (up_to eight x) no
    where
      no : T (up_to eight x) → ⊥
      no t =
          let z = and_l (le (fin false 0 (pos 0)) x) (le x eight) t in
          let w = and_r (le (fin false 0 (pos 0)) x) (le x eight) t in
          let l = not_lt x little (le_left x eight w) (unfold is_nan in tt) (other_off (le (fin false 0 (pos 0)) x) (lt x little) b z) in
          T_not (le x eight) (other_off (le little x) (le x eight) n l) w
