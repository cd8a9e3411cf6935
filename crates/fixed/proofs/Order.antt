-- What `le` and `lt` say of two finite floats, by the cross products of their sizes; and that of two numbers one is at most the other. Assumes nothing.
use mathlib.Core.Path.{◌≡◌, refl, sym, ◌∙◌, subst}
use mathlib.Core.Logic.{◌⊎◌, inl, inr}
use mathlib.Core.Bool.{Bool, true, false, not, ◌&&◌, ◌||◌, beq, true≢false}
use Prim.Native.Nat.{ℕ, zero, suc, ◌+◌, ◌*◌, ◌≤◌, ◌<◌}
use native.Mathlib.Nat.{le_of_lt, le_of_eq, eq-or-lt_of_le}
use native.Mathlib.Omega.{arith}
use lib.IntN.{ℤ, pos}
use lib.Dec.{T, ltb, eqb, ltb→lt, nltb→le, eqb→eq, eqb_refl, lt→ltb, T_not, not_T}
use lib.Ieee.{Float, nan, inf, fin, up, down, lt, le, eq, ne, neg, is_nan, below, level}
use lib.Ieee.Fits.{and_i, and_l, and_r}
use lib.Ieee.Bits.{is_true}
use lib.Ieee.Compare.{nan_differs}

-- a test's outcome
pub on : {b : Bool} → b ≡ true → T b
on e = subst T (sym e) tt

pub off : {b : Bool} → b ≡ false → T (not b)
off e = subst (λ (z : Bool). T (not z)) (sym e) tt

-- where two do not hold together and the first does
pub other_off : (a b : Bool) → T (not (a && b)) → T a → T (not b)
other_off true b h k = h
other_off false b h k = absurd k

-- ± x ≤ ± y; true is the minus sign
abbrev pub Under : Bool → ℕ → Bool → ℕ → Type 0
Under false x false y = x ≤ y
Under true x true y = y ≤ x
Under false x true y = (x ≡ 0) × (y ≡ 0)
Under true x false y = T true

-- ± x < ± y
abbrev pub Less : Bool → ℕ → Bool → ℕ → Type 0
Less false x false y = x < y
Less true x true y = y < x
Less false x true y = ⊥
Less true x false y = 0 < x + y

or_cases : (a b : Bool) → T (a || b) → T a ⊎ T b
or_cases true b t = inl tt
or_cases false b t = inr t

or_l : (a b : Bool) → T a → T (a || b)
or_l true b t = tt
or_l false b t = absurd t

or_r : (a b : Bool) → T b → T (a || b)
or_r true b t = tt
or_r false b t = t

le_under : (s : Bool) (x : ℕ) (t : Bool) (y : ℕ) → T (below s x t y || level s x t y) → Under s x t y
le_under s x t y h = go (or_cases (below s x t y) (level s x t y) h)
  where
    same : T (level s x t y) → x ≡ y
    same l = eqb→eq x y (and_l (eqb x y) (beq s t || eqb x 0) l)

    go : T (below s x t y) ⊎ T (level s x t y) → Under s x t y
    go = pick s t same (λ l. and_r (eqb x y) (beq s t || eqb x 0) l)
      where
        pick : (s t : Bool) → (T (level s x t y) → x ≡ y) → (T (level s x t y) → T (beq s t || eqb x 0)) → T (below s x t y) ⊎ T (level s x t y) → Under s x t y
        pick false false e z (inl b) = le_of_lt (ltb→lt x y b)
        pick false false e z (inr l) = le_of_eq (e l)
        pick true true e z (inl b) = le_of_lt (ltb→lt y x b)
        pick true true e z (inr l) = le_of_eq (sym (e l))
        pick false true e z (inl b) = absurd b
        pick false true e z (inr l) = let o = eqb→eq x 0 (z l) in (o, sym (e l) ∙ o)
        pick true false e z k = tt

under_le : (s : Bool) (x : ℕ) (t : Bool) (y : ℕ) → Under s x t y → T (below s x t y || level s x t y)
under_le false x false y h = go (eq-or-lt_of_le h)
  where
    go : (x ≡ y) ⊎ (x < y) → T (ltb x y || (eqb x y && true))
    go (inl e) = or_r (ltb x y) (eqb x y && true) (subst (λ (z : ℕ). T (eqb x z && true)) e (and_i (eqb x x) true (eqb_refl x) tt))
    go (inr l) = or_l (ltb x y) (eqb x y && true) (lt→ltb x y l)
under_le true x true y h = go (eq-or-lt_of_le h)
  where
    go : (y ≡ x) ⊎ (y < x) → T (ltb y x || (eqb x y && true))
    go (inl e) = or_r (ltb y x) (eqb x y && true) (subst (λ (z : ℕ). T (eqb x z && true)) (sym e) (and_i (eqb x x) true (eqb_refl x) tt))
    go (inr l) = or_l (ltb y x) (eqb x y && true) (lt→ltb y x l)
under_le false x true y h = rw (h.0, h.1) tt
under_le true zero false zero h = tt
under_le true zero false (suc y) h = or_l (ltb 0 (0 + suc y)) (eqb 0 (suc y) && true) (lt→ltb 0 (0 + suc y) (omega arith))
under_le true (suc x) false y h = or_l (ltb 0 (suc x + y)) (eqb (suc x) y && eqb (suc x) 0) (lt→ltb 0 (suc x + y) (omega arith))

pub le_says : (s : Bool) (m : ℕ) (e : ℤ) (t : Bool) (n : ℕ) (d : ℤ) → T (le (fin s m e) (fin t n d)) → Under s (m * up e * down d) t (n * up d * down e)
unfolding le lt eq
le_says s m e t n d h = le_under s (m * up e * down d) t (n * up d * down e) h

pub le_make : (s : Bool) (m : ℕ) (e : ℤ) (t : Bool) (n : ℕ) (d : ℤ) → Under s (m * up e * down d) t (n * up d * down e) → T (le (fin s m e) (fin t n d))
unfolding le lt eq
le_make s m e t n d h = under_le s (m * up e * down d) t (n * up d * down e) h

less : (s : Bool) (x : ℕ) (t : Bool) (y : ℕ) → T (below s x t y) → Less s x t y
less false x false y h = ltb→lt x y h
less true x true y h = ltb→lt y x h
less false x true y h = h
less true x false y h = ltb→lt 0 (x + y) h

pub lt_says : (s : Bool) (m : ℕ) (e : ℤ) (t : Bool) (n : ℕ) (d : ℤ) → T (lt (fin s m e) (fin t n d)) → Less s (m * up e * down d) t (n * up d * down e)
unfolding lt
lt_says s m e t n d h = less s (m * up e * down d) t (n * up d * down e) h

-- of two numbers that do not stand in the one order
not_below : (s : Bool) (x : ℕ) (t : Bool) (y : ℕ) → T (not (below s x t y)) → Under t y s x
not_below false x false y h = nltb→le x y h
not_below true x true y h = nltb→le y x h
not_below false x true y h = tt
not_below true x false y h = let z = nltb→le 0 (x + y) h in (omega arith, omega arith)

pub not_lt : (x y : Float) → T (not (is_nan x)) → T (not (is_nan y)) → T (not (lt x y)) → T (le y x)
unfolding is_nan le lt eq
not_lt nan y p q h = absurd p
not_lt (inf s) nan p q h = absurd q
not_lt (fin s m e) nan p q h = absurd q
not_lt (inf true) (inf true) p q h = tt
not_lt (inf true) (inf false) p q h = absurd h
not_lt (inf false) (inf true) p q h = tt
not_lt (inf false) (inf false) p q h = tt
not_lt (inf true) (fin t n d) p q h = absurd h
not_lt (inf false) (fin t n d) p q h = tt
not_lt (fin s m e) (inf true) p q h = tt
not_lt (fin s m e) (inf false) p q h = absurd h
not_lt (fin s m e) (fin t n d) p q h = under_le t (n * up d * down e) s (m * up e * down d) (not_below s (m * up e * down d) t (n * up d * down e) h)

pub not_le : (x y : Float) → T (not (is_nan x)) → T (not (is_nan y)) → T (not (le x y)) → T (lt y x)
not_le x y p q h = go (lt y x) (not_lt y x q p)
  where
    go : (b : Bool) → (T (not b) → T (le x y)) → T b
    go true f = tt
    go false f = absurd (T_not (le x y) h (f tt))

pub lt_le : (x y : Float) → T (lt x y) → T (le x y)
unfolding le
lt_le x y h = or_l (lt x y) (eq x y) h

-- the two orders exclude each other
never : (s : Bool) (x : ℕ) (t : Bool) (y : ℕ) → Under s x t y → Less t y s x → ⊥
never false x false y h k = omega arith
never true x true y h k = omega arith
never false x true y h k = omega arith
never true x false y h k = k

apart : (x y : Float) → T (le x y) → T (lt y x) → ⊥
unfolding le lt eq
apart nan y h k = h
apart (inf s) nan h k = h
apart (fin s m e) nan h k = h
apart (inf true) (inf true) h k = k
apart (inf true) (inf false) h k = k
apart (inf false) (inf true) h k = h
apart (inf false) (inf false) h k = k
apart (inf true) (fin t n d) h k = k
apart (inf false) (fin t n d) h k = h
apart (fin s m e) (inf true) h k = h
apart (fin s m e) (inf false) h k = k
apart (fin s m e) (fin t n d) h k = never s (m * up e * down d) t (n * up d * down e) (le_says s m e t n d h) (lt_says t n d s m e k)

pub le_not_lt : (x y : Float) → T (le x y) → T (not (lt y x))
le_not_lt x y h = not_T (lt y x) (λ k. apart x y h k)

pub lt_not_le : (x y : Float) → T (lt x y) → T (not (le y x))
lt_not_le x y h = not_T (le y x) (λ k. apart y x k h)

-- what `t != t` tells
pub a_number : (t : Float) → ne t t ≡ false → T (not (is_nan t))
unfolding is_nan
a_number nan e = true≢false (sym nan_differs ∙ e)
a_number (inf s) e = tt
a_number (fin s m e) k = tt

pub same_number : (t : Float) → T (not (is_nan t)) → ne t t ≡ false
unfolding is_nan ne eq
same_number nan h = absurd h
same_number (inf true) h = refl
same_number (inf false) h = refl
same_number (fin true m e) h = rw (is_true (eqb (m * up e * down e) (m * up e * down e)) (eqb_refl (m * up e * down e)))
same_number (fin false m e) h = rw (is_true (eqb (m * up e * down e) (m * up e * down e)) (eqb_refl (m * up e * down e)))

-- what is compared is a number
pub lt_left : (x y : Float) → T (lt x y) → T (not (is_nan x))
unfolding is_nan lt
lt_left nan y h = h
lt_left (inf s) y h = tt
lt_left (fin s m e) y h = tt

pub le_left : (x y : Float) → T (le x y) → T (not (is_nan x))
unfolding is_nan le lt eq
le_left nan y h = h
le_left (inf s) y h = tt
le_left (fin s m e) y h = tt

pub le_right : (x y : Float) → T (le x y) → T (not (is_nan y))
unfolding is_nan le lt eq
le_right nan y h = absurd h
le_right (inf s) nan h = h
le_right (inf s) (inf t) h = tt
le_right (inf s) (fin t n d) h = tt
le_right (fin s m e) nan h = h
le_right (fin s m e) (inf t) h = tt
le_right (fin s m e) (fin t n d) h = tt

-- what is below 0 is above 0 with the sign turned
pub neg_below : (x : Float) → T (lt x (fin false 0 (pos 0))) → T (le (fin false 0 (pos 0)) (neg x))
neg_below nan h = unfold lt in absurd h
neg_below (inf true) h = unfold neg lt le eq in tt
neg_below (inf false) h = unfold lt in absurd h
neg_below (fin true m e) h = unfold neg in le_make false 0 (pos 0) false m e (omega arith)
neg_below (fin false m e) h = absurd (none (lt_says false m e false 0 (pos 0) h))
  where
    none : m * up e * 1 < 0 * 1 * down e → ⊥
    none g = omega arith

-- what is no number is nan
pub is_no_number : (t : Float) → is_nan t ≡ true → t ≡ nan
unfolding is_nan
is_no_number nan e = refl
is_no_number (inf s) e = absurd (true≢false (sym e))
is_no_number (fin s m d) e = absurd (true≢false (sym e))
