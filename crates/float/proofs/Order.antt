-- min and max by the tests that the code makes: in order, or the second is not a number, and else out of order. Assumes nothing.
use Rattle.std.proofs.Common.{◌≡◌, Bool, true, false, not, cond, T, sym, refl, ◌∙◌, subst}
use Rattle.std.proofs.lemmas.Float.{T_from_true, T_from_false, le_left, le_right, lt_of_not-le}
use lib.Ieee.{Float, nan, inf, fin, lt, le, ne, is_nan}
use lib.Ieee.Compare.{differs_from_itself, nan_differs}
use Rattle.float.specs.Floats.{min_of, max_of}
use Rattle.float.proofs.Never.{no}
use Rattle.float.proofs.Zeros.{below_not}

-- ---- only what is not a number differs from itself
itself : (x : Float) → T (not (is_nan x)) → ne x x ≡ false
unfolding is_nan
itself x h = by (ne x x) refl
  where
    by : (b : Bool) → ne x x ≡ b → b ≡ false
    by true e = absurd (subst (λ (z : Float). T (not (is_nan z))) (differs_from_itself x (T_from_true _ e)) h)
    by false e = refl

number : (x : Float) → ne x x ≡ false → T (not (is_nan x))
unfolding is_nan
number nan h = no (sym h ∙ nan_differs)
number (inf s) h = tt
number (fin s m e) h = tt

-- two numbers that are not in order are out of it
turned : (a b : Float) → le a b ≡ false → ne a a ≡ false → ne b b ≡ false → lt b a ≡ true
turned a b h p q = by (lt b a) (lt_of_not-le a b (number a p) (number b q) (T_from_false _ h))
  where
    by : (c : Bool) → T c → c ≡ true
    by true t = refl
    by false t = absurd t

-- nothing lies below what is not a number
none_below : (a : Float) → lt a nan ≡ false
unfolding lt
none_below nan = refl
none_below (inf s) = refl
none_below (fin s m e) = refl

-- ---- what is kept of a and b, where t says that they are out of order
kept : (a b : Float) (t : Bool) → t ≡ false → ne a a ≡ false → a ≡ cond t b (cond (ne a a) b a)
kept a b t h k = rw (h, k) refl

alone : (a b : Float) (t : Bool) → t ≡ false → b ≡ nan → a ≡ cond t b (cond (ne a a) b a)
alone a b t h k = rw h (by (ne a a) refl)
  where
    by : (n : Bool) → ne a a ≡ n → a ≡ cond n b a
    by true e = differs_from_itself a (T_from_true _ e) ∙ sym k
    by false e = refl

other : (a b : Float) (t : Bool) → (ne a a ≡ false → t ≡ true) → b ≡ cond t b (cond (ne a a) b a)
other a b t h = by (ne a a) t h
  where
    by : (n t : Bool) → (n ≡ false → t ≡ true) → b ≡ cond t b (cond n b a)
    by n true h = refl
    by true false h = refl
    by false false h = no (h refl)

pub min_kept : (a b : Float) → le a b ≡ true → a ≡ min_of a b
unfolding min_of
min_kept a b h = kept a b (lt b a) (below_not a b (T_from_true _ h)) (itself a (le_left a b (T_from_true _ h)))

pub min_alone : (a b : Float) → ne b b ≡ true → a ≡ min_of a b
unfolding min_of
min_alone a b h = let k = differs_from_itself b (T_from_true _ h) in alone a b (lt b a) (rw k (unfold lt in refl)) k

pub min_other : (a b : Float) → le a b ≡ false → ne b b ≡ false → b ≡ min_of a b
unfolding min_of
min_other a b h k = other a b (lt b a) (λ e. turned a b h e k)

pub max_kept : (a b : Float) → le b a ≡ true → a ≡ max_of a b
unfolding max_of
max_kept a b h = kept a b (lt a b) (below_not b a (T_from_true _ h)) (itself a (le_right b a (T_from_true _ h)))

pub max_alone : (a b : Float) → ne b b ≡ true → a ≡ max_of a b
unfolding max_of
max_alone a b h = let k = differs_from_itself b (T_from_true _ h) in alone a b (lt a b) (rw k (none_below a)) k

pub max_other : (a b : Float) → le b a ≡ false → ne b b ≡ false → b ≡ max_of a b
unfolding max_of
max_other a b h k = other a b (lt a b) (λ e. turned b a h k e)
