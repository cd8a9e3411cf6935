-- Two floats have the same bits exactly where they are one value, which two comparisons find; and what is clamped is a float. Assumes nothing.
use mathlib.Core.Path.{◌≡◌, refl, sym, ap, subst, ◌∙◌}
use mathlib.Core.Bool.{Bool, true, false, not, ◌&&◌}
use lib.Dec.{T, eqb→eq}
use lib.Ieee.{Float, nan, inf, fin, binary32, fits, of_bits, to_bits, lt, eq, ne, is_nan}
use lib.Ieee.Bits.{of_bits-to_bits}
use lib.Ieee.Compare.{differs_from_itself}
use Rattle.std.proofs.lemmas.Float.{T_from_true}
use lib.Ieee.Fits.{eq→eqb, cond-fits}
use Rattle.float.specs.Floats.{clamp_of, same_bits}
use Rattle.float.proofs.Never.{no}

pub one_value : (a b : Float) → T (fits binary32 a) → T (fits binary32 b) → T (same_bits a b) → a ≡ b
unfolding same_bits
one_value a b f g t = sym (of_bits-to_bits binary32 a f) ∙ ap (of_bits binary32) (eqb→eq (to_bits binary32 a) (to_bits binary32 b) t) ∙ of_bits-to_bits binary32 b g

pub own_bits : (a b : Float) → a ≡ b → T (same_bits a b)
unfolding same_bits
own_bits a b e = eq→eqb (ap (to_bits binary32) e)

-- what equals a number is one
pub equals_number : (a b : Float) → eq a b ≡ true → T (not (is_nan b))
unfolding eq is_nan
equals_number nan b h = no h
equals_number (inf s) nan h = no h
equals_number (inf s) (inf t) h = tt
equals_number (inf s) (fin t n d) h = tt
equals_number (fin s m e) nan h = no h
equals_number (fin s m e) (inf t) h = tt
equals_number (fin s m e) (fin t n d) h = tt

-- where two do not compare as equal, they have the same bits only where neither is a number
pub unequal_bits : (a b : Float) → T (fits binary32 a) → T (fits binary32 b) → eq a b ≡ false → (ne a a && ne b b) ≡ same_bits a b
unfolding ne
unequal_bits a b f g h = by (same_bits a b) refl
  where
    against : (t : Bool) → T t → T (not t) → true ≡ false
    against true t n = absurd n
    against false t n = absurd t

    never : (p q : Bool) → ne a a ≡ p → ne b b ≡ q → T (not (same_bits a b)) → (p && q) ≡ false
    never false q d e n = refl
    never true false d e n = refl
    never true true d e n = against (same_bits a b) (own_bits a b (differs_from_itself a (T_from_true _ d) ∙ sym (differs_from_itself b (T_from_true _ e)))) n

    by : (t : Bool) → same_bits a b ≡ t → (ne a a && ne b b) ≡ t
    by true e =
        let one : a ≡ b = one_value a b f g (T_from_true _ e) in
        rw (subst (λ (x : Float). eq a x ≡ false) (sym one) h, subst (λ (x : Float). eq x b ≡ false) one h) refl
    by false e = never (ne a a) (ne b b) refl refl (subst (λ (t : Bool). T (not t)) (sym e) tt)

pub clamp_fits : (x lo hi : Float) → T (fits binary32 x) → T (fits binary32 lo) → T (fits binary32 hi) → T (fits binary32 (clamp_of x lo hi))
unfolding clamp_of
clamp_fits x lo hi f l h = cond-fits binary32 (lt x lo) lo _ l (cond-fits binary32 (lt hi x) hi x h f)
