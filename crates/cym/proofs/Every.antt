-- A test of each element in turn is the library's test of all. Assumes nothing.
use Prim.Native.Nat.{ℕ, zero, suc}
use mathlib.Core.Path.{◌≡◌, refl, ap, ◌∙◌}
use mathlib.Core.Bool.{Bool, true, false, ◌&&◌}
use mathlib.Core.List.{List, [], ◌∷◌}
use lib.ListN.{get_or, length}
use Rattle.std.specs.List.{list_all}
use Rattle.lists.specs.Turns.{turns_of}

-- the first turn, and then the others
first_turn : {S : Type 0} (n : ℕ) (g : ℕ → S → S) (s : S) → turns_of (suc n) g s ≡ turns_of n (λ k. g (suc k)) (g 0 s)
unfolding turns_of
first_turn zero g s = refl
first_turn (suc n) g s = ap (g (suc n)) (first_turn n g s)

module _ {A : Type 0} (test : A → Bool) (z : A) where
  from : (l : List A) (b : Bool) → turns_of (length l) (λ k all. all && test (get_or l k z)) b ≡ b && list_all test l
  unfolding turns_of
  from [] true = refl
  from [] false = refl
  from (x ∷ l) true = first_turn (length l) (λ k all. all && test (get_or (x ∷ l) k z)) true ∙ from l (test x)
  from (x ∷ l) false = first_turn (length l) (λ k all. all && test (get_or (x ∷ l) k z)) false ∙ from l false

  pub each_is_all : (l : List A) → turns_of (length l) (λ k all. all && test (get_or l k z)) true ≡ list_all test l
  each_is_all l = from l true
