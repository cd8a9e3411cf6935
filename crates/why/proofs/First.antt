-- The reason that is given holds, and no earlier one does: each test in its turn, under those before it that failed. Assumes nothing.
use Prim.Native.Nat.{ℕ, suc, ◌<◌}
use native.Mathlib.Nat.{eq-or-lt_of_le, le_of_suc-le-suc, lt_irrefl}
use native.Mathlib.Omega.{arith}
use mathlib.Core.Path.{◌≡◌, refl, subst}
use mathlib.Core.Logic.{◌⊎◌, inl, inr}
use mathlib.Core.Bool.{Bool, true, false, not, cond}
use mathlib.Core.List.{[], ◌∷◌}
use lib.Dec.{T, eqb, eqb→eq}
use lib.ListN.{get_or}
use lib.Ieee.{le, eq}
use lib.Ieee.Fits.{eq→eqb}
use Rattle.float.specs.Consts.{k0}
use Rattle.why.specs.declared.Reason.{Reason}
use Rattle.why.specs.declared.Reason.TheVariants.{RoutedOff, AmpDown, VcaZero, FilteredZero, LostToRounding, Heard}
use Rattle.why.specs.declared.Share.{Share}
use Rattle.why.specs.Why.{number_of, reason_of}
use Rattle.why.specs.Told.{Says, FirstTrue}
use Rattle.why.proofs.Products.{both, Figures, number, zero_off, zero_amp, zero_vca, zero_filtered}

module _ (p : Share) (g : Figures p) where
  -- the test of each number
  abbrev test : ℕ → Bool
  test n = get_or (false ∷ p.off ∷ le p.level k0 ∷ eqb p.vca 0 ∷ eq p.filtered k0 ∷ eq p.adds k0 ∷ []) n true

  said : (q : Reason) → Says p q → T (test (number_of q))
  said RoutedOff h = h
  said (AmpDown x) h = h.1
  said VcaZero h = eq→eqb h
  said (FilteredZero x) h = h.1
  said LostToRounding h = h
  said (Heard x) h = tt

  abbrev None_below : ℕ → Type 0
  None_below n = (i : ℕ) → i < n → T (test i) → ⊥

  -- one test: its reason, or the later ones
  try : (n : ℕ) (b : Bool) (q r : Reason) → test n ≡ b → number_of q ≡ n → (T b → Says p q) → (T b → T (eq p.adds k0)) → None_below n → (None_below (suc n) → FirstTrue p r) → FirstTrue p (cond b q r)
  try n true q r e m says nothing none rest = record {
    holds = says tt;
    first = λ i k h. none (number_of i) (subst (λ (j : ℕ). number_of i < j) m k) (said i h);
    heard = λ o. both (eq p.adds k0) (nothing tt) o.1;
    unheard = λ k. nothing tt;
  }
  try n false q r e m says nothing none rest = rest (λ i k t. go i (eq-or-lt_of_le (le_of_suc-le-suc k)) t)
    where
      go : (i : ℕ) → (i ≡ n) ⊎ (i < n) → T (test i) → ⊥
      go i (inl d) t = subst T e (subst (λ (j : ℕ). T (test j)) d t)
      go i (inr l) t = none i l t

  none_first : None_below 1
  none_first i h t = subst (λ (j : ℕ). T (test j)) nought t
    where
      nought : i ≡ 0
      nought = omega (arith, h)

  last : None_below 6 → FirstTrue p (Heard p.adds)
  last none = record {
    holds = (refl, (number p g, by (eq p.adds k0) (none 5 (omega arith))));
    first = λ i k h. none (number_of i) k (said i h);
    heard = λ o. refl;
    unheard = λ k. absurd (lt_irrefl 6 k);
  }
    where
      by : (b : Bool) → (T b → ⊥) → T (not b)
      by true h = h tt
      by false h = tt

  pub first_true : FirstTrue p (reason_of p)
  unfolding reason_of
  first_true =
      try 1 p.off RoutedOff _ refl refl (λ t. t) (zero_off p g) none_first
      (λ n₁. try 2 (le p.level k0) (AmpDown p.level) _ refl refl (λ t. (refl, t)) (zero_amp p g) n₁
      (λ n₂. try 3 (eqb p.vca 0) VcaZero _ refl refl (eqb→eq p.vca 0) (λ t. zero_vca p g (eqb→eq p.vca 0 t)) n₂
      (λ n₃. try 4 (eq p.filtered k0) (FilteredZero p.cutoff) _ refl refl (λ t. (refl, t)) (zero_filtered p g) n₃
      (λ n₄. try 5 (eq p.adds k0) LostToRounding _ refl refl (λ t. t) (λ t. t) n₄ last))))
