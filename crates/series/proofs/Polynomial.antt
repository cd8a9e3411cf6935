-- The truncated exponential of p L / (c M) as a polynomial in p / c, whose coefficients are L ^ j / (M ^ j j!). Assumes nothing.
use mathlib.Core.Path.{◌≡◌, refl, sym, ap, ◌∙◌}
use Prim.Native.Nat.{ℕ, zero, suc, ◌+◌, ◌*◌, ◌^◌}
use mathlib.Core.List.{List, [], ◌∷◌}
use native.Mathlib.Nat.{zero-mul, pow-suc, pow-zero, add_assoc}
use native.Mathlib.Omega.{arith}
use lib.ListN.{length}
use Rattle.series.specs.Exponential.{exp_num}
use Rattle.series.proofs.Horner.{hom}
use Rattle.series.proofs.Algebra.{ac, mul_pow}

unfoldable pub scale : ℕ → List ℕ → List ℕ
scale k [] = []
scale k (a ∷ l) = (a * k) ∷ scale k l

unfoldable pub snoc : List ℕ → ℕ → List ℕ
snoc [] b = b ∷ []
snoc (a ∷ l) b = a ∷ snoc l b

length_scale : (k : ℕ) (l : List ℕ) → length (scale k l) ≡ length l
unfolding scale
length_scale k [] = refl
length_scale k (a ∷ l) = ap suc (length_scale k l)

length_snoc : (l : List ℕ) (b : ℕ) → length (snoc l b) ≡ suc (length l)
unfolding snoc
length_snoc [] b = refl
length_snoc (a ∷ l) b = ap suc (length_snoc l b)

scale_step : (k a E p H : ℕ) → a * k * E + p * (H * k) ≡ (a * E + p * H) * k
scale_step k a E p H = simp ac

hom_scale : (k p c : ℕ) (l : List ℕ) → hom (scale k l) p c ≡ hom l p c * k
unfolding hom scale
hom_scale k p c [] = sym (zero-mul k)
hom_scale k p c (a ∷ l) = rw (length_scale k l, hom_scale k p c l) (scale_step k a (c ^ length l) p (hom l p c))

snoc_step : (a b c p E F H : ℕ) → a * (E * c) + p * (H * c + F * b) ≡ (a * E + p * H) * c + F * p * b
snoc_step a b c p E F H = simp (ac, add_assoc)

snoc_base : (b p c : ℕ) → b * c ^ 0 + p * 0 ≡ 0 * c + p ^ 0 * b
snoc_base b p c = rw (pow-zero c, pow-zero p) (omega arith)

hom_snoc : (p c b : ℕ) (l : List ℕ) → hom (snoc l b) p c ≡ hom l p c * c + p ^ length l * b
unfolding hom snoc
hom_snoc p c b [] = snoc_base b p c
hom_snoc p c b (a ∷ l) = rw (length_snoc l b, hom_snoc p c b l, pow-suc c (length l), pow-suc p (length l)) (snoc_step a b c p (c ^ length l) (p ^ length l) (hom l p c))

-- the coefficients of (p / c) ^ j, over exp_den n M, where the argument is p * L / (c * M)
unfoldable pub cs : ℕ → ℕ → ℕ → List ℕ
cs L M zero = 1 ∷ []
cs L M (suc n) = snoc (scale (suc n * M) (cs L M n)) (L ^ suc n)

pub length_cs : (L M n : ℕ) → length (cs L M n) ≡ suc n
unfolding cs
length_cs L M zero = refl
length_cs L M (suc n) = length_snoc (scale (suc n * M) (cs L M n)) (L ^ suc n) ∙ ap suc (length_scale (suc n * M) (cs L M n) ∙ length_cs L M n)

cs_step : (h m M c A B C : ℕ) → C ≡ A * B → h * (m * M) * c + A * B ≡ h * (m * (c * M)) + C
cs_step h m M c A B C e = rw e (simp ac)

pub cs_is : (L M p c n : ℕ) → hom (cs L M n) p c ≡ exp_num n (p * L) (c * M)
unfolding cs exp_num hom
cs_is L M p c zero = rw pow-zero (omega arith)
cs_is L M p c (suc n) =
    rw (hom_snoc p c (L ^ suc n) (scale (suc n * M) (cs L M n)), length_scale (suc n * M) (cs L M n), length_cs L M n, hom_scale (suc n * M) p c (cs L M n), cs_is L M p c n)
    (cs_step (exp_num n (p * L) (c * M)) (suc n) M c (p ^ suc n) (L ^ suc n) ((p * L) ^ suc n) (mul_pow p L (suc n)))
