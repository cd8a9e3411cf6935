-- Horner's rule in fixed point against the exact polynomial: one more term adds to the error what the coefficient, the argument and the product lose.
-- The coefficients are compared by one closed test, `fit`. Assumes nothing.
use Prim.Native.Nat.{ℕ, ◌+◌, ◌*◌, ◌/◌, ◌^◌, ◌≤◌, ◌<◌}
use mathlib.Core.List.{List, [], ◌∷◌}
use mathlib.Core.Bool.{Bool, false, ◌&&◌}
use native.Mathlib.Nat.{le_refl, le_trans, le_of_lt, zero-add, le-add_right, zero-mul, pow-suc, mul-le-mul, mul-le-mul_left, mul-le-mul_right, add-le-add, div-mul-le_self, le_of_mul-le-mul_right, lt-div-mul-add}
use native.Mathlib.Omega.{arith}
use lib.ListN.{length}
use lib.Dec.{T, leb, leb→le}
use lib.Ieee.Fits.{and_l, and_r}
use lib.Ieee.Nearest.{div_mono}
use Rattle.series.specs.Horner.{horner}
use Rattle.series.proofs.Algebra.{ac}

-- sum a_j (p / c) ^ j is hom as p c / c ^ (length as - 1)
unfoldable pub hom : List ℕ → ℕ → ℕ → ℕ
hom [] p c = 0
hom (a ∷ l) p c = a * c ^ length l + p * hom l p c

low_step : (P D E a b c p y r H : ℕ) → b * D ≤ P * a → r * c ≤ y * p → y * D * E ≤ P * H * c → (b + r) * D * (E * c) ≤ P * (a * E + p * H) * c
low_step P D E a b c p y r H h1 h2 h3 =
    simp ac (omega (arith, simp ac at (mul-le-mul_right (E * c) h1), simp ac at (mul-le-mul_right (D * E) h2), simp ac at (mul-le-mul_right p h3)))

-- a floor product is at most the exact one
cut_le : (P c p y k : ℕ) → 0 < P → k * c ≤ p * P → y * k / P * c ≤ y * p
cut_le P c p y k pos h =
    le_of_mul-le-mul_right {k = P} (omega (arith, simp ac at (mul-le-mul_right c (div-mul-le_self (y * k) P)), simp ac at (mul-le-mul_right y h), simp ac at (le_refl (y * k / P * c * P)))) pos

up_step : (P D E a b c p y e r f H : ℕ) → P * a ≤ (b + 1) * D → p * (y + e) ≤ (r + f) * c → P * H * c ≤ (y + e) * D * E → P * (a * E + p * H) * c ≤ (b + r + (f + 1)) * D * (E * c)
up_step P D E a b c p y e r f H h1 h2 h3 =
    simp ac (omega (arith, simp ac at (mul-le-mul_right (E * c) h1), simp ac at (mul-le-mul_right (D * E) h2), simp ac at (mul-le-mul_right p h3)))

-- what a floor product loses, with the cut of the argument
cut_ge : (P M c p y e k : ℕ) → 0 < P → p * P ≤ (k + 1) * c → k + 1 ≤ P → y ≤ M * P → p * (y + e) ≤ (y * k / P + (e + 1 + M)) * c
cut_ge P M c p y e k pos h hk hy =
    le_of_mul-le-mul_right {k = P} (simp ac (omega (arith, simp ac at (mul-le-mul_right (y + e) h), simp ac at (mul-le-mul_right c (le_of_lt (lt-div-mul-add {a = y * k} pos))), simp ac at (mul-le-mul_right c hy), simp ac at (mul-le-mul_right (c * e) hk)))) pos

unfoldable pub total : List ℕ → ℕ
total [] = 0
total (a ∷ l) = a + total l

-- the fixed coefficients bs are the exact ones, l / D, cut at the scale P, and those of l past the end of bs add up to at most e / P
abbrev pub fit : ℕ → ℕ → ℕ → ℕ → List ℕ → List ℕ → Bool
fit P D M e [] l = leb (P * total l) (e * D)
fit P D M e (b ∷ bs) [] = false
fit P D M e (b ∷ bs) (a ∷ l) = leb (b * D) (P * a) && (leb (P * a) ((b + 1) * D) && (leb (total bs) (M * P) && fit P D M e bs l))

unfoldable pub err : ℕ → ℕ → List ℕ → ℕ
err M e [] = e
err M e (b ∷ bs) = err M e bs + 1 + M + 1

pub fix_le : (P k : ℕ) → 0 < P → k ≤ P → (bs : List ℕ) → horner P bs k ≤ total bs
unfolding horner total
fix_le P k pos h [] = le_refl 0
fix_le P k pos h (b ∷ bs) =
    let y = horner P bs k in
    let s : y * k / P * P ≤ y * P = le_trans (div-mul-le_self (y * k) P) (mul-le-mul_left y h) in
    omega (arith, fix_le P k pos h bs, le_of_mul-le-mul_right s pos)

pub horner_mono : (P k l : ℕ) → 0 < P → k ≤ l → (bs : List ℕ) → horner P bs k ≤ horner P bs l
unfolding horner
horner_mono P k l pos h [] = le_refl 0
horner_mono P k l pos h (b ∷ bs) = add-le-add (le_refl b) (div_mono (horner P bs k * k) P (horner P bs l * l) P pos pos (mul-le-mul_right P (mul-le-mul (horner_mono P k l pos h bs) h)))

hom_step : (a E p c H S : ℕ) → p ≤ c → H * c ≤ S * E → (a * E + p * H) * c ≤ (a + S) * (E * c)
hom_step a E p c H S h ih = simp ac (omega (arith, simp ac at (mul-le-mul_left c ih), simp ac at (mul-le-mul_right (H * c) h)))

hom_le : (p c : ℕ) → p ≤ c → (l : List ℕ) → hom l p c * c ≤ total l * c ^ length l
unfolding hom total
hom_le p c h [] = omega arith
hom_le p c h (a ∷ l) = rw pow-suc (hom_step a (c ^ length l) p c (hom l p c) (total l) h (hom_le p c h l))

end_step : (P D E c e H S : ℕ) → P * S ≤ e * D → H * c ≤ S * E → P * H * c ≤ (0 + e) * D * E
end_step P D E c e H S h ih = simp zero-add (simp ac (omega (arith, simp ac at (mul-le-mul_left P ih), simp ac at (mul-le-mul_right E h))))

module _ (P D M e p c k : ℕ) (pos : 0 < P) (lo : k * c ≤ p * P) (hi : p * P ≤ (k + 1) * c) (kP : k + 1 ≤ P) (pc : p ≤ c) where
  pub horner_le : (bs l : List ℕ) → T (fit P D M e bs l) → horner P bs k * D * c ^ length l ≤ P * hom l p c * c
  unfolding horner hom
  horner_le [] l t = rw (zero-mul D, zero-mul (c ^ length l)) (omega arith)
  horner_le (b ∷ bs) [] t = absurd t
  horner_le (b ∷ bs) (a ∷ l) t =
      let t₁ = and_r (leb (b * D) (P * a)) (leb (P * a) ((b + 1) * D) && (leb (total bs) (M * P) && fit P D M e bs l)) t in
      let t₂ = and_r (leb (P * a) ((b + 1) * D)) (leb (total bs) (M * P) && fit P D M e bs l) t₁ in
      let t₃ = and_r (leb (total bs) (M * P)) (fit P D M e bs l) t₂ in
      let y = horner P bs k in
      rw pow-suc (low_step P D (c ^ length l) a b c p y (y * k / P) (hom l p c) (leb→le (b * D) (P * a) (and_l (leb (b * D) (P * a)) (leb (P * a) ((b + 1) * D) && (leb (total bs) (M * P) && fit P D M e bs l)) t)) (cut_le P c p y k pos lo) (horner_le bs l t₃))

  pub horner_ge : (bs l : List ℕ) → T (fit P D M e bs l) → P * hom l p c * c ≤ (horner P bs k + err M e bs) * D * c ^ length l
  unfolding horner hom err total
  horner_ge [] l t = end_step P D (c ^ length l) c e (hom l p c) (total l) (leb→le (P * total l) (e * D) t) (hom_le p c pc l)
  horner_ge (b ∷ bs) [] t = absurd t
  horner_ge (b ∷ bs) (a ∷ l) t =
      let t₁ = and_r (leb (b * D) (P * a)) (leb (P * a) ((b + 1) * D) && (leb (total bs) (M * P) && fit P D M e bs l)) t in
      let t₂ = and_r (leb (P * a) ((b + 1) * D)) (leb (total bs) (M * P) && fit P D M e bs l) t₁ in
      let t₃ = and_r (leb (total bs) (M * P)) (fit P D M e bs l) t₂ in
      let y = horner P bs k in
      let yb : y ≤ M * P = le_trans (fix_le P k pos (le_trans (le-add_right k 1) kP) bs) (leb→le (total bs) (M * P) (and_l (leb (total bs) (M * P)) (fit P D M e bs l) t₂)) in
      rw pow-suc (up_step P D (c ^ length l) a b c p y (err M e bs) (y * k / P) (err M e bs + 1 + M) (hom l p c)
      (leb→le (P * a) ((b + 1) * D) (and_l (leb (P * a) ((b + 1) * D)) (leb (total bs) (M * P) && fit P D M e bs l) t₁))
      (cut_ge P M c p y (err M e bs) k pos hi kP yb)
      (horner_ge bs l t₃))
