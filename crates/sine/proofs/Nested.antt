-- The alternating polynomial by Horner's rule in fixed point against the exact one: each coefficient is off by at most one unit, the argument by w, and each product is cut.
-- The argument is scaled by u, and the coefficients by its powers, so that it is below 1 and no error grows. Assumes nothing.
use mathlib.Core.Path.{◌≡◌, ap}
use mathlib.Core.Bool.{Bool, true, false, ◌&&◌}
use mathlib.Core.List.{List, [], ◌∷◌}
use Prim.Native.Nat.{ℕ, ◌+◌, ◌-◌, ◌*◌, ◌/◌, ◌^◌, ◌≤◌, ◌<◌}
use native.Mathlib.Nat.{le_refl, le_trans, le_of_eq, le_of_lt, mul_comm, mul-pos, mul-le-mul, mul-le-mul_left, mul-le-mul_right, div-mul-le_self, div-le_of_le-mul, lt-div-mul-add, le_of_mul-le-mul_right, sub-add_cancel, sub-le, pow-suc}
use native.Mathlib.Omega.{arith}
use lib.Dec.{T, leb, leb→le}
use lib.ListN.{length}
use lib.Ieee.Fits.{and_l, and_r}
use Rattle.series.proofs.Algebra.{ac}
use Rattle.sine.specs.Series.{alternating}

-- b₀ - b₁ w + b₂ w² - .. at w = v / P, in units of 1 / P, each product cut
unfoldable pub nested : ℕ → List ℕ → ℕ → ℕ
nested P [] v = 0
nested P (b ∷ bs) v = b - nested P bs v * v / P

abbrev pub head : List ℕ → ℕ
head [] = 0
head (b ∷ bs) = b

abbrev pub tail : List ℕ → List ℕ
tail [] = []
tail (b ∷ bs) = bs

-- the coefficients bs are c, c u, c u², .. times ks / K in units of 1 / P, to one unit; both fall, and ks by the factor u
abbrev pub fit : ℕ → ℕ → ℕ → ℕ → List ℕ → List ℕ → Bool
fit P K u c [] [] = true
fit P K u c [] (k ∷ ks) = false
fit P K u c (b ∷ bs) [] = false
fit P K u c (b ∷ bs) (k ∷ ks) = leb (b * K) (P * c * k + K) && (leb (P * c * k) (b * K + K) && (leb b P && (leb (head bs) b && (leb (u * head ks) k && fit P K u (u * c) bs ks))))

-- what a step adds
unfoldable pub slack : ℕ → List ℕ → ℕ
slack w [] = 0
slack w (b ∷ bs) = slack w bs + (w + 2)

pub nested_le : (P : ℕ) (bs : List ℕ) (v : ℕ) → nested P bs v ≤ head bs
unfolding nested
nested_le P [] v = le_refl 0
nested_le P (b ∷ bs) v = sub-le b (nested P bs v * v / P)

alternating_le : (k : ℕ) (l : List ℕ) (s z : ℕ) → alternating (k ∷ l) s z ≤ k * z ^ length l
unfolding alternating
alternating_le k l s z = sub-le (k * z ^ length l) (s * alternating l s z)

module _ (P K u w s z v : ℕ) (pp : 0 < P) (up : 0 < u) (lo : u * v * z ≤ P * s + u * w * z) (hi : P * s ≤ u * v * z + u * w * z) (vp : v ≤ P) (su : s ≤ u * z) where
  -- no difference of the exact polynomial is cut at 0
  no_less : (k : ℕ) (ks : List ℕ) → u * head ks ≤ k → s * alternating ks s z ≤ k * z ^ length ks
  unfolding alternating
  no_less k [] h = omega arith
  no_less k (k' ∷ ks) h =
      rw pow-suc (le_trans (mul-le-mul su (alternating_le k' ks s z)) (le_trans (le_of_eq (shuffle u z k' (z ^ length ks))) (mul-le-mul_right (z ^ length ks * z) h)))
    where
      shuffle : (u z k Z : ℕ) → u * z * (k * Z) ≡ u * k * (Z * z)
      shuffle u z k Z = simp ac

  -- the product, from above and from below
  product_low : (c y r Z N e : ℕ) → r * P ≤ y * v → y ≤ P → y * K * Z ≤ P * (u * c) * N * z + e * K * Z → r * K * (Z * z) ≤ P * c * (s * N) * z + (e + w) * K * (Z * z)
  product_low c y r Z N e h₁ h₂ h₃ =
      le_of_mul-le-mul_right {k = u * P}
      (simp ac (omega (arith, simp ac at (mul-le-mul_right (u * K * Z * z) h₁), simp ac at (mul-le-mul_right (y * K * Z) lo), simp ac at (mul-le-mul_right (P * s) h₃), simp ac at (mul-le-mul_right (u * w * z * K * Z) h₂), simp ac at (mul-le-mul_right (P * e * K * Z) su))))
      (mul-pos up pp)

  product_high : (c y r Z N e : ℕ) → y * v ≤ r * P + P → y ≤ P → P * (u * c) * N * z ≤ y * K * Z + e * K * Z → P * c * (s * N) * z ≤ r * K * (Z * z) + (e + w + 1) * K * (Z * z)
  product_high c y r Z N e h₁ h₂ h₃ =
      le_of_mul-le-mul_right {k = u * P}
      (simp ac (omega (arith, simp ac at (mul-le-mul_right (u * K * Z * z) h₁), simp ac at (mul-le-mul_right (y * K * Z) hi), simp ac at (mul-le-mul_right (P * s) h₃), simp ac at (mul-le-mul_right (u * w * z * K * Z) h₂), simp ac at (mul-le-mul_right (P * e * K * Z) su))))
      (mul-pos up pp)

  turn : (c k b y' r Z N N' e : ℕ) → y' + r ≡ b → N' + s * N ≡ k * Z → b * K ≤ P * c * k + K → P * c * k ≤ b * K + K
      → r * K * (Z * z) ≤ P * c * (s * N) * z + (e + w) * K * (Z * z)
      → P * c * (s * N) * z ≤ r * K * (Z * z) + (e + w + 1) * K * (Z * z)
      → (y' * K * (Z * z) ≤ P * c * N' * z + (e + (w + 2)) * K * (Z * z)) × (P * c * N' * z ≤ y' * K * (Z * z) + (e + (w + 2)) * K * (Z * z))
  turn c k b y' r Z N N' e q₁ q₂ a₁ a₂ l h =
      let e₁ = simp ac at (ap (λ (x : ℕ). x * (K * Z * z)) q₁) in
      let e₂ = simp ac at (ap (λ (x : ℕ). x * (P * c * z)) q₂) in
      let b₁ = simp ac at (mul-le-mul_right (Z * z) a₁) in
      let b₂ = simp ac at (mul-le-mul_right (Z * z) a₂) in
      let l' = simp ac at l in
      let h' = simp ac at h in (simp ac (omega arith), simp ac (omega arith))

  pub nested_near : (c : ℕ) (bs ks : List ℕ) → T (fit P K u c bs ks)
      → (nested P bs v * K * z ^ length ks ≤ P * c * alternating ks s z * z + slack w bs * K * z ^ length ks)
      × (P * c * alternating ks s z * z ≤ nested P bs v * K * z ^ length ks + slack w bs * K * z ^ length ks)
  unfolding nested alternating slack
  nested_near c [] [] t = (omega arith, omega arith)
  nested_near c [] (k ∷ ks) t = absurd t
  nested_near c (b ∷ bs) [] t = absurd t
  nested_near c (b ∷ bs) (k ∷ ks) t =
      let p₁ : Bool = leb (b * K) (P * c * k + K) in
      let p₂ : Bool = leb (P * c * k) (b * K + K) in
      let p₃ : Bool = leb b P in
      let p₄ : Bool = leb (head bs) b in
      let p₅ : Bool = leb (u * head ks) k in
      let p₆ : Bool = fit P K u (u * c) bs ks in
      let t₁ = and_r p₁ (p₂ && (p₃ && (p₄ && (p₅ && p₆)))) t in
      let t₂ = and_r p₂ (p₃ && (p₄ && (p₅ && p₆))) t₁ in
      let t₃ = and_r p₃ (p₄ && (p₅ && p₆)) t₂ in
      let t₄ = and_r p₄ (p₅ && p₆) t₃ in
      let ih = nested_near (u * c) bs ks (and_r p₅ p₆ t₄) in
      let y = nested P bs v in
      let yb : y ≤ b = le_trans (nested_le P bs v) (leb→le (head bs) b (and_l p₄ (p₅ && p₆) t₃)) in
      let yp : y ≤ P = le_trans yb (leb→le b P (and_l p₃ (p₄ && (p₅ && p₆)) t₂)) in
      let rb : y * v / P ≤ b = le_trans (div-le_of_le-mul P (le_trans (mul-le-mul_left y vp) (le_of_eq (mul_comm y P)))) yb in
      rw pow-suc
      (turn c k b (b - y * v / P) (y * v / P) (z ^ length ks) (alternating ks s z) (k * z ^ length ks - s * alternating ks s z) (slack w bs)
      (sub-add_cancel rb)
      (sub-add_cancel (no_less k ks (leb→le (u * head ks) k (and_l p₅ p₆ t₄))))
      (leb→le (b * K) (P * c * k + K) (and_l p₁ (p₂ && (p₃ && (p₄ && (p₅ && p₆)))) t))
      (leb→le (P * c * k) (b * K + K) (and_l p₂ (p₃ && (p₄ && (p₅ && p₆))) t₁))
      (product_low c y (y * v / P) (z ^ length ks) (alternating ks s z) (slack w bs) (div-mul-le_self (y * v) P) yp ih.0)
      (product_high c y (y * v / P) (z ^ length ks) (alternating ks s z) (slack w bs) (le_of_lt (lt-div-mul-add {a = y * v} pp)) yp ih.1))
