-- The series by pairs of terms against Horner's rule on seven: b - (b' - y v) v is b - b' v + y v², but for what the cuts lose. Assumes nothing.
use mathlib.Core.Path.{◌≡◌}
use mathlib.Core.List.{List, [], ◌∷◌}
use Prim.Native.Nat.{ℕ, ◌+◌, ◌-◌, ◌*◌, ◌/◌, ◌≤◌, ◌<◌}
use native.Mathlib.Nat.{le_refl, le_trans, le_of_eq, le_of_lt, mul_comm, mul-le-mul, mul-le-mul_left, mul-le-mul_right, div-mul-le_self, div-le_of_le-mul, lt-div-mul-add, le_of_mul-le-mul_right, sub-add_cancel, sub-le}
use native.Mathlib.Omega.{arith}
use lib.Dec.{lit<, lit≤}
use lib.Pow.{shr_mono}
use Rattle.series.proofs.Algebra.{ac}
use Rattle.sine.specs.Series.{paired}
use Rattle.sine.specs.Sine.{coefs, sinc_of}
use Rattle.sine.proofs.Nested.{nested, head, tail, nested_le}

abbrev P : ℕ
P = 4294967296

-- the coefficients after the first
abbrev pub k₁ : ℕ
k₁ = head (tail coefs)

abbrev pub k₂ : ℕ
k₂ = head (tail (tail coefs))

abbrev pub k₃ : ℕ
k₃ = head (tail (tail (tail coefs)))

abbrev pub k₄ : ℕ
k₄ = head (tail (tail (tail (tail coefs))))

abbrev pub k₅ : ℕ
k₅ = head (tail (tail (tail (tail (tail coefs)))))

-- 4 ^ j / (2 j + 1)! in Q32, to the nearest, also the last two
abbrev pub terms : List ℕ
terms = head coefs ∷ k₁ ∷ k₂ ∷ k₃ ∷ k₄ ∷ 110180 ∷ 2825 ∷ []

-- ---- one pair, with every cut a variable: g of y v, X of (b' - y v) v, A of b' v, H of c w
pair_high : (R b' y c v w p r g X A H : ℕ) → 0 < R → v ≤ R → w * R ≤ v * v → c ≤ y + p → p * w ≤ r * R → y * v ≤ g * R + R → g ≤ b' → X * R ≤ (b' - g) * v → b' * v ≤ A * R + R → H * R ≤ c * w → X + H ≤ A + (r + 2)
pair_high R b' y c v w p r g X A H rp vl ww cy pw yg gb xx aa hh = le_of_mul-le-mul_right {k = R} (simp ac (omega (arith, simp ac at sum))) rp
  where
    square : y * w ≤ g * v + v
    square = le_of_mul-le-mul_right {k = R} (simp ac (omega (arith, simp ac at (mul-le-mul_right v yg), simp ac at (mul-le-mul_right y ww)))) rp

    whole : b' * v ≡ (b' - g) * v + g * v
    whole = parts (b' - g) g b' v (sub-add_cancel gb)
      where
        parts : (a g b v : ℕ) → a + g ≡ b → b * v ≡ a * v + g * v
        parts a g b v e = rw (← e) (simp ac)

    other : c * w ≤ y * w + r * R
    other = omega (arith, simp ac at (mul-le-mul_right w cy), simp ac at pw)

    sum : X * R + H * R ≤ A * R + (r + 2) * R
    sum = omega (arith, square, whole, other)

pair_low : (R b' y c v w q s g X A H : ℕ) → 0 < R → y ≤ R → v * v ≤ w * R + R → y ≤ c + q → q * w ≤ s * R → g * R ≤ y * v → g ≤ b' → (b' - g) * v ≤ X * R + R → A * R ≤ b' * v → c * w ≤ H * R + R → A ≤ X + H + (s + 3)
pair_low R b' y c v w q s g X A H rp yl ww yc qw yg gb xx aa hh = le_of_mul-le-mul_right {k = R} (simp ac (omega (arith, simp ac at sum))) rp
  where
    square : g * v ≤ y * w + y
    square = le_of_mul-le-mul_right {k = R} (simp ac (omega (arith, simp ac at (mul-le-mul_right v yg), simp ac at (mul-le-mul_right y ww)))) rp

    whole : b' * v ≡ (b' - g) * v + g * v
    whole = parts (b' - g) g b' v (sub-add_cancel gb)
      where
        parts : (a g b v : ℕ) → a + g ≡ b → b * v ≡ a * v + g * v
        parts a g b v e = rw (← e) (simp ac)

    other : y * w ≤ c * w + s * R
    other = omega (arith, simp ac at (mul-le-mul_right w yc), simp ac at qw)

    sum : A * R ≤ X * R + H * R + (s + 3) * R
    sum = omega (arith, square, whole, other)

-- a product with a number up to 1 is no greater
cut_le : (y v b : ℕ) → y ≤ b → v ≤ P → y * v / P ≤ b
cut_le y v b h k = le_trans (div-le_of_le-mul P (le_trans (mul-le-mul_left y k) (le_of_eq (mul_comm y P)))) h

-- ---- the pairs, from the last
abbrev fourth : List ℕ
fourth = tail (tail (tail (tail terms)))

abbrev second : List ℕ
second = tail (tail terms)

module _ (v : ℕ) (vl : v ≤ 2649351758) where
  abbrev w : ℕ
  w = v * v / P

  vp : v ≤ P
  vp = le_trans vl (lit≤ tt)

  w_le : w ≤ 1634253361
  w_le = div-le_of_le-mul P (le_trans (mul-le-mul vl vl) (lit≤ tt))

  w_low : w * P ≤ v * v
  w_low = div-mul-le_self (v * v) P

  w_high : v * v ≤ w * P + P
  w_high = le_of_lt (lt-div-mul-add {a = v * v} {b = P} (lit< tt))

  abbrev c : ℕ
  c = k₄ - k₅ * v / P

  last_low : 107355 ≤ nested P (tail fourth) v
  unfolding nested
  last_low = omega (arith, cut_le (nested P (tail (tail fourth)) v) v 2825 (nested_le P (tail (tail fourth)) v) vp)

  fourth_near : (c ≤ nested P fourth v + 1656) × (nested P fourth v ≤ c + 1171)
  unfolding nested
  fourth_near = near (nested P (tail fourth) v) last_low (nested_le P (tail fourth) v)
    where
      near : (y : ℕ) → 107355 ≤ y → y ≤ 110180 → (c ≤ k₄ - y * v / P + 1656) × (k₄ - y * v / P ≤ c + 1171)
      near y l h = (omega (arith, mul-le-mul_right v h), omega (arith, mul-le-mul_right v l))

  abbrev d : ℕ
  d = (k₂ - k₃ * v / P) + c * w / P

  second_near : (d ≤ nested P second v + 633) × (nested P second v ≤ d + 449)
  unfolding nested
  second_near = near (nested P fourth v) fourth_near.0 fourth_near.1 (nested_le P fourth v)
    where
      near : (y : ℕ) → c ≤ y + 1656 → y ≤ c + 1171 → y ≤ k₄ → (d ≤ k₂ - (k₃ - y * v / P) * v / P + 633) × (k₂ - (k₃ - y * v / P) * v / P ≤ d + 449)
      near y h l b =
          let g = cut_le y v k₃ (le_trans b (lit≤ tt)) vp in
          let x = k₃ - y * v / P in
          let high = pair_high P k₃ y c v w 1656 631 (y * v / P) (x * v / P) (k₃ * v / P) (c * w / P) (lit< tt) vp w_low h (omega (arith, w_le)) (le_of_lt (lt-div-mul-add {a = y * v} {b = P} (lit< tt))) g (div-mul-le_self (x * v) P) (le_of_lt (lt-div-mul-add {a = k₃ * v} {b = P} (lit< tt))) (div-mul-le_self (c * w) P) in
          let low = pair_low P k₃ y c v w 1171 446 (y * v / P) (x * v / P) (k₃ * v / P) (c * w / P) (lit< tt) (le_trans b (lit≤ tt)) w_high l (omega (arith, w_le)) (div-mul-le_self (y * v) P) g (le_of_lt (lt-div-mul-add {a = x * v} {b = P} (lit< tt))) (div-mul-le_self (k₃ * v) P) (le_of_lt (lt-div-mul-add {a = c * w} {b = P} (lit< tt))) in
          (omega (arith, high), omega (arith, low))

  -- in Q32 the pairs are within 243 units of Horner's rule
  pub pairs_near : (sinc_of v ≤ nested P terms v + 243) × (nested P terms v ≤ sinc_of v + 243)
  unfolding sinc_of paired nested
  pairs_near = near (nested P second v) second_near.0 second_near.1 (nested_le P second v)
    where
      near : (y : ℕ) → d ≤ y + 633 → y ≤ d + 449 → y ≤ k₂ → ((P - k₁ * v / P) + d * w / P ≤ P - (k₁ - y * v / P) * v / P + 243) × (P - (k₁ - y * v / P) * v / P ≤ (P - k₁ * v / P) + d * w / P + 243)
      near y h l b =
          let g = cut_le y v k₁ (le_trans b (lit≤ tt)) vp in
          let x = k₁ - y * v / P in
          let high = pair_high P k₁ y d v w 633 241 (y * v / P) (x * v / P) (k₁ * v / P) (d * w / P) (lit< tt) vp w_low h (omega (arith, w_le)) (le_of_lt (lt-div-mul-add {a = y * v} {b = P} (lit< tt))) g (div-mul-le_self (x * v) P) (le_of_lt (lt-div-mul-add {a = k₁ * v} {b = P} (lit< tt))) (div-mul-le_self (d * w) P) in
          let low = pair_low P k₁ y d v w 449 171 (y * v / P) (x * v / P) (k₁ * v / P) (d * w / P) (lit< tt) (le_trans b (lit≤ tt)) w_high l (omega (arith, w_le)) (div-mul-le_self (y * v) P) g (le_of_lt (lt-div-mul-add {a = x * v} {b = P} (lit< tt))) (div-mul-le_self (k₁ * v) P) (le_of_lt (lt-div-mul-add {a = d * w} {b = P} (lit< tt))) in
          (omega (arith, high), omega (arith, low))

-- ---- sizes: what is added is less than what was taken off
pub square_le : (v : ℕ) → v ≤ P → v * v / P ≤ v
square_le v h = cut_le v v v (le_refl v) h

pub tail_le : (v w : ℕ) → v ≤ P → w ≤ v → (k₄ - k₅ * v / P) * w / P ≤ k₄
tail_le v w h k = cut_le ((k₄ - k₅ * v / P)) w k₄ (sub-le k₄ (k₅ * v / P)) (le_trans k h)

pub added_le : (d v w : ℕ) → d ≤ 575692265 → w ≤ v → d * w / P ≤ k₁ * v / P
added_le d v w h k = shr_mono 32 (mul-le-mul (le_trans h (lit≤ tt)) k)

pub sinc_le : (v : ℕ) → v ≤ P → sinc_of v ≤ P
unfolding sinc_of paired
sinc_le v h =
    let w = v * v / P in
    let k = square_le v h in
    let t = tail_le v w h k in
    let e = added_le ((k₂ - k₃ * v / P) + (k₄ - k₅ * v / P) * w / P) v w (omega (arith, t)) k in
    let a = cut_le k₁ v k₁ (le_refl k₁) h in
    omega (arith, e, a)
