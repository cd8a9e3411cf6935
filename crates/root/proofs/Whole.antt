-- Roots of whole numbers: n is nearest to the root of q exactly when q lies between n² - n and n² + n, and one n does. Assumes nothing.
use mathlib.Core.Path.{◌≡◌}
use mathlib.Core.Bool.{Bool, true, false, not, cond}
use Prim.Native.Nat.{ℕ, zero, suc, ◌+◌, ◌*◌, ◌/◌, ◌^◌, ◌≤◌, ◌<◌}
use native.Mathlib.Nat.{le_antisymm, le_of_suc-le-suc, lt_irrefl, lt_of_lt_of_le, lt_of_not-le, mul-le-mul, mul-le-mul_left, mul-le-mul_right, pow-suc, div-lt_iff_lt-mul}
use native.Mathlib.Omega.{arith}
use lib.Dec.{T, leb, ltb, leb→le, ltb→lt, nleb→lt, nltb→le, lit<}
use Rattle.root.specs.Root.{digit, floor_root, nearer, nearest_root}

-- n is nearest to the root of q
pub record Nearest (q n : ℕ) : Type 0 where
  pub past : n * n < q + n
  pub short : q ≤ n * n + n

-- ---- the whole part

double : (g q : ℕ) → g * g ≤ q / 4 → q / 4 < suc g * suc g → (2 * g * (2 * g) ≤ q) × (q < suc (suc (2 * g)) * suc (suc (2 * g)))
double g q h k = (omega arith, omega arith)

digit_is : (q f : ℕ) → f * f ≤ q → q < suc (suc f) * suc (suc f) → (digit q f * digit q f ≤ q) × (q < suc (digit q f) * suc (digit q f))
digit_is q f h k = go (leb (suc f * suc f) q) (leb→le (suc f * suc f) q) (nleb→lt (suc f * suc f) q)
  where
    go : (b : Bool) → (T b → suc f * suc f ≤ q) → (T (not b) → q < suc f * suc f) → (cond b (suc f) f * cond b (suc f) f ≤ q) × (q < suc (cond b (suc f) f) * suc (cond b (suc f) f))
    go true y n = (y tt, k)
    go false y n = (h, n tt)

floor_is : (k q : ℕ) → q < 4 ^ k → (floor_root k q * floor_root k q ≤ q) × (q < suc (floor_root k q) * suc (floor_root k q))
unfolding floor_root
floor_is zero q h = (omega arith, omega arith)
floor_is (suc k) q h =
    let i = floor_is k (q / 4) ((div-lt_iff_lt-mul (lit< tt)).1 (rw pow-suc at h)) in
    let d = double (floor_root k (q / 4)) q i.0 i.1 in
    digit_is q (2 * floor_root k (q / 4)) d.0 d.1

-- ---- the nearest

-- of a q above 0
small : {q : ℕ} (f : ℕ) → 0 < q → f * f ≤ q → q ≤ f * f + f → f * f < q + f
small zero p h k = omega arith
small (suc f) p h k = omega arith

nearer_is : (q f : ℕ) → 0 < q → f * f ≤ q → q < suc f * suc f → Nearest q (nearer q f)
nearer_is q f p h k = go (ltb (f * f + f) q) (ltb→lt (f * f + f) q) (nltb→le (f * f + f) q)
  where
    go : (b : Bool) → (T b → f * f + f < q) → (T (not b) → q ≤ f * f + f) → Nearest q (cond b (suc f) f)
    go true y n = let l = y tt in record { past = omega arith; short = omega arith }
    go false y n = let l = n tt in record { past = small f p h l; short = l }

pub root_is : (q : ℕ) → 0 < q → q < 281474976710656 → Nearest q (nearest_root q)
unfolding nearest_root
root_is q p h = let i = floor_is 24 q h in nearer_is q (floor_root 24 q) p i.0 i.1

no_larger : (q n m : ℕ) → Nearest q n → Nearest q m → m ≤ n
no_larger q n m a b = le_of_suc-le-suc (lt_of_not-le (λ (g : suc n ≤ m). clash g (mul-le-mul_left m g) (mul-le-mul_right n g)))
  where
    clash : suc n ≤ m → m * suc n ≤ m * m → suc n * n ≤ m * n → ⊥
    clash g h k = omega (arith, a.short, b.past)

-- so to count up or down to it gives the same number
pub one_nearest : (q n m : ℕ) → Nearest q n → Nearest q m → n ≡ m
one_nearest q n m a b = le_antisymm (no_larger q m n b a) (no_larger q n m a b)

pub root_lt : (n : ℕ) → n * n < 281474976710656 → n < 16777216
root_lt n h = lt_of_not-le (λ (g : 16777216 ≤ n). lt_irrefl (n * n) (lt_of_lt_of_le h (mul-le-mul g g)))

-- a square of up to 24 digits, and one above 0
pub square_le : (n : ℕ) → n ≤ 16777216 → n * n ≤ 281474976710656
square_le n h = mul-le-mul h h

pub above : (n : ℕ) → 0 < n * n → 1 ≤ n
above zero h = omega arith
above (suc n) h = omega arith

-- where both counts have ended
pub counted : (q n : ℕ) → 0 < q → q < 281474976710656 → n * n < q + n → q ≤ n * n + n → n ≡ nearest_root q
counted q n p h past short = one_nearest q n (nearest_root q) (record { past = past; short = short }) (root_is q p h)

-- what `nearest_root` needs
pub ruleset counts = (square_le, above, root_lt, counted)
