-- Products brought into one order, and a few laws of powers and differences. Assumes nothing.
use mathlib.Core.Path.{◌≡◌, ap₂, ◌∙◌}
use Prim.Native.Nat.{ℕ, zero, suc, ◌-◌, ◌*◌, ◌^◌, ◌≤◌, ◌<◌}
use native.Mathlib.Nat.{mul-le-mul_right, le_of_mul-le-mul_right, mul-mul-mul_comm, mul_comm, mul_assoc, mul_left_comm, mul-add, add-mul, mul-sub, pow-suc, pow-zero}
use native.Mathlib.Omega.{arith}

-- sums of products, the factors sorted
pub ruleset ac = (mul-add, add-mul, mul_assoc, mul_comm, mul_left_comm)

pub mul_pow : (a b n : ℕ) → (a * b) ^ n ≡ a ^ n * b ^ n
mul_pow a b zero = rw (pow-zero (a * b), pow-zero a, pow-zero b)
mul_pow a b (suc n) = rw (pow-suc (a * b) n, pow-suc a n, pow-suc b n, mul_pow a b n) (mul-mul-mul_comm (a ^ n) (b ^ n) a b)

pub sub_mul : (m n k : ℕ) → (m - n) * k ≡ m * k - n * k
sub_mul m n k = mul_comm (m - n) k ∙ mul-sub k m n ∙ ap₂ (λ (x y : ℕ). x - y) (mul_comm k m) (mul_comm k n)

-- x ≤ n / m y, and n / m ≤ b / B
pub loosen : (m n B b x y : ℕ) → 0 < m → B * n ≤ b * m → m * x ≤ n * y → B * x ≤ b * y
loosen m n B b x y mp k h = le_of_mul-le-mul_right {k = m} (simp ac (omega (arith, simp ac at (mul-le-mul_right B h), simp ac at (mul-le-mul_right y k)))) mp
