-- An alternating polynomial, as a fraction and in fixed point by pairs of terms. Assumes nothing.
use Rattle.std.specs.Prelude.{List, [], ◌∷◌, ℕ, ◌+◌, ◌-◌, ◌*◌, ◌/◌, ◌^◌, length}

-- k₀ - k₁ w + k₂ w² - .. at w = s / z is alternating (k₀ ∷ k₁ ∷ k₂ ∷ ..) s z over z to the number of terms after the first.
-- No difference is cut at 0 where s is at most 4 z and each k at least four times the next.
unfoldable pub alternating : List ℕ → ℕ → ℕ → ℕ
alternating [] s z = 0
alternating (k ∷ l) s z = k * z ^ length l - s * alternating l s z

-- b₀ - b₁ v + (b₂ - b₃ v) w + (b₄ - b₅ v) w² + .. in units of 1 / P, each product cut
unfoldable pub paired : ℕ → List ℕ → ℕ → ℕ → ℕ
paired P [] v w = 0
paired P (b ∷ []) v w = b
paired P (b ∷ c ∷ []) v w = b - c * v / P
paired P (b ∷ c ∷ d ∷ l) v w = b - c * v / P + paired P (d ∷ l) v w * w / P
