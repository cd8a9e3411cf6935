-- Horner's rule in fixed point. Assumes nothing.
use Rattle.std.specs.Prelude.{List, [], ◌∷◌, ℕ, ◌+◌, ◌*◌, ◌/◌}

-- b₀ + b₁ x + b₂ x² + .. at x = k / P, in units of 1 / P, each product cut
unfoldable pub horner : ℕ → List ℕ → ℕ → ℕ
horner P [] k = 0
horner P (b ∷ bs) k = b + horner P bs k * k / P
