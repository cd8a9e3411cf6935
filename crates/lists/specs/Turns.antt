-- What a loop computes: n turns from a state, the k-th by its number, and a sweep over a list. Definitions only.
use Rattle.std.specs.Prelude.{ℕ, zero, suc, List, get_or, set}

-- turns 0 to n - 1, in this order
unfoldable pub turns_of : {S : Type 0} → ℕ → (ℕ → S → S) → S → S
turns_of zero g s = s
turns_of (suc n) g s = g n (turns_of n g s)

-- the first n elements in turn, each by its own rule; d stands for what lies past the end
abbrev pub each_of : {A : Type 0} → ℕ → (ℕ → A → A) → A → List A → List A
each_of n g d l = turns_of n (λ k s. set s k (g k (get_or s k d))) l
