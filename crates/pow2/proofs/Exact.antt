-- Every entry of a table is the power of two of its place, by one test that is computed. Assumes nothing.
use mathlib.Core.Path.{◌≡◌, refl, subst, sym}
use mathlib.Core.Bool.{Bool, false, not, ◌&&◌}
use mathlib.Core.List.{List}
use Prim.Native.Nat.{ℕ, ◌*◌, ◌^◌, ◌<◌}
use lib.Dec.{T, eqb, eqb→eq}
use lib.Ieee.{of_bits, Float, nan, inf, fin, up, down}
use lib.Ieee.Bits.{is_false}
use lib.Ieee.Fits.{and_l, and_r}
use lib.ListN.{length, get_or}
use Rattle.lists.proofs.Table.{every, at}
use Rattle.pow2.specs.Powers.{TwoPower, TwoPowers}
use Rattle.pow2.specs.declared.table.TheConstants.{TWO_POWERS}

-- x is exactly 2 ^ (k - 126), as a test
abbrev pub is_power : ℕ → Float → Bool
is_power k nan = false
is_power k (inf s) = false
is_power k (fin s m e) = not s && eqb (m * up e * 2 ^ 126) (2 ^ k * down e)

exactly : (k : ℕ) (x : Float) → T (is_power k x) → TwoPower x k
exactly k nan t = t
exactly k (inf s) t = t
exactly k (fin s m e) t =
    let same = eqb (m * up e * 2 ^ 126) (2 ^ k * down e) in
    (is_false s (and_l (not s) same t), eqb→eq (m * up e * 2 ^ 126) (2 ^ k * down e) (and_r (not s) same t))

pub two_powers : (t : List Float) → length t ≡ 253 → T (every is_power 0 t) → TwoPowers t
two_powers t l h = record { exact = λ k b. exactly k (get_or t k nan) (at nan is_power t h k (subst (λ (n : ℕ). k < n) (sym l) b)) }

-- the table that the program reads
pub table : TwoPowers TWO_POWERS
unfolding of_bits
table = two_powers TWO_POWERS refl tt
