-- An exact product that the format holds is the product, and so times 1 and -1; a value of the format is known by its sign and size. Assumes nothing.
use mathlib.Core.Path.{◌≡◌, refl, sym, ap, ◌∙◌, subst}
use Prim.Native.Nat.{ℕ, ◌+◌, ◌-◌, ◌*◌, ◌/◌, ◌^◌}
use native.Mathlib.Nat.{mul-one, one-mul, mul_assoc, mul-pos, mul-div_cancel}
use mathlib.Core.Bool.{Bool, cond}
use lib.Dec.{T}
use lib.IntN.{pos}
use lib.Pow.{pow_pos}
use lib.Ieee.{unlike, Float, nan, inf, fin, Format, prec, low, hid, top, size, up, down, round, mul, fits, of_bits, to_bits}
use lib.Ieee.Bits.{of_bits-to_bits}
use lib.Ieee.Fits.{down_pos}
use lib.Ieee.Scale.{round_same}
use Rattle.line.proofs.Units.{Is, mul_is}
use Rattle.line.proofs.Rounds.{Rep, exact_at}

pub mul_exact : (f : Format) (x y : Float) (s t : Bool) (q r v : ℕ) → Is f x s q → Is f y t r → q * r ≡ v * 2 ^ low f → Rep f v → Is f (mul f x y) (unlike s t) v
mul_exact f x y s t q r v h k e p =
    let l = 2 ^ low f in
    let L = pow_pos (low f) in
    let same : round f (unlike s t) (q * r) (l * l) ≡ round f (unlike s t) v l = round_same f (unlike s t) (q * r) (l * l) v l (mul-pos L L) L (ap (λ (z : ℕ). z * l) e ∙ mul_assoc v l l) in
    subst (λ (z : Float). Is f z (unlike s t) v) (sym (mul_is f x y s q t r h k ∙ same)) (exact_at f (unlike s t) v p)

-- ---- times 1 and times -1
pub unit_is : (f : Format) (w : Bool) → Is f (fin w 1 (pos 0)) w (2 ^ low f)
unit_is f w = (refl, one-mul (2 ^ low f) ∙ sym (mul-one (2 ^ low f)))

pub mul_unit : (f : Format) (x : Float) (s w : Bool) (q : ℕ) → Is f x s q → Rep f q → Is f (mul f x (fin w 1 (pos 0))) (unlike s w) q
mul_unit f x s w q h p = mul_exact f x (fin w 1 (pos 0)) s w q (2 ^ low f) q h (unit_is f w) refl p

-- ---- two values of a format with one sign and one size are one value: their patterns are
pattern : Format → Bool → ℕ → ℕ
pattern f s q = cond s (top f) 0 + (size q - prec f) * hid f + q / 2 ^ (size q - prec f)

pattern_is : (f : Format) (x : Float) (s : Bool) (q : ℕ) → Is f x s q → to_bits f x ≡ pattern f s q
unfolding to_bits pattern
pattern_is f nan s q h = absurd h
pattern_is f (inf t) s q h = absurd h
pattern_is f (fin t m e) s q h =
    let n : m * up e * 2 ^ low f / down e ≡ q = ap (λ (z : ℕ). z / down e) h.1 ∙ mul-div_cancel q (down_pos e) in
    rw (n, h.0)

pub value_unique : (f : Format) (x y : Float) (s : Bool) (q : ℕ) → T (fits f x) → T (fits f y) → Is f x s q → Is f y s q → x ≡ y
value_unique f x y s q t u h k = sym (of_bits-to_bits f x t) ∙ ap (of_bits f) (pattern_is f x s q h ∙ sym (pattern_is f y s q k)) ∙ of_bits-to_bits f y u
