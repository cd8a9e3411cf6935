-- The curves never fall: a larger argument has a larger place, a larger place a larger power. Assumes nothing.
use mathlib.Core.Path.{◌≡◌, refl, sym, ap, ◌∙◌}
use mathlib.Core.Logic.{◌⊎◌, inl, inr}
use mathlib.Core.Bool.{Bool, true, false, true≢false, ◌&&◌}
use Prim.Native.Nat.{ℕ, ◌+◌, ◌-◌, ◌*◌, ◌/◌, ◌%◌, ◌^◌, ◌≤◌, ◌<◌}
use native.Mathlib.Nat.{le_trans, le_of_eq, eq-or-lt_of_le, mul_comm, mul_assoc, add-mul, mul-le-mul, mul-le-mul_right, mod-lt, zero-mul}
use native.Mathlib.Omega.{arith}
use lib.IntN.{ℤ, pos}
use lib.Dec.{T, lit<}
use lib.Pow.{pow_pos, pow-add, pow_mono, shr_mono}
use lib.Ieee.{Float, nan, inf, fin, up, down, lt, le, eq}
use lib.Ieee.Bits.{is_true}
use lib.Ieee.Fits.{and_i}
use lib.Ieee.Nearest.{div_mono}
use lib.Ieee.Order.{le_of_values}
use Rattle.series.proofs.Algebra.{sub_mul}
use Rattle.fixed.specs.Fixed.{shifted, place_of, size_of}
use Rattle.fixed.proofs.Fields.{down_pos}
use Rattle.fixed.proofs.Order.{Under, le_says}
use Rattle.power.specs.Power.{zero_f, exp2_low, exp2_high, exp_low, log2_e, product_of, power_of, fall_of, exp2_of, exp_of}
use Rattle.power.proofs.Numbers.{P}
use Rattle.power.proofs.Rounding.{digits, digits_lo, digits_hi, power_value}
use Rattle.power.proofs.Mono.{fraction_mono}
use Rattle.power.proofs.Curves.{exp2_middle}
use Rattle.power.proofs.Ranges.{exp2_room, exp_room}

digits_mono : (h l : ℕ) → h ≤ l → l < P → digits h ≤ digits l
digits_mono h l k b = shr_mono 9 (omega (arith, fraction_mono h l k b))

values_le : (w x : ℕ) → 2 * P ≤ w → w ≤ x → digits (w % P) * 2 ^ (w / P - 1) ≤ digits (x % P) * 2 ^ (x / P - 1)
values_le w x lo h = go (eq-or-lt_of_le quotients)
  where
    quotients : w / P ≤ x / P
    quotients = omega arith

    go : (w / P ≡ x / P) ⊎ (w / P < x / P) → digits (w % P) * 2 ^ (w / P - 1) ≤ digits (x % P) * 2 ^ (x / P - 1)
    go (inl e) = rw e (mul-le-mul_right (2 ^ (x / P - 1)) (digits_mono (w % P) (x % P) (omega arith) (mod-lt x (lit< tt))))
    go (inr l) =
        let back : 1 + (w / P - 1) ≡ w / P = omega arith in
        le_trans (mul-le-mul_right (2 ^ (w / P - 1)) (digits_hi (w % P) (mod-lt w (lit< tt))))
        (le_trans (le_of_eq (half (2 ^ (w / P - 1)) (2 ^ (w / P)) (sym (pow-add 2 1 (w / P - 1)) ∙ ap (λ (i : ℕ). 2 ^ i) back)))
        (mul-le-mul (digits_lo (x % P) (mod-lt x (lit< tt))) (pow_mono (omega arith))))
      where
        half : (y z : ℕ) → 2 * y ≡ z → 16777216 * y ≡ 8388608 * z
        half y z e = omega arith

pub power_mono : (w x : ℕ) → 2 * P ≤ w → w ≤ x → x < 255 * P → T (le (power_of w) (power_of x))
power_mono w x lo h hi =
    le_of_values (power_of w) (power_of x) (digits (w % P) * 2 ^ (w / P - 1)) (2 ^ 150) (digits (x % P) * 2 ^ (x / P - 1)) (2 ^ 150) (pow_pos 150) (pow_pos 150)
    (power_value w lo (omega arith)) (power_value x (omega arith) hi) (mul-le-mul_right (2 ^ 150) (values_le w x lo h))

-- ---- places and sizes
shifted_le : (s t : Bool) (a c b d : ℕ) → Under s (a * d) t (b * c) → shifted s a c * d ≤ shifted t b d * c
shifted_le false false a c b d h = simp (add-mul, mul_assoc) (omega (arith, mul_comm c d))
shifted_le true true a c b d h = rw (sub_mul (128 * c) a d, sub_mul (128 * d) b c, mul_assoc 128 c d, mul_assoc 128 d c, mul_comm d c) (omega arith)
shifted_le true false a c b d h = rw (sub_mul (128 * c) a d, mul_assoc 128 c d) (simp (add-mul, mul_assoc) (omega (arith, mul_comm c d)))
shifted_le false true a c b d h = rw (sub_mul (128 * d) b c, mul_assoc 128 d c) (simp (add-mul, mul_assoc) (omega (arith, h.0, h.1, mul_comm c d)))

place_mono : (s : Bool) (m : ℕ) (e : ℤ) (t : Bool) (n : ℕ) (i : ℤ) → T (le (fin s m e) (fin t n i)) → place_of (fin s m e) ≤ place_of (fin t n i)
unfolding place_of
place_mono s m e t n i h =
    div_mono (shifted s (m * up e) (down e) * P) (down e) (shifted t (n * up i) (down i) * P) (down i) (down_pos e) (down_pos i)
    (go (shifted s (m * up e) (down e)) (down i) (shifted t (n * up i) (down i)) (down e) (shifted_le s t (m * up e) (down e) (n * up i) (down i) (le_says s m e t n i h)))
  where
    go : (x d y c : ℕ) → x * d ≤ y * c → x * P * d ≤ y * P * c
    go x d y c k = omega (arith, k)

places : (t u : Float) → T (le exp2_low t) → T (le t u) → T (lt u exp2_high) → place_of t ≤ place_of u
places nan u a b c = unfold lt le eq in absurd b
places (inf true) u a b c = unfold lt le eq in absurd a
places (inf false) nan a b c = unfold lt le eq in absurd b
places (inf false) (inf true) a b c = unfold lt le eq in absurd b
places (inf false) (inf false) a b c = unfold lt le eq in absurd c
places (inf false) (fin t n i) a b c = unfold lt le eq in absurd b
places (fin s m e) nan a b c = unfold lt le eq in absurd b
places (fin s m e) (inf true) a b c = unfold lt le eq in absurd b
places (fin s m e) (inf false) a b c = unfold lt le eq in absurd c
places (fin s m e) (fin t n i) a b c = place_mono s m e t n i b

-- from -126 to below 127
pub exp2_mono : (t u : Float) → T (le exp2_low t) → T (lt t exp2_high) → T (le t u) → T (le exp2_low u) → T (lt u exp2_high) → T (le (exp2_of t) (exp2_of u))
exp2_mono t u tl th h ul uh = rw (exp2_middle t tl th, exp2_middle u ul uh) (power_mono (place_of t) (place_of u) (exp2_room t tl th).0 (places t u tl h uh) (exp2_room u ul uh).1)

-- ---- exp, from -3 to 0
size_le : (s t : Bool) (a c b d : ℕ) → Under s (a * d) t (b * c) → (t ≡ false → b ≡ 0) → b * c ≤ a * d
size_le s true a c b d h z = go s h
  where
    go : (s : Bool) → Under s (a * d) true (b * c) → b * c ≤ a * d
    go true k = k
    go false k = omega (arith, k.1)
size_le s false a c b d h z = rw (z refl, zero-mul c) (omega arith)

none_above : (t : Bool) (n : ℕ) (i : ℤ) → T (le (fin t n i) zero_f) → t ≡ false → n * up i ≡ 0
none_above true n i h e = absurd (true≢false e)
none_above false n i h e = let g = le_says false n i false 0 (pos 0) h in omega arith

size_mono : (s : Bool) (m : ℕ) (e : ℤ) (t : Bool) (n : ℕ) (i : ℤ) → T (le (fin s m e) (fin t n i)) → T (le (fin t n i) zero_f) → size_of (fin t n i) ≤ size_of (fin s m e)
unfolding size_of
size_mono s m e t n i h k =
    div_mono (n * up i * P) (down i) (m * up e * P) (down e) (down_pos i) (down_pos e)
    (go (n * up i) (down e) (m * up e) (down i) (size_le s t (m * up e) (down e) (n * up i) (down i) (le_says s m e t n i h) (none_above t n i k)))
  where
    go : (x d y c : ℕ) → x * d ≤ y * c → x * P * d ≤ y * P * c
    go x d y c k = omega (arith, k)

sizes : (t u : Float) → T (le exp_low t) → T (le t u) → T (le u zero_f) → size_of u ≤ size_of t
sizes nan u a b c = unfold lt le eq in absurd b
sizes (inf true) u a b c = unfold lt le eq in absurd a
sizes (inf false) nan a b c = unfold lt le eq in absurd b
sizes (inf false) (inf true) a b c = unfold lt le eq in absurd b
sizes (inf false) (inf false) a b c = unfold lt le eq in absurd c
sizes (inf false) (fin t n i) a b c = unfold lt le eq in absurd b
sizes (fin s m e) nan a b c = unfold lt le eq in absurd b
sizes (fin s m e) (inf true) a b c = unfold lt le eq in absurd b
sizes (fin s m e) (inf false) a b c = unfold lt le eq in absurd c
sizes (fin s m e) (fin t n i) a b c = size_mono s m e t n i b c

exp_middle : (t : Float) → T (le exp_low t) → T (le t zero_f) → exp_of t ≡ power_of (549755813888 - product_of (size_of t) log2_e)
unfolding exp_of fall_of
exp_middle t h k = rw (is_true (le exp_low t && le t zero_f) (and_i (le exp_low t) (le t zero_f) h k))

pub exp_mono : (t u : Float) → T (le exp_low t) → T (le t zero_f) → T (le t u) → T (le exp_low u) → T (le u zero_f) → T (le (exp_of t) (exp_of u))
exp_mono t u tl th h ul uh =
    rw (exp_middle t tl th, exp_middle u ul uh)
    (power_mono (549755813888 - product_of (size_of t) log2_e) (549755813888 - product_of (size_of u) log2_e)
    (omega (arith, (exp_room t tl th).product)) (omega (arith, shr_mono 32 (mul-le-mul_right log2_e (sizes t u tl h uh)))) (omega (arith, (exp_room u ul uh).product)))
