-- Rounding on the line of places: it crosses no value that the format holds, and moves by half a unit in the last place at most. Assumes nothing.
use mathlib.Core.Path.{◌≡◌, refl, sym, ap, ◌∙◌, subst}
use Prim.Native.Nat.{ℕ, zero, suc, ◌+◌, ◌-◌, ◌*◌, ◌/◌, ◌%◌, ◌^◌, ◌≤◌, ◌<◌, compare, Ordering}
use native.Mathlib.Nat.{le_of_suc-le-suc, lt_of_not-le, zero-mul, mul-lt-mul_of_pos_right, lt_of_mul-lt-mul_right, mod-lt, le_trans, le_of_eq, lt_of_lt_of_le, not-le_of_lt, mul-one, mul_comm, mul_assoc, mul_right_comm, mul-le-mul_right, le_of_mul-le-mul_right, eq_of_mul-eq-mul_right, mul-pos, add-mul, suc-mul, sub-add_cancel, le-add_left, div-lt_iff_lt-mul, div-add-mod', pow-succ'}
use native.Mathlib.Omega.{arith}
use mathlib.Core.Bool.{Bool, true, false, not, ◌&&◌, ◌||◌}
use lib.IntN.{ℤ, pos, negsuc}
use lib.Dec.{T, is_le, compare_is_eq, leb, ltb, eqb, ltb→lt, leb→le, nleb→lt, eqb→eq, eqb_refl}
use lib.Arith.{lt_of_le-ne}
use lib.Pow.{pow-add, pow_pos, pow_mono, pow-lt}
use lib.Ieee.{Float, nan, inf, fin, Format, prec, emax, low, up, down, size, nearest, round, le, eq, fits, below}
use lib.Ieee.Fits.{down_pos, and_l, and_r, round_is, nearest-le}
use lib.Ieee.Exact.{HasValue, round_exact, units_val}
use lib.Ieee.Nearest.{closest, nearest-ge}
use lib.Ieee.Digits.{size-le}
use lib.Ieee.Order.{drop, kept, round_mono}
use lib.Ieee.Scale.{round_val, round_under, grid, overflow, finite}
use Rattle.line.proofs.Units.{Is, lt_is, eq_is}
use Rattle.line.proofs.Places.{le_pos}

-- ---- what `compare` says
abbrev Cmp : Ordering → ℕ → ℕ → Type 0
Cmp Ordering.lt a b = a < b
Cmp Ordering.eq a b = a ≡ b
Cmp Ordering.gt a b = b < a

cmp : (a b : ℕ) → Cmp (compare a b) a b
cmp a b = go (compare a b) (leb→le a b) (nleb→lt a b) (eqb→eq a b) (λ (e : a ≡ b). subst (λ (x : ℕ). T (eqb a x)) e (eqb_refl a))
  where
    go : (o : Ordering) → (T (is_le o) → a ≤ b) → (T (not (is_le o)) → b < a) → (T (compare_is_eq o) → a ≡ b) → (a ≡ b → T (compare_is_eq o)) → Cmp o a b
    go Ordering.lt h k e n = lt_of_le-ne (h tt) n
    go Ordering.eq h k e n = e tt
    go Ordering.gt h k e n = k tt

-- ---- the nearest whole number to a / b is within a half of it
near_at : (o : Ordering) (w r b n : ℕ) → r < b → Cmp o (r * 2) b → nearest w o * b ≡ n → (2 * n ≤ 2 * (w * b + r) + b) × (2 * (w * b + r) ≤ 2 * n + b)
near_at Ordering.lt w r b n B c e = omega arith
near_at Ordering.eq w r b n B c e =
    let lo : w * b ≤ n = le_trans (mul-le-mul_right b (nearest-ge w Ordering.eq)) (le_of_eq e) in
    let hi : n ≤ suc w * b = le_trans (le_of_eq (sym e)) (mul-le-mul_right b (nearest-le w Ordering.eq)) in
    omega (arith, suc-mul w b)
near_at Ordering.gt w r b n B c e = omega (arith, suc-mul w b)

closest_near : (a b : ℕ) → 0 < b → (2 * (closest a b * b) ≤ 2 * a + b) × (2 * a ≤ 2 * (closest a b * b) + b)
closest_near a b B =
    let h = near_at (compare (a % b * 2) b) (a / b) (a % b) b (closest a b * b) (mod-lt a B) (cmp (a % b * 2) b) refl in
    subst (λ (z : ℕ). (2 * (closest a b * b) ≤ 2 * z + b) × (2 * z ≤ 2 * (closest a b * b) + b)) (div-add-mod' a b) h

-- ---- half a unit in the last place: a / c below 2 ^ (prec + j) of the smallest values is rounded by half of 2 ^ j of them at most
pub grid_near : (f : Format) (a c j : ℕ) → 0 < c → a * 2 ^ low f < 2 ^ (prec f + j) * c
    → (2 * (grid f a c * c) ≤ 2 * (a * 2 ^ low f) + 2 ^ j * c) × (2 * (a * 2 ^ low f) ≤ 2 * (grid f a c * c) + 2 ^ j * c)
grid_near f a c j C h =
    let n = a * 2 ^ low f in
    let k = drop (prec f) n c in
    let q = closest n (c * 2 ^ k) in
    let K : k ≤ j = cut (size (n / c)) (prec f) j (size-le (n / c) (prec f + j) ((div-lt_iff_lt-mul C).1 h)) in
    let e : q * (c * 2 ^ k) ≡ q * 2 ^ k * c = ap (λ (z : ℕ). q * z) (mul_comm c (2 ^ k)) ∙ sym (mul_assoc q (2 ^ k) c) in
    let u : c * 2 ^ k ≤ 2 ^ j * c = le_trans (le_of_eq (mul_comm c (2 ^ k))) (mul-le-mul_right c (pow_mono K)) in
    finish (q * (c * 2 ^ k)) (q * 2 ^ k * c) n (c * 2 ^ k) (2 ^ j * c) e (closest_near n (c * 2 ^ k) (mul-pos C (pow_pos k))) u
  where
    cut : (z p j : ℕ) → z ≤ p + j → z - p ≤ j
    cut z p j h = omega arith

    finish : (r r' n u v : ℕ) → r ≡ r' → (2 * r ≤ 2 * n + u) × (2 * n ≤ 2 * r + u) → u ≤ v → (2 * r' ≤ 2 * n + v) × (2 * n ≤ 2 * r' + v)
    finish r r' n u v e a m = omega arith

-- n of the format's smallest values, rounded
abbrev pub rnd : Format → ℕ → ℕ
rnd f n = grid f n (2 ^ low f)

pub rnd_near : (f : Format) (n j : ℕ) → n < 2 ^ (prec f + j) → (2 * rnd f n ≤ 2 * n + 2 ^ j) × (2 * n ≤ 2 * rnd f n + 2 ^ j)
rnd_near f n j h =
    let l = 2 ^ low f in
    let L = pow_pos (low f) in
    let v = grid_near f n l j L (mul-lt-mul_of_pos_right h L) in
    (over (rnd f n) n (2 ^ j) l L v.0, over n (rnd f n) (2 ^ j) l L v.1)
  where
    over : (a b u l : ℕ) → 0 < l → 2 * (a * l) ≤ 2 * (b * l) + u * l → 2 * a ≤ 2 * b + u
    over a b u l L h = le_of_mul-le-mul_right {k = l} (simp (add-mul, mul_assoc) h) L

-- j is any number of digits past the precision that the format still has room for
abbrev pub Room : Format → ℕ → Type 0
Room f j = suc (prec f + j) ≤ low f + suc (emax f)

pub rnd_under : (f : Format) (n j : ℕ) → Room f j → n < 2 ^ (prec f + j) → rnd f n < overflow f
rnd_under f n j R h =
    let v = (rnd_near f n j h).0 in
    let m : 2 ^ suc (prec f + j) ≤ overflow f = pow_mono R in
    let d : 2 ^ suc (prec f + j) ≡ 2 * 2 ^ (prec f + j) = pow-succ' 2 (prec f + j) in
    let u : 2 ^ j ≤ 2 ^ (prec f + j) = pow_mono (le-add_left j (prec f)) in
    finish (rnd f n) n (2 ^ j) (2 ^ (prec f + j)) (2 ^ suc (prec f + j)) (overflow f) v h u d m
  where
    finish : (r n u w w' o : ℕ) → 2 * r ≤ 2 * n + u → n < w → u ≤ w → w' ≡ 2 * w → w' ≤ o → r < o
    finish r n u w w' o a b c d e = omega arith

pub round_is_rnd : (f : Format) (s : Bool) (n j : ℕ) → Room f j → n < 2 ^ (prec f + j) → Is f (round f s n (2 ^ low f)) s (rnd f n)
round_is_rnd f s n j R h =
    let l = 2 ^ low f in
    subst (λ (z : Float). HasValue z s (rnd f n) l) (sym (round_is f s n l)) (units_val f s (kept (prec f) (n * l) l) (drop (prec f) (n * l) l) (rnd_under f n j R h))

-- ---- the numbers of smallest values that the format holds
pub record Rep (f : Format) (m : ℕ) : Type 0 where
  pub q : ℕ
  pub j : ℕ
  pub few : q < 2 ^ prec f
  pub is : m ≡ q * 2 ^ j
  pub fine : m < overflow f

pub rep_zero : (f : Format) → Rep f 0
rep_zero f = record { q = 0; j = 0; few = pow_pos (prec f); is = refl; fine = pow_pos (low f + suc (emax f)) }

same_value : (x : Float) (s t : Bool) (a b l : ℕ) → HasValue x s a l → HasValue x t b l → a ≡ b
same_value nan s t a b l h k = absurd h
same_value (inf u) s t a b l h k = absurd h
same_value (fin u m e) s t a b l h k = eq_of_mul-eq-mul_right (down e) (down_pos e) a b (sym h.1 ∙ k.1)

pub has_finite : (x : Float) (s : Bool) (a l : ℕ) → HasValue x s a l → T (finite x)
has_finite nan s a l h = absurd h
has_finite (inf u) s a l h = absurd h
has_finite (fin u m e) s a l h = tt

pub exact_at : (f : Format) (s : Bool) (m : ℕ) → Rep f m → Is f (round f s m (2 ^ low f)) s m
exact_at f s m r =
    round_exact f s m (2 ^ low f) r.q r.j (pow_pos (low f)) r.few (subst (λ (z : ℕ). z < overflow f) r.is r.fine) (ap (λ (z : ℕ). z * 2 ^ low f) r.is)

rep_under : (f : Format) (m : ℕ) → Rep f m → rnd f m < overflow f
rep_under f m r = round_under f m (2 ^ low f) (has_finite (round f false m (2 ^ low f)) false m (2 ^ low f) (exact_at f false m r))

rnd_exact : (f : Format) (m : ℕ) → Rep f m → rnd f m ≡ m
rnd_exact f m r = same_value (round f false m (2 ^ low f)) false false (rnd f m) m (2 ^ low f) (round_val f m (2 ^ low f) (rep_under f m r)) (exact_at f false m r)

le_in : (f : Format) (x y : Float) (a b : ℕ) → Is f x false a → Is f y false b → T (le x y) → a ≤ b
unfolding le
le_in f x y a b h k t =
    leb→le a b (subst T (ap (λ (z : Bool). z || eq x y) (lt_is f x y false a false b h k) ∙ ap (λ (z : Bool). below false a false b || z) (eq_is f x y false a false b h k) ∙ le_pos 0 false a false b a b (zero_add' a) (zero_add' b)) t)
  where
    zero_add' : (x : ℕ) → x ≡ 0 + x
    zero_add' x = omega arith

rnd_mono : (f : Format) (a b : ℕ) → rnd f a < overflow f → rnd f b < overflow f → a ≤ b → rnd f a ≤ rnd f b
rnd_mono f a b A B h =
    let l = 2 ^ low f in
    le_in f (round f false a l) (round f false b l) (rnd f a) (rnd f b) (round_val f a l A) (round_val f b l B) (round_mono f a l b l (pow_pos (low f)) (pow_pos (low f)) (mul-le-mul_right l h))

-- rounding crosses no value that the format holds
pub rnd_below : (f : Format) (n m : ℕ) → rnd f n < overflow f → Rep f m → n ≤ m → rnd f n ≤ m
rnd_below f n m U r h = le_trans (rnd_mono f n m U (rep_under f m r) h) (le_of_eq (rnd_exact f m r))

pub rnd_above : (f : Format) (n m : ℕ) → rnd f n < overflow f → Rep f m → m ≤ n → m ≤ rnd f n
rnd_above f n m U r h = le_trans (le_of_eq (sym (rnd_exact f m r))) (rnd_mono f m n (rep_under f m r) U h)

-- ---- a value that fits is such a number
pub down_exp : (k l : ℕ) → 2 ^ k ≤ 2 ^ l → k ≤ l
down_exp k l h = le_of_suc-le-suc (lt_of_not-le (λ (g : suc l ≤ k). not-le_of_lt (pow-lt g) h))

pub record Sized (f : Format) (x : Float) (s : Bool) : Type 0 where
  pub size_of : ℕ
  pub is : Is f x s size_of
  pub rep : Rep f size_of

under_of : (a l q d t o : ℕ) → a * l ≡ q * d → a < t * d → o ≡ l * t → 0 < l → q < o
under_of a l q d t o e h p L =
    subst (λ (z : ℕ). q < z) (mul_comm t l ∙ sym p)
    (lt_of_mul-lt-mul_right d (subst (λ (z : ℕ). z < t * l * d) e (lt_of_lt_of_le (mul-lt-mul_of_pos_right h L) (le_of_eq (mul_right_comm t d l)))))

sized : (f : Format) (s : Bool) (m : ℕ) (e : ℤ) → m < 2 ^ prec f → down e ≤ 2 ^ low f → m * up e < 2 ^ suc (emax f) * down e → Sized f (fin s m e) s
sized f s m (pos k) a b c =
    let q = m * 2 ^ (k + low f) in
    let v : m * 2 ^ k * 2 ^ low f ≡ q * 1 = mul_assoc m (2 ^ k) (2 ^ low f) ∙ ap (λ (z : ℕ). m * z) (sym (pow-add 2 k (low f))) ∙ sym (mul-one q) in
    record { size_of = q; is = (refl, v); rep = record { q = m; j = k + low f; few = a; is = refl; fine = under_of (m * 2 ^ k) (2 ^ low f) q 1 (2 ^ suc (emax f)) (overflow f) v c (pow-add 2 (low f) (suc (emax f))) (pow_pos (low f)) } }
sized f s m (negsuc k) a b c =
    let i = low f - suc k in
    let q = m * 2 ^ i in
    let v : m * 1 * 2 ^ low f ≡ q * 2 ^ suc k =
    ap (λ (z : ℕ). z * 2 ^ low f) (mul-one m) ∙ ap (λ (z : ℕ). m * z) (ap (λ (z : ℕ). 2 ^ z) (sym (sub-add_cancel (down_exp (suc k) (low f) b))) ∙ pow-add 2 i (suc k)) ∙ sym (mul_assoc m (2 ^ i) (2 ^ suc k)) in
    record { size_of = q; is = (refl, v); rep = record { q = m; j = i; few = a; is = refl; fine = under_of (m * 1) (2 ^ low f) q (2 ^ suc k) (2 ^ suc (emax f)) (overflow f) v c (pow-add 2 (low f) (suc (emax f))) (pow_pos (low f)) } }

abbrev pub sign : Float → Bool
sign nan = false
sign (inf s) = s
sign (fin s m e) = s

pub fits_sized : (f : Format) (x : Float) → T (fits f x) → T (finite x) → Sized f x (sign x)
unfolding fits
fits_sized f nan t u = absurd u
fits_sized f (inf s) t u = absurd u
fits_sized f (fin s zero e) t u = record {
  size_of = 0;
  is = (refl, ap (λ (z : ℕ). z * 2 ^ low f) (zero-mul (up e)) ∙ zero-mul (2 ^ low f) ∙ sym (zero-mul (down e)));
  rep = rep_zero f;
}
fits_sized f (fin s (suc m) e) t u =
    let a = eqb (suc m % 2) 1 in
    let b = ltb (suc m) (2 ^ prec f) in
    let c = leb (down e) (2 ^ low f) in
    let d = ltb (suc m * up e) (2 ^ suc (emax f) * down e) in
    sized f s (suc m) e (ltb→lt (suc m) (2 ^ prec f) (and_r a b (and_l (a && b) c (and_l (a && b && c) d t))))
    (leb→le (down e) (2 ^ low f) (and_r (a && b) c (and_l (a && b && c) d t)))
    (ltb→lt (suc m * up e) (2 ^ suc (emax f) * down e) (and_r (a && b && c) d t))

pub rep_same : (f : Format) (x : Float) (s : Bool) (q : ℕ) → T (fits f x) → Is f x s q → Rep f q
rep_same f x s q t h =
    let z = fits_sized f x t (has_finite x s q (2 ^ low f) h) in
    subst (λ (w : ℕ). Rep f w) (same_value x (sign x) s z.size_of q (2 ^ low f) z.is h) z.rep

-- ---- what lies between two finite values is finite
pub finite_between : (lo x hi : Float) → T (finite lo) → T (finite hi) → T (le lo x) → T (le x hi) → T (finite x)
unfolding le
finite_between nan x hi a b t u = absurd a
finite_between (inf s) x hi a b t u = absurd a
finite_between (fin s m e) nan hi a b t u = absurd t
finite_between (fin s m e) (fin w n d) hi a b t u = tt
finite_between (fin s m e) (inf w) nan a b t u = absurd b
finite_between (fin s m e) (inf w) (inf v) a b t u = absurd b
finite_between (fin s m e) (inf true) (fin v n d) a b t u = absurd t
finite_between (fin s m e) (inf false) (fin v n d) a b t u = absurd u
