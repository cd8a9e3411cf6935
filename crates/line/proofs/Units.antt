-- A finite float as a number of its format's smallest values, with its sign: what each operation and each test gives in these units. Assumes nothing.
use mathlib.Core.Path.{◌≡◌, refl, sym, ap, ◌∙◌, subst}
use Prim.Native.Nat.{ℕ, ◌+◌, ◌-◌, ◌*◌, ◌^◌, ◌≤◌, ◌<◌}
use native.Mathlib.Nat.{mul-sub, zero-mul, le_trans, le_of_eq, not-le_of_lt, lt_irrefl, mul_comm, mul_assoc, mul_left_comm, mul_right_comm, mul-mul-mul_comm, mul-le-mul_right, mul-lt-mul_of_pos_right, eq_of_mul-eq-mul_right, mul-pos, add-mul}
use mathlib.Core.Bool.{Bool, true, false, not, ◌&&◌, cond}
use lib.Dec.{T, ltb, eqb, ltb→lt, nltb→le, eqb→eq}
use lib.Pow.{pow_pos}
use lib.Ieee.{below, level, unlike, Float, nan, inf, fin, Format, low, up, down, round, neg, sum, add, mul, div, lt, eq}
use lib.Ieee.Fits.{down_pos, eq→eqb}
use lib.Ieee.Exact.{HasValue}
use lib.Ieee.Positive.{first_pos}
use lib.Ieee.Scale.{round_same}
use Rattle.line.proofs.Bools.{bool_ext}

-- the order of a / c and b / c, where a / c is x / l and b / c is y / l
cross_ltb : (a b c x y l : ℕ) → 0 < c → 0 < l → a * l ≡ x * c → b * l ≡ y * c → ltb a b ≡ ltb x y
cross_ltb a b c x y l C L p q = go (ltb a b) (ltb x y) (ltb→lt a b) (nltb→le a b) (ltb→lt x y) (nltb→le x y)
  where
    go : (s t : Bool) → (T s → a < b) → (T (not s) → b ≤ a) → (T t → x < y) → (T (not t) → y ≤ x) → s ≡ t
    go true true h k i j = refl
    go false false h k i j = refl
    go true false h k i j = absurd (not-le_of_lt (mul-lt-mul_of_pos_right (h tt) L) (le_trans (le_of_eq q) (le_trans (mul-le-mul_right c (j tt)) (le_of_eq (sym p)))))
    go false true h k i j = absurd (not-le_of_lt (mul-lt-mul_of_pos_right (i tt) C) (le_trans (le_of_eq (sym q)) (le_trans (mul-le-mul_right l (k tt)) (le_of_eq p))))

pub sub_mul : (a b c : ℕ) → (a - b) * c ≡ a * c - b * c
sub_mul a b c = mul_comm (a - b) c ∙ mul-sub c a b ∙ ap (λ (z : ℕ). z - c * b) (mul_comm c a) ∙ ap (λ (z : ℕ). a * c - z) (mul_comm c b)

cross_eqb : (a b c x y l : ℕ) → 0 < c → 0 < l → a * l ≡ x * c → b * l ≡ y * c → eqb a b ≡ eqb x y
cross_eqb a b c x y l C L p q =
    bool_ext (eqb a b) (eqb x y)
    (λ h. eq→eqb (eq_of_mul-eq-mul_right c C x y (sym p ∙ ap (λ (z : ℕ). z * l) (eqb→eq a b h) ∙ q)))
    (λ h. eq→eqb (eq_of_mul-eq-mul_right l L a b (p ∙ ap (λ (z : ℕ). z * c) (eqb→eq x y h) ∙ sym q)))

-- ---- the sum of two fractions depends on their values alone
sum_at : (f : Format) (s : Bool) (a : ℕ) (t : Bool) (b c x y l : ℕ) → 0 < c → 0 < l → a * l ≡ x * c → b * l ≡ y * c → sum f s a t b c ≡ sum f s x t y l
unfolding sum
sum_at f s a t b c x y l C L p q =
    let e1 = cross_ltb a b c x y l C L p q in
    let e2 = cross_ltb b a c y x l C L q p in
    let r1 : round f s (a + b) c ≡ round f s (x + y) l = round_same f s (a + b) c (x + y) l C L (add-mul a b l ∙ (cc) ∙ sym (add-mul x y c)) in
    let r2 : round f t (b - a) c ≡ round f t (y - x) l = round_same f t (b - a) c (y - x) l C L (sub_mul b a l ∙ (cc) ∙ sym (sub_mul y x c)) in
    let r3 : round f (s && ltb b a) (a - b) c ≡ round f (s && ltb b a) (x - y) l = round_same f (s && ltb b a) (a - b) c (x - y) l C L (sub_mul a b l ∙ (cc) ∙ sym (sub_mul x y c)) in
    cc

-- ---- x is finite, has the sign s, and is q of the format's smallest values in size
abbrev pub Is : Format → Float → Bool → ℕ → Type 0
Is f x s q = HasValue x s q (2 ^ low f)

-- x's own fraction over the common denominator
common : (m ue de dd q l : ℕ) → m * ue * l ≡ q * de → m * ue * dd * l ≡ q * (de * dd)
common m ue de dd q l p = mul_right_comm (m * ue) dd l ∙ ap (λ (z : ℕ). z * dd) p ∙ mul_assoc q de dd

common' : (m ue de dd q l : ℕ) → m * ue * l ≡ q * de → m * ue * dd * l ≡ q * (dd * de)
common' m ue de dd q l p = common m ue de dd q l p ∙ ap (λ (z : ℕ). q * z) (mul_comm de dd)

pub add_is : (f : Format) (x y : Float) (s : Bool) (q : ℕ) (t : Bool) (r : ℕ) → Is f x s q → Is f y t r → add f x y ≡ sum f s q t r (2 ^ low f)
unfolding add
add_is f nan y s q t r h k = absurd h
add_is f (inf u) y s q t r h k = absurd h
add_is f (fin u m e) nan s q t r h k = absurd k
add_is f (fin u m e) (inf v) s q t r h k = absurd k
add_is f (fin u m e) (fin v n d) s q t r h k =
    sum_at f u (m * up e * down d) v (n * up d * down e) (down e * down d) q r (2 ^ low f) (mul-pos (down_pos e) (down_pos d)) (pow_pos (low f))
    (common m (up e) (down e) (down d) q (2 ^ low f) h.1) (common' n (up d) (down d) (down e) r (2 ^ low f) k.1)
    ∙ ap (λ (w : Bool). sum f w q v r (2 ^ low f)) h.0 ∙ ap (λ (w : Bool). sum f s q w r (2 ^ low f)) k.0

-- ---- the order
below_at : (s : Bool) (a : ℕ) (t : Bool) (b c x y l : ℕ) → 0 < c → 0 < l → a * l ≡ x * c → b * l ≡ y * c → below s a t b ≡ below s x t y
below_at false a false b c x y l C L p q = cross_ltb a b c x y l C L p q
below_at false a true b c x y l C L p q = refl
below_at true a false b c x y l C L p q = cross_ltb 0 (a + b) c 0 (x + y) l C L (zero-mul l ∙ sym (zero-mul c)) (add-mul a b l ∙ (cc) ∙ sym (add-mul x y c))
below_at true a true b c x y l C L p q = cross_ltb b a c y x l C L q p

level_at_lem : (s : Bool) (a : ℕ) (t : Bool) (b c x y l : ℕ) → 0 < c → 0 < l → a * l ≡ x * c → b * l ≡ y * c → level s a t b ≡ level s x t y
level_at_lem s a t b c x y l C L p q =
    let e = cross_eqb a b c x y l C L p q in
    let z = cross_eqb a 0 c x 0 l C L p (zero-mul l ∙ sym (zero-mul c)) in
    cc

pub lt_is : (f : Format) (x y : Float) (s : Bool) (q : ℕ) (t : Bool) (r : ℕ) → Is f x s q → Is f y t r → lt x y ≡ below s q t r
unfolding lt
lt_is f nan y s q t r h k = absurd h
lt_is f (inf u) y s q t r h k = absurd h
lt_is f (fin u m e) nan s q t r h k = absurd k
lt_is f (fin u m e) (inf v) s q t r h k = absurd k
lt_is f (fin u m e) (fin v n d) s q t r h k =
    below_at u (m * up e * down d) v (n * up d * down e) (down e * down d) q r (2 ^ low f) (mul-pos (down_pos e) (down_pos d)) (pow_pos (low f))
    (common m (up e) (down e) (down d) q (2 ^ low f) h.1) (common' n (up d) (down d) (down e) r (2 ^ low f) k.1)
    ∙ ap (λ (w : Bool). below w q v r) h.0 ∙ ap (λ (w : Bool). below s q w r) k.0

pub eq_is : (f : Format) (x y : Float) (s : Bool) (q : ℕ) (t : Bool) (r : ℕ) → Is f x s q → Is f y t r → eq x y ≡ level s q t r
unfolding eq
eq_is f nan y s q t r h k = absurd h
eq_is f (inf u) y s q t r h k = absurd h
eq_is f (fin u m e) nan s q t r h k = absurd k
eq_is f (fin u m e) (inf v) s q t r h k = absurd k
eq_is f (fin u m e) (fin v n d) s q t r h k =
    level_at_lem u (m * up e * down d) v (n * up d * down e) (down e * down d) q r (2 ^ low f) (mul-pos (down_pos e) (down_pos d)) (pow_pos (low f))
    (common m (up e) (down e) (down d) q (2 ^ low f) h.1) (common' n (up d) (down d) (down e) r (2 ^ low f) k.1)
    ∙ ap (λ (w : Bool). level w q v r) h.0 ∙ ap (λ (w : Bool). level s q w r) k.0

-- ---- the negative
pub neg_is : (f : Format) (x : Float) (s : Bool) (q : ℕ) → Is f x s q → Is f (neg x) (not s) q
unfolding neg
neg_is f nan s q h = absurd h
neg_is f (inf t) s q h = absurd h
neg_is f (fin t m e) s q h = (ap not h.0, h.1)

-- ---- the product
pub mul_is : (f : Format) (x y : Float) (s : Bool) (q : ℕ) (t : Bool) (r : ℕ) → Is f x s q → Is f y t r → mul f x y ≡ round f (unlike s t) (q * r) (2 ^ low f * 2 ^ low f)
unfolding mul
mul_is f nan y s q t r h k = absurd h
mul_is f (inf u) y s q t r h k = absurd h
mul_is f (fin u m e) nan s q t r h k = absurd k
mul_is f (fin u m e) (inf v) s q t r h k = absurd k
mul_is f (fin u m e) (fin v n d) s q t r h k =
    round_same f (unlike u v) (m * up e * (n * up d)) (down e * down d) (q * r) (2 ^ low f * 2 ^ low f) (mul-pos (down_pos e) (down_pos d)) (mul-pos (pow_pos (low f)) (pow_pos (low f)))
    (mul-mul-mul_comm (m * up e) (n * up d) (2 ^ low f) (2 ^ low f) ∙ ap (λ (z : ℕ). z * (n * up d * 2 ^ low f)) h.1 ∙ ap (λ (z : ℕ). q * down e * z) k.1 ∙ mul-mul-mul_comm q (down e) r (down d))
    ∙ ap (λ (w : Bool). round f (unlike w v) (q * r) (2 ^ low f * 2 ^ low f)) h.0 ∙ ap (λ (w : Bool). round f (unlike s w) (q * r) (2 ^ low f * 2 ^ low f)) k.0

-- ---- the quotient by what is not zero
cross : (M N q r l de dd : ℕ) → 0 < l → M * l ≡ q * de → N * l ≡ r * dd → M * dd * r ≡ q * (N * de)
cross M N q r l de dd L h k =
    eq_of_mul-eq-mul_right l L (M * dd * r) (q * (N * de))
    (mul_right_comm (M * dd) r l ∙ ap (λ (z : ℕ). z * r) (mul_right_comm M dd l) ∙ ap (λ (z : ℕ). z * dd * r) h ∙ mul_assoc (q * de) dd r ∙ ap (λ (z : ℕ). q * de * z) (mul_comm dd r ∙ sym k)
    ∙ mul_assoc q de (N * l) ∙ ap (λ (z : ℕ). q * z) (mul_left_comm de N l ∙ ap (λ (z : ℕ). N * z) (mul_comm de l) ∙ sym (mul_assoc N l de) ∙ mul_right_comm N l de) ∙ sym (mul_assoc q (N * de) l))

pub div_is : (f : Format) (x y : Float) (s : Bool) (q : ℕ) (t : Bool) (r : ℕ) → Is f x s q → Is f y t r → 0 < r → div f x y ≡ round f (unlike s t) q r
unfolding div
div_is f nan y s q t r h k R = absurd h
div_is f (inf u) y s q t r h k R = absurd h
div_is f (fin u m e) nan s q t r h k R = absurd k
div_is f (fin u m e) (inf v) s q t r h k R = absurd k
div_is f (fin u m e) (fin v n d) s q t r h k R =
    let N : 0 < n * up d = first_pos (n * up d) (2 ^ low f) (subst (λ (z : ℕ). 0 < z) (sym k.1) (mul-pos R (down_pos d))) in
    go (eqb n 0) (λ z. absurd (lt_irrefl 0 (subst (λ (w : ℕ). 0 < w) (eqb→eq n 0 z) (first_pos n (up d) N))))
    ∙ round_same f (unlike u v) (m * up e * down d) (n * up d * down e) q r (mul-pos N (down_pos e)) R (cross (m * up e) (n * up d) q r (2 ^ low f) (down e) (down d) (pow_pos (low f)) h.1 k.1)
    ∙ ap (λ (w : Bool). round f (unlike w v) q r) h.0 ∙ ap (λ (w : Bool). round f (unlike s w) q r) k.0
  where
    go : (b : Bool) → (T b → ⊥) → cond b (cond (eqb m 0) nan (inf (unlike u v))) (round f (unlike u v) (m * up e * down d) (n * up d * down e)) ≡ round f (unlike u v) (m * up e * down d) (n * up d * down e)
    go true z = absurd (z tt)
    go false z = refl
