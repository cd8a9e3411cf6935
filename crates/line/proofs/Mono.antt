-- The operations keep the order of floats: of a sum, a difference, a product and a quotient, the ends of a range give the ends. No room is asked for: what overflows is an infinity, in order with the rest. Assumes nothing.
use mathlib.Core.Path.{◌≡◌, refl, sym, ap, ◌∙◌, subst}
use Prim.Native.Nat.{ℕ, zero, suc, ◌+◌, ◌-◌, ◌*◌, ◌^◌, ◌≤◌, ◌<◌}
use native.Mathlib.Nat.{mul_comm, mul-le-mul_right, mul-pos, zero-mul, add-mul}
use native.Mathlib.Omega.{arith}
use mathlib.Core.Bool.{Bool, true, false, not, ◌&&◌, ◌||◌, cond}
use lib.Dec.{T, leb, ltb, eqb, leb→le, le→leb, nltb→le}
use lib.Pow.{pow_pos}
use lib.Ieee.{binary32, binary64, mul, div, unlike, Float, nan, inf, fin, Format, prec, emax, low, up, down, odd, units, round, neg, sum, add, lt, le, eq, fits, below}
use lib.Ieee.Fits.{round_is, neg-fits}
use lib.Ieee.Order.{drop, kept, round_mono}
use lib.Ieee.Scale.{finite, round_same}
use lib.Ieee.Positive.{positive, value_pos}
use Rattle.line.proofs.Units.{Is, add_is, neg_is, mul_is, div_is, lt_is, eq_is}
use Rattle.line.proofs.Places.{Pos, spot, spot_pos, eqb_sym, le_pos, lt_pos, sum_pos}
use Rattle.line.proofs.Rounds.{sign, fits_sized, has_finite}

-- ---- ±a is at most ±b
abbrev pub Under : Bool → ℕ → Bool → ℕ → Type 0
Under false a false b = a ≤ b
Under false a true b = a + b ≡ 0
Under true a false b = 0 ≤ a + b
Under true a true b = b ≤ a

-- what is at most m in size lies from -m to m
pub under_minus : (m : ℕ) (s : Bool) (q : ℕ) → q ≤ m → Under true m s q
under_minus m false q h = omega arith
under_minus m true q h = h

pub under_plus : (m : ℕ) (s : Bool) (q : ℕ) → q ≤ m → Under s q false m
under_plus m false q h = h
under_plus m true q h = omega arith

pub pos_under : (o : ℕ) (s : Bool) (q : ℕ) (t : Bool) (r p p' : ℕ) → Pos o s q p → Pos o t r p' → p ≤ p' → Under s q t r
pos_under o false q false r p p' h k l = omega arith
pos_under o false q true r p p' h k l = omega arith
pos_under o true q false r p p' h k l = omega arith
pos_under o true q true r p p' h k l = omega arith

pub under_pos : (o : ℕ) (s : Bool) (q : ℕ) (t : Bool) (r p p' : ℕ) → Pos o s q p → Pos o t r p' → Under s q t r → p ≤ p'
under_pos o false q false r p p' h k l = omega arith
under_pos o false q true r p p' h k l = omega arith
under_pos o true q false r p p' h k l = omega arith
under_pos o true q true r p p' h k l = omega arith

le_at : (f : Format) (x y : Float) (s : Bool) (q : ℕ) (t : Bool) (r o p p' : ℕ) → Is f x s q → Is f y t r → Pos o s q p → Pos o t r p' → le x y ≡ leb p p'
unfolding le
le_at f x y s q t r o p p' h k a b =
    ap (λ (z : Bool). z || eq x y) (lt_is f x y s q t r h k)
    ∙ ap (λ (z : Bool). below s q t r || z) (eq_is f x y s q t r h k)
    ∙ le_pos o s q t r p p' a b

left : (q r : ℕ) → q ≤ q + r
left q r = omega arith

right : (q r : ℕ) → r ≤ q + r
right q r = omega arith

pub le→under : (f : Format) (x y : Float) (s : Bool) (q : ℕ) (t : Bool) (r : ℕ) → Is f x s q → Is f y t r → T (le x y) → Under s q t r
le→under f x y s q t r h k l =
    let o = q + r in
    let a = spot_pos o s q (left q r) in
    let b = spot_pos o t r (right q r) in
    pos_under o s q t r (spot o s q) (spot o t r) a b (leb→le (spot o s q) (spot o t r) (subst T (le_at f x y s q t r o (spot o s q) (spot o t r) h k a b) l))

pub under→le : (f : Format) (x y : Float) (s : Bool) (q : ℕ) (t : Bool) (r : ℕ) → Is f x s q → Is f y t r → Under s q t r → T (le x y)
under→le f x y s q t r h k l =
    let o = q + r in
    let a = spot_pos o s q (left q r) in
    let b = spot_pos o t r (right q r) in
    subst T (sym (le_at f x y s q t r o (spot o s q) (spot o t r) h k a b)) (le→leb (spot o s q) (spot o t r) (under_pos o s q t r (spot o s q) (spot o t r) a b l))

under_trans : (s : Bool) (q : ℕ) (t : Bool) (r : ℕ) (u : Bool) (w : ℕ) → Under s q t r → Under t r u w → Under s q u w
under_trans false q false r false w h k = omega arith
under_trans false q false r true w h k = omega arith
under_trans false q true r false w h k = omega arith
under_trans false q true r true w h k = omega arith
under_trans true q false r false w h k = omega arith
under_trans true q false r true w h k = omega arith
under_trans true q true r false w h k = omega arith
under_trans true q true r true w h k = omega arith

-- ---- rounding keeps that order
neg_odd : (d : ℕ) (q k l : ℕ) → odd d true q k l ≡ neg (odd d false q k l)
unfolding odd neg
neg_odd d zero k l = refl
neg_odd d (suc q) k l = refl

neg_units : (f : Format) (q k : ℕ) → units f true q k ≡ neg (units f false q k)
unfolding units
neg_units f q k = go (ltb (q * 2 ^ k) (2 ^ (low f + suc (emax f))))
  where
    go : (b : Bool) → cond b (odd (suc (prec f)) true q k (low f)) (inf true) ≡ neg (cond b (odd (suc (prec f)) false q k (low f)) (inf false))
    go true = neg_odd (suc (prec f)) q k (low f)
    go false = unfold neg in refl

pub neg_round : (f : Format) (a c : ℕ) → round f true a c ≡ neg (round f false a c)
neg_round f a c =
    round_is f true a c
    ∙ neg_units f (kept (prec f) (a * 2 ^ low f) c) (drop (prec f) (a * 2 ^ low f) c)
    ∙ ap neg (sym (round_is f false a c))

-- not negative, nor a NaN
abbrev plus : Float → Bool
plus nan = false
plus (inf s) = not s
plus (fin s m e) = not s

plus_odd : (d q k l : ℕ) → T (plus (odd d false q k l))
unfolding odd
plus_odd d zero k l = tt
plus_odd d (suc q) k l = tt

plus_units : (f : Format) (q k : ℕ) → T (plus (units f false q k))
unfolding units
plus_units f q k = go (ltb (q * 2 ^ k) (2 ^ (low f + suc (emax f))))
  where
    go : (b : Bool) → T (plus (cond b (odd (suc (prec f)) false q k (low f)) (inf false)))
    go true = plus_odd (suc (prec f)) q k (low f)
    go false = tt

plus_round : (f : Format) (a c : ℕ) → T (plus (round f false a c))
plus_round f a c = subst (λ (z : Float). T (plus z)) (sym (round_is f false a c)) (plus_units f (kept (prec f) (a * 2 ^ low f) c) (drop (prec f) (a * 2 ^ low f) c))

le_neg_plus : (x y : Float) → T (plus x) → T (plus y) → T (le (neg x) y)
unfolding le neg
le_neg_plus nan y a b = absurd a
le_neg_plus (inf true) y a b = absurd a
le_neg_plus (inf false) nan a b = absurd b
le_neg_plus (inf false) (inf true) a b = absurd b
le_neg_plus (inf false) (inf false) a b = tt
le_neg_plus (inf false) (fin t n d) a b = tt
le_neg_plus (fin true m e) y a b = absurd a
le_neg_plus (fin false m e) nan a b = absurd b
le_neg_plus (fin false m e) (inf true) a b = absurd b
le_neg_plus (fin false m e) (inf false) a b = tt
le_neg_plus (fin false m e) (fin true n d) a b = absurd b
le_neg_plus (fin false m e) (fin false n d) a b =
    let q = m * up e * down d in
    let r = n * up d * down e in
    subst T (sym (le_pos q true q false r 0 (q + r) (zero_add' q) refl)) (le→leb 0 (q + r) (nought (q + r)))
  where
    zero_add' : (x : ℕ) → 0 + x ≡ x
    zero_add' x = omega arith

    nought : (x : ℕ) → 0 ≤ x
    nought x = omega arith

le_neg_neg : (x y : Float) → T (plus x) → T (plus y) → T (le x y) → T (le (neg y) (neg x))
unfolding le neg
le_neg_neg nan y a b l = absurd a
le_neg_neg (inf true) y a b l = absurd a
le_neg_neg (inf false) nan a b l = absurd b
le_neg_neg (inf false) (inf true) a b l = absurd b
le_neg_neg (inf false) (inf false) a b l = tt
le_neg_neg (inf false) (fin t n d) a b l = absurd l
le_neg_neg (fin true m e) y a b l = absurd a
le_neg_neg (fin false m e) nan a b l = absurd b
le_neg_neg (fin false m e) (inf true) a b l = absurd b
le_neg_neg (fin false m e) (inf false) a b l = tt
le_neg_neg (fin false m e) (fin true n d) a b l = absurd b
le_neg_neg (fin false m e) (fin false n d) a b l = subst T (both' (m * up e * down d) (n * up d * down e)) l
  where
    both' : (q r : ℕ) → ltb q r || (eqb q r && true) ≡ ltb q r || (eqb r q && true)
    both' q r = ap (λ (z : Bool). ltb q r || (z && true)) (eqb_sym q r)

zero_sum : (a b : ℕ) → a + b ≡ 0 → (a ≡ 0) × (b ≡ 0)
zero_sum a b h = (omega arith, omega arith)

round_nought : (f : Format) (s : Bool) (c : ℕ) → 0 < c → round f s 0 c ≡ round f s 0 1
round_nought f s c C = round_same f s 0 c 0 1 C (pow_pos 0) (zero-mul 1 ∙ sym (zero-mul c))

nought_le : (f : Format) → T (le (round f false 0 1) (round f true 0 1))
unfolding round le
nought_le binary32 = tt
nought_le binary64 = tt

pub round_le : (f : Format) (s : Bool) (a : ℕ) (t : Bool) (b c : ℕ) → 0 < c → Under s a t b → T (le (round f s a c) (round f t b c))
round_le f false a false b c C h = round_mono f a c b c C C (mul-le-mul_right c h)
round_le f true a true b c C h =
    subst (λ (z : Float). T (le z (round f true b c))) (sym (neg_round f a c))
    (subst (λ (z : Float). T (le (neg (round f false a c)) z)) (sym (neg_round f b c))
    (le_neg_neg (round f false b c) (round f false a c) (plus_round f b c) (plus_round f a c) (round_mono f b c a c C C (mul-le-mul_right c h))))
round_le f true a false b c C h = subst (λ (z : Float). T (le z (round f false b c))) (sym (neg_round f a c)) (le_neg_plus (round f false a c) (round f false b c) (plus_round f a c) (plus_round f b c))
round_le f false a true b c C h =
    let e = zero_sum a b h in
    subst (λ (z : Float). T (le z (round f true b c))) (sym (ap (λ (z : ℕ). round f false z c) e.0 ∙ round_nought f false c C))
    (subst (λ (z : Float). T (le (round f false 0 1) z)) (sym (ap (λ (z : ℕ). round f true z c) e.1 ∙ round_nought f true c C)) (nought_le f))

-- ---- the operations, on finite values that the format holds
abbrev pub Good : Format → Float → Type 0
Good f x = T (fits f x) × T (finite x)

abbrev pub units_of : (f : Format) (x : Float) → Good f x → ℕ
units_of f x g = (fits_sized f x g.0 g.1).size_of

pub good_is : (f : Format) (x : Float) (g : Good f x) → Is f x (sign x) (units_of f x g)
good_is f x g = (fits_sized f x g.0 g.1).is

pub good_under : (f : Format) (x y : Float) (g : Good f x) (h : Good f y) → T (le x y) → Under (sign x) (units_of f x g) (sign y) (units_of f y h)
good_under f x y g h l = le→under f x y (sign x) (units_of f x g) (sign y) (units_of f y h) (good_is f x g) (good_is f y h) l

pub le_trans_good : (f : Format) (x y z : Float) → Good f x → Good f y → Good f z → T (le x y) → T (le y z) → T (le x z)
le_trans_good f x y z g h i l m =
    under→le f x z (sign x) (units_of f x g) (sign z) (units_of f z i) (good_is f x g) (good_is f z i)
    (under_trans (sign x) (units_of f x g) (sign y) (units_of f y h) (sign z) (units_of f z i) (good_under f x y g h l) (good_under f y z h i m))

-- the sum
sum_at_places : (f : Format) (o l : ℕ) → 0 < l → (s : Bool) (q : ℕ) (t : Bool) (r : ℕ) (s' : Bool) (q' : ℕ) (t' : Bool) (r' p w p' w' : ℕ)
    → Pos o s q p → Pos o t r w → Pos o s' q' p' → Pos o t' r' w' → p ≤ p' → w ≤ w' → o ≤ p + w → T (le (sum f s q t r l) (sum f s' q' t' r' l))
sum_at_places f o l L s q t r s' q' t' r' p w p' w' a b a' b' h k m =
    finish (sum_pos f o l s q t r p w (p + w - o) a b (omega arith)) (sum_pos f o l s' q' t' r' p' w' (p' + w' - o) a' b' (omega arith)) (omega arith)
  where
    finish : {x y : Float} {z z' : ℕ} → (u : Bool) × (n : ℕ) × (x ≡ round f u n l) × Pos o u n z → (u : Bool) × (n : ℕ) × (y ≡ round f u n l) × Pos o u n z' → z ≤ z' → T (le x y)
    finish {x} {y} {z} {z'} v v' i =
        subst (λ (c : Float). T (le c y)) (sym v.2)
        (subst (λ (c : Float). T (le (round f v.0 v.1 l) c)) (sym v'.2)
        (round_le f v.0 v.1 v'.0 v'.1 l L (pos_under o v.0 v.1 v'.0 v'.1 z z' v.3 v'.3 i)))

far : (o : ℕ) (s : Bool) (q : ℕ) → 2 * q ≤ o → o ≤ 2 * spot o s q
far o false q h = omega arith
far o true q h = omega arith

sum_le : (f : Format) (l : ℕ) → 0 < l → (s : Bool) (q : ℕ) (t : Bool) (r : ℕ) (s' : Bool) (q' : ℕ) (t' : Bool) (r' : ℕ)
    → Under s q s' q' → Under t r t' r' → T (le (sum f s q t r l) (sum f s' q' t' r' l))
sum_le f l L s q t r s' q' t' r' h k = go (2 * (q + r + q' + r')) (omega arith) (omega arith) (omega arith) (omega arith)
  where
    halves : (o p w : ℕ) → o ≤ 2 * p → o ≤ 2 * w → o ≤ p + w
    halves o p w a b = omega arith

    go : (o : ℕ) → 2 * q ≤ o → 2 * r ≤ o → 2 * q' ≤ o → 2 * r' ≤ o → T (le (sum f s q t r l) (sum f s' q' t' r' l))
    go o x y x' y' =
        let a = spot_pos o s q (omega arith) in
        let b = spot_pos o t r (omega arith) in
        let a' = spot_pos o s' q' (omega arith) in
        let b' = spot_pos o t' r' (omega arith) in
        sum_at_places f o l L s q t r s' q' t' r' (spot o s q) (spot o t r) (spot o s' q') (spot o t' r') a b a' b'
        (under_pos o s q s' q' (spot o s q) (spot o s' q') a a' h) (under_pos o t r t' r' (spot o t r) (spot o t' r') b b' k)
        (halves o (spot o s q) (spot o t r) (far o s q x) (far o t r y))

pub add_le : (f : Format) (x y x' y' : Float) → Good f x → Good f y → Good f x' → Good f y' → T (le x x') → T (le y y') → T (le (add f x y) (add f x' y'))
add_le f x y x' y' g h g' h' l m =
    let e = add_is f x y (sign x) (units_of f x g) (sign y) (units_of f y h) (good_is f x g) (good_is f y h) in
    let e' = add_is f x' y' (sign x') (units_of f x' g') (sign y') (units_of f y' h') (good_is f x' g') (good_is f y' h') in
    subst (λ (z : Float). T (le z (add f x' y'))) (sym e)
    (subst (λ (z : Float). T (le (sum f (sign x) (units_of f x g) (sign y) (units_of f y h) (2 ^ low f)) z)) (sym e')
    (sum_le f (2 ^ low f) (pow_pos (low f)) (sign x) (units_of f x g) (sign y) (units_of f y h) (sign x') (units_of f x' g') (sign y') (units_of f y' h')
    (good_under f x x' g g' l) (good_under f y y' h h' m)))

-- the negative
under_neg : (s : Bool) (q : ℕ) (t : Bool) (r : ℕ) → Under s q t r → Under (not t) r (not s) q
under_neg false q false r h = h
under_neg false q true r h = omega arith
under_neg true q false r h = omega arith
under_neg true q true r h = h

pub neg_le : (f : Format) (x y : Float) → Good f x → Good f y → T (le x y) → T (le (neg y) (neg x))
neg_le f x y g h l =
    under→le f (neg y) (neg x) (not (sign y)) (units_of f y h) (not (sign x)) (units_of f x g)
    (neg_is f y (sign y) (units_of f y h) (good_is f y h)) (neg_is f x (sign x) (units_of f x g) (good_is f x g))
    (under_neg (sign x) (units_of f x g) (sign y) (units_of f y h) (good_under f x y g h l))

pub neg_good : (f : Format) (x : Float) → Good f x → Good f (neg x)
neg_good f x g = (neg-fits f x g.0, has_finite (neg x) (not (sign x)) (units_of f x g) (2 ^ low f) (neg_is f x (sign x) (units_of f x g) (good_is f x g)))

-- the product
zero_times : (a b r : ℕ) → a + b ≡ 0 → a * r + b * r ≡ 0
zero_times a b r h = sym (add-mul a b r) ∙ ap (λ (z : ℕ). z * r) h ∙ zero-mul r

nought_le_any : (x : ℕ) → 0 ≤ x
nought_le_any x = omega arith

under_mul : (r : ℕ) (s : Bool) (q : ℕ) (s' : Bool) (q' : ℕ) → Under s q s' q' → Under (unlike s false) (q * r) (unlike s' false) (q' * r)
under_mul r false q false q' h = mul-le-mul_right r h
under_mul r false q true q' h = zero_times q q' r h
under_mul r true q false q' h = nought_le_any (q * r + q' * r)
under_mul r true q true q' h = mul-le-mul_right r h

under_turn : (r : ℕ) (s : Bool) (q : ℕ) (s' : Bool) (q' : ℕ) → Under s q s' q' → Under (unlike s' true) (q' * r) (unlike s true) (q * r)
under_turn r false q false q' h = mul-le-mul_right r h
under_turn r false q true q' h = zero_times q' q r (omega arith)
under_turn r true q false q' h = nought_le_any (q' * r + q * r)
under_turn r true q true q' h = mul-le-mul_right r h

mul_le_at : (f : Format) (x x' y : Float) (g : Good f x) (g' : Good f x') (h : Good f y) → T (le x x') → (t : Bool) → sign y ≡ t
    → T (cond t (le (mul f x' y) (mul f x y)) (le (mul f x y) (mul f x' y)))
mul_le_at f x x' y g g' h l false e =
    let r = units_of f y h in
    let k = subst (λ (w : Bool). Is f y w r) e (good_is f y h) in
    let a = mul_is f x y (sign x) (units_of f x g) false r (good_is f x g) k in
    let b = mul_is f x' y (sign x') (units_of f x' g') false r (good_is f x' g') k in
    subst (λ (z : Float). T (le z (mul f x' y))) (sym a)
    (subst (λ (z : Float). T (le (round f (unlike (sign x) false) (units_of f x g * r) (2 ^ low f * 2 ^ low f)) z)) (sym b)
    (round_le f (unlike (sign x) false) (units_of f x g * r) (unlike (sign x') false) (units_of f x' g' * r) (2 ^ low f * 2 ^ low f) (mul-pos (pow_pos (low f)) (pow_pos (low f)))
    (under_mul r (sign x) (units_of f x g) (sign x') (units_of f x' g') (good_under f x x' g g' l))))
mul_le_at f x x' y g g' h l true e =
    let r = units_of f y h in
    let k = subst (λ (w : Bool). Is f y w r) e (good_is f y h) in
    let a = mul_is f x y (sign x) (units_of f x g) true r (good_is f x g) k in
    let b = mul_is f x' y (sign x') (units_of f x' g') true r (good_is f x' g') k in
    subst (λ (z : Float). T (le z (mul f x y))) (sym b)
    (subst (λ (z : Float). T (le (round f (unlike (sign x') true) (units_of f x' g' * r) (2 ^ low f * 2 ^ low f)) z)) (sym a)
    (round_le f (unlike (sign x') true) (units_of f x' g' * r) (unlike (sign x) true) (units_of f x g * r) (2 ^ low f * 2 ^ low f) (mul-pos (pow_pos (low f)) (pow_pos (low f)))
    (under_turn r (sign x) (units_of f x g) (sign x') (units_of f x' g') (good_under f x x' g g' l))))

-- of x * y between a * y and b * y: in order where y is not negative, turned round where it is
pub mul_up : (f : Format) (x x' y : Float) → Good f x → Good f x' → Good f y → sign y ≡ false → T (le x x') → T (le (mul f x y) (mul f x' y))
mul_up f x x' y g g' h e l = mul_le_at f x x' y g g' h l false e

pub mul_down : (f : Format) (x x' y : Float) → Good f x → Good f x' → Good f y → sign y ≡ true → T (le x x') → T (le (mul f x' y) (mul f x y))
mul_down f x x' y g g' h e l = mul_le_at f x x' y g g' h l true e

pub mul_swap : (f : Format) (x y : Float) → Good f x → Good f y → mul f x y ≡ mul f y x
mul_swap f x y g h =
    let q = units_of f x g in
    let r = units_of f y h in
    let c = 2 ^ low f * 2 ^ low f in
    mul_is f x y (sign x) q (sign y) r (good_is f x g) (good_is f y h)
    ∙ ap (λ (z : ℕ). round f (unlike (sign x) (sign y)) z c) (mul_comm q r)
    ∙ ap (λ (w : Bool). round f w (r * q) c) (unlike_comm (sign x) (sign y))
    ∙ sym (mul_is f y x (sign y) r (sign x) q (good_is f y h) (good_is f x g))
  where
    unlike_comm : (s t : Bool) → unlike s t ≡ unlike t s
    unlike_comm false false = refl
    unlike_comm false true = refl
    unlike_comm true false = refl
    unlike_comm true true = refl

-- the quotient
same_sign : (s : Bool) (q : ℕ) (s' : Bool) (q' : ℕ) → Under s q s' q' → Under (unlike s false) q (unlike s' false) q'
same_sign false q false q' h = h
same_sign false q true q' h = h
same_sign true q false q' h = h
same_sign true q true q' h = h

pub div_le : (f : Format) (x x' y : Float) → Good f x → Good f x' → Good f y → T (positive y) → T (le x x') → T (le (div f x y) (div f x' y))
div_le f x x' y g g' h p l =
    let r = units_of f y h in
    let k = subst (λ (w : Bool). Is f y w r) (positive_sign y p) (good_is f y h) in
    let R = value_pos y r (2 ^ low f) p (pow_pos (low f)) k in
    let a = div_is f x y (sign x) (units_of f x g) false r (good_is f x g) k R in
    let b = div_is f x' y (sign x') (units_of f x' g') false r (good_is f x' g') k R in
    subst (λ (z : Float). T (le z (div f x' y))) (sym a)
    (subst (λ (z : Float). T (le (round f (unlike (sign x) false) (units_of f x g) r) z)) (sym b)
    (round_le f (unlike (sign x) false) (units_of f x g) (unlike (sign x') false) (units_of f x' g') r R
    (same_sign (sign x) (units_of f x g) (sign x') (units_of f x' g') (good_under f x x' g g' l))))
  where
    positive_sign : (y : Float) → T (positive y) → sign y ≡ false
    positive_sign nan p = absurd p
    positive_sign (inf s) p = absurd p
    positive_sign (fin true m e) p = absurd p
    positive_sign (fin false m e) p = refl

-- ---- a test that fails
pub lt_at : (f : Format) (x y : Float) (s : Bool) (q : ℕ) (t : Bool) (r o p p' : ℕ) → Is f x s q → Is f y t r → Pos o s q p → Pos o t r p' → lt x y ≡ ltb p p'
lt_at f x y s q t r o p p' h k a b = lt_is f x y s q t r h k ∙ lt_pos o s q t r p p' a b

pub nlt→le : (f : Format) (x y : Float) → Good f x → Good f y → T (not (lt y x)) → T (le x y)
nlt→le f x y g h n =
    let q = units_of f x g in
    let r = units_of f y h in
    let o = q + r in
    let a = spot_pos o (sign x) q (left q r) in
    let b = spot_pos o (sign y) r (right q r) in
    subst T (sym (le_at f x y (sign x) q (sign y) r o (spot o (sign x) q) (spot o (sign y) r) (good_is f x g) (good_is f y h) a b))
    (le→leb (spot o (sign x) q) (spot o (sign y) r)
    (nltb→le (spot o (sign y) r) (spot o (sign x) q) (subst (λ (w : Bool). T (not w)) (lt_at f y x (sign y) r (sign x) q o (spot o (sign y) r) (spot o (sign x) q) (good_is f y h) (good_is f x g) b a) n)))
