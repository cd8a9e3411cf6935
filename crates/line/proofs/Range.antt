-- Ranges of floats: x lies from lo to hi. A range of an expression follows from ranges of its parts by tests on the ends alone, which antt computes: `tt` proves them. Assumes nothing.
use Prim.Native.Nat.{ℕ, ◌+◌, ◌-◌, ◌*◌, ◌^◌, ◌≤◌, ◌<◌}
use native.Mathlib.Nat.{mul_assoc, mul-le-mul, mul-le-mul_right, lt_of_mul-lt-mul_right}
use native.Mathlib.Omega.{arith}
use mathlib.Core.Path.{◌≡◌, refl, sym, ap, ◌∙◌, subst}
use mathlib.Core.Bool.{Bool, true, false, not, ◌&&◌, cond}
use lib.Dec.{T, ltb, ltb→lt, nltb→le}
use lib.IntN.{pos}
use lib.Pow.{pow-add, pow_mono}
use lib.Ieee.{mul, div, Float, fin, Format, binary32, neg, add, le, lt, eq, fits}
use lib.Ieee.Fits.{and_i, and_l, and_r, add-fits, mul-fits, div-fits}
use lib.Ieee.Scale.{finite}
use lib.Ieee.Positive.{positive}
use Rattle.line.proofs.Bools.{or_l, or_e}
use Rattle.line.proofs.Units.{Is}
use Rattle.line.proofs.Rounds.{sign, fits_sized, finite_between}
use Rattle.line.proofs.Mono.{Good, under_minus, under_plus, under→le, add_le, neg_le, neg_good, mul_up, mul_down, mul_swap, div_le, le_trans_good, nlt→le}

pub record In (f : Format) (lo hi x : Float) : Type 0 where
  pub low : Good f lo
  pub high : Good f hi
  pub ok : Good f x
  pub from : T (le lo x)
  pub upto : T (le x hi)

-- ---- the tests
abbrev pub good : Format → Float → Bool
good f x = fits f x && finite x

abbrev pub ends : Format → Float → Float → Bool
ends f lo hi = good f lo && good f hi

abbrev pub inside : Float → Float → Float → Bool
inside lo hi z = le lo z && le z hi

pub good_of : (f : Format) (x : Float) → T (good f x) → Good f x
good_of f x t = (and_l (fits f x) (finite x) t, and_r (fits f x) (finite x) t)

-- z lies between u and v, which lie within the ends
pub between : (f : Format) (lo hi u v z : Float) → Good f lo → Good f hi → T (fits f u) → T (fits f v) → T (fits f z) → T (inside lo hi u) → T (inside lo hi v) → T (le u z) → T (le z v) → In f lo hi z
between f lo hi u v z a b fu fv fz i j l m =
    let gu : Good f u = (fu, finite_between lo u hi a.1 b.1 (and_l (le lo u) (le u hi) i) (and_r (le lo u) (le u hi) i)) in
    let gv : Good f v = (fv, finite_between lo v hi a.1 b.1 (and_l (le lo v) (le v hi) j) (and_r (le lo v) (le v hi) j)) in
    let gz : Good f z = (fz, finite_between u z v gu.1 gv.1 l m) in
    record {
      low = a;
      high = b;
      ok = gz;
      from = le_trans_good f lo u z a gu gz (and_l (le lo u) (le u hi) i) l;
      upto = le_trans_good f z v hi gz gv b m (and_r (le lo v) (le v hi) j);
    }

pub in_self : (f : Format) (x : Float) → T (good f x && le x x) → In f x x x
in_self f x t = let g = good_of f x (and_l (good f x) (le x x) t) in record { low = g; high = g; ok = g; from = and_r (good f x) (le x x) t; upto = and_r (good f x) (le x x) t }

-- from the bare facts
pub in_of : (f : Format) (lo hi x : Float) → T (ends f lo hi) → T (fits f x) → T (le lo x) → T (le x hi) → In f lo hi x
in_of f lo hi x t h a b =
    let l = good_of f lo (and_l (good f lo) (good f hi) t) in
    let u = good_of f hi (and_r (good f lo) (good f hi) t) in
    record { low = l; high = u; ok = (h, finite_between lo x hi l.1 u.1 a b); from = a; upto = b }

module _ (f : Format) (lo hi : Float) where
  -- a wider range
  abbrev pub wide_t : Float → Float → Bool
  wide_t a b = ends f lo hi && (inside lo hi a && inside lo hi b)

  pub in_wide : {a b x : Float} → In f a b x → T (wide_t a b) → In f lo hi x
  in_wide {a} {b} {x} h t =
      let e = and_l (ends f lo hi) (inside lo hi a && inside lo hi b) t in
      let k = and_r (ends f lo hi) (inside lo hi a && inside lo hi b) t in
      between f lo hi a b x (good_of f lo (and_l (good f lo) (good f hi) e)) (good_of f hi (and_r (good f lo) (good f hi) e)) h.low.0 h.high.0 h.ok.0
      (and_l (inside lo hi a) (inside lo hi b) k) (and_r (inside lo hi a) (inside lo hi b) k) h.from h.upto

  pub in_cond : {x y : Float} → (b : Bool) → (T b → In f lo hi x) → (T (not b) → In f lo hi y) → In f lo hi (cond b x y)
  in_cond true h k = h tt
  in_cond false h k = k tt

  -- the sum and the difference
  abbrev pub add_t : Float → Float → Float → Float → Bool
  add_t a b c d = ends f lo hi && (inside lo hi (add f a c) && inside lo hi (add f b d))

  pub in_add : {a b c d x y : Float} → In f a b x → In f c d y → T (add_t a b c d) → In f lo hi (add f x y)
  in_add {a} {b} {c} {d} {x} {y} h k t =
      let e = and_l (ends f lo hi) (inside lo hi (add f a c) && inside lo hi (add f b d)) t in
      let i = and_r (ends f lo hi) (inside lo hi (add f a c) && inside lo hi (add f b d)) t in
      between f lo hi (add f a c) (add f b d) (add f x y) (good_of f lo (and_l (good f lo) (good f hi) e)) (good_of f hi (and_r (good f lo) (good f hi) e)) (add-fits f a c) (add-fits f b d) (add-fits f x y)
      (and_l (inside lo hi (add f a c)) (inside lo hi (add f b d)) i) (and_r (inside lo hi (add f a c)) (inside lo hi (add f b d)) i)
      (add_le f a c x y h.low k.low h.ok k.ok h.from k.from) (add_le f x y b d h.ok k.ok h.high k.high h.upto k.upto)

  pub in_neg : {a b x : Float} → In f a b x → T (wide_t (neg a) (neg b)) → In f lo hi (neg x)
  in_neg {a} {b} {x} h t =
      let e = and_l (ends f lo hi) (inside lo hi (neg a) && inside lo hi (neg b)) t in
      let i = and_r (ends f lo hi) (inside lo hi (neg a) && inside lo hi (neg b)) t in
      between f lo hi (neg b) (neg a) (neg x) (good_of f lo (and_l (good f lo) (good f hi) e)) (good_of f hi (and_r (good f lo) (good f hi) e)) (neg_good f b h.high).0 (neg_good f a h.low).0 (neg_good f x h.ok).0
      (and_r (inside lo hi (neg a)) (inside lo hi (neg b)) i) (and_l (inside lo hi (neg a)) (inside lo hi (neg b)) i)
      (neg_le f x b h.ok h.high h.upto) (neg_le f a x h.low h.ok h.from)

  -- the product: the four corners lie within the ends
  along : {a b x : Float} (y : Float) → In f a b x → Good f lo → Good f hi → Good f y → T (inside lo hi (mul f a y)) → T (inside lo hi (mul f b y)) → T (inside lo hi (mul f x y))
  along {a} {b} {x} y h L H g i j = go (sign y) refl
    where
      done : In f lo hi (mul f x y) → T (inside lo hi (mul f x y))
      done r = and_i (le lo (mul f x y)) (le (mul f x y) hi) r.from r.upto

      go : (t : Bool) → sign y ≡ t → T (inside lo hi (mul f x y))
      go false e = done (between f lo hi (mul f a y) (mul f b y) (mul f x y) L H (mul-fits f a y) (mul-fits f b y) (mul-fits f x y) i j (mul_up f a x y h.low h.ok g e h.from) (mul_up f x b y h.ok h.high g e h.upto))
      go true e = done (between f lo hi (mul f b y) (mul f a y) (mul f x y) L H (mul-fits f b y) (mul-fits f a y) (mul-fits f x y) j i (mul_down f x b y h.ok h.high g e h.upto) (mul_down f a x y h.low h.ok g e h.from))

  swap : (x y : Float) → Good f x → Good f y → T (inside lo hi (mul f x y)) → T (inside lo hi (mul f y x))
  swap x y g h t = subst (λ (z : Float). T (inside lo hi z)) (mul_swap f x y g h) t

  abbrev pub mul_t : Float → Float → Float → Float → Bool
  mul_t a b c d = ends f lo hi && ((inside lo hi (mul f a c) && inside lo hi (mul f a d)) && (inside lo hi (mul f b c) && inside lo hi (mul f b d)))

  pub in_mul : {a b c d x y : Float} → In f a b x → In f c d y → T (mul_t a b c d) → In f lo hi (mul f x y)
  in_mul {a} {b} {c} {d} {x} {y} h k t =
      let ac = inside lo hi (mul f a c) in
      let ad = inside lo hi (mul f a d) in
      let bc = inside lo hi (mul f b c) in
      let bd = inside lo hi (mul f b d) in
      let e = and_l (ends f lo hi) ((ac && ad) && (bc && bd)) t in
      let i = and_r (ends f lo hi) ((ac && ad) && (bc && bd)) t in
      let L = good_of f lo (and_l (good f lo) (good f hi) e) in
      let H = good_of f hi (and_r (good f lo) (good f hi) e) in
      let p = and_l (ac && ad) (bc && bd) i in
      let q = and_r (ac && ad) (bc && bd) i in
      let r = swap y a k.ok h.low (along a k L H h.low (swap a c h.low k.low (and_l ac ad p)) (swap a d h.low k.high (and_r ac ad p))) in
      let s = swap y b k.ok h.high (along b k L H h.high (swap b c h.high k.low (and_l bc bd q)) (swap b d h.high k.high (and_r bc bd q))) in
      let v = along y h L H k.ok r s in
      let from = and_l (le lo (mul f x y)) (le (mul f x y) hi) v in
      let upto = and_r (le lo (mul f x y)) (le (mul f x y) hi) v in
      record { low = L; high = H; ok = (mul-fits f x y, finite_between lo (mul f x y) hi L.1 H.1 from upto); from = from; upto = upto }

  -- the quotient by a constant above zero
  abbrev pub div_t : Float → Float → Float → Bool
  div_t a b c = (good f c && positive c) && wide_t (div f a c) (div f b c)

  pub in_div : {a b x : Float} → In f a b x → (c : Float) → T (div_t a b c) → In f lo hi (div f x c)
  in_div {a} {b} {x} h c t =
      let g = and_l (good f c && positive c) (wide_t (div f a c) (div f b c)) t in
      let w = and_r (good f c && positive c) (wide_t (div f a c) (div f b c)) t in
      let e = and_l (ends f lo hi) (inside lo hi (div f a c) && inside lo hi (div f b c)) w in
      let i = and_r (ends f lo hi) (inside lo hi (div f a c) && inside lo hi (div f b c)) w in
      let C = good_of f c (and_l (good f c) (positive c) g) in
      let P = and_r (good f c) (positive c) g in
      between f lo hi (div f a c) (div f b c) (div f x c) (good_of f lo (and_l (good f lo) (good f hi) e)) (good_of f hi (and_r (good f lo) (good f hi) e)) (div-fits f a c) (div-fits f b c) (div-fits f x c)
      (and_l (inside lo hi (div f a c)) (inside lo hi (div f b c)) i) (and_r (inside lo hi (div f a c)) (inside lo hi (div f b c)) i)
      (div_le f a x c h.low h.ok C P h.from) (div_le f x b c h.ok h.high C P h.upto)

-- ---- a test in the program cuts a range
pub not_lt : (f : Format) (x y : Float) → Good f x → Good f y → T (not (lt y x)) → T (le x y)
not_lt f x y g h t = nlt→le f x y g h t

pub cut_high : {f : Format} {a b x : Float} → In f a b x → (c : Float) → T (good f c) → T (le x c) → In f a c x
cut_high {f} {a} {b} {x} h c g l = record { low = h.low; high = good_of f c g; ok = h.ok; from = h.from; upto = l }

pub cut_low : {f : Format} {a b x : Float} → In f a b x → (c : Float) → T (good f c) → T (le c x) → In f c b x
cut_low {f} {a} {b} {x} h c g l = record { low = good_of f c g; high = h.high; ok = h.ok; from = l; upto = h.upto }

pub lt→le : (x y : Float) → T (lt x y) → T (le x y)
unfolding le
lt→le x y t = or_l (lt x y) (eq x y) t

pub le→lt : (x y : Float) → T (le x y) → eq x y ≡ false → T (lt x y)
unfolding le
le→lt x y t e = or_e (lt x y) (eq x y) (λ h. h) (λ h. absurd (subst T e h)) t

-- a range in two
pub split : {f : Format} {a b x : Float} {P : Type 0} → In f a b x → (c : Float) → T (good f c) → (In f a c x → P) → (In f c b x → P) → P
split {f} {a} {b} {x} {P} h c g p q = go (lt c x) (lt→le c x) (not_lt f x c h.ok (good_of f c g))
  where
    go : (t : Bool) → (T t → T (le c x)) → (T (not t) → T (le x c)) → P
    go true i j = q (cut_low h c g (i tt))
    go false i j = p (cut_high h c g (j tt))

-- ---- every finite f32 lies between the largest and its negative
abbrev pub largest : Float
largest = fin false 16777215 (pos 104)

-- a number of smallest values that the format holds, P the largest's last place
up_to_largest : (m a j k P : ℕ) → a < 16777216 → m ≡ a * 2 ^ j → m < 16777216 * P → P ≡ 2 ^ k → m ≤ 16777215 * P
up_to_largest m a j k P few is fine p = go (ltb k j) (ltb→lt k j) (nltb→le k j)
  where
    go : (b : Bool) → (T b → k < j) → (T (not b) → j ≤ k) → m ≤ 16777215 * P
    go true h i =
        let n = a * 2 ^ (j - k) in
        let e : m ≡ n * P = is ∙ ap (λ (z : ℕ). a * 2 ^ z) (back (h tt)) ∙ ap (λ (z : ℕ). a * z) (pow-add 2 (j - k) k ∙ ap (λ (z : ℕ). 2 ^ (j - k) * z) (sym p)) ∙ sym (mul_assoc a (2 ^ (j - k)) P) in
        let less : n < 16777216 = lt_of_mul-lt-mul_right P (subst (λ (z : ℕ). z < 16777216 * P) e fine) in
        subst (λ (z : ℕ). z ≤ 16777215 * P) (sym e) (mul-le-mul_right P (omega arith))
      where
        back : k < j → j ≡ j - k + k
        back h = omega arith
    go false h i = subst (λ (z : ℕ). z ≤ 16777215 * P) (sym is) (mul-le-mul (omega arith) (subst (λ (z : ℕ). 2 ^ j ≤ z) (sym p) (pow_mono (i tt))))

largest_is : (s : Bool) → Is binary32 (fin s 16777215 (pos 104)) s (16777215 * 2 ^ 253)
largest_is s = (refl, refl)

pub finite_in : (x : Float) → Good binary32 x → In binary32 (fin true 16777215 (pos 104)) largest x
unfolding fits
finite_in x g =
    let z = fits_sized binary32 x g.0 g.1 in
    let q = z.size_of in
    let b : q ≤ 16777215 * 2 ^ 253 = up_to_largest q z.rep.q z.rep.j 253 (2 ^ 253) z.rep.few z.rep.is z.rep.fine refl in
    record {
      low = (tt, tt);
      high = (tt, tt);
      ok = g;
      from = under→le binary32 (fin true 16777215 (pos 104)) x true (16777215 * 2 ^ 253) (sign x) q (largest_is true) z.is (under_minus (16777215 * 2 ^ 253) (sign x) q b);
      upto = under→le binary32 x largest (sign x) q false (16777215 * 2 ^ 253) z.is (largest_is false) (under_plus (16777215 * 2 ^ 253) (sign x) q b);
    }
