-- The range of an expression by computing: over values of known ranges, the ends of its range are worked out and tested, and `tt` proves the test. Assumes nothing.
use Rattle.std.proofs.Common.{Bool, true, cond, ◌&&◌, T}
use lib.Ieee.{mul, div, Float, Format, neg, add, sub, le, lt, ne, fits}
use lib.Ieee.Fits.{and_i, and_l, and_r}
use Rattle.line.proofs.Mono.{Good}
use Rattle.line.proofs.Range.{In, good, good_of, ends, inside, wide_t, in_self, in_wide, in_cond, in_add, add_t, in_neg, in_mul, mul_t, in_div, div_t, not_lt, cut_high, cut_low}
use Rattle.float.specs.Floats.{min_of, max_of, clamp_of}

-- ---- min, max and clamp with constants
module _ (f : Format) (lo hi : Float) where
  at_end : (c d : Float) → T (good f c && wide_t f lo hi c d) → In f lo hi c
  at_end c d t =
      let w = and_r (good f c) (wide_t f lo hi c d) t in
      let e = and_l (ends f lo hi) (inside lo hi c && inside lo hi d) w in
      let i = and_l (inside lo hi c) (inside lo hi d) (and_r (ends f lo hi) (inside lo hi c && inside lo hi d) w) in
      record { low = good_of f lo (and_l (good f lo) (good f hi) e); high = good_of f hi (and_r (good f lo) (good f hi) e); ok = good_of f c (and_l (good f c) (wide_t f lo hi c d) t); from = and_l (le lo c) (le c hi) i; upto = and_r (le lo c) (le c hi) i }

  pub in_max : {a b x : Float} → In f a b x → (c : Float) → T (good f c && wide_t f lo hi c b) → In f lo hi (max_of x c)
  unfolding max_of
  in_max {a} {b} {x} h c t =
      in_cond f lo hi (lt x c) (λ u. at_end c b t)
      (λ u. in_cond f lo hi (ne x x) (λ v. at_end c b t)
      (λ v. in_wide f lo hi (cut_low h c (and_l (good f c) (wide_t f lo hi c b) t) (not_lt f c x (good_of f c (and_l (good f c) (wide_t f lo hi c b) t)) h.ok u)) (and_r (good f c) (wide_t f lo hi c b) t)))

  pub in_min : {a b x : Float} → In f a b x → (c : Float) → T (good f c && wide_t f lo hi c a) → In f lo hi (min_of x c)
  unfolding min_of
  in_min {a} {b} {x} h c t =
      in_cond f lo hi (lt c x) (λ u. at_end c a t)
      (λ u. in_cond f lo hi (ne x x) (λ v. at_end c a t)
      (λ v. turned (cut_high h c (and_l (good f c) (wide_t f lo hi c a) t) (not_lt f x c h.ok (good_of f c (and_l (good f c) (wide_t f lo hi c a) t)) u)) (and_r (good f c) (wide_t f lo hi c a) t)))
    where
      turned : {a c x : Float} → In f a c x → T (wide_t f lo hi c a) → In f lo hi x
      turned {a} {c} {x} h t =
          let e = and_l (ends f lo hi) (inside lo hi c && inside lo hi a) t in
          let i = and_r (ends f lo hi) (inside lo hi c && inside lo hi a) t in
          in_wide f lo hi h (and_i (ends f lo hi) (inside lo hi a && inside lo hi c) e (and_i (inside lo hi a) (inside lo hi c) (and_r (inside lo hi c) (inside lo hi a) i) (and_l (inside lo hi c) (inside lo hi a) i)))

  -- of any value that is finite
  pub in_clamp : (x : Float) → Good f x → (l h : Float) → T ((good f l && wide_t f lo hi l h) && (good f h && wide_t f lo hi h l)) → In f lo hi (clamp_of x l h)
  unfolding clamp_of
  in_clamp x g l h t =
      let p = and_l (good f l && wide_t f lo hi l h) (good f h && wide_t f lo hi h l) t in
      let q = and_r (good f l && wide_t f lo hi l h) (good f h && wide_t f lo hi h l) t in
      let gl = good_of f l (and_l (good f l) (wide_t f lo hi l h) p) in
      let gh = good_of f h (and_l (good f h) (wide_t f lo hi h l) q) in
      in_cond f lo hi (lt x l) (λ u. at_end l h p)
      (λ u. in_cond f lo hi (lt h x) (λ v. at_end h l q)
      (λ v. in_wide f lo hi (record { low = gl; high = gh; ok = g; from = not_lt f l x gl g u; upto = not_lt f x h g gh v }) (and_r (good f l) (wide_t f lo hi l h) p)))

-- ---- the evaluator: an expression over values of known ranges, its value, the range guessed from the ends, and the test that the guess is right
pub data Ex (f : Format) : Type 0 where
  leaf : {a b x : Float} → In f a b x → Ex f
  con : Float → Ex f
  plus minus times : Ex f → Ex f → Ex f
  over capped floored : Ex f → Float → Ex f
  clamped : Ex f → Float → Float → Ex f
  negate : Ex f → Ex f

abbrev pub value : {f : Format} → Ex f → Float
value (leaf {a} {b} {x} h) = x
value (con c) = c
value {f} (plus u v) = add f (value u) (value v)
value {f} (minus u v) = sub f (value u) (value v)
value {f} (times u v) = mul f (value u) (value v)
value {f} (over u c) = div f (value u) c
value (capped u c) = min_of (value u) c
value (floored u c) = max_of (value u) c
value (clamped u l h) = clamp_of (value u) l h
value (negate u) = neg (value u)

pub record Box : Type 0 where
  pub lo : Float
  pub hi : Float

abbrev lesser : Float → Float → Float
lesser x y = cond (le x y) x y

abbrev greater : Float → Float → Float
greater x y = cond (le x y) y x

unfoldable pub hull : Float → Float → Float → Float → Box
hull p q r s = record { lo = lesser (lesser p q) (lesser r s); hi = greater (greater p q) (greater r s) }

unfoldable pub corners : Format → Box → Box → Box
unfolding hull
corners f u v = hull (mul f u.lo v.lo) (mul f u.lo v.hi) (mul f u.hi v.lo) (mul f u.hi v.hi)

unfoldable pub box : {f : Format} → Ex f → Box
unfolding corners
box (leaf {a} {b} {x} h) = record { lo = a; hi = b }
box (con c) = record { lo = c; hi = c }
box {f} (plus u v) = record { lo = add f (box u).lo (box v).lo; hi = add f (box u).hi (box v).hi }
box {f} (minus u v) = record { lo = add f (box u).lo (neg (box v).hi); hi = add f (box u).hi (neg (box v).lo) }
box {f} (times u v) = corners f (box u) (box v)
box {f} (over u c) = record { lo = div f (box u).lo c; hi = div f (box u).hi c }
box (capped u c) = record { lo = lesser (box u).lo c; hi = c }
box (floored u c) = record { lo = c; hi = greater (box u).hi c }
box (clamped u l h) = record { lo = l; hi = h }
box (negate u) = record { lo = neg (box u).hi; hi = neg (box u).lo }

unfoldable pub okay : {f : Format} → Ex f → Bool
okay (leaf {a} {b} {x} h) = true
okay {f} (con c) = good f c && le c c
okay {f} (plus u v) = (okay u && okay v) && add_t f (box (plus u v)).lo (box (plus u v)).hi (box u).lo (box u).hi (box v).lo (box v).hi
okay {f} (minus u v) = (okay u && okay v) && (wide_t f (neg (box v).hi) (neg (box v).lo) (neg (box v).lo) (neg (box v).hi) && add_t f (box (minus u v)).lo (box (minus u v)).hi (box u).lo (box u).hi (neg (box v).hi) (neg (box v).lo))
okay {f} (times u v) = (okay u && okay v) && mul_t f (box (times u v)).lo (box (times u v)).hi (box u).lo (box u).hi (box v).lo (box v).hi
okay {f} (over u c) = okay u && div_t f (box (over u c)).lo (box (over u c)).hi (box u).lo (box u).hi c
okay {f} (capped u c) = okay u && (good f c && wide_t f (lesser (box u).lo c) c c (box u).lo)
okay {f} (floored u c) = okay u && (good f c && wide_t f c (greater (box u).hi c) c (box u).hi)
okay {f} (clamped u l h) = okay u && ((good f l && wide_t f l h l h) && (good f h && wide_t f l h h l))
okay {f} (negate u) = okay u && wide_t f (box (negate u)).lo (box (negate u)).hi (neg (box u).lo) (neg (box u).hi)

pub sound : {f : Format} (e : Ex f) → T (okay e) → In f (box e).lo (box e).hi (value e)
unfolding okay box sub
sound (leaf {a} {b} {x} h) t = h
sound {f} (con c) t = in_self f c t
sound {f} (plus u v) t =
    let k = add_t f (box (plus u v)).lo (box (plus u v)).hi (box u).lo (box u).hi (box v).lo (box v).hi in
    let p = and_l (okay u && okay v) k t in
    in_add f (box (plus u v)).lo (box (plus u v)).hi (sound u (and_l (okay u) (okay v) p)) (sound v (and_r (okay u) (okay v) p)) (and_r (okay u && okay v) k t)
sound {f} (minus u v) t =
    let m = wide_t f (neg (box v).hi) (neg (box v).lo) (neg (box v).lo) (neg (box v).hi) in
    let k = add_t f (box (minus u v)).lo (box (minus u v)).hi (box u).lo (box u).hi (neg (box v).hi) (neg (box v).lo) in
    let p = and_l (okay u && okay v) (m && k) t in
    let q = and_r (okay u && okay v) (m && k) t in
    in_add f (box (minus u v)).lo (box (minus u v)).hi (sound u (and_l (okay u) (okay v) p)) (in_neg f (neg (box v).hi) (neg (box v).lo) (sound v (and_r (okay u) (okay v) p)) (and_l m k q)) (and_r m k q)
sound {f} (times u v) t =
    let k = mul_t f (box (times u v)).lo (box (times u v)).hi (box u).lo (box u).hi (box v).lo (box v).hi in
    let p = and_l (okay u && okay v) k t in
    in_mul f (box (times u v)).lo (box (times u v)).hi (sound u (and_l (okay u) (okay v) p)) (sound v (and_r (okay u) (okay v) p)) (and_r (okay u && okay v) k t)
sound {f} (over u c) t =
    let k = div_t f (box (over u c)).lo (box (over u c)).hi (box u).lo (box u).hi c in
    in_div f (box (over u c)).lo (box (over u c)).hi (sound u (and_l (okay u) k t)) c (and_r (okay u) k t)
sound {f} (capped u c) t =
    let k = good f c && wide_t f (lesser (box u).lo c) c c (box u).lo in
    in_min f (lesser (box u).lo c) c (sound u (and_l (okay u) k t)) c (and_r (okay u) k t)
sound {f} (floored u c) t =
    let k = good f c && wide_t f c (greater (box u).hi c) c (box u).hi in
    in_max f c (greater (box u).hi c) (sound u (and_l (okay u) k t)) c (and_r (okay u) k t)
sound {f} (clamped u l h) t =
    let k = (good f l && wide_t f l h l h) && (good f h && wide_t f l h h l) in
    in_clamp f l h (value u) (sound u (and_l (okay u) k t)).ok l h (and_r (okay u) k t)
sound {f} (negate u) t =
    let k = wide_t f (box (negate u)).lo (box (negate u)).hi (neg (box u).lo) (neg (box u).hi) in
    in_neg f (box (negate u)).lo (box (negate u)).hi (sound u (and_l (okay u) k t)) (and_r (okay u) k t)

-- the form to use: the ends that are wanted, the expression, and `tt`
unfoldable pub proves : {f : Format} → Float → Float → Ex f → Bool
unfolding okay box hull sub mul div le fits
proves {f} lo hi e = okay e && wide_t f lo hi (box e).lo (box e).hi

pub range : {f : Format} (lo hi : Float) (e : Ex f) → T (proves lo hi e) → In f lo hi (value e)
unfolding proves
range {f} lo hi e t = in_wide f lo hi (sound e (and_l (okay e) (wide_t f lo hi (box e).lo (box e).hi) t)) (and_r (okay e) (wide_t f lo hi (box e).lo (box e).hi) t)
