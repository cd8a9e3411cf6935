-- log10 keeps its distance, for every argument. Assumes nothing.
use mathlib.Core.Path.{◌≡◌, refl, sym}
use mathlib.Core.Bool.{Bool, true, false, not, cond, true≢false}
use Prim.Native.Nat.{ℕ, ◌+◌, ◌-◌, ◌*◌, ◌/◌, ◌%◌, ◌^◌, ◌≤◌, ◌<◌}
use native.Mathlib.Nat.{le_trans, le_of_eq, mul_comm, mul_assoc, mul-le-mul_right, le_of_mul-le-mul_right}
use native.Mathlib.Omega.{arith}
use lib.Dec.{T, leb, leb→le, nleb→lt, lit<}
use lib.Ieee.{Float, nan, inf, fin, binary32, up, down, le, lt, eq, neg, to_bits, fits}
use lib.Ieee.Bits.{is_true, is_false}
use lib.Ieee.Positive.{num, den, value→cross}
use lib.Ieee.Scale.{finite}
use Rattle.series.specs.Near.{Relative}
use Rattle.fixed.specs.Fixed.{shifted, sign_of, with_sign}
use Rattle.fixed.proofs.Fields.{down_pos}
use Rattle.log10.specs.Log10.{log10_two, least, part_of, place_log, pack_zero, tenth_of, log10_of}
use Rattle.log10.specs.Near.{Between, Log10Near}
use Rattle.log10.proofs.Method.{part_small}
use Rattle.log10.proofs.Rounding.{K, log10_rounding, log10_reduction_over, log10_reduction_under}
use Rattle.log10.proofs.Curve.{between}
use Rattle.log10.proofs.Fields.{Told, told, bits_lt}
use Rattle.power.proofs.Numbers.{P, M}

-- what the result is to be
abbrev Good : Float → Float → Type 0
Good x r = T (finite r) × Between (sign_of r) (num r) (den r) (num x) (den x)

narrow : (x y z : ℕ) → 100000 * x ≤ 100000 * y + z → y ≤ 20 * z → x ≤ 21 * z
narrow x y z p q = omega arith

finish : (a c : ℕ) → a * K ≤ 21 * (c * M) → 65536 * a * K + c * K ≤ 128 * (65536 * c * M)
finish a c p = omega arith

small_result : (a c v : ℕ) → v ≤ 20 * P → 100000 * (P * (a * K)) ≤ 100000 * (v * (c * M)) + P * (c * M) → 65536 * a * K + c * K ≤ 128 * (65536 * c * M)
small_result a c v h g =
    let y : v * (c * M) ≤ 20 * (P * (c * M)) = le_trans (mul-le-mul_right (c * M) h) (le_of_eq (mul_assoc 20 P (c * M))) in
    finish a c (le_of_mul-le-mul_right {k = P} (le_trans (le_of_eq (mul_comm (a * K) P)) (le_trans (narrow (P * (a * K)) (v * (c * M)) (P * (c * M)) g y) (le_of_eq (turn (c * M))))) (lit< tt))
  where
    turn : (n : ℕ) → 21 * (P * n) ≡ 21 * n * P
    turn n = omega arith

module _ (x : Float) (e t : ℕ) (k : Told x e t) (tl : t < 8388608) where
  abbrev w : ℕ
  w = e * P + part_of t

  value : num x * 2 ^ 149 ≡ (t + 8388608) * 2 ^ (e - 1) * den x
  value = value→cross x ((t + 8388608) * 2 ^ (e - 1)) (2 ^ 149) k.value

  good : (s : Bool) (v : ℕ) (r : Float) → v ≤ 130 * P → shifted s v P ≡ (e + 1) * P + part_of t → (s ≡ true → v ≤ 20 * P) → Relative (2 ^ 24) (v * log10_two / P) (2 ^ 32) r → Good x (with_sign s r)
  good s v nan vl p q h = absurd h
  good s v (inf i) vl p q h = absurd h
  good s v (fin true n i) vl p q h = absurd (true≢false h.0)
  good true v (fin false n i) vl p q h =
      let o = log10_reduction_over v (n * up i) (down i) vl h.1 h.2 in
      let u = log10_reduction_under v (n * up i) (down i) vl h.1 h.2 in
      unfold neg sign_of in (tt, between e t (num x) (den x) (n * up i) (down i) v true (omega (arith, k.low)) tl (down_pos i) value p o u (λ z. (omega (arith, q refl), small_result (n * up i) (down i) v (q refl) o)))
  good false v (fin false n i) vl p q h =
      let o = log10_reduction_over v (n * up i) (down i) vl h.1 h.2 in
      let u = log10_reduction_under v (n * up i) (down i) vl h.1 h.2 in
      unfold sign_of in (tt, between e t (num x) (den x) (n * up i) (down i) v false (omega (arith, k.low)) tl (down_pos i) value p o u (λ z. absurd (true≢false (sym z))))

  -- the quotient fits 64 bits
  fits_64 : (v : ℕ) → v ≤ 130 * P → v * log10_two / P < 18446744073709551616
  fits_64 v h = omega arith

  part_le : part_of t ≤ 8589934592
  part_le = part_small t tl

  tenth_good : Good x (tenth_of w)
  unfolding tenth_of
  tenth_good = go (leb (127 * P) w) (λ u. leb→le (127 * P) w u) (λ u. nleb→lt (127 * P) w u)
    where
      go : (b : Bool) → (T b → 127 * P ≤ w) → (T (not b) → w < 127 * P) → Good x (cond b (pack_zero ((w - 127 * P) * log10_two / P)) (neg (pack_zero ((127 * P - w) * log10_two / P))))
      go true f g =
          let l = f tt in
          let v = w - 127 * P in
          let vl : v ≤ 130 * P = omega (arith, k.high, part_le) in
          good false v (pack_zero (v * log10_two / P)) vl (omega arith) (λ z. absurd (true≢false (sym z))) (log10_rounding (v * log10_two / P) (fits_64 v vl))
      go false f g =
          let l = g tt in
          let v = 127 * P - w in
          let vl : v ≤ 20 * P = omega (arith, k.low) in
          let vm : v ≤ 130 * P = omega arith in
          good true v (pack_zero (v * log10_two / P)) vm (omega arith) (λ z. vl) (log10_rounding (v * log10_two / P) (fits_64 v vm))

-- ---- every argument
not_infinite : (x : Float) → T (finite x) → T (not (le (inf false) x))
unfolding le lt eq
not_infinite nan h = tt
not_infinite (inf s) h = absurd h
not_infinite (fin s m e) h = tt

pub at_infinity : (x : Float) → T (le (inf false) x) → x ≡ inf false
unfolding le lt eq
at_infinity nan h = absurd h
at_infinity (inf true) h = absurd h
at_infinity (inf false) h = refl
at_infinity (fin s m e) h = absurd h

is_finite : (x : Float) → T (le least x) → T (not (le (inf false) x)) → T (finite x)
unfolding le lt eq
is_finite nan h k = absurd h
is_finite (inf true) h k = absurd h
is_finite (inf false) h k = absurd k
is_finite (fin s m e) h k = tt

log10_middle : (x : Float) → T (le least x) → T (finite x) → log10_of x ≡ tenth_of (place_log (to_bits binary32 x))
unfolding log10_of
log10_middle x l f = rw (is_true (le least x) l, is_false (le (inf false) x) (not_infinite x f))

log10_good : (x : Float) → T (fits binary32 x) → T (le least x) → T (finite x) → Good x (log10_of x)
unfolding place_log
log10_good x h l f =
    rw (log10_middle x l f)
    (tenth_good x (to_bits binary32 x / 8388608) (to_bits binary32 x % 8388608) (told x h l f) (omega arith))

pub log10_near : (x : Float) → T (fits binary32 x) → Log10Near x (log10_of x)
log10_near x h = record {
  finite_result = λ l f. (log10_good x h l f).0;
  near = λ l f. (log10_good x h l f).1;
  infinite = λ e. unfold log10_of le lt eq in rw e;
  elsewhere = λ l. unfold log10_of in rw (is_false (le least x) l);
}

-- ---- what the function knows from 10 ^ -6 to below infinity, of the exponent's field e and the digits D
pub record Ready (x : Float) (e D : ℕ) : Type 0 where
  pub high : e ≤ 254
  pub is : tenth_of (e * 4294967296 + part_of (D - 8388608)) ≡ log10_of x

pub ready : (x : Float) → T (fits binary32 x) → T (le least x) → T (not (le (inf false) x)) → (e D : ℕ) → e ≡ to_bits binary32 x % 2147483648 / 8388608 → D ≡ to_bits binary32 x % 8388608 + 8388608 → Ready x e D
unfolding place_log
ready x h l n e D ee ed =
    let f = is_finite x l n in
    let b = bits_lt x h l f in
    let field : e ≡ to_bits binary32 x / 8388608 = omega arith in
    let digits : D - 8388608 ≡ to_bits binary32 x % 8388608 = omega arith in
    rw field record { high = (told x h l f).high; is = rw digits (sym (log10_middle x l f)) }
