-- The curve keeps its distance for every number. Assumes nothing.
use mathlib.Core.Path.{◌≡◌, refl}
use mathlib.Core.Bool.{Bool, true, false, not, cond, true≢false}
use Prim.Native.Nat.{ℕ, ◌+◌, ◌-◌, ◌*◌, ◌/◌, ◌^◌, ◌≤◌, ◌<◌}
use native.Mathlib.Nat.{mul-pos}
use native.Mathlib.Omega.{arith}
use lib.Count.{count_leading_zeros}
use lib.IntN.{ℤ, pos, negsuc}
use lib.Dec.{T, lit<, lit≤}
use lib.Pow.{pow_pos}
use lib.Ieee.{Float, nan, inf, fin, up, down, lt, le, ne, eq, neg, is_nan}
use lib.Ieee.Positive.{num, den}
use lib.Ieee.Scale.{finite}
use Rattle.series.specs.Near.{Relative, Absolute}
use Rattle.fixed.specs.Fixed.{sign_of, with_sign, size_of, pack_of}
use Rattle.fixed.proofs.Fields.{down_pos}
use Rattle.fixed.proofs.Order.{lt_says, le_says, not_lt, not_le}
use Rattle.fixed.proofs.Packs.{packed, pack_value, pack_le_one}
use Rattle.power.specs.Exact.{two_num, two_den, e_num, e_den}
use Rattle.power.specs.Power.{product_of}
use Rattle.power.proofs.Numbers.{M}
use Rattle.tanh.specs.Exact.{tanh_minus, tanh_num, tanh_den}
use Rattle.tanh.specs.Tanh.{two_log2_e, decay_of, quotient_of, one, tiny, ten, above_of, tanh_of}
use Rattle.tanh.specs.Near.{TanhNear}
use Rattle.tanh.proofs.Pair.{K, lesser_le}
use Rattle.tanh.proofs.Sign.{Close, signed, bounded, tanh_is, tanh_odd}
use Rattle.tanh.proofs.Cases.{X, Y, q, q_lo, q_hi, small_case, large_case, between_case}

module _ (s : Bool) (m : ℕ) (e : ℤ) where
  abbrev a : ℕ
  a = m * up e

  abbrev c : ℕ
  c = down e

  abbrev Near : Float → Type 0
  Near r = Absolute (2 ^ 18) (tanh_minus s a c) (tanh_num s a c) (tanh_den s a c) (with_sign s r)

  doubled : 2 * (m * up e) * 144269504088896 ≡ m * up e * K
  doubled = omega arith

  near_close : (n : ℕ) (i : ℤ) → Close (X s a c (down_pos e)) (Y s a c (down_pos e)) (n * up i) (down i) → Near (fin false n i)
  unfolding tanh_minus tanh_num tanh_den e_num e_den
  near_close n i k =
      rw doubled (signed s (two_num s (a * K) (c * M)) (two_den s (a * K) (c * M)) n i (lesser_le s (a * K) (c * M) (mul-pos (down_pos e) (lit< tt))) k)

  packed_near : (lo : c ≤ 1024 * a) (hi : a ≤ 10 * c) (r : Float) → Relative (2 ^ 24) (q s a c (down_pos e) lo hi) (2 ^ 31) r → Near r
  packed_near lo hi nan h = absurd h
  packed_near lo hi (inf t) h = absurd h
  packed_near lo hi (fin true n i) h = absurd (true≢false h.0)
  packed_near lo hi (fin false n i) h = near_close n i (between_case s a c (down_pos e) lo hi n i h)

  abbrev Good : Float → Type 0
  Good r = Near r × (T (le (fin true 1 (pos 0)) (with_sign s r)) × T (le (with_sign s r) one))

  pub above_good : Good (above_of (fin false m e))
  unfolding above_of size_of
  above_good = go (lt (fin false m e) tiny) (le ten (fin false m e)) (λ t. small t) (λ t. t) (λ t. large t) (λ t. t)
    where
      small : T (lt (fin false m e) tiny) → 1024 * a ≤ c
      small t = let g = lt_says false m e false 1 (negsuc 9) t in omega arith

      large : T (le ten (fin false m e)) → 10 * c ≤ a
      large t = let g = le_says false 5 (pos 1) false m e t in omega arith

      above : T (not (lt (fin false m e) tiny)) → c ≤ 1024 * a
      above t = let g = le_says false 1 (negsuc 9) false m e (not_lt (fin false m e) tiny (unfold is_nan in tt) (unfold is_nan in tt) t) in omega arith

      under : T (not (le ten (fin false m e))) → a ≤ 10 * c
      under t = let g = lt_says false m e false 5 (pos 1) (not_le ten (fin false m e) (unfold is_nan in tt) (unfold is_nan in tt) t) in omega arith

      go : (x y : Bool) → (T x → 1024 * a ≤ c) → (T (not x) → T (not (lt (fin false m e) tiny))) → (T y → 10 * c ≤ a) → (T (not y) → T (not (le ten (fin false m e))))
          → Good (cond x (fin false m e) (cond y one (pack_of (quotient_of (decay_of (product_of (m * up e * 4294967296 / down e) two_log2_e))) 31)))
      go true y f f' g g' = (near_close m e (small_case s a c (down_pos e) (f tt)), bounded s (fin false m e) a c (down_pos e) (refl, refl) (omega (arith, f tt)))
      go false true f f' g g' = (near_close 1 (pos 0) (large_case s a c (down_pos e) (g tt)), bounded s one 1 1 (lit< tt) (refl, refl) (lit≤ tt))
      go false false f f' g g' =
          let lo = above (f' tt) in
          let hi = under (g' tt) in
          let n = q s a c (down_pos e) lo hi in
          let nl = q_lo s a c (down_pos e) lo hi in
          let nh = q_hi s a c (down_pos e) lo hi in
          let fit : n < 18446744073709551616 = omega arith in (
            packed_near lo hi (pack_of n 31) (packed n 31 fit nl (lit≤ tt)),
            bounded s (pack_of n 31) ((n * 2 ^ count_leading_zeros 64 n / 549755813888 + 1) / 2 * 2 ^ (189 - count_leading_zeros 64 n - 31)) (2 ^ 149) (pow_pos 149) (pack_value n 31 fit nl (lit≤ tt)) (pack_le_one n 31 fit nl (lit≤ tt) (lit≤ tt) nh),
          )

-- ---- every argument
finite_near : (x : Float) → T (finite x) → Absolute (2 ^ 18) (tanh_minus (sign_of x) (num x) (den x)) (tanh_num (sign_of x) (num x) (den x)) (tanh_den (sign_of x) (num x) (den x)) (tanh_of x)
unfolding sign_of
finite_near nan h = absurd h
finite_near (inf s) h = absurd h
finite_near (fin s m e) h = rw (tanh_is s m e) (above_good s m e).0

pub tanh_bounded : (x : Float) → T (not (is_nan x)) → T (le (fin true 1 (pos 0)) (tanh_of x)) × T (le (tanh_of x) one)
unfolding is_nan
tanh_bounded nan h = absurd h
tanh_bounded (inf true) h = unfold tanh_of above_of neg ne eq lt le in (tt, tt)
tanh_bounded (inf false) h = unfold tanh_of above_of neg ne eq lt le in (tt, tt)
tanh_bounded (fin s m e) h = rw (tanh_is s m e) (above_good s m e).1

at_infinity : (s : Bool) → tanh_of (inf s) ≡ fin s 1 (pos 0)
at_infinity true = unfold tanh_of above_of neg ne eq lt le in refl
at_infinity false = unfold tanh_of above_of neg ne eq lt le in refl

pub tanh_near : (x : Float) → TanhNear x (tanh_of x)
tanh_near x = record {
  no_number = λ e. unfold tanh_of ne eq in rw e;
  infinite = λ s e. rw e (at_infinity s);
  near = finite_near x;
  odd = tanh_odd x;
  bounded = tanh_bounded x;
}
