-- The random source and the drift stay within their ranges: a draw lies from -1 to 1, a detune and a drift's ratio from 0.5 to 1.5, the drift from -128 to 128 cents,
-- since at 127 and beyond the pull back exceeds the largest kick. Assumes nothing.
use Prim.Native.Nat.{ℕ, ◌-◌, ◌*◌, ◌/◌, ◌%◌, ◌^◌, ◌≤◌, ◌<◌}
use native.Mathlib.Nat.{mod-lt, lt_of_le_of_lt, le_of_lt, div-le_self}
use native.Mathlib.Omega.{arith}
use mathlib.Core.Path.{◌≡◌, refl}
use mathlib.Core.Bool.{Bool, true, false, cond}
use lib.Bits.{bit_xor, xor_lt}
use lib.Count.{count_leading_zeros}
use lib.Dec.{ltb, le→leb}
use lib.IntN.{pos}
use lib.Pow.{pow_pos}
use lib.Ieee.{Float, binary32, neg, add, sub, mul, div, lt, fits, round, of_int, of_bits, to_bits}
use Rattle.line.proofs.Range.{In, in_cond, split}
use Rattle.line.proofs.Rem.{nought_in}
use Rattle.line.proofs.Whole.{of_int_in}
use Rattle.float.specs.Consts.{k0, k1, k2, k3, k127, k1200, FS, k0p5, k1p5, k_m128, k_u_max}
use Rattle.float.specs.Ops.{◌⊕◌, ◌⊖◌, ◌⊗◌, ◌⊘◌}
use Rattle.float.proofs.Eval.{Ex, leaf, con, plus, minus, times, over, range, proves}
use Rattle.root.specs.Root.{sqrt_of}
use Rattle.power.specs.Power.{exp2_of}
use Rattle.power.proofs.Laws.{exp2_half}
use Rattle.wobble.specs.declared.Wobble.{Wobble}
use Rattle.wobble.specs.declared.Drift.{Drift}
use Rattle.wobble.specs.declared.Drawn.{Drawn}
use Rattle.wobble.specs.Wobble.{DETUNE_CENTS, DRIFT_CENTS, DRIFT_TAU, DRIFT_EVERY, xorshift_of, uni_of, detune_of, phase_of, cents_of, drift_of}

-- from 0 to 1, from -1 to 1, and from 0.5 to 1.5
abbrev pub Unit : Float → Type 0
Unit x = In binary32 k0 k1 x

abbrev pub Both : Float → Type 0
Both x = In binary32 (neg k1) k1 x

abbrev pub Ratio : Float → Type 0
Ratio x = In binary32 k0p5 k1p5 x

-- ---- the random source
pub record WobbleIn (w : Wobble) : Type 0 where
  pub word : w.s < 2 ^ 32
  pub depth : Unit w.depth

xorshift_lt : (s : ℕ) → s < 2 ^ 32 → xorshift_of s < 2 ^ 32
unfolding xorshift_of
xorshift_lt s h =
    let a = bit_xor s (s * 2 ^ 13 % 2 ^ 32) in
    let A : a < 2 ^ 32 = xor_lt 32 s (s * 2 ^ 13 % 2 ^ 32) h (mod-lt (s * 2 ^ 13) (pow_pos 32)) in
    let b = bit_xor a (a / 2 ^ 17) in
    let B : b < 2 ^ 32 = xor_lt 32 a (a / 2 ^ 17) A (lt_of_le_of_lt (div-le_self a (2 ^ 17)) A) in
    xor_lt 32 b (b * 2 ^ 5 % 2 ^ 32) B (mod-lt (b * 2 ^ 5) (pow_pos 32))

drawn : (x : ℕ) → x < 2 ^ 32 → Both (of_int binary32 (pos x) ⊘ k_u_max ⊗ k2 ⊖ k1)
unfolding proves of_bits of_int round
drawn x h = range (neg k1) k1 (minus (times (over (leaf (of_int_in binary32 (pos 0) (pos (2 ^ 32)) k0 k_u_max (pos x) (le→leb 0 x (none x)) (le→leb x (2 ^ 32) (le_of_lt h)) tt)) k_u_max) (con k2)) (con k1)) tt
  where
    none : (n : ℕ) → 0 ≤ n
    none n = omega arith

pub uni_in : (w : Wobble) → WobbleIn w → WobbleIn (uni_of w).w × Both (uni_of w).x
unfolding uni_of
uni_in w h = (record { word = xorshift_lt w.s h.word; depth = h.depth }, drawn (xorshift_of w.s) (xorshift_lt w.s h.word))

zero_in : Unit k0
unfolding of_bits
zero_in = nought_in binary32

pub phase_in : (w : Wobble) → WobbleIn w → WobbleIn (phase_of w).w × Unit (phase_of w).x
unfolding phase_of
phase_in w h = let r = uni_in w h in (r.0, in_cond binary32 k0 k1 (lt k0 w.depth) (λ t. half (uni_of w).x r.1) (λ t. zero_in))
  where
    half : (u : Float) → Both u → Unit (k0p5 ⊗ (u ⊕ k1))
    half u k = unfold proves of_bits in range k0 k1 (times (con k0p5) (plus (leaf k) (con k1))) tt

-- 1 itself is drawn: from this state the next random word is 4294967295, which is 2 ^ 32 as f32
pub drawn_one : (phase_of (record { s = 0x5e6cfce7; depth = k1 })).x ≡ k1
unfolding phase_of uni_of xorshift_of of_bits of_int round lt mul div add sub neg
drawn_one = refl

-- ---- the drift
pub record DriftIn (d : Drift) : Type 0 where
  pub cents : In binary32 k_m128 (neg k_m128) d.cents
  pub ratio : Ratio d.ratio

-- what holds of both holds of the one that is chosen
pub either : {A : Type 0} (P : A → Type 0) (b : Bool) (x y : A) → P x → P y → P (cond b x y)
either P true x y h k = h
either P false x y h k = k

-- the two roots, as constants
root3 : Float
root3 = of_bits binary32 0x3fddb3d7

root2a : Float
root2a = of_bits binary32 0x3d53843b

root3_is : sqrt_of k3 ≡ root3
unfolding root3 sqrt_of of_bits to_bits count_leading_zeros
root3_is = refl

root2a_is : sqrt_of (k2 ⊗ (of_int binary32 (pos DRIFT_EVERY) ⊘ FS ⊘ DRIFT_TAU)) ≡ root2a
unfolding root2a sqrt_of of_bits to_bits mul div of_int round count_leading_zeros
root2a_is = refl

-- the drift's step as an expression, for cents from a to b
abbrev drift_ex : {a b c u d : Float} → In binary32 a b c → Both u → Unit d → Ex binary32
drift_ex h k m =
    let a = of_int binary32 (pos DRIFT_EVERY) ⊘ FS ⊘ DRIFT_TAU in
    plus (leaf h) (plus (times (con (neg a)) (leaf h)) (times (times (times (times (leaf k) (con root3)) (con DRIFT_CENTS)) (con root2a)) (leaf m)))

module _ (c u d : Float) (k : Both u) (m : Unit d) where
  middle : In binary32 (neg k127) k127 c → In binary32 k_m128 (neg k_m128) (cents_of c u d)
  unfolding cents_of of_bits of_int proves root3 root2a
  middle h = rw (root3_is, root2a_is) (range k_m128 (neg k_m128) (drift_ex h k m) tt)

  top : In binary32 k127 (neg k_m128) c → In binary32 k_m128 (neg k_m128) (cents_of c u d)
  unfolding cents_of of_bits of_int proves root3 root2a
  top h = rw (root3_is, root2a_is) (range k_m128 (neg k_m128) (drift_ex h k m) tt)

  bottom : In binary32 k_m128 (neg k127) c → In binary32 k_m128 (neg k_m128) (cents_of c u d)
  unfolding cents_of of_bits of_int proves root3 root2a
  bottom h = rw (root3_is, root2a_is) (range k_m128 (neg k_m128) (drift_ex h k m) tt)

  pub cents_in : In binary32 k_m128 (neg k_m128) c → In binary32 k_m128 (neg k_m128) (cents_of c u d)
  unfolding of_bits fits neg
  cents_in h = split h k127 tt (λ g. split g (neg k127) tt bottom middle) top

ratio_of : (t : Float) → In binary32 (neg k0p5) k0p5 t → Ratio (exp2_of t)
unfolding of_bits neg
ratio_of t h = exp2_half h

pub detune_in : (w : Wobble) → WobbleIn w → WobbleIn (detune_of w DETUNE_CENTS).w × Ratio (detune_of w DETUNE_CENTS).x
unfolding detune_of
detune_in w h = let r = uni_in w h in (r.0, ratio_of _ (small (uni_of w).x w.depth r.1 h.depth))
  where
    small : (u d : Float) → Both u → Unit d → In binary32 (neg k0p5) k0p5 (u ⊗ DETUNE_CENTS ⊗ d ⊘ k1200)
    small u d a b = unfold proves of_bits in range (neg k0p5) k0p5 (over (times (times (leaf a) (con DETUNE_CENTS)) (leaf b)) k1200) tt

ratio_in : (c : Float) → In binary32 k_m128 (neg k_m128) c → Ratio (exp2_of (c ⊘ k1200))
ratio_in c h = ratio_of (c ⊘ k1200) small
  where
    small : In binary32 (neg k0p5) k0p5 (c ⊘ k1200)
    small = unfold proves of_bits in range (neg k0p5) k0p5 (over (leaf h) k1200) tt

pub drift_in : (d : Drift) (w : Wobble) → DriftIn d → WobbleIn w → DriftIn (drift_of d w).x × WobbleIn (drift_of d w).w
unfolding drift_of
drift_in d w h k =
    let r = uni_in w k in
    let c = cents_in d.cents (uni_of w).x w.depth r.1 k.depth h.cents in
    either (λ (d : Drawn Drift). DriftIn d.x × WobbleIn d.w) (ltb d.n (DRIFT_EVERY - 1)) _ _
    (record { cents = h.cents; ratio = h.ratio }, k)
    (record { cents = c; ratio = ratio_in _ c }, r.0)
