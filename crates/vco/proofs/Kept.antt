-- A waveform of a phase from 0 to 1 lies from -2 to 2, and both phase rules end from 0 to below 1. Assumes nothing.
use mathlib.Core.Path.{◌≡◌, refl}
use mathlib.Core.Bool.{Bool, true, false, not, ◌&&◌, cond}
use lib.Dec.{T}
use lib.IntN.{negsuc}
use lib.Ieee.{Float, nan, inf, fin, binary32, neg, lt, le, eq, fits, is_nan, of_bits}
use lib.Ieee.Fits.{and_l, and_r, div-fits}
use lib.Ieee.Scale.{finite}
use Rattle.std.proofs.lemmas.Float.{lt_of_lt_of_le}
use Rattle.line.proofs.Range.{In, good, in_of, in_cond, in_wide, cut_high, cut_low, lt→le, le→lt, not_lt, good_of, largest, finite_in}
use Rattle.float.specs.Consts.{k0, k1, k2, k3, k4, k8, k127, FS, k65535, k0p001, k0p25, k0p3, k0p35, k0p45, k0p5, k0p7, k1p01, k1p3, TAU}
use Rattle.float.specs.Ops.{◌⊕◌, ◌⊖◌, ◌⊗◌, ◌⊘◌}
use Rattle.float.specs.Floats.{min_of, fract_of, rem_euclid_of}
use Rattle.float.proofs.Eval.{leaf, con, plus, minus, times, over, capped, range, proves}
use Rattle.float.proofs.Laws.{fract_in, fract_not_one, fract_below, rem_euclid_in, abs_in}
use Rattle.float.proofs.Zeros.{below_not, rem_euclid_fract}
use Rattle.fixed.proofs.Order.{same_number}
use Rattle.sine.specs.Sine.{sin_of}
use Rattle.sine.proofs.Laws.{sin_in}
use Rattle.wobble.proofs.Kept.{Unit}
use Rattle.vco.specs.declared.Wave.{Wave}
use Rattle.vco.specs.declared.Wave.TheVariants.{Off, Sine, AsymSine, Triangle, SineSaw, Saw, Square}
use Rattle.vco.specs.Vco.{FM_UNITS, asym_of, wave_at, osc_of, modulated, advanced, advanced_fm, BelowOne}

-- from -2 to 2
abbrev pub Wide : Float → Type 0
Wide x = In binary32 (neg k2) k2 x

-- ---- the waveforms
sine_in : (x : Float) → In binary32 k0 k8 x → Wide (sin_of x)
unfolding of_bits
sine_in x h = unfold fits le lt eq neg in in_wide binary32 (neg k2) k2 (sin_in x h) tt

turn_in : (p : Float) → Unit p → Wide (sin_of (TAU ⊗ p))
turn_in p h = sine_in (TAU ⊗ p) (unfold proves of_bits in range k0 k8 (times (con TAU) (leaf h)) tt)

part_in : (p c : Float) → Unit p → Unit c → Unit (fract_of (p ⊕ c))
unfolding of_bits proves
part_in p c h k = fract_in k3 (p ⊕ c) (range k0 k3 (plus (leaf h) (leaf k)) tt)

pub asym_in : (p : Float) → Unit p → In binary32 k0 k8 (TAU ⊗ asym_of p)
unfolding asym_of of_bits proves
asym_in p h =
    range k0 k8 (times (con TAU) (leaf (in_cond binary32 k0 k1p01 (lt p k0p35)
    (λ t. range k0 k1p01 (over (leaf (cut_high h k0p35 tt (lt→le p k0p35 t))) k0p7) tt)
    (λ t. range k0 k1p01 (plus (con k0p5) (over (minus (leaf (cut_low h k0p35 tt (not_lt binary32 k0p35 p (good_of binary32 k0p35 tt) h.ok t))) (con k0p35)) k1p3)) tt)))) tt

pub wave_in : (w : Wave) (p : Float) → Unit p → Wide (wave_at w p)
unfolding wave_at of_bits proves
wave_in Off p h = range (neg k2) k2 (con k0) tt
wave_in Sine p h = turn_in p h
wave_in AsymSine p h = sine_in _ (asym_in p h)
wave_in Triangle p h =
    range (neg k2) k2 (minus (con k1) (times (con k4) (leaf (abs_in k0p5 (fract_of (p ⊕ k0p25) ⊖ k0p5) (range (neg k0p5) k0p5 (minus (leaf (part_in p k0p25 h (range k0 k1 (con k0p25) tt))) (con k0p5)) tt))))) tt
wave_in SineSaw p h = range (neg k2) k2 (plus (times (con k0p7) (leaf (turn_in p h))) (times (con k0p3) (minus (times (con k2) (leaf h)) (con k1)))) tt
wave_in Saw p h = range (neg k2) k2 (minus (times (con k2) (leaf (part_in p k0p5 h (range k0 k1 (con k0p5) tt)))) (con k1)) tt
wave_in Square p h = in_cond binary32 (neg k2) k2 (lt p k0p5) (λ t. range (neg k2) k2 (con k1) tt) (λ t. range (neg k2) k2 (con (neg k1)) tt)

pub osc_in : (stopped : Bool) (w : Wave) (p : Float) → Unit p → Wide (osc_of stopped w p)
unfolding osc_of of_bits proves
osc_in true w p h = range (neg k2) k2 (con k1) tt
osc_in false w p h = wave_in w p h

-- ---- a phase from 0 to below 1
pub record Turn (x : Float) : Type 0 where
  pub unit : Unit x
  pub below : T (lt x k1)

-- of a constant, by computing
pub turn_of_lem : (x : Float) → T (good binary32 x && le k0 x && lt x k1) → Turn x
unfolding of_bits fits
turn_of_lem x t =
    let g = and_l (good binary32 x && le k0 x) (lt x k1) t in
    let l = and_r (good binary32 x && le k0 x) (lt x k1) t in
    record { unit = in_of binary32 k0 k1 x tt (good_of binary32 x (and_l (good binary32 x) (le k0 x) g)).0 (and_r (good binary32 x) (le k0 x) g) (lt→le x k1 l); below = l }

pub turn_below : (x : Float) → Turn x → BelowOne x
turn_below x h = record { from = h.unit.from; below = h.below }

-- ---- the first phase rule, at a frequency from 0 to 65535 Hz
pub advanced_in : (p v : Float) → Unit p → In binary32 k0 k65535 v → Turn (advanced p v FS)
unfolding advanced of_bits proves
advanced_in p v h k = let x = range k0 k3 (plus (leaf h) (over (leaf k) FS)) tt in record { unit = fract_in k3 (p ⊕ v ⊘ FS) x; below = fract_below k3 (p ⊕ v ⊘ FS) x }

-- ---- the second, by any finite advance: a remainder of 1 becomes 0
pub advanced_fm_below : (p v fs : Float) → T (fits binary32 p) → BelowOne p → T (finite (v ⊘ fs)) → Turn (advanced_fm p v fs)
unfolding advanced_fm of_bits fits proves
advanced_fm_below p v fs f h t =
    let phase = in_of binary32 k0 k1 p tt f h.from (lt→le p k1 h.below) in
    let sum = range (neg largest) largest (plus (leaf phase) (leaf (finite_in (v ⊘ fs) (div-fits binary32 v fs, t)))) tt in
    by _ (turn_of_lem _ tt) (rem_euclid_of (p ⊕ v ⊘ fs) k1) (rem_euclid_in (p ⊕ v ⊘ fs) sum.ok) (eq (rem_euclid_of (p ⊕ v ⊘ fs) k1) k1) refl
  where
    by : (z : Float) → Turn z → (r : Float) → Unit r → (b : Bool) → eq r k1 ≡ b → Turn (cond b z r)
    by z h r i true e = h
    by z h r i false e = record { unit = i; below = le→lt r k1 i.upto e }

-- ---- in a voice: frequency modulation by o2, to the depth w
pub advanced_fm_in : (fm : Bool) (p v w o : Float) → Turn p → In binary32 k0 k65535 v → In binary32 k0 k65535 w → Wide o → Turn (advanced_fm p (modulated fm (min_of v (FS ⊗ k0p45)) w o) FS)
unfolding modulated of_bits proves
advanced_fm_in true p v w o h a b c =
    advanced_fm_below p (min_of v (FS ⊗ k0p45) ⊗ (k1 ⊕ w ⊘ FM_UNITS ⊗ o)) FS h.unit.ok.0 (turn_below p h)
    (range (neg k127) k127 (over (times (capped (leaf a) (FS ⊗ k0p45)) (plus (con k1) (times (over (leaf b) FM_UNITS) (leaf c)))) FS) tt).ok.1
advanced_fm_in false p v w o h a b c = advanced_fm_below p (min_of v (FS ⊗ k0p45)) FS h.unit.ok.0 (turn_below p h) (range (neg k127) k127 (over (capped (leaf a) (FS ⊗ k0p45)) FS) tt).ok.1

-- ---- without modulation both rules are the same, at a frequency that is no zero and below the second one's limit
pub uncapped : (v : Float) → In binary32 k0p001 (FS ⊗ k0p45) v → min_of v (FS ⊗ k0p45) ≡ v
unfolding min_of is_nan
uncapped v h = rw (below_not v (FS ⊗ k0p45) h.upto, same_number v (number v h.ok.1)) refl
  where
    number : (x : Float) → T (finite x) → T (not (is_nan x))
    number nan t = t
    number (inf s) t = tt
    number (fin s m e) t = tt

pub advanced_alike : (p v : Float) → Unit p → In binary32 k0p001 k65535 v → advanced_fm p v FS ≡ advanced p v FS
unfolding advanced advanced_fm of_bits proves
advanced_alike p v h k =
    let x = p ⊕ v ⊘ FS in
    let small = fin false 1 (negsuc 29) in
    let i : In binary32 small k3 x = range small k3 (plus (leaf h) (over (leaf k) FS)) tt in
    rw (rem_euclid_fract x i.ok.0 (lt_of_lt_of_le k0 small x (unfold lt in tt) i.from), fract_not_one x i.ok.0) refl
