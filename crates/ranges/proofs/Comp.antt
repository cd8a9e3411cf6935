-- What the compressor gives to exp, log10 and, for its dry gain, to the power of ten lies in their ranges. Assumes nothing.
use Prim.Native.Nat.{ℕ, ◌+◌, ◌<◌, min}
use native.Mathlib.Omega.{arith}
use mathlib.Core.Bool.{Bool, true, false, not, ◌&&◌, cond}
use mathlib.Core.List.{List}
use lib.Dec.{T, le→leb}
use lib.ListN.{get_or, length}
use lib.IntN.{pos}
use lib.Ieee.{Float, nan, binary32, neg, lt, le, ne, eq, fits, of_bits, of_int, round, mul, div, is_nan}
use lib.Ieee.Bits.{is_false}
use lib.Ieee.Fits.{and_l, and_r}
use Rattle.line.proofs.Range.{In, in_cond}
use Rattle.line.proofs.Whole.{of_int_in}
use Rattle.lists.proofs.Sweep.{turns_keep}
use Rattle.lists.proofs.Table.{every, at}
use Rattle.float.specs.Consts.{k0, k10, k256, k440, k22000, k0p45}
use Rattle.float.specs.Ops.{◌⊖◌, ◌⊗◌, ◌⊘◌}
use Rattle.float.specs.Floats.{max_of}
use Rattle.float.proofs.Eval.{Ex, leaf, con, plus, minus, times, over, range, proves}
use Rattle.fixed.proofs.Order.{not_lt, a_number}
use Rattle.power.specs.Power.{zero_f, exp_low, ten_low, ten_high}
use Rattle.log10.specs.Log10.{least}
use Rattle.comp.specs.Consts.{k20, k400, k1000, k2500, k0p000001, k0p2}
use Rattle.comp.specs.Tables.{attacks, attack_of, releases, release_of, vol_row, vol_rows}
use Rattle.comp.specs.Comp.{vol_first, vol_turn, vol_of}
use Rattle.comp.proofs.Volume.{below, below_at}
use Rattle.ranges.specs.Arguments.{pole, kept, envelope, decibels}
use Rattle.ranges.specs.Ranges.{InExp, InPow10, InLog10}
use Rattle.ranges.proofs.Chain.{pole_call}

-- the sidechain's low-passes
pub low_pole_call : InExp (pole k400)
low_pole_call = pole_call k400 (unfold of_bits proves in range k10 k22000 (con k400) tt)

pub high_pole_call : InExp (pole k2500)
high_pole_call = pole_call k2500 (unfold of_bits proves in range k10 k22000 (con k2500) tt)

-- ---- attack and release: a test of each entry, which is computed
abbrev holds : Float → Bool
holds t = le exp_low (kept t) && le (kept t) zero_f

entry_in : (g : Float → Float) (xs : List Float) → T (every (λ _ (a : Float). holds (g a)) 0 xs) → (i : ℕ) → i < length xs → InExp (kept (g (get_or xs i nan)))
entry_in g xs t i l =
    let x = kept (g (get_or xs i nan)) in
    let h = at nan (λ _ (a : Float). holds (g a)) xs t i l in
    (and_l (le exp_low x) (le x zero_f) h, and_r (le exp_low x) (le x zero_f) h)

pub attack_call : (b : ℕ) → InExp (kept (attack_of b ⊘ k1000))
unfolding attack_of attacks
attack_call b = entry_in (λ (a : Float). a ⊘ k1000) attacks (unfold max_of of_bits neg mul div round lt le eq ne in tt) (min b 6) (omega arith)

pub release_call : (b : ℕ) → InExp (kept (k0p45 ⊗ release_of b))
unfolding release_of releases
release_call b = entry_in (λ (a : Float). k0p45 ⊗ a) releases (unfold max_of of_bits neg mul div round lt le eq ne in tt) (min b 7) (omega arith)

-- the envelope: of every value, not a number and the infinities too
pub level_call : (env : Float) → InLog10 (envelope env)
unfolding max_of of_bits is_nan
level_call env = by (lt env k0p000001) (ne env env) (λ t. t) (λ t. t)
  where
    by : (s t : Bool) → (T (not s) → T (not (lt env k0p000001))) → (T (not t) → T (not (ne env env))) → T (le least (cond s k0p000001 (cond t k0p000001 env)))
    by true t g h = unfold le lt eq in tt
    by false true g h = unfold le lt eq in tt
    by false false g h = not_lt env k0p000001 (a_number env (is_false (ne env env) (h tt))) tt (g tt)

-- ---- the dry gain: every row's line, anywhere from 0 to 256, lies from -440 to 440 dB
abbrev Decibels : Float → Type 0
Decibels x = In binary32 (neg k440) k440 x

module _ (v : Float) (h : In binary32 k0 k256 v) where
  abbrev line : ℕ → Ex binary32
  line i =
      let a = vol_row i in
      let b = vol_row (i + 1) in
      plus (con a.dry) (times (over (minus (leaf h) (con a.vol)) (b.vol ⊖ a.vol)) (minus (con b.dry) (con a.dry)))

  first_in : Decibels (vol_first v)
  unfolding vol_first vol_row vol_rows of_bits proves
  first_in =
      let a = vol_row 0 in
      in_cond binary32 (neg k440) k440 (lt v a.vol) (λ t. range (neg k440) k440 (minus (con a.dry) (times (minus (con a.vol) (leaf h)) (con k0p2))) tt) (λ t. range (neg k440) k440 (con a.dry) tt)

  lines_in : T (below (λ i. proves (neg k440) k440 (line i)) 8)
  unfolding vol_row vol_rows of_bits proves
  lines_in = tt

  turn_in : (i : ℕ) (x : Float) → i < 8 → Decibels x → Decibels (vol_turn v i x)
  unfolding vol_turn
  turn_in i x l k = in_cond binary32 (neg k440) k440 (le v (vol_row (i + 1)).vol && le (vol_row i).vol v) (λ t. range (neg k440) k440 (line i) (below_at (λ j. proves (neg k440) k440 (line j)) 8 lines_in i l)) (λ t. k)

  vol_in : Decibels (vol_of v)
  unfolding vol_of
  vol_in = turns_keep Decibels 8 (vol_turn v) (vol_first v) turn_in first_in

-- for every byte of VOL
pub dry_call : (b : ℕ) → b < 256 → InPow10 (decibels (vol_of (of_int binary32 (pos b))))
unfolding of_bits proves
dry_call b h = let i = range ten_low ten_high (over (leaf (vol_in (of_int binary32 (pos b)) number_in)) k20) tt in (i.from, i.upto)
  where
    number_in : In binary32 k0 k256 (of_int binary32 (pos b))
    number_in = unfold of_int round fits le lt eq in of_int_in binary32 (pos 0) (pos 256) k0 k256 (pos b) (le→leb 0 b (omega arith)) (le→leb b 256 (omega arith)) tt
