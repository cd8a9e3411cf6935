-- The voices' chains, receive words and mix, and the master distortion, from `Analog::frame`. Definitions only.
use Rattle.std.specs.Prelude.{ℕ, ◌≡◌, ◌+◌, ◌*◌, ◌≤◌, cond, List, get_or, set, replicate, ℤ, pos, nat_abs, Float}
use Rattle.std.specs.Float.{binary32, nan}
use Rattle.std.specs.Float.Ieee.{neg, lt, of_int}
use Rattle.float.specs.Consts.{k0, k1, k15, k32767, k65536, k8388608, k0p5}
use Rattle.float.specs.Ops.{◌⊕◌, ◌⊗◌, ◌⊘◌}
use Rattle.float.specs.Floats.{clamp_of, to24_of}
use Rattle.frame.specs.Offsets.{DIST, VCA_L, VCA_R}
use Rattle.frame.specs.Frame.{word_f, routed_off}
use Rattle.lists.specs.Turns.{turns_of}
use Rattle.tanh.specs.Tanh.{tanh_of}
use Rattle.chain.specs.declared.Chain.{Chain}
use Rattle.chain.specs.declared.ChainOut.{ChainOut}
use Rattle.chain.specs.Chain.{no_chain, process_of}
use Rattle.stereo.specs.declared.Mix.{Mix}
use Rattle.bus.specs.declared.BusOut.{BusOut}

-- "DAC 12, 13 negated", before the distortion, and "DAC 14, 15" after it: the FX returns
abbrev pub DAC_PRE : ℕ
DAC_PRE = 12

abbrev pub DAC_POST : ℕ
DAC_POST = 14

-- DAC word i / 2 ^ 23
unfoldable pub dac_f : List ℤ → ℕ → Float
dac_f dac i = of_int binary32 (get_or dac i (pos 0)) ⊘ k8388608

-- an FX return: DAC word i negated
unfoldable pub return_of : List ℤ → ℕ → Float
return_of dac i = neg (of_int binary32 (get_or dac i (pos 0))) ⊘ k8388608

-- "Voice v's chain takes its source plus DAC word v / 2^23 × 0.5": of a source x, and of its own
unfoldable pub fed_of : List ℤ → ℕ → Float → Float
fed_of dac v x = x ⊕ dac_f dac v ⊗ k0p5

unfoldable pub input_of : List ℤ → List Float → ℕ → Float
input_of dac src v = fed_of dac v (get_or src v nan)

-- what voice v adds to the side whose VCA words stand from `vca` on
unfoldable pub contribution_of : List ℕ → ℕ → ℕ → Float → Float
contribution_of f vca v y = y ⊗ word_f f (vca + 2 * v) ⊘ k32767

-- the mix with voice v: "a set bit keeps the voice from the mix only"
unfoldable pub added_of : List ℕ → ℕ → Mix → Mix → Mix
added_of f v m y = cond (routed_off f v) m (record { l = m.l ⊕ contribution_of f VCA_L v y.l; r = m.r ⊕ contribution_of f VCA_R v y.r })

-- the chains, the receive words and the mix as far as the voices have gone
pub record Bus : Type 0 where
  pub chains : List Chain
  pub rx : List ℤ
  pub mix : Mix

abbrev pub bus : List Chain → BusOut → Bus
bus chains o = record { chains = chains; rx = o.rx; mix = o.mix }

-- voice v: its chain's left output × 0.5 becomes receive word v
unfoldable pub turn_of : List ℕ → List ℤ → List Float → ℕ → Bus → Bus
turn_of f dac src v b =
    let o = process_of f v (input_of dac src v) (get_or b.chains v no_chain) in
    record { chains = set b.chains v o.chain; rx = set b.rx v (to24_of (o.y.l ⊗ k0p5)); mix = added_of f v b.mix o.y }

-- chains 0 to 7
unfoldable pub voices_of : List ℕ → List ℤ → List Float → List Chain → Bus
voices_of f dac src chains = turns_of 8 (turn_of f dac src) (record { chains = chains; rx = replicate 12 (pos 0); mix = record { l = k0; r = k0 } })

-- voice v's sample, of its own chain
unfoldable pub sample_of : List ℕ → List ℤ → List Float → List Chain → ℕ → ChainOut
sample_of f dac src chains v = process_of f v (input_of dac src v) (get_or chains v no_chain)

-- a side's sum of such samples, in the order of the voices, without those that are routed off
unfoldable pub sum_of : List ℕ → ℕ → (ℕ → Float) → ℕ → Float
sum_of f vca y n = turns_of n (λ v m. cond (routed_off f v) m (m ⊕ contribution_of f vca v (y v))) k0

-- "the left mix .. use the left level, the right mix the right one": each side is the sum of its own samples alone
pub record EachSideAlone (f : List ℕ) (dac : List ℤ) (src : List Float) (chains : List Chain) (m : Mix) : Type 0 where
  pub left : m.l ≡ sum_of f VCA_L (λ v. (sample_of f dac src chains v).y.l) 8
  pub right : m.r ≡ sum_of f VCA_R (λ v. (sample_of f dac src chains v).y.r) 8

-- each word within ±8,388,607
abbrev pub InWordRange : List ℤ → Type 0
InWordRange l = (k : ℕ) → nat_abs (get_or l k (pos 0)) ≤ 8388607

-- the master distortion from word 0
unfoldable pub distort_of : List ℕ → Mix → Mix
distort_of f m =
    let dist = clamp_of (word_f f DIST ⊘ k65536) k0 k1 in
    let k = k1 ⊕ k15 ⊗ dist in
    cond (lt k0 dist) (record { l = tanh_of (m.l ⊗ k) ⊘ tanh_of k; r = tanh_of (m.r ⊗ k) ⊘ tanh_of k }) m

-- "Then DAC 12, 13 negated, distortion from word 0, DAC 14, 15 negated, ext"
unfoldable pub master_of : List ℕ → List ℤ → Mix → Mix → Mix
master_of f dac m ext =
    let d = distort_of f (record { l = m.l ⊕ return_of dac DAC_PRE; r = m.r ⊕ return_of dac (DAC_PRE + 1) }) in
    record { l = d.l ⊕ return_of dac DAC_POST ⊕ ext.l; r = d.r ⊕ return_of dac (DAC_POST + 1) ⊕ ext.r }
