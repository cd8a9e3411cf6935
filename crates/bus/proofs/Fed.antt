-- What a chain is fed decides what it does: sources that are the same, or zeros of two signs, feed the chains alike, since a DAC word's part is never -0. Assumes nothing.
use Prim.Native.Nat.{ℕ, zero, suc}
use native.Mathlib.Omega.{arith}
use Rattle.std.proofs.Common.{le→leb}
use mathlib.Core.Path.{◌≡◌, refl}
use mathlib.Core.Bool.{not, false}
use mathlib.Core.List.{List}
use lib.ListN.{get_or}
use lib.Dec.{T}
use lib.IntN.{ℤ, pos, negsuc}
use Rattle.std.specs.Int.Signed.{le_z}
use lib.Ieee.{Float, fin, binary32, neg, lt, le, eq, fits, of_bits, of_int, round, mul, div}
use lib.Ieee.Fits.{mul-fits}
use Rattle.std.proofs.lemmas.Float.{lt_of_lt_of_le, lt_of_le_of_lt}
use Rattle.line.proofs.Range.{In}
use Rattle.line.proofs.Whole.{of_int_in}
use Rattle.float.specs.Consts.{k0, k1, k0p5, k8388608}
use Rattle.float.specs.Ops.{◌⊗◌, ◌⊘◌}
use Rattle.float.proofs.Laws.{minus_zero}
use Rattle.float.proofs.Eval.{leaf, con, times, over, range, proves}
use Rattle.float.proofs.Zeros.{Alike, alike_plus, positive, negative}
use Rattle.lists.proofs.Sweep.{turns_match}
use Rattle.chain.specs.declared.Chain.{Chain}
use Rattle.bus.specs.Bus.{Bus, dac_f, fed_of, input_of, turn_of, voices_of}

-- a DAC word of the step's range, as its chain takes it: 0, from 2 ^ -24 on, or up to -2 ^ -24
abbrev least : Float
least = fin false 1 (negsuc 23)

word_not_minus : (z : ℤ) → T (le_z (negsuc 8388607) z) → T (le_z z (pos 8388607)) → T (not (minus_zero (of_int binary32 z ⊘ k8388608 ⊗ k0p5)))
word_not_minus (pos zero) a b = unfold of_int round div mul of_bits in tt
word_not_minus (pos (suc n)) a b =
    let w = of_int binary32 (pos (suc n)) in
    let i : In binary32 k1 k8388608 w = unfold of_bits of_int round fits le lt eq in of_int_in binary32 (pos 1) (pos 8388607) k1 k8388608 (pos (suc n)) (le→leb 1 (suc n) (omega arith)) b tt in
    let h : In binary32 least k1 (w ⊘ k8388608 ⊗ k0p5) = unfold proves of_bits in range least k1 (times (over (leaf i) k8388608) (con k0p5)) tt in
    positive (w ⊘ k8388608 ⊗ k0p5) (lt_of_lt_of_le k0 least (w ⊘ k8388608 ⊗ k0p5) (unfold lt of_bits in tt) h.from)
word_not_minus (negsuc n) a b =
    let w = of_int binary32 (negsuc n) in
    let i : In binary32 (neg k8388608) (neg k1) w = unfold of_bits of_int round fits le lt eq neg in of_int_in binary32 (negsuc 8388607) (negsuc 0) (neg k8388608) (neg k1) (negsuc n) a (le→leb 0 n (omega arith)) tt in
    let h : In binary32 (neg k1) (neg least) (w ⊘ k8388608 ⊗ k0p5) = unfold proves of_bits in range (neg k1) (neg least) (times (over (leaf i) k8388608) (con k0p5)) tt in
    negative (w ⊘ k8388608 ⊗ k0p5) (lt_of_le_of_lt (w ⊘ k8388608 ⊗ k0p5) (neg least) k0 h.upto (unfold lt neg of_bits in tt))

-- ---- the chains
-- every DAC word that is read is in the step's range
pub record Words (dac : List ℤ) : Type 0 where
  pub least : (v : ℕ) → T (le_z (negsuc 8388607) (get_or dac v (pos 0)))
  pub most : (v : ℕ) → T (le_z (get_or dac v (pos 0)) (pos 8388607))

pub fed_alike : (dac : List ℤ) (v : ℕ) (x y : Float) → Words dac → Alike x y → fed_of dac v x ≡ fed_of dac v y
unfolding fed_of dac_f
fed_alike dac v x y h a = alike_plus x y (of_int binary32 (get_or dac v (pos 0)) ⊘ k8388608 ⊗ k0p5) a (mul-fits binary32 _ _) (word_not_minus (get_or dac v (pos 0)) (h.least v) (h.most v))

pub voices_fed : (f : List ℕ) (dac : List ℤ) (src fed : List Float) (chains : List Chain) → ((v : ℕ) → input_of dac fed v ≡ input_of dac src v) → voices_of f dac fed chains ≡ voices_of f dac src chains
unfolding voices_of turn_of
voices_fed f dac src fed chains h =
    turns_match (λ (b e : Bus). b ≡ e) 8 (turn_of f dac fed) (turn_of f dac src) _ _
    (λ v b e l q. rw (q, h v) refl) refl
