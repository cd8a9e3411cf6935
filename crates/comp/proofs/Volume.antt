-- VOL at its edges: 0 gives the f32 nearest to -18.85, 127 gives 0, and every byte from 128 on the first row's -10.85. Assumes nothing.
-- Where no row matches the first row's answer stays; that none does is a test of the byte against each row, which is computed.
use Prim.Native.Nat.{ℕ, zero, suc, ◌+◌, ◌-◌, ◌≤◌, ◌<◌}
use native.Mathlib.Omega.{arith}
use native.Mathlib.Decide.{dec_lt}
use mathlib.Core.Path.{◌≡◌, refl, subst, ◌∙◌}
use mathlib.Core.Bool.{Bool, true, false, not, ◌&&◌}
use lib.Dec.{T}
use lib.IntN.{pos}
use lib.Ieee.{Float, binary32, lt, le, of_int}
use lib.Ieee.Fits.{and_l, and_r}
use Rattle.float.specs.Consts.{k0}
use Rattle.lists.specs.Turns.{turns_of}
use Rattle.lists.proofs.Sweep.{turns_keep}
use Rattle.comp.specs.Consts.{k_m10p85, k_m18p85}
use Rattle.comp.specs.Tables.{vol_row, vol_rows}
use Rattle.comp.specs.Comp.{vol_first, vol_turn, vol_of}

-- a test that passes at each number below n
abbrev pub below : (ℕ → Bool) → ℕ → Bool
below p zero = true
below p (suc n) = p n && below p n

pub below_at : (p : ℕ → Bool) (n : ℕ) → T (below p n) → (k : ℕ) → k < n → T (p k)
below_at p zero t k h = absurd (omega arith)
below_at p (suc n) t k h = by (λ i. below_at p n (and_r (p n) (below p n) t) k i) (dec_lt k n)
  where
    by : (k < n → T (p k)) → Dec (k < n) → T (p k)
    by rec (yes i) = rec i
    by rec (no i) = let e : n ≡ k = omega arith in subst (λ m. T (p m)) e (and_l (p n) (below p n) t)

no_t : (b : Bool) → T (not b) → b ≡ false
no_t true t = absurd t
no_t false t = refl

abbrev matches : Float → ℕ → Bool
matches v i = le v (vol_row (i + 1)).vol && le (vol_row i).vol v

abbrev unmatched : Float → Bool
unmatched v = below (λ i. not (matches v i)) 8

stays : (v : Float) → T (unmatched v) → vol_of v ≡ vol_first v
unfolding vol_of vol_turn
stays v t =
    turns_keep (λ x. x ≡ vol_first v) 8 (vol_turn v) (vol_first v) (λ k x l e. rw (no_t (matches v k) (below_at (λ i. not (matches v i)) 8 t k l)) e) refl

abbrev number : ℕ → Float
number b = of_int binary32 (pos b)

first_zero : vol_first (number 0) ≡ k_m18p85
unfolding vol_first vol_row vol_rows lib.Ieee.of_bits lib.Ieee.of_int lib.Ieee.neg lib.Ieee.lt lib.Ieee.sub lib.Ieee.add lib.Ieee.mul lib.Ieee.round
first_zero = refl

none_zero : T (unmatched (number 0))
unfolding vol_row vol_rows lib.Ieee.of_bits lib.Ieee.of_int lib.Ieee.le lib.Ieee.round
none_zero = tt

pub vol_zero : vol_of (number 0) ≡ k_m18p85
vol_zero = stays (number 0) none_zero ∙ first_zero

pub vol_full : vol_of (number 127) ≡ k0
unfolding vol_of vol_first vol_turn turns_of vol_row vol_rows lib.Ieee.of_bits lib.Ieee.of_int lib.Ieee.neg lib.Ieee.lt lib.Ieee.le lib.Ieee.sub lib.Ieee.add lib.Ieee.mul lib.Ieee.div lib.Ieee.round
vol_full = refl

abbrev past : ℕ → Bool
past k = not (lt (number (128 + k)) (vol_row 0).vol) && unmatched (number (128 + k))

tested : T (below past 128)
unfolding vol_row vol_rows lib.Ieee.of_bits lib.Ieee.of_int lib.Ieee.lt lib.Ieee.le lib.Ieee.round
tested = tt

past_first : (k : ℕ) → T (past k) → vol_of (number (128 + k)) ≡ k_m10p85
unfolding vol_first vol_row vol_rows
past_first k t =
    let a = not (lt (number (128 + k)) (vol_row 0).vol) in
    let b = unmatched (number (128 + k)) in
    stays (number (128 + k)) (and_r a b t) ∙ rw (no_t (lt (number (128 + k)) (vol_row 0).vol) (and_l a b t))

pub vol_past : (b : ℕ) → 128 ≤ b → b < 256 → vol_of (number b) ≡ k_m10p85
vol_past b l h =
    let e : 128 + (b - 128) ≡ b = omega arith in
    subst (λ m. vol_of (number m) ≡ k_m10p85) e (past_first (b - 128) (below_at past 128 tested (b - 128) (omega arith)))
