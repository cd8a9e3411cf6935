-- A contribution is a number, and zero where a factor of it is: filtered sample and gain are finite, the gain at most 1. Assumes nothing.
use Prim.Native.Nat.{◌≤◌}
use mathlib.Core.Path.{◌≡◌}
use mathlib.Core.Bool.{Bool, true, false, not, cond}
use lib.Dec.{T}
use lib.IntN.{pos}
use lib.Ieee.{Float, fin, binary32, neg, le, lt, eq, fits, is_nan, of_bits, of_int}
use Rattle.line.proofs.Mono.{Good}
use Rattle.line.proofs.Range.{In, in_cond, in_self, in_wide, finite_in, largest}
use Rattle.float.specs.Consts.{k0, k1, k127, k32767, k65535, LEVELS_PER_6DB}
use Rattle.float.specs.Ops.{◌⊗◌}
use Rattle.float.proofs.Eval.{leaf, con, minus, times, over, range, proves}
use Rattle.float.proofs.Numbers.{word_range, mul_number, over_number, zero_is, zero_in}
use Rattle.envelope.specs.Levels.{Level}
use Rattle.envelope.proofs.Ranges.{level_range}
use Rattle.power.proofs.Laws.{exp2_gain}
use Rattle.chain.specs.Chain.{gain_of}
use Rattle.why.specs.declared.Share.{Share}
use Rattle.why.specs.Told.{product_of}

-- what a share's figures are on a board within the ranges
pub record Figures (p : Share) : Type 0 where
  pub filtered : Good binary32 p.filtered
  pub level : Level p.level
  pub vca : p.vca ≤ 65535
  pub product : p.adds ≡ cond p.off k0 (product_of p)

pub both : {X : Type 0} (b : Bool) → T b → T (not b) → X
both true t n = absurd n
both false t n = absurd t

gain_in : (l : Float) → Level l → In binary32 k0 k1 (gain_of l)
unfolding gain_of of_bits fits le lt eq
gain_in l h =
    in_cond binary32 k0 k1 (le l k0) (λ t. in_wide binary32 k0 k1 (in_self binary32 k0 tt) tt)
    (λ t. in_wide binary32 k0 k1 (exp2_gain (unfold proves neg in range (fin true 1 (pos 4)) (fin false 0 (pos 0)) (over (minus (leaf (level_range l h)) (con k127)) LEVELS_PER_6DB) tt)) tt)

gain_zero : (l : Float) → T (le l k0) → In binary32 k0 k0 (gain_of l)
unfolding gain_of of_bits fits le lt eq
gain_zero l h = in_cond binary32 k0 k0 (le l k0) (λ t. in_self binary32 k0 tt) (λ t. both (le l k0) h t)

module _ (p : Share) (g : Figures p) where
  wide : In binary32 (fin true 16777215 (pos 104)) largest p.filtered
  wide = finite_in p.filtered g.filtered

  word : In binary32 k0 k65535 (of_int binary32 (pos p.vca))
  word = word_range p.vca g.vca

  sample : In binary32 (fin true 16777215 (pos 104)) largest (p.filtered ⊗ gain_of p.level)
  unfolding of_bits proves
  sample = range (fin true 16777215 (pos 104)) largest (times (leaf wide) (leaf (gain_in p.level g.level))) tt

  pub number : T (not (is_nan p.adds))
  unfolding product_of of_bits is_nan
  number = rw g.product (by p.off)
    where
      by : (b : Bool) → T (not (is_nan (cond b k0 (product_of p))))
      by true = tt
      by false = over_number binary32 (p.filtered ⊗ gain_of p.level ⊗ of_int binary32 (pos p.vca)) false 32766 (pos 0) (mul_number binary32 (p.filtered ⊗ gain_of p.level) (of_int binary32 (pos p.vca)) sample.ok.1 word.ok.1)

  zero_where : In binary32 k0 k0 (product_of p) → T (eq p.adds k0)
  unfolding eq of_bits
  zero_where i = rw g.product (by p.off)
    where
      by : (b : Bool) → T (eq (cond b k0 (product_of p)) k0)
      by true = tt
      by false = zero_is _ i.from i.upto

  pub zero_off : T p.off → T (eq p.adds k0)
  unfolding eq of_bits
  zero_off t = rw g.product (by p.off t)
    where
      by : (b : Bool) → T b → T (eq (cond b k0 (product_of p)) k0)
      by true t = tt
      by false t = absurd t

  pub zero_amp : T (le p.level k0) → T (eq p.adds k0)
  unfolding product_of of_bits proves
  zero_amp h = zero_where (range k0 k0 (over (times (times (leaf wide) (leaf (gain_zero p.level h))) (leaf word)) k32767) tt)

  pub zero_vca : p.vca ≡ 0 → T (eq p.adds k0)
  unfolding product_of of_bits proves
  zero_vca e = zero_where (range k0 k0 (over (times (leaf sample) (leaf none)) k32767) tt)
    where
      none : In binary32 k0 k0 (of_int binary32 (pos p.vca))
      none = rw e (unfold of_int of_bits fits le lt eq in in_self binary32 k0 tt)

  pub zero_filtered : T (eq p.filtered k0) → T (eq p.adds k0)
  unfolding product_of of_bits proves
  zero_filtered h = zero_where (range k0 k0 (over (times (times (leaf (zero_in p.filtered g.filtered.0 h)) (leaf (gain_in p.level g.level))) (leaf word)) k32767) tt)
