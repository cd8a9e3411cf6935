-- A chain beside the one before R-5: its left side and its earlier fields are that one's on any frame; and where both amps stand alike and both records are the
-- same bytes, so they stand after it, and all that it gives is that one's. Assumes nothing.
use Prim.Native.Nat.{ℕ, ◌+◌, ◌*◌}
use mathlib.Core.Path.{◌≡◌, refl, sym, ap, ap₂, ◌∙◌}
use mathlib.Core.Bool.{true}
use mathlib.Core.List.{List}
use lib.Ieee.{Float}
use Rattle.float.specs.Ops.{◌⊗◌}
use Rattle.frame.specs.Offsets.{AMP_ENV, AMP_ENV_R}
use Rattle.frame.specs.Frame.{bytes_at}
use Rattle.envelope.specs.declared.SegEnv.{SegEnv}
use Rattle.envelope.specs.Moves.{seg_of}
use Rattle.chain.specs.declared.Chain.{Chain}
use Rattle.chain.specs.declared.ChainOut.{ChainOut}
use Rattle.chain.specs.Chain.{settings_of, gain_of, process_of}
use Rattle.chain.specs.Before.{OutOn, earlier_out}
use Rattle.chain.specs.BeforeR5.{ChainBefore, settings_before, process_before, earlier_chain}
use Rattle.chain.proofs.Own.{each_its_own}

-- what a sample gives, with one side's sample on both
abbrev given : ChainOut → Float → OutOn ChainBefore
given o y = record { chain = earlier_chain o.chain; y = record { l = o.y.l; r = y } }

abbrev pub left_of : ChainOut → OutOn ChainBefore
left_of o = given o o.y.l

module _ (f : List ℕ) (v : ℕ) (x : Float) (c : Chain) where
  pub left_as_before : process_before f v x (earlier_chain c) ≡ left_of (process_of f v x c)
  unfolding process_of settings_of process_before settings_before
  left_as_before = refl

  pub alike_after : c.amp_r ≡ c.amp → bytes_at f (AMP_ENV_R + 8 * v) ≡ bytes_at f (AMP_ENV + 8 * v) → (process_of f v x c).chain.amp_r ≡ (process_of f v x c).chain.amp
  alike_after e r = let s = each_its_own f v x c in s.amp_r ∙ ap₂ (seg_of true) r e ∙ sym s.amp

  pub as_before : c.amp_r ≡ c.amp → bytes_at f (AMP_ENV_R + 8 * v) ≡ bytes_at f (AMP_ENV + 8 * v) → process_before f v x (earlier_chain c) ≡ earlier_out earlier_chain (process_of f v x c)
  as_before e r =
      let o = process_of f v x c in
      let s = each_its_own f v x c in
      let right : o.y.r ≡ o.y.l = s.right ∙ ap (λ (a : SegEnv). o.filtered ⊗ gain_of a.level) (alike_after e r) ∙ sym s.left in
      left_as_before ∙ ap (given o) (sym right)
