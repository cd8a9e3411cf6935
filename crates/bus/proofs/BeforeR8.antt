-- A chain whose stored coefficients are those of their pair is as before R-8, with any frame, and stays so. Assumes nothing.
use Prim.Native.Nat.{ℕ}
use mathlib.Core.List.{List}
use Rattle.chain.specs.declared.Chain.{Chain}
use Rattle.chain.specs.BeforeR8.{before}
use Rattle.chain.proofs.BeforeR8.{FromPair, as_before, right_after}
use Rattle.bus.proofs.Before.{AsThen}

abbrev pub RightlyStored : Chain → Type 0
RightlyStored c = FromPair c.coefs

pub every_frame : (f : List ℕ) → AsThen before RightlyStored f
every_frame f = record { same = λ v x c l r. as_before f v x c r; kept = λ v x c l r. right_after f v x c r }
