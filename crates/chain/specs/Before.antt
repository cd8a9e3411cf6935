-- Chains of before a request, which have other fields than today's. Definitions only.
use Rattle.std.specs.Prelude.{ℕ, List, Float}
use Rattle.stereo.specs.declared.Mix.{Mix}
use Rattle.chain.specs.declared.Chain.{Chain}
use Rattle.chain.specs.declared.ChainOut.{ChainOut}

-- a chain of then after its sample, and the sample, left and right
pub record OutOn (C : Type 0) : Type 0 where
  pub chain : C
  pub y : Mix

-- a kind of chain: a fresh one, a sample of it, and what of today's chain it has
pub record Kind (C : Type 0) : Type 0 where
  pub new : C
  pub process : List ℕ → ℕ → Float → C → OutOn C
  pub earlier : Chain → C

abbrev pub earlier_out : {C : Type 0} → (Chain → C) → ChainOut → OutOn C
earlier_out e o = record { chain = e o.chain; y = o.y }
