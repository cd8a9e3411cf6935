-- What R-5 left of the voices as it was: all but the right side. Definitions only.
use Rattle.std.specs.Prelude.{ℕ, ◌≡◌, ◌+◌, ◌*◌, ◌<◌, List}
use Rattle.frame.specs.Offsets.{AMP_ENV, AMP_ENV_R}
use Rattle.frame.specs.Frame.{bytes_at}
use Rattle.chain.specs.BeforeR5.{ChainBefore, earlier_chain}
use Rattle.bus.specs.Bus.{Bus}
use Rattle.bus.specs.Before.{BusOn, earlier_chains}

-- receive words, left mix and the chains' earlier fields are those of then
pub record LeftAsBefore (b : Bus) (e : BusOn ChainBefore) : Type 0 where
  pub chains : e.chains ≡ earlier_chains earlier_chain b.chains
  pub rx : e.rx ≡ b.rx
  pub left : e.mix.l ≡ b.mix.l

-- both amp records of each voice are the same eight bytes
abbrev pub SameRecords : List ℕ → Type 0
SameRecords f = (v : ℕ) → v < 8 → bytes_at f (AMP_ENV_R + 8 * v) ≡ bytes_at f (AMP_ENV + 8 * v)
