-- The voices with chains of before a request: the turns of specs/Bus.antt. `x_on` is `x_of` there. Definitions only.
use Rattle.std.specs.Prelude.{ℕ, List, map, get_or, set, replicate, ℤ, pos, Float}
use Rattle.float.specs.Consts.{k0, k0p5}
use Rattle.float.specs.Ops.{◌⊗◌}
use Rattle.float.specs.Floats.{to24_of}
use Rattle.lists.specs.Turns.{turns_of}
use Rattle.chain.specs.declared.Chain.{Chain}
use Rattle.chain.specs.Chain.{no_chain}
use Rattle.chain.specs.Before.{Kind}
use Rattle.stereo.specs.declared.Mix.{Mix}
use Rattle.bus.specs.Bus.{Bus, input_of, added_of}

pub record BusOn (C : Type 0) : Type 0 where
  pub chains : List C
  pub rx : List ℤ
  pub mix : Mix

unfoldable pub turn_on : {C : Type 0} → Kind C → List ℕ → List ℤ → List Float → ℕ → BusOn C → BusOn C
turn_on c f dac src v b =
    let o = c.process f v (input_of dac src v) (get_or b.chains v (c.earlier no_chain)) in
    record { chains = set b.chains v o.chain; rx = set b.rx v (to24_of (o.y.l ⊗ k0p5)); mix = added_of f v b.mix o.y }

unfoldable pub voices_on : {C : Type 0} → Kind C → List ℕ → List ℤ → List Float → List C → BusOn C
voices_on c f dac src chains = turns_of 8 (turn_on c f dac src) (record { chains = chains; rx = replicate 12 (pos 0); mix = record { l = k0; r = k0 } })

-- today's chains and voices, told by what chains had then
unfoldable pub earlier_chains : {C : Type 0} → (Chain → C) → List Chain → List C
earlier_chains e l = map e l

abbrev pub earlier_bus : {C : Type 0} → (Chain → C) → Bus → BusOn C
earlier_bus e b = record { chains = earlier_chains e b.chains; rx = b.rx; mix = b.mix }
