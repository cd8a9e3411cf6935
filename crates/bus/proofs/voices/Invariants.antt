use mathlib.Core.Path.{◌≡◌}
use Rattle.lists.specs.Turns.{turns_of}
use Rattle.bus.specs.Bus.{Bus, turn_of}
use Rattle.bus.proofs.voices.Given as goal

abbrev pub invariant-loop-v : goal.invariant-loop-v
invariant-loop-v l =
    let now : Bus = record { chains = l.chains; rx = l.rx; mix = l.mix } in
    now ≡ turns_of l.v (turn_of l.f l.dac l.src) (record { chains = l.initial.chains; rx = l.initial.rx; mix = l.initial.mix })
