use Prim.Native.Nat.{◌+◌, ◌*◌, ◌≤◌}
use mathlib.Core.Path.{◌≡◌}
use Rattle.frame.specs.Frame.{field_at}
use Rattle.lists.specs.Turns.{turns_of}
use Rattle.metal.specs.Metal.{turn_of}
use Rattle.metal.proofs.run.Given as goal

abbrev pub invariant-loop-k : goal.invariant-loop-k
invariant-loop-k l = (l.b.running ≤ l.k) × (l.b ≡ turns_of l.k (λ i x. turn_of (field_at l.f (l.o + 4 * i)) l.det l.skip i x) l.initial.b)
