use Rattle.std.proofs.Common.{◌≡◌, ◌≤◌, ◌-◌, length, take}
use Rattle.std.specs.Io.KnownBytes.{Consumes}
use Rattle.player.proofs.fill.Given as goal

abbrev pub invariant-loop-length : goal.invariant-loop-length
invariant-loop-length g l = (length l.buffer ≡ length l.initial.buffer) × (l.length ≤ length l.buffer) × Consumes (g.R.Read.remaining l.initial.input) (g.R.Read.remaining l.input) (take l.length l.buffer)

-- the room that is left
abbrev pub decreases-loop-length : goal.decreases-loop-length
decreases-loop-length g l = length l.buffer - l.length
