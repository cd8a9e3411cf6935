use Rattle.std.proofs.Common.{◌≡◌, ℕ, ◌-◌, ◌*◌, ◌%◌, ◌≤◌, List, ◌++◌, length}
use Rattle.std.specs.Io.KnownBytes.{Appends}
use Rattle.player.specs.Text.{lines_of}
use Rattle.player.proofs.write_steps.Given as goal

-- what is written, what is in the page and the lines of the steps left make the whole text; the page holds as many lines as steps came after the last page
abbrev pub invariant-loop-step : goal.invariant-loop-step
invariant-loop-step g l =
    (length l.page.items ≤ 176 * (l.step % 93))
    × (written : List ℕ) × Appends (g.W.Write.contents l.initial.out) (g.W.Write.contents l.out) written
    × (written ++ (l.page.items ++ lines_of (l.step-end - l.step) l.playing l.rec) ≡ lines_of l.fn.start.steps l.fn.start l.rec)
