use Rattle.std.proofs.Common.{◌≡◌, ◌++◌, ◌≤◌, ◌+◌, ◌*◌, length, take, drop}
use Rattle.text.specs.Text.{words_of}
use Rattle.text.proofs.words.Given as goal

-- there is room for the words left, and what is put with these is the whole text
abbrev pub invariant-loop-w : goal.invariant-loop-w
invariant-loop-w l =
    (length l.out ≡ length l.initial.out) × (l.next ≤ l.fn.at + 12 * l.w-index) × (take l.next l.out ++ words_of (drop l.w-index l.w-items) ≡ take l.fn.at l.initial.out ++ words_of l.w-items)
