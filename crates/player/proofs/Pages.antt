-- The text that is written, what is in the page, and what is left. Assumes nothing.
use Rattle.std.proofs.Common.{◌≡◌, refl, ℕ, suc, ◌+◌, ◌*◌, ◌%◌, ◌≤◌, List, [], ◌++◌, append_assoc, append-nil, length, length-append, subst, arith, rules}
use Rattle.std.specs.declared.option.Option.{Option}
use Rattle.std.specs.Io.KnownBytes.{Appends}
use Rattle.std.proofs.KnownBytes.{Appends-trans}
use Rattle.board.specs.Board.{number_of}
use Rattle.recording.specs.declared.Playing.{Playing}
use Rattle.recording.specs.declared.Played.{Played}
use Rattle.recording.specs.Play.{next_of}
use Rattle.player.specs.Text.{step_line, line_of, lines_of}

-- the page is written, and empty
pub page_written : (a b c : Option (List ℕ)) (written page slice next : List ℕ) → Appends a b written → Appends b c slice → slice ≡ page → next ≡ [] → (before : List ℕ) × Appends a c before × (before ++ next ≡ written ++ page)
page_written a b c written page slice next p q e n = (written ++ page, Appends-trans a b c written page p (subst (Appends b c) e q), rw n (append-nil (written ++ page)))

-- or it has room
pub page_kept : (a b c : Option (List ℕ)) (written page next : List ℕ) → Appends a b written → c ≡ b → next ≡ page → (before : List ℕ) × Appends a c before × (before ++ next ≡ written ++ page)
page_kept a b c written page next p q e = (written, rw q p, rw e refl)

-- a page of the lines since the last page has room for one more, which is at most 176 bytes
pub page_took : (page line after : List ℕ) (s : ℕ) → after ≡ page ++ line → length page ≤ 176 * (s % 93) → length line ≤ 176 → length after ≤ 176 * (s % 93) + 176
page_took page line after s e p l = rw (e, length-append page line) (omega arith)

pub page_room : (n s : ℕ) → (s % 93 ≡ 92 → ⊥) → n ≤ 176 * (s % 93) + 176 → n ≤ 176 * ((s + 1) % 93)
page_room n s h p = omega arith

-- one more line is in the page
pub line_added : (p : Playing) (a : Played) (r : List ℕ) (n left : ℕ) (written page before next after whole : List ℕ) → before ++ next ≡ written ++ page → after ≡ next ++ step_line p.at n a.rx → n ≡ number_of a.refusal → a ≡ next_of p r
    → written ++ (page ++ lines_of (suc left) p r) ≡ whole → before ++ (after ++ lines_of left a.playing r) ≡ whole
unfolding lines_of line_of
line_added p a r n left written page before next after whole e f g same split =
    let line = step_line p.at n a.rx in
    let rest = lines_of left a.playing r in
    let split' : written ++ (page ++ (line ++ rest)) ≡ whole = rw (g, same) split in
    search (rules, append_assoc)
