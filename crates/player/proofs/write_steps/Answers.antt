-- `player::write_steps` meets its contract. Assumes nothing.
use Rattle.std.proofs.Common.{rules, arith, refl, sym, ap, ◌∙◌, ◌≡◌, ℕ, suc, ◌+◌, ◌-◌, ◌*◌, ◌%◌, ◌≤◌, List, ◌++◌, append_assoc, append-nil, length, subst}
use Rattle.std.specs.Io.KnownBytes.{Appends}
use Rattle.std.proofs.KnownBytes.{Appends-trans}
use Rattle.std.proofs.lemmas.List.{nil_from_length}
use Rattle.std.proofs.lemmas.Result.{on_ok_weaker}
use Rattle.player.specs.Text.{lines_of}
use Rattle.player.proofs.Pages.{page_written, page_kept, page_took, page_room, line_added}
use Rattle.player.proofs.write_steps.Goals.{then-step+in_ok-write_all, else-step}
use Rattle.player.proofs.write_steps.Goals as goal

pub loop-step-preserved : goal.loop-step-preserved
loop-step-preserved g c =
    let l = c.loop-step in
    let (_, written, appended, split) = l.invariant in
    let left : c.args.start.steps - l.step ≡ suc (c.args.start.steps - (l.step + 1)) = omega arith in
    let rest = lines_of (c.args.start.steps - (l.step + 1)) c.next-played.result.playing c.args.rec.now in
    let after = c.append.new.page.items in
    let split' : written ++ (l.page.items ++ lines_of (suc (c.args.start.steps - (l.step + 1))) l.playing c.args.rec.now) ≡ lines_of c.args.start.steps c.args.start c.args.rec.now =
    subst (λ n. written ++ (l.page.items ++ lines_of n l.playing c.args.rec.now) ≡ lines_of c.args.start.steps c.args.start c.args.rec.now) left split in
    let more : written ++ (after ++ rest) ≡ lines_of c.args.start.steps c.args.start c.args.rec.now =
    line_added l.playing c.next-played.result c.args.rec.now c.number.result _ written l.page.items written l.page.items after _ refl (search rules) c.number.ensures c.next-played.ensures.0 split' in
    let b = c.if-step in
    let turned : (before : List ℕ) × Appends (g.W.Write.contents c.args.out.now) (g.W.Write.contents b.out) before × (before ++ b.page.items ≡ written ++ after) =
    elim b.branch [
      | then-step+in_ok-write_all w ↦ rw (w.out-is, w.page-is) (page_written _ _ _ _ _ _ _ appended w.in_ok-write_all.ensures.bytes w.as_slice.ensures.value w.clear.ensures)
      | else-step w ↦ rw (w.out-is, w.page-is) (page_kept _ _ _ _ _ _ appended refl refl)
    ] in
    let whole : turned.0 ++ (b.page.items ++ rest) ≡ lines_of c.args.start.steps c.args.start c.args.rec.now =
    sym (append_assoc turned.0 b.page.items rest) ∙ ap (λ x. x ++ rest) turned.2 ∙ append_assoc written after rest ∙ more in
    let full = page_took l.page.items _ after l.step c.append.ensures l.invariant.0 (search rules) in
    let room : length b.page.items ≤ 176 * ((l.step + 1) % 93) =
    elim b.branch [
      | then-step+in_ok-write_all w ↦ rw (w.page-is, w.clear.ensures) (omega arith)
      | else-step w ↦ rw w.page-is (page_room (length after) l.step w.if-step.false full)
    ] in
    (room, turned.0, turned.1, whole)

pub returns-then-is_empty : goal.returns-then-is_empty
unfolding lines_of
returns-then-is_empty g c =
    let (_, written, appended, split) = c.loop-step.invariant in
    let none : c.args.start.steps - c.loop-step.step ≡ 0 = omega arith in
    let empty = nil_from_length c.loop-step.page.items (search rules) in
    subst (Appends _ _) (sym (append-nil written) ∙ rw (none, empty) at split) appended

pub returns : goal.returns
unfolding lines_of
returns g c =
    let (_, written, appended, split) = c.loop-step.invariant in
    let none : c.args.start.steps - c.loop-step.step ≡ 0 = omega arith in
    let whole = ap (λ l. written ++ l) (c.as_slice-2.ensures.value ∙ sym (append-nil _)) ∙ rw none at split in
    on_ok_weaker c.write_all-2.result (λ more. subst (Appends _ _) whole (Appends-trans _ _ _ _ _ appended more)) c.write_all-2.ensures.bytes
