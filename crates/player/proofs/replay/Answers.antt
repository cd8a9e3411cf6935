-- `player::replay` meets its contract: the buffer has the whole input, or its start and a byte more. Assumes nothing.
use Rattle.std.proofs.Common.{subst, rules, take_all}
use Rattle.std.specs.Io.KnownBytes.{Consumes}
use Rattle.player.specs.Text.{text_of, opened_of}
use Rattle.player.proofs.Input.{short_input, long_input}
use Rattle.player.proofs.replay.Goals as goal

pub returns-then-length-lt65536 : goal.returns-then-length-lt65536
unfolding text_of opened_of
returns-then-length-lt65536 g c =
    let read = c.in_ok-length.ensures in
    short_input _ _ (g.W.Write.contents c.args.out.now) (g.W.Write.contents c.write_text.new.out) _ read.bytes (read.end (search rules)) (search rules) (rw c.open.ensures.value at c.in_ok-write_text.ensures)

pub returns : goal.returns
unfolding text_of
returns g c =
    let read = c.in_ok-length.ensures in
    let more = c.in_ok-more.ensures in
    let full = take_all c.in_ok-length.length c.fill.new.buffer (search rules) in
    long_input _ _ _ (g.W.Write.contents c.args.out.now) (g.W.Write.contents c.write_text-2.new.out) _ _ _ (search rules) (subst (Consumes _ _) full read.bytes) more.bytes more.prefix (λ h. more.end (search rules)) (rw c.open-2.ensures at c.in_ok-write_text-2.ensures)
