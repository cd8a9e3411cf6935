-- `text::words` meets its contract. The loop's invariant: what is put and the words left make the whole text. Assumes nothing.
use Rattle.std.proofs.Common.{refl, sym, ◌∙◌, append-nil, get_or, take, pos, arith, rules}
use lib.ListN.{drop_of_length-le}
use Rattle.text.specs.Text.{words_of}
use Rattle.text.proofs.Joined.{one_word}
use Rattle.text.proofs.words.Goals as goal

pub loop-w-preserved : goal.loop-w-preserved
loop-w-preserved c =
    let l = c.loop-w in
    (search rules, omega arith, one_word (take l.next l.out) _ _ _ c.args.rx l.w-index (get_or c.args.rx l.w-index (pos 0)) (search rules) refl c.put-after.ensures.out_after (search rules) l.invariant.2)

pub returns-clause-out_after : goal.returns-clause-out_after
unfolding words_of
returns-clause-out_after c =
    let l = c.loop-w in
    let d = drop_of_length-le c.args.rx {i = l.w-index} (search rules) in
    sym (append-nil _) ∙ rw d at l.invariant.2
