-- `board::stepped`'s receive words are in their range, as those that the voices leave are. Assumes nothing.
use mathlib.Core.Path.{sym, subst}
use Rattle.bus.specs.Bus.{Bus, InWordRange}
use Rattle.bus.proofs.Kept.{voices_in}
use Rattle.board.proofs.Range.{set_words}
use Rattle.board.proofs.stepped.Goals as goal

pub returns-clause-words : goal.returns-clause-words
returns-clause-words c =
    let a = c.args in
    let o = c.voices.result in
    let voices = subst (λ (b : Bus). InWordRange b.rx) (sym c.voices.ensures.value) (voices_in a.call.now.frame a.call.now.dac c.sound-src.result c.sound-src.new.board.chains) in
    subst InWordRange (sym c.words.ensures) (set_words o.rx a.call.now.inputs.audio c.process.result.mix voices)
