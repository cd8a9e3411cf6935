-- The step as it was before R-7: `stepped_of` of specs/Board.antt as it stood; what R-7 left alone is shared, and is today's. Definitions only.
use Rattle.std.specs.Prelude.{ℕ, ◌≡◌, ◌<◌, false, List, get_or, None}
use Rattle.dual.specs.BeforeR7.{plain_sounds}
use Rattle.sources.specs.Sources.{no_dual}
use Rattle.sources.specs.BeforeR7.{sound_before}
use Rattle.bus.specs.Bus.{voices_of, master_of}
use Rattle.comp.specs.Comp.{process_of}
use Rattle.board.specs.declared.Analog.{Analog}
use Rattle.board.specs.Board.{words_of, taken_of}
use Rattle.board.specs.Before.{StepOn}

unfoldable pub stepped_before : StepOn Analog
stepped_before b f dac fx x =
    let s = sound_before f dac (taken_of b) in
    let v = voices_of f dac s.src b.chains in
    let m = master_of f dac v.mix x.ext in
    let o = process_of fx m.l m.r b.comp in
    record {
      refusal = None;
      rx = words_of v.rx x.audio o.mix;
      mix = o.mix;
      board = record { duals = s.duals; hat = s.hat; toms = s.toms; cym = s.cym; chains = v.chains; comp = o.comp; wobble = s.w };
    }

-- in a step with this frame no oscillator 1 of this board sounds without FM or ring
abbrev pub NonePlain : List ℕ → Analog → Type 0
NonePlain f b = (d : ℕ) → d < 3 → plain_sounds f d (get_or b.duals d no_dual) ≡ false
