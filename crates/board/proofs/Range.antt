-- Every receive word of a step is within ±8,388,607, accepted or refused. Assumes nothing.
use Prim.Native.Nat.{ℕ}
use mathlib.Core.Bool.{Bool, true, false}
use mathlib.Core.List.{List}
use lib.ListN.{set}
use lib.IntN.{ℤ}
use Rattle.std.specs.Prelude.{Option}
use Rattle.float.specs.Consts.{k0p5}
use Rattle.float.specs.Ops.{◌⊗◌}
use Rattle.float.specs.Floats.{to24_of}
use Rattle.sources.specs.Sources.{sound_of}
use Rattle.bus.specs.Bus.{voices_of, master_of, InWordRange}
use Rattle.bus.proofs.Kept.{words_set, words_zero, voices_in}
use Rattle.stereo.specs.declared.Mix.{Mix}
use Rattle.comp.specs.Comp.{process_of}
use Rattle.board.specs.declared.Analog.{Analog}
use Rattle.board.specs.declared.Inputs.{Inputs}
use Rattle.board.specs.declared.refusals.Refusal.{Refusal}
use Rattle.board.specs.Board.{words_of, taken_of, stepped_of, refused_of, accepted, refusal_of, answered_if, answer_of}

pub set_words : (rx : List ℤ) (audio mix : Mix) → InWordRange rx → InWordRange (words_of rx audio mix)
unfolding words_of
set_words rx audio mix h =
    let a = set rx 8 (to24_of (audio.l ⊗ k0p5)) in
    let b = set a 9 (to24_of (audio.r ⊗ k0p5)) in
    let c = set b 10 (to24_of (mix.l ⊗ k0p5)) in
    words_set c 11 mix.r (words_set b 10 mix.l (words_set a 9 audio.r (words_set rx 8 audio.l h)))

module _ (b : Analog) (f : List ℕ) (dac : List ℤ) (fx : List ℕ) (x : Inputs) where
  pub stepped_words : InWordRange (stepped_of b f dac fx x).rx
  unfolding stepped_of
  stepped_words =
      let s = sound_of f dac (taken_of b) in
      let v = voices_of f dac s.src b.chains in
      let m = master_of f dac v.mix x.ext in
      set_words v.rx x.audio (process_of fx m.l m.r b.comp).mix (voices_in f dac s.src b.chains)

  answered : (t : Bool) (o : Option Refusal) → InWordRange (answered_if t o b f dac fx x).rx
  unfolding answered_if refused_of
  answered true o = stepped_words
  answered false o = words_zero 12

  pub answer_words : InWordRange (answer_of b f dac fx x).rx
  unfolding answer_of
  answer_words = let o = refusal_of f dac fx x in answered (accepted o) o
