-- The voice board: a fresh one, the refusals, a step. From `Analog::frame`. Definitions only.
use Rattle.std.specs.Prelude.{ℕ, ◌+◌, Bool, true, false, cond, ◌&&◌, List, [], ◌∷◌, set, length, replicate, ltb, eqb, ℤ, pos, negsuc, Float, Option, Some, None}
use Rattle.std.specs.Int.Signed.{le_z}
use Rattle.std.specs.Float.Ieee.{neg, le}
use Rattle.float.specs.Consts.{k0, k1, k0p5}
use Rattle.float.specs.Ops.{◌⊗◌}
use Rattle.float.specs.Floats.{to24_of}
use Rattle.frame.specs.Offsets.{FRAME_BYTES}
use Rattle.wobble.specs.Wobble.{new_of}
use Rattle.dual.specs.Dual.{dual_new}
use Rattle.hat.specs.Hat.{hat_new}
use Rattle.tom.specs.Tom.{tom_new}
use Rattle.cym.specs.Cym.{cym_new}
use Rattle.sources.specs.Sources.{Sources, sound_of}
use Rattle.chain.specs.Chain.{chain_new}
use Rattle.chain.specs.declared.ChainOut.{ChainOut}
use Rattle.bus.specs.Bus.{sample_of, voices_of, master_of}
use Rattle.comp.specs.Comp.{comp_new, process_of}
use Rattle.stereo.specs.declared.Mix.{Mix}
use Rattle.board.specs.declared.Analog.{Analog}
use Rattle.board.specs.declared.Inputs.{Inputs}
use Rattle.board.specs.declared.Answer.{Answer}
use Rattle.board.specs.declared.Heard.{Heard}
use Rattle.board.specs.declared.refusals.Refusal.{Refusal}
use Rattle.board.specs.declared.refusals.Refusal.TheVariants.{ShortFrame, ShortParameters, DacCount, DacRange, InputRange, BadOpening, WrongLength, NoBody, SlotTable, DestinationCount, VoiceNumber}

-- "A fresh board is made from a 32-bit seed and an ideal mark"
unfoldable pub fresh_of : ℕ → Bool → Analog
fresh_of seed ideal = record {
  duals = replicate 3 dual_new;
  hat = hat_new;
  toms = replicate 3 tom_new;
  cym = cym_new;
  chains = replicate 8 chain_new;
  comp = comp_new;
  wobble = new_of seed ideal;
}

-- the number of each refusal, as the table of refusals has it, and 0 for none
abbrev pub number_of : Option Refusal → ℕ
number_of None = 0
number_of (Some ShortFrame) = 1
number_of (Some ShortParameters) = 2
number_of (Some DacCount) = 3
number_of (Some DacRange) = 4
number_of (Some InputRange) = 5
number_of (Some BadOpening) = 6
number_of (Some WrongLength) = 7
number_of (Some NoBody) = 8
number_of (Some SlotTable) = 9
number_of (Some DestinationCount) = 10
number_of (Some VoiceNumber) = 11

-- a DAC word from -8388608 to 8388607
unfoldable pub in_range : ℤ → Bool
in_range z = le_z (negsuc 8388607) z && le_z z (pos 8388607)

-- every word of the list is
unfoldable pub all_in_range : List ℤ → Bool
all_in_range [] = true
all_in_range (z ∷ zs) = in_range z && all_in_range zs

-- "four f32 inputs: audio left and right, ext left and right"
unfoldable pub inputs_of : Float → Float → Float → Float → Inputs
inputs_of al ar el er = record { audio = record { l = al; r = ar }; ext = record { l = el; r = er } }

-- an input from -1 to 1; a value that is no number is in no range
unfoldable pub input_ok : Float → Bool
input_ok x = le (neg k1) x && le x k1

-- each of the four is
unfoldable pub inputs_ok : Inputs → Bool
inputs_ok x = input_ok x.audio.l && input_ok x.audio.r && input_ok x.ext.l && input_ok x.ext.r

-- "The lowest number that applies is answered"
unfoldable pub refusal_of : List ℕ → List ℤ → List ℕ → Inputs → Option Refusal
refusal_of f dac fx x =
    cond (ltb (length f) FRAME_BYTES) (Some ShortFrame)
    (cond (ltb (length fx) 24) (Some ShortParameters)
    (cond (eqb (length dac) 16) (cond (all_in_range dac) (cond (inputs_ok x) None (Some InputRange)) (Some DacRange)) (Some DacCount)))

-- an answer: what a step gives, and the board that it leaves
abbrev pub answer : Analog → Heard → Answer
answer b h = record { refusal = h.refusal; rx = h.rx; mix = h.mix; board = b }

-- "A refusal gives twelve zeros, mix 0 and 0, and the same board"
unfoldable pub refused_of : Analog → Option Refusal → Answer
refused_of b o = record { refusal = o; rx = replicate 12 (pos 0); mix = record { l = k0; r = k0 }; board = b }

-- "Receive words 8, 9 are the audio inputs halved, 10, 11 the mix halved"
abbrev pub RX_AUDIO_IN : ℕ
RX_AUDIO_IN = 8

abbrev pub RX_MAIN : ℕ
RX_MAIN = 10

unfoldable pub words_of : List ℤ → Mix → Mix → List ℤ
words_of rx audio mix =
    let a = set rx RX_AUDIO_IN (to24_of (audio.l ⊗ k0p5)) in
    let b = set a (RX_AUDIO_IN + 1) (to24_of (audio.r ⊗ k0p5)) in
    let c = set b RX_MAIN (to24_of (mix.l ⊗ k0p5)) in
    set c (RX_MAIN + 1) (to24_of (mix.r ⊗ k0p5))

-- the board's sources before any has sounded
unfoldable pub taken_of : Analog → Sources
taken_of b = record { duals = b.duals; hat = b.hat; toms = b.toms; cym = b.cym; w = b.wobble; src = replicate 8 k0 }

-- voice v's sample in a step: of the board's own sources and chain
unfoldable pub voice_of : Analog → List ℕ → List ℤ → ℕ → ChainOut
voice_of b f dac v = sample_of f dac (sound_of f dac (taken_of b)).src b.chains v

-- `Analog::frame`: the sources, the chains, the main bus, the compressor
unfoldable pub stepped_of : Analog → List ℕ → List ℤ → List ℕ → Inputs → Answer
stepped_of b f dac fx x =
    let s = sound_of f dac (taken_of b) in
    let v = voices_of f dac s.src b.chains in
    let m = master_of f dac v.mix x.ext in
    let o = process_of fx m.l m.r b.comp in
    record {
      refusal = None;
      rx = words_of v.rx x.audio o.mix;
      mix = o.mix;
      board = record { duals = s.duals; hat = s.hat; toms = s.toms; cym = s.cym; chains = v.chains; comp = o.comp; wobble = s.w };
    }

-- a call is accepted where its number is 0
abbrev pub accepted : Option Refusal → Bool
accepted o = eqb (number_of o) 0

-- the step where it is accepted, and else the refusal
unfoldable pub answered_if : Bool → Option Refusal → Analog → List ℕ → List ℤ → List ℕ → Inputs → Answer
answered_if true o b f dac fx x = stepped_of b f dac fx x
answered_if false o b f dac fx x = refused_of b o

-- a step: what it answers to any arguments
unfoldable pub answer_of : Analog → List ℕ → List ℤ → List ℕ → Inputs → Answer
answer_of b f dac fx x = let o = refusal_of f dac fx x in answered_if (accepted o) o b f dac fx x
