-- Why a voice adds nothing to a side of the mix, read off the step's own figures. Definitions only.
use Rattle.std.specs.Prelude.{ℕ, ◌+◌, ◌*◌, cond, List, ltb, eqb, ℤ, Float, Option, Some, None, Result, Ok, Err}
use Rattle.std.specs.Float.Ieee.{le, eq}
use Rattle.float.specs.Consts.{k0}
use Rattle.stereo.specs.declared.Mix.{Mix}
use Rattle.stereo.specs.declared.Side.{Side}
use Rattle.stereo.specs.declared.Side.TheVariants.{Left, Right}
use Rattle.stereo.specs.Stereo.{side_of}
use Rattle.frame.specs.Offsets.{VCA_L, VCA_R}
use Rattle.frame.specs.Frame.{word_at, routed_off}
use Rattle.envelope.specs.declared.SegEnv.{SegEnv}
use Rattle.chain.specs.declared.Chain.{Chain}
use Rattle.bus.specs.Bus.{contribution_of}
use Rattle.board.specs.declared.Analog.{Analog}
use Rattle.board.specs.declared.Inputs.{Inputs}
use Rattle.board.specs.declared.refusals.Refusal.{Refusal}
use Rattle.board.specs.declared.refusals.Refusal.TheVariants.{VoiceNumber}
use Rattle.board.specs.Board.{accepted, refusal_of, voice_of}
use Rattle.why.specs.declared.Reason.{Reason}
use Rattle.why.specs.declared.Reason.TheVariants.{RoutedOff, AmpDown, VcaZero, FilteredZero, LostToRounding, Heard}
use Rattle.why.specs.declared.Share.{Share}

-- each reason's number, in the order in which the request names them, and what it carries: "with that level", "with the cutoff in Hz", "with the contribution"
abbrev pub number_of : Reason → ℕ
number_of RoutedOff = 1
number_of (AmpDown level) = 2
number_of VcaZero = 3
number_of (FilteredZero cutoff) = 4
number_of LostToRounding = 5
number_of (Heard adds) = 6

abbrev pub value_of : Reason → Float
value_of RoutedOff = k0
value_of (AmpDown level) = level
value_of VcaZero = k0
value_of (FilteredZero cutoff) = cutoff
value_of LostToRounding = k0
value_of (Heard adds) = adds

-- a side's VCA words, and its amp
abbrev pub vca_of : Side → ℕ
vca_of Left = VCA_L
vca_of Right = VCA_R

abbrev pub amp_of : Side → Chain → SegEnv
amp_of Left c = c.amp
amp_of Right c = c.amp_r

-- "The contribution is what the step adds to that side's mix, 0 for a voice routed off"
unfoldable pub adds_of : List ℕ → ℕ → Side → Mix → Float
adds_of f v s y = cond (routed_off f v) k0 (contribution_of f (vca_of s) v (side_of s y))

-- what the reason is read off: "The amp level is that side's, after the step's tick. The filtered sample is the one after the replacement"
unfoldable pub share_of : Analog → List ℕ → List ℤ → ℕ → Side → Share
share_of b f dac v s =
    let o = voice_of b f dac v in
    record {
      off = routed_off f v;
      level = (amp_of s o.chain).level;
      vca = word_at f (vca_of s + 2 * v);
      filtered = o.filtered;
      cutoff = o.cutoff;
      adds = adds_of f v s o.y;
    }

-- "answer the first that is true"
unfoldable pub reason_of : Share → Reason
reason_of p =
    cond p.off RoutedOff
    (cond (le p.level k0) (AmpDown p.level)
    (cond (eqb p.vca 0) VcaZero
    (cond (eq p.filtered k0) (FilteredZero p.cutoff)
    (cond (eq p.adds k0) LostToRounding (Heard p.adds)))))

-- "The step's own refusals come first, and a voice number above 7 is refused by 11"
unfoldable pub why_refusal_of : List ℕ → List ℤ → List ℕ → Inputs → ℕ → Option Refusal
why_refusal_of f dac fx x v = let o = refusal_of f dac fx x in cond (accepted o) (cond (ltb 7 v) (Some VoiceNumber) None) o

-- "a refusal gives its number alone"
unfoldable pub told_if : Option Refusal → Reason → Result Reason Refusal
told_if None r = Ok r
told_if (Some o) r = Err o

-- what it answers to any arguments
unfoldable pub why_of : Analog → List ℕ → List ℤ → List ℕ → Inputs → ℕ → Side → Result Reason Refusal
why_of b f dac fx x v s = told_if (why_refusal_of f dac fx x v) (reason_of (share_of b f dac v s))
