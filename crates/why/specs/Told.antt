-- What an answer to "Why does this voice add nothing?" promises. Definitions only.
use Rattle.std.specs.Prelude.{ℕ, ◌≡◌, ◌+◌, ◌*◌, ◌<◌, not, ◌||◌, cond, List, length, get_or, eqb, T, ℤ, pos, Float, Some, None, Result, Ok, Err}
use Rattle.std.specs.Float.{binary32}
use Rattle.std.specs.Float.Ieee.{le, eq, is_nan, of_int}
use Rattle.float.specs.Consts.{k0, k32767}
use Rattle.float.specs.Ops.{◌⊕◌, ◌⊗◌, ◌⊘◌}
use Rattle.stereo.specs.declared.Mix.{Mix}
use Rattle.stereo.specs.declared.Side.{Side}
use Rattle.stereo.specs.declared.Side.TheVariants.{Left, Right}
use Rattle.stereo.specs.Stereo.{side_of}
use Rattle.frame.specs.Offsets.{FRQ, FLT_ENV}
use Rattle.frame.specs.Frame.{word_at, signed_f, routed_off}
use Rattle.lists.specs.Turns.{turns_of}
use Rattle.sources.specs.Sources.{sound_of}
use Rattle.chain.specs.Chain.{no_chain, cutoff_of, limited_of, gain_of, Traced}
use Rattle.bus.specs.Bus.{added_of, voices_of}
use Rattle.board.specs.declared.Analog.{Analog}
use Rattle.board.specs.declared.Inputs.{Inputs}
use Rattle.board.specs.declared.refusals.Refusal.{Refusal}
use Rattle.board.specs.declared.refusals.Refusal.TheVariants.{VoiceNumber}
use Rattle.board.specs.Board.{refusal_of, taken_of, voice_of, stepped_of}
use Rattle.promise.specs.Calls.{Reached}
use Rattle.promise.specs.Levels.{Which, chain_amp, chain_amp_r, chain_filter, level_at}
use Rattle.why.specs.declared.Reason.{Reason}
use Rattle.why.specs.declared.Reason.TheVariants.{RoutedOff, AmpDown, VcaZero, FilteredZero, LostToRounding, Heard}
use Rattle.why.specs.declared.Share.{Share}
use Rattle.why.specs.Why.{number_of, value_of, vca_of, share_of}

-- ---- what each reason says of a voice's share of a side, with the value that it carries
-- "a number other than zero"; an infinite one is a number
abbrev pub OtherThanZero : Float → Type 0
OtherThanZero x = T (not (is_nan x)) × T (not (eq x k0))

abbrev pub Says : Share → Reason → Type 0
Says p RoutedOff = T p.off
Says p (AmpDown level) = (value_of (AmpDown level) ≡ p.level) × T (le p.level k0)
Says p VcaZero = p.vca ≡ 0
Says p (FilteredZero cutoff) = (value_of (FilteredZero cutoff) ≡ p.cutoff) × T (eq p.filtered k0)
Says p LostToRounding = T (eq p.adds k0)
Says p (Heard adds) = (value_of (Heard adds) ≡ p.adds) × OtherThanZero p.adds

-- any reason but heard
abbrev pub Unheard : Reason → Type 0
Unheard r = number_of r < 6

-- "that the answer is true, every earlier one false, and 'heard' given exactly where the contribution is a number other than zero"
pub record FirstTrue (p : Share) (r : Reason) : Type 0 where
  pub holds : Says p r
  pub first : (q : Reason) → number_of q < number_of r → Says p q → ⊥
  pub heard : OtherThanZero p.adds → r ≡ Heard p.adds
  -- where it is not heard the contribution is zero: it is always a number
  pub unheard : Unheard r → T (eq p.adds k0)

-- ---- the share is the step's own
-- a side's amp among the levels
abbrev pub amp_at : Side → (v : ℕ) → v < 8 → Which
amp_at Left v h = chain_amp v h
amp_at Right v h = chain_amp_r v h

-- the filtered sample by the level's gain and the VCA word
unfoldable pub product_of : Share → Float
product_of p = p.filtered ⊗ gain_of p.level ⊗ of_int binary32 (pos p.vca) ⊘ k32767

pub record OfTheStep (b : Analog) (f : List ℕ) (dac : List ℤ) (fx : List ℕ) (x : Inputs) (v : ℕ) (h : v < 8) (s : Side) : Type 0 where
  -- the voice's sample is the one of the step: its chain is the next board's
  pub chain : get_or (stepped_of b f dac fx x).board.chains v no_chain ≡ (voice_of b f dac v).chain
  pub off : (share_of b f dac v s).off ≡ routed_off f v
  -- "The amp level is that side's, after the step's tick": the one of the next board
  pub level : (share_of b f dac v s).level ≡ level_at (stepped_of b f dac fx x).board (amp_at s v h)
  pub vca : (share_of b f dac v s).vca ≡ word_at f (vca_of s + 2 * v)
  -- the filtered sample and the cutoff are those of the sample: finite, after the replacement, and within the limits of what the tangent takes
  pub filtered : (share_of b f dac v s).filtered ≡ (voice_of b f dac v).filtered
  pub cutoff : (share_of b f dac v s).cutoff ≡ (voice_of b f dac v).cutoff
  pub traced : Traced (voice_of b f dac v)
  -- and that cutoff goes by the filter's level after its tick
  pub tangent : (voice_of b f dac v).cutoff ≡ limited_of (cutoff_of (signed_f f (FRQ + 2 * v)) (signed_f f (FLT_ENV + 8 * v)) (level_at (stepped_of b f dac fx x).board (chain_filter v h)))
  -- the contribution is the product of the other figures, "0 for a voice routed off"
  pub product : let p = share_of b f dac v s in p.adds ≡ cond p.off k0 (product_of p)
  -- "what the step adds to that side's mix", whatever the mix was before the voice
  pub added : (m : Mix) → let p = share_of b f dac v s in side_of s (added_of f v m (voice_of b f dac v).y) ≡ cond p.off (side_of s m) (side_of s m ⊕ p.adds)

-- each side of the voices' mix is the sum of the contributions, in the order of the voices, without those routed off
abbrev pub Sums : Analog → List ℕ → List ℤ → Side → Type 0
Sums b f dac s =
    side_of s (voices_of f dac (sound_of f dac (taken_of b)).src b.chains).mix
    ≡ turns_of 8 (λ v m. cond (routed_off f v) m (m ⊕ (share_of b f dac v s).adds)) k0

-- "adds nothing": that side of the voices' mix is, to the bit, what it is without the voice
abbrev pub AddsNothing : Analog → List ℕ → List ℤ → ℕ → Side → Type 0
AddsNothing b f dac v s =
    side_of s (voices_of f dac (sound_of f dac (taken_of b)).src b.chains).mix
    ≡ turns_of 8 (λ u m. cond (routed_off f u || eqb u v) m (m ⊕ (share_of b f dac u s).adds)) k0

-- ---- the call
-- an answer that is not refused
pub record Answered (b : Analog) (f : List ℕ) (dac : List ℤ) (fx : List ℕ) (x : Inputs) (v : ℕ) (h : v < 8) (s : Side) (r : Result Reason Refusal) : Type 0 where
  pub reason : Reason
  pub is : r ≡ Ok reason
  pub first_true : FirstTrue (share_of b f dac v s) reason
  pub share : OfTheStep b f dac fx x v h s
  pub silent : Unheard reason → AddsNothing b f dac v s
  -- the cutoff is that of the coefficients which the chain stores
  pub stored : (share_of b f dac v s).cutoff ≡ limited_of (get_or (stepped_of b f dac fx x).board.chains v no_chain).coefs.fc

pub record Told (b : Analog) (f : List ℕ) (dac : List ℤ) (fx : List ℕ) (x : Inputs) (v : ℕ) (s : Side) (r : Result Reason Refusal) : Type 0 where
  -- "The step's own refusals come first, and a voice number above 7 is refused by 11"
  pub step_first : (o : Refusal) → refusal_of f dac fx x ≡ Some o → r ≡ Err o
  pub voice_next : refusal_of f dac fx x ≡ None → 7 < v → r ≡ Err VoiceNumber
  -- "of every board that calls reach from a fresh one": every other question is answered, and so
  pub reached : Reached b → refusal_of f dac fx x ≡ None → (h : v < 8) → Answered b f dac fx x v h s r
  -- on any board what it is read off is what the step makes (the list of chains of every board has eight)
  pub share : length b.chains ≡ 8 → (h : v < 8) → OfTheStep b f dac fx x v h s
  pub sums : Sums b f dac s
