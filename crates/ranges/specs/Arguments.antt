-- What each definition of the step gives to its curve. Definitions only; proofs/Called.antt shows that these are what the definitions give.
use Rattle.std.specs.Prelude.{ℕ, ◌+◌, ◌*◌, Bool, cond, List, Float}
use Rattle.std.specs.Float.Ieee.{neg}
use Rattle.float.specs.Consts.{k0, k1, LEVELS_PER_6DB, k12, k60, k64, k127, k500, k512, k1200, k6000, k12000, k16000, k32767, k32768, FS, k0p03, k0p75, k1p5, k5p64, TAU, PI}
use Rattle.float.specs.Ops.{◌⊕◌, ◌⊖◌, ◌⊗◌, ◌⊘◌}
use Rattle.float.specs.Floats.{min_of, max_of, clamp_of}
use Rattle.frame.specs.Offsets.{FRQ, FLT_ENV, HAT_COLOUR, CYM_COLOUR}
use Rattle.frame.specs.Frame.{signed_f}
use Rattle.power.specs.Power.{exp2_of}
use Rattle.wobble.specs.declared.Wobble.{Wobble}
use Rattle.wobble.specs.declared.Drift.{Drift}
use Rattle.wobble.specs.Wobble.{DETUNE_CENTS, uni_of, cents_of}
use Rattle.vco.specs.Vco.{asym_of}
use Rattle.chain.specs.Chain.{limited_of}
use Rattle.comp.specs.Consts.{k20, k0p000001, k0p00001}

-- ---- the oscillators
-- `detune_of` to exp2
abbrev pub detune : Wobble → Float
detune w = (uni_of w).x ⊗ DETUNE_CENTS ⊗ w.depth ⊘ k1200

-- `drift_of` to exp2
abbrev pub drift : Drift → Wobble → Float
drift d w = cents_of d.cents (uni_of w).x w.depth ⊘ k1200

-- `wave_at` of a sine and of a sinesaw, and `plain_of` of `dual`, to the sine
abbrev pub turn : Float → Float
turn p = TAU ⊗ p

-- `wave_at` of an asymmetric sine to the sine
abbrev pub asym_turn : Float → Float
asym_turn p = TAU ⊗ asym_of p

-- `gain_of` of `dual` and of `chain`, and `sound_of` of `hat`, to exp2
abbrev pub gain : Float → Float
gain level = (level ⊖ k127) ⊘ LEVELS_PER_6DB

-- ---- hat and cymbal
-- `colour_of` of `hat` to exp2, and to the sine
abbrev pub hat_colour : List ℕ → Float
hat_colour f = k1p5 ⊗ (signed_f f HAT_COLOUR ⊘ k32768)

abbrev pub hat_filter : List ℕ → Float
hat_filter f = PI ⊗ clamp_of (k6000 ⊗ exp2_of (hat_colour f)) k500 k16000 ⊘ FS

-- `sound_of` of `cym` to exp2
abbrev pub cym_colour : List ℕ → Float
cym_colour f = k0p75 ⊗ (signed_f f CYM_COLOUR ⊘ k32768)

-- `coefficient_of` to the sine
abbrev pub cym_filter : Float → Bool → Float → Float
cym_filter hz fixed ratio = PI ⊗ min_of (cond fixed hz (hz ⊗ ratio)) k16000 ⊘ FS

-- ---- the toms
-- the decay word at o; `decay_of` to exp2, and to exp
abbrev pub decay_word : List ℕ → ℕ → Float
decay_word f o = signed_f f o ⊘ k32767

abbrev pub decay : Float → Float
decay d = max_of d k0 ⊗ k5p64

abbrev pub ring_kept : Float → Float
ring_kept d = neg k1 ⊘ (k0p03 ⊗ exp2_of (decay d) ⊗ FS)

-- `ring_of` to the cosine
abbrev pub ring : Float → Float
ring hz = TAU ⊗ min_of hz k12000 ⊘ FS

-- ---- the chains
-- voice v's words for the cutoff, and `cutoff_of` to exp2
abbrev pub frq_word : List ℕ → ℕ → Float
frq_word f v = signed_f f (FRQ + 2 * v)

abbrev pub depth_word : List ℕ → ℕ → Float
depth_word f v = signed_f f (FLT_ENV + 8 * v)

abbrev pub cutoff : Float → Float → Float → Float
cutoff frq depth level = let cv = frq ⊕ depth ⊗ (max_of level k0 ⊘ k127) in (cv ⊘ k512 ⊕ k64 ⊖ k60) ⊘ k12

-- `coefs_of` to the tangent
abbrev pub tangent : Float → Float
tangent fc = PI ⊗ limited_of fc ⊘ FS

-- `coefs_of`, and `pole_of` of `comp`, to exp
abbrev pub pole : Float → Float
pole hz = neg TAU ⊗ hz ⊘ FS

-- ---- the compressor
-- `coef_of` to exp, of a time in seconds
abbrev pub kept : Float → Float
kept t = neg k1 ⊘ (max_of t k0p00001 ⊗ FS)

-- `level_of` to log10
abbrev pub envelope : Float → Float
envelope env = max_of env k0p000001

-- `db_of` to the power of ten
abbrev pub decibels : Float → Float
decibels x = x ⊘ k20
