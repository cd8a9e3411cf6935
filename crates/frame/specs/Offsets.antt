-- Where the control frame has what, under the source's names: one offset or one table for each kind of field. Definitions only.
use Rattle.std.specs.Prelude.{ℕ, min, true, false, List, [], ◌∷◌, get_or}
use Rattle.std.specs.Float.{nan, binary32}
use Rattle.std.specs.Float.Ieee.{of_bits}
use Rattle.frame.specs.declared.DualSpec.{DualSpec}
use Rattle.frame.specs.declared.TomSpec.{TomSpec}
use Rattle.frame.specs.declared.CymPath.{CymPath}
use Rattle.frame.specs.declared.FltAt.{FltAt}

-- what a step reads of a frame: "frame under 664 bytes" is refused
abbrev pub FRAME_BYTES : ℕ
FRAME_BYTES = 664

-- "distortion from word 0"
abbrev pub DIST : ℕ
DIST = 0

-- "the VCA word at 10+2v (left), 26+2v (right)"
abbrev pub VCA_L : ℕ
VCA_L = 10

abbrev pub VCA_R : ℕ
VCA_R = 26

-- voice v's overdrive, a word at 42 + 2v
abbrev pub OVR : ℕ
OVR = 42

-- its filter frequency, a signed word at 58 + 2v
abbrev pub FRQ : ℕ
FRQ = 58

-- its resonance, a word at 74 + 2v
abbrev pub RES : ℕ
RES = 74

-- the hat's colour, a signed word, and its VCA
abbrev pub HAT_COLOUR : ℕ
HAT_COLOUR = 130

abbrev pub HAT_VCA : ℕ
HAT_VCA = 140

-- the cymbal's colour, a signed word, and its VCA
abbrev pub CYM_COLOUR : ℕ
CYM_COLOUR = 142

abbrev pub CYM_VCA : ℕ
CYM_VCA = 158

-- "Switch n is bit n mod 8 of byte 160 + n div 8"
abbrev pub SWITCHES : ℕ
SWITCHES = 160

-- "Byte 166 is the route mask"
abbrev pub ROUTE : ℕ
ROUTE = 166

-- "Chain amp (168+8v)": the left amp's record
abbrev pub AMP_ENV : ℕ
AMP_ENV = 168

-- "the second amp record, which document 000 places at 232+8v": the right amp's
abbrev pub AMP_ENV_R : ℕ
AMP_ENV_R = 232

-- "Chain filter (296+8v)"; the record's first word, signed, is the envelope's depth
abbrev pub FLT_ENV : ℕ
FLT_ENV = 296

-- "Hat (record at 488)"
abbrev pub HAT_ENV : ℕ
HAT_ENV = 488

-- "cymbal (eight from 496)"
abbrev pub CYM_ENV : ℕ
CYM_ENV = 496

-- the oscillator banks of hat and cymbal, six fields of four bytes
abbrev pub HAT_BANK : ℕ
HAT_BANK = 616

abbrev pub CYM_BANK : ℕ
CYM_BANK = 640

-- the voices that hat and cymbal are
abbrev pub HAT_VOICE : ℕ
HAT_VOICE = 4

abbrev pub CYM_VOICE : ℕ
CYM_VOICE = 6

-- a dual voice's records: of its four the first is the pitch's, the third the amplitude's, the fourth oscillator 2's amplitude's
abbrev pub PITCH_REC : ℕ
PITCH_REC = 0

abbrev pub AMP_REC : ℕ
AMP_REC = 2

abbrev pub AMP2_REC : ℕ
AMP2_REC = 3

-- BD, SD and RS, as the source has them; a number past the end means the last
unfoldable pub duals : List DualSpec
duals =
    record { voice = 0; cv = 90; env = 360; sw = 12 ∷ 44 ∷ 8 ∷ 47 ∷ 46 ∷ 45 ∷ 40 ∷ [] }
    ∷ record { voice = 2; cv = 98; env = 392; sw = 0 ∷ 32 ∷ 36 ∷ 35 ∷ 34 ∷ 33 ∷ 56 ∷ [] }
    ∷ record { voice = 7; cv = 106; env = 424; sw = 28 ∷ 4 ∷ 24 ∷ 7 ∷ 6 ∷ 5 ∷ 60 ∷ [] }
    ∷ []

unfoldable pub dual_spec : ℕ → DualSpec
dual_spec d = get_or duals (min d 2) (record { voice = 0; cv = 0; env = 0; sw = [] })

-- toms 1, 3 and 5
unfoldable pub toms : List TomSpec
toms =
    record { voice = 1; tune = 118; decay = 120; dac = 8 }
    ∷ record { voice = 3; tune = 122; decay = 124; dac = 9 }
    ∷ record { voice = 5; tune = 126; decay = 128; dac = 10 }
    ∷ []

unfoldable pub tom_spec : ℕ → TomSpec
tom_spec t = get_or toms (min t 2) (record { voice = 0; tune = 0; decay = 0; dac = 0 })

-- the cymbal's paths: 3400, 7000, 9000, 1200 and 6000 Hz
unfoldable pub cym_paths : List CymPath
cym_paths =
    record { rec = 2; hz = of_bits binary32 0x45548000; high = false }
    ∷ record { rec = 3; hz = of_bits binary32 0x45dac000; high = false }
    ∷ record { rec = 4; hz = of_bits binary32 0x460ca000; high = true }
    ∷ record { rec = 6; hz = of_bits binary32 0x44960000; high = false }
    ∷ record { rec = 7; hz = of_bits binary32 0x45bb8000; high = true }
    ∷ []

unfoldable pub cym_path : ℕ → CymPath
cym_path p = get_or cym_paths (min p 4) (record { rec = 0; hz = nan; high = false })

-- each voice's filter type
unfoldable pub flt_type_at : List FltAt
flt_type_at =
    record { byte = 161; lo = 1 }
    ∷ record { byte = 161; lo = 5 }
    ∷ record { byte = 164; lo = 5 }
    ∷ record { byte = 160; lo = 1 }
    ∷ record { byte = 167; lo = 1 }
    ∷ record { byte = 163; lo = 5 }
    ∷ record { byte = 167; lo = 5 }
    ∷ record { byte = 163; lo = 1 }
    ∷ []

unfoldable pub flt_at : ℕ → FltAt
flt_at v = get_or flt_type_at (min v 7) (record { byte = 0; lo = 0 })

-- "bits 3, 2, 1, 0, 4, 5, 6, 7 belong to voices 0 to 7"
unfoldable pub route_bits : List ℕ
route_bits = 3 ∷ 2 ∷ 1 ∷ 0 ∷ 4 ∷ 5 ∷ 6 ∷ 7 ∷ []

unfoldable pub route_bit : ℕ → ℕ
route_bit v = get_or route_bits (min v 7) 0
