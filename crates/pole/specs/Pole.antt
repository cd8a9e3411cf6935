-- A one-pole low-pass, and what a sample keeps. Definitions only.
use Rattle.std.specs.Prelude.{Float}
use Rattle.std.specs.Float.Ieee.{neg}
use Rattle.float.specs.Consts.{k1, FS, TAU}
use Rattle.float.specs.Ops.{◌⊕◌, ◌⊖◌, ◌⊗◌, ◌⊘◌}
use Rattle.power.specs.Power.{exp_of}

-- the part by which a low-pass with this cutoff comes nearer to each sample
abbrev pub coefficient_of : Float → Float
coefficient_of hz = k1 ⊖ exp_of (neg TAU ⊗ hz ⊘ FS)

-- nearer to the sample x by that part
abbrev pub moved_of : Float → Float → Float → Float
moved_of was x a = was ⊕ a ⊗ (x ⊖ was)

abbrev pub one_pole_of : Float → Float → Float → Float
one_pole_of was x hz = moved_of was x (coefficient_of hz)

-- what a sample keeps of what decays within t seconds
abbrev pub kept_of : Float → Float
kept_of t = exp_of (neg k1 ⊘ (t ⊗ FS))
