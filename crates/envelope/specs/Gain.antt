-- A level as a gain. Definitions only.
use Rattle.std.specs.Prelude.{cond, Float}
use Rattle.std.specs.Float.Ieee.{le}
use Rattle.float.specs.Consts.{k0, k127, LEVELS_PER_6DB}
use Rattle.float.specs.Ops.{◌⊖◌, ◌⊘◌}
use Rattle.power.specs.Power.{exp2_of}

-- 127 is full scale; logarithmic below
abbrev pub loudness_of : Float → Float
loudness_of level = exp2_of ((level ⊖ k127) ⊘ LEVELS_PER_6DB)

-- the same, and silent at the floor and under
abbrev pub gain_of : Float → Float → Float
gain_of level floor = cond (le level floor) k0 (loudness_of level)
