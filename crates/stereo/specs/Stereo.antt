-- A side of the stereo pair. Definitions only.
use Rattle.std.specs.Prelude.{Float}
use Rattle.stereo.specs.declared.Mix.{Mix}
use Rattle.stereo.specs.declared.Side.{Side}
use Rattle.stereo.specs.declared.Side.TheVariants.{Left, Right}

abbrev pub side_of : Side → Mix → Float
side_of Left m = m.l
side_of Right m = m.r
