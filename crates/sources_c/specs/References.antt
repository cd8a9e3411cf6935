-- Waveforms by number, for calls from C. Definitions only.
use Rattle.std.specs.Prelude.{ℕ, cond, eqb}
use Rattle.vco.specs.declared.Wave.{Wave}
use Rattle.vco.specs.declared.Wave.TheVariants.{Off, Sine, AsymSine, Triangle, SineSaw, Saw, Square}
use Rattle.vco.specs.declared.Osc2Set.{Osc2Set}
use Rattle.sources_c.specs.declared.NumberedSet.{NumberedSet}

-- a waveform's place in `Wave`
abbrev pub number_of : Wave → ℕ
number_of Off = 0
number_of Sine = 1
number_of AsymSine = 2
number_of Triangle = 3
number_of SineSaw = 4
number_of Saw = 5
number_of Square = 6

-- the waveform of a number; past the last place off
unfoldable pub wave_of : ℕ → Wave
wave_of n = cond (eqb n 1) Sine (cond (eqb n 2) AsymSine (cond (eqb n 3) Triangle (cond (eqb n 4) SineSaw (cond (eqb n 5) Saw (cond (eqb n 6) Square Off)))))

-- the settings that a numbered set stands for
unfoldable pub set_of : NumberedSet → Osc2Set
set_of s = record {
  hz1 = s.hz1;
  hz2 = s.hz2;
  stopped1 = s.stopped1;
  stopped2 = s.stopped2;
  wave1 = wave_of s.wave1;
  wave2 = wave_of s.wave2;
  level1 = s.level1;
  level2 = s.level2;
  depth_word = s.depth_word;
  fm = s.fm;
  ring = s.ring;
}
