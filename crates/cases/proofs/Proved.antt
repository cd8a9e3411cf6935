-- Each row is computed. Assumes nothing.
use mathlib.Core.Path.{refl}
use Rattle.float.specs.Floats.{abs_of, signum_of, clamp_of, to24_of}
use Rattle.frame.specs.Frame.{routed_off}
use Rattle.frame.specs.Offsets.{route_bits, route_bit}
use Rattle.envelope.specs.Record.{level_of, step_of, record_of, tick_level}
use Rattle.wobble.specs.Wobble.{xorshift_of}
use Rattle.vco.specs.Vco.{wave_from_bits}
use Rattle.cases.specs.Cases.{Cases}

pub cases : Cases
unfolding level_of step_of record_of tick_level abs_of signum_of clamp_of to24_of routed_off route_bits route_bit wave_from_bits xorshift_of lib.Ieee.of_bits lib.Ieee.of_int lib.Ieee.round lib.Ieee.add lib.Ieee.sub lib.Ieee.mul lib.Ieee.div lib.Ieee.neg lib.Ieee.le lib.Ieee.lt lib.Ieee.to_signed
cases = record {
  record1 = refl;
  record2 = refl;
  record3 = refl;
  step6 = refl;
  step7 = refl;
  tick1 = refl;
  tick2 = refl;
  tick3 = refl;
  code1 = refl;
  code2 = refl;
  word1 = refl;
  word2 = refl;
  word3 = refl;
  route1 = λ f e. rw e;
  route2 = λ f e. rw e;
  random1 = refl;
}
