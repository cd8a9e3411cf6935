-- An envelope record, read off its eight bytes, and one tick toward its target. Definitions only.
use Rattle.std.specs.Prelude.{ℕ, ◌+◌, ◌-◌, ◌*◌, ◌/◌, ◌%◌, ◌^◌, not, ◌||◌, cond, List, get_or, ltb, eqb, pos, negsuc, Float}
use Rattle.std.specs.Float.{binary32}
use Rattle.std.specs.Float.Ieee.{add, sub, mul, div, of_int, le}
use Rattle.float.specs.Consts.{k2, k8388608}
use Rattle.float.specs.Floats.{abs_of, signum_of}
use Rattle.envelope.specs.declared.Record.{Record}
use Rattle.envelope.specs.declared.Env.{Env}

-- "Start and target: bytes 2 and 3 read as signed levels"
unfoldable pub level_of : ℕ → Float
level_of b = cond (ltb b 128) (of_int binary32 (pos b)) (of_int binary32 (negsuc (255 - b)))

-- mode: the high nibble of byte 4
abbrev pub mode_of : List ℕ → ℕ
mode_of r = get_or r 4 0 / 16

-- exponent e: the low nibble of byte 5
abbrev pub exp_of : List ℕ → ℕ
exp_of r = get_or r 5 0 % 16

-- mantissa m: bytes 6 and 7
abbrev pub mant_of : List ℕ → ℕ
mant_of r = get_or r 6 0 * 256 + get_or r 7 0

-- the low 20 bits of bytes 4 to 7
abbrev pub rate_of : List ℕ → ℕ
rate_of r = get_or r 5 0 % 16 * 65536 + get_or r 6 0 * 256 + get_or r 7 0

-- (2147483647 - m × 16384) shifted right by e, rounded to f32, / 2 ^ 23, / 2
unfoldable pub step_of : ℕ → ℕ → Float
step_of e m = div binary32 (div binary32 (of_int binary32 (pos ((2147483647 - m * 16384) / 2 ^ e))) k8388608) k2

-- `Record::parse`; the command: byte 0 or byte 1 is not zero
unfoldable pub record_of : List ℕ → Record
record_of r = record {
  start_cmd = not (eqb (get_or r 0 0) 0) || not (eqb (get_or r 1 0) 0);
  start = level_of (get_or r 2 0);
  target = level_of (get_or r 3 0);
  step = step_of (exp_of r) (mant_of r);
}

-- a tick: the target where the rounded difference is at most the step in size, and else a step nearer
unfoldable pub tick_level : Float → Float → Float → Float
tick_level level target step =
    let d = sub binary32 target level in
    cond (le (abs_of d) step) target (add binary32 level (mul binary32 step (signum_of d)))

-- `Env::tick`
abbrev pub tick_of : Env → Record → Env
tick_of e r = record { level = tick_level e.level r.target r.step }
