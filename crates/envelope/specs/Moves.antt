-- What a step does to a level: first a move is read off the state and the record's bytes, then the level follows from the move. Definitions only.
use Rattle.std.specs.Prelude.{ℕ, zero, suc, Bool, true, false, not, ◌&&◌, ◌||◌, cond, List, get_or, eqb, Float}
use Rattle.std.specs.Bool.{beq}
use Rattle.std.specs.Float.{binary32}
use Rattle.std.specs.Float.Ieee.{sub, lt}
use Rattle.float.specs.Consts.{k_m128, k0p001}
use Rattle.float.specs.Floats.{abs_of, same_bits}
use Rattle.envelope.specs.declared.Record.{Record}
use Rattle.envelope.specs.declared.Env.{Env}
use Rattle.envelope.specs.declared.Key.{Key}
use Rattle.envelope.specs.declared.SegEnv.{SegEnv}
use Rattle.envelope.specs.Record.{mode_of, rate_of, record_of, tick_level}

-- ---- a move
pub record Move : Type 0 where
  pub bytes : List ℕ
  pub restarted : Bool
  pub held : Bool
  pub parked : Bool

-- a move from its parts
abbrev pub move_by : List ℕ → Bool → Bool → Bool → Move
move_by r restarted held parked = record { bytes = r; restarted = restarted; held = held; parked = parked }

-- the record that the move carries
abbrev pub given : Move → Record
given m = record_of m.bytes

-- where the level stands before it is ticked: at the start level where it is restarted, and else where it was
abbrev pub stood : Move → Float → Float
stood m x = cond m.restarted (given m).start x

-- a level is ticked unless it is parked or held
abbrev pub ticked : Move → Bool
ticked m = not m.parked && not m.held

-- the level after it, by the record and what befalls the level: ticked once from where it stood, or -128 where it is parked, or where it stood
abbrev pub settled_by : Record → Bool → Bool → Bool → Float → Float
settled_by r restarted held parked x =
    let y = cond restarted r.start x in
    cond (not parked && not held) (tick_level y r.target r.step) (cond parked k_m128 y)

unfoldable pub settle : Move → Float → Float
settle m x = settled_by (given m) m.restarted m.held m.parked x

-- whether the first n bytes of two records are the same
unfoldable pub alike : ℕ → List ℕ → List ℕ → Bool
alike zero a b = true
alike (suc n) a b = alike n a b && eqb (get_or a n 0) (get_or b n 0)

-- ---- "Dual: a changed record with the command starts at its start level"
unfoldable pub dual_move : List ℕ → List ℕ → Move
dual_move last r = move_by r (not (alike 8 r last) && (record_of r).start_cmd) false false

-- `Env` of a dual voice, which keeps the record that it saw last
unfoldable pub dual_of : List ℕ → List ℕ → Env → Env
dual_of last r e = record { level = settle (dual_move last r) e.level }

-- ---- hat and cymbal: mode F after another mode starts it; a zero first word parks it
-- mode F after another
abbrev pub starts_of : ℕ → ℕ → Bool
starts_of mode was = eqb mode 15 && not (eqb was 15)

unfoldable pub hit_move : ℕ → List ℕ → Move
hit_move mode r = move_by r (starts_of (mode_of r) mode) false (not (record_of r).start_cmd)

-- `Env` of hat or cymbal, which keep the mode that they saw last
unfoldable pub hit_of : ℕ → List ℕ → Env → Env
hit_of mode r e = record { level = settle (hit_move mode r) e.level }

-- ---- chain
-- the levels and the low 20 bits of bytes 4 to 7
unfoldable pub key_of : List ℕ → Key
key_of r = record { start = get_or r 2 0; target = get_or r 3 0; rate = rate_of r }

-- no change of these
unfoldable pub same_key : Key → Key → Bool
same_key a b = eqb a.start b.start && eqb a.target b.target && eqb a.rate b.rate

-- the same in all that an amp goes by, the level to the bit
unfoldable pub same_amp : SegEnv → SegEnv → Bool
same_amp a b = same_bits a.level b.level && beq a.hold b.hold && beq a.cmd b.cmd

-- amp: the command after a step without it; filter: a change of bytes 2, 3 or of the 20 bits, with mode 9 or F
unfoldable pub seg_starts : Bool → List ℕ → SegEnv → Bool
seg_starts amp r e =
    cond amp ((record_of r).start_cmd && not e.cmd)
    (not (same_key (key_of r) e.key) && (eqb (mode_of r) 9 || eqb (mode_of r) 15))

-- the modes that release
abbrev pub ramps : ℕ → Bool
ramps mode = eqb mode 9 || eqb mode 11 || eqb mode 15

-- "Chain hold": by the mode, the 20 bits, the rounded difference to the target, and what was
unfoldable pub hold_of : ℕ → ℕ → Float → Bool → Bool
hold_of mode rate d was =
    cond (eqb mode 3) (eqb rate 0 || lt (abs_of d) k0p001)
    (cond (eqb mode 0) (eqb rate 0 || was)
    (cond (ramps mode) false was))

-- what `SegEnv::moved` gives: restarted or not, then held or not by where the level stands then, then settled
unfoldable pub moved_by : Record → Key → ℕ → Bool → Bool → SegEnv → SegEnv
moved_by rec key mode restarted cmd e =
    let x = cond restarted rec.start e.level in
    let held = hold_of mode key.rate (sub binary32 rec.target x) e.hold in
    record { key = key; level = settled_by rec restarted held false e.level; hold = held; cmd = cmd }

-- restarted or not, then held or not by where the level stands then
unfoldable pub seg_move : Bool → List ℕ → SegEnv → Move
seg_move amp r e =
    let restarted = seg_starts amp r e in
    let x = cond restarted (record_of r).start e.level in
    move_by r restarted (hold_of (mode_of r) (key_of r).rate (sub binary32 (record_of r).target x) e.hold) false

-- `SegEnv::tick`, of the amp where `amp` is true and else of the filter
unfoldable pub seg_of : Bool → List ℕ → SegEnv → SegEnv
seg_of amp r e = record {
  key = key_of r;
  level = settle (seg_move amp r e) e.level;
  hold = (seg_move amp r e).held;
  cmd = cond amp (record_of r).start_cmd e.cmd;
}
