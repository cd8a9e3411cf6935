-- The cases on each edge that are proved together: one statement about the definitions, a row for each. Definitions only.
use Rattle.std.specs.Prelude.{◌≡◌, Bool, true, false, List, [], ◌∷◌, ℕ, pos, negsuc, get_or, Float}
use Rattle.std.specs.Float.{nan, fin}
use Rattle.float.specs.Floats.{to24_of}
use Rattle.frame.specs.Offsets.{ROUTE}
use Rattle.frame.specs.Frame.{routed_off}
use Rattle.envelope.specs.declared.Record.{Record}
use Rattle.envelope.specs.Record.{record_of, step_of, tick_level}
use Rattle.wobble.specs.Wobble.{xorshift_of}
use Rattle.vco.specs.Vco.{wave_from_bits}
use Rattle.vco.specs.declared.Wave.TheVariants.{Off, Sine}

-- a record's fields
abbrev fields : Bool → Float → Float → Float → Record
fields cmd start target step = record { start_cmd = cmd; start = start; target = target; step = step }

-- which of voices 0 to 7 are kept from the mix
abbrev off : List ℕ → List Bool
off f = routed_off f 0 ∷ routed_off f 1 ∷ routed_off f 2 ∷ routed_off f 3 ∷ routed_off f 4 ∷ routed_off f 5 ∷ routed_off f 6 ∷ routed_off f 7 ∷ []

-- the rows marked P of "Cases on each edge"
pub record Cases : Type 0 where
  -- 40 00 00 7F 00 00 00 00: command, 0, 127, step 128
  pub record1 : record_of (0x40 ∷ 0 ∷ 0 ∷ 0x7f ∷ 0 ∷ 0 ∷ 0 ∷ 0 ∷ []) ≡ fields true (fin false 0 (pos 0)) (fin false 127 (pos 0)) (fin false 1 (pos 7))
  -- 00 00 80 00 00 0F FF FF: no command, -128, 0, step 2 ^ -9
  pub record2 : record_of (0 ∷ 0 ∷ 0x80 ∷ 0 ∷ 0 ∷ 0x0f ∷ 0xff ∷ 0xff ∷ []) ≡ fields false (fin true 1 (pos 7)) (fin false 0 (pos 0)) (fin false 1 (negsuc 8))
  -- 00 01 64 FF 00 00 00 01: command, 100, -1, step 127.9990234375 = 131071 / 2 ^ 10
  pub record3 : record_of (0 ∷ 1 ∷ 0x64 ∷ 0xff ∷ 0 ∷ 0 ∷ 0 ∷ 1 ∷ []) ≡ fields true (fin false 25 (pos 2)) (fin true 1 (pos 0)) (fin false 131071 (negsuc 9))
  -- m 0, e 6: step 2; e 7: 16777215 / 16777216
  pub step6 : step_of 6 0 ≡ fin false 1 (pos 1)
  pub step7 : step_of 7 0 ≡ fin false 16777215 (negsuc 23)
  -- -128 to 127 by 2 ^ -9 gives -127.998046875 = -65535 / 2 ^ 9
  pub tick1 : tick_level (fin true 1 (pos 7)) (fin false 127 (pos 0)) (fin false 1 (negsuc 8)) ≡ fin true 65535 (negsuc 8)
  -- 0 to 127 by 128 gives 127
  pub tick2 : tick_level (fin false 0 (pos 0)) (fin false 127 (pos 0)) (fin false 1 (pos 7)) ≡ fin false 127 (pos 0)
  -- 10 to 0 by 4 gives 6
  pub tick3 : tick_level (fin false 5 (pos 1)) (fin false 0 (pos 0)) (fin false 1 (pos 2)) ≡ fin false 3 (pos 1)
  -- code 101 is sine, 010 off
  pub code1 : wave_from_bits true false true ≡ Sine
  pub code2 : wave_from_bits false true false ≡ Off
  -- 0.5 gives word 4194303, 2 gives 8388607, not a number 0
  pub word1 : to24_of (fin false 1 (negsuc 0)) ≡ pos 4194303
  pub word2 : to24_of (fin false 1 (pos 1)) ≡ pos 8388607
  pub word3 : to24_of nan ≡ pos 0
  -- route byte 08 takes off voice 0 alone, 01 voice 3 alone
  pub route1 : (f : List ℕ) → get_or f ROUTE 0 ≡ 0x08 → off f ≡ true ∷ false ∷ false ∷ false ∷ false ∷ false ∷ false ∷ false ∷ []
  pub route2 : (f : List ℕ) → get_or f ROUTE 0 ≡ 0x01 → off f ≡ false ∷ false ∷ false ∷ true ∷ false ∷ false ∷ false ∷ false ∷ []
  -- random state 1 is followed by 270369
  pub random1 : xorshift_of 1 ≡ 270369
