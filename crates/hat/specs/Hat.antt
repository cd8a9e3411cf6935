-- The hihat, from analog.rs. Definitions only.
use Rattle.std.specs.Prelude.{ℕ, false, not, ◌&&◌, cond, List, replicate, eqb, Float}
use Rattle.std.specs.Float.Ieee.{le}
use Rattle.float.specs.Consts.{k0, k1, k2, k6, LEVELS_PER_6DB, k127, k500, k6000, k16000, k32767, k32768, FS, k1p2, k1p5, k_m128, k_m127p5, PI}
use Rattle.float.specs.Ops.{◌⊖◌, ◌⊗◌, ◌⊘◌}
use Rattle.float.specs.Floats.{clamp_of}
use Rattle.frame.specs.Frame.{word_f, signed_f, bytes_at}
use Rattle.frame.specs.Offsets.{HAT_COLOUR, HAT_VCA, HAT_ENV, HAT_BANK}
use Rattle.envelope.specs.Record.{mode_of}
use Rattle.envelope.specs.Moves.{hit_of}
use Rattle.power.specs.Power.{exp2_of}
use Rattle.sine.specs.Sine.{sin_of}
use Rattle.metal.specs.Metal.{hit_draws, bank_of, svf_of}
use Rattle.wobble.specs.declared.Wobble.{Wobble}
use Rattle.hat.specs.declared.Hat.{Hat}
use Rattle.hat.specs.declared.HatOut.{HatOut}

-- `Hat::new`
unfoldable pub hat_new : Hat
hat_new = record { ph = replicate 6 k0; det = replicate 6 k1; env = record { level = k_m128 }; mode = 0; hp = record { low = k0; band = k0 } }

-- the high-pass coefficient of the colour CV: 6 kHz at 0, an octave and a half per full scale
unfoldable pub colour_of : List ℕ → Float
colour_of f = let fc = clamp_of (k6000 ⊗ exp2_of (k1p5 ⊗ (signed_f f HAT_COLOUR ⊘ k32768))) k500 k16000 in k2 ⊗ sin_of (PI ⊗ fc ⊘ FS)

-- the bank through the high-pass, times the VCA and the level's gain
unfoldable pub sound_of : List ℕ → Hat → Wobble → HatOut
sound_of f h w =
    let b = bank_of f HAT_BANK h.ph h.det false in
    let s = svf_of h.hp (b.metal ⊘ k6) (colour_of f) k1p2 in
    record {
      hat = record { ph = b.ph; det = h.det; env = h.env; mode = h.mode; hp = s.svf };
      w = w;
      y = s.high ⊗ (word_f f HAT_VCA ⊘ k32767) ⊗ exp2_of ((h.env.level ⊖ k127) ⊘ LEVELS_PER_6DB);
    }

-- `Hat::sample`: the hit, the envelope's move, and the sound unless the level is at or below -127.5
unfoldable pub sample_of : List ℕ → Hat → Wobble → HatOut
sample_of f h w =
    let r = bytes_at f HAT_ENV in
    let d = hit_draws (eqb (mode_of r) 15 && not (eqb h.mode 15)) (le h.env.level k_m127p5) h.ph h.det w in
    let env = hit_of h.mode r h.env in
    let hat : Hat = record { ph = d.ph; det = d.det; env = env; mode = mode_of r; hp = h.hp } in
    cond (le env.level k_m127p5) (record { hat = hat; w = d.w; y = k0 }) (sound_of f hat d.w)
