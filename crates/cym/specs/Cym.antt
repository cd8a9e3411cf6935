-- The cymbal and cowbell, from analog.rs. Definitions only.
use Rattle.std.specs.Prelude.{ℕ, ◌+◌, ◌*◌, max, Bool, true, false, not, ◌&&◌, ◌||◌, cond, List, [], ◌∷◌, get_or, set, replicate, eqb, leb, pos, Float}
use Rattle.std.specs.Float.{binary32, nan}
use Rattle.std.specs.Float.Ieee.{le, of_int}
use Rattle.float.specs.Consts.{k0, k1, k2, k127, k1200, k16000, k32767, k32768, FS, k0p75, k0p8, k_m128, k_m127p5, PI}
use Rattle.float.specs.Ops.{◌⊕◌, ◌⊗◌, ◌⊘◌}
use Rattle.float.specs.Floats.{min_of, max_of}
use Rattle.frame.specs.Frame.{word_f, signed_f, bytes_at}
use Rattle.frame.specs.Offsets.{CYM_COLOUR, CYM_VCA, CYM_ENV, CYM_BANK, cym_path}
use Rattle.lists.specs.Turns.{turns_of, each_of}
use Rattle.envelope.specs.declared.Env.{Env}
use Rattle.envelope.specs.Record.{mode_of}
use Rattle.envelope.specs.Moves.{hit_of}
use Rattle.power.specs.Power.{exp2_of}
use Rattle.sine.specs.Sine.{sin_of}
use Rattle.metal.specs.declared.Svf.{Svf}
use Rattle.metal.specs.Metal.{hit_draws, bank_of, svf_of}
use Rattle.wobble.specs.declared.Wobble.{Wobble}
use Rattle.cym.specs.declared.Cym.{Cym}
use Rattle.cym.specs.declared.CymOut.{CymOut}
use Rattle.cym.specs.declared.Paths.{Paths}
use Rattle.cym.specs.declared.Metal.{Metal}

-- what stands for an element past the end of a list, where no step looks
abbrev pub no_env : Env
no_env = record { level = nan }

abbrev pub no_svf : Svf
no_svf = record { low = nan; band = nan }

-- `Cym::new`
unfoldable pub cym_new : Cym
cym_new = record {
  ph = replicate 6 k0;
  det = replicate 6 k1;
  env = replicate 8 (record { level = k_m128 });
  mode = replicate 8 0;
  svf = replicate 5 (record { low = k0; band = k0 });
}

-- "cymbal (eight from 496)"
unfoldable pub record_at : List ℕ → ℕ → List ℕ
record_at f r = bytes_at f (CYM_ENV + 8 * r)

-- the envelope of record r, whose mode was `get_or mode r 0`
unfoldable pub env_at : List ℕ → List ℕ → ℕ → Env → Env
env_at f mode r e = hit_of (get_or mode r 0) (record_at f r) e

-- the eight modes
unfoldable pub modes_at : List ℕ → List ℕ
modes_at f =
    mode_of (record_at f 0) ∷ mode_of (record_at f 1) ∷ mode_of (record_at f 2) ∷ mode_of (record_at f 3) ∷ mode_of (record_at f 4) ∷ mode_of (record_at f 5) ∷ mode_of (record_at f 6) ∷ mode_of (record_at f 7) ∷ []

-- a record starts: mode F after another mode; and whether one of the eight does
abbrev pub hit_at : List ℕ → List ℕ → ℕ → Bool
hit_at now was r = eqb (get_or now r 0) 15 && not (eqb (get_or was r 0) 15)

unfoldable pub any_hit : List ℕ → List ℕ → Bool
any_hit now was = turns_of 8 (λ r any. any || hit_at now was r) false

-- whether every level is at or below -127.5
unfoldable pub quiet_of : List Env → Bool
quiet_of env = turns_of 8 (λ r all. all && le (get_or env r no_env).level k_m127p5) true

-- a path's coefficient by its centre and what the colour multiplies it by; `fixed`: the colour does not move it
unfoldable pub coefficient_of : Float → Bool → Float → Float
coefficient_of hz fixed ratio = k2 ⊗ sin_of (PI ⊗ min_of (cond fixed hz (hz ⊗ ratio)) k16000 ⊘ FS)

-- path p: skipped at its floor; record 7 is the cowbell's band-pass with at most two oscillators running
unfoldable pub path_of : Metal → List Env → ℕ → Paths → Paths
path_of m env p s =
    let c = cym_path p in
    let lv = (get_or env c.rec no_env).level in
    let body = eqb c.rec 7 && m.cowbell in
    let q = svf_of (get_or s.svf p no_svf) m.x (coefficient_of (cond body k1200 c.hz) (eqb c.rec 6 || body) m.ratio) k0p8 in
    let y = cond (c.high && not body) q.high q.svf.band in
    cond (le lv k_m127p5) s (record { svf = set s.svf p q.svf; out = s.out ⊕ y ⊗ max_of (lv ⊘ k127) k0 })

-- the five paths in turn, summed
unfoldable pub paths_of : List Svf → Metal → List Env → Paths
paths_of svf m env = turns_of 5 (path_of m env) (record { svf = svf; out = k0 })

-- the bank through the paths, times the VCA
unfoldable pub sound_of : List ℕ → Cym → Wobble → CymOut
sound_of f c w =
    let b = bank_of f CYM_BANK c.ph c.det true in
    let colour = signed_f f CYM_COLOUR ⊘ k32768 in
    let m : Metal = record { x = b.metal ⊘ of_int binary32 (pos (max b.running 1)); cowbell = leb b.running 2; ratio = exp2_of (k0p75 ⊗ colour) } in
    let s = paths_of c.svf m c.env in
    record { cym = record { ph = b.ph; det = c.det; env = c.env; mode = c.mode; svf = s.svf }; w = w; y = s.out ⊗ (word_f f CYM_VCA ⊘ k32767) }

-- `Cym::sample`: the eight moves, the hit, and the sound unless every level is at its floor
unfoldable pub sample_of : List ℕ → Cym → Wobble → CymOut
sample_of f c w =
    let now = modes_at f in
    let env = each_of 8 (env_at f c.mode) no_env c.env in
    let d = hit_draws (any_hit now c.mode) (quiet_of c.env) c.ph c.det w in
    let cym : Cym = record { ph = d.ph; det = d.det; env = env; mode = now; svf = c.svf } in
    cond (quiet_of env) (record { cym = cym; w = d.w; y = k0 }) (sound_of f cym d.w)
