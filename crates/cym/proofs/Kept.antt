-- One sample of the cymbal, on any frame of bytes, keeps its phases from 0 to 1, its detunes bounded and its eight levels levels. Assumes nothing.
use Prim.Native.Nat.{ℕ, zero, suc, ◌+◌, ◌*◌, ◌≤◌, ◌<◌}
use native.Mathlib.Omega.{arith}
use mathlib.Core.Path.{◌≡◌, refl, sym, ap, subst, ◌∙◌}
use mathlib.Core.Bool.{Bool, true, false, cond}
use mathlib.Core.List.{List}
use lib.ListN.{get_or, length}
use Rattle.float.specs.Consts.{k0}
use Rattle.frame.specs.Offsets.{CYM_ENV, CYM_BANK}
use Rattle.frame.specs.Frame.{Bytes}
use Rattle.frame.proofs.Sizes.{bytes_in}
use Rattle.lists.specs.Turns.{each_of}
use Rattle.lists.proofs.Sweep.{each_length, each_at}
use Rattle.envelope.specs.declared.Env.{Env}
use Rattle.envelope.specs.Record.{mode_of}
use Rattle.envelope.specs.Moves.{hit_of}
use Rattle.envelope.specs.Levels.{Level}
use Rattle.envelope.proofs.Settle.{hit_level}
use Rattle.metal.specs.Metal.{hit_draws}
use Rattle.metal.proofs.Kept.{Six, hit_in, bank_in}
use Rattle.wobble.specs.declared.Wobble.{Wobble}
use Rattle.wobble.proofs.Kept.{Unit, Ratio, WobbleIn}
use Rattle.cym.specs.declared.Cym.{Cym}
use Rattle.cym.specs.Cym.{no_env, record_at, env_at, modes_at, any_hit, quiet_of, sound_of, sample_of}

pub record CymIn (c : Cym) : Type 0 where
  pub ph : Six Unit c.ph
  pub det : Six Ratio c.det
  pub long : length c.env ≡ 8
  pub env : (r : ℕ) → r < 8 → Level (get_or c.env r no_env).level

env_in : (f : List ℕ) → Bytes f → (mode : List ℕ) (r : ℕ) (e : Env) → Level e.level → Level (env_at f mode r e).level
unfolding env_at
env_in f B mode r e l = hit_level (get_or mode r 0) (record_at f r) e (record_bytes r) l
  where
    record_bytes : (r : ℕ) → Bytes (record_at f r)
    record_bytes r = unfold record_at in bytes_in f B (CYM_ENV + 8 * r)

sound_in : (f : List ℕ) → Bytes f → (c : Cym) (w : Wobble) → CymIn c → CymIn (sound_of f c w).cym
unfolding sound_of
sound_in f B c w k = record { ph = bank_in f B CYM_BANK c.ph c.det true k.ph k.det; det = k.det; long = k.long; env = k.env }

same_w : (f : List ℕ) (c : Cym) (w : Wobble) → WobbleIn w → WobbleIn (sound_of f c w).w
unfolding sound_of
same_w f c w k = k

pub cym_in : (f : List ℕ) → Bytes f → (c : Cym) (w : Wobble) → CymIn c → WobbleIn w → CymIn (sample_of f c w).cym × WobbleIn (sample_of f c w).w
unfolding sample_of
cym_in f B c w k m =
    let now = modes_at f in
    let g = env_at f c.mode in
    let env = each_of 8 g no_env c.env in
    let d = hit_draws (any_hit now c.mode) (quiet_of c.env) c.ph c.det w in
    let D = hit_in (any_hit now c.mode) (quiet_of c.env) c.ph c.det w k.ph k.det m in
    let cym : Cym = record { ph = d.ph; det = d.det; env = env; mode = now; svf = c.svf } in
    let L : length env ≡ 8 = each_length g no_env c.env 8 ∙ k.long in
    let E : (r : ℕ) → r < 8 → Level (get_or env r no_env).level = λ r l. subst (λ (e : Env). Level e.level) (sym (each_at g no_env c.env 8 r l (long8 c.env k.long))) (env_in f B c.mode r (get_or c.env r no_env) (k.env r l)) in
    by cym d.w (record { ph = D.ph; det = D.det; long = L; env = E }) D.w (quiet_of env)
  where
    long8 : (l : List Env) → length l ≡ 8 → 8 ≤ length l
    long8 l e = omega arith

    by : (cym : Cym) (v : Wobble) → CymIn cym → WobbleIn v → (b : Bool)
        → CymIn (cond b (record { cym = cym; w = v; y = k0 }) (sound_of f cym v)).cym × WobbleIn (cond b (record { cym = cym; w = v; y = k0 }) (sound_of f cym v)).w
    by cym v H U true = (H, U)
    by cym v H U false = (sound_in f B cym v H, same_w f cym v U)

-- each envelope takes its move, and each mode is its record's, whether the cymbal sounds or not
module _ (f : List ℕ) where
  sounding : (c : Cym) (w : Wobble) (b : Bool) → ((cond b (record { cym = c; w = w; y = k0 }) (sound_of f c w)).cym.env ≡ c.env) × ((cond b (record { cym = c; w = w; y = k0 }) (sound_of f c w)).cym.mode ≡ c.mode)
  unfolding sound_of
  sounding c w true = (refl, refl)
  sounding c w false = (refl, refl)

  sampled : (c : Cym) (w : Wobble) → ((sample_of f c w).cym.env ≡ each_of 8 (env_at f c.mode) no_env c.env) × ((sample_of f c w).cym.mode ≡ modes_at f)
  unfolding sample_of
  sampled c w =
      let env = each_of 8 (env_at f c.mode) no_env c.env in
      let d = hit_draws (any_hit (modes_at f) c.mode) (quiet_of c.env) c.ph c.det w in
      sounding (record { ph = d.ph; det = d.det; env = env; mode = modes_at f; svf = c.svf }) d.w (quiet_of env)

  mode_at : (r : ℕ) → r < 8 → get_or (modes_at f) r 0 ≡ mode_of (record_at f r)
  unfolding modes_at
  mode_at zero h = refl
  mode_at (suc zero) h = refl
  mode_at (suc (suc zero)) h = refl
  mode_at (suc (suc (suc zero))) h = refl
  mode_at (suc (suc (suc (suc zero)))) h = refl
  mode_at (suc (suc (suc (suc (suc zero))))) h = refl
  mode_at (suc (suc (suc (suc (suc (suc zero)))))) h = refl
  mode_at (suc (suc (suc (suc (suc (suc (suc zero))))))) h = refl
  mode_at (suc (suc (suc (suc (suc (suc (suc (suc r)))))))) h = absurd (omega arith)

  pub cym_moves : (c : Cym) (w : Wobble) → length c.env ≡ 8 → (r : ℕ) → r < 8
      → (get_or (sample_of f c w).cym.env r no_env ≡ hit_of (get_or c.mode r 0) (record_at f r) (get_or c.env r no_env)) × (get_or (sample_of f c w).cym.mode r 0 ≡ mode_of (record_at f r))
  unfolding env_at
  cym_moves c w e r h = (
    ap (λ (l : List Env). get_or l r no_env) (sampled c w).0 ∙ each_at (env_at f c.mode) no_env c.env 8 r h (omega arith),
    ap (λ (l : List ℕ). get_or l r 0) (sampled c w).1 ∙ mode_at r h,
  )
