-- One sample of the hat, on any frame of bytes, keeps its phases from 0 to 1, its detunes bounded and its level a level. Its filter is not spoken of: at bright colours it can grow until it is no number. Assumes nothing.
use Prim.Native.Nat.{ℕ}
use mathlib.Core.Path.{◌≡◌, refl}
use mathlib.Core.Bool.{Bool, true, false, not, ◌&&◌, cond}
use mathlib.Core.List.{List}
use lib.Dec.{eqb}
use lib.Ieee.{le}
use Rattle.float.specs.Consts.{k0, k_m127p5}
use Rattle.frame.specs.Frame.{Bytes, bytes_at}
use Rattle.frame.specs.Offsets.{HAT_ENV, HAT_BANK}
use Rattle.frame.proofs.Sizes.{bytes_in}
use Rattle.envelope.specs.Record.{mode_of}
use Rattle.envelope.specs.Moves.{hit_of}
use Rattle.envelope.specs.Levels.{Level}
use Rattle.envelope.proofs.Settle.{hit_level}
use Rattle.metal.specs.Metal.{hit_draws}
use Rattle.metal.proofs.Kept.{Six, hit_in, bank_in}
use Rattle.wobble.specs.declared.Wobble.{Wobble}
use Rattle.wobble.proofs.Kept.{Unit, Ratio, WobbleIn}
use Rattle.hat.specs.declared.Hat.{Hat}
use Rattle.hat.specs.Hat.{sound_of, sample_of}

pub record HatIn (h : Hat) : Type 0 where
  pub ph : Six Unit h.ph
  pub det : Six Ratio h.det
  pub env : Level h.env.level

sound_in : (f : List ℕ) → Bytes f → (h : Hat) (w : Wobble) → HatIn h → HatIn (sound_of f h w).hat
unfolding sound_of
sound_in f B h w k = record { ph = bank_in f B HAT_BANK h.ph h.det false k.ph k.det; det = k.det; env = k.env }

same_w : (f : List ℕ) (h : Hat) (w : Wobble) → WobbleIn w → WobbleIn (sound_of f h w).w
unfolding sound_of
same_w f h w k = k

pub hat_in : (f : List ℕ) → Bytes f → (h : Hat) (w : Wobble) → HatIn h → WobbleIn w → HatIn (sample_of f h w).hat × WobbleIn (sample_of f h w).w
unfolding sample_of
hat_in f B h w k m =
    let r = bytes_at f HAT_ENV in
    let d = hit_draws (eqb (mode_of r) 15 && not (eqb h.mode 15)) (le h.env.level k_m127p5) h.ph h.det w in
    let D = hit_in (eqb (mode_of r) 15 && not (eqb h.mode 15)) (le h.env.level k_m127p5) h.ph h.det w k.ph k.det m in
    let e = hit_level h.mode r h.env (bytes_in f B HAT_ENV) k.env in
    let hat : Hat = record { ph = d.ph; det = d.det; env = hit_of h.mode r h.env; mode = mode_of r; hp = h.hp } in
    let H : HatIn hat = record { ph = D.ph; det = D.det; env = e } in
    by hat d.w H D.w (le (hit_of h.mode r h.env).level k_m127p5)
  where
    by : (hat : Hat) (v : Wobble) → HatIn hat → WobbleIn v → (b : Bool)
        → HatIn (cond b (record { hat = hat; w = v; y = k0 }) (sound_of f hat v)).hat × WobbleIn (cond b (record { hat = hat; w = v; y = k0 }) (sound_of f hat v)).w
    by hat v H U true = (H, U)
    by hat v H U false = (sound_in f B hat v H, same_w f hat v U)

-- the envelope takes its move, and the mode is the record's, whether the hat sounds or not
module _ (f : List ℕ) where
  sounding : (h : Hat) (w : Wobble) (b : Bool) → ((cond b (record { hat = h; w = w; y = k0 }) (sound_of f h w)).hat.env ≡ h.env) × ((cond b (record { hat = h; w = w; y = k0 }) (sound_of f h w)).hat.mode ≡ h.mode)
  unfolding sound_of
  sounding h w true = (refl, refl)
  sounding h w false = (refl, refl)

  pub hat_moves : (h : Hat) (w : Wobble) → ((sample_of f h w).hat.env ≡ hit_of h.mode (bytes_at f HAT_ENV) h.env) × ((sample_of f h w).hat.mode ≡ mode_of (bytes_at f HAT_ENV))
  unfolding sample_of
  hat_moves h w =
      let r = bytes_at f HAT_ENV in
      let d = hit_draws (eqb (mode_of r) 15 && not (eqb h.mode 15)) (le h.env.level k_m127p5) h.ph h.det w in
      let env = hit_of h.mode r h.env in
      sounding (record { ph = d.ph; det = d.det; env = env; mode = mode_of r; hp = h.hp }) d.w (le env.level k_m127p5)
