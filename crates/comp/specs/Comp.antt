-- The master compressor, from analog.rs. Definitions only.
use Rattle.std.specs.Prelude.{ℕ, ◌+◌, Bool, ◌&&◌, cond, List, get_or, eqb, pos, Float}
use Rattle.std.specs.Float.{binary32}
use Rattle.std.specs.Float.Ieee.{neg, lt, le, of_int}
use Rattle.float.specs.Consts.{k0, k1, k2, k127, FS, k0p45, TAU}
use Rattle.float.specs.Ops.{◌⊕◌, ◌⊖◌, ◌⊗◌, ◌⊘◌}
use Rattle.float.specs.Floats.{abs_of, signum_of, max_of, clamp_of}
use Rattle.lists.specs.Turns.{turns_of}
use Rattle.power.specs.Power.{exp_of, pow10_of}
use Rattle.log10.specs.Log10.{log10_of}
use Rattle.comp.specs.Consts.{k20, k47, k48, k79, k105, k400, k1000, k2500, k0p000001, k0p00001, k0p2, k0p6, k0p9, k1p6, k28p8, k40p3}
use Rattle.comp.specs.Tables.{attack_of, release_of, ratio_of, vol_row}
use Rattle.comp.specs.declared.Sc.{Sc}
use Rattle.comp.specs.declared.Comp.{Comp}
use Rattle.comp.specs.declared.CompOut.{CompOut}
use Rattle.comp.specs.declared.Settings.{Settings}
use Rattle.comp.specs.declared.Sidechain.{Sidechain}
use Rattle.comp.specs.declared.Sidechain.TheVariants.{Off, Lpf, Hpf, Hit}

-- `Comp::default`
unfoldable pub comp_new : Comp
comp_new = record { env = k0; sc = record { lo = k0; hi = k0 } }

-- the parameters, of each word the high byte: THR, ATK, REL, RAT, SEQ, MUP, MIX, VOL, two bytes apart from byte 6 on
abbrev pub number_at : List ℕ → ℕ → Float
number_at p o = of_int binary32 (pos (get_or p o 0))

-- the sidechain by SEQ: 1 low-passed, 2 high-passed, 3 HIT, else the peak
unfoldable pub seq_of : ℕ → Sidechain
seq_of seq = cond (eqb seq 1) Lpf (cond (eqb seq 2) Hpf (cond (eqb seq 3) Hit Off))

unfoldable pub settings_of : List ℕ → Settings
settings_of p = record {
  thr = number_at p 6;
  atk = get_or p 8 0;
  rel = get_or p 10 0;
  rat = get_or p 12 0;
  seq = seq_of (get_or p 14 0);
  mup = number_at p 16;
  mix = number_at p 18;
  vol = number_at p 20;
}

-- the greater of the two sizes
unfoldable pub peak_of : Float → Float → Float
peak_of l r = max_of (abs_of l) (abs_of r)

-- the peak x with a sign: minus only where both sides have it
unfoldable pub side_of : Float → Float → Float → Float
side_of x l r = x ⊗ max_of (signum_of l) (signum_of r)

-- a one-pole low-pass: how far a sample moves it
unfoldable pub pole_of : Float → Float
pole_of hz = k1 ⊖ exp_of (neg TAU ⊗ hz ⊘ FS)

-- the sidechain's low-passes at 400 and 2500 Hz
unfoldable pub sidechain_of : Sc → Float → Sc
sidechain_of sc s = record { lo = sc.lo ⊕ pole_of k400 ⊗ (s ⊖ sc.lo); hi = sc.hi ⊕ pole_of k2500 ⊗ (s ⊖ sc.hi) }

-- what the detector follows, by its sidechain
unfoldable pub detect_of : Sidechain → Float → Float → Sc → Float
detect_of Lpf x s sc = abs_of sc.lo ⊗ k1p6
detect_of Hpf x s sc = abs_of (s ⊖ sc.lo)
detect_of Hit x s sc = abs_of (s ⊖ sc.hi) ⊗ k1p6
detect_of Off x s sc = x

-- what a sample keeps of the envelope, of a time in seconds
unfoldable pub coef_of : Float → Float
coef_of t = exp_of (neg k1 ⊘ (max_of t k0p00001 ⊗ FS))

-- the attack where the envelope rises, else the release, 0.45 of its label
unfoldable pub smooth_of : Bool → ℕ → ℕ → Float
smooth_of rises atk rel = cond rises (coef_of (attack_of atk ⊘ k1000)) (coef_of (k0p45 ⊗ release_of rel))

-- the envelope's next value
unfoldable pub follow_of : Float → Float → ℕ → ℕ → Float
follow_of env det atk rel = det ⊕ smooth_of (lt env det) atk rel ⊗ (env ⊖ det)

-- the envelope in dB, from -120 on
unfoldable pub level_of : Float → Float
level_of env = k20 ⊗ log10_of (max_of env k0p000001)

-- the static curve's soft knee, 20 dB wide
unfoldable pub soft_of : Float → Float
soft_of over =
    let d = over ⊕ k20 ⊘ k2 in
    cond (le over (neg k20 ⊘ k2)) k0 (cond (le (k20 ⊘ k2) over) over (d ⊗ d ⊘ (k2 ⊗ k20)))

-- the gain reduction in dB: the threshold is 0.9 dB a step, 0 at THR 105
unfoldable pub reduction_of : Float → Float → ℕ → Float
reduction_of env thr rat = soft_of (level_of env ⊖ neg k0p9 ⊗ (k105 ⊖ thr)) ⊗ (k1 ⊖ k1 ⊘ ratio_of rat)

-- MUP in dB: 0.6 a step up to 48, then a line to 40.3 at 127
unfoldable pub mup_db : Float → Float
mup_db m = cond (le m k48) (k0p6 ⊗ m) (k28p8 ⊕ (m ⊖ k48) ⊗ (k40p3 ⊖ k28p8) ⊘ k79)

-- the make-up, over that of MUP 47
unfoldable pub makeup_of : Float → Float
makeup_of m = mup_db m ⊖ mup_db k47

-- VOL below the first row: 0.2 dB a step, so that "VOL 0 gives -18.85 dB before rounding"; else that row
unfoldable pub vol_first : Float → Float
vol_first vol = let a = vol_row 0 in cond (lt vol a.vol) (a.dry ⊖ (a.vol ⊖ vol) ⊗ k0p2) a.dry

-- VOL between row i and the next: the line through both; elsewhere what was
unfoldable pub vol_turn : Float → ℕ → Float → Float
vol_turn vol i out =
    let a = vol_row i in
    let b = vol_row (i + 1) in
    let k = (vol ⊖ a.vol) ⊘ (b.vol ⊖ a.vol) in
    cond (le vol b.vol && le a.vol vol) (a.dry ⊕ k ⊗ (b.dry ⊖ a.dry)) out

-- VOL in dB, row after row: from 128 on "no row matches and the first row's -10.85 stays"; the source's wet minus dry is left out, since it does not use it
unfoldable pub vol_of : Float → Float
vol_of vol = turns_of 8 (vol_turn vol) (vol_first vol)

-- `db`: the factor of a gain in dB
unfoldable pub db_of : Float → Float
db_of x = pow10_of (x ⊘ k20)

-- the crossfade of MIX between the dry and the wet gain, both given in dB
unfoldable pub gain_of : Float → Float → Float → Float
gain_of dry wet mix =
    let m = clamp_of (mix ⊘ k127) k0 k1 in
    db_of dry ⊗ (k1 ⊖ m) ⊕ db_of wet ⊗ m

-- `Comp::process`
unfoldable pub process_of : List ℕ → Float → Float → Comp → CompOut
process_of p l r c =
    let i = settings_of p in
    let x = peak_of l r in
    let s = side_of x l r in
    let sc = sidechain_of c.sc s in
    let env = follow_of c.env (detect_of i.seq x s sc) i.atk i.rel in
    let dry = vol_of i.vol in
    let g = gain_of dry (dry ⊖ reduction_of env i.thr i.rat ⊕ makeup_of i.mup) i.mix in
    record { comp = record { env = env; sc = sc }; mix = record { l = l ⊗ g; r = r ⊗ g } }
