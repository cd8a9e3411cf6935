-- A voice's chain, from analog.rs. Definitions only.
use Rattle.std.specs.Prelude.{ℕ, ◌≡◌, ◌⊎◌, ◌+◌, ◌*◌, true, false, not, cond, ◌&&◌, List, T, Float}
use Rattle.std.specs.Float.{nan}
use Rattle.std.specs.Float.Ieee.{neg, lt, le}
use Rattle.std.specs.Float.Ieee.Scale.{finite}
use Rattle.float.specs.Consts.{k0, k1, k2, k8, k10, k12, k60, k64, k127, k256, k440, k512, k22000, k65536, k0p3, k0p45, k0p97, k1p01, FS, TAU, PI, LEVELS_PER_6DB}
use Rattle.float.specs.Ops.{◌⊕◌, ◌⊖◌, ◌⊗◌, ◌⊘◌}
use Rattle.float.specs.Floats.{min_of, max_of, clamp_of, same_bits}
use Rattle.frame.specs.Offsets.{OVR, FRQ, RES, AMP_ENV, AMP_ENV_R, FLT_ENV}
use Rattle.frame.specs.Frame.{word_f, signed_f, bytes_at, flt_code, flt_type_of}
use Rattle.frame.specs.declared.FltType.{FltType}
use Rattle.frame.specs.declared.FltType.TheVariants.{Lp2, Lp1, Bp, Hp1, Hp2, Bs, Pk}
use Rattle.envelope.specs.declared.SegEnv.{SegEnv}
use Rattle.envelope.specs.Moves.{seg_of}
use Rattle.power.specs.Power.{exp2_of, exp_of}
use Rattle.sine.specs.Sine.{tan_of}
use Rattle.tanh.specs.Tanh.{tanh_of}
use Rattle.chain.specs.declared.Chain.{Chain}
use Rattle.chain.specs.declared.ChainOut.{ChainOut}
use Rattle.chain.specs.declared.Settings.{Settings}
use Rattle.chain.specs.declared.Coefs.{Coefs}
use Rattle.chain.specs.declared.Multimode.{Multimode}
use Rattle.chain.specs.declared.Filtered.{Filtered}

-- voice v's words and records; the filter record's first word is the envelope's depth
unfoldable pub settings_of : List ℕ → ℕ → Settings
settings_of f v = record {
  ovr = word_f f (OVR + 2 * v);
  frq = signed_f f (FRQ + 2 * v);
  depth = signed_f f (FLT_ENV + 8 * v);
  res = word_f f (RES + 2 * v);
  kind = flt_type_of (flt_code f v);
  ra = bytes_at f (AMP_ENV + 8 * v);
  ra_r = bytes_at f (AMP_ENV_R + 8 * v);
  rf = bytes_at f (FLT_ENV + 8 * v);
}

-- the overdriven sample
unfoldable pub drive_of : Float → Float → Float
drive_of word x =
    let ovr = clamp_of (word ⊘ k65536) k0 k1 in
    let drive = k1 ⊕ k8 ⊗ ovr ⊗ ovr in
    cond (lt k1p01 drive) (tanh_of (x ⊗ drive) ⊘ max_of (tanh_of drive) k0p3) x

-- the cutoff in Hz, from FRQ, the depth and the filter's level
unfoldable pub cutoff_of : Float → Float → Float → Float
cutoff_of frq depth level =
    let cv = frq ⊕ depth ⊗ (max_of level k0 ⊘ k127) in
    clamp_of (k440 ⊗ exp2_of ((cv ⊘ k512 ⊕ k64 ⊖ k60) ⊘ k12)) k10 k22000

-- the cutoff that the tangent takes: at most 0.45 of the sample rate
unfoldable pub limited_of : Float → Float
limited_of fc = min_of fc (FS ⊗ k0p45)

-- the resonance, from 0 to 1
unfoldable pub res_of : Float → Float
res_of word = clamp_of (word ⊘ (k127 ⊗ k256)) k0 k1

-- tangent, damping and quotients, and the one-pole's coefficient, of the cutoff and the resonance
unfoldable pub coefs_of : Float → Float → Coefs
coefs_of fc res =
    let g = tan_of (PI ⊗ limited_of fc ⊘ FS) in
    let k = k2 ⊗ (k1 ⊖ k0p97 ⊗ res) in
    let a1 = k1 ⊘ (k1 ⊕ g ⊗ (g ⊕ k)) in
    record { fc = fc; res = res; g = g; k = k; a1 = a1; a2 = g ⊗ a1; a3 = g ⊗ g ⊗ a1; a = k1 ⊖ exp_of (neg TAU ⊗ fc ⊘ FS) }

-- "renew them only when either differs in its bits"
unfoldable pub stored_of : Coefs → Float → Float → Coefs
stored_of q fc res = cond (same_bits fc q.fc && same_bits res q.res) q (coefs_of fc res)

-- what stands for an element past the end of a list, where no step looks
abbrev pub no_seg : SegEnv
no_seg = record { key = record { start = 0; target = 0; rate = 0 }; level = nan; hold = false; cmd = false }

abbrev pub no_coefs : Coefs
no_coefs = record { fc = nan; res = nan; g = nan; k = nan; a1 = nan; a2 = nan; a3 = nan; a = nan }

abbrev pub no_chain : Chain
no_chain = record { amp = no_seg; flt = no_seg; low = nan; band = nan; lp1 = nan; amp_r = no_seg; coefs = no_coefs }

-- `Chain::default`. "A fresh chain stores cutoff 440 Hz and resonance 0"
unfoldable pub chain_new : Chain
chain_new =
    let e : SegEnv = record { key = record { start = 0; target = 0; rate = 0 }; level = k0; hold = false; cmd = false } in
    record { amp = e; flt = e; low = k0; band = k0; lp1 = k0; amp_r = e; coefs = coefs_of k440 k0 }

-- the multimode filter, a state-variable one: its next states and its outputs
unfoldable pub multimode_of : Float → Float → Float → Coefs → Multimode
multimode_of low band x c =
    let v3 = x ⊖ low in
    let bp = c.a1 ⊗ band ⊕ c.a2 ⊗ v3 in
    let lp = low ⊕ c.a2 ⊗ band ⊕ c.a3 ⊗ v3 in
    record { low = k2 ⊗ lp ⊖ low; band = k2 ⊗ bp ⊖ band; lp = lp; bp = bp; hp = x ⊖ c.k ⊗ bp ⊖ lp }

-- the one-pole
unfoldable pub lp1_of : Float → Float → Float → Float
lp1_of lp1 x a = lp1 ⊕ a ⊗ (x ⊖ lp1)

-- the output of each filter type
unfoldable pub pick_of : FltType → Multimode → Float → Float → Float → Float → Float
pick_of Lp2 s lp1 x k res = s.lp
pick_of Lp1 s lp1 x k res = lp1
pick_of Bp s lp1 x k res = s.bp
pick_of Hp1 s lp1 x k res = x ⊖ lp1
pick_of Hp2 s lp1 x k res = s.hp
pick_of Bs s lp1 x k res = s.lp ⊕ s.hp
pick_of Pk s lp1 x k res = x ⊕ s.bp ⊗ k ⊗ k2 ⊗ res

-- the filtered sample: where it is not finite it is 0 and the two integrators are cleared, not the one-pole
unfoldable pub finite_or : Multimode → Float → Float → Filtered
finite_or s lp1 y = cond (finite y) (record { low = s.low; band = s.band; lp1 = lp1; y = y }) (record { low = k0; band = k0; lp1 = lp1; y = k0 })

-- the overdriven sample through the filter of the voice's type, with these states and by these coefficients
unfoldable pub filter_of : Float → Float → Float → FltType → Coefs → Float → Filtered
filter_of low band lp1 kind q x =
    let s = multimode_of low band x q in
    let p = lp1_of lp1 x q.a in
    finite_or s p (pick_of kind s p x q.k q.res)

-- "the chain gain 0 at or below 0", else 2 ^ ((level - 127) / 16)
unfoldable pub gain_of : Float → Float
gain_of level = cond (le level k0) k0 (exp2_of ((level ⊖ k127) ⊘ LEVELS_PER_6DB))

-- `Chain::process`, and the right side: "the left mix and the receive word use the left level, the right mix the right one". The right amp ticks after the left
-- one, last in the chain. `filtered` and `cutoff` tell of the filter what R-6 asks: its sample, before the amps, and the cutoff in Hz that its tangent takes
unfoldable pub process_of : List ℕ → ℕ → Float → Chain → ChainOut
process_of f v x c =
    let i = settings_of f v in
    let flt = seg_of false i.rf c.flt in
    let fc = cutoff_of i.frq i.depth flt.level in
    let q = stored_of c.coefs fc (res_of i.res) in
    let s = filter_of c.low c.band c.lp1 i.kind q (drive_of i.ovr x) in
    let amp = seg_of true i.ra c.amp in
    let amp_r = seg_of true i.ra_r c.amp_r in
    record {
      chain = record { amp = amp; flt = flt; low = s.low; band = s.band; lp1 = s.lp1; amp_r = amp_r; coefs = q };
      y = record { l = s.y ⊗ gain_of amp.level; r = s.y ⊗ gain_of amp_r.level };
      filtered = s.y;
      cutoff = limited_of fc;
    }

-- each envelope of a chain sees its own record, the right amp "with the same rule as the left"; and the filtered sample goes to each side by that side's level
pub record EachItsOwn (f : List ℕ) (v : ℕ) (x : Float) (old : Chain) (o : ChainOut) : Type 0 where
  pub amp : o.chain.amp ≡ seg_of true (bytes_at f (AMP_ENV + 8 * v)) old.amp
  pub amp_r : o.chain.amp_r ≡ seg_of true (bytes_at f (AMP_ENV_R + 8 * v)) old.amp_r
  pub flt : o.chain.flt ≡ seg_of false (bytes_at f (FLT_ENV + 8 * v)) old.flt
  pub left : o.y.l ≡ o.filtered ⊗ gain_of o.chain.amp.level
  pub right : o.y.r ≡ o.filtered ⊗ gain_of o.chain.amp_r.level

-- the pair of a step: voice v's cutoff, from the filter's level after its tick, and its resonance
abbrev pub pair_fc : List ℕ → ℕ → Float → Float
pair_fc f v level = cutoff_of (signed_f f (FRQ + 2 * v)) (signed_f f (FLT_ENV + 8 * v)) level

abbrev pub pair_res : List ℕ → ℕ → Float
pair_res f v = res_of (word_f f (RES + 2 * v))

-- "on any board, a chain whose pair has the stored bits uses and keeps the stored coefficients", and else those of the new pair
pub record Stored (f : List ℕ) (v : ℕ) (x : Float) (old : Chain) (o : ChainOut) : Type 0 where
  pub keeps : let fc = pair_fc f v o.chain.flt.level in let res = pair_res f v in
      T (same_bits fc old.coefs.fc) → T (same_bits res old.coefs.res) → o.chain.coefs ≡ old.coefs
  pub renews : let fc = pair_fc f v o.chain.flt.level in let res = pair_res f v in
      T (not (same_bits fc old.coefs.fc)) ⊎ T (not (same_bits res old.coefs.res)) → o.chain.coefs ≡ coefs_of fc res
  pub uses : record { low = o.chain.low; band = o.chain.band; lp1 = o.chain.lp1; y = o.filtered }
      ≡ filter_of old.low old.band old.lp1 (flt_type_of (flt_code f v)) o.chain.coefs (drive_of (word_f f (OVR + 2 * v)) x)

-- the filtered sample is "the one after the replacement of values that aren't finite", and the cutoff the one that the tangent takes, within both its limits
pub record Traced (o : ChainOut) : Type 0 where
  pub finite : T (finite o.filtered)
  pub most : T (le o.cutoff (FS ⊗ k0p45))
  pub least : T (le k10 o.cutoff)
