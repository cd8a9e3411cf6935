-- A voice's chain as it was before R-8: its filter's coefficients were worked out anew in each sample, and none were stored. `x_before` is `x_of` of specs/Chain.antt as it
-- stood, or `x`; what R-8 left alone is shared, and is today's. Definitions only.
use Rattle.std.specs.Prelude.{ℕ, true, false, List, Float}
use Rattle.std.specs.Float.Ieee.{neg}
use Rattle.float.specs.Consts.{k0, k1, k2, k0p97, FS, TAU, PI}
use Rattle.float.specs.Ops.{◌⊕◌, ◌⊖◌, ◌⊗◌, ◌⊘◌}
use Rattle.envelope.specs.declared.SegEnv.{SegEnv}
use Rattle.envelope.specs.Moves.{seg_of}
use Rattle.power.specs.Power.{exp_of}
use Rattle.sine.specs.Sine.{tan_of}
use Rattle.chain.specs.declared.Chain.{Chain}
use Rattle.chain.specs.declared.Filtered.{Filtered}
use Rattle.chain.specs.declared.Multimode.{Multimode}
use Rattle.chain.specs.declared.Settings.{Settings}
use Rattle.chain.specs.Chain.{settings_of, drive_of, cutoff_of, limited_of, res_of, pick_of, finite_or, gain_of}
use Rattle.chain.specs.Before.{OutOn, Kind}

-- its fields, and its filter's coefficients
pub record ChainBefore : Type 0 where
  pub amp : SegEnv
  pub flt : SegEnv
  pub low : Float
  pub band : Float
  pub lp1 : Float
  pub amp_r : SegEnv

pub record CoefsBefore : Type 0 where
  pub k : Float
  pub a1 : Float
  pub a2 : Float
  pub a3 : Float

unfoldable pub chain_new_before : ChainBefore
chain_new_before =
    let e : SegEnv = record { key = record { start = 0; target = 0; rate = 0 }; level = k0; hold = false; cmd = false } in
    record { amp = e; flt = e; low = k0; band = k0; lp1 = k0; amp_r = e }

unfoldable pub coefs_before : Float → Float → CoefsBefore
coefs_before fc res =
    let g = tan_of (PI ⊗ limited_of fc ⊘ FS) in
    let k = k2 ⊗ (k1 ⊖ k0p97 ⊗ res) in
    let a1 = k1 ⊘ (k1 ⊕ g ⊗ (g ⊕ k)) in
    record { k = k; a1 = a1; a2 = g ⊗ a1; a3 = g ⊗ g ⊗ a1 }

unfoldable pub multimode_before : Float → Float → Float → CoefsBefore → Multimode
multimode_before low band x c =
    let v3 = x ⊖ low in
    let bp = c.a1 ⊗ band ⊕ c.a2 ⊗ v3 in
    let lp = low ⊕ c.a2 ⊗ band ⊕ c.a3 ⊗ v3 in
    record { low = k2 ⊗ lp ⊖ low; band = k2 ⊗ bp ⊖ band; lp = lp; bp = bp; hp = x ⊖ c.k ⊗ bp ⊖ lp }

unfoldable pub lp1_before : Float → Float → Float → Float
lp1_before lp1 x fc = lp1 ⊕ (k1 ⊖ exp_of (neg TAU ⊗ fc ⊘ FS)) ⊗ (x ⊖ lp1)

unfoldable pub filter_before : ChainBefore → Settings → Float → Float → Filtered
filter_before c i fc x =
    let res = res_of i.res in
    let q = coefs_before fc res in
    let s = multimode_before c.low c.band x q in
    let lp1 = lp1_before c.lp1 x fc in
    finite_or s lp1 (pick_of i.kind s lp1 x q.k res)

unfoldable pub process_before : List ℕ → ℕ → Float → ChainBefore → OutOn ChainBefore
process_before f v x c =
    let i = settings_of f v in
    let flt = seg_of false i.rf c.flt in
    let fc = cutoff_of i.frq i.depth flt.level in
    let s = filter_before c i fc (drive_of i.ovr x) in
    let amp = seg_of true i.ra c.amp in
    let amp_r = seg_of true i.ra_r c.amp_r in
    record {
      chain = record { amp = amp; flt = flt; low = s.low; band = s.band; lp1 = s.lp1; amp_r = amp_r };
      y = record { l = s.y ⊗ gain_of amp.level; r = s.y ⊗ gain_of amp_r.level };
    }

-- a chain's fields of then
abbrev pub earlier_chain : Chain → ChainBefore
earlier_chain c = record { amp = c.amp; flt = c.flt; low = c.low; band = c.band; lp1 = c.lp1; amp_r = c.amp_r }

abbrev pub before : Kind ChainBefore
before = record { new = chain_new_before; process = process_before; earlier = earlier_chain }
