-- A voice's chain as it was before R-5: one amp record, whose level went to both sides. `x_before` is `x_of` of specs/Chain.antt as it stood, or `x`; what R-5 left alone is
-- shared, and is today's. Definitions only.
use Rattle.std.specs.Prelude.{ℕ, ◌+◌, ◌*◌, true, false, List, Float}
use Rattle.float.specs.Consts.{k0, k440}
use Rattle.float.specs.Ops.{◌⊗◌}
use Rattle.frame.specs.Offsets.{OVR, FRQ, RES, AMP_ENV, FLT_ENV}
use Rattle.frame.specs.Frame.{word_f, signed_f, bytes_at, flt_code, flt_type_of}
use Rattle.frame.specs.declared.FltType.{FltType}
use Rattle.envelope.specs.declared.SegEnv.{SegEnv}
use Rattle.envelope.specs.Moves.{seg_of}
use Rattle.chain.specs.declared.Chain.{Chain}
use Rattle.chain.specs.declared.Coefs.{Coefs}
use Rattle.chain.specs.Chain.{drive_of, cutoff_of, res_of, coefs_of, stored_of, filter_of, gain_of}
use Rattle.chain.specs.Before.{OutOn, Kind}

-- its fields, and what the frame said to it
pub record ChainBefore : Type 0 where
  pub amp : SegEnv
  pub flt : SegEnv
  pub low : Float
  pub band : Float
  pub lp1 : Float
  pub coefs : Coefs

pub record SettingsBefore : Type 0 where
  pub ovr : Float
  pub frq : Float
  pub depth : Float
  pub res : Float
  pub kind : FltType
  pub ra : List ℕ
  pub rf : List ℕ

unfoldable pub chain_new_before : ChainBefore
chain_new_before =
    let e : SegEnv = record { key = record { start = 0; target = 0; rate = 0 }; level = k0; hold = false; cmd = false } in
    record { amp = e; flt = e; low = k0; band = k0; lp1 = k0; coefs = coefs_of k440 k0 }

unfoldable pub settings_before : List ℕ → ℕ → SettingsBefore
settings_before f v = record {
  ovr = word_f f (OVR + 2 * v);
  frq = signed_f f (FRQ + 2 * v);
  depth = signed_f f (FLT_ENV + 8 * v);
  res = word_f f (RES + 2 * v);
  kind = flt_type_of (flt_code f v);
  ra = bytes_at f (AMP_ENV + 8 * v);
  rf = bytes_at f (FLT_ENV + 8 * v);
}

-- its one sample went to both sides
unfoldable pub process_before : List ℕ → ℕ → Float → ChainBefore → OutOn ChainBefore
process_before f v x c =
    let i = settings_before f v in
    let flt = seg_of false i.rf c.flt in
    let amp = seg_of true i.ra c.amp in
    let fc = cutoff_of i.frq i.depth flt.level in
    let q = stored_of c.coefs fc (res_of i.res) in
    let s = filter_of c.low c.band c.lp1 i.kind q (drive_of i.ovr x) in
    let y = s.y ⊗ gain_of amp.level in
    record { chain = record { amp = amp; flt = flt; low = s.low; band = s.band; lp1 = s.lp1; coefs = q }; y = record { l = y; r = y } }

-- a chain's fields of then
abbrev pub earlier_chain : Chain → ChainBefore
earlier_chain c = record { amp = c.amp; flt = c.flt; low = c.low; band = c.band; lp1 = c.lp1; coefs = c.coefs }

abbrev pub before : Kind ChainBefore
before = record { new = chain_new_before; process = process_before; earlier = earlier_chain }
