-- One sample of a chain, on any frame of bytes and any input, keeps its three levels levels. Its filter is not spoken of: the one-pole may be no number. Assumes nothing.
use Prim.Native.Nat.{ℕ, ◌+◌, ◌*◌}
use mathlib.Core.Bool.{true, false}
use mathlib.Core.List.{List}
use lib.Ieee.{Float}
use Rattle.frame.specs.Offsets.{AMP_ENV, AMP_ENV_R, FLT_ENV}
use Rattle.frame.specs.Frame.{Bytes, bytes_at}
use Rattle.frame.proofs.Sizes.{bytes_in}
use Rattle.envelope.specs.Levels.{Level}
use Rattle.envelope.proofs.Settle.{seg_level}
use Rattle.chain.specs.declared.Chain.{Chain}
use Rattle.chain.specs.Chain.{settings_of, process_of}

pub record ChainIn (c : Chain) : Type 0 where
  pub amp : Level c.amp.level
  pub amp_r : Level c.amp_r.level
  pub flt : Level c.flt.level

pub chain_in : (f : List ℕ) → Bytes f → (v : ℕ) (x : Float) (c : Chain) → ChainIn c → ChainIn (process_of f v x c).chain
unfolding process_of settings_of
chain_in f B v x c h = record {
  amp = seg_level true (bytes_at f (AMP_ENV + 8 * v)) c.amp (bytes_in f B (AMP_ENV + 8 * v)) h.amp;
  amp_r = seg_level true (bytes_at f (AMP_ENV_R + 8 * v)) c.amp_r (bytes_in f B (AMP_ENV_R + 8 * v)) h.amp_r;
  flt = seg_level false (bytes_at f (FLT_ENV + 8 * v)) c.flt (bytes_in f B (FLT_ENV + 8 * v)) h.flt;
}
