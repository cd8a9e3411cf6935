-- A path's record as the call gave it is one of the eight. Assumes nothing.
use mathlib.Core.Path.{◌≡◌, sym, subst}
use Prim.Native.Nat.{ℕ, ◌<◌}
use Rattle.frame.specs.declared.CymPath.{CymPath}
use Rattle.frame.specs.Offsets.{cym_path}
use Rattle.frame.proofs.Tables.{cym_inside}

pub inside : {c : CymPath} (p : ℕ) → c ≡ cym_path p → c.rec < 8
inside {c} p e = subst (λ (x : CymPath). x.rec < 8) (sym e) (cym_inside p)
