-- One sample of each source, or the source unmoved where the frame is short. Definitions only.
use Rattle.std.specs.Prelude.{ℕ, cond, List, length, ltb, ℤ}
use Rattle.float.specs.Consts.{k0}
use Rattle.frame.specs.Offsets.{FRAME_BYTES}
use Rattle.wobble.specs.declared.Wobble.{Wobble}
use Rattle.dual.specs.declared.DualOsc.{DualOsc}
use Rattle.dual.specs.declared.DualOut.{DualOut}
use Rattle.dual.specs.Dual as Dual
use Rattle.hat.specs.declared.Hat.{Hat}
use Rattle.hat.specs.declared.HatOut.{HatOut}
use Rattle.hat.specs.Hat as HatSpec
use Rattle.cym.specs.declared.Cym.{Cym}
use Rattle.cym.specs.declared.CymOut.{CymOut}
use Rattle.cym.specs.Cym as CymSpec
use Rattle.tom.specs.declared.Tom.{Tom}
use Rattle.tom.specs.declared.TomOut.{TomOut}
use Rattle.tom.specs.Tom as TomSpec

-- a dual voice: its sample, and under 664 bytes the state as before and 0
unfoldable pub dual_answer : List ℕ → ℕ → DualOsc → Wobble → DualOut
dual_answer f d e w = cond (ltb (length f) FRAME_BYTES) (record { dual = e; w = w; y = k0 }) (Dual.sample_of f d e w)

-- the hat alike
unfoldable pub hat_answer : List ℕ → Hat → Wobble → HatOut
hat_answer f h w = cond (ltb (length f) FRAME_BYTES) (record { hat = h; w = w; y = k0 }) (HatSpec.sample_of f h w)

-- the cymbal alike
unfoldable pub cym_answer : List ℕ → Cym → Wobble → CymOut
cym_answer f c w = cond (ltb (length f) FRAME_BYTES) (record { cym = c; w = w; y = k0 }) (CymSpec.sample_of f c w)

-- a tom alike
unfoldable pub tom_answer : List ℕ → ℕ → ℤ → Tom → Wobble → TomOut
tom_answer f t d o w = cond (ltb (length f) FRAME_BYTES) (record { tom = o; w = w; y = k0 }) (TomSpec.sample_of f t d o w)
