-- `power::power` meets its contract: cutting and rounding at once gives the same digits, and times the table's power they are the float. Assumes nothing.
use mathlib.Core.Path.{◌≡◌, ap, ◌∙◌}
use Prim.Native.Nat.{ℕ, ◌+◌, ◌-◌, ◌*◌, ◌/◌}
use native.Mathlib.Omega.{arith}
use lib.Ieee.{binary32, of_bits}
use Rattle.power.specs.Power.{fraction_of, power_of}
use Rattle.power.proofs.Scaling.{product_is_pattern}
use Rattle.power.proofs.power.Goals as goal

once : (s : ℕ) → (s + 274877906944) / 549755813888 ≡ (s / 1073741824 + 256) / 512
once s = omega arith

pub returns : goal.returns
unfolding power_of fraction_of
returns c =
    let s = c.scaled.result in
    let e = c.scaled.ensures in
    let i = c.args.w / 4294967296 - 2 in
    product_is_pattern i ((s + 274877906944) / 549755813888) c.at.result (omega (arith, c.requires.1)) (omega (arith, e.1)) (omega (arith, e.2)) c.at.ensures
    ∙ ap (λ (m : ℕ). of_bits binary32 (i * 8388608 + m)) (once s ∙ ap (λ (z : ℕ). (z / 1073741824 + 256) / 512) e.0)
