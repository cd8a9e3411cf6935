-- `power::scaled` meets its contract: Horner's steps, then one product. Assumes nothing.
use mathlib.Core.Path.{◌≡◌}
use Prim.Native.Nat.{◌+◌, ◌*◌, ◌/◌, ◌%◌}
use native.Mathlib.Nat.{mul-le-mul}
use native.Mathlib.Omega.{arith}
use lib.ListN.{get_or}
use Rattle.power.specs.Power.{roots, scaled_of}
use Rattle.power.proofs.Method.{root_hi, scaled_lo, scaled_hi}
use Rattle.power.proofs.Ranges.{steps}
use Rattle.power.proofs.scaled.Goals as goal

pub overflow_mul-result : goal.overflow_mul-result
overflow_mul-result c = omega (arith, mul-le-mul {n₁ = 4294967296 + c.times-y.result} {n₂ = 4389014792} {m₂ = 2101467501} (omega arith) (root_hi (c.args.h / 134217728) (omega arith)))

pub returns : goal.returns
returns c =
    let is : (4294967296 + c.times-y.result) * get_or roots (c.args.h / 134217728) 0 ≡ scaled_of c.args.h = rw (steps (c.args.h % 134217728 * 32) c.times-y2.result c.times-y1.result c.times-y.result c.times-y2.ensures.0 c.times-y1.ensures.0 c.times-y.ensures.0) in
    let h = c.args.h in
    let l = c.requires in
    (is, rw is (scaled_lo h l), rw is (scaled_hi h l))
