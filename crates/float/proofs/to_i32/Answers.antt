use lib.Ieee.{of_bits, neg, to_signed}
use lib.Ieee.Casts.{to_signed_in}
use mir.ValLaws.{to_z-of_z}
use Rattle.std.proofs.Common.{◌≡◌, ◌∙◌, w32, w64, to_z, of_z}
use Rattle.float.proofs.Cast.{inside, under, over, none}
use Rattle.float.proofs.to_i32.Goals as goal

-- what the call gives is the number itself
number : (c : goal.After-truncating_f32_to_i64) → to_z w64 (of_z w64 c.truncating_f32_to_i64.result) ≡ to_signed 31 c.args.y
unfolding of_bits neg
number c =
    let i = inside c.args.y c.if-y.true c.if-y-2.true in
    to_z-of_z w64 c.truncating_f32_to_i64.result (record { sfits = c.truncating_f32_to_i64.type_inv }) ∙ c.truncating_f32_to_i64.ensures ∙ i.same

pub truncating_f32_to_i64-requires : goal.truncating_f32_to_i64-requires
unfolding of_bits neg
truncating_f32_to_i64-requires c = let i = inside c.args.y c.if-y.true c.if-y-2.true in record { lower_bound = i.low; upper_bound = i.high }

pub overflow_cast-result : goal.overflow_cast-result
overflow_cast-result c = rw (number c) (record { sfits = to_signed_in 31 c.args.y })

pub returns-then-y-2 : goal.returns-then-y-2
returns-then-y-2 c = let y = c.args.y in rw (number c, to_z-of_z w32 (to_signed 31 y) (record { sfits = to_signed_in 31 y }))

pub returns-then-y : goal.returns-then-y
unfolding of_bits neg
returns-then-y c = under c.args.y c.if-y.true c.if-y-2.false

pub returns-then-y-3 : goal.returns-then-y-3
returns-then-y-3 c = none c.args.y c.if-y-3.true

pub returns : goal.returns
unfolding of_bits neg
returns c = over c.args.y c.if-y.false c.if-y-3.false
