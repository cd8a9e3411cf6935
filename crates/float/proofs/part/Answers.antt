-- `float::part` meets its contract: each answer by the law of its range. Assumes nothing.
use Rattle.std.proofs.Common.{T, sym, ap, ◌∙◌, subst, w32}
use lib.Ieee.{binary32, sub, of_int}
use mir.ValLaws.{to_z-of_z}
use Rattle.float.proofs.Remainder.{rem_below_one, rem_below_two, rem_by_cut, rem_whole}
use Rattle.float.proofs.part.Goals as goal

pub returns-then-x : goal.returns-then-x
unfolding lib.Ieee.of_bits
returns-then-x c = rem_below_one c.args.x (subst T (sym c.well_formed.0.1) tt) c.requires c.if-x.true

pub returns-then-x-2 : goal.returns-then-x-2
unfolding lib.Ieee.of_bits
returns-then-x-2 c = rem_below_two c.args.x c.if-x.false c.if-x-2.true

pub returns-then-x-3 : goal.returns-then-x-3
unfolding lib.Ieee.of_bits
returns-then-x-3 c =
    let x = c.args.x in
    let cut = c.to_i32 in
    ap (sub binary32 x) (c.from_i32.ensures ∙ ap (of_int binary32) (to_z-of_z w32 cut.result (record { sfits = cut.type_inv }) ∙ cut.ensures))
    ∙ rem_by_cut x c.if-x.false c.if-x-3.true

pub returns : goal.returns
unfolding lib.Ieee.of_bits
returns c = let x = c.args.x in rem_whole x (subst T (sym c.well_formed.0.1) tt) c.if-x-3.false
