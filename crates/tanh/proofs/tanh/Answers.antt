-- `tanh::tanh` keeps its distance, by proofs/Tests.antt. Assumes nothing.
use mathlib.Core.Path.{◌∙◌, sym}
use Rattle.tanh.proofs.Tests.{near_nan, near_below, near_above}
use Rattle.tanh.proofs.tanh.Goals as goal

pub returns-then-is_nan-clause-near : goal.returns-then-is_nan-clause-near
returns-then-is_nan-clause-near c = near_nan c.args.x (sym c.is_nan.ensures.value ∙ c.if-is_nan.true)

pub returns-then-x-clause-near : goal.returns-then-x-clause-near
returns-then-x-clause-near c = near_below c.args.x c.above.result c.above.ensures (sym c.is_nan.ensures.value ∙ c.if-is_nan.false) c.if-x.true

pub returns-clause-near : goal.returns-clause-near
returns-clause-near c = near_above c.args.x c.above-2.result c.above-2.ensures (sym c.is_nan.ensures.value ∙ c.if-is_nan.false) c.if-x.false
