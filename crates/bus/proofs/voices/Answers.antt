-- `bus::voices` meets its contract: what it gives is its definition's, so each side is the sum of its own samples, and the left one is that of before R-5. Assumes nothing.
use Prim.Native.Nat.{ℕ}
use native.Mathlib.Omega.{arith}
use mathlib.Core.Path.{◌≡◌, sym, ap, subst, ◌∙◌}
use lib.ListN.{replicate}
use lib.IntN.{pos}
use Rattle.float.specs.Consts.{k0}
use Rattle.lists.specs.Turns.{turns_of}
use Rattle.bus.specs.Bus.{Bus, turn_of, voices_of, EachSideAlone}
use Rattle.chain.specs.BeforeR5.{before, earlier_chain}
use Rattle.bus.specs.Before.{voices_on, earlier_chains}
use Rattle.bus.specs.BeforeR5.{LeftAsBefore}
use Rattle.bus.proofs.Alone.{each_side_alone}
use Rattle.bus.proofs.BeforeR5.{voices_left}
use Rattle.bus.proofs.voices.Goals as goal

pub returns-clause-value : goal.returns-clause-value
unfolding voices_of
returns-clause-value c =
    let a = c.args in
    let all : c.loop-v.v ≡ 8 = omega (arith, c.loop-v-test.false, c.loop-v.auto.v-end) in
    c.loop-v.invariant ∙ ap (λ (n : ℕ). turns_of n (turn_of a.f.now a.dac.now a.src) (record { chains = a.chains.now; rx = replicate 12 (pos 0); mix = record { l = k0; r = k0 } })) all

pub returns-clause-alone : goal.returns-clause-alone
returns-clause-alone c =
    let a = c.args in
    subst (λ (b : Bus). EachSideAlone a.f.now a.dac.now a.src a.chains.now b.mix) (sym (returns-clause-value c)) (each_side_alone a.f.now a.dac.now a.src a.chains.now)

pub returns-clause-left : goal.returns-clause-left
returns-clause-left c =
    let a = c.args in
    subst (λ (b : Bus). LeftAsBefore b (voices_on before a.f.now a.dac.now a.src (earlier_chains earlier_chain a.chains.now))) (sym (returns-clause-value c))
    (voices_left a.f.now a.dac.now a.src a.chains.now)
