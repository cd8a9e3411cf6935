-- `cym::quiet` meets its contract: what the library's `all` says of the eight. Assumes nothing.
use mathlib.Core.Path.{◌≡◌, sym, ◌∙◌}
use lib.ListN.{length}
use lib.Ieee.{le}
use native.Mathlib.Omega.{arith}
use borrow.Author.Rules.{rules}
use Rattle.std.proofs.Common.{tests}
use Rattle.std.proofs.lemmas.Iterator.{YieldsList-from_slice}
use Rattle.std.proofs.lemmas.Iterator.Search.{all_from_yields_List}
use Rattle.float.specs.Consts.{k_m127p5}
use Rattle.envelope.specs.declared.Env.{Env}
use Rattle.cym.specs.Cym.{no_env, quiet_of}
use Rattle.cym.proofs.Every.{each_is_all}
use Rattle.cym.proofs.quiet.Goals as goal

pub returns : goal.returns
unfolding quiet_of
returns c =
    let eight : length c.args.env ≡ 8 = omega arith in
    let every = each_is_all (λ (e : Env). le e.level k_m127p5) no_env c.args.env in
    all_from_yields_List (λ (e : Env). le e.level k_m127p5) _ _ _ c.all.ensures.ran (YieldsList-from_slice c.args.env cc) (λ x b q k. search (rules, tests)) ∙ sym (rw eight at every)
