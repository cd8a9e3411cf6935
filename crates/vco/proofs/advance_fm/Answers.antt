-- `vco::advance_fm` meets its contract: the calls' results put in, and what `advanced_fm_below` says of them. Assumes nothing.
use mathlib.Core.Path.{◌≡◌, sym, ap, ◌∙◌, subst}
use mathlib.Core.Bool.{cond}
use lib.Dec.{T}
use lib.Ieee.{Float, binary32, eq, fits}
use Rattle.float.specs.Consts.{k0, k1}
use Rattle.vco.specs.Vco.{advanced_fm, BelowOne, KeepsBelowOne}
use Rattle.vco.proofs.Kept.{turn_below, advanced_fm_below}
use Rattle.vco.proofs.advance_fm.Goals as goal

both : (ph hz fs r : Float) → T (fits binary32 ph) → r ≡ advanced_fm ph hz fs → (r ≡ advanced_fm ph hz fs) × KeepsBelowOne ph hz fs r
both ph hz fs r f e = (e, λ h t. subst BelowOne (sym e) (turn_below (advanced_fm ph hz fs) (advanced_fm_below ph hz fs f h t)))

pub returns : goal.returns
unfolding advanced_fm
returns c =
    let a = c in
    let b = both a.args.ph a.args.hz a.args.fs _ (subst T (sym a.well_formed.0.1) tt) (c.choose.ensures ∙ ap (λ (r : Float). cond (eq r k1) k0 r) c.rem_euclid_one-r.ensures) in
    record { is = b.0; below = b.1 }
