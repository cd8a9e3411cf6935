-- `chain::run_right` meets its contract: what passes both tests is one record, and amps that come to the same by it, and so the left side's amp and gain are the right side's. Assumes nothing.
use mathlib.Core.Path.{◌≡◌, subst}
use mathlib.Core.Bool.{true, ◌&&◌}
use lib.Dec.{T}
use lib.ListN.{length}
use lib.Ieee.{binary32, fits}
use lib.Ieee.Fits.{and_l, and_r}
use Rattle.std.proofs.lemmas.Float.{T_from_true}
use Rattle.envelope.specs.Moves.{seg_of}
use Rattle.envelope.proofs.Alike.{one_record, one_amp}
use Rattle.chain.proofs.run_right.Goals as goal

pub returns-then-same-same_amp : goal.returns-then-same-same_amp
returns-then-same-same_amp c =
    let a = c.args in
    let w = c.well_formed in
    let level : T (fits binary32 a.amp.level) = T_from_true _ w.0.1.1.1.0.1 in
    let level_r : T (fits binary32 a.amp_r.level) = T_from_true _ w.1.1.0.1.1.1.0.1 in
    let eight : length a.ra ≡ 8 = w.1.0.1.0.1 in
    let eight_r : length a.ra_r ≡ 8 = w.1.1.1.0.1.0.1 in
    let both : T (c.same.result && c.same_amp.result) = T_from_true _ c.if-same-same_amp.true in
    let records : a.ra_r ≡ a.ra = one_record a.ra_r a.ra eight_r eight (subst T c.same.ensures (and_l _ _ both)) in
    let amps : seg_of true a.ra a.amp_r ≡ seg_of true a.ra a.amp = one_amp a.ra a.amp_r a.amp level_r level (subst T c.same_amp.ensures (and_r _ _ both)) in
    rw (records, amps) c.requires
