-- One sample of a tom keeps the random source. Its two states are not spoken of. Assumes nothing.
use Prim.Native.Nat.{ℕ}
use mathlib.Core.Bool.{◌||◌}
use mathlib.Core.List.{List}
use lib.IntN.{ℤ}
use lib.Dec.{ltb}
use lib.Ieee.{le, lt}
use Rattle.float.specs.Consts.{k10, k65535}
use Rattle.frame.specs.Frame.{word_f}
use Rattle.frame.specs.Offsets.{tom_spec}
use Rattle.wobble.specs.declared.Wobble.{Wobble}
use Rattle.wobble.proofs.Kept.{WobbleIn, either, detune_in}
use Rattle.tom.specs.declared.Tom.{Tom}
use Rattle.tom.specs.declared.TomOut.{TomOut}
use Rattle.wobble.specs.declared.Drawn.{Drawn}
use Rattle.tom.specs.Tom.{TOM_REST, is_zero, excite_of, hz_of, sample_of}

excite_in : (d : ℤ) (o : Tom) (w : Wobble) → WobbleIn w → WobbleIn (excite_of d o w).w
unfolding excite_of
excite_in d o w h =
    either (λ (e : Drawn Tom). WobbleIn e.w) (is_zero d) _ _ h (either (λ (e : Drawn Tom). WobbleIn e.w) (ltb o.quiet TOM_REST) _ _ h (detune_in w h).0)

pub tom_in : (f : List ℕ) (t : ℕ) (d : ℤ) (o : Tom) (w : Wobble) → WobbleIn w → WobbleIn (sample_of f t d o w).w
unfolding sample_of
tom_in f t d o w h =
    let e = excite_of d o w in
    let k = excite_in d o w h in
    either (λ (x : TomOut). WobbleIn x.w) (le k65535 (word_f f (tom_spec t).tune) || lt (hz_of (word_f f (tom_spec t).tune) e.x.det) k10) _ _ k k
