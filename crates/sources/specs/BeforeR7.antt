-- The sources of a step as they were before R-7. `x_before` is `x_of` of specs/Sources.antt as it stood, or `x`; what R-7 left alone is shared, and is today's. Definitions only.
use Rattle.std.specs.Prelude.{ℕ, List, get_or, set, ℤ}
use Rattle.frame.specs.Offsets.{dual_spec}
use Rattle.lists.specs.Turns.{turns_of}
use Rattle.dual.specs.BeforeR7.{sample_before}
use Rattle.sources.specs.Sources.{Sources, no_dual, toms_of, metal_of}

unfoldable pub dual_turn_before : List ℕ → ℕ → Sources → Sources
dual_turn_before f d s =
    let o = sample_before f d (get_or s.duals d no_dual) s.w in
    record { duals = set s.duals d o.dual; hat = s.hat; toms = s.toms; cym = s.cym; w = o.w; src = set s.src (dual_spec d).voice o.y }

unfoldable pub duals_before : List ℕ → Sources → Sources
duals_before f s = turns_of 3 (dual_turn_before f) s

unfoldable pub sound_before : List ℕ → List ℤ → Sources → Sources
sound_before f dac s = metal_of f (toms_of f dac (duals_before f s))
