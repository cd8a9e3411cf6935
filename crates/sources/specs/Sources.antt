-- The sources of a step, from `Analog::frame`. Definitions only.
use Rattle.std.specs.Prelude.{ℕ, false, List, [], get_or, set, ℤ, pos, Float}
use Rattle.std.specs.Float.{nan}
use Rattle.frame.specs.Offsets.{HAT_VOICE, CYM_VOICE, dual_spec, tom_spec}
use Rattle.lists.specs.Turns.{turns_of}
use Rattle.dual.specs.Dual as Dual
use Rattle.tom.specs.Tom as Tom
use Rattle.cym.specs.Cym as Cym
use Rattle.hat.specs.Hat as Hat
use Rattle.dual.specs.declared.DualOsc.{DualOsc}
use Rattle.tom.specs.declared.Tom.{Tom}
use Rattle.cym.specs.declared.Cym.{Cym}
use Rattle.hat.specs.declared.Hat.{Hat}
use Rattle.wobble.specs.declared.Wobble.{Wobble}

-- the sources and the random source as far as the step has gone, and the samples of the voices that have sounded
pub record Sources : Type 0 where
  pub duals : List DualOsc
  pub hat : Hat
  pub toms : List Tom
  pub cym : Cym
  pub w : Wobble
  pub src : List Float

abbrev pub sources : List DualOsc → Hat → List Tom → Cym → Wobble → List Float → Sources
sources duals hat toms cym w src = record { duals = duals; hat = hat; toms = toms; cym = cym; w = w; src = src }

-- what stands for an element past the end of a list, where no step looks
abbrev pub no_dual : DualOsc
no_dual = record {
  last_p = [];
  last_a = [];
  ph1 = nan;
  ph2 = nan;
  pitch = record { level = nan };
  amp = record { level = nan };
  last_m = [];
  amp2 = record { level = nan };
  trig = false;
  det = [];
  drift = [];
}

abbrev pub no_tom : Tom
no_tom = record { y1 = nan; y2 = nan; det = nan; quiet = 0 }

-- dual voice d: BD, SD, RS sound as voices 0, 2, 7
unfoldable pub dual_turn : List ℕ → ℕ → Sources → Sources
dual_turn f d s =
    let o = Dual.sample_of f d (get_or s.duals d no_dual) s.w in
    record { duals = set s.duals d o.dual; hat = s.hat; toms = s.toms; cym = s.cym; w = o.w; src = set s.src (dual_spec d).voice o.y }

-- BD, SD and RS in turn
unfoldable pub duals_of : List ℕ → Sources → Sources
duals_of f s = turns_of 3 (dual_turn f) s

-- tom t: "toms 1, 3, 5", each with the DAC word of its exciter
unfoldable pub tom_turn : List ℕ → List ℤ → ℕ → Sources → Sources
tom_turn f dac t s =
    let o = Tom.sample_of f t (get_or dac (tom_spec t).dac (pos 0)) (get_or s.toms t no_tom) s.w in
    record { duals = s.duals; hat = s.hat; toms = set s.toms t o.tom; cym = s.cym; w = o.w; src = set s.src (tom_spec t).voice o.y }

-- the three toms in turn
unfoldable pub toms_of : List ℕ → List ℤ → Sources → Sources
toms_of f dac s = turns_of 3 (tom_turn f dac) s

-- the cymbal draws before the hat
unfoldable pub metal_of : List ℕ → Sources → Sources
metal_of f s =
    let o = Cym.sample_of f s.cym s.w in
    let p = Hat.sample_of f s.hat o.w in
    record { duals = s.duals; hat = p.hat; toms = s.toms; cym = o.cym; w = p.w; src = set (set s.src CYM_VOICE o.y) HAT_VOICE p.y }

-- "Dual voices BD, SD, RS; toms 1, 3, 5; cymbal; hat"
unfoldable pub sound_of : List ℕ → List ℤ → Sources → Sources
sound_of f dac s = metal_of f (toms_of f dac (duals_of f s))
