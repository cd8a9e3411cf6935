-- The definitions of the step give these arguments to the curves: each equation is a definition's own text, so that a call that changes is noticed here. Assumes nothing.
use Prim.Native.Nat.{ℕ, ◌-◌, max}
use mathlib.Core.Path.{◌≡◌, refl}
use mathlib.Core.Bool.{Bool, false, cond}
use mathlib.Core.List.{List}
use lib.Dec.{ltb, leb}
use lib.IntN.{pos}
use lib.Ieee.{Float, binary32, of_int, le}
use Rattle.float.specs.Consts.{k0, k1, k2, k6, k10, k440, k22000, k32767, k0p3, k0p7, k0p97, k1p2, k_m127p5}
use Rattle.float.specs.Ops.{◌⊕◌, ◌⊖◌, ◌⊗◌, ◌⊘◌}
use Rattle.float.specs.Floats.{clamp_of}
use Rattle.frame.specs.Offsets.{HAT_BANK, HAT_VCA, CYM_BANK, CYM_VCA}
use Rattle.frame.specs.Frame.{word_f}
use Rattle.power.specs.Power.{exp2_of, exp_of, pow10_of}
use Rattle.log10.specs.Log10.{log10_of}
use Rattle.sine.specs.Sine.{sin_of, cos_of, tan_of}
use Rattle.wobble.specs.declared.Wobble.{Wobble}
use Rattle.wobble.specs.declared.Drift.{Drift}
use Rattle.wobble.specs.Wobble.{DETUNE_CENTS, DRIFT_EVERY, detune_of, drift_of}
use Rattle.vco.specs.declared.Wave.TheVariants.{Sine, AsymSine, SineSaw}
use Rattle.vco.specs.Vco.{wave_at}
use Rattle.metal.specs.Metal.{bank_of, svf_of}
use Rattle.dual.specs.declared.Settings.{Settings}
use Rattle.dual.specs.Dual as Dual
use Rattle.hat.specs.declared.Hat.{Hat}
use Rattle.hat.specs.Hat as Hat
use Rattle.cym.specs.declared.Cym.{Cym}
use Rattle.cym.specs.declared.Metal.{Metal}
use Rattle.cym.specs.Cym as Cym
use Rattle.tom.specs.declared.Tom.{Tom}
use Rattle.tom.specs.Tom as Tom
use Rattle.chain.specs.declared.Coefs.{Coefs}
use Rattle.chain.specs.Chain as Chain
use Rattle.comp.specs.Consts.{k20}
use Rattle.comp.specs.Comp as Comp
use Rattle.ranges.specs.Arguments.{detune, drift, turn, asym_turn, gain, hat_filter, cym_colour, cym_filter, ring_kept, ring, frq_word, depth_word, cutoff, tangent, pole, kept, envelope, decibels}

pub record Called : Type 0 where
  -- the oscillators
  pub detuned : (w : Wobble) → (detune_of w DETUNE_CENTS).x ≡ exp2_of (detune w)
  pub drifted : (d : Drift) (w : Wobble) → ltb d.n (DRIFT_EVERY - 1) ≡ false → (drift_of d w).x.ratio ≡ exp2_of (drift d w)
  pub sine : (p : Float) → wave_at Sine p ≡ sin_of (turn p)
  pub sinesaw : (p : Float) → wave_at SineSaw p ≡ k0p7 ⊗ sin_of (turn p) ⊕ k0p3 ⊗ (k2 ⊗ p ⊖ k1)
  pub asym : (p : Float) → wave_at AsymSine p ≡ sin_of (asym_turn p)
  pub plain : (i : Settings) (p q hz1 hz2 : Float) → (Dual.plain_of i (record { ph1 = p; ph2 = q }) hz1 hz2).y
      ≡ cond i.wave1 (sin_of (turn p)) (k0p7 ⊗ sin_of (turn p) ⊕ k0p3 ⊗ (k2 ⊗ p ⊖ k1)) ⊗ Dual.word_level i.level1 ⊕ sin_of (turn q) ⊗ Dual.word_level i.level2
  pub dual_gain : (x : Float) → Dual.gain_of x ≡ cond (le x k_m127p5) k0 (exp2_of (gain x))
  -- hat and cymbal
  pub hat_colour_lem : (f : List ℕ) → Hat.colour_of f ≡ k2 ⊗ sin_of (hat_filter f)
  pub hat_gain : (f : List ℕ) (h : Hat) (w : Wobble) → (Hat.sound_of f h w).y
      ≡ (svf_of h.hp ((bank_of f HAT_BANK h.ph h.det false).metal ⊘ k6) (Hat.colour_of f) k1p2).high ⊗ (word_f f HAT_VCA ⊘ k32767) ⊗ exp2_of (gain h.env.level)
  pub cym_colour_lem : (f : List ℕ) (c : Cym) (w : Wobble) → (Cym.sound_of f c w).y
      ≡ (let b = bank_of f CYM_BANK c.ph c.det mathlib.Core.Bool.true in
      let m : Metal = record { x = b.metal ⊘ of_int binary32 (pos (max b.running 1)); cowbell = leb b.running 2; ratio = exp2_of (cym_colour f) } in
      (Cym.paths_of c.svf m c.env).out ⊗ (word_f f CYM_VCA ⊘ k32767))
  pub cym_filter_lem : (hz : Float) (fixed : Bool) (ratio : Float) → Cym.coefficient_of hz fixed ratio ≡ k2 ⊗ sin_of (cym_filter hz fixed ratio)
  -- the toms
  pub decayed : (d : Float) → Tom.decay_of d ≡ exp_of (ring_kept d)
  pub rung : (t : Tom) (hz r x : Float) → Tom.ring_of t hz r x ≡ k2 ⊗ r ⊗ cos_of (ring hz) ⊗ t.y1 ⊖ r ⊗ r ⊗ t.y2 ⊕ x ⊗ (k1 ⊖ r)
  -- the chains
  pub frq : (f : List ℕ) (v : ℕ) → (Chain.settings_of f v).frq ≡ frq_word f v
  pub depth : (f : List ℕ) (v : ℕ) → (Chain.settings_of f v).depth ≡ depth_word f v
  pub cut : (frq depth level : Float) → Chain.cutoff_of frq depth level ≡ clamp_of (k440 ⊗ exp2_of (cutoff frq depth level)) k10 k22000
  pub filtered : (fc res : Float) → Chain.coefs_of fc res
      ≡ (let g = tan_of (tangent fc) in
      let k = k2 ⊗ (k1 ⊖ k0p97 ⊗ res) in
      let a1 = k1 ⊘ (k1 ⊕ g ⊗ (g ⊕ k)) in
      let c : Coefs = record { fc = fc; res = res; g = g; k = k; a1 = a1; a2 = g ⊗ a1; a3 = g ⊗ g ⊗ a1; a = k1 ⊖ exp_of (pole fc) } in
      c)
  pub chain_gain : (x : Float) → Chain.gain_of x ≡ cond (le x k0) k0 (exp2_of (gain x))
  -- the compressor
  pub side_pole : (hz : Float) → Comp.pole_of hz ≡ k1 ⊖ exp_of (pole hz)
  pub smoothed : (t : Float) → Comp.coef_of t ≡ exp_of (kept t)
  pub level : (env : Float) → Comp.level_of env ≡ k20 ⊗ log10_of (envelope env)
  pub db : (x : Float) → Comp.db_of x ≡ pow10_of (decibels x)

pub called : Called
unfolding detune_of drift_of wave_at Dual.plain_of Dual.gain_of Hat.colour_of Hat.sound_of Cym.sound_of Cym.coefficient_of Tom.decay_of Tom.ring_of Chain.settings_of Chain.cutoff_of Chain.coefs_of Chain.gain_of Comp.pole_of Comp.coef_of Comp.level_of Comp.db_of
called = record {
  detuned = λ w. refl;
  drifted = λ d w e. rw e;
  sine = λ p. refl;
  sinesaw = λ p. refl;
  asym = λ p. refl;
  plain = λ i p q hz1 hz2. refl;
  dual_gain = λ x. refl;
  hat_colour_lem = λ f. refl;
  hat_gain = λ f h w. refl;
  cym_colour_lem = λ f c w. refl;
  cym_filter_lem = λ hz fixed ratio. refl;
  decayed = λ d. refl;
  rung = λ t hz r x. refl;
  frq = λ f v. refl;
  depth = λ f v. refl;
  cut = λ frq depth level. refl;
  filtered = λ fc res. refl;
  chain_gain = λ x. refl;
  side_pole = λ hz. refl;
  smoothed = λ t. refl;
  level = λ env. refl;
  db = λ x. refl;
}
