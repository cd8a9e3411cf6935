-- What one call does to a board: an accepted one gives each voice and chain its own sample, a refused one leaves all; so each envelope sees its record once,
-- and the ranges are kept. Assumes nothing.
use Prim.Native.Nat.{ℕ, ◌<◌}
use mathlib.Core.Path.{◌≡◌, refl, sym, ap, ◌∙◌, subst}
use mathlib.Core.Bool.{Bool, true, false, cond}
use mathlib.Core.List.{List}
use lib.ListN.{get_or, length}
use lib.IntN.{ℤ}
use Rattle.frame.specs.Frame.{Bytes}
use Rattle.envelope.specs.declared.Env.{Env}
use Rattle.envelope.specs.Record.{mode_of}
use Rattle.envelope.specs.Moves.{settle, dual_of, hit_of}
use Rattle.envelope.specs.States.{State, level_within, after_in}
use Rattle.envelope.specs.Levels.{Level}
use Rattle.envelope.proofs.States.{level_after}
use Rattle.dual.specs.declared.DualOsc.{DualOsc}
use Rattle.dual.specs.Dual as Dual
use Rattle.hat.specs.declared.Hat.{Hat}
use Rattle.hat.specs.Hat as Hat
use Rattle.hat.proofs.Kept.{hat_moves}
use Rattle.cym.specs.declared.Cym.{Cym}
use Rattle.cym.specs.Cym as Cym
use Rattle.cym.specs.Cym.{no_env}
use Rattle.cym.proofs.Kept.{cym_moves}
use Rattle.sources.specs.Sources.{no_dual, sound_of}
use Rattle.sources.proofs.Kept.{DualBy, HatBy, CymBy, dual_by, hat_by, cym_by, SourcesIn, sound_in}
use Rattle.chain.specs.declared.Chain.{Chain}
use Rattle.chain.specs.Chain as Chain
use Rattle.chain.specs.Chain.{no_chain}
use Rattle.chain.proofs.Kept.{ChainIn, chain_in}
use Rattle.bus.proofs.Kept.{ChainBy, chains_long, chain_by}
use Rattle.board.specs.declared.Analog.{Analog}
use Rattle.board.specs.declared.Inputs.{Inputs}
use Rattle.board.specs.Board.{taken_of, stepped_of}
use Rattle.promise.specs.Calls.{Call, given_of, taken, next_of}
use Rattle.promise.specs.Levels.{Which, pitch, amp, amp2, hat, cymbal, chain_amp, chain_filter, chain_amp_r, state_at, level_at, record_at}
use Rattle.promise.specs.Promise.{move_of}
use Rattle.promise.proofs.Calls.{stepped_by, Way, took, left, way}

-- ---- the ranges of a board
pub record Good (b : Analog) : Type 0 where
  pub sources : SourcesIn (taken_of b)
  pub long : length b.chains ≡ 8
  pub chains : (v : ℕ) → v < 8 → ChainIn (get_or b.chains v no_chain)

pub good_levels : (b : Analog) → Good b → (w : Which) → Level (level_at b w)
unfolding taken_of
good_levels b g (pitch d h) = (g.sources.duals d h).pitch
good_levels b g (amp d h) = (g.sources.duals d h).amp
good_levels b g (amp2 d h) = (g.sources.duals d h).amp2
good_levels b g hat = g.sources.hat.env
good_levels b g (cymbal r h) = g.sources.cym.env r h
good_levels b g (chain_amp v h) = (g.chains v h).amp
good_levels b g (chain_filter v h) = (g.chains v h).flt
good_levels b g (chain_amp_r v h) = (g.chains v h).amp_r

-- ---- an accepted step: each voice and chain by its own sample
record Stepped (b : Analog) (f : List ℕ) (n : Analog) : Type 0 where
  duals : (d : ℕ) → d < 3 → DualBy f d (get_or b.duals d no_dual) (get_or n.duals d no_dual)
  hat : HatBy f b.hat n.hat
  cym : CymBy f b.cym n.cym
  chains : (v : ℕ) → v < 8 → ChainBy f v (get_or b.chains v no_chain) (get_or n.chains v no_chain)

module _ (b : Analog) (f : List ℕ) (dac : List ℤ) (fx : List ℕ) (x : Inputs) (g : Good b) where
  stepped : Stepped b f (stepped_of b f dac fx x).board
  unfolding stepped_of taken_of
  stepped = record {
    duals = dual_by f dac (taken_of b) g.sources.long;
    hat = hat_by f dac (taken_of b);
    cym = cym_by f dac (taken_of b);
    chains = chain_by f dac (sound_of f dac (taken_of b)).src b.chains g.long;
  }

  pub stepped_good : Bytes f → Good (stepped_of b f dac fx x).board
  unfolding stepped_of taken_of
  stepped_good B =
      let s = sound_in f B dac (taken_of b) g.sources in
      let by = chain_by f dac (sound_of f dac (taken_of b)).src b.chains g.long in
      record {
        sources = record { long = s.long; duals = s.duals; hat = s.hat; cym = s.cym; w = s.w };
        long = chains_long f dac (sound_of f dac (taken_of b)).src b.chains ∙ g.long;
        chains = λ v h. subst (λ (c : Chain). ChainIn c) (sym (by v h).is) (chain_in f B v (by v h).x (get_or b.chains v no_chain) (g.chains v h));
      }

-- so each envelope sees its record: the one lemma that ties the levels to the step
state_after : (b : Analog) (f : List ℕ) (n : Analog) → Good b → Stepped b f n → (w : Which) → state_at n w ≡ after_in (state_at b w) (record_at f w)
unfolding Dual.sample_of Dual.sample_by Dual.settings_of Dual.record_at Chain.process_of Chain.settings_of Cym.record_at dual_of hit_of taken_of
state_after b f n g s (pitch d h) = ap (λ (e : DualOsc). State.dual e.last_p e.pitch.level) (s.duals d h).is
state_after b f n g s (amp d h) = ap (λ (e : DualOsc). State.dual e.last_a e.amp.level) (s.duals d h).is
state_after b f n g s (amp2 d h) = ap (λ (e : DualOsc). State.dual e.last_m e.amp2.level) (s.duals d h).is
state_after b f n g s hat =
    let m = hat_moves f b.hat s.hat.w in
    ap (λ (e : Hat). State.hit e.mode e.env.level) s.hat.is
    ∙ ap (λ (c : ℕ). State.hit c (Hat.sample_of f b.hat s.hat.w).hat.env.level) m.1
    ∙ ap (λ (e : Env). State.hit (mode_of (record_at f hat)) e.level) m.0
state_after b f n g s (cymbal r h) =
    let m = cym_moves f b.cym s.cym.w g.sources.cym.long r h in
    ap (λ (e : Cym). State.hit (get_or e.mode r 0) (get_or e.env r no_env).level) s.cym.is
    ∙ ap (λ (c : ℕ). State.hit c (get_or (Cym.sample_of f b.cym s.cym.w).cym.env r no_env).level) m.1
    ∙ ap (λ (e : Env). State.hit (mode_of (record_at f (cymbal r h))) e.level) m.0
state_after b f n g s (chain_amp v h) = ap (λ (e : Chain). State.chain_amp e.amp) (s.chains v h).is
state_after b f n g s (chain_filter v h) = ap (λ (e : Chain). State.chain_filter e.flt) (s.chains v h).is
state_after b f n g s (chain_amp_r v h) = ap (λ (e : Chain). State.chain_amp e.amp_r) (s.chains v h).is

-- ---- one call
pub call_good : (b : Analog) (k : Call) → Good b → Good (next_of b k)
call_good b k g = by (way b k)
  where
    by : Way b k → Good (next_of b k)
    by (took t e) = let i = given_of k in subst (λ (n : Analog). Good n) (sym e) (stepped_good b i.frame i.dac i.fx i.inputs g i.bytes)
    by (left t e) = subst (λ (n : Analog). Good n) (sym e) g

-- an accepted call shows each envelope its record, a refused one shows none
pub call_state : (b : Analog) (k : Call) → Good b → (w : Which) → state_at (next_of b k) w ≡ cond (taken k) (after_in (state_at b w) (record_at (given_of k).frame w)) (state_at b w)
call_state b k g w = by (way b k)
  where
    both : Bool → State
    both t = cond t (after_in (state_at b w) (record_at (given_of k).frame w)) (state_at b w)

    by : Way b k → state_at (next_of b k) w ≡ both (taken k)
    by (took t e) =
        let i = given_of k in
        ap (λ (n : Analog). state_at n w) e ∙ state_after b i.frame (stepped_by b i) g (stepped b i.frame i.dac i.fx i.inputs g) w ∙ sym (ap both t)
    by (left t e) = ap (λ (n : Analog). state_at n w) e ∙ sym (ap both t)

-- so it takes each level where its move says
pub call_moves : (b : Analog) (k : Call) → Good b → (w : Which) → level_at (next_of b k) w ≡ cond (taken k) (settle (move_of b k w) (level_at b w)) (level_at b w)
call_moves b k g w = ap level_within (call_state b k g w) ∙ by (taken k)
  where
    by : (t : Bool) → level_within (cond t (after_in (state_at b w) (record_at (given_of k).frame w)) (state_at b w)) ≡ cond t (settle (move_of b k w) (level_at b w)) (level_at b w)
    by true = level_after (state_at b w) (record_at (given_of k).frame w)
    by false = refl
