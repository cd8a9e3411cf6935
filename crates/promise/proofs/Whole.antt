-- The promise, of every list of calls from a board within the ranges, and so from a fresh one. Each bound is taken from its law by a computed test or by
-- arithmetic, so that any bound that follows is proved and no other. Assumes nothing.
use Prim.Native.Nat.{ℕ, ◌^◌, ◌≤◌, ◌<◌}
use native.Mathlib.Omega.{arith}
use mathlib.Core.Path.{◌≡◌, sym, subst}
use mathlib.Core.Bool.{Bool}
use mathlib.Core.List.{List}
use lib.ListN.{get_or}
use lib.Dec.{T}
use lib.IntN.{pos, nat_abs}
use lib.Ieee.{Float, binary32, of_bits, neg, fits, le, lt, eq}
use Rattle.line.proofs.Range.{In, wide_t, in_wide}
use Rattle.float.specs.Consts.{k0, k1, k127, k_m128}
use Rattle.envelope.specs.Levels.{Equal}
use Rattle.envelope.proofs.Ranges.{level_range}
use Rattle.vco.proofs.Kept.{turn_below}
use Rattle.board.specs.declared.Analog.{Analog}
use Rattle.board.specs.Board.{taken_of, fresh_of}
use Rattle.promise.specs.Calls.{Call, words_of, reached_of, Reached}
use Rattle.promise.specs.Levels.{level_at, Osc, dual1, dual2, hat_osc, cym_osc, phase_at}
use Rattle.promise.specs.Promise.{EachAccepted, Continues, target_of, Within, PhaseIn, Promise, Beyond, Promised}
use Rattle.promise.proofs.Kept.{Good, good_levels, call_moves}
use Rattle.promise.proofs.Start.{fresh_good}
use Rattle.promise.proofs.Run.{reached_good, call_between, run_arrives, run_stays, run_stays_equal, settles, not_stopped}
use Rattle.promise.proofs.Occurs.{stretched}
use Rattle.promise.proofs.Words.{words_in}

-- a range that holds another
within : (lo hi a b x : Float) → In binary32 a b x → T (wide_t binary32 lo hi a b) → Within lo hi x
within lo hi a b x i t = let k = in_wide binary32 lo hi i t in record { from = k.from; upto = k.upto }

good_phases : (b : Analog) → Good b → (o : Osc) → PhaseIn o (phase_at b o)
unfolding taken_of of_bits fits le lt eq
good_phases b g (dual1 d h) = turn_below _ (g.sources.duals d h).ph1
good_phases b g (dual2 d h) = turn_below _ (g.sources.duals d h).ph2
good_phases b g (hat_osc k h) = within _ _ k0 k1 _ (g.sources.hat.ph.each k h) tt
good_phases b g (cym_osc k h) = within _ _ k0 k1 _ (g.sources.cym.ph.each k h) tt

module _ (b : Analog) (g : Good b) (calls : List Call) where
  abbrev at : List Call → Analog
  at before = reached_of b before

  at_good : (before : List Call) → Good (at before)
  at_good before = reached_good b before g

  words : (s : Analog) (k : Call) (n : ℕ) → nat_abs (get_or (words_of s k) n (pos 0)) ≤ 8388607
  words s k n = words_in s k n

  promise : Promise b calls
  unfolding of_bits neg fits le lt eq
  promise = record {
    levels = λ w. within _ _ k_m128 k127 (level_at (at calls) w) (level_range (level_at (at calls) w) (good_levels (at calls) (at_good calls) w)) tt;
    phases = good_phases (at calls) (at_good calls);
    between = λ p w t. call_between (at p.before) p.call (at_good p.before) w t;
    arrives = λ p w bytes h n. run_arrives w bytes (at p.before) p.run (at_good p.before) h (omega arith);
    stays = λ p w bytes first later e h k.
        let s = at p.before in
        subst (λ (r : List Call). Equal (level_at (reached_of s r) w) (target_of bytes)) e
        (run_stays_equal w bytes s first later (at_good p.before) (subst (λ (r : List Call). EachAccepted (Continues w bytes) s r) (sym e) h) k);
    words = λ p n. let h = words (at p.before) p.call n in omega arith;
  }

  beyond : Beyond b calls
  beyond = record {
    moves = λ p w. call_moves (at p.before) p.call (at_good p.before) w;
    stays_exactly = λ p w bytes first later e h k.
        let s = at p.before in
        subst (λ (r : List Call). level_at (reached_of s r) w ≡ target_of bytes) e
        (run_stays w bytes s first later (at_good p.before) (subst (λ (r : List Call). EachAccepted (Continues w bytes) s r) (sym e) h) k);
    settles = λ p w bytes c n h. settles w bytes (at p.before) p.run (at_good p.before) c n (omega arith);
    carried = λ p w bytes t c h.
        let s = at p.before in
        settles w bytes s p.run (at_good p.before) c (not_stopped w bytes s p.run (at_good p.before) t c) (omega arith);
  }

promised : (b : Analog) → Good b → Promised b
promised b g = record { promise = promise b g; beyond = beyond b g; stretched = stretched b g }

pub fresh_promised : (seed : ℕ) (ideal : Bool) → seed < 2 ^ 32 → Promised (fresh_of seed ideal)
fresh_promised seed ideal h = promised (fresh_of seed ideal) (fresh_good seed ideal h)

-- and so is a board that calls reach
pub reached_within : (b : Analog) → Reached b → Good b
reached_within b r = subst (λ (x : Analog). Good x) (sym r.is) (reached_good (fresh_of r.seed r.ideal) r.calls (fresh_good r.seed r.ideal r.seed_fits))

pub reached_promised : (b : Analog) → Reached b → Promised b
reached_promised b r = promised b (reached_within b r)
