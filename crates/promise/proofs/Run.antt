-- Runs of calls. A level in a stretch ticks once for each tick that is counted; and where the accepted steps of a run carry one record, none after the first
-- restarts the level, so that what is left is a stretch if none holds or parks it. Assumes nothing.
use Prim.Native.Nat.{ℕ, zero, suc, ◌+◌, ◌-◌, ◌≤◌, ◌<◌}
use native.Mathlib.Omega.{arith}
use mathlib.Core.Path.{◌≡◌, refl, sym, ap, ◌∙◌, subst}
use mathlib.Core.Bool.{Bool, true, false, cond, ◌&&◌}
use mathlib.Core.List.{List, [], ◌∷◌, ◌++◌}
use lib.Dec.{T}
use lib.Ieee.{Float}
use Rattle.frame.specs.Frame.{Bytes}
use Rattle.frame.proofs.Sizes.{bytes_in}
use Rattle.envelope.specs.Record.{record_of, tick_level}
use Rattle.envelope.specs.Moves.{Move, given, stood, ticked, settle}
use Rattle.envelope.specs.States.{State, level_within, after_in, NeverStops}
use Rattle.envelope.specs.Levels.{Level, Between, Equal, ticks}
use Rattle.envelope.proofs.Ranges.{record_in}
use Rattle.envelope.proofs.Arrive.{tick_stays, tick_equal}
use Rattle.envelope.proofs.Run.{ticks_stay}
use Rattle.envelope.proofs.Settle.{settle_between}
use Rattle.envelope.proofs.States.{move_bytes, one_tick, seen_restarts_nothing, never_held, never_parked, never_stops_after}
use Rattle.board.specs.declared.Analog.{Analog}
use Rattle.promise.specs.Calls.{Given, Call, given_of, taken, next_of, reached_of}
use Rattle.promise.specs.Levels.{Which, offset_at, state_at, level_at, record_at}
use Rattle.promise.specs.Promise.{move_of, ticked_by, ticks_in, EachAccepted, Carries, Continues, target_of, accepted_in, NotStopped}
use Rattle.promise.proofs.Kept.{Good, good_levels, call_good, call_state, call_moves}

so : (c : Bool) → c ≡ true → T c
so c e = subst T (sym e) tt

pub reached_good : (b : Analog) (ks : List Call) → Good b → Good (reached_of b ks)
unfolding reached_of
reached_good b [] g = g
reached_good b (k ∷ ks) g = reached_good (next_of b k) ks (call_good b k g)

-- ---- one tick
-- the record that a call carries is of bytes
carried_bytes : (k : Call) (w : Which) → Bytes (record_at (given_of k).frame w)
carried_bytes k w = bytes_in (given_of k).frame (given_of k).bytes (offset_at w)

pub call_between : (b : Analog) (k : Call) → Good b → (w : Which) → T (ticked_by b k w) → let m = move_of b k w in Between (stood m (level_at b w)) (level_at (next_of b k) w) (given m).target
call_between b k g w t = by (taken k) (ticked m) t refl refl
  where
    m : Move
    m = move_of b k w

    by : (c u : Bool) → T (c && u) → taken k ≡ c → ticked (move_of b k w) ≡ u → Between (stood (move_of b k w) (level_at b w)) (level_at (next_of b k) w) (given (move_of b k w)).target
    by true true h e f =
        let r = subst (λ (l : List ℕ). Bytes l) (sym (move_bytes (state_at b w) (record_at (given_of k).frame w))) (carried_bytes k w) in
        subst (λ (y : Float). Between (stood (move_of b k w) (level_at b w)) y (given (move_of b k w)).target)
        (sym (call_moves b k g w ∙ ap (λ (c : Bool). cond c (settle (move_of b k w) (level_at b w)) (level_at b w)) e))
        (settle_between (move_of b k w) (level_at b w) r (good_levels b g w) f)
    by true false h e f = absurd h
    by false u h e f = absurd h

-- ---- stretches
module _ (w : Which) (bytes : List ℕ) where
  abbrev step : Float
  step = (record_of bytes).step

  -- what a call does in a stretch: an accepted one ticks the level, a refused one leaves it
  data One (b : Analog) (k : Call) : Type 0 where
    tick : Bytes bytes → ticked_by b k w ≡ true → level_at (next_of b k) w ≡ tick_level (level_at b w) (target_of bytes) step → One b k
    rest : ticked_by b k w ≡ false → level_at (next_of b k) w ≡ level_at b w → One b k

  one : (b : Analog) (k : Call) → Good b → (T (taken k) → Continues w bytes b (given_of k)) → One b k
  one b k g h = by (taken k) refl
    where
      by : (t : Bool) → taken k ≡ t → One b k
      by true e =
          let c = h (so (taken k) e) in
          let s = state_at b w in
          let r = record_at (given_of k).frame w in
          let q : state_at (next_of b k) w ≡ after_in s r = call_state b k g w ∙ ap (λ (t : Bool). cond t (after_in s r) s) e in
          tick (subst (λ (l : List ℕ). Bytes l) c.unchanged (carried_bytes k w))
          (simp (e, c.not_parked, c.not_held))
          (ap level_within q ∙ one_tick s r c.not_restarted c.not_held c.not_parked ∙ ap (λ (l : List ℕ). tick_level (level_at b w) (record_of l).target (record_of l).step) c.unchanged)
      by false e = rest (simp e) (call_moves b k g w ∙ ap (λ (t : Bool). cond t (settle (move_of b k w) (level_at b w)) (level_at b w)) e)

  shift : (n : ℕ) (x t s : Float) → ticks n (tick_level x t s) t s ≡ ticks (suc n) x t s
  unfolding ticks
  shift zero x t s = refl
  shift (suc n) x t s = ap (λ (y : Float). tick_level y t s) (shift n x t s)

  abbrev count : Analog → Call → ℕ → ℕ
  count b k n = cond (ticked_by b k w) (suc n) n

  -- the level ticks once for each tick that is counted
  run_level : (b : Analog) (ks : List Call) → Good b → EachAccepted (Continues w bytes) b ks → level_at (reached_of b ks) w ≡ ticks (ticks_in w b ks) (level_at b w) (target_of bytes) step
  unfolding reached_of ticks_in ticks
  run_level b [] g h = refl
  run_level b (k ∷ ks) g h = run_level (next_of b k) ks (call_good b k g) h.1 ∙ by (one b k g h.0) (ticks_in w (next_of b k) ks)
    where
      by : One b k → (n : ℕ) → ticks n (level_at (next_of b k) w) (target_of bytes) step ≡ ticks (count b k n) (level_at b w) (target_of bytes) step
      by (tick B t e) n =
          ap (λ (y : Float). ticks n y (target_of bytes) step) e
          ∙ shift n (level_at b w) (target_of bytes) step
          ∙ ap (λ (c : Bool). ticks (cond c (suc n) n) (level_at b w) (target_of bytes) step) (sym t)
      by (rest t e) n =
          ap (λ (y : Float). ticks n y (target_of bytes) step) e
          ∙ ap (λ (c : Bool). ticks (cond c (suc n) n) (level_at b w) (target_of bytes) step) (sym t)

  -- a run that ticks has a record of bytes
  run_bytes : (b : Analog) (ks : List Call) → Good b → EachAccepted (Continues w bytes) b ks → 0 < ticks_in w b ks → Bytes bytes
  unfolding ticks_in
  run_bytes b [] g h n = absurd (omega arith)
  run_bytes b (k ∷ ks) g h n = by (one b k g h.0) (run_bytes (next_of b k) ks (call_good b k g) h.1)
    where
      by : One b k → (0 < ticks_in w (next_of b k) ks → Bytes bytes) → Bytes bytes
      by (tick B t e) rec = B
      by (rest t e) rec = rec (subst (λ (c : Bool). 0 < cond c (suc (ticks_in w (next_of b k) ks)) (ticks_in w (next_of b k) ks)) t n)

  more : (n : ℕ) → 131072 ≤ n → n ≡ 131072 + (n - 131072)
  more n h = omega arith

  pub run_arrives : (b : Analog) (ks : List Call) → Good b → EachAccepted (Continues w bytes) b ks → 131072 ≤ ticks_in w b ks → level_at (reached_of b ks) w ≡ target_of bytes
  run_arrives b ks g h n =
      let r = record_in bytes (run_bytes b ks g h (omega arith)) in
      run_level b ks g h
      ∙ ap (λ (k : ℕ). ticks k (level_at b w) (target_of bytes) step) (more (ticks_in w b ks) n)
      ∙ ticks_stay (target_of bytes) step r.target.0 r.step (level_at b w) (good_levels b g w) (ticks_in w b ks - 131072)

  -- what a tick keeps of a level, a stretch keeps
  module _ (P : Float → Type 0) (kept : Bytes bytes → (x : Float) → Level x → P x → P (tick_level x (target_of bytes) step)) where
    pub run_keeps : (b : Analog) (first later : List Call) → Good b → EachAccepted (Continues w bytes) b (first ++ later) → P (level_at (reached_of b first) w) → P (level_at (reached_of b (first ++ later)) w)
    unfolding reached_of
    run_keeps b [] [] g h p = p
    run_keeps b [] (k ∷ ks) g h p = run_keeps (next_of b k) [] ks (call_good b k g) h.1 (by (one b k g h.0))
      where
        by : One b k → P (level_at (next_of b k) w)
        by (tick B t e) = subst P (sym e) (kept B (level_at b w) (good_levels b g w) p)
        by (rest t e) = subst P (sym e) p
    run_keeps b (k ∷ ks) later g h p = run_keeps (next_of b k) ks later (call_good b k g) h.1 p

  pub run_stays : (b : Analog) (first later : List Call) → Good b → EachAccepted (Continues w bytes) b (first ++ later) → level_at (reached_of b first) w ≡ target_of bytes → level_at (reached_of b (first ++ later)) w ≡ target_of bytes
  run_stays b first later g h e =
      run_keeps (λ (x : Float). x ≡ target_of bytes)
      (λ B x l p. let r = record_in bytes B in ap (λ (y : Float). tick_level y (target_of bytes) step) p ∙ tick_stays (target_of bytes) step r.target.0 r.step)
      b first later g h e

  -- a level that equals its target as a number, as -0 equals 0, is ticked onto it
  pub run_stays_equal : (b : Analog) (first later : List Call) → Good b → EachAccepted (Continues w bytes) b (first ++ later) → Equal (level_at (reached_of b first) w) (target_of bytes) → Equal (level_at (reached_of b (first ++ later)) w) (target_of bytes)
  run_stays_equal b first later g h e =
      run_keeps (λ (x : Float). Equal x (target_of bytes))
      (λ B x l p. let r = record_in bytes B in tick_equal (target_of bytes) step r.target.0 r.step x l p)
      b first later g h e

-- ---- runs whose accepted steps carry one record
module _ (w : Which) (bytes : List ℕ) where
  -- a board whose level has just seen the record
  record Seen (b : Analog) : Type 0 where
    was : State
    is : state_at b w ≡ after_in was bytes

  seen_after : (b : Analog) (k : Call) → Good b → taken k ≡ true → record_at (given_of k).frame w ≡ bytes → Seen (next_of b k)
  seen_after b k g t e = record { was = state_at b w; is = call_state b k g w ∙ (simp (t, e)) }

  seen_left : (b : Analog) (k : Call) → Good b → taken k ≡ false → Seen b → Seen (next_of b k)
  seen_left b k g t s = record { was = s.was; is = call_state b k g w ∙ (simp t) ∙ s.is }

  continues : (b : Analog) (g : Given) → Seen b → Carries w bytes b g → NotStopped w b g → Continues w bytes b g
  continues b g s e n = record { unchanged = e; not_restarted = rw (s.is, e) (seen_restarts_nothing s.was bytes); not_held = n.not_held; not_parked = n.not_parked }

  -- from there on each accepted step continues the stretch, and ticks
  seen_stretch : (b : Analog) (ks : List Call) → Good b → Seen b → EachAccepted (Carries w bytes) b ks → EachAccepted (NotStopped w) b ks → EachAccepted (Continues w bytes) b ks × (ticks_in w b ks ≡ accepted_in ks)
  unfolding ticks_in accepted_in
  seen_stretch b [] g s c n = (tt, refl)
  seen_stretch b (k ∷ ks) g s c n =
      let i = seen_stretch (next_of b k) ks (call_good b k g) (next (taken k) refl) c.1 n.1 in (
        (λ t. continues b (given_of k) s (c.0 t) (n.0 t), i.0),
        count (taken k) refl ∙ ap (λ (m : ℕ). cond (taken k) (suc m) m) i.1,
      )
    where
      next : (t : Bool) → taken k ≡ t → Seen (next_of b k)
      next true e = seen_after b k g e (c.0 (so (taken k) e))
      next false e = seen_left b k g e s

      count : (t : Bool) → taken k ≡ t → cond (ticked_by b k w) (suc (ticks_in w (next_of b k) ks)) (ticks_in w (next_of b k) ks) ≡ cond (taken k) (suc (ticks_in w (next_of b k) ks)) (ticks_in w (next_of b k) ks)
      count true e = let m = n.0 (so (taken k) e) in simp (e, m.not_parked, m.not_held)
      count false e = simp e

  -- after the first accepted step the rest is a stretch
  pub settles : (b : Analog) (ks : List Call) → Good b → EachAccepted (Carries w bytes) b ks → EachAccepted (NotStopped w) b ks → 131073 ≤ accepted_in ks → level_at (reached_of b ks) w ≡ target_of bytes
  unfolding accepted_in reached_of
  settles b [] g c n h = absurd (omega arith)
  settles b (k ∷ ks) g c n h = by (taken k) refl (settles (next_of b k) ks (call_good b k g) c.1 n.1)
    where
      by : (t : Bool) → taken k ≡ t → (131073 ≤ accepted_in ks → level_at (reached_of (next_of b k) ks) w ≡ target_of bytes) → level_at (reached_of (next_of b k) ks) w ≡ target_of bytes
      by true e rec =
          let o = seen_stretch (next_of b k) ks (call_good b k g) (seen_after b k g e (c.0 (so (taken k) e))) c.1 n.1 in
          let l : 131073 ≤ suc (accepted_in ks) = subst (λ (t : Bool). 131073 ≤ cond t (suc (accepted_in ks)) (accepted_in ks)) e h in
          run_arrives w bytes (next_of b k) ks (call_good b k g) o.0 (rw o.1 (omega arith))
      by false e rec = rec (subst (λ (t : Bool). 131073 ≤ cond t (suc (accepted_in ks)) (accepted_in ks)) e h)

  -- a record that never stops the level stops it in no step that carries it
  pub not_stopped : (b : Analog) (ks : List Call) → Good b → NeverStops (state_at b w) bytes → EachAccepted (Carries w bytes) b ks → EachAccepted (NotStopped w) b ks
  not_stopped b [] g t c = tt
  not_stopped b (k ∷ ks) g t c = (λ a. free (c.0 a), not_stopped (next_of b k) ks (call_good b k g) (subst (λ (s : State). NeverStops s bytes) (sym (call_state b k g w)) (after (taken k))) c.1)
    where
      free : record_at (given_of k).frame w ≡ bytes → NotStopped w b (given_of k)
      free e = record { not_held = rw e (never_held (state_at b w) bytes t); not_parked = rw e (never_parked (state_at b w) bytes t) }

      after : (u : Bool) → NeverStops (cond u (after_in (state_at b w) (record_at (given_of k).frame w)) (state_at b w)) bytes
      after true = never_stops_after (state_at b w) (record_at (given_of k).frame w) bytes t
      after false = t
