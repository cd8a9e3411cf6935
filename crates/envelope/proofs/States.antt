-- What holds of every kind of envelope: its level follows its move, a record that it has just seen restarts nothing, and one that never stops it neither
-- holds nor parks it. Assumes nothing.
use Prim.Native.Nat.{ℕ, zero, suc, ◌+◌}
use mathlib.Core.Path.{◌≡◌, refl, sym, ap, ◌∙◌, subst}
use mathlib.Core.Bool.{Bool, true, false, not, ◌&&◌, ◌||◌}
use mathlib.Core.List.{List}
use lib.ListN.{get_or}
use lib.Dec.{T, eqb, eqb→eq}
use lib.Ieee.{Float}
use lib.Ieee.Bits.{is_true}
use borrow.Author.Tests.{eq-eqb}
use Rattle.envelope.specs.declared.Key.{Key}
use Rattle.frame.specs.Frame.{Bytes}
use Rattle.envelope.specs.Record.{mode_of, record_of, tick_level}
use Rattle.envelope.specs.Moves.{settle, alike, key_of, same_key, ramps, hold_of, seg_starts, dual_move, dual_of, hit_move, hit_of, seg_move, seg_of}
use Rattle.envelope.specs.States.{State, dual, hit, chain_amp, chain_filter, level_within, move_in, after_in, after_times, NeverStops}
use Rattle.envelope.specs.Levels.{Level, ticks}
use Rattle.envelope.proofs.Ranges.{record_in}
use Rattle.envelope.proofs.Run.{ticks_stay}
use Rattle.envelope.proofs.Settle.{settle_in}

pub level_after : (s : State) (r : List ℕ) → level_within (after_in s r) ≡ settle (move_in s r) (level_within s)
unfolding dual_of hit_of seg_of
level_after (dual last x) r = refl
level_after (hit mode x) r = refl
level_after (chain_amp e) r = refl
level_after (chain_filter e) r = refl

pub move_bytes : (s : State) (r : List ℕ) → (move_in s r).bytes ≡ r
unfolding dual_move hit_move seg_move
move_bytes (dual last x) r = refl
move_bytes (hit mode x) r = refl
move_bytes (chain_amp e) r = refl
move_bytes (chain_filter e) r = refl

-- ---- a record that was just seen
both : (a b : Bool) → a ≡ true → b ≡ true → (a && b) ≡ true
both a b p q = simp (p, q)

never : (a : Bool) → (a && not a) ≡ false
never true = refl
never false = refl

alike_refl : (n : ℕ) (r : List ℕ) → alike n r r ≡ true
unfolding alike
alike_refl zero r = refl
alike_refl (suc n) r = both (alike n r r) (eqb (get_or r n 0) (get_or r n 0)) (alike_refl n r) (eq-eqb (get_or r n 0) (get_or r n 0) refl)

same_refl : (k : Key) → same_key k k ≡ true
unfolding same_key
same_refl k = simp (eq-eqb k.start k.start refl, eq-eqb k.target k.target refl, eq-eqb k.rate k.rate refl)

pub seen_restarts_nothing : (s : State) (r : List ℕ) → (move_in (after_in s r) r).restarted ≡ false
unfolding dual_move hit_move seg_move seg_starts seg_of
seen_restarts_nothing (dual last x) r = rw (alike_refl 8 r)
seen_restarts_nothing (hit mode x) r = never (eqb (mode_of r) 15)
seen_restarts_nothing (chain_amp e) r = never (record_of r).start_cmd
seen_restarts_nothing (chain_filter e) r = rw (same_refl (key_of r))

-- ---- a record that never stops it
-- modes 9, B and F hold nothing
released : (m rate : ℕ) (d : Float) (was : Bool) → T (ramps m) → hold_of m rate d was ≡ false
unfolding hold_of
released m rate d was t = go (eqb m 9) (eqb m 11) (eqb m 15) (eqb→eq m 9) (eqb→eq m 11) (eqb→eq m 15) t
  where
    at : (k : ℕ) → m ≡ k → hold_of k rate d was ≡ false → hold_of m rate d was ≡ false
    at k e h = rw e h

    go : (a b c : Bool) → (T a → m ≡ 9) → (T b → m ≡ 11) → (T c → m ≡ 15) → T (a || b || c) → hold_of m rate d was ≡ false
    go true b c p q r t = at 9 (p tt) refl
    go false true c p q r t = at 11 (q tt) refl
    go false false true p q r t = at 15 (r tt) refl
    go false false false p q r t = absurd t

pub never_held : (s : State) (r : List ℕ) → NeverStops s r → (move_in s r).held ≡ false
unfolding dual_move hit_move seg_move
never_held (dual last x) r t = refl
never_held (hit mode x) r t = refl
never_held (chain_amp e) r t = released _ _ _ _ t
never_held (chain_filter e) r t = released _ _ _ _ t

pub never_parked : (s : State) (r : List ℕ) → NeverStops s r → (move_in s r).parked ≡ false
unfolding dual_move hit_move seg_move
never_parked (dual last x) r t = refl
never_parked (hit mode x) r t = ap not (is_true (record_of r).start_cmd t)
never_parked (chain_amp e) r t = refl
never_parked (chain_filter e) r t = refl

-- its kind stays
pub never_stops_after : (s : State) (a r : List ℕ) → NeverStops s r → NeverStops (after_in s a) r
never_stops_after (dual last x) a r t = t
never_stops_after (hit mode x) a r t = t
never_stops_after (chain_amp e) a r t = t
never_stops_after (chain_filter e) a r t = t

-- ---- one tick, and the arrival of an envelope that sees one record again and again
pub one_tick : (s : State) (r : List ℕ) → (move_in s r).restarted ≡ false → (move_in s r).held ≡ false → (move_in s r).parked ≡ false → level_within (after_in s r) ≡ tick_level (level_within s) (record_of r).target (record_of r).step
unfolding settle
one_tick s r a b c = level_after s r ∙ (simp (a, b, c, move_bytes s r))

module _ (s : State) (r : List ℕ) (B : Bytes r) (l : Level (level_within s)) (t : NeverStops s r) where
  first_level : Level (level_within (after_in s r))
  first_level = subst (λ (x : Float). Level x) (sym (level_after s r)) (settle_in (move_in s r) (level_within s) (subst (λ (q : List ℕ). Bytes q) (sym (move_bytes s r)) B) l)

  kept : (n : ℕ) → NeverStops (after_times (suc n) s r) r
  unfolding after_times
  kept zero = never_stops_after s r r t
  kept (suc n) = never_stops_after (after_in (after_times n s r) r) r r (kept n)

  -- after the first, which may restart it, each is a tick
  ticked_times : (n : ℕ) → level_within (after_times (suc n) s r) ≡ ticks n (level_within (after_in s r)) (record_of r).target (record_of r).step
  unfolding after_times ticks
  ticked_times zero = refl
  ticked_times (suc n) =
      let x = after_in (after_times n s r) r in
      one_tick x r (seen_restarts_nothing (after_times n s r) r) (never_held x r (kept n)) (never_parked x r (kept n))
      ∙ ap (λ (y : Float). tick_level y (record_of r).target (record_of r).step) (ticked_times n)

  -- so 131,073 of them, and any number more, bring it onto its target
  pub settles_alone : (n : ℕ) → level_within (after_times (suc (131072 + n)) s r) ≡ (record_of r).target
  settles_alone n = let k = record_in r B in ticked_times (131072 + n) ∙ ticks_stay (record_of r).target (record_of r).step k.target.0 k.step (level_within (after_in s r)) first_level n
