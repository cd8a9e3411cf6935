-- Any number of ticks toward one target: the level stays between where it began and the target, and from 131,072 ticks on is the target. Assumes nothing.
use mathlib.Core.Path.{◌≡◌, ap, ◌∙◌}
use mathlib.Core.Logic.{◌⊎◌, inl, inr}
use Prim.Native.Nat.{ℕ, zero, suc, ◌+◌, ◌≤◌}
use native.Mathlib.Nat.{le_refl, add-suc, add-zero}
use native.Mathlib.Omega.{arith}
use lib.Ieee.{Float}
use Rattle.envelope.specs.Record.{tick_level}
use Rattle.envelope.specs.Levels.{Level, Step, Between, ticks}
use Rattle.envelope.proofs.Arrive.{LevelAt, level_at_lem, ordered, in_order, either, tick_stays, tick_between, ticks_arrive}

-- y's place is between those of x and z
Mid : ℕ → ℕ → ℕ → Type 0
Mid p q r = ((p ≤ q) × (q ≤ r)) ⊎ ((r ≤ q) × (q ≤ p))

join : (p q r s : ℕ) → Mid p q s → Mid q r s → Mid p r s
unfolding Mid
join p q r s (inl a) (inl b) = inl (omega arith)
join p q r s (inl a) (inr b) = inl (omega arith)
join p q r s (inr a) (inl b) = inr (omega arith)
join p q r s (inr a) (inr b) = inr (omega arith)

to_mid : {x y z : Float} (a : LevelAt x) (b : LevelAt y) (c : LevelAt z) → Between x y z → Mid a.at b.at c.at
unfolding Mid
to_mid a b c (inl h) = inl (in_order a.is b.is h.0, in_order b.is c.is h.1)
to_mid a b c (inr h) = inr (in_order c.is b.is h.0, in_order b.is a.is h.1)

of_mid : {x y z : Float} (a : LevelAt x) (b : LevelAt y) (c : LevelAt z) → Mid a.at b.at c.at → Between x y z
unfolding Mid
of_mid a b c (inl h) = inl (ordered a.is b.is h.0, ordered b.is c.is h.1)
of_mid a b c (inr h) = inr (ordered c.is b.is h.0, ordered b.is a.is h.1)

start : (p q : ℕ) → Mid p p q
unfolding Mid
start p q = elim (either p q) [ inl a ↦ inl (le_refl p, a) | inr a ↦ inr (a, le_refl p) ]

module _ (target step : Float) (t : Level target) (s : Step step) (level : Float) (l : Level level) where
  pub ticks_between : (n : ℕ) → Between level (ticks n level target step) target × Level (ticks n level target step)
  unfolding ticks
  ticks_between zero = (of_mid (level_at_lem level l) (level_at_lem level l) (level_at_lem target t) (start (level_at_lem level l).at (level_at_lem target t).at), l)
  ticks_between (suc n) =
      let r = ticks_between n in
      let x = ticks n level target step in
      let y = tick_level x target step in
      let v = tick_between target step t s x r.1 in
      let c = level_at_lem x r.1 in
      let d = level_at_lem y v.1 in
      let e = level_at_lem target t in
      let a = level_at_lem level l in
      (of_mid a d e (join a.at c.at d.at e.at (to_mid a c e r.0) (to_mid c d e v.0)), v.1)

  next : (n : ℕ) → ticks n level target step ≡ target → ticks (suc n) level target step ≡ target
  unfolding ticks
  next n e = ap (λ (x : Float). tick_level x target step) e ∙ tick_stays target step t s

  -- 131,072 of them and any number more
  pub ticks_stay : (k : ℕ) → ticks (131072 + k) level target step ≡ target
  ticks_stay zero = ap (λ (n : ℕ). ticks n level target step) (add-zero 131072) ∙ ticks_arrive target step t s level l
  ticks_stay (suc k) = ap (λ (n : ℕ). ticks n level target step) (add-suc 131072 k) ∙ next (131072 + k) (ticks_stay k)
