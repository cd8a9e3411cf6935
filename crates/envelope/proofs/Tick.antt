-- One tick on the line of places. A rounded difference above the step is an exact one above it, since the step is a value that rounding does not cross;
-- so a tick that does not arrive moves toward the target, not past it, and by the step less half a unit at least. Assumes nothing.
use mathlib.Core.Path.{◌≡◌, refl, sym, ◌∙◌, subst}
use mathlib.Core.Logic.{◌⊎◌, inl, inr}
use Prim.Native.Nat.{ℕ, ◌+◌, ◌-◌, ◌*◌, ◌^◌, ◌≤◌, ◌<◌}
use native.Mathlib.Nat.{lt_of_not-le, not-le_of_lt}
use native.Mathlib.Omega.{arith}
use mathlib.Core.Bool.{Bool, true, false, not, cond}
use lib.IntN.{pos}
use lib.Dec.{T, nleb→lt}
use lib.Ieee.{Float, fin, binary32, add, sub, mul, le}
use Rattle.float.specs.Floats.{abs_of, signum_of}
use Rattle.float.proofs.Laws.{abs_is, signum_is}
use Rattle.line.proofs.Places.{Pos}
use Rattle.line.proofs.Rounds.{Room}
use Rattle.line.proofs.Line.{At, at_le, at_add, at_sub, at_times_one, at_times_minus_one, Rounded}
use Rattle.envelope.specs.Record.{tick_level}

-- from p toward q to p', not past q, by at least w / 2
pub record Up (p q p' w : ℕ) : Type 0 where
  pub from : p ≤ p'
  pub upto : p' ≤ q
  pub by : 2 * p + w ≤ 2 * p'

pub record Down (p q p' w : ℕ) : Type 0 where
  pub from : p' ≤ p
  pub upto : q ≤ p'
  pub by : 2 * p' + w ≤ 2 * p

pub record Moved (o : ℕ) (x : Float) (p q w : ℕ) : Type 0 where
  pub to : ℕ
  pub at : At binary32 o x to
  pub way : Up p q to w ⊎ Down p q to w

-- W bounds levels and steps, and H is twice the rounding error below it
module _ (o j W H : ℕ) (R : Room binary32 j) (B : 2 * 2 ^ (24 + j) ≤ o) (Q4 : 4 * W ≤ 2 ^ (24 + j)) (i : ℕ) (eW : W ≡ 2 ^ (24 + i)) (eH : H ≡ 2 ^ i) where
  module _ (level target step : Float) (p q g : ℕ) (L : At binary32 o level p) (T' : At binary32 o target q) (S : At binary32 o step (o + g))
      (p1 : o ≤ p + W) (p2 : p < o + W) (q1 : o ≤ q + W) (q2 : q < o + W) (g1 : 256 * H ≤ g) (g2 : g ≤ W) (g3 : 0 < g) where
    d : Float
    d = sub binary32 target level

    diff : Rounded binary32 o d (q + o - p)
    unfolding d
    diff = at_sub binary32 o j R B target level q p (q + o - p) T' L (omega arith) (omega arith) (omega arith) (omega arith)

    up : o + g < q + o - p → Moved o (add binary32 level (mul binary32 step (fin false 1 (pos 0)))) p q (2 * g - H)
    up h =
        let z = at_add binary32 o j R B level (mul binary32 step (fin false 1 (pos 0))) p (o + g) (p + g) L (at_times_one binary32 o step (o + g) S) (omega arith) (omega arith) (omega arith) in
        let a = z.rounds.under target q T' (omega arith) in
        let b = z.rounds.over level p L (omega arith) in
        let n = subst (λ (w : ℕ). (2 * z.to ≤ 2 * (p + g) + w) × (2 * (p + g) ≤ 2 * z.to + w)) (sym eH)
        (z.rounds.near i (subst (λ (w : ℕ). p + g < o + w) eW (omega arith)) (subst (λ (w : ℕ). o < p + g + w) eW (omega arith))) in
        record { to = z.to; at = z.at; way = inl (record { from = b; upto = a; by = omega arith }) }

    down : q + o - p + g < o → Moved o (add binary32 level (mul binary32 step (fin true 1 (pos 0)))) p q (2 * g - H)
    down h =
        let z = at_add binary32 o j R B level (mul binary32 step (fin true 1 (pos 0))) p (o - g) (p - g) L (at_times_minus_one binary32 o step (o + g) (o - g) (omega arith) S) (omega arith) (omega arith) (omega arith) in
        let a = z.rounds.over target q T' (omega arith) in
        let b = z.rounds.under level p L (omega arith) in
        let n = subst (λ (w : ℕ). (2 * z.to ≤ 2 * (p - g) + w) × (2 * (p - g) ≤ 2 * z.to + w)) (sym eH)
        (z.rounds.near i (subst (λ (w : ℕ). p - g < o + w) eW (omega arith)) (subst (λ (w : ℕ). o < p - g + w) eW (omega arith))) in
        record { to = z.to; at = z.at; way = inr (record { from = b; upto = a; by = omega arith }) }

    -- the size of the difference
    sized : At binary32 o (abs_of d) (o + diff.at.q)
    sized = record { s = false; q = diff.at.q; is = abs_is binary32 d diff.at.s diff.at.q diff.at.is; rep = diff.at.rep; place = refl }

    far : le (abs_of d) step ≡ false → g < diff.at.q
    far k = let a : o + g < o + diff.at.q = nleb→lt (o + diff.at.q) (o + g) (subst (λ (b : Bool). T (not b)) (sym (sym (at_le binary32 o (abs_of d) step (o + diff.at.q) (o + g) sized S) ∙ k)) tt) in omega arith

    moved : (s : Bool) → Pos o s diff.at.q diff.to → g < diff.at.q → Moved o (add binary32 level (mul binary32 step (fin s 1 (pos 0)))) p q (2 * g - H)
    moved false e k = up (lt_of_not-le (λ (n : q + o - p ≤ o + g). not-le_of_lt k (let u = diff.rounds.under step (o + g) S n in omega arith)))
    moved true e k =
        down (lt_of_not-le (λ (n : o ≤ q + o - p + g).
        not-le_of_lt k (let u = diff.rounds.over (mul binary32 step (fin true 1 (pos 0))) (o - g) (at_times_minus_one binary32 o step (o + g) (o - g) (omega arith) S) (omega arith) in omega arith)))

    pub tick_moves : (tick_level level target step ≡ target) ⊎ Moved o (tick_level level target step) p q (2 * g - H)
    unfolding tick_level d
    tick_moves = go (le (abs_of d) step) refl
      where
        go : (b : Bool) → le (abs_of d) step ≡ b
            → (cond b target (add binary32 level (mul binary32 step (signum_of d))) ≡ target) ⊎ Moved o (cond b target (add binary32 level (mul binary32 step (signum_of d)))) p q (2 * g - H)
        go true k = inl refl
        go false k =
            inr (subst (λ (x : Float). Moved o (add binary32 level (mul binary32 step x)) p q (2 * g - H)) (sym (signum_is binary32 d diff.at.s diff.at.q diff.at.is))
            (moved diff.at.s diff.at.place (far k)))
