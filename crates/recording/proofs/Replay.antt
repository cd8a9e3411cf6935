-- The answers of a replay are those of the list of its calls: each step stands at its place with the counts of the opening, so that its body is the one that
-- the contents name, and its board is the one that the step before it left. Assumes nothing.
use Prim.Native.Nat.{ℕ, zero, suc, ◌+◌, ◌^◌, ◌≤◌, ◌<◌}
use native.Mathlib.Omega.{arith}
use native.Mathlib.Decide.{dec_lt}
use mathlib.Core.Path.{◌≡◌, refl, sym, ap, ◌∙◌, subst}
use mathlib.Core.Bool.{Bool, true, false, cond, ◌&&◌, true≢false}
use mathlib.Core.List.{List, [], ◌∷◌, map}
use lib.ListN.{length, get_or}
use mir.Syntax.{w8}
use mir.Val.{Fits}
use lib.Dec.{ltb, eqb}
use borrow.Author.Tests.{lt-ltb, eq-eqb, ltb-true, eqb-true}
use Rattle.board.specs.Board.{fresh_of}
use Rattle.frame.specs.Frame.{Bytes}
use Rattle.frame.proofs.Sizes.{part_in}
use Rattle.promise.specs.Calls.{Given, step, reached_of, answers_of}
use Rattle.promise.proofs.Calls.{step_answer}
use Rattle.promise.proofs.Whole.{fresh_promised}
use Rattle.board.specs.declared.Analog.{Analog}
use Rattle.board.specs.declared.Answer.{Answer}
use Rattle.board.specs.declared.refusals.Refusal.{Refusal}
use Rattle.board.specs.declared.refusals.Refusal.TheVariants.{BadOpening, WrongLength, NoBody}
use Rattle.std.specs.Prelude.{Ok, Err, IfOk}
use Rattle.recording.specs.declared.Playing.{Playing}
use Rattle.recording.specs.declared.Played.{Played}
use Rattle.recording.specs.Format.{number_at, seed_of, ideal_of, steps_of, bodies_of, opening_ok, extent_of, entry_at, named_to, frame_at, fx_at, dac_at, inputs_at}
use Rattle.recording.specs.Play.{ready_of, open_of, body_of, passed_of, unplayed_of, next_of}
use Rattle.recording.specs.Replay.{Bodies, plays_of, after_of, answered, Replays, OneCall, played, left}

and_true : (a b : Bool) → (a && b) ≡ true → (a ≡ true) × (b ≡ true)
and_true true b h = (refl, h)
and_true false b h = absurd (true≢false (sym h))

-- where the first n entries name bodies, each of them does
named_at : (r : List ℕ) (bodies n i : ℕ) → named_to r bodies n ≡ true → i < n → entry_at r i < bodies
unfolding named_to
named_at r bodies zero i h l = absurd (omega arith)
named_at r bodies (suc n) i h l =
    by (λ a k. named_at r bodies n i a k) (and_true (named_to r bodies n) (ltb (entry_at r n) bodies) h) (dec_lt i n)
  where
    by : (named_to r bodies n ≡ true → i < n → entry_at r i < bodies) → (named_to r bodies n ≡ true) × (ltb (entry_at r n) bodies ≡ true) → Dec (i < n) → entry_at r i < bodies
    by rec (a, b) (yes k) = rec a k
    by rec (a, b) (no k) = let e : i ≡ n = omega arith in rw e (ltb-true (entry_at r n) bodies b)

-- a recording that is not refused
pub record Sound (r : List ℕ) : Type 0 where
  pub long : length r ≡ extent_of (steps_of r) (bodies_of r)
  pub names : named_to r (bodies_of r) (steps_of r) ≡ true

-- an opened recording is sound, and is played from its start
pub sound : (r : List ℕ) → IfOk (open_of r) (λ p. Sound r × (p ≡ ready_of r))
unfolding open_of
sound r = by (opening_ok r) (eqb (length r) (extent_of (steps_of r) (bodies_of r))) (named_to r (bodies_of r) (steps_of r)) refl refl
  where
    by : (a b c : Bool) → b ≡ eqb (length r) (extent_of (steps_of r) (bodies_of r)) → c ≡ named_to r (bodies_of r) (steps_of r) →
        IfOk {E = Refusal} (cond a (cond b (cond c (Ok (ready_of r)) (Err NoBody)) (Err WrongLength)) (Err BadOpening)) (λ p. Sound r × (p ≡ ready_of r))
    by true true true q s = (record { long = eqb-true _ _ (sym q); names = sym s }, refl)
    by true true false q s = tt
    by true false c q s = tt
    by false b c q s = tt

-- what the body at o gives a step
given_at : (r : List ℕ) → Bytes r → ℕ → Given
given_at r B o = record { frame = frame_at r o; bytes = part_in r B o 664; dac = dac_at r (o + 688) 16; fx = fx_at r o; inputs = inputs_at r (o + 752) }

module _ (r : List ℕ) (B : Bytes r) (w : Sound r) where
  abbrev at : Analog → ℕ → Playing
  at b i = record { board = b; steps = steps_of r; bodies = bodies_of r; at = i }

  -- n steps from step i on
  steps_from : ℕ → ℕ → List Given
  steps_from i zero = []
  steps_from i (suc n) = given_at r B (extent_of (steps_of r) (entry_at r i)) ∷ steps_from (i + 1) n

  steps_count : (n i : ℕ) → length (steps_from i n) ≡ n
  unfolding steps_from
  steps_count zero i = refl
  steps_count (suc n) i = ap suc (steps_count n (i + 1))

  steps_bodies : (n i : ℕ) → Bodies r i (steps_from i n)
  unfolding steps_from Bodies given_at
  steps_bodies zero i = tt
  steps_bodies (suc n) i = (record { frame = refl; dac = refl; fx = refl; inputs = refl }, steps_bodies n (i + 1))

  passes : (b : Analog) (i : ℕ) → i < steps_of r → next_of (at b i) r ≡ passed_of (at b i) (body_of b r (extent_of (steps_of r) (entry_at r i)))
  unfolding next_of
  passes b i h = rw (eq-eqb _ _ w.long, lt-ltb _ _ h, lt-ltb _ _ (named_at r (bodies_of r) (steps_of r) i w.names h))

  plays : (n i : ℕ) (b : Analog) → i + n ≤ steps_of r → map answered (plays_of n (at b i) r) ≡ answers_of b (steps_from i n)
  unfolding plays_of answers_of steps_from given_at passed_of body_of answered
  plays zero i b h = refl
  plays (suc n) i b h =
      let a = body_of b r (extent_of (steps_of r) (entry_at r i)) in
      rw (passes b i (omega arith)) (ap (λ (l : List Answer). a ∷ l) (plays n (i + 1) a.board (omega arith)))

  after : (n i : ℕ) (b : Analog) → i + n ≤ steps_of r → (after_of n (at b i) r).board ≡ reached_of b (map step (steps_from i n))
  unfolding after_of steps_from given_at passed_of body_of reached_of
  after zero i b h = refl
  after (suc n) i b h =
      let o = extent_of (steps_of r) (entry_at r i) in
      ap (λ (a : Played). (after_of n a.playing r).board) (passes b i (omega arith))
      ∙ after n (i + 1) (body_of b r o).board (omega arith)
      ∙ ap (λ (x : Analog). reached_of x (map step (steps_from (i + 1) n))) (step_answer b (given_at r B o)).board

  seed_fits : seed_of r < 2 ^ 32
  unfolding number_at
  seed_fits = omega (arith, B 8, B 9, B 10, B 11)

  replays : (n : ℕ) → n ≤ steps_of r → Replays r (ready_of r) n
  unfolding ready_of
  replays n h =
      let b = fresh_of (seed_of r) (ideal_of r) in
      let k = fresh_promised (seed_of r) (ideal_of r) seed_fits in
      record {
        steps = steps_from 0 n;
        count = steps_count n 0;
        bodies = steps_bodies n 0;
        answers = plays n 0 b (omega arith);
        board = after n 0 b (omega arith);
        promise = k.promise (map step (steps_from 0 n));
        beyond = k.beyond (map step (steps_from 0 n));
      }

-- the answers of a replay are exactly those of the list of its calls from the fresh board of its seed and mark
pub replay_calls : (r : List ℕ) (p : Playing) → ((i : ℕ) → Fits w8 (get_or r i 0)) → Ok p ≡ open_of r → (n : ℕ) → n ≤ steps_of r → Replays r p n
replay_calls r p B e =
    let (w, s) = rw (← e) at (sound r) in
    subst (λ (q : Playing). (n : ℕ) → n ≤ steps_of r → Replays r q n) (sym s) (replays r (λ i. (B i).fits) w)

-- and each replayed step, wherever it stands, is one call or none
pub one_call : (r : List ℕ) (p : Playing) (a : Played) → ((i : ℕ) → Fits w8 (get_or r i 0)) → a ≡ next_of p r → OneCall p a
unfolding next_of
one_call r p a B e = subst (λ (x : Played). OneCall p x) (sym e) (by (eqb (length r) (extent_of p.steps p.bodies)) (ltb p.at p.steps) (ltb (entry_at r p.at) p.bodies))
  where
    g : Given
    g = given_at r (λ i. (B i).fits) (extent_of p.steps (entry_at r p.at))

    by : (a b c : Bool) → OneCall p (cond a (cond b (cond c (passed_of p (body_of p.board r (extent_of p.steps (entry_at r p.at)))) (unplayed_of p NoBody)) (unplayed_of p NoBody)) (unplayed_of p WrongLength))
    by true true true = unfold passed_of body_of given_at answered in played g refl (step_answer p.board g).board
    by true true false = unfold unplayed_of in left refl refl refl
    by true false c = unfold unplayed_of in left refl refl refl
    by false b c = unfold unplayed_of in left refl refl refl

pub next_answers : (r : List ℕ) (p : Playing) (a : Played) → ((i : ℕ) → Fits w8 (get_or r i 0)) → a ≡ next_of p r → (a ≡ next_of p r) × OneCall p a
next_answers r p a B e = (e, one_call r p a B e)
