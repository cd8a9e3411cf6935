-- From a board within the ranges stretches of every length occur for every level, and the level starts away from its target: a frame of one record 83 times, sent
-- again and again. The record has mode B and the least step, and as its target 1 or 2, whichever the level is not; of a dual voice and a chain it carries no
-- command, so that it restarts nothing, of the hat and the cymbal it carries one, so that it does not park. Assumes nothing.
use Prim.Native.Nat.{ℕ, zero, suc, ◌+◌, ◌*◌, ◌<◌}
use native.Mathlib.Nat.{suc-add, le_trans}
use native.Mathlib.Omega.{arith}
use mathlib.Core.Path.{◌≡◌, refl, sym, ap, ◌∙◌, subst}
use mathlib.Core.Bool.{Bool, true, false, not, cond, ◌&&◌}
use mathlib.Core.List.{List, [], ◌∷◌, ◌++◌}
use lib.ListN.{get_or, replicate}
use lib.Dec.{T}
use lib.IntN.{pos}
use lib.Ieee.{Float, of_bits, of_int, round, neg, le, lt, eq}
use Rattle.float.specs.Consts.{k0}
use Rattle.frame.specs.Frame.{Bytes, bytes_at}
use Rattle.frame.specs.Offsets.{duals, dual_spec}
use Rattle.envelope.specs.Record.{record_of, level_of}
use Rattle.envelope.specs.Moves.{alike, key_of, same_key, dual_move, hit_move, seg_move, seg_starts}
use Rattle.envelope.specs.States.{State, dual, hit, move_in, after_in, NeverStops}
use Rattle.envelope.specs.Levels.{Level, Equal}
use Rattle.envelope.proofs.Ranges.{level_in}
use Rattle.envelope.proofs.Arrive.{level_at_lem, in_order, ordered}
use Rattle.envelope.proofs.States.{never_held, never_parked}
use Rattle.board.specs.declared.Analog.{Analog}
use Rattle.board.specs.Board.{in_range, all_in_range, input_ok, inputs_ok, refusal_of}
use Rattle.promise.specs.Calls.{Given, Call, step, taken, next_of}
use Rattle.promise.specs.Levels.{Which, pitch, amp, amp2, hat, cymbal, chain_amp, chain_filter, chain_amp_r, offset_at, state_at, level_at, record_at}
use Rattle.promise.specs.Promise.{ticks_in, EachAccepted, Continues, Stretched}
use Rattle.promise.proofs.Kept.{Good, good_levels, call_good, call_state}
use Rattle.promise.proofs.Run.{run_arrives}

-- ---- the record and the frame
abbrev eight : Bool → ℕ → List ℕ
eight c t = 0 ∷ cond c 1 0 ∷ 0 ∷ t ∷ 176 ∷ 15 ∷ 255 ∷ 255 ∷ []

copies : ℕ → List ℕ → List ℕ
copies zero r = []
copies (suc n) r = r ++ copies n r

copies_bytes : (n : ℕ) (c : Bool) (t : ℕ) → t < 256 → Bytes (copies n (eight c t))
unfolding copies
copies_bytes zero c t h i = none i
  where
    none : (i : ℕ) → get_or [] i 0 < 256
    none zero = omega arith
    none (suc i) = omega arith
copies_bytes (suc n) c t h zero = omega arith
copies_bytes (suc n) c t h (suc zero) = by c
  where
    by : (c : Bool) → cond c 1 0 < 256
    by true = omega arith
    by false = omega arith
copies_bytes (suc n) c t h (suc (suc zero)) = omega arith
copies_bytes (suc n) c t h (suc (suc (suc zero))) = h
copies_bytes (suc n) c t h (suc (suc (suc (suc zero)))) = omega arith
copies_bytes (suc n) c t h (suc (suc (suc (suc (suc zero))))) = omega arith
copies_bytes (suc n) c t h (suc (suc (suc (suc (suc (suc zero)))))) = omega arith
copies_bytes (suc n) c t h (suc (suc (suc (suc (suc (suc (suc zero))))))) = omega arith
copies_bytes (suc n) c t h (suc (suc (suc (suc (suc (suc (suc (suc i)))))))) = copies_bytes n c t h i

eight_more : (k : ℕ) → 8 * suc k ≡ suc (suc (suc (suc (suc (suc (suc (suc (8 * k))))))))
eight_more k = omega arith

copy_at : (c : Bool) (t n k : ℕ) → k < n → bytes_at (copies n (eight c t)) (8 * k) ≡ eight c t
unfolding copies bytes_at
copy_at c t zero k h = absurd (omega arith)
copy_at c t (suc n) zero h = refl
copy_at c t (suc n) (suc k) h = rw (eight_more k) (simp suc-add (copy_at c t n k (omega arith)))

-- every record of a level starts at a multiple of eight
dual_env : (d : ℕ) → d < 3 → (dual_spec d).env ≡ 8 * (45 + 4 * d)
unfolding dual_spec duals
dual_env zero h = refl
dual_env (suc zero) h = refl
dual_env (suc (suc zero)) h = refl
dual_env (suc (suc (suc d))) h = absurd (omega arith)

record Eighth (o : ℕ) : Type 0 where
  k : ℕ
  is : o ≡ 8 * k
  inside : k < 83

eighth : (w : Which) → Eighth (offset_at w)
eighth (pitch d h) = record { k = 45 + 4 * d; is = rw (dual_env d h) (omega arith); inside = omega arith }
eighth (amp d h) = record { k = 47 + 4 * d; is = rw (dual_env d h) (omega arith); inside = omega arith }
eighth (amp2 d h) = record { k = 48 + 4 * d; is = rw (dual_env d h) (omega arith); inside = omega arith }
eighth hat = record { k = 61; is = refl; inside = omega arith }
eighth (cymbal r h) = record { k = 62 + r; is = omega arith; inside = omega arith }
eighth (chain_amp v h) = record { k = 21 + v; is = omega arith; inside = omega arith }
eighth (chain_filter v h) = record { k = 37 + v; is = omega arith; inside = omega arith }
eighth (chain_amp_r v h) = record { k = 29 + v; is = omega arith; inside = omega arith }

one : (c : Bool) (t : ℕ) → t < 256 → Given
one c t h = record { frame = copies 83 (eight c t); bytes = copies_bytes 83 c t h; dac = replicate 16 (pos 0); fx = replicate 24 0; inputs = record { audio = record { l = k0; r = k0 }; ext = record { l = k0; r = k0 } } }

-- it is accepted
accepts : (c : Bool) (t : ℕ) (h : t < 256) → taken (step (one c t h)) ≡ true
unfolding one copies refusal_of all_in_range in_range inputs_ok input_ok of_bits neg le lt eq
accepts c t h = refl

carries : (c : Bool) (t : ℕ) (h : t < 256) (w : Which) → record_at (one c t h).frame w ≡ eight c t
unfolding one
carries c t h w = let e = eighth w in ap (bytes_at (copies 83 (eight c t))) e.is ∙ copy_at c t 83 e.k e.inside

-- ---- what it does to each kind of envelope
commanded : State → Bool
commanded (dual last x) = false
commanded (hit mode x) = true
commanded (State.chain_amp e) = false
commanded (State.chain_filter e) = false

commanded_after : (s : State) (r : List ℕ) → commanded (after_in s r) ≡ commanded s
unfolding commanded
commanded_after (dual last x) r = refl
commanded_after (hit mode x) r = refl
commanded_after (State.chain_amp e) r = refl
commanded_after (State.chain_filter e) r = refl

and_false : (a : Bool) → (a && false) ≡ false
and_false true = refl
and_false false = refl

restarts_nothing : (s : State) (t : ℕ) → (move_in s (eight (commanded s) t)).restarted ≡ false
unfolding commanded dual_move hit_move seg_move seg_starts record_of
restarts_nothing (dual last x) t = and_false (not (alike 8 (eight false t) last))
restarts_nothing (hit mode x) t = refl
restarts_nothing (State.chain_amp e) t = refl
restarts_nothing (State.chain_filter e) t = and_false (not (same_key (key_of (eight false t)) e.key))

stops_nothing : (s : State) (t : ℕ) → NeverStops s (eight (commanded s) t)
unfolding commanded record_of
stops_nothing (dual last x) t = tt
stops_nothing (hit mode x) t = tt
stops_nothing (State.chain_amp e) t = tt
stops_nothing (State.chain_filter e) t = tt

-- ---- the run
module _ (w : Which) (c : Bool) (t : ℕ) (h : t < 256) where
  again : Call
  again = step (one c t h)

  continues : (b : Analog) → commanded (state_at b w) ≡ c → Continues w (eight c t) b (one c t h)
  continues b e =
      let s = state_at b w in
      let m : (P : List ℕ → Type 0) → P (eight (commanded s) t) → P (record_at (one c t h).frame w) = λ P p. subst P (sym (carries c t h w)) (subst (λ (d : Bool). P (eight d t)) e p) in
      record {
        unchanged = carries c t h w;
        not_restarted = m (λ (r : List ℕ). (move_in s r).restarted ≡ false) (restarts_nothing s t);
        not_held = m (λ (r : List ℕ). (move_in s r).held ≡ false) (never_held s (eight (commanded s) t) (stops_nothing s t));
        not_parked = m (λ (r : List ℕ). (move_in s r).parked ≡ false) (never_parked s (eight (commanded s) t) (stops_nothing s t));
      }

  next_commanded : (b : Analog) → Good b → commanded (state_at b w) ≡ c → commanded (state_at (next_of b again) w) ≡ c
  unfolding again
  next_commanded b g e = ap commanded (call_state b (step (one c t h)) g w) ∙ by (taken (step (one c t h)))
    where
      by : (u : Bool) → commanded (cond u (after_in (state_at b w) (record_at (one c t h).frame w)) (state_at b w)) ≡ c
      by true = commanded_after (state_at b w) (record_at (one c t h).frame w) ∙ e
      by false = e

  runs : (n : ℕ) (b : Analog) → Good b → commanded (state_at b w) ≡ c → EachAccepted (Continues w (eight c t)) b (replicate n again) × (ticks_in w b (replicate n again) ≡ n)
  unfolding ticks_in again
  runs zero b g e = (tt, refl)
  runs (suc n) b g e =
      let k = continues b e in
      let i = runs n (next_of b (step (one c t h))) (call_good b (step (one c t h)) g) (next_commanded b g e) in (
        (λ a. k, i.0),
        (simp (accepts c t h, k.not_parked, k.not_held)) ∙ ap suc i.1,
      )

-- ---- away from the target
abbrev level : ℕ → Float
level t = level_of t

choice : Bool → ℕ
choice true = 2
choice false = 1

choice_byte : (u : Bool) → choice u < 256
unfolding choice
choice_byte true = omega arith
choice_byte false = omega arith

-- a level that is at most 1 is not 2, and one that is not at most 1 is not 1
away : (x : Float) → Level x → (u : Bool) → le x (level_of 1) ≡ u → Equal x (level_of (choice u)) → ⊥
unfolding choice level_of of_int round le lt eq
away x l true e q =
    let one' = level_at_lem (level_of 1) (level_in 1 (omega arith)) in
    let two' = level_at_lem (level_of 2) (level_in 2 (omega arith)) in
    let p = level_at_lem x l in
    ordered two'.is one'.is (le_trans (in_order two'.is p.is q.1) (in_order p.is one'.is (subst T (sym e) tt)))
away x l false e q = subst T e q.0

pub stretched : (b : Analog) → Good b → (w : Which) (n : ℕ) → Stretched b w n
unfolding again
stretched b g w n =
    let u = le (level_at b w) (level_of 1) in
    let c = commanded (state_at b w) in
    let r = runs w c (choice u) (choice_byte u) n b g refl in
    record {
      run = replicate n (again w c (choice u) (choice_byte u));
      bytes = eight c (choice u);
      stretch = r.0;
      ticking = r.1;
      away = unfold record_of in away (level_at b w) (good_levels b g w) u refl;
      arrived = λ k. run_arrives w (eight c (choice u)) b (replicate n (again w c (choice u) (choice_byte u))) g r.0 (rw r.1 k);
    }
