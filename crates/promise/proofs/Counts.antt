-- There are 42 levels and 18 phases: a list of each has every one of them, at one place alone. Assumes nothing.
use Prim.Native.Nat.{ℕ, zero, suc, ◌+◌, ◌<◌}
use native.Mathlib.Nat.{suc-le-suc_iff, zero-lt-suc, le_of_suc-le-suc, zero-add, suc-add}
use native.Mathlib.Bridge.{le_prop}
use native.Mathlib.Omega.{arith}
use mathlib.Core.Path.{◌≡◌, refl, sym, ap, ◌∙◌}
use mathlib.Core.List.{List, [], ◌∷◌, ◌++◌, map, append-nil}
use lib.ListN.{get_or, length}
use Rattle.promise.specs.Levels.{below, Which, pitch, amp, amp2, hat, cymbal, chain_amp, chain_filter, chain_amp_r, levels, place_of, Osc, dual1, dual2, hat_osc, cym_osc, phases, phase_place}

-- the numbers from i on, n of them
pub up_from : ℕ → ℕ → List ℕ
up_from i zero = []
up_from i (suc n) = i ∷ up_from (suc i) n

module _ {A : Type 0} (o : A) where
  -- a family's own part of a list, and what follows it
  here : (n : ℕ) (c : (i : ℕ) → i < n → A) (l : List A) (i : ℕ) (h : i < n) → get_or (below n c ++ l) i o ≡ c i h
  unfolding below
  here zero c l i h = absurd (omega arith)
  here (suc n) c l zero h = ap (λ (k : 0 < suc n). c 0 k) (le_prop (zero-lt-suc n) h)
  here (suc n) c l (suc i) h =
      here n (λ i k. c (suc i) (suc-le-suc_iff.1 k)) l i (le_of_suc-le-suc h)
      ∙ ap (λ (k : suc i < suc n). c (suc i) k) (le_prop (suc-le-suc_iff.1 (le_of_suc-le-suc h)) h)

  past : (n : ℕ) (c : (i : ℕ) → i < n → A) (l : List A) (i : ℕ) → get_or (below n c ++ l) (n + i) o ≡ get_or l i o
  unfolding below
  past zero c l i = rw (zero-add i)
  past (suc n) c l i = rw (suc-add n i) (past n (λ i k. c (suc i) (suc-le-suc_iff.1 k)) l i)

  last : (n : ℕ) (c : (i : ℕ) → i < n → A) (i : ℕ) (h : i < n) → get_or (below n c) i o ≡ c i h
  last n c i h = ap (λ (l : List A). get_or l i o) (sym (append-nil (below n c))) ∙ here n c [] i h

-- a list of n things, each where its place says, and no place for two
pub record Counted {A : Type 0} (n : ℕ) (all : List A) (place : A → ℕ) : Type 0 where
  pub count : length all ≡ n
  pub has : (o a : A) → get_or all (place a) o ≡ a
  pub once : map place all ≡ up_from 0 n

many : length levels ≡ 42
unfolding levels below
many = refl

pub levels_42 : Counted 42 levels place_of
unfolding levels below up_from
levels_42 = record { count = many; has = has; once = refl }
  where
    -- what follows each family
    f7 : List Which
    f7 = below 8 chain_amp_r

    f6 : List Which
    f6 = below 8 chain_filter ++ f7

    f5 : List Which
    f5 = below 8 chain_amp ++ f6

    f4 : List Which
    f4 = below 8 cymbal ++ f5

    f3 : List Which
    f3 = below 1 (λ i h. hat) ++ f4

    f2 : List Which
    f2 = below 3 amp2 ++ f3

    f1 : List Which
    f1 = below 3 amp ++ f2

    to3 : (o : Which) (i : ℕ) → get_or levels (3 + (3 + (3 + i))) o ≡ get_or f3 i o
    to3 o i = past o 3 pitch f1 (3 + (3 + i)) ∙ past o 3 amp f2 (3 + i) ∙ past o 3 amp2 f3 i

    to4 : (o : Which) (i : ℕ) → get_or levels (3 + (3 + (3 + (1 + i)))) o ≡ get_or f4 i o
    to4 o i = to3 o (1 + i) ∙ past o 1 (λ i h. hat) f4 i

    has : (o a : Which) → get_or levels (place_of a) o ≡ a
    has o (pitch d h) = here o 3 pitch f1 d h
    has o (amp d h) = past o 3 pitch f1 d ∙ here o 3 amp f2 d h
    has o (amp2 d h) = past o 3 pitch f1 (3 + d) ∙ past o 3 amp f2 d ∙ here o 3 amp2 f3 d h
    has o hat = to3 o 0 ∙ here o 1 (λ i h. hat) f4 0 (zero-lt-suc 0)
    has o (cymbal r h) = to4 o r ∙ here o 8 cymbal f5 r h
    has o (chain_amp v h) = to4 o (8 + v) ∙ past o 8 cymbal f5 v ∙ here o 8 chain_amp f6 v h
    has o (chain_filter v h) = to4 o (8 + (8 + v)) ∙ past o 8 cymbal f5 (8 + v) ∙ past o 8 chain_amp f6 v ∙ here o 8 chain_filter f7 v h
    has o (chain_amp_r v h) =
        to4 o (8 + (8 + (8 + v))) ∙ past o 8 cymbal f5 (8 + (8 + v)) ∙ past o 8 chain_amp f6 (8 + v) ∙ past o 8 chain_filter f7 v ∙ last o 8 chain_amp_r v h

pub phases_18 : Counted 18 phases phase_place
unfolding phases below up_from
phases_18 = record { count = refl; has = has; once = refl }
  where
    f3 : List Osc
    f3 = below 6 cym_osc

    f2 : List Osc
    f2 = below 6 hat_osc ++ f3

    f1 : List Osc
    f1 = below 3 dual2 ++ f2

    has : (o a : Osc) → get_or phases (phase_place a) o ≡ a
    has o (dual1 d h) = here o 3 dual1 f1 d h
    has o (dual2 d h) = past o 3 dual1 f1 d ∙ here o 3 dual2 f2 d h
    has o (hat_osc k h) = past o 3 dual1 f1 (3 + k) ∙ past o 3 dual2 f2 k ∙ here o 6 hat_osc f3 k h
    has o (cym_osc k h) = past o 3 dual1 f1 (3 + (6 + k)) ∙ past o 3 dual2 f2 (6 + k) ∙ past o 6 hat_osc f3 k ∙ last o 6 cym_osc k h
