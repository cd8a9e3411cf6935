-- What the voices of a step do to each chain: its own sample, from some input; and every receive word stays within ±8,388,607. Assumes nothing.
use Prim.Native.Nat.{ℕ, zero, suc, ◌≤◌, ◌<◌}
use native.Mathlib.Omega.{arith}
use mathlib.Core.Path.{◌≡◌, refl}
use mathlib.Core.List.{List}
use lib.ListN.{get_or, set, length, replicate}
use lib.Dec.{lit≤}
use lib.IntN.{ℤ, pos, nat_abs}
use lib.Ieee.{Float, binary32}
use lib.Ieee.Fits.{mul-fits}
use Rattle.float.specs.Consts.{k0p5}
use Rattle.float.specs.Ops.{◌⊗◌}
use Rattle.float.specs.Floats.{to24_of}
use Rattle.float.proofs.Laws.{word_in}
use Rattle.lists.proofs.Sweep.{turns_keep, set_keeps, Turn, turns_length, turns_at}
use Rattle.chain.specs.declared.Chain.{Chain}
use Rattle.chain.specs.Chain.{no_chain, process_of}
use Rattle.bus.specs.Bus.{Bus, input_of, turn_of, voices_of, sample_of, InWordRange}

-- ---- each chain by its own sample
pub record ChainBy (f : List ℕ) (v : ℕ) (old new : Chain) : Type 0 where
  pub x : Float
  pub is : new ≡ (process_of f v x old).chain

module _ (f : List ℕ) (dac : List ℤ) (src : List Float) (chains : List Chain) where
  abbrev pub Fed : ℕ → Chain → Chain → Type 0
  Fed v old new = new ≡ (process_of f v (input_of dac src v) old).chain

  pub turn : (v : ℕ) (b : Bus) → Turn (λ (y : Bus). y.chains) no_chain Fed v b (turn_of f dac src v b)
  unfolding turn_of
  turn v b = record { put = (process_of f v (input_of dac src v) (get_or b.chains v no_chain)).chain; sets = refl; rule = refl }

  pub chains_long : length (voices_of f dac src chains).chains ≡ length chains
  unfolding voices_of
  chains_long = turns_length (λ (y : Bus). y.chains) no_chain Fed (turn_of f dac src) turn _ 8

  pub own_chain : length chains ≡ 8 → (v : ℕ) → v < 8 → get_or (voices_of f dac src chains).chains v no_chain ≡ (sample_of f dac src chains v).chain
  unfolding voices_of sample_of
  own_chain e v h = turns_at (λ (y : Bus). y.chains) no_chain Fed (turn_of f dac src) turn _ 8 v h (omega arith)

  pub chain_by : length chains ≡ 8 → (v : ℕ) → v < 8 → ChainBy f v (get_or chains v no_chain) (get_or (voices_of f dac src chains).chains v no_chain)
  unfolding sample_of
  chain_by e v h = record { x = input_of dac src v; is = own_chain e v h }

-- ---- the words
-- a half sample put in as a word
pub words_set : (l : List ℤ) (i : ℕ) (x : Float) → InWordRange l → InWordRange (set l i (to24_of (x ⊗ k0p5)))
words_set l i x a k = set_keeps (λ (w : ℤ). nat_abs w ≤ 8388607) (pos 0) l i (to24_of (x ⊗ k0p5)) k (a k) (word_in (x ⊗ k0p5) (mul-fits binary32 x k0p5))

pub words_zero : (n : ℕ) → InWordRange (replicate n (pos 0))
words_zero zero k = lit≤ tt
words_zero (suc n) zero = lit≤ tt
words_zero (suc n) (suc k) = words_zero n k

pub voices_in : (f : List ℕ) (dac : List ℤ) (src : List Float) (chains : List Chain) → InWordRange (voices_of f dac src chains).rx
unfolding voices_of turn_of
voices_in f dac src chains = turns_keep (λ (b : Bus). InWordRange b.rx) 8 (turn_of f dac src) _ (λ v b l a. words_set b.rx v _ a) (words_zero 12)
