-- What holds at the start and is kept by each turn holds at the end, of one run and of two beside each other; a sweep gives each element what its own rule gives; and so do turns that carry more than the list. Assumes nothing.
use Prim.Native.Nat.{ℕ, zero, suc, ◌≤◌, ◌<◌}
use native.Mathlib.Omega.{arith}
use native.Mathlib.Decide.{dec_lt}
use mathlib.Core.Path.{◌≡◌, refl, sym, ◌∙◌, ap, subst}
use mathlib.Core.List.{List, [], ◌∷◌}
use lib.ListN.{get_or, set, length, length-set}
use lib.Seq.{get_or-set_same, get_or-set_other}
use Rattle.lists.specs.Turns.{turns_of, each_of}

pub turns_keep : {S : Type 0} (P : S → Type 0) (n : ℕ) (g : ℕ → S → S) (s : S) → ((k : ℕ) (x : S) → k < n → P x → P (g k x)) → P s → P (turns_of n g s)
unfolding turns_of
turns_keep P zero g s h p = p
turns_keep P (suc n) g s h p = h n (turns_of n g s) (omega arith) (turns_keep P n g s (λ k x l. h k x (omega arith)) p)

-- two runs of turns, beside each other
pub turns_match : {S U : Type 0} (R : S → U → Type 0) (n : ℕ) (g : ℕ → S → S) (h : ℕ → U → U) (s : S) (u : U) → ((k : ℕ) (x : S) (y : U) → k < n → R x y → R (g k x) (h k y)) → R s u → R (turns_of n g s) (turns_of n h u)
unfolding turns_of
turns_match R zero g h s u each r = r
turns_match R (suc n) g h s u each r = each n (turns_of n g s) (turns_of n h u) (omega arith) (turns_match R n g h s u (λ k x y l. each k x y (omega arith)) r)

module _ {A : Type 0} (g : ℕ → A → A) (z : A) (l : List A) where
  pub each_length : (n : ℕ) → length (each_of n g z l) ≡ length l
  unfolding turns_of
  each_length zero = refl
  each_length (suc n) = length-set (each_of n g z l) n (g n (get_or (each_of n g z l) n z)) ∙ each_length n

  untouched : (n v : ℕ) → n ≤ v → get_or (each_of n g z l) v z ≡ get_or l v z
  unfolding turns_of
  untouched zero v h = refl
  untouched (suc n) v h =
      get_or-set_other (each_of n g z l) n v (g n (get_or (each_of n g z l) n z)) z (λ e. omega arith) ∙ untouched n v (omega arith)

  -- each of the first n by its rule
  pub each_at : (n v : ℕ) → v < n → n ≤ length l → get_or (each_of n g z l) v z ≡ g v (get_or l v z)
  unfolding turns_of
  each_at zero v h k = absurd (omega arith)
  each_at (suc n) v h k = by (λ i. each_at n v i (omega arith)) (dec_lt v n)
    where
      c : A
      c = g n (get_or (each_of n g z l) n z)

      by : (v < n → get_or (each_of n g z l) v z ≡ g v (get_or l v z)) → Dec (v < n) → get_or (set (each_of n g z l) n c) v z ≡ g v (get_or l v z)
      by rec (yes i) = get_or-set_other (each_of n g z l) n v c z (λ e. omega arith) ∙ rec i
      by rec (no i) =
          let e : v ≡ n = omega arith in
          rw e (get_or-set_same (each_of n g z l) n c z (rw (each_length n) k) ∙ ap (g n) (untouched n n (omega arith)))

-- an element put into a list keeps what holds of the one that is read, past the end too
pub set_keeps : {A : Type 0} (P : A → Type 0) (z : A) (l : List A) (k : ℕ) (x : A) (i : ℕ) → P (get_or l i z) → P x → P (get_or (set l k x) i z)
set_keeps P z [] k x i h p = h
set_keeps P z (y ∷ l) zero x zero h p = p
set_keeps P z (y ∷ l) zero x (suc i) h p = h
set_keeps P z (y ∷ l) (suc k) x zero h p = h
set_keeps P z (y ∷ l) (suc k) x (suc i) h p = set_keeps P z l k x i h p

-- turn n puts in the element of its number, and R holds between the old one and the new
pub record Turn {S A : Type 0} (list : S → List A) (z : A) (R : ℕ → A → A → Type 0) (n : ℕ) (s t : S) : Type 0 where
  pub put : A
  pub sets : list t ≡ set (list s) n put
  pub rule : R n (get_or (list s) n z) put

module _ {S A : Type 0} (list : S → List A) (z : A) (R : ℕ → A → A → Type 0) (g : ℕ → S → S) (each : (n : ℕ) (s : S) → Turn list z R n s (g n s)) (s : S) where
  pub turns_length : (n : ℕ) → length (list (turns_of n g s)) ≡ length (list s)
  unfolding turns_of
  turns_length zero = refl
  turns_length (suc n) =
      let e = each n (turns_of n g s) in
      ap length e.sets ∙ length-set (list (turns_of n g s)) n e.put ∙ turns_length n

  -- no turn of before has touched it
  pub turns_later : (n v : ℕ) → n ≤ v → get_or (list (turns_of n g s)) v z ≡ get_or (list s) v z
  unfolding turns_of
  turns_later zero v k = refl
  turns_later (suc n) v k =
      let e = each n (turns_of n g s) in
      ap (λ (l : List A). get_or l v z) e.sets ∙ get_or-set_other (list (turns_of n g s)) n v e.put z (λ i. omega arith) ∙ turns_later n v (omega arith)

  pub turns_at : (n v : ℕ) → v < n → n ≤ length (list s) → R v (get_or (list s) v z) (get_or (list (turns_of n g s)) v z)
  unfolding turns_of
  turns_at zero v i k = absurd (omega arith)
  turns_at (suc n) v i k = by (λ j. turns_at n v j (omega arith)) (dec_lt v n)
    where
      t : S
      t = turns_of n g s

      e : Turn list z R n t (g n t)
      e = each n t

      by : (v < n → R v (get_or (list s) v z) (get_or (list t) v z)) → Dec (v < n) → R v (get_or (list s) v z) (get_or (list (g n t)) v z)
      by rec (yes j) = subst (λ (x : A). R v (get_or (list s) v z) x) (sym (ap (λ (l : List A). get_or l v z) e.sets ∙ get_or-set_other (list t) n v e.put z (λ q. omega arith))) (rec j)
      by rec (no j) =
          let q : v ≡ n = omega arith in
          let old : get_or (list t) n z ≡ get_or (list s) n z = turns_later n n (omega arith) in
          let new : get_or (list (g n t)) n z ≡ e.put = ap (λ (l : List A). get_or l n z) e.sets ∙ get_or-set_same (list t) n e.put z (rw (turns_length n) k) in
          rw q (subst (λ (x : A). R n x (get_or (list (g n t)) n z)) old (subst (λ (x : A). R n (get_or (list t) n z) x) (sym new) e.rule))
