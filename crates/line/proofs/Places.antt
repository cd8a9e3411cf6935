-- A place on a line of natural numbers for each signed number of units, o for zero: the order is that of the places, and the exact sum has the place that the two places give. Assumes nothing.
use mathlib.Core.Path.{◌≡◌, refl, sym, ap, ◌∙◌, subst}
use mathlib.Core.Logic.{inl, inr}
use Prim.Native.Nat.{ℕ, suc, ◌+◌, ◌-◌, ◌≤◌, ◌<◌}
use native.Mathlib.Nat.{eq-or-lt_of_le, le_of_eq, le_of_lt, not-le_of_lt}
use native.Mathlib.Omega.{arith}
use mathlib.Core.Bool.{Bool, true, false, not, ◌&&◌, ◌||◌, cond}
use lib.Dec.{T, leb, ltb, eqb, le→leb, leb→le, ltb→lt, lt→ltb, nltb→le, eqb→eq}
use lib.Ieee.{below, level, Format, round, sum}
use lib.Ieee.Fits.{and_i, and_l, and_r, eq→eqb}
use Rattle.line.proofs.Bools.{bool_ext, or_l, or_r, or_e}

-- ---- a place on the line: o stands for zero, and what lies below it is counted down from it
abbrev pub Pos : ℕ → Bool → ℕ → ℕ → Type 0
Pos o false q p = p ≡ o + q
Pos o true q p = p + q ≡ o

le_num : (a b : ℕ) → ltb a b || (eqb a b && true) ≡ leb a b
le_num a b = bool_ext (ltb a b || (eqb a b && true)) (leb a b) to from
  where
    to : T (ltb a b || (eqb a b && true)) → T (leb a b)
    to t = le→leb a b (or_e (ltb a b) (eqb a b && true) (λ h. le_of_lt (ltb→lt a b h)) (λ h. le_of_eq (eqb→eq a b (and_l (eqb a b) true h))) t)

    from : T (leb a b) → T (ltb a b || (eqb a b && true))
    from t = elim (eq-or-lt_of_le (leb→le a b t)) [
      | inl e ↦ or_r (ltb a b) (eqb a b && true) (and_i (eqb a b) true (eq→eqb e) tt)
      | inr l ↦ or_l (ltb a b) (eqb a b && true) (lt→ltb a b l)
    ]

leb_same : (a b c d : ℕ) → (a ≤ b → c ≤ d) → (c ≤ d → a ≤ b) → leb a b ≡ leb c d
leb_same a b c d h k = bool_ext (leb a b) (leb c d) (λ t. le→leb c d (h (leb→le a b t))) (λ t. le→leb a b (k (leb→le c d t)))

pub eqb_sym : (a b : ℕ) → eqb a b ≡ eqb b a
eqb_sym a b = bool_ext (eqb a b) (eqb b a) (λ t. eq→eqb (sym (eqb→eq a b t))) (λ t. eq→eqb (sym (eqb→eq b a t)))

pub le_pos : (o : ℕ) (s : Bool) (q : ℕ) (t : Bool) (r p p' : ℕ) → Pos o s q p → Pos o t r p' → below s q t r || level s q t r ≡ leb p p'
le_pos o false q false r p p' h k = le_num q r ∙ leb_same q r p p' (λ x. omega arith) (λ x. omega arith)
le_pos o true q true r p p' h k = ap (λ (z : Bool). ltb r q || (z && true)) (eqb_sym q r) ∙ le_num r q ∙ leb_same r q p p' (λ x. omega arith) (λ x. omega arith)
le_pos o true q false r p p' h k = bool_ext (ltb 0 (q + r) || (eqb q r && eqb q 0)) (leb p p') (λ t. le→leb p p' (omega arith)) (λ t. go (ltb 0 (q + r)) refl)
  where
    go : (b : Bool) → ltb 0 (q + r) ≡ b → T (b || (eqb q r && eqb q 0))
    go true e = tt
    go false e =
        let z : q + r ≤ 0 = nltb→le 0 (q + r) (subst (λ (w : Bool). T (not w)) (sym e) tt) in
        and_i (eqb q r) (eqb q 0) (eq→eqb {a = q} {b = r} (omega arith)) (eq→eqb {a = q} {b = 0} (omega arith))
le_pos o false q true r p p' h k =
    bool_ext (eqb q r && eqb q 0) (leb p p')
    (λ t. let a : q ≡ r = eqb→eq q r (and_l (eqb q r) (eqb q 0) t) in let b : q ≡ 0 = eqb→eq q 0 (and_r (eqb q r) (eqb q 0) t) in le→leb p p' (omega arith))
    (λ t. let a : p ≤ p' = leb→le p p' t in and_i (eqb q r) (eqb q 0) (eq→eqb {a = q} {b = r} (omega arith)) (eq→eqb {a = q} {b = 0} (omega arith)))

pub lt_pos : (o : ℕ) (s : Bool) (q : ℕ) (t : Bool) (r p p' : ℕ) → Pos o s q p → Pos o t r p' → below s q t r ≡ ltb p p'
lt_pos o false q false r p p' h k = leb_same (suc q) r (suc p) p' (λ x. omega arith) (λ x. omega arith)
lt_pos o true q true r p p' h k = leb_same (suc r) q (suc p) p' (λ x. omega arith) (λ x. omega arith)
lt_pos o true q false r p p' h k = leb_same 1 (q + r) (suc p) p' (λ x. omega arith) (λ x. omega arith)
lt_pos o false q true r p p' h k = bool_ext false (ltb p p') (λ t. absurd t) (λ t. let a : p < p' = ltb→lt p p' t in not-le_of_lt a (omega arith))

-- the exact sum's place z, with z - o = (p - o) + (p' - o), is what is rounded
pub sum_pos : (f : Format) (o l : ℕ) (s : Bool) (q : ℕ) (t : Bool) (r p p' z : ℕ) → Pos o s q p → Pos o t r p' → z + o ≡ p + p'
    → (u : Bool) × (n : ℕ) × (sum f s q t r l ≡ round f u n l) × Pos o u n z
unfolding sum
sum_pos f o l false q false r p p' z h k e = (false, q + r, refl, omega arith)
sum_pos f o l true q true r p p' z h k e = (true, q + r, refl, omega arith)
sum_pos f o l false q true r p p' z h k e = go (ltb q r) (ltb→lt q r) (nltb→le q r)
  where
    go : (b : Bool) → (T b → q < r) → (T (not b) → r ≤ q) → (u : Bool) × (n : ℕ) × (cond b (round f true (r - q) l) (round f false (q - r) l) ≡ round f u n l) × Pos o u n z
    go true a b = let g = a tt in (true, r - q, refl, omega arith)
    go false a b = let g = b tt in (false, q - r, refl, omega arith)
sum_pos f o l true q false r p p' z h k e = go (ltb q r) (ltb r q) (ltb→lt q r) (nltb→le q r) (nltb→le r q)
  where
    go : (b c : Bool) → (T b → q < r) → (T (not b) → r ≤ q) → (T (not c) → q ≤ r)
        → (u : Bool) × (n : ℕ) × (cond b (round f false (r - q) l) (round f c (q - r) l) ≡ round f u n l) × Pos o u n z
    go true c a b d = let g = a tt in (false, r - q, refl, omega arith)
    go false true a b d = let g = b tt in (true, q - r, refl, omega arith)
    go false false a b d = let g = b tt in let i = d tt in (false, q - r, refl, omega arith)

-- the place of ±q
abbrev pub spot : ℕ → Bool → ℕ → ℕ
spot o false q = o + q
spot o true q = o - q

pub spot_pos : (o : ℕ) (s : Bool) (q : ℕ) → q ≤ o → Pos o s q (spot o s q)
spot_pos o false q h = refl
spot_pos o true q h = omega arith
