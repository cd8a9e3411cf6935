-- The square root of every `f32`, by the fields of its pattern. Assumes nothing.
use mathlib.Core.Path.{◌≡◌, refl, sym, ap, ap₂, ◌∙◌, subst}
use mathlib.Core.Logic.{◌⊎◌, inl, inr}
use mathlib.Core.Bool.{Bool, true, false, not, cond, true≢false}
use Prim.Native.Nat.{ℕ, zero, suc, ◌+◌, ◌-◌, ◌*◌, ◌/◌, ◌%◌, ◌^◌, ◌≤◌, ◌<◌}
use native.Mathlib.Nat.{add_comm, mul_right_comm, mul-pos, zero-mul, suc-ne-zero}
use native.Mathlib.Omega.{arith}
use lib.IntN.{ℤ}
use lib.Dec.{T, leb, ltb, eqb, lt→ltb, nleb→lt, eqb-suc-zero}
use lib.Arith.{le→nltb}
use lib.Pow.{pow_pos}
use lib.Ieee.{Float, nan, inf, fin, binary32, up, down, fits, of_bits, to_bits, of_fields}
use lib.Ieee.Fits.{down_pos, up_pos}
use lib.Ieee.Bits.{is_true, is_false, of_bits-to_bits, of_bits-fits}
use lib.Ieee.Exact.{HasValue}
use lib.Ieee.Scale.{finite}
use Rattle.root.specs.Root.{nearest_root, scaled, exponent, root_at, root_bits, sqrt_of, Correct, Root}
use Rattle.fixed.proofs.Fields.{zero_field, some_field, pattern}
use Rattle.root.proofs.Tests.{Some}
use Rattle.root.proofs.Middle.{le_or_lt, sqrt_rounding}
use Rattle.root.proofs.Scaled.{Sizes, sizes, sqrt_method, sqrt_reduction}

-- x is d * 2 ^ (f - 150)
pub record Parts (x : Float) (d f : ℕ) : Type 0 where
  pub some : 0 < d
  pub few : d < 16777216
  pub least : 1 ≤ f
  pub most : f ≤ 254
  pub is : HasValue x false (d * 2 ^ (f - 1)) (2 ^ 149)

-- ---- the root by the parts
module _ (d f : ℕ) (some : 0 < d) (few : d < 16777216) (least : 1 ≤ f) (most : f ≤ 254) where
  abbrev known : Sizes d f
  known = sizes d f some few least most

  correct_of : (p w : ℕ) (r : Float) → p * 2 ^ 149 ≡ d * 2 ^ (f - 1) * w → T (fits binary32 r) → HasValue r false (nearest_root (scaled d f) * 2 ^ exponent d f) (2 ^ 149) → Correct p w r
  correct_of p w nan e h v = v
  correct_of p w (inf s) e h v = v
  correct_of p w (fin s n k) e h v = (
    v.0,
    h,
    sqrt_rounding p w (n * up k) (down k) (scaled d f) (nearest_root (scaled d f)) (exponent d f) (down_pos k)
        (ap (λ (z : ℕ). z * 2 ^ 149) e ∙ mul_right_comm (d * 2 ^ (f - 1)) w (2 ^ 149) ∙ ap (λ (z : ℕ). z * w) (sqrt_reduction d f some few least most))
        v.1 (sqrt_method d f some few least most) known.root_low known.scaled_low,
  )

  root_at_lem : (p w : ℕ) → p * 2 ^ 149 ≡ d * 2 ^ (f - 1) * w → Correct p w (of_bits binary32 (root_at d f))
  unfolding root_at
  root_at_lem p w e =
      correct_of p w (of_bits binary32 (exponent d f * 8388608 + nearest_root (scaled d f))) e (of_bits-fits binary32 (exponent d f * 8388608 + nearest_root (scaled d f)))
      (pattern (exponent d f) (nearest_root (scaled d f)) (omega (arith, known)) known.root_low known.root_high)

-- ---- the parts of a positive number
module _ (m : ℕ) (e : ℤ) (h : T (fits binary32 (fin false (suc m) e))) where
  abbrev x : Float
  x = fin false (suc m) e

  same : of_fields binary32 (leb 2147483648 (to_bits binary32 x)) (to_bits binary32 x % 2147483648 / 8388608) (to_bits binary32 x % 8388608) ≡ x
  unfolding of_bits
  same = of_bits-to_bits binary32 x h

  positive : (a b c d : ℕ) → suc m * up e * c ≡ a * b * d → 0 < c → 0 < a
  positive zero b c d q cp = absurd (none (mul-pos (mul-pos {m = suc m} (omega arith) (up_pos e)) cp) (q ∙ ap (λ (z : ℕ). z * d) (zero-mul b) ∙ zero-mul d))
    where
      none : {a : ℕ} → 0 < a → a ≡ 0 → ⊥
      none p z = omega arith
  positive (suc a) b c d q cp = omega arith

  not_ones : (s : Bool) (t : ℕ) → of_fields binary32 s 255 t ≡ x → ⊥
  unfolding of_fields
  not_ones s t = go (eqb t 0)
    where
      go : (b : Bool) → cond b (inf s) nan ≡ x → ⊥
      go true q = true≢false (sym (ap finite q))
      go false q = true≢false (sym (ap finite q))

  fields : (s : Bool) (f t : ℕ) → f < 256 → t < 8388608 → of_fields binary32 s f t ≡ x → (s ≡ false) × ((f ≡ 0 → Parts x t 1) × ((f ≡ 0 → ⊥) → Parts x (t + 8388608) f))
  fields s zero t fl tl q =
      let v : HasValue x s (t * 2 ^ 0) (2 ^ 149) = subst (λ (y : Float). HasValue y s (t * 2 ^ 0) (2 ^ 149)) q (zero_field s t) in
      (sym v.0, ((λ z. record { some = positive t (2 ^ 0) (2 ^ 149) (down e) v.1 (pow_pos 149); few = omega arith; least = omega arith; most = omega arith; is = (refl, v.1) }), (λ n. absurd (n refl))))
  fields s (suc f) t fl tl q =
      let ne : f ≡ 254 → ⊥ = λ w. not_ones s t (ap (λ (y : ℕ). of_fields binary32 s (suc y) t) (sym w) ∙ q) in
      let v : HasValue x s ((8388608 + t) * 2 ^ f) (2 ^ 149) = subst (λ (y : Float). HasValue y s ((8388608 + t) * 2 ^ f) (2 ^ 149)) q (some_field s f t (omega arith)) in
      (sym v.0, ((λ z. absurd (suc-ne-zero f z)), (λ n. record { some = omega arith; few = omega arith; least = omega arith; most = omega arith; is = (refl, v.1 ∙ ap₂ (λ (y i : ℕ). y * 2 ^ i * down e) (add_comm 8388608 t) (less f)) })))
    where
      less : (f : ℕ) → f ≡ suc f - 1
      less f = omega arith

  told : (leb 2147483648 (to_bits binary32 x) ≡ false) × ((to_bits binary32 x % 2147483648 / 8388608 ≡ 0 → Parts x (to_bits binary32 x % 8388608) 1) × ((to_bits binary32 x % 2147483648 / 8388608 ≡ 0 → ⊥) → Parts x (to_bits binary32 x % 8388608 + 8388608) (to_bits binary32 x % 2147483648 / 8388608)))
  told = let b = to_bits binary32 x in fields (leb 2147483648 b) (b % 2147483648 / 8388608) (b % 8388608) (omega arith) (omega arith) same

  sign_clear : to_bits binary32 x < 2147483648
  sign_clear = nleb→lt 2147483648 (to_bits binary32 x) (subst (λ (z : Bool). T (not z)) (sym told.0) tt)

  low_parts : to_bits binary32 x < 8388608 → Parts x (to_bits binary32 x) 1
  low_parts l = let b = to_bits binary32 x in subst (λ (z : ℕ). Parts x z 1) (rest b l) (told.1.0 (omega arith))
    where
      rest : (b : ℕ) → b < 8388608 → b % 8388608 ≡ b
      rest b l = omega arith

  high_parts : 8388608 ≤ to_bits binary32 x → Parts x (to_bits binary32 x % 8388608 + 8388608) (to_bits binary32 x / 8388608)
  high_parts l = let b = to_bits binary32 x in subst (λ (z : ℕ). Parts x (b % 8388608 + 8388608) z) (rest b sign_clear) (told.1.1 (some b l sign_clear))
    where
      rest : (b : ℕ) → b < 2147483648 → b % 2147483648 / 8388608 ≡ b / 8388608
      rest b l = omega arith

      some : (b : ℕ) → 8388608 ≤ b → b < 2147483648 → b % 2147483648 / 8388608 ≡ 0 → ⊥
      some b l h z = omega arith

  -- the definition, by cases
  low_root : to_bits binary32 x < 8388608 → of_bits binary32 (root_at (to_bits binary32 x) 1) ≡ sqrt_of x
  unfolding sqrt_of root_bits
  low_root l = rw (eqb-suc-zero m, is_true (ltb (to_bits binary32 x) 8388608) (lt→ltb (to_bits binary32 x) 8388608 l))

  high_root : 8388608 ≤ to_bits binary32 x → of_bits binary32 (root_at (to_bits binary32 x % 8388608 + 8388608) (to_bits binary32 x / 8388608)) ≡ sqrt_of x
  unfolding sqrt_of root_bits
  high_root l = rw (eqb-suc-zero m, is_false (ltb (to_bits binary32 x) 8388608) (le→nltb (to_bits binary32 x) 8388608 l))

  root_of : Correct (suc m * up e) (down e) (sqrt_of x)
  root_of = go (le_or_lt 8388608 (to_bits binary32 x))
    where
      go : (8388608 ≤ to_bits binary32 x) ⊎ (to_bits binary32 x < 8388608) → Correct (suc m * up e) (down e) (sqrt_of x)
      go (inl h) = let p = high_parts h in subst (Correct (suc m * up e) (down e)) (high_root h) (root_at_lem (to_bits binary32 x % 8388608 + 8388608) (to_bits binary32 x / 8388608) p.some p.few p.least p.most (suc m * up e) (down e) p.is.1)
      go (inr l) = let p = low_parts l in subst (Correct (suc m * up e) (down e)) (low_root l) (root_at_lem (to_bits binary32 x) 1 p.some p.few p.least p.most (suc m * up e) (down e) p.is.1)

-- what holds of a number above 0, of the exponent's field f and the digits D
pub record Above (x : Float) (f D : ℕ) : Type 0 where
  pub low_parts : f ≡ 0 → Parts x (D - 8388608) 1
  pub high_parts : (f ≡ 0 → ⊥) → Parts x D f
  pub low_root : f ≡ 0 → of_bits binary32 (root_at (D - 8388608) 1) ≡ sqrt_of x
  pub high_root : (f ≡ 0 → ⊥) → of_bits binary32 (root_at D f) ≡ sqrt_of x

pub above : (x : Float) → Some x → T (fits binary32 x) → (f D : ℕ) → f ≡ to_bits binary32 x % 2147483648 / 8388608 → D ≡ to_bits binary32 x % 8388608 + 8388608 → Above x f D
above x s h f D ef ed = go (subst (λ (y : Float). T (fits binary32 y)) s.is h) (rw s.is at ef) (rw s.is at ed)
  where
    go : T (fits binary32 (fin false (suc s.m) s.e)) → f ≡ to_bits binary32 (fin false (suc s.m) s.e) % 2147483648 / 8388608 → D ≡ to_bits binary32 (fin false (suc s.m) s.e) % 8388608 + 8388608 → Above x f D
    go h ef ed = subst (λ (y : Float). Above y f D) (sym s.is) (make s.m s.e h ef ed)
      where
        make : (m : ℕ) (e : ℤ) → T (fits binary32 (fin false (suc m) e)) → f ≡ to_bits binary32 (fin false (suc m) e) % 2147483648 / 8388608 → D ≡ to_bits binary32 (fin false (suc m) e) % 8388608 + 8388608 → Above (fin false (suc m) e) f D
        make m e h ef ed =
            let clear = sign_clear m e h in
            let field : f ≡ to_bits binary32 (fin false (suc m) e) / 8388608 = omega arith in
            let low : f ≡ 0 → (to_bits binary32 (fin false (suc m) e) < 8388608) × (D - 8388608 ≡ to_bits binary32 (fin false (suc m) e)) = λ z. (omega arith, omega arith) in
            let high : (f ≡ 0 → ⊥) → 8388608 ≤ to_bits binary32 (fin false (suc m) e) = λ n. omega arith in
            record {
              low_parts = λ z. rw (low z).1 (low_parts m e h (low z).0);
              high_parts = λ n. rw (field, ed) (high_parts m e h (high n));
              low_root = λ z. rw (low z).1 (low_root m e h (low z).0);
              high_root = λ n. rw (field, ed) (high_root m e h (high n));
            }

-- ---- every value
pub sqrt_near : (x : Float) → T (fits binary32 x) → Root x (sqrt_of x)
unfolding sqrt_of
sqrt_near nan h = refl
sqrt_near (inf true) h = refl
sqrt_near (inf false) h = refl
sqrt_near (fin s zero e) h = refl
sqrt_near (fin true (suc m) e) h = rw (eqb-suc-zero m)
sqrt_near (fin false (suc m) e) h = root_of m e h
