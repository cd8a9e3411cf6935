-- The remainder by 1 as the code finds it: below 1 it is the number itself, below 2^23 the number less its whole part, and from there on nothing. Assumes nothing.
use Rattle.std.proofs.Common.{◌≡◌, ℕ, suc, ◌+◌, ◌-◌, ◌*◌, ◌/◌, ◌%◌, ◌^◌, ◌<◌, ◌≤◌, min, Bool, true, false, not, T, ltb, ℤ, pos, negsuc, sym, refl, ap, ◌∙◌, subst, le_refl, mul-le-mul_right, mod-lt, mod-eq_of_lt, mul_assoc, mul_comm, div-lt_iff_lt-mul, mul-pos, zero-mul, mul-one, mul_right_comm, arith, lit<, pow_pos, ltb-false, ltb-true, le-ltb}
use native.Mathlib.Nat.{mod-one, sub_self, mod-add-div', add-mul-mod_self_right, pow-succ'}
use lib.Ieee.{Float, binary32, nan, inf, fin, low, up, down, round, sum, add, sub, neg, rem, lt, fits, of_int, to_signed}
use lib.Ieee.Back.{round_whole}
use lib.Ieee.Exact.{HasValue}
use lib.Ieee.Fits.{down_pos, rem-fits}
use lib.Ieee.Scale.{round_same}
use Rattle.line.proofs.Units.{Is, sub_mul}
use Rattle.line.proofs.Rounds.{rep_same, exact_at}
use Rattle.line.proofs.Exact.{value_unique}
use Rattle.line.proofs.Mono.{Good, good_is, units_of, neg_round}
use Rattle.line.proofs.Rem.{one, nought, rem_is, fits_parts}
use Rattle.float.proofs.Never.{no}

-- ---- below 1: the number itself
own : (s : Bool) (m : ℕ) (e : ℤ) → T (fits binary32 (fin s m e)) → m * up e < down e → fin s m e ≡ rem binary32 (fin s m e) one
own s m e t less =
    let x = fin s m e in
    let g : Good binary32 x = (t, tt) in
    let q = units_of binary32 x g in
    let i : Is binary32 x s q = good_is binary32 x g in
    let r : rem binary32 x one ≡ round binary32 s q (2 ^ low binary32) =
    rem_is binary32 s m e ∙ ap (λ (z : ℕ). round binary32 s z (down e)) (mod-eq_of_lt less)
    ∙ round_same binary32 s (m * up e) (down e) q (2 ^ low binary32) (down_pos e) (pow_pos (low binary32)) i.1 in
    value_unique binary32 x (rem binary32 x one) s q t (rem-fits binary32 x one t) i
    (subst (λ (z : Float). Is binary32 z s q) (sym r) (exact_at binary32 s q (rep_same binary32 x s q t i)))

pub rem_below_one : (x : Float) → T (fits binary32 x) → lt x nought ≡ false → lt x one ≡ true → x ≡ rem binary32 x one
unfolding lt
rem_below_one nan t h k = no k
rem_below_one (inf true) t h k = no (sym h)
rem_below_one (inf false) t h k = no k
rem_below_one (fin false m e) t h k = let p = ltb-true (m * up e * 1) (1 * 1 * down e) k in own false m e t (omega arith)
rem_below_one (fin true m e) t h k =
    let p = ltb-false 0 (m * up e * 1 + 0 * 1 * down e) h in
    let d = down_pos e in
    own true m e t (omega arith)

-- ---- the number less its whole part w
taken : (p w d : ℕ) → w * d ≤ p → p < w * d + d → p - w * d ≡ p % d
taken p w d a b =
    let r : p - w * d + w * d ≡ p = omega arith in
    sym (mod-eq_of_lt (omega arith)) ∙ sym (add-mul-mod_self_right (p - w * d) w d) ∙ ap (λ (z : ℕ). z % d) r

less_whole : (m : ℕ) (e : ℤ) (y : Float) (w : ℕ) → HasValue y false w 1 → w * down e ≤ m * up e → m * up e < w * down e + down e
    → sub binary32 (fin false m e) y ≡ rem binary32 (fin false m e) one
unfolding sub add neg sum
less_whole m e nan w h a b = absurd h
less_whole m e (inf t) w h a b = absurd h
less_whole m e (fin true n k) w h a b = no (sym h.0)
less_whole m e (fin false n k) w h a b =
    let p = m * up e in
    let d = down e in
    let c = down k in
    let v : n * up k * d ≡ w * d * c = ap (λ (z : ℕ). z * d) (sym (mul-one (n * up k)) ∙ h.1) ∙ mul_right_comm w c d in
    let over : ltb (p * c) (n * up k * d) ≡ false = le-ltb (p * c) (n * up k * d) (rw v (mul-le-mul_right c a)) in
    let left : p * c - n * up k * d ≡ p % d * c = ap (λ (z : ℕ). p * c - z) v ∙ sym (sub_mul p (w * d) c) ∙ ap (λ (z : ℕ). z * c) (taken p w d a b) in
    rw over (ap (λ (z : ℕ). round binary32 false z (d * c)) left
    ∙ round_same binary32 false (p % d * c) (d * c) (p % d) d (mul-pos (down_pos e) (down_pos k)) (down_pos e) (mul_assoc (p % d) c d ∙ ap (λ (z : ℕ). p % d * z) (mul_comm c d))
    ∙ sym (rem_is binary32 false m e))

pub rem_below_two : (x : Float) → lt x one ≡ false → lt x (fin false 1 (pos 1)) ≡ true → sub binary32 x one ≡ rem binary32 x one
unfolding lt
rem_below_two nan h k = no k
rem_below_two (inf true) h k = no (sym h)
rem_below_two (inf false) h k = no k
rem_below_two (fin false m e) h k =
    let p = ltb-false (m * up e * 1) (1 * 1 * down e) h in
    let q = ltb-true (m * up e * 1) (2 * down e) k in
    less_whole m e one 1 (refl, refl) (omega arith) (omega arith)
rem_below_two (fin true m e) h k =
    let p = ltb-false 0 (m * up e * 1 + 1 * 1 * down e) h in
    let d = down_pos e in
    absurd (omega arith)

-- below 2^23 the whole part is an i32, and a float exactly
pub rem_by_cut : (x : Float) → lt x one ≡ false → lt x (fin false 1 (pos 23)) ≡ true → sub binary32 x (of_int binary32 (to_signed 31 x)) ≡ rem binary32 x one
unfolding lt to_signed of_int
rem_by_cut nan h k = no k
rem_by_cut (inf true) h k = no (sym h)
rem_by_cut (inf false) h k = no k
rem_by_cut (fin true m e) h k =
    let p = ltb-false 0 (m * up e * 1 + 1 * 1 * down e) h in
    let d = down_pos e in
    absurd (omega arith)
rem_by_cut (fin false m e) h k =
    let d = down_pos e in
    let p = m * up e in
    let w = p / down e in
    let below = ltb-true (p * 1) (8388608 * down e) k in
    let small : w < 8388608 = (div-lt_iff_lt-mul d).1 (omega arith) in
    let kept : min w 2147483647 ≡ w = omega arith in
    let whole = mod-add-div' p (down e) in
    let rest = mod-lt p d in
    rw kept (less_whole m e (round binary32 false w 1) w (round_whole binary32 false w (omega arith)) (omega arith) (omega arith))

-- ---- from 2^23 on: every float is whole
zero_rounds : (s : Bool) (c : ℕ) → 0 < c → round binary32 s 0 c ≡ fin s 0 (pos 0)
zero_rounds s c C = round_same binary32 s 0 c 0 1 C (lit< tt) (zero-mul 1 ∙ sym (zero-mul c)) ∙ one s
  where
    one : (s : Bool) → round binary32 s 0 1 ≡ fin s 0 (pos 0)
    one true = unfold round in refl
    one false = unfold round in refl

cancels : (s : Bool) (a c : ℕ) → 0 < c → sum binary32 s a (not s) a c ≡ fin false 0 (pos 0)
unfolding sum
cancels true a c C = rw (le-ltb a a (le_refl a), sub_self a) (zero_rounds false c C)
cancels false a c C = rw (le-ltb a a (le_refl a), sub_self a) (zero_rounds false c C)

pub less_itself : (s : Bool) (m : ℕ) (e : ℤ) → sub binary32 (fin s m e) (fin s m e) ≡ nought
unfolding sub add neg
less_itself s m e = cancels s (m * up e * down e) (down e * down e) (mul-pos (down_pos e) (down_pos e))

big_whole : (m : ℕ) (e : ℤ) → m < 2 ^ 24 → 8388608 * down e ≤ m * up e → m * up e % down e ≡ 0
big_whole m (pos k) a b = mod-one (m * 2 ^ k)
big_whole m (negsuc k) a b = let p : 2 ^ suc k ≡ 2 * 2 ^ k = pow-succ' 2 k in let q = pow_pos k in absurd (omega arith)

pub rem_whole : (x : Float) → T (fits binary32 x) → lt x (fin false 1 (pos 23)) ≡ false → sub binary32 x x ≡ rem binary32 x one
unfolding lt
rem_whole nan t h = unfold sub add rem in refl
rem_whole (inf true) t h = no (sym h)
rem_whole (inf false) t h = unfold sub add neg rem in refl
rem_whole (fin true m e) t h =
    let p = ltb-false 0 (m * up e * 1 + 8388608 * down e) h in
    let d = down_pos e in
    absurd (omega arith)
rem_whole (fin false m e) t h =
    let p = ltb-false (m * up e * 1) (8388608 * down e) h in
    less_itself false m e
    ∙ sym (rem_is binary32 false m e ∙ ap (λ (z : ℕ). round binary32 false z (down e)) (big_whole m e (fits_parts binary32 false m e t).0 (omega arith)) ∙ zero_rounds false (down e) (down_pos e))

-- ---- below 0: the sign turned, twice
pub not_below : (x : Float) → lt x nought ≡ true → lt (neg x) nought ≡ false
unfolding lt neg
not_below nan h = no h
not_below (inf true) h = refl
not_below (inf false) h = no h
not_below (fin true m e) h = le-ltb (m * up e * 1) (0 * 1 * down e) (omega arith)
not_below (fin false m e) h = let p = ltb-true (m * up e * 1) (0 * 1 * down e) h in absurd (omega arith)

pub rem_turned : (x : Float) → lt x nought ≡ true → neg (rem binary32 (neg x) one) ≡ rem binary32 x one
unfolding lt neg
rem_turned nan h = no h
rem_turned (inf true) h = unfold rem in refl
rem_turned (inf false) h = no h
rem_turned (fin false m e) h = let p = ltb-true (m * up e * 1) (0 * 1 * down e) h in absurd (omega arith)
rem_turned (fin true m e) h = ap neg (rem_is binary32 false m e) ∙ sym (neg_round binary32 (m * up e % down e) (down e)) ∙ sym (rem_is binary32 true m e)
