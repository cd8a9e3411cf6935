-- A number's digits one by one, its sign, and words one after the other; and std's digits of a number are `decimal_of` it. Assumes nothing.
use Rattle.std.proofs.Common.{◌≡◌, true, false, true≢false, refl, nat_abs, ltb-true, sym, ap, ◌∙◌, ℕ, zero, suc, ◌+◌, ◌-◌, ◌/◌, ◌%◌, ◌^◌, ◌≤◌, ◌<◌, List, [], ◌∷◌, ◌++◌, append_assoc, length, get_or, drop, ℤ, pos, negsuc, arith}
use native.Mathlib.Numerals.{add-one, sub-one}
use borrow.Author.Tests.{lt-ltb, le-ltb}
use lib.Seq.{drop-cons}
use lib.Signed.{lt_z}
use Rattle.std.specs.Fmt.{decimal}
use Rattle.std.proofs.lemmas.Fmt.{AppendsLastDigit, decimal_from_appends, length-decimal-le}
use Rattle.text.specs.Text.{digits_of, decimal_of, signed_of, words_of}

pub one_digit : (k n : ℕ) → (k ≡ 0 → ⊥) → n < 10 → digits_of k n ≡ (48 + n) ∷ []
unfolding digits_of
one_digit zero n f h = absurd (f refl)
one_digit (suc k) n f h = rw (lt-ltb n 10 h)

pub more_digits : (k n : ℕ) → (k ≡ 0 → ⊥) → 10 ≤ n → digits_of k n ≡ digits_of (k - 1) (n / 10) ++ ((48 + n % 10) ∷ [])
unfolding digits_of
more_digits zero n f h = absurd (f refl)
more_digits (suc k) n f h = rw (sub-one, le-ltb n 10 h)

appends : AppendsLastDigit digits_of
unfolding digits_of
appends = record { one = λ k n h. rw (lt-ltb n 10 h); more = λ k n h. rw (le-ltb n 10 h) }

-- every number of 32 bits
pub decimal_same : (n : ℕ) → n < 2 ^ 32 → decimal n ≡ decimal_of n
decimal_same n h = sym (decimal_from_appends digits_of appends 10 n (omega arith) (length-decimal-le 10 n (omega arith) (omega arith) (omega arith)))

pub with_sign_lem : (w : ℤ) → lt_z w (pos 0) ≡ true → signed_of w ≡ 45 ∷ decimal_of (nat_abs w)
unfolding signed_of
with_sign_lem (pos n) h = absurd (omega (arith, ltb-true n 0 h))
with_sign_lem (negsuc n) h = refl

pub without_sign : (w : ℤ) → lt_z w (pos 0) ≡ false → signed_of w ≡ decimal_of (nat_abs w)
unfolding signed_of
without_sign (pos n) h = refl
without_sign (negsuc n) h = absurd (true≢false h)

-- x with the words from i on is p: so is z, which has word i after x, with the words after it
pub one_word : (x y z p : List ℕ) (rx : List ℤ) (i : ℕ) (w : ℤ) → i < length rx → w ≡ get_or rx i (pos 0) → y ≡ x ++ (32 ∷ []) → z ≡ y ++ signed_of w →
    x ++ words_of (drop i rx) ≡ p → z ++ words_of (drop (i + 1) rx) ≡ p
unfolding words_of
one_word x y z p rx i w h e u v k =
    rw (add-one, v, u, append_assoc, append_assoc, e) (ap (λ (l : List ℤ). x ++ words_of l) (sym (drop-cons rx i (pos 0) h)) ∙ k)
