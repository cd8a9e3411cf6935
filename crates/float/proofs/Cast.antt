-- Rust's cast of a float to an i32, by its four cases: within the range, below it, from its end on, and not a number; and an i32 that is a float exactly. Assumes nothing.
use Rattle.std.proofs.Common.{◌≡◌, ℕ, ◌+◌, ◌*◌, ◌/◌, ◌<◌, ◌≤◌, min, Bool, true, false, ◌&&◌, ◌||◌, T, eqb, ltb, leb, ℤ, pos, negsuc, neg_ℤ, sym, refl, ap, subst, mul_comm, div-lt_iff_lt-mul, le-div_iff_mul-le, arith, lt→ltb, leb→le, ltb-false, ltb-true, lt-ltb, eqb-true}
use native.Mathlib.Nat.{div-le_of_le-mul}
use lib.Signed.{le_z}
use lib.Ieee.{Float, binary32, nan, inf, fin, up, down, lt, le, eq, ne, in_float, to_signed}
use lib.Ieee.Fits.{down_pos, and_l}
use lib.Ieee.Compare.{differs_from_itself}
use Rattle.float.proofs.Never.{no}

yes : (b : Bool) → b ≡ true → T b
yes b e = subst T (sym e) tt

-- a quotient, by what its numerator is below
below : (q d n : ℕ) → 0 < d → q < n * d → q / d < n
below q d n h k = (div-lt_iff_lt-mul h).1 k

at_most : (q d n : ℕ) → q ≤ n * d → q / d ≤ n
at_most q d n k = div-le_of_le-mul d (rw (mul_comm d n) k)

at_least : (q d n : ℕ) → 0 < d → n * d ≤ q → n ≤ q / d
at_least q d n h k = (le-div_iff_mul-le h).1 k

-- below the top or at it, where the two are unequal or equal
le_or : (a b : ℕ) (c : Bool) → (ltb a b || (eqb b a && (true || c))) ≡ true → a ≤ b
le_or a b c e = le_by (ltb a b) (eqb b a) refl refl e
  where
    le_by : (s t : Bool) → ltb a b ≡ s → eqb b a ≡ t → (s || (t && (true || c))) ≡ true → a ≤ b
    le_by true t p q r = let h = ltb-true a b p in omega arith
    le_by false true p q r = let h = eqb-true b a q in omega arith
    le_by false false p q r = no r

pub record In (y : Float) : Type 0 where
  pub low : T (le (fin true 1 (pos 63)) y)
  pub high : T (lt y (fin false 1 (pos 63)))
  pub same : to_signed 63 y ≡ to_signed 31 y

abbrev top : Float
top = fin false 1 (pos 31)

abbrev bottom : Float
bottom = fin true 1 (pos 31)

or_yes : (a b : Bool) → a ≡ true → T (a || b)
or_yes true b e = tt
or_yes false b e = no e

or_no : (a b : Bool) → (a || b) ≡ false → a ≡ false
or_no true b e = e
or_no false b e = refl

pub inside : (y : Float) → lt y top ≡ true → le bottom y ≡ true → In y
unfolding lt le eq to_signed
inside nan h k = no h
inside (inf true) h k = no k
inside (inf false) h k = no h
inside (fin false m e) h k =
    let p = down_pos e in
    let q = ltb-true (m * up e * 1) (2147483648 * down e) h in
    let r : m * up e / down e < 2147483648 = below (m * up e) (down e) 2147483648 p (omega arith) in
    let z : min (m * up e / down e) 9223372036854775807 ≡ min (m * up e / down e) 2147483647 = omega arith in
    record {
      low = or_yes (ltb 0 (9223372036854775808 * down e + m * up e * 1)) _ (lt-ltb 0 (9223372036854775808 * down e + m * up e * 1) (omega arith));
      high = yes _ (lt-ltb (m * up e * 1) (9223372036854775808 * down e) (omega arith));
      same = ap pos z;
    }
inside (fin true m e) h k =
    let p = down_pos e in
    let q = le_or (m * up e * 1) (2147483648 * down e) (eqb (2147483648 * down e) 0) k in
    let r : m * up e / down e ≤ 2147483648 = at_most (m * up e) (down e) 2147483648 (omega arith) in
    let z : min (m * up e / down e) 9223372036854775808 ≡ min (m * up e / down e) 2147483648 = omega arith in
    record {
      low = or_yes (ltb (m * up e * 1) (9223372036854775808 * down e)) _ (lt-ltb (m * up e * 1) (9223372036854775808 * down e) (omega arith));
      high = yes _ (lt-ltb 0 (m * up e * 1 + 9223372036854775808 * down e) (omega arith));
      same = ap (λ (n : ℕ). neg_ℤ (pos n)) z;
    }

pub under : (y : Float) → lt y top ≡ true → le bottom y ≡ false → negsuc 2147483647 ≡ to_signed 31 y
unfolding lt le eq to_signed
under nan h k = no h
under (inf true) h k = refl
under (inf false) h k = no h
under (fin false m e) h k =
    let p = down_pos e in
    let q = ltb-false 0 (2147483648 * down e + m * up e * 1) (or_no (ltb 0 (2147483648 * down e + m * up e * 1)) _ k) in
    absurd (omega arith)
under (fin true m e) h k =
    let q = ltb-false (m * up e * 1) (2147483648 * down e) (or_no (ltb (m * up e * 1) (2147483648 * down e)) _ k) in
    let r = at_least (m * up e) (down e) 2147483648 (down_pos e) (omega arith) in
    let z : 2147483648 ≡ min (m * up e / down e) 2147483648 = omega arith in
    ap (λ (n : ℕ). neg_ℤ (pos n)) z

pub over : (y : Float) → lt y top ≡ false → ne y y ≡ false → pos 2147483647 ≡ to_signed 31 y
unfolding lt ne eq to_signed
over nan h k = no (sym k)
over (inf true) h k = no (sym h)
over (inf false) h k = refl
over (fin true m e) h k =
    let p = down_pos e in
    let q = ltb-false 0 (m * up e * 1 + 2147483648 * down e) h in
    absurd (omega arith)
over (fin false m e) h k =
    let q = ltb-false (m * up e * 1) (2147483648 * down e) h in
    let r = at_least (m * up e) (down e) 2147483648 (down_pos e) (omega arith) in
    let z : 2147483647 ≡ min (m * up e / down e) 2147483647 = omega arith in
    ap pos z

pub none : (y : Float) → ne y y ≡ true → pos 0 ≡ to_signed 31 y
unfolding to_signed
none y h = rw (differs_from_itself y (yes _ h))

-- a whole number from -2^24 to 2^24 loses nothing
pub in_float_lem : (z : ℤ) → (le_z (negsuc 16777215) z && le_z z (pos 16777216)) ≡ true → T (in_float binary32 z)
unfolding in_float
in_float_lem (pos n) h = yes _ h
in_float_lem (negsuc n) h =
    let k = leb→le n 16777215 (and_l (leb n 16777215) true (yes _ h)) in
    lt→ltb n 16777216 (omega arith)
