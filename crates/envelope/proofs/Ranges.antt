-- What a record's bytes give: whole levels from -128 to 127, and a step from 2 ^ -9 to 128, since 2147483647 less m × 16384 keeps 31 digits and e is at most 15. Assumes nothing.
use Prim.Native.Nat.{ℕ, ◌+◌, ◌-◌, ◌*◌, ◌/◌, ◌%◌, ◌^◌, ◌≤◌, ◌<◌}
use native.Mathlib.Nat.{le_trans, le-div_iff_mul-le, div-le_self, mul-le-mul_left}
use native.Mathlib.Omega.{arith}
use mathlib.Core.Bool.{Bool, true, false, not, cond}
use mathlib.Core.List.{List}
use lib.ListN.{get_or}
use lib.IntN.{ℤ, pos, negsuc}
use lib.Dec.{T, ltb, le→leb, lt→ltb, ltb→lt, nltb→le}
use lib.Signed.{le_z}
use lib.Pow.{pow_pos, pow_mono}
use lib.Ieee.{Float, fin, binary32, round, of_int, of_bits, neg, le, lt, eq, fits, in_signed, in_float}
use lib.Ieee.Back.{positive_back, negative_back}
use Rattle.line.proofs.Range.{In, in_of}
use Rattle.line.proofs.Whole.{of_int_in}
use Rattle.float.specs.Consts.{k2, k127, k8388608, k_m128}
use Rattle.float.proofs.Eval.{leaf, over, range, proves}
use Rattle.envelope.specs.Record.{level_of, step_of, record_of}
use Rattle.envelope.specs.Levels.{Level, Whole, Step, Ranges}

-- ---- a level
pub level_range : (x : Float) → Level x → In binary32 k_m128 k127 x
unfolding of_bits neg fits le lt eq
level_range x h = in_of binary32 k_m128 k127 x tt h.f32 h.low h.high

pub level_in : (b : ℕ) → b < 256 → Level (level_of b)
unfolding level_of
level_in b h = go (ltb b 128) (ltb→lt b 128) (nltb→le b 128)
  where
    level : (z : ℤ) → T (le_z (negsuc 127) z) → T (le_z z (pos 127)) → Level (of_int binary32 z)
    level z l u = unfold of_bits neg of_int round fits le lt eq in
        let k = of_int_in binary32 (negsuc 127) (pos 127) (fin true 1 (pos 7)) (fin false 127 (pos 0)) z l u tt in
        record { f32 = k.ok.0; low = k.from; high = k.upto }

    go : (t : Bool) → (T t → b < 128) → (T (not t) → 128 ≤ b) → Level (cond t (of_int binary32 (pos b)) (of_int binary32 (negsuc (255 - b))))
    go true l g = let k = l tt in level (pos b) tt (le→leb b 127 (omega arith))
    go false l g = let k = g tt in level (negsuc (255 - b)) (le→leb (255 - b) 127 (omega arith)) tt

pub level_whole : (b : ℕ) → b < 256 → Whole (level_of b)
unfolding level_of in_float
level_whole b h = go (ltb b 128) (ltb→lt b 128) (nltb→le b 128)
  where
    go : (t : Bool) → (T t → b < 128) → (T (not t) → 128 ≤ b) → T (in_signed binary32 7 (cond t (of_int binary32 (pos b)) (of_int binary32 (negsuc (255 - b)))))
    go true l g = let k = l tt in (positive_back binary32 7 b (le→leb b (2 ^ 24) (omega arith)) k).0
    go false l g = let k = g tt in (negative_back binary32 7 (255 - b) (lt→ltb (255 - b) (2 ^ 24) (omega arith)) (omega arith)).0

-- ---- a step
count_low : (e m : ℕ) → e ≤ 15 → m ≤ 65535 → 32768 ≤ (2147483647 - m * 16384) / 2 ^ e
count_low e m h k = (le-div_iff_mul-le (pow_pos e)).1 (le_trans (mul-le-mul_left 32768 (pow_mono h)) (omega arith))

count_high : (e m : ℕ) → (2147483647 - m * 16384) / 2 ^ e ≤ 2147483647
count_high e m = le_trans (div-le_self (2147483647 - m * 16384) (2 ^ e)) (omega arith)

pub step_in : (e m : ℕ) → e ≤ 15 → m ≤ 65535 → Step (step_of e m)
unfolding step_of proves of_bits of_int round
step_in e m h k =
    let n = (2147483647 - m * 16384) / 2 ^ e in
    let c = of_int_in binary32 (pos 32768) (pos 2147483647) (fin false 1 (pos 15)) (fin false 1 (pos 31)) (pos n) (le→leb 32768 n (count_low e m h k)) (le→leb n 2147483647 (count_high e m)) tt in
    let r = range (fin false 1 (negsuc 8)) (fin false 1 (pos 7)) (over (over (leaf c) k8388608) k2) tt in
    record { f32 = r.ok.0; low = r.from; high = r.upto }

-- ---- a record of eight bytes
pub record_in : (r : List ℕ) → ((i : ℕ) → get_or r i 0 < 256) → Ranges (record_of r)
unfolding record_of
record_in r h = record {
  start = (level_in (get_or r 2 0) (h 2), level_whole (get_or r 2 0) (h 2));
  target = (level_in (get_or r 3 0) (h 3), level_whole (get_or r 3 0) (h 3));
  step = step_in (get_or r 5 0 % 16) (get_or r 6 0 * 256 + get_or r 7 0) (nibble (get_or r 5 0)) (word (get_or r 6 0) (get_or r 7 0) (h 6) (h 7));
}
  where
    nibble : (b : ℕ) → b % 16 ≤ 15
    nibble b = omega arith

    word : (a b : ℕ) → a < 256 → b < 256 → a * 256 + b ≤ 65535
    word a b h k = omega arith
