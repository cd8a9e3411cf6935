-- What the code needs of its numbers between 2 ^ -10 and 10. Assumes nothing.
use mathlib.Core.Path.{◌≡◌}
use mathlib.Core.Bool.{true, false}
use Prim.Native.Nat.{◌*◌, ◌≤◌, ◌<◌}
use native.Mathlib.Nat.{le_trans}
use native.Mathlib.Omega.{arith}
use lib.IntN.{pos, negsuc}
use lib.Dec.{T, lt→ltb}
use lib.Ieee.{Float, nan, inf, fin, up, down, lt, le, eq}
use Rattle.fixed.specs.Fixed.{small, size_of}
use Rattle.fixed.proofs.Fields.{down_pos}
use Rattle.fixed.proofs.Order.{lt_says, le_says}
use Rattle.power.specs.Power.{product_of}
use Rattle.tanh.specs.Tanh.{two_log2_e, decay_of, quotient_of, tiny, ten}
use Rattle.tanh.proofs.Cases.{size_hi, u_hi, q_lo}

pub record Room (a : Float) : Type 0 where
  pub narrow : T (small a)
  pub size : size_of a ≤ 549755813888
  pub product : product_of (size_of a) two_log2_e ≤ 128849018880
  pub quotient : 0 < quotient_of (decay_of (product_of (size_of a) two_log2_e))

pub room : (a : Float) → T (le tiny a) → T (lt a ten) → Room a
unfolding small size_of lt le eq
room nan h k = absurd k
room (inf true) h k = absurd h
room (inf false) h k = absurd k
room (fin true m e) h k = absurd (none (le_says false 1 (negsuc 9) true m e h).0)
  where
    none : 1 * 1 * down e ≡ 0 → ⊥
    none z = omega (arith, down_pos e)
room (fin false m e) h k =
    let lo : down e ≤ 1024 * (m * up e) = let g = le_says false 1 (negsuc 9) false m e h in omega arith in
    let hi : m * up e ≤ 10 * down e = let g = lt_says false m e false 5 (pos 1) k in omega arith in
    record {
      narrow = lt→ltb (m * up e) (128 * down e) (omega (arith, down_pos e));
      size = le_trans (size_hi false (m * up e) (down e) (down_pos e) lo hi) (omega arith);
      product = u_hi false (m * up e) (down e) (down_pos e) lo hi;
      quotient = q_lo false (m * up e) (down e) (down_pos e) lo hi;
    }
