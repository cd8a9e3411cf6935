-- What each test of the code tells, with the numbers as the program writes them. Assumes nothing.
use mathlib.Core.Path.{◌≡◌, sym, ap, ◌∙◌, subst}
use mathlib.Core.Bool.{true, false}
use Prim.Native.Nat.{◌≤◌, ◌<◌}
use lib.Dec.{T}
use lib.Ieee.{Float, binary32, of_bits, neg, lt, le, is_nan}
use lib.Ieee.Bits.{is_true, is_false}
use Rattle.fixed.specs.Fixed.{small, size_of, pack_of}
use Rattle.fixed.proofs.Order.{on, off, le_right, not_lt, not_le, is_no_number, same_number, neg_below}
use Rattle.power.specs.Power.{zero_f, product_of}
use Rattle.tanh.specs.Tanh.{tiny, ten, decay_of, quotient_of, above_of, tanh_of}
use Rattle.tanh.specs.Near.{TanhNear}
use Rattle.tanh.proofs.Curve.{tanh_near}
use Rattle.tanh.proofs.Ranges.{Room, room}

module _ (a : Float) where
  pub above_near : lt a (of_bits binary32 981467136) ≡ true → above_of a ≡ a
  unfolding above_of of_bits
  above_near e = rw (is_true (lt a tiny) (on e))

  pub above_far : lt a (of_bits binary32 981467136) ≡ false → le (of_bits binary32 1092616192) a ≡ true → above_of a ≡ of_bits binary32 1065353216
  unfolding above_of of_bits
  above_far e f = rw (is_false (lt a tiny) (off e), is_true (le ten a) (on f))

  -- past both tests the argument lies between 2 ^ -10 and 10
  between : T (le zero_f a) → lt a (of_bits binary32 981467136) ≡ false → le (of_bits binary32 1092616192) a ≡ false → Room a
  unfolding of_bits
  between z e f = let n = le_right zero_f a z in room a (not_lt a tiny n (unfold is_nan in tt) (off e)) (not_le ten a (unfold is_nan in tt) n (off f))

  pub above_fits : T (le zero_f a) → lt a (of_bits binary32 981467136) ≡ false → le (of_bits binary32 1092616192) a ≡ false → T (small a)
  above_fits z e f = (between z e f).narrow

  pub above_size_le : T (le zero_f a) → lt a (of_bits binary32 981467136) ≡ false → le (of_bits binary32 1092616192) a ≡ false → size_of a ≤ 549755813888
  above_size_le z e f = (between z e f).size

  pub above_product_le : T (le zero_f a) → lt a (of_bits binary32 981467136) ≡ false → le (of_bits binary32 1092616192) a ≡ false → product_of (size_of a) 12392656037 ≤ 128849018880
  above_product_le z e f = (between z e f).product

  pub above_some : T (le zero_f a) → lt a (of_bits binary32 981467136) ≡ false → le (of_bits binary32 1092616192) a ≡ false → 0 < quotient_of (decay_of (product_of (size_of a) 12392656037))
  above_some z e f = (between z e f).quotient

  pub above_is : lt a (of_bits binary32 981467136) ≡ false → le (of_bits binary32 1092616192) a ≡ false → above_of a ≡ pack_of (quotient_of (decay_of (product_of (size_of a) 12392656037))) 31
  unfolding above_of of_bits
  above_is e f = rw (is_false (lt a tiny) (off e), is_false (le ten a) (off f))

module _ (x : Float) where
  pub tanh_nan : is_nan x ≡ true → tanh_of x ≡ x
  tanh_nan e = let n = is_no_number x e in (tanh_near x).no_number n ∙ sym n

  pub tanh_below : is_nan x ≡ false → lt x (of_bits binary32 0) ≡ true → tanh_of x ≡ neg (above_of (neg x))
  unfolding tanh_of of_bits
  tanh_below n e = rw (same_number x (off n), is_true (lt x zero_f) (on e))

  pub size_below : lt x (of_bits binary32 0) ≡ true → T (le zero_f (neg x))
  unfolding of_bits
  size_below e = neg_below x (on e)

  pub tanh_above : is_nan x ≡ false → lt x (of_bits binary32 0) ≡ false → tanh_of x ≡ above_of x
  unfolding tanh_of of_bits
  tanh_above n e = rw (same_number x (off n), is_false (lt x zero_f) (off e))

  pub size_above : is_nan x ≡ false → lt x (of_bits binary32 0) ≡ false → T (le zero_f x)
  unfolding of_bits
  size_above n e = not_lt x zero_f (off n) (unfold is_nan in tt) (off e)

  near : (r : Float) → tanh_of x ≡ r → TanhNear x r
  near r e = subst (TanhNear x) e (tanh_near x)

  pub near_nan : is_nan x ≡ true → TanhNear x x
  near_nan e = near x (tanh_nan e)

  pub near_below : (r : Float) → r ≡ above_of (neg x) → is_nan x ≡ false → lt x (of_bits binary32 0) ≡ true → TanhNear x (neg r)
  near_below r e n l = near (neg r) (tanh_below n l ∙ ap neg (sym e))

  pub near_above : (r : Float) → r ≡ above_of x → is_nan x ≡ false → lt x (of_bits binary32 0) ≡ false → TanhNear x r
  near_above r e n l = near r (tanh_above n l ∙ sym e)

-- what `above` and `tanh` need
pub ruleset above_tests = (above_near, above_far, above_fits, above_size_le, above_product_le, above_some, above_is)

pub ruleset tanh_tests = (tanh_nan, tanh_below, size_below, tanh_above, size_above)
