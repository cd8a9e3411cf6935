-- Records whose bytes are the same are one record, and amps that stand the same come to the same by it. Assumes nothing.
use Prim.Native.Nat.{ℕ, zero, suc, ◌<◌}
use native.Mathlib.Nat.{eq-or-lt_of_le, le_of_suc-le-suc}
use native.Mathlib.Omega.{arith}
use mathlib.Core.Path.{◌≡◌, refl, sym, ◌∙◌, subst}
use mathlib.Core.Logic.{inl, inr}
use mathlib.Core.Bool.{Bool, true, false, ◌&&◌, beq}
use mathlib.Core.List.{List}
use lib.ListN.{length, get_or}
use lib.Seq.{ext_get_or}
use lib.Dec.{T, eqb, eqb→eq}
use lib.Ieee.{Float, binary32, fits}
use lib.Ieee.Fits.{and_l, and_r}
use Rattle.float.specs.Floats.{same_bits}
use Rattle.float.proofs.Bits.{one_value}
use Rattle.envelope.specs.declared.SegEnv.{SegEnv}
use Rattle.envelope.specs.Moves.{alike, same_amp, seg_starts, seg_move, seg_of}

byte : (n : ℕ) (a b : List ℕ) → T (alike n a b) → (i : ℕ) → i < n → get_or a i 0 ≡ get_or b i 0
unfolding alike
byte zero a b t i h = absurd (omega (arith, h))
byte (suc n) a b t i h = elim (eq-or-lt_of_le (le_of_suc-le-suc h)) [
  | inl e ↦ rw e (eqb→eq (get_or a n 0) (get_or b n 0) (and_r (alike n a b) (eqb (get_or a n 0) (get_or b n 0)) t))
  | inr l ↦ byte n a b (and_l (alike n a b) (eqb (get_or a n 0) (get_or b n 0)) t) i l
]

pub one_record : (a b : List ℕ) → length a ≡ 8 → length b ≡ 8 → T (alike 8 a b) → a ≡ b
one_record a b la lb t = ext_get_or 0 a b (la ∙ sym lb) (λ i h. byte 8 a b t i (subst (λ (n : ℕ). i < n) la h))

one_bool : (a b : Bool) → T (beq a b) → a ≡ b
one_bool true true t = refl
one_bool false false t = refl
one_bool true false t = absurd t
one_bool false true t = absurd t

-- where all tests pass, each does
three : (p q r : Bool) → T (p && q && r) → T p × T q × T r
three true true true t = (tt, tt, tt)
three false q r t = absurd t
three true false r t = absurd t
three true true false t = absurd t

-- two amps that stand the same come to the same by a record
pub one_amp : (r : List ℕ) (a b : SegEnv) → T (fits binary32 a.level) → T (fits binary32 b.level) → T (same_amp a b) → seg_of true r a ≡ seg_of true r b
unfolding same_amp seg_of seg_move seg_starts
one_amp r a b f g t = by (three (same_bits a.level b.level) (beq a.hold b.hold) (beq a.cmd b.cmd) t)
  where
    comes : Float → Bool → Bool → SegEnv
    comes level hold cmd = seg_of true r (record { key = b.key; level = level; hold = hold; cmd = cmd })

    by : T (same_bits a.level b.level) × T (beq a.hold b.hold) × T (beq a.cmd b.cmd) → seg_of true r a ≡ seg_of true r b
    by (p, q, s) =
        let whole : comes a.level a.hold a.cmd ≡ comes b.level b.hold b.cmd = rw (one_value a.level b.level f g p, one_bool a.hold b.hold q, one_bool a.cmd b.cmd s) refl in
        whole
