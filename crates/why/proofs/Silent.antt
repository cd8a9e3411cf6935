-- Where a contribution is zero, its side of the mix is to the bit what it is without the voice: the sums begin at +0, so none of them is -0. Assumes nothing.
use Prim.Native.Nat.{ℕ}
use mathlib.Core.Path.{◌≡◌, refl, sym, ap, subst, ◌∙◌}
use mathlib.Core.Bool.{Bool, true, false, not, ◌||◌, cond}
use mathlib.Core.List.{List}
use lib.Dec.{T, eqb, eqb→eq}
use lib.IntN.{ℤ}
use lib.Ieee.{Float, binary32, eq, fits, of_bits}
use lib.Ieee.Fits.{cond-fits, add-fits, div-fits}
use Rattle.float.specs.Consts.{k0}
use Rattle.float.specs.Ops.{◌⊕◌}
use Rattle.float.proofs.Laws.{minus_zero}
use Rattle.float.proofs.Zeros.{sum_not_minus, plus_zero}
use Rattle.stereo.specs.declared.Side.{Side}
use Rattle.frame.specs.Frame.{routed_off}
use Rattle.lists.proofs.Sweep.{turns_match}
use Rattle.bus.specs.Bus.{contribution_of}
use Rattle.board.specs.declared.Analog.{Analog}
use Rattle.why.specs.Why.{adds_of, share_of}
use Rattle.why.specs.Told.{AddsNothing}
use Rattle.why.proofs.Step.{sums}

-- a sum as far as the voices have gone, and the one without the voice
record Alike (m n : Float) : Type 0 where
  same : m ≡ n
  f32 : T (fits binary32 m)
  not_minus : T (not (minus_zero m))

module _ (b : Analog) (f : List ℕ) (dac : List ℤ) (s : Side) where
  abbrev adds : ℕ → Float
  adds v = (share_of b f dac v s).adds

  adds_fit : (v : ℕ) → T (fits binary32 (adds v))
  unfolding share_of adds_of contribution_of fits of_bits
  adds_fit v = cond-fits binary32 (routed_off f v) k0 _ tt (div-fits binary32 _ _)

  turn : (v u : ℕ) (m n : Float) → T (eq (adds v) k0) → Alike m n → Alike (cond (routed_off f u) m (m ⊕ adds u)) (cond (routed_off f u || eqb u v) n (n ⊕ adds u))
  turn v u m n z h = by (routed_off f u) (eqb u v) (eqb→eq u v)
    where
      after : {k : Float} → m ⊕ adds u ≡ k → Alike (m ⊕ adds u) k
      after e = record { same = e; f32 = add-fits binary32 m (adds u); not_minus = sum_not_minus m (adds u) h.f32 (adds_fit u) h.not_minus }

      by : (a c : Bool) → (T c → u ≡ v) → Alike (cond a m (m ⊕ adds u)) (cond (a || c) n (n ⊕ adds u))
      by true c e = h
      by false true e = after (plus_zero m (adds u) h.f32 h.not_minus (adds_fit u) (subst (λ (w : ℕ). T (eq (adds w) k0)) (sym (e tt)) z) ∙ h.same)
      by false false e = after (ap (λ (y : Float). y ⊕ adds u) h.same)

  pub adds_nothing : (v : ℕ) → T (eq (adds v) k0) → AddsNothing b f dac v s
  unfolding fits of_bits
  adds_nothing v z = sums b f dac s ∙ (turns_match Alike 8 _ _ k0 k0 (λ u m n l h. turn v u m n z h) (record { same = refl; f32 = tt; not_minus = tt })).same
