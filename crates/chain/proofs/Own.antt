-- What one sample of a chain does to its envelopes and to its stored coefficients, and gives to its sides; and beside it a filtered sample that is finite, and a cutoff within
-- its limits. Assumes nothing.
use Prim.Native.Nat.{ℕ}
use mathlib.Core.Path.{◌≡◌, refl}
use mathlib.Core.Logic.{◌⊎◌, inl, inr}
use mathlib.Core.Bool.{Bool, true, false, not, cond, ◌&&◌}
use mathlib.Core.List.{List}
use lib.Dec.{T}
use lib.Ieee.{Float, nan, inf, fin, binary32, le, lt, eq, ne, fits, of_bits, mul, round}
use lib.Ieee.Fits.{and_i, add-fits, sub-fits, mul-fits}
use lib.Ieee.Scale.{finite}
use lib.Ieee.Bits.{is_true}
use Rattle.std.proofs.lemmas.Bool.{cond-true, cond-false}
use Rattle.line.proofs.Range.{In, in_of, finite_in}
use Rattle.float.specs.Consts.{k10, k22000, k0p45, FS}
use Rattle.float.specs.Ops.{◌⊗◌}
use Rattle.float.specs.Floats.{min_of, clamp_of}
use Rattle.float.proofs.Eval.{leaf, capped, clamped, range, proves}
use Rattle.frame.specs.declared.FltType.{FltType}
use Rattle.frame.specs.declared.FltType.TheVariants.{Lp2, Lp1, Bp, Hp1, Hp2, Bs, Pk}
use Rattle.chain.specs.declared.Chain.{Chain}
use Rattle.chain.specs.declared.Filtered.{Filtered}
use Rattle.chain.specs.declared.Multimode.{Multimode}
use Rattle.chain.specs.declared.Coefs.{Coefs}
use Rattle.chain.specs.Chain.{settings_of, cutoff_of, limited_of, stored_of, multimode_of, lp1_of, pick_of, finite_or, filter_of, process_of, EachItsOwn, Stored, Traced}

pub each_its_own : (f : List ℕ) (v : ℕ) (x : Float) (c : Chain) → EachItsOwn f v x c (process_of f v x c)
unfolding process_of settings_of
each_its_own f v x c = record { amp = refl; amp_r = refl; flt = refl; left = refl; right = refl }

-- one that is false makes both so
either : (a b : Bool) → T (not a) ⊎ T (not b) → (a && b) ≡ false
either true true (inl t) = absurd t
either true true (inr t) = absurd t
either true false t = refl
either false b t = refl

pub stored : (f : List ℕ) (v : ℕ) (x : Float) (c : Chain) → Stored f v x c (process_of f v x c)
unfolding process_of settings_of stored_of
stored f v x c = record { keeps = λ s t. cond-true _ _ _ (is_true _ (and_i _ _ s t)); renews = λ t. cond-false _ _ _ (either _ _ t); uses = refl }

-- the replacement keeps what holds of a finite sample and of 0
kept : (P : Float → Type 0) (b : Bool) (p q : Filtered) → (T b → P p.y) → P q.y → P (cond b p q).y
kept P true p q h k = h tt
kept P false p q h k = k

replaced : (s : Multimode) (lp1 y : Float) → T (finite (finite_or s lp1 y).y)
unfolding finite_or of_bits
replaced s lp1 y = kept (λ (z : Float). T (finite z)) (finite y) _ _ (λ t. t) tt

-- every output is a sum or a difference
picked : (kind : FltType) (low band x : Float) (q : Coefs) (lp1 a k res : Float) → T (fits binary32 (pick_of kind (multimode_of low band x q) (lp1_of lp1 x a) x k res))
unfolding pick_of multimode_of lp1_of
picked Lp2 low band x q lp1 a k res = add-fits binary32 _ _
picked Lp1 low band x q lp1 a k res = add-fits binary32 _ _
picked Bp low band x q lp1 a k res = add-fits binary32 _ _
picked Hp1 low band x q lp1 a k res = sub-fits binary32 _ _
picked Hp2 low band x q lp1 a k res = sub-fits binary32 _ _
picked Bs low band x q lp1 a k res = add-fits binary32 _ _
picked Pk low band x q lp1 a k res = add-fits binary32 _ _

replaced_fits : (s : Multimode) (lp1 y : Float) → T (fits binary32 y) → T (fits binary32 (finite_or s lp1 y).y)
unfolding finite_or fits of_bits
replaced_fits s lp1 y h = kept (λ (z : Float). T (fits binary32 z)) (finite y) _ _ (λ t. h) tt

pub filtered_fits : (f : List ℕ) (v : ℕ) (x : Float) (c : Chain) → T (fits binary32 (process_of f v x c).filtered)
unfolding process_of filter_of
filtered_fits f v x c = replaced_fits _ _ _ (picked _ _ _ _ _ _ _ _ _)

-- whatever the clamp takes: an infinite one gives an end of it, and what is no number the limit
limits : (z : Float) → T (fits binary32 z) → In binary32 k10 (FS ⊗ k0p45) (limited_of (clamp_of z k10 k22000))
unfolding limited_of clamp_of min_of of_bits proves le lt eq ne mul round
limits nan h = in_of binary32 k10 (FS ⊗ k0p45) (FS ⊗ k0p45) tt tt tt tt
limits (inf true) h = in_of binary32 k10 (FS ⊗ k0p45) k10 tt tt tt tt
limits (inf false) h = in_of binary32 k10 (FS ⊗ k0p45) (FS ⊗ k0p45) tt tt tt tt
limits (fin s m e) h = range k10 (FS ⊗ k0p45) (capped (clamped (leaf (finite_in (fin s m e) (h, tt))) k10 k22000) (FS ⊗ k0p45)) tt

pub traced : (f : List ℕ) (v : ℕ) (x : Float) (c : Chain) → Traced (process_of f v x c)
unfolding process_of filter_of cutoff_of
traced f v x c = record { finite = replaced _ _ _; most = (limits _ (mul-fits binary32 _ _)).upto; least = (limits _ (mul-fits binary32 _ _)).from }
