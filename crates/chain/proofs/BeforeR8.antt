-- A chain beside the one before R-8: where the stored coefficients are those worked out from the stored pair, all that a sample of it gives is that one's, and so they are
-- after it. Assumes nothing.
use Prim.Native.Nat.{ℕ}
use mathlib.Core.Path.{◌≡◌, refl, sym, ap, ap₂, ◌∙◌, subst}
use mathlib.Core.Bool.{◌&&◌}
use mathlib.Core.List.{List}
use lib.Dec.{T}
use lib.Ieee.{Float, binary32, fits, of_bits}
use lib.Ieee.Fits.{and_l, and_r, mul-fits, div-fits}
use Rattle.std.proofs.lemmas.Bool.{cond_both}
use Rattle.std.proofs.lemmas.Float.{T_from_true}
use Rattle.float.specs.Consts.{k0, k1, k10, k22000, k440}
use Rattle.float.specs.Floats.{same_bits}
use Rattle.float.proofs.Bits.{one_value, clamp_fits}
use Rattle.chain.specs.declared.Chain.{Chain}
use Rattle.chain.specs.declared.Coefs.{Coefs}
use Rattle.chain.specs.Chain.{chain_new, settings_of, cutoff_of, res_of, coefs_of, stored_of, multimode_of, lp1_of, filter_of, process_of, pair_fc, pair_res}
use Rattle.chain.specs.Before.{earlier_out}
use Rattle.chain.specs.BeforeR8.{process_before, filter_before, coefs_before, multimode_before, lp1_before, earlier_chain}

-- coefficients that are those of their pair
pub record FromPair (q : Coefs) : Type 0 where
  pub is : q ≡ coefs_of q.fc q.res
  pub fc : T (fits binary32 q.fc)
  pub res : T (fits binary32 q.res)

coefs_right : (fc res : Float) → T (fits binary32 fc) → T (fits binary32 res) → FromPair (coefs_of fc res)
unfolding coefs_of
coefs_right fc res f g = record { is = refl; fc = f; res = g }

pub new_right : FromPair chain_new.coefs
unfolding chain_new of_bits fits
new_right = coefs_right k440 k0 tt tt

stored_is : (q : Coefs) (fc res : Float) → FromPair q → T (fits binary32 fc) → T (fits binary32 res) → stored_of q fc res ≡ coefs_of fc res
unfolding stored_of
stored_is q fc res r f g = cond_both (same_bits fc q.fc && same_bits res q.res) q (coefs_of fc res) (λ (y : Coefs). y ≡ coefs_of fc res) (λ e. own (T_from_true _ e)) (λ e. refl)
  where
    own : T (same_bits fc q.fc && same_bits res q.res) → q ≡ coefs_of fc res
    own t = r.is ∙ ap₂ coefs_of (sym (one_value fc q.fc f r.fc (and_l (same_bits fc q.fc) (same_bits res q.res) t))) (sym (one_value res q.res g r.res (and_r (same_bits fc q.fc) (same_bits res q.res) t)))

fc_fits : (f : List ℕ) (v : ℕ) (level : Float) → T (fits binary32 (pair_fc f v level))
unfolding cutoff_of of_bits fits
fc_fits f v level = clamp_fits _ k10 k22000 (mul-fits binary32 _ _) tt tt

res_fits : (f : List ℕ) (v : ℕ) → T (fits binary32 (pair_res f v))
unfolding res_of of_bits fits
res_fits f v = clamp_fits _ k0 k1 (div-fits binary32 _ _) tt tt

module _ (f : List ℕ) (v : ℕ) (x : Float) (c : Chain) (r : FromPair c.coefs) where
  abbrev fc : Float
  fc = pair_fc f v (process_of f v x c).chain.flt.level

  anew : stored_of c.coefs fc (pair_res f v) ≡ coefs_of fc (pair_res f v)
  anew = stored_is c.coefs fc (pair_res f v) r (fc_fits f v _) (res_fits f v)

  pub as_before : process_before f v x (earlier_chain c) ≡ earlier_out earlier_chain (process_of f v x c)
  unfolding process_of settings_of filter_of multimode_of lp1_of coefs_of process_before filter_before coefs_before multimode_before lp1_before
  as_before = rw anew refl

  pub fc_after : (process_of f v x c).chain.coefs.fc ≡ fc
  unfolding process_of settings_of coefs_of
  fc_after = ap (λ (q : Coefs). q.fc) anew

  pub right_after : FromPair (process_of f v x c).chain.coefs
  unfolding process_of settings_of
  right_after = subst (λ (q : Coefs). FromPair q) (sym anew) (coefs_right fc (pair_res f v) (fc_fits f v _) (res_fits f v))
