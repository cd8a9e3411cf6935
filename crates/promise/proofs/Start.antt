-- A fresh board is within the ranges. Assumes nothing.
use Prim.Native.Nat.{ℕ, ◌^◌, ◌<◌}
use native.Mathlib.Omega.{arith}
use mathlib.Core.Path.{refl, sym, subst}
use mathlib.Core.Bool.{Bool, true, false, cond}
use lib.ListN.{replicate, get_or-replicate}
use lib.Dec.{eqb}
use lib.Ieee.{Float, binary32, nan, fits, le, lt, eq, neg, of_bits}
use Rattle.line.proofs.Range.{in_of}
use Rattle.float.specs.Consts.{k0, k1, k0p5, k1p5, k_m128}
use Rattle.envelope.specs.declared.Env.{Env}
use Rattle.envelope.specs.Levels.{Level}
use Rattle.vco.proofs.Kept.{turn_of_lem}
use Rattle.wobble.specs.Wobble.{new_of, drift_new}
use Rattle.wobble.proofs.Kept.{Unit, Ratio, WobbleIn, DriftIn}
use Rattle.dual.specs.declared.DualOsc.{DualOsc}
use Rattle.dual.specs.Dual.{dual_new}
use Rattle.dual.proofs.Kept.{DualIn}
use Rattle.metal.proofs.Kept.{Six}
use Rattle.hat.specs.Hat.{hat_new}
use Rattle.hat.proofs.Kept.{HatIn}
use Rattle.cym.specs.Cym.{no_env, cym_new}
use Rattle.cym.proofs.Kept.{CymIn}
use Rattle.sources.specs.Sources.{no_dual}
use Rattle.chain.specs.declared.Chain.{Chain}
use Rattle.chain.specs.Chain.{no_chain, chain_new}
use Rattle.chain.proofs.Kept.{ChainIn}
use Rattle.board.specs.Board.{fresh_of, taken_of}
use Rattle.promise.proofs.Kept.{Good}

-- ---- the numbers of a fresh board
level_0 : Level k0
unfolding of_bits fits neg le lt eq
level_0 = record { f32 = tt; low = tt; high = tt }

level_128 : Level k_m128
unfolding of_bits fits neg le lt eq
level_128 = record { f32 = tt; low = tt; high = tt }

unit_0 : Unit k0
unfolding of_bits fits le lt eq
unit_0 = in_of binary32 k0 k1 k0 tt tt tt tt

unit_1 : Unit k1
unfolding of_bits fits le lt eq
unit_1 = in_of binary32 k0 k1 k1 tt tt tt tt

ratio_1 : Ratio k1
unfolding of_bits fits le lt eq
ratio_1 = in_of binary32 k0p5 k1p5 k1 tt tt tt tt

drift_in : DriftIn drift_new
unfolding drift_new of_bits fits neg le lt eq
drift_in = record { cents = in_of binary32 k_m128 (neg k_m128) k0 tt tt tt tt; ratio = ratio_1 }

-- ---- its parts
dual_in : DualIn dual_new
unfolding dual_new of_bits fits le lt eq
dual_in = record { ph1 = turn_of_lem _ tt; ph2 = turn_of_lem _ tt; pitch = level_0; amp = level_128; amp2 = level_128; det1 = ratio_1; det2 = ratio_1; drift1 = drift_in; drift2 = drift_in }

six : (P : Float → Type 0) (x : Float) → P x → Six P (replicate 6 x)
six P x h = record { long = refl; each = λ k l. subst P (sym (get_or-replicate 6 k x nan l)) h }

hat_in : HatIn hat_new
unfolding hat_new
hat_in = record { ph = six Unit k0 unit_0; det = six Ratio k1 ratio_1; env = level_128 }

cym_in : CymIn cym_new
unfolding cym_new
cym_in = record {
  ph = six Unit k0 unit_0;
  det = six Ratio k1 ratio_1;
  long = refl;
  env = λ r h. subst (λ (e : Env). Level e.level) (sym (get_or-replicate 8 r (record { level = k_m128 }) no_env h)) level_128;
}

chain_in : ChainIn chain_new
unfolding chain_new
chain_in = record { amp = level_0; amp_r = level_0; flt = level_0 }

wobble_in : (seed : ℕ) (ideal : Bool) → seed < 2 ^ 32 → WobbleIn (new_of seed ideal)
unfolding new_of
wobble_in seed ideal h = record { word = word (eqb seed 0); depth = depth ideal }
  where
    word : (z : Bool) → cond z 1 seed < 2 ^ 32
    word true = omega arith
    word false = h

    depth : (i : Bool) → Unit (cond i k0 k1)
    depth true = unit_0
    depth false = unit_1

pub fresh_good : (seed : ℕ) (ideal : Bool) → seed < 2 ^ 32 → Good (fresh_of seed ideal)
unfolding fresh_of taken_of
fresh_good seed ideal h = record {
  sources = record {
    long = refl;
    duals = λ d l. subst (λ (e : DualOsc). DualIn e) (sym (get_or-replicate 3 d dual_new no_dual l)) dual_in;
    hat = hat_in;
    cym = cym_in;
    w = wobble_in seed ideal h;
  };
  long = refl;
  chains = λ v l. subst (λ (c : Chain). ChainIn c) (sym (get_or-replicate 8 v chain_new no_chain l)) chain_in;
}
