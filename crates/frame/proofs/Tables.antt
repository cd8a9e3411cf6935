-- Every entry of a table of offsets lies within the shortest frame: a test of each table that is computed, and one law that carries it to the entry. Assumes nothing.
use mathlib.Core.Bool.{Bool, false, ◌&&◌}
use mathlib.Core.List.{List, []}
use Prim.Native.Nat.{ℕ, suc, ◌+◌, ◌≤◌, ◌<◌, min}
use native.Mathlib.Omega.{arith}
use lib.Dec.{T, leb, ltb, leb→le, ltb→lt}
use lib.ListN.{length, get_or}
use lib.Ieee.Fits.{and_l, and_r}
use Rattle.lists.proofs.Table.{every, at}
use Rattle.frame.specs.declared.DualSpec.{DualSpec}
use Rattle.frame.specs.declared.TomSpec.{TomSpec}
use Rattle.frame.specs.declared.CymPath.{CymPath}
use Rattle.frame.specs.declared.FltAt.{FltAt}
use Rattle.frame.specs.Offsets.{FRAME_BYTES, SWITCHES, duals, dual_spec, toms, tom_spec, cym_paths, cym_path, flt_type_at, flt_at, route_bits, route_bit}

capped : (i n : ℕ) → min i n < suc n
capped i n = omega arith

-- ---- a dual voice: four words, four records, seven of the 64 switches
abbrev switches : List ℕ → Bool
switches sw = every (λ _ n. ltb n 64) 0 sw

abbrev dual_inside : DualSpec → Bool
dual_inside s = leb (s.cv + 8) FRAME_BYTES && (leb (s.env + 32) FRAME_BYTES && (ltb s.voice 8 && (switches s.sw && leb 7 (length s.sw))))

pub record DualInside (s : DualSpec) : Type 0 where
  pub cv : s.cv + 8 ≤ FRAME_BYTES
  pub env : s.env + 32 ≤ FRAME_BYTES
  pub voice : s.voice < 8
  pub sw : (k : ℕ) → k < 7 → get_or s.sw k 0 < 64

pub dual_inside_lem : (d : ℕ) → DualInside (dual_spec d)
dual_inside_lem d = says (dual_spec d) tested
  where
    tested : T (dual_inside (dual_spec d))
    tested = unfold dual_spec duals in at (record { voice = 0; cv = 0; env = 0; sw = [] }) (λ _. dual_inside) duals tt (min d 2) (capped d 2)

    says : (s : DualSpec) → T (dual_inside s) → DualInside s
    says s t =
        let a = leb (s.cv + 8) FRAME_BYTES in
        let b = leb (s.env + 32) FRAME_BYTES in
        let c = ltb s.voice 8 in
        let e = switches s.sw in
        let n = leb 7 (length s.sw) in
        let t1 = and_r a (b && (c && (e && n))) t in
        let t2 = and_r b (c && (e && n)) t1 in
        let t3 = and_r c (e && n) t2 in
        let l : 7 ≤ length s.sw = leb→le 7 (length s.sw) (and_r e n t3) in
        record {
          cv = leb→le (s.cv + 8) FRAME_BYTES (and_l a (b && (c && (e && n))) t);
          env = leb→le (s.env + 32) FRAME_BYTES (and_l b (c && (e && n)) t1);
          voice = ltb→lt s.voice 8 (and_l c (e && n) t2);
          sw = λ k h. ltb→lt (get_or s.sw k 0) 64 (at 0 (λ _ n. ltb n 64) s.sw (and_l e n t3) k (omega arith));
        }

-- ---- a tom: two words, one of sixteen DAC words
abbrev tom_inside : TomSpec → Bool
tom_inside s = leb (s.tune + 2) FRAME_BYTES && (leb (s.decay + 2) FRAME_BYTES && (ltb s.voice 8 && ltb s.dac 16))

pub record TomInside (s : TomSpec) : Type 0 where
  pub tune : s.tune + 2 ≤ FRAME_BYTES
  pub decay : s.decay + 2 ≤ FRAME_BYTES
  pub voice : s.voice < 8
  pub dac : s.dac < 16

pub tom_inside_lem : (t : ℕ) → TomInside (tom_spec t)
tom_inside_lem t = says (tom_spec t) tested
  where
    tested : T (tom_inside (tom_spec t))
    tested = unfold tom_spec toms in at (record { voice = 0; tune = 0; decay = 0; dac = 0 }) (λ _. tom_inside) toms tt (min t 2) (capped t 2)

    says : (s : TomSpec) → T (tom_inside s) → TomInside s
    says s t =
        let a = leb (s.tune + 2) FRAME_BYTES in
        let b = leb (s.decay + 2) FRAME_BYTES in
        let c = ltb s.voice 8 in
        let d = ltb s.dac 16 in
        let t1 = and_r a (b && (c && d)) t in
        let t2 = and_r b (c && d) t1 in
        record {
          tune = leb→le (s.tune + 2) FRAME_BYTES (and_l a (b && (c && d)) t);
          decay = leb→le (s.decay + 2) FRAME_BYTES (and_l b (c && d) t1);
          voice = ltb→lt s.voice 8 (and_l c d t2);
          dac = ltb→lt s.dac 16 (and_r c d t2);
        }

-- ---- a path of the cymbal: one of its eight records
pub cym_inside : (p : ℕ) → (cym_path p).rec < 8
cym_inside p = ltb→lt (cym_path p).rec 8 tested
  where
    tested : T (ltb (cym_path p).rec 8)
    tested = unfold cym_path cym_paths in at (record { rec = 0; hz = lib.Ieee.nan; high = false }) (λ _ (c : CymPath). ltb c.rec 8) cym_paths tt (min p 4) (capped p 4)

-- ---- a filter type: a switch byte, three of its bits
abbrev flt_inside : FltAt → Bool
flt_inside a = ltb a.byte (SWITCHES + 8) && ltb a.lo 6

pub record FltInside (a : FltAt) : Type 0 where
  pub byte : a.byte < SWITCHES + 8
  pub lo : a.lo < 6

pub flt_inside_lem : (v : ℕ) → FltInside (flt_at v)
flt_inside_lem v = record { byte = ltb→lt (flt_at v).byte (SWITCHES + 8) (and_l (ltb (flt_at v).byte (SWITCHES + 8)) (ltb (flt_at v).lo 6) tested); lo = ltb→lt (flt_at v).lo 6 (and_r (ltb (flt_at v).byte (SWITCHES + 8)) (ltb (flt_at v).lo 6) tested) }
  where
    tested : T (flt_inside (flt_at v))
    tested = unfold flt_at flt_type_at in at (record { byte = 0; lo = 0 }) (λ _. flt_inside) flt_type_at tt (min v 7) (capped v 7)

-- ---- a bit of the route mask
pub route_inside : (v : ℕ) → route_bit v < 8
route_inside v = ltb→lt (route_bit v) 8 tested
  where
    tested : T (ltb (route_bit v) 8)
    tested = unfold route_bit route_bits in at 0 (λ _ n. ltb n 8) route_bits tt (min v 7) (capped v 7)
