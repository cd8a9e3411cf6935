-- Where oscillator 1 does not sound without FM or ring, since the voice's amp is at or below -127.5 or its own level word is 0, today's sample and that of before R-7 are the same, or zeros. Assumes nothing.
use Prim.Native.Nat.{ℕ, zero, suc, ◌≤◌}
use native.Mathlib.Nat.{zero-mul}
use mathlib.Core.Path.{◌≡◌, refl, sym, ap, subst, ◌∙◌}
use mathlib.Core.Bool.{Bool, true, false, true≢false, not, ◌&&◌, ◌||◌, cond}
use mathlib.Core.List.{List}
use lib.Dec.{T, eqb, eqb→eq}
use lib.IntN.{pos}
use lib.Ieee.{Float, nan, inf, fin, binary32, up, down, neg, le, lt, eq, fits, of_bits, of_int}
use lib.Ieee.Fits.{add-fits, mul-fits}
use Rattle.line.proofs.Range.{In, in_cond, in_self, in_wide}
use Rattle.float.specs.Consts.{k0, k1, k2, k3, k6, k12, k127, k32767, k0p5, k_m127p5, LEVELS_PER_6DB}
use Rattle.float.specs.Ops.{◌⊕◌, ◌⊗◌}
use Rattle.float.proofs.Eval.{leaf, con, plus, minus, times, over, range, proves}
use Rattle.float.proofs.Laws.{minus_zero}
use Rattle.float.proofs.Numbers.{word_range, zero_is, zero_in}
use Rattle.float.proofs.Zeros.{Alike, same, zeros, zero_plus}
use Rattle.frame.specs.Frame.{Bytes}
use Rattle.frame.specs.Offsets.{AMP_REC}
use Rattle.envelope.specs.Levels.{Level}
use Rattle.envelope.specs.Moves.{dual_of}
use Rattle.envelope.proofs.Ranges.{level_range}
use Rattle.envelope.proofs.Settle.{dual_level}
use Rattle.power.proofs.Laws.{exp2_gain}
use Rattle.vco.specs.declared.Pair.{Pair}
use Rattle.vco.specs.Vco.{osc_of, ring_of}
use Rattle.vco.proofs.Kept.{Wide, wave_in, osc_in}
use Rattle.wobble.specs.declared.Wobble.{Wobble}
use Rattle.wobble.proofs.Kept.{Unit, either}
use Rattle.dual.specs.declared.DualOsc.{DualOsc}
use Rattle.dual.specs.declared.DualOut.{DualOut}
use Rattle.dual.specs.declared.Settings.{Settings}
use Rattle.dual.specs.Dual.{settings_of, gain_of, word_level, sample_by, sample_of}
use Rattle.dual.specs.Codes.{phases_of, heard_of}
use Rattle.dual.specs.BeforeR7.{sound_before, sample_before, plain_sounds, turned}
use Rattle.dual.proofs.Kept.{DualIn, cv_in, record_bytes}
use Rattle.dual.proofs.Codes.{sample_heard, follows_its_code}
use Rattle.dual.proofs.BeforeR7.{only_plain_changed, before_heard}

-- ---- what is heard is finite
level_in : (w : ℕ) → w ≤ 65535 → In binary32 k0 k3 (word_level w)
unfolding word_level of_bits proves
level_in w h = range k0 k3 (over (leaf (word_range w h)) k32767) tt

ringed_in : (on : Bool) (o : Float) (stopped : Bool) (ph : Float) → Wide o → Wide (ring_of on o stopped ph)
unfolding ring_of of_bits proves
ringed_in true o stopped ph h =
    range (neg k2) k2 (times (leaf h) (leaf (in_cond binary32 (neg k1) k1 (stopped || lt ph k0p5) (λ t. range (neg k1) k1 (con k1) tt) (λ t. range (neg k1) k1 (con (neg k1)) tt)))) tt
ringed_in false o stopped ph h = h

heard_in : (i : Settings) (p : Pair) → Unit p.ph1 → Unit p.ph2 → i.level1 ≤ 65535 → i.level2 ≤ 65535 → In binary32 (neg k12) k12 (heard_of i p)
unfolding heard_of of_bits proves
heard_in i p h1 h2 l1 l2 =
    let core = i.fm || i.ring in
    let o1 = ringed_in i.ring _ (eqb i.tune2 0) p.ph2 (osc_in (core && eqb i.tune1 0) _ p.ph1 h1) in
    let o2 = osc_in (core && eqb i.tune2 0) _ p.ph2 h2 in
    range (neg k12) k12
    (plus (times (leaf o1) (leaf (level_in i.level1 l1))) (leaf (in_cond binary32 (neg k6) k6 i.fm (λ t. range (neg k6) k6 (con k0) tt) (λ t. range (neg k6) k6 (times (leaf o2) (leaf (level_in i.level2 l2))) tt)))) tt

-- and so a zero, where the amp is at its floor
gain_zero : (l : Float) → T (le l k_m127p5) → In binary32 k0 k0 (gain_of l)
unfolding gain_of of_bits fits le lt eq
gain_zero l t = by (le l k_m127p5) _ t
  where
    by : (b : Bool) (x : Float) → T b → In binary32 k0 k0 (cond b k0 x)
    by true x t = in_self binary32 k0 tt
    by false x t = absurd t

floored : (y l : Float) → In binary32 (neg k12) k12 y → T (le l k_m127p5) → T (eq (y ⊗ gain_of l) k0)
unfolding of_bits proves
floored y l h t = let z = range k0 k0 (times (leaf h) (leaf (gain_zero l t))) tt in zero_is (y ⊗ gain_of l) z.from z.upto

phases_in : (i : Settings) (e : DualOsc) → DualIn e → Unit (phases_of i e).ph1 × Unit (phases_of i e).ph2
unfolding of_bits proves
phases_in i e h =
    either (λ (p : Pair). Unit p.ph1 × Unit p.ph2) (i.trig && not e.trig) (record { ph1 = k0; ph2 = k0 }) (record { ph1 = e.ph1; ph2 = e.ph2 })
    (range k0 k1 (con k0) tt, range k0 k1 (con k0) tt) (h.ph1.unit, h.ph2.unit)

-- a gain is from 0 to 1
gain_in : (l : Float) → Level l → In binary32 k0 k1 (gain_of l)
unfolding gain_of of_bits fits le lt eq
gain_in l h =
    in_cond binary32 k0 k1 (le l k_m127p5) (λ t. in_wide binary32 k0 k1 (in_self binary32 k0 tt) tt)
    (λ t. in_wide binary32 k0 k1 (exp2_gain (unfold proves neg in range (fin true 1 (pos 4)) (fin false 0 (pos 0)) (over (minus (leaf (level_range l h)) (con k127)) LEVELS_PER_6DB) tt)) tt)

scaled : (x y g : Float) → Alike x y → In binary32 k0 k1 g → Alike (x ⊗ g) (y ⊗ g)
unfolding of_bits proves
scaled x y g (same e) h = same (ap (λ (z : Float). z ⊗ g) e)
scaled x y g (zeros fx ex fy ey) h =
    let a = range k0 k0 (times (leaf (zero_in x fx ex)) (leaf h)) tt in
    let b = range k0 k0 (times (leaf (zero_in y fy ey)) (leaf h)) tt in
    zeros (mul-fits binary32 x g) (zero_is (x ⊗ g) a.from a.upto) (mul-fits binary32 y g) (zero_is (y ⊗ g) b.from b.upto)

-- ---- where oscillator 1's level word is 0 its zero decides nothing but the sign of a sum that is a zero
zero_eq : (z : Float) → minus_zero z ≡ true → T (eq z k0)
unfolding eq of_bits
zero_eq nan e = absurd (true≢false (sym e))
zero_eq (inf s) e = absurd (true≢false (sym e))
zero_eq (fin s (suc m) d) e = absurd (true≢false (sym e))
zero_eq (fin false zero d) e = absurd (true≢false (sym e))
zero_eq (fin true zero d) e = rw (zero-mul (up d), zero-mul (down d)) tt

sums : (x y w : Float) → In binary32 k0 k0 x → In binary32 k0 k0 y → T (fits binary32 w) → Alike (x ⊕ w) (y ⊕ w)
unfolding of_bits proves
sums x y w a b f = by (minus_zero w) refl
  where
    by : (m : Bool) → minus_zero w ≡ m → Alike (x ⊕ w) (y ⊕ w)
    by false e = let n : T (not (minus_zero w)) = subst (λ (m : Bool). T (not m)) (sym e) tt in same (zero_plus x w a.ok.0 (zero_is x a.from a.upto) f n ∙ sym (zero_plus y w b.ok.0 (zero_is y b.from b.upto) f n))
    by true e =
        let z = zero_in w f (zero_eq w e) in
        let u = range k0 k0 (plus (leaf a) (leaf z)) tt in
        let v = range k0 k0 (plus (leaf b) (leaf z)) tt in
        zeros (add-fits binary32 x w) (zero_is (x ⊕ w) u.from u.upto) (add-fits binary32 y w) (zero_is (y ⊕ w) v.from v.upto)

-- what is heard of oscillator 1 at level 0
mute_in : (o : Float) (w : ℕ) → w ≡ 0 → Wide o → In binary32 k0 k0 (o ⊗ word_level w)
unfolding word_level of_bits of_int proves
mute_in o w e h = rw e (range k0 k0 (times (leaf h) (over (con (of_int binary32 (pos 0))) k32767)) tt)

neither : (a b : Bool) → (a || b) ≡ false → (a ≡ false) × (b ≡ false)
neither true b e = absurd (true≢false e)
neither false b e = (refl, e)

heard_alike : (i : Settings) (p : Pair) → Unit p.ph1 → (i.fm || i.ring) ≡ false → i.level1 ≡ 0 → Alike (heard_of i p) (heard_of (turned i) p)
unfolding heard_of osc_of ring_of
heard_alike i p h c l =
    let n = neither i.fm i.ring c in
    rw (n.0, n.1) (sums _ _ _ (mute_in _ i.level1 l (wave_in _ p.ph1 h)) (mute_in _ i.level1 l (wave_in _ p.ph1 h)) (mul-fits binary32 _ _))

-- ---- a sample beside the one before R-7
module _ (f : List ℕ) (B : Bytes f) (d : ℕ) (e : DualOsc) (w : Wobble) (h : DualIn e) where
  abbrev i : Settings
  i = settings_of f d

  abbrev level : Float
  level = (dual_of e.last_a i.ra e.amp).level

  heard_zero : (j : Settings) → j.level1 ≡ i.level1 → j.level2 ≡ i.level2 → T (le level k_m127p5) → let y = heard_of j (phases_of i e) ⊗ gain_of level in T (fits binary32 y) × T (eq y k0)
  unfolding settings_of
  heard_zero j a b t =
      let p = phases_in i e h in (
        mul-fits binary32 (heard_of j (phases_of i e)) (gain_of level),
        floored _ level (heard_in j (phases_of i e) p.0 p.1 (rw a (cv_in f B d 2)) (rw b (cv_in f B d 3))) t,
      )

  amp_level : Level level
  unfolding settings_of
  amp_level = dual_level e.last_a i.ra e.amp (record_bytes f B d AMP_REC) h.amp

  pub sample_alike : plain_sounds f d e ≡ false → Alike (sample_of f d e w).y (sample_before f d e w).y
  unfolding plain_sounds sample_of sample_before sample_by
  sample_alike q = by (i.fm || i.ring) (eqb i.level1 0) (le level k_m127p5) refl refl refl q
    where
      now : (sample_of f d e w).y ≡ heard_of i (phases_of i e) ⊗ gain_of level
      now = follows_its_code f d e w

      then : (sample_before f d e w).y ≡ heard_of (turned i) (phases_of i e) ⊗ gain_of level
      then = sample_heard sound_before (heard_of (turned i)) f d e w (before_heard i)

      by : (core mute low : Bool) → (i.fm || i.ring) ≡ core → eqb i.level1 0 ≡ mute → le level k_m127p5 ≡ low → (not core && not mute && not low) ≡ false → Alike (sample_of f d e w).y (sample_before f d e w).y
      by true mute low c m l q = same (ap (λ (o : DualOut). o.y) ((only_plain_changed f d e w).modulated (subst T (sym c) tt)))
      by false true low c m l q =
          let level1 : i.level1 ≡ 0 = eqb→eq i.level1 0 (subst T (sym m) tt) in
          rw (now, then) (scaled (heard_of i (phases_of i e)) (heard_of (turned i) (phases_of i e)) (gain_of level) (heard_alike i (phases_of i e) (phases_in i e h).0 c level1) (gain_in level amp_level))
      by false false true c m l q =
          let t : T (le level k_m127p5) = subst T (sym l) tt in
          let y = heard_zero i refl refl t in
          let z = heard_zero (turned i) refl refl t in
          zeros (rw now y.0) (rw now y.1) (rw then z.0) (rw then z.1)
      by false false false c m l q = absurd (true≢false q)
