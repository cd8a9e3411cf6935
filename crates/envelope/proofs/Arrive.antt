-- From anywhere a level arrives: each tick that does not arrive brings it nearer by 511 / 2 ^ 18 at least, and 131,072 of those are more than 255.
-- The numbers of the line are variables up to the last part, since omega takes none of more than 38 digits. Assumes nothing.
use mathlib.Core.Path.{◌≡◌, refl, sym, ap, ◌∙◌, subst}
use mathlib.Core.Logic.{◌⊎◌, inl, inr}
use Prim.Native.Nat.{ℕ, zero, suc, ◌+◌, ◌-◌, ◌*◌, ◌/◌, ◌^◌, ◌≤◌, ◌<◌}
use native.Mathlib.Nat.{zero-mul, suc-mul, mul-div_cancel, le_trans, le_refl, le_of_lt}
use native.Mathlib.Omega.{arith}
use mathlib.Core.Bool.{Bool, true, false, not, true≢false, false≢true}
use lib.IntN.{pos, negsuc}
use lib.Dec.{T, leb, le→leb, leb→le, nleb→lt, lit≤, lit<}
use lib.Ieee.{Float, nan, inf, fin, binary32, down, of_bits, neg, add, sub, mul, le, fits}
use lib.Ieee.Fits.{down_pos, cond-fits, add-fits}
use Rattle.float.specs.Consts.{k127, k_m128}
use Rattle.float.specs.Floats.{abs_of, signum_of}
use Rattle.line.proofs.Units.{Is}
use Rattle.line.proofs.Places.{Pos}
use Rattle.line.proofs.Rounds.{Room}
use Rattle.line.proofs.Line.{At, at_le, between}
use Rattle.envelope.specs.Record.{tick_level}
use Rattle.envelope.specs.Levels.{Level, Step, Between, Equal, place, distance, ticks}
use Rattle.envelope.proofs.Tick.{Up, Down, Moved, tick_moves}

dist : ℕ → ℕ → ℕ
dist p q = (p - q) + (q - p)

dist_up : (p q p' w : ℕ) → Up p q p' w → 2 * dist p' q + w ≤ 2 * dist p q
unfolding dist
dist_up p q p' w u = omega arith

dist_down : (p q p' w : ℕ) → Down p q p' w → 2 * dist p' q + w ≤ 2 * dist p q
unfolding dist
dist_down p q p' w u = omega arith

-- where the n-th tick stands
record Way (o : ℕ) (x : Float) (p q W n w : ℕ) : Type 0 where
  at : ℕ
  is : At binary32 o x at
  low : o ≤ at + W
  high : at < o + W
  nearer : 2 * dist at q + n * w ≤ 2 * dist p q

module _ (o j W H : ℕ) (R : Room binary32 j) (B : 2 * 2 ^ (24 + j) ≤ o) (Q4 : 4 * W ≤ 2 ^ (24 + j)) (i : ℕ) (eW : W ≡ 2 ^ (24 + i)) (eH : H ≡ 2 ^ i) where
  module _ (target step : Float) (q g : ℕ) (T' : At binary32 o target q) (S : At binary32 o step (o + g))
      (q1 : o ≤ q + W) (q2 : q < o + W) (g1 : 256 * H ≤ g) (g2 : g ≤ W) (g3 : 0 < g) where
    move : (level : Float) (p : ℕ) → At binary32 o level p → o ≤ p + W → p < o + W → (tick_level level target step ≡ target) ⊎ Moved o (tick_level level target step) p q (2 * g - H)
    move level p L p1 p2 = tick_moves o j W H R B Q4 i eW eH level target step p q g L T' S p1 p2 q1 q2 g1 g2 g3

    stays : tick_level target target step ≡ target
    stays = elim (move target q T' q1 q2) [
      | inl e ↦ e
      | inr m ↦ elim m.way [ inl u ↦ absurd (no_up m.to u) | inr u ↦ absurd (no_down m.to u) ]
    ]
      where
        no_up : (p' : ℕ) → Up q q p' (2 * g - H) → ⊥
        no_up p' u = omega arith

        no_down : (p' : ℕ) → Down q q p' (2 * g - H) → ⊥
        no_down p' u = omega arith

    next : (x : Float) (p n : ℕ) → Way o x p q W n (511 * H) → (tick_level x target step ≡ target) ⊎ Way o (tick_level x target step) p q W (suc n) (511 * H)
    next x p n v = elim (move x v.at v.is v.low v.high) [
      | inl e ↦ inl e
      | inr m ↦ inr (elim m.way [
        | inl u ↦ record { at = m.to; is = m.at; low = low_up m.to u; high = high_up m.to u; nearer = near_up m.to u }
        | inr u ↦ record { at = m.to; is = m.at; low = low_down m.to u; high = high_down m.to u; nearer = near_down m.to u }
      ])
    ]
      where
        c : suc n * (511 * H) ≡ n * (511 * H) + 511 * H
        c = suc-mul n (511 * H)

        gain : (a b e m m' : ℕ) → 2 * a + (2 * g - H) ≤ 2 * b → 2 * b + m ≤ 2 * e → m' ≡ m + 511 * H → 2 * a + m' ≤ 2 * e
        gain a b e m m' h k l = omega arith

        low_up : (p' : ℕ) → Up v.at q p' (2 * g - H) → o ≤ p' + W
        low_up p' u = omega arith

        high_up : (p' : ℕ) → Up v.at q p' (2 * g - H) → p' < o + W
        high_up p' u = omega arith

        near_up : (p' : ℕ) → Up v.at q p' (2 * g - H) → 2 * dist p' q + suc n * (511 * H) ≤ 2 * dist p q
        near_up p' u = gain (dist p' q) (dist v.at q) (dist p q) (n * (511 * H)) (suc n * (511 * H)) (dist_up v.at q p' (2 * g - H) u) v.nearer c

        low_down : (p' : ℕ) → Down v.at q p' (2 * g - H) → o ≤ p' + W
        low_down p' u = omega arith

        high_down : (p' : ℕ) → Down v.at q p' (2 * g - H) → p' < o + W
        high_down p' u = omega arith

        near_down : (p' : ℕ) → Down v.at q p' (2 * g - H) → 2 * dist p' q + suc n * (511 * H) ≤ 2 * dist p q
        near_down p' u = gain (dist p' q) (dist v.at q) (dist p q) (n * (511 * H)) (suc n * (511 * H)) (dist_down v.at q p' (2 * g - H) u) v.nearer c

    on_way : (level : Float) (p : ℕ) → At binary32 o level p → o ≤ p + W → p < o + W → (n : ℕ) → (ticks n level target step ≡ target) ⊎ Way o (ticks n level target step) p q W n (511 * H)
    unfolding ticks
    on_way level p L p1 p2 zero = inr (record { at = p; is = L; low = p1; high = p2; nearer = start })
      where
        start : 2 * dist p q + 0 * (511 * H) ≤ 2 * dist p q
        start = omega (arith, zero-mul (511 * H))
    on_way level p L p1 p2 (suc n) = elim (on_way level p L p1 p2 n) [
      | inl e ↦ inl (ap (λ (x : Float). tick_level x target step) e ∙ stays)
      | inr v ↦ next (ticks n level target step) p n v
    ]

    arrive : (level : Float) (p : ℕ) → At binary32 o level p → o ≤ p + W → p < o + W → dist p q ≤ 255 * (131072 * H) → 0 < H → ticks 131072 level target step ≡ target
    arrive level p L p1 p2 D P = elim (on_way level p L p1 p2 131072) [ inl e ↦ e | inr v ↦ absurd (no v) ]
      where
        no : Way o (ticks 131072 level target step) p q W 131072 (511 * H) → ⊥
        no v = too_far (dist v.at q) (dist p q) v.nearer D
          where
            too_far : (a b : ℕ) → 2 * a + 131072 * (511 * H) ≤ 2 * b → b ≤ 255 * (131072 * H) → ⊥
            too_far a b h k = omega arith

-- ---- the line of f32, with zero at 2 ^ 160, and its levels and steps
abbrev pub O : ℕ
O = 2 ^ 160

abbrev slowest : Float
slowest = fin false 1 (negsuc 8)

abbrev fastest : Float
fastest = fin false 1 (pos 7)

bottom_at : At binary32 O k_m128 (2 ^ 160 - 2 ^ 156)
unfolding of_bits neg
bottom_at = record { s = true; q = 2 ^ 156; is = (refl, refl); rep = record { q = 1; j = 156; few = lit< tt; is = refl; fine = lit< tt }; place = refl }

ceiling_at : At binary32 O k127 (2 ^ 160 + 127 * 2 ^ 149)
unfolding of_bits
ceiling_at = record { s = false; q = 127 * 2 ^ 149; is = (refl, refl); rep = record { q = 127; j = 149; few = lit< tt; is = refl; fine = lit< tt }; place = refl }

slowest_at : At binary32 O slowest (2 ^ 160 + 2 ^ 140)
slowest_at = record { s = false; q = 2 ^ 140; is = (refl, refl); rep = record { q = 1; j = 140; few = lit< tt; is = refl; fine = lit< tt }; place = refl }

fastest_at : At binary32 O fastest (2 ^ 160 + 2 ^ 156)
fastest_at = record { s = false; q = 2 ^ 156; is = (refl, refl); rep = record { q = 1; j = 156; few = lit< tt; is = refl; fine = lit< tt }; place = refl }

-- omega takes no number of more than 38 digits: so H stands for 2 ^ 132 here
level_facts : (H p : ℕ) → 0 < H → 2 ^ 28 * H - 2 ^ 24 * H ≤ p → p ≤ 2 ^ 28 * H + 127 * (131072 * H) → (2 ^ 28 * H ≤ p + 2 ^ 24 * H) × (p < 2 ^ 28 * H + 2 ^ 24 * H)
level_facts H p P a b = omega arith

step_facts : (H p : ℕ) → 0 < H → 2 ^ 28 * H + 256 * H ≤ p → p ≤ 2 ^ 28 * H + 2 ^ 24 * H → (p ≡ 2 ^ 28 * H + (p - 2 ^ 28 * H)) × (256 * H ≤ p - 2 ^ 28 * H) × (p - 2 ^ 28 * H ≤ 2 ^ 24 * H) × (0 < p - 2 ^ 28 * H)
step_facts H p P a b = omega arith

far_facts : (H p q : ℕ) → 2 ^ 28 * H - 2 ^ 24 * H ≤ p → p ≤ 2 ^ 28 * H + 127 * (131072 * H) → 2 ^ 28 * H - 2 ^ 24 * H ≤ q → q ≤ 2 ^ 28 * H + 127 * (131072 * H) → dist p q ≤ 255 * (131072 * H)
unfolding dist
far_facts H p q a b c d = omega arith

pub record LevelAt (x : Float) : Type 0 where
  pub at : ℕ
  pub is : At binary32 O x at
  pub low : 2 ^ 160 - 2 ^ 156 ≤ at
  pub high : at ≤ 2 ^ 160 + 127 * 2 ^ 149
  pub low' : O ≤ at + 2 ^ 156
  pub high' : at < O + 2 ^ 156

pub level_at_lem : (x : Float) → Level x → LevelAt x
unfolding of_bits neg
level_at_lem x h =
    let b = between binary32 O k_m128 x k127 (2 ^ 160 - 2 ^ 156) (2 ^ 160 + 127 * 2 ^ 149) bottom_at ceiling_at h.f32 tt tt h.low h.high in
    let f = level_facts (2 ^ 132) b.at (lit< tt) b.from b.upto in
    record { at = b.at; is = b.is; low = b.from; high = b.upto; low' = f.0; high' = f.1 }

record StepAt (x : Float) : Type 0 where
  size : ℕ
  is : At binary32 O x (O + size)
  low : 256 * 2 ^ 132 ≤ size
  high : size ≤ 2 ^ 156
  some : 0 < size

step_at : (x : Float) → Step x → StepAt x
step_at x h =
    let b = between binary32 O slowest x fastest (2 ^ 160 + 2 ^ 140) (2 ^ 160 + 2 ^ 156) slowest_at fastest_at h.f32 tt tt h.low h.high in
    let f = step_facts (2 ^ 132) b.at (lit< tt) b.from b.upto in
    record { size = b.at - O; is = subst (λ (p : ℕ). At binary32 O x p) f.0 b.is; low = f.1; high = f.2; some = f.3 }

pub either : (p q : ℕ) → (p ≤ q) ⊎ (q ≤ p)
either p q = go (leb p q) (leb→le p q) (nleb→lt p q)
  where
    go : (b : Bool) → (T b → p ≤ q) → (T (not b) → q < p) → (p ≤ q) ⊎ (q ≤ p)
    go true a b = inl (a tt)
    go false a b = inr (le_of_lt (b tt))

pub in_order : {x y : Float} {p q : ℕ} → At binary32 O x p → At binary32 O y q → T (le x y) → p ≤ q
in_order {x} {y} {p} {q} h k l = leb→le p q (subst T (at_le binary32 O x y p q h k) l)

pub ordered : {x y : Float} {p q : ℕ} → At binary32 O x p → At binary32 O y q → p ≤ q → T (le x y)
ordered {x} {y} {p} {q} h k l = subst T (sym (at_le binary32 O x y p q h k)) (le→leb p q l)

place_is : (x : Float) (s : Bool) (q p : ℕ) → Is binary32 x s q → Pos O s q p → place x ≡ p
unfolding place
place_is nan s q p h k = absurd h
place_is (inf u) s q p h k = absurd h
place_is (fin false m e) false q p h k = ap (λ (z : ℕ). O + z / down e) h.1 ∙ ap (λ (z : ℕ). O + z) (mul-div_cancel q (down_pos e)) ∙ sym k
place_is (fin true m e) true q p h k = ap (λ (z : ℕ). O - z / down e) h.1 ∙ ap (λ (z : ℕ). O - z) (mul-div_cancel q (down_pos e)) ∙ off O p q k
  where
    off : (o p q : ℕ) → p + q ≡ o → o - q ≡ p
    off o p q h = omega arith
place_is (fin true m e) false q p h k = absurd (true≢false h.0)
place_is (fin false m e) true q p h k = absurd (false≢true h.0)

at_distance : {x y : Float} {p q : ℕ} → At binary32 O x p → At binary32 O y q → distance x y ≡ dist p q
unfolding distance dist
at_distance {x} {y} {p} {q} h k =
    let a : place x ≡ p = place_is x h.s h.q p h.is h.place in
    let b : place y ≡ q = place_is y k.s k.q q k.is k.place in
    cc

half_facts : (U a b g : ℕ) → 256 * (2 * U) ≤ g → 2 * a + (2 * g - 2 * U) ≤ 2 * b → a + 511 * U ≤ b
half_facts U a b g h k = omega arith

module _ (target step : Float) (t : Level target) (s : Step step) where
  tt' : LevelAt target
  tt' = level_at_lem target t

  ss' : StepAt step
  ss' = step_at step s

  pub tick_stays : tick_level target target step ≡ target
  tick_stays = stays O 135 (2 ^ 156) (2 ^ 132) (lit≤ tt) (lit≤ tt) (lit≤ tt) 132 refl refl target step tt'.at ss'.size tt'.is ss'.is tt'.low' tt'.high' ss'.low ss'.high ss'.some

  moves : (level : Float) (l : LevelAt level) → (tick_level level target step ≡ target) ⊎ Moved O (tick_level level target step) l.at tt'.at (2 * ss'.size - 2 ^ 132)
  moves level l = move O 135 (2 ^ 156) (2 ^ 132) (lit≤ tt) (lit≤ tt) (lit≤ tt) 132 refl refl target step tt'.at ss'.size tt'.is ss'.is tt'.low' tt'.high' ss'.low ss'.high ss'.some level l.at l.is l.low' l.high'

  pub ticks_arrive : (level : Float) → Level level → ticks 131072 level target step ≡ target
  ticks_arrive level h =
      let l = level_at_lem level h in
      arrive O 135 (2 ^ 156) (2 ^ 132) (lit≤ tt) (lit≤ tt) (lit≤ tt) 132 refl refl target step tt'.at ss'.size tt'.is ss'.is tt'.low' tt'.high' ss'.low ss'.high ss'.some level l.at l.is l.low' l.high'
      (far_facts (2 ^ 132) l.at tt'.at l.low l.high tt'.low tt'.high) (lit< tt)

  new_fits : (level : Float) → T (fits binary32 (tick_level level target step))
  unfolding tick_level
  new_fits level =
      cond-fits binary32 (le (abs_of (sub binary32 target level)) step) target (add binary32 level (mul binary32 step (signum_of (sub binary32 target level)))) t.f32
      (add-fits binary32 level (mul binary32 step (signum_of (sub binary32 target level))))

  -- a tick does not pass the target, and so stays a level
  pub tick_between : (level : Float) → Level level → Between level (tick_level level target step) target × Level (tick_level level target step)
  tick_between level h =
      let l = level_at_lem level h in
      elim (moves level l) [
        | inl e ↦ (subst (λ (x : Float). Between level x target) (sym e) (here l), subst (λ (x : Float). Level x) (sym e) t)
        | inr m ↦ elim m.way [
          | inl u ↦ (
            inl (ordered l.is m.at u.from, ordered m.at tt'.is u.upto),
            record { f32 = new_fits level; low = ordered bottom_at m.at (le_trans l.low u.from); high = ordered m.at ceiling_at (le_trans u.upto tt'.high) },
          )
          | inr u ↦ (
            inr (ordered tt'.is m.at u.upto, ordered m.at l.is u.from),
            record { f32 = new_fits level; low = ordered bottom_at m.at (le_trans tt'.low u.upto); high = ordered m.at ceiling_at (le_trans u.from l.high) },
          )
        ]
      ]
    where
      here : LevelAt level → Between level target target
      here l = elim (either l.at tt'.at) [
        | inl a ↦ inl (ordered l.is tt'.is a, ordered tt'.is tt'.is (le_refl tt'.at))
        | inr a ↦ inr (ordered tt'.is tt'.is (le_refl tt'.at), ordered tt'.is l.is a)
      ]

  -- a level that equals the target as a number is ticked to one that does
  pub tick_equal : (level : Float) → Level level → Equal level target → Equal (tick_level level target step) target
  tick_equal level h e =
      let l = level_at_lem level h in
      elim (moves level l) [
        | inl a ↦ subst (λ (x : Float). Equal x target) (sym a) (ordered tt'.is tt'.is (le_refl tt'.at), ordered tt'.is tt'.is (le_refl tt'.at))
        | inr m ↦ elim m.way [
          | inl u ↦ (ordered m.at tt'.is u.upto, ordered tt'.is m.at (le_trans (in_order tt'.is l.is e.1) u.from))
          | inr u ↦ (ordered m.at tt'.is (le_trans u.from (in_order l.is tt'.is e.0)), ordered tt'.is m.at u.upto)
        ]
      ]

  -- a tick that does not arrive comes nearer by 511 / 2 ^ 18 at least
  pub tick_nearer : (level : Float) → Level level → (tick_level level target step ≡ target) ⊎ (distance (tick_level level target step) target + 511 * 2 ^ 131 ≤ distance level target)
  tick_nearer level h =
      let l = level_at_lem level h in
      elim (moves level l) [
        | inl e ↦ inl e
        | inr m ↦ inr (
            let w : 2 * dist m.to tt'.at + (2 * ss'.size - 2 ^ 132) ≤ 2 * dist l.at tt'.at = elim m.way [
              | inl u ↦ dist_up l.at tt'.at m.to (2 * ss'.size - 2 ^ 132) u
              | inr u ↦ dist_down l.at tt'.at m.to (2 * ss'.size - 2 ^ 132) u
            ] in
            subst (λ (z : ℕ). z + 511 * 2 ^ 131 ≤ distance level target) (sym (at_distance m.at tt'.is))
            (subst (λ (z : ℕ). dist m.to tt'.at + 511 * 2 ^ 131 ≤ z) (sym (at_distance l.is tt'.is))
            (half_facts (2 ^ 131) (dist m.to tt'.at) (dist l.at tt'.at) ss'.size ss'.low w)))
      ]
