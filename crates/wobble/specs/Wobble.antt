-- The random source and the drift. Definitions only.
use Rattle.std.specs.Prelude.{ℕ, ◌+◌, ◌-◌, ◌*◌, ◌/◌, ◌%◌, ◌^◌, Bool, cond, ltb, eqb, pos, Float}
use Rattle.std.specs.Int.Bits.{bit_xor}
use Rattle.std.specs.Float.{binary32}
use Rattle.std.specs.Float.Ieee.{neg, lt, of_int}
use Rattle.float.specs.Consts.{k0, k1, k2, k3, k1200, FS, k0p5, k1p5, k_u_max}
use Rattle.float.specs.Ops.{◌⊕◌, ◌⊖◌, ◌⊗◌, ◌⊘◌}
use Rattle.root.specs.Root.{sqrt_of}
use Rattle.power.specs.Power.{exp2_of}
use Rattle.wobble.specs.declared.Wobble.{Wobble}
use Rattle.wobble.specs.declared.Drawn.{Drawn}
use Rattle.wobble.specs.declared.Drift.{Drift}

-- a hit's detune at most, in cents
abbrev pub DETUNE_CENTS : Float
DETUNE_CENTS = k3

-- how far an oscillator drifts, in cents
abbrev pub DRIFT_CENTS : Float
DRIFT_CENTS = k1p5

-- within how many seconds
abbrev pub DRIFT_TAU : Float
DRIFT_TAU = k0p5

-- in how many ticks the drift moves once
abbrev pub DRIFT_EVERY : ℕ
DRIFT_EVERY = 32

-- the random sequence: xorshift32 by 13, 17 and 5
unfoldable pub xorshift_of : ℕ → ℕ
xorshift_of s =
    let a = bit_xor s (s * 2 ^ 13 % 2 ^ 32) in
    let b = bit_xor a (a / 2 ^ 17) in
    bit_xor b (b * 2 ^ 5 % 2 ^ 32)

-- a fresh board's: seed 0 counts as 1, and the ideal mark makes the depth 0
unfoldable pub new_of : ℕ → Bool → Wobble
new_of seed ideal = record { s = cond (eqb seed 0) 1 seed; depth = cond ideal k0 k1 }

-- `uni`
unfoldable pub uni_of : Wobble → Drawn Float
uni_of w = let s = xorshift_of w.s in record { w = record { s = s; depth = w.depth }; x = of_int binary32 (pos s) ⊘ k_u_max ⊗ k2 ⊖ k1 }

-- `detune`
unfoldable pub detune_of : Wobble → Float → Drawn Float
detune_of w cents = let d = uni_of w in record { w = d.w; x = exp2_of (d.x ⊗ cents ⊗ w.depth ⊘ k1200) }

-- `phase`
unfoldable pub phase_of : Wobble → Drawn Float
phase_of w = let d = uni_of w in record { w = d.w; x = cond (lt k0 w.depth) (k0p5 ⊗ (d.x ⊕ k1)) k0 }

-- `Drift::default`
unfoldable pub drift_new : Drift
drift_new = record { cents = k0; ratio = k1; n = 0 }

-- the drift's next cents: what was, pulled back by a part a of it, and the kick u
unfoldable pub cents_of : Float → Float → Float → Float
cents_of cents u depth =
    let a = of_int binary32 (pos DRIFT_EVERY) ⊘ FS ⊘ DRIFT_TAU in
    cents ⊕ (neg a ⊗ cents ⊕ u ⊗ sqrt_of k3 ⊗ DRIFT_CENTS ⊗ sqrt_of (k2 ⊗ a) ⊗ depth)

-- `Drift::tick`: a drift draws on every 32nd tick
unfoldable pub drift_of : Drift → Wobble → Drawn Drift
drift_of d w =
    let r = uni_of w in
    let cents = cents_of d.cents r.x w.depth in
    cond (ltb d.n (DRIFT_EVERY - 1))
    (record { x = record { cents = d.cents; ratio = d.ratio; n = d.n + 1 }; w = w })
    (record { x = record { cents = cents; ratio = exp2_of (cents ⊘ k1200); n = 0 }; w = r.w })
