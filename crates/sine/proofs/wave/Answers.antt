-- `sine::wave` meets its contract: its steps are those of `wave_of`, and the sign is put into the pattern. Assumes nothing.
use mathlib.Core.Path.{◌≡◌, ◌∙◌, sym, ap, subst}
use Prim.Native.Nat.{ℕ, ◌+◌, ◌-◌, ◌*◌, ◌/◌, ◌%◌, ◌^◌}
use native.Mathlib.Omega.{arith}
use lib.Dec.{T}
use lib.Ieee.{Float, binary32, fits}
use Rattle.fixed.specs.Fixed.{pack_of}
use Rattle.sine.specs.Exact.{folded, lower}
use Rattle.sine.specs.Sine.{sine_fix, quarter31, signed, wave_of}
use Rattle.sine.proofs.Sign.{Turned, turned, pack_fits}
use Rattle.sine.proofs.wave.Goals as goal

-- what whole quarter turns leave
left : (x : ℕ) → x - x / quarter31 * quarter31 ≡ x % quarter31
left x = omega arith

pub float_to_bits-result : goal.float_to_bits-result
float_to_bits-result c =
    let quarters : ℕ = c.args.x / quarter31 + c.args.j in
    let known : Turned quarters c.pack-r.result = turned quarters 16777216 c.sine_fix-q.result (2 ^ 63) c.pack-r.result (subst (λ (v : Float). T (fits binary32 v)) (sym c.pack-r.ensures.is) (pack_fits c.sine_fix-q.result 63)) c.pack-r.ensures.near in
    known.number

pub overflow_add-result : goal.overflow_add-result
overflow_add-result c =
    let quarters : ℕ = c.args.x / quarter31 + c.args.j in
    let known : Turned quarters c.pack-r.result = turned quarters 16777216 c.sine_fix-q.result (2 ^ 63) c.pack-r.result (subst (λ (v : Float). T (fits binary32 v)) (sym c.pack-r.ensures.is) (pack_fits c.sine_fix-q.result 63)) c.pack-r.ensures.near in
    omega (arith, known.room)

pub float_from_bits-result : goal.float_from_bits-result
float_from_bits-result c =
    let quarters : ℕ = c.args.x / quarter31 + c.args.j in
    let known : Turned quarters c.pack-r.result = turned quarters 16777216 c.sine_fix-q.result (2 ^ 63) c.pack-r.result (subst (λ (v : Float). T (fits binary32 v)) (sym c.pack-r.ensures.is) (pack_fits c.sine_fix-q.result 63)) c.pack-r.ensures.near in
    known.good

pub returns : goal.returns
unfolding wave_of
returns c =
    let quarters : ℕ = c.args.x / quarter31 + c.args.j in
    let size_of : c.pack-r.result ≡ pack_of (sine_fix (folded quarters quarter31 (c.args.x % quarter31))) 63 = c.pack-r.ensures.is ∙ ap (λ (q : ℕ). pack_of q 63) (c.sine_fix-q.ensures.0 ∙ ap sine_fix (c.fold-z.ensures.0 ∙ ap (folded quarters quarter31) (left c.args.x))) in
    let known : Turned quarters c.pack-r.result = turned quarters 16777216 c.sine_fix-q.result (2 ^ 63) c.pack-r.result (subst (λ (v : Float). T (fits binary32 v)) (sym c.pack-r.ensures.is) (pack_fits c.sine_fix-q.result 63)) c.pack-r.ensures.near in
    known.is ∙ ap (signed (lower quarters)) size_of
