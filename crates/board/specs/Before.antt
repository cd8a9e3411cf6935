-- The step on boards of before a request. `x_on` is `x_of` of specs/Board.antt. Definitions only.
use Rattle.std.specs.Prelude.{ℕ, Bool, cond, List, replicate, ℤ, pos, Option, None}
use Rattle.float.specs.Consts.{k0}
use Rattle.wobble.specs.declared.Wobble.{Wobble}
use Rattle.wobble.specs.Wobble.{new_of}
use Rattle.dual.specs.declared.DualOsc.{DualOsc}
use Rattle.dual.specs.Dual.{dual_new}
use Rattle.hat.specs.declared.Hat.{Hat}
use Rattle.hat.specs.Hat.{hat_new}
use Rattle.tom.specs.declared.Tom.{Tom}
use Rattle.tom.specs.Tom.{tom_new}
use Rattle.cym.specs.declared.Cym.{Cym}
use Rattle.cym.specs.Cym.{cym_new}
use Rattle.sources.specs.Sources.{Sources, sound_of}
use Rattle.chain.specs.declared.Chain.{Chain}
use Rattle.chain.specs.Before.{Kind}
use Rattle.bus.specs.Bus.{master_of}
use Rattle.bus.specs.Before.{voices_on, earlier_chains}
use Rattle.comp.specs.declared.Comp.{Comp}
use Rattle.comp.specs.Comp.{comp_new, process_of}
use Rattle.stereo.specs.declared.Mix.{Mix}
use Rattle.board.specs.declared.Analog.{Analog}
use Rattle.board.specs.declared.Inputs.{Inputs}
use Rattle.board.specs.declared.Answer.{Answer}
use Rattle.board.specs.declared.refusals.Refusal.{Refusal}
use Rattle.board.specs.Board.{refusal_of, accepted, words_of}

-- ---- an answer, by any step on any boards
pub record AnswerOn (B : Type 0) : Type 0 where
  pub refusal : Option Refusal
  pub rx : List ℤ
  pub mix : Mix
  pub board : B

-- what an accepted step made of a board
abbrev pub StepOn : Type 0 → Type 0
StepOn B = B → List ℕ → List ℤ → List ℕ → Inputs → AnswerOn B

unfoldable pub refused_on : {B : Type 0} → B → Option Refusal → AnswerOn B
refused_on b o = record { refusal = o; rx = replicate 12 (pos 0); mix = record { l = k0; r = k0 }; board = b }

unfoldable pub answer_on : {B : Type 0} → StepOn B → B → List ℕ → List ℤ → List ℕ → Inputs → AnswerOn B
answer_on step b f dac fx x = let o = refusal_of f dac fx x in cond (accepted o) (step b f dac fx x) (refused_on b o)

-- today's answer, its board told by what boards had then
abbrev pub earlier_answer : {B : Type 0} → (Analog → B) → Answer → AnswerOn B
earlier_answer e a = record { refusal = a.refusal; rx = a.rx; mix = a.mix; board = e a.board }

-- ---- boards whose chains had other fields
pub record BoardOn (C : Type 0) : Type 0 where
  pub duals : List DualOsc
  pub hat : Hat
  pub toms : List Tom
  pub cym : Cym
  pub chains : List C
  pub comp : Comp
  pub wobble : Wobble

unfoldable pub fresh_on : {C : Type 0} → Kind C → ℕ → Bool → BoardOn C
fresh_on c seed ideal = record {
  duals = replicate 3 dual_new;
  hat = hat_new;
  toms = replicate 3 tom_new;
  cym = cym_new;
  chains = replicate 8 c.new;
  comp = comp_new;
  wobble = new_of seed ideal;
}

unfoldable pub taken_on : {C : Type 0} → BoardOn C → Sources
taken_on b = record { duals = b.duals; hat = b.hat; toms = b.toms; cym = b.cym; w = b.wobble; src = replicate 8 k0 }

unfoldable pub stepped_on : {C : Type 0} → Kind C → StepOn (BoardOn C)
stepped_on c b f dac fx x =
    let s = sound_of f dac (taken_on b) in
    let v = voices_on c f dac s.src b.chains in
    let m = master_of f dac v.mix x.ext in
    let o = process_of fx m.l m.r b.comp in
    record {
      refusal = None;
      rx = words_of v.rx x.audio o.mix;
      mix = o.mix;
      board = record { duals = s.duals; hat = s.hat; toms = s.toms; cym = s.cym; chains = v.chains; comp = o.comp; wobble = s.w };
    }

-- today's board, told by what chains had then
abbrev pub earlier_board : {C : Type 0} → (Chain → C) → Analog → BoardOn C
earlier_board e b = record { duals = b.duals; hat = b.hat; toms = b.toms; cym = b.cym; chains = earlier_chains e b.chains; comp = b.comp; wobble = b.wobble }
