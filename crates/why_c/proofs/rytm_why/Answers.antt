-- `why_c::rytm_why` meets its contract: the answer of the call, numbered, of a frame that is a list of bytes, as a lent `&[u8]` is. Assumes nothing.
use Rattle.why.proofs.Whole.{told}
use Rattle.why_c.proofs.rytm_why.Goals as goal

pub returns : goal.returns
returns c = record {
  is = rw (← c.new-x.ensures, ← c.side.ensures, ← c.why.ensures.value) c.numbered.ensures;
  told = told _ _ _ _ _ _ _ (λ i. (c.type_inv.frame i).fits);
}
