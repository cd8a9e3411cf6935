-- From a test that gives both anything follows. Assumes nothing.
use Rattle.std.proofs.Common.{◌≡◌, true, false}

pub no : {X : Type 0} → false ≡ true → X
no e = absurd cc
