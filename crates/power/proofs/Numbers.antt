-- Numbers that the proofs share: one of Q32, and ln 2 and one over 10 ^ 14. Assumes nothing.
use Prim.Native.Nat.{ℕ}

abbrev pub P : ℕ
P = 4294967296

abbrev pub L : ℕ
L = 69314718055995

abbrev pub M : ℕ
M = 100000000000000
