-- Where every element of a frame is a byte: its words, fields and records stay within their sizes, and its parts are of bytes. Assumes nothing.
use Prim.Native.Nat.{ℕ, zero, suc, ◌+◌, ◌^◌, ◌≤◌, ◌<◌}
use native.Mathlib.Omega.{arith}
use mathlib.Core.List.{List, [], ◌∷◌}
use lib.ListN.{get_or, take, drop}
use lib.Seq.{get_or-drop}
use Rattle.frame.specs.Frame.{Bytes, word_at, field_at, bytes_at}

pub word_in : (f : List ℕ) → Bytes f → (o : ℕ) → word_at f o ≤ 65535
word_in f h o = omega (arith, h o, h (o + 1))

pub field_in : (f : List ℕ) → Bytes f → (o : ℕ) → field_at f o < 2 ^ 22
field_in f h o = omega (arith, h (o + 2), h (o + 3))

pub bytes_in : (f : List ℕ) → Bytes f → (o : ℕ) → Bytes (bytes_at f o)
unfolding bytes_at
bytes_in f h o zero = h o
bytes_in f h o (suc zero) = h (o + 1)
bytes_in f h o (suc (suc zero)) = h (o + 2)
bytes_in f h o (suc (suc (suc zero))) = h (o + 3)
bytes_in f h o (suc (suc (suc (suc zero)))) = h (o + 4)
bytes_in f h o (suc (suc (suc (suc (suc zero))))) = h (o + 5)
bytes_in f h o (suc (suc (suc (suc (suc (suc zero)))))) = h (o + 6)
bytes_in f h o (suc (suc (suc (suc (suc (suc (suc zero))))))) = h (o + 7)
bytes_in f h o (suc (suc (suc (suc (suc (suc (suc (suc i)))))))) = none i
  where
    none : (i : ℕ) → get_or [] i 0 < 256
    none zero = omega arith
    none (suc i) = omega arith

-- and so is each element of a part of it
pub part_in : (f : List ℕ) → Bytes f → (o n : ℕ) → Bytes (take n (drop o f))
part_in f h o n = taken n (drop o f) dropped
  where
    dropped : Bytes (drop o f)
    dropped i = rw (get_or-drop o f i 0) (h (o + i))

    taken : (n : ℕ) (l : List ℕ) → Bytes l → Bytes (take n l)
    taken zero l k i = omega arith
    taken (suc n) [] k i = k i
    taken (suc n) (x ∷ l) k zero = k 0
    taken (suc n) (x ∷ l) k (suc i) = taken n l (λ j. k (suc j)) i
