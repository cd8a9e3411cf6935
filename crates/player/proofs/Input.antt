-- What is printed for an input that was read into the buffer: one that the buffer holds, and one of which it holds the start. Assumes nothing.
use Rattle.std.proofs.Common.{◌≡◌, ℕ, zero, suc, ◌+◌, ◌<◌, false, List, [], ◌++◌, None, Some, IfSome, length, take, arith, refl, sym, ap, ◌∙◌, subst, take_all}
use lib.Dec.{ltb}
use lib.ListN.{length-append}
use lib.Seq.{take-append_seam}
use borrow.Author.Tests.{lt-ltb, le-ltb}
use Rattle.std.specs.declared.option.Option.{Option}
use Rattle.std.specs.Io.KnownBytes.{Appends, Consumes, IsAtEnd}
use Rattle.std.proofs.KnownBytes.{Consumes-whole}
use Rattle.player.specs.Text.{text_of, printed_of}

short_text : (xs : List ℕ) → length xs < 65536 → printed_of xs ≡ text_of false xs
unfolding printed_of
short_text xs h = rw (le-ltb 65536 (length xs) (omega arith), take_all 65536 xs (omega arith)) refl

-- the reader is at its end before the buffer is full, and a writer has the text
pub short_input : (a b u v : Option (List ℕ)) (xs : List ℕ) → Consumes a b xs → IsAtEnd b → length xs < 65536 → Appends u v (text_of false xs) → IfSome a (λ bytes. Appends u v (printed_of bytes))
short_input a b u v xs p e h t = Consumes-whole a b xs (λ bytes. Appends u v (printed_of bytes)) p e (subst (Appends u v) (sym (short_text xs h)) t)

-- the buffer is full, and then m bytes more are read, of one at most
long_text : (m : ℕ) (x rec y next z : List ℕ) → length rec ≡ 65536 → x ≡ rec ++ y → y ≡ next ++ z → m ≡ length next → (m < 1 → z ≡ []) → text_of (ltb 0 m) rec ≡ printed_of x
unfolding printed_of
long_text m x rec y next z full p q e end = ap (λ b. text_of b rec) (by m e end) ∙ ap (text_of (ltb 65536 (length x))) (sym front)
  where
    front : take 65536 x ≡ rec
    front = ap (take 65536) p ∙ ap (λ k. take k (rec ++ y)) (sym full) ∙ take-append_seam rec y

    long : length x ≡ 65536 + (length next + length z)
    long = ap length p ∙ length-append rec y ∙ ap (λ k. k + length y) full ∙ ap (λ l. 65536 + length l) q ∙ ap (λ k. 65536 + k) (length-append next z)

    by : (m : ℕ) → m ≡ length next → (m < 1 → z ≡ []) → ltb 0 m ≡ ltb 65536 (length x)
    by zero e end = let none = ap length (end (omega arith)) in sym (le-ltb 65536 (length x) (omega (arith, long, none, e)))
    by (suc m) e end = lt-ltb 0 (suc m) (omega arith) ∙ sym (lt-ltb 65536 (length x) (omega (arith, long, e)))

pub long_input : (a b c u v : Option (List ℕ)) (rec next : List ℕ) (m : ℕ) → length rec ≡ 65536 → Consumes a b rec → Consumes b c next → m ≡ length next → (m < 1 → IsAtEnd c) → Appends u v (text_of (ltb 0 m) rec)
    → IfSome a (λ bytes. Appends u v (printed_of bytes))
long_input None b c u v rec next m full p q e end t = tt
long_input (Some x) None c u v rec next m full p q e end t = absurd p
long_input (Some x) (Some y) None u v rec next m full p q e end t = absurd q
long_input (Some x) (Some y) (Some z) u v rec next m full p q e end t = subst (Appends u v) (long_text m x rec y next z full p q e end) t
