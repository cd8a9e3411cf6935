-- The digits of a number read as that number. Assumes nothing.
use Rattle.std.proofs.Common.{◌≡◌, ℕ, ◌^◌, ◌<◌, arith, rules}
use Rattle.std.specs.Str.Parse.{AllDigits}
use Rattle.std.proofs.lemmas.Str.Parse.{IsNumeralModel, numerals_by_fold, tells_digits}
use Rattle.std.proofs.lemmas.Fmt.{digits_value-decimal}
use Rattle.text.specs.Text.{decimal_of, read_of}
use Rattle.text.proofs.Joined.{decimal_same}

reads : IsNumeralModel (AllDigits 10) (read_of 0)
unfolding read_of
reads = numerals_by_fold (AllDigits 10) tells_digits read_of (search rules)

-- every number of 32 bits
pub decimal_reads : (n : ℕ) → n < 2 ^ 32 → read_of 0 (decimal_of n) ≡ n
decimal_reads n h = rw (← decimal_same n h) (digits_value-decimal reads n (omega arith))
