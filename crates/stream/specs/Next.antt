-- What is next in an input of which some bytes are at hand and of which the rest may still come.
use Rattle.std.specs.Prelude.{Bool, true, false, List, ℕ, zero, suc, length}
use Rattle.stream.specs.Records.{size_of, is_whole}
use Rattle.stream.specs.declared.Next.{Next}
use Rattle.stream.specs.declared.Next.TheVariants.{Record, Wait, End}

-- whether all of the first record is there, whether the input has ended; the record's size, and how many bytes are at
-- hand
unfoldable pub next_by : Bool → Bool → ℕ → ℕ → Next
next_by true ended size there = Record size
next_by false false size there = Wait
next_by false true size zero = End
next_by false true size (suc k) = Record (suc k)

unfoldable pub next_of : List ℕ → Bool → Next
next_of s ended = next_by (is_whole s) ended (size_of s) (length s)
