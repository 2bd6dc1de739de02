-- What the program writes for an input, byte for byte.
use Rattle.std.specs.Prelude.{List, [], ◌∷◌, ℕ, ℤ, pos, replicate}
use Rattle.stream.specs.Records.{records_of}
use Rattle.lines.specs.Lines.{lines_of}

-- "begins with a table of 3,080 zeros"
unfoldable pub zeros : List ℤ
zeros = replicate 3080 (pos 0)

-- "reads the agreement, then readings, from standard input"; an input without a byte is an agreement cut short
unfoldable pub watched_records : List (List ℕ) → List ℕ
watched_records [] = lines_of [] zeros []
watched_records (s ∷ readings) = lines_of s zeros readings

unfoldable pub watched : List ℕ → List ℕ
watched input = watched_records (records_of input)

-- what a proof by computation unfolds
unfoldable pub computes : Unit {0}
unfolding zeros watched_records watched
computes = tt
