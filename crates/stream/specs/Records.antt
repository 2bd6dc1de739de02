-- Paper 01, "Pond trials": "Each record is taken by its length field; one cut short by the end of input is refused
-- with 1 or 8.
-- Input that ends after a whole record ends the run without a line."
use Rattle.std.specs.Prelude.{Bool, List, [], ◌∷◌, ℕ, zero, suc, max, leb, length, take, drop}
use Rattle.csl.specs.Bytes.{le16}

-- how many bytes the first record takes: what its length field says, and the field itself in any case
unfoldable pub size_of : List ℕ → ℕ
size_of s = max 2 (le16 s 0)

-- all of the first record is there
unfoldable pub is_whole : List ℕ → Bool
is_whole s = leb (size_of s) (length s)

-- one record after another; the last may be cut short. `steps` only bounds how many
unfoldable pub records_in : ℕ → List ℕ → List (List ℕ)
records_in zero s = []
records_in (suc steps) [] = []
records_in (suc steps) (b ∷ s) = take (size_of (b ∷ s)) (b ∷ s) ∷ records_in steps (drop (size_of (b ∷ s)) (b ∷ s))

unfoldable pub records_of : List ℕ → List (List ℕ)
records_of s = records_in (length s) s

-- what a proof by computation unfolds
unfoldable pub computes : Unit {0}
unfolding size_of is_whole records_in records_of
computes = tt
