-- What is read out of a unit's cells.
use Rattle.std.specs.Prelude.{◌≡◌, cond, List, [], ◌∷◌, ℕ, ltb, ℤ, pos, negsuc, Option as Maybe, Some, None}
use Rattle.std.proofs.Math.Option.{Option, none, some}
use Rattle.arrayvec.specs.ArrayVec.{ArrayVec}
use Rattle.csl.specs.Lists.{◌>>=◌, need}
use Rattle.csl.specs.Values.{as_nat}

-- a cell as a number below end, where it is one
unfoldable pub number_below : ℕ → ℤ → Maybe ℕ
number_below end (pos n) = cond (ltb n end) (Some n) None
number_below end (negsuc n) = None

-- ---- the parties that cells are; none where one is not below ps
unfoldable pub parties_in : ℕ → List ℤ → Option (List ℕ)
parties_in ps [] = some []
parties_in ps (z ∷ zs) = as_nat z >>= λ p. need (ltb p ps) >>= λ _. parties_in ps zs >>= λ r. some (p ∷ r)

-- what was read is o
unfoldable pub PartiesRead : Option (List ℕ) → Maybe (ArrayVec ℕ) → Type 0
PartiesRead o None = o ≡ none
PartiesRead o (Some own) = o ≡ some own.items
