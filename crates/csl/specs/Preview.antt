-- Paper 02, No. 6: the entry preview. "A preview takes agreement, table and reading, and writes the outcome into a
-- second table of the same length. It answers as the reading itself would on a copy, refusals included, and the first
-- table is only read."
use Rattle.std.specs.Prelude.{true, false, List, ℕ, zero, suc, ℤ}
use Rattle.csl.specs.Check.{refused, accepted, checked}
use Rattle.csl.specs.Entries.{ReadingAnswer, is_table, reading_of, untold}

-- refused before the first table is looked at: no outcome is written
unfoldable pub no_outcome : ℕ → List ℤ → ReadingAnswer
no_outcome n second = record { number = n; forecast = untold; early = 0; cost = 0; table = second }

-- what the reading x of a copy leaves in the second table: "On a refusal the second table is untouched."
unfoldable pub left_in : List ℤ → ReadingAnswer → List ℤ
left_in second x = elim x.number [ zero ↦ x.table | suc n ↦ second ]

unfoldable pub onto : List ℤ → ReadingAnswer → ReadingAnswer
onto second x = record {
  number = x.number;
  forecast = x.forecast;
  early = x.early;
  cost = x.cost;
  table = left_in second x;
}

-- the answer, and the second table afterwards. "A second table of wrong length counts under 6."
unfoldable pub preview_of : List ℕ → List ℤ → List ℤ → List ℕ → ReadingAnswer
preview_of bytes cells second reading = elim (checked bytes) [
  | refused n ↦ no_outcome n second
  | accepted a ps ↦ elim (is_table second) [
    | false ↦ no_outcome 6 second
    | true ↦ onto second (reading_of bytes cells reading)
  ]
]

-- what a proof by computation unfolds
unfoldable pub previews_compute : Unit {0}
unfolding no_outcome left_in onto preview_of
previews_compute = tt
