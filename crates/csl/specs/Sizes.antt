-- Paper 02, No. 7: agreements whose size is known beforehand, and refusal 15.
use Rattle.std.specs.Prelude.{Bool, true, false, ◌&&◌, List, map, ℕ, ◌+◌, max, leb, length}
use Rattle.csl.specs.Lists.{all, at, there}
use Rattle.csl.specs.Syntax.{Clause, fulfilled, obligation, choice, if, join, instance, bad_clause, Template}
use Rattle.csl.specs.Syntax.{Agreement}
use Rattle.csl.specs.Widths.{or_zero}

-- "An agreement whose templates are all of kind 4, and which has at least one, is sized."
unfoldable pub sized : Agreement → Bool
sized a = leb 1 (length a.templates) && all (λ t. there t.head.units) a.templates

-- the units that the templates declare
unfoldable pub units_of : List Template → List ℕ
units_of ts = map (λ t. or_zero t.head.units) ts

-- "The need of fulfilled is 0. For an obligation it is the larger of 1 and the need of `then`. For a choice it is the
-- largest of 1 and the needs of its two clauses. For an if it is the larger of both. For `and` and `or` it is 1 and
-- both together. An instance needs its template's units."
unfoldable pub clause_need : List ℕ → Clause → ℕ
clause_need us fulfilled = 0
clause_need us (obligation b w t) = max 1 (clause_need us t)
clause_need us (choice w t f) = max 1 (max (clause_need us t) (clause_need us f))
clause_need us (if e t f) = max (clause_need us t) (clause_need us f)
clause_need us (join j t f) = 1 + clause_need us t + clause_need us f
clause_need us (instance k es bs) = or_zero (at us k)
clause_need us bad_clause = 0

unfoldable pub main_need : Agreement → ℕ
main_need a = clause_need (units_of a.templates) a.main

-- "a body's need is above its declared units": not so
unfoldable pub body_fits : List ℕ → Template → Bool
body_fits us t = leb (clause_need us t.body) (or_zero t.head.units)

-- refusal 15, "in a sized agreement a body's need is above its declared units or the main clause's above 128", where
-- this is false
unfoldable pub fits : Agreement → Bool
fits a = elim (sized a) [
  | false ↦ true
  | true ↦ leb (main_need a) 128 && all (body_fits (units_of a.templates)) a.templates
]

-- what a proof by computation unfolds
unfoldable pub computes : Unit {0}
unfolding sized units_of clause_need main_need body_fits fits
computes = tt
