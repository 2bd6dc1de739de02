-- Residues and outcomes, and how `and` and `or` join them: paper 01, "Following a reading";
-- CSL's verdicts (Defs. 2 and 4).
use Rattle.std.specs.Prelude.{true, false, List, ◌++◌, ℕ, ◌+◌, ltb}
use Rattle.std.proofs.Math.Option.{Option, none, some}
use Rattle.csl.specs.Parties.{is_same_set}
use Rattle.csl.specs.Syntax.{Join, and, or}
use Rattle.csl.specs.Values.{Val}

-- what is known where a clause stands: its template's party parameters and the values in sight
pub record Sight : Type 0 where
  pub params : List ℕ
  pub values : List Val

-- kinds 17 and 18, the clauses that wait
pub data Sort : Type 0 where
  an_obligation a_choice : Sort

-- "a residue of waiting clauses (place, A, parameters, values in sight) joined by `and` and `or`, a unit each"
pub data Residue : Type 0 where
  unit : Sort → ℕ → ℕ → Sight → Residue
  both : Join → Residue → Residue → Residue

unfoldable pub units : Residue → ℕ
units (unit s p a e) = 1
units (both j l r) = 1 + units l + units r

-- fulfilled, breached with time and parties, running with a residue; `stuck` is an outcome of its own
pub data Outcome : Type 0 where
  done : Outcome
  breach : ℕ → List ℕ → Outcome
  running : Residue → Outcome
  stuck : Outcome

unfoldable pub or_other : {A : Type 0} → A → Option A → A
or_other x none = x
or_other x (some y) = y

unfoldable pub or_stuck : Option Outcome → Outcome
unfolding or_other
or_stuck o = or_other stuck o

-- `and`: "of two the earlier, at equal times both sets"
unfoldable pub earlier : ℕ → List ℕ → ℕ → List ℕ → Outcome
earlier t ps u qs = elim (ltb t u) [
  | true ↦ breach t ps
  | false ↦ elim (ltb u t) [ true ↦ breach u qs | false ↦ breach t (ps ++ qs) ]
]

-- `or`: "of two breaches the later"; "two breaches of an `or` at one time [that] differ in parties" are stuck
unfoldable pub later : ℕ → List ℕ → ℕ → List ℕ → Outcome
later t ps u qs = elim (ltb t u) [
  | true ↦ breach u qs
  | false ↦ elim (ltb u t) [
    | true ↦ breach t ps
    | false ↦ elim (is_same_set ps qs) [ true ↦ breach t ps | false ↦ stuck ]
  ]
]

-- "`and`: one breach decides"; "Fulfilled beside `and` vanishes"
unfoldable pub join_both : Outcome → Outcome → Outcome
join_both done o = o
join_both (breach t ps) done = breach t ps
join_both (breach t ps) (breach u qs) = earlier t ps u qs
join_both (breach t ps) (running r) = breach t ps
join_both (breach t ps) stuck = stuck
join_both (running l) done = running l
join_both (running l) (breach u qs) = breach u qs
join_both (running l) (running r) = running (both and l r)
join_both (running l) stuck = stuck
join_both stuck o = stuck

-- "`or`: fulfilled beats all; a breach leaves the other side"
unfoldable pub join_either : Outcome → Outcome → Outcome
join_either done done = done
join_either done (breach u qs) = done
join_either done (running r) = done
join_either done stuck = stuck
join_either (breach t ps) done = done
join_either (breach t ps) (breach u qs) = later t ps u qs
join_either (breach t ps) (running r) = running r
join_either (breach t ps) stuck = stuck
join_either (running l) done = done
join_either (running l) (breach u qs) = running l
join_either (running l) (running r) = running (both or l r)
join_either (running l) stuck = stuck
join_either stuck o = stuck

unfoldable pub joined : Join → Outcome → Outcome → Outcome
joined and l r = join_both l r
joined or l r = join_either l r

-- what a proof by computation unfolds
unfoldable pub computes : Unit {0}
unfolding units or_other or_stuck earlier later join_both join_either joined
computes = tt
