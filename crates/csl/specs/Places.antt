-- The waiting clause at a byte place of the agreement, with what is in sight there.
use Rattle.std.specs.Prelude.{true, false, List, [], ◌∷◌, ℕ, eqb}
use Rattle.std.proofs.Math.Option.{Option, none, some}
use Rattle.csl.specs.Lists.{or_else, or_nil}
use Rattle.csl.specs.Syntax.{Ty, Clause, fulfilled, obligation, choice, if, join, instance, bad_clause, Template}
use Rattle.csl.specs.Syntax.{Agreement}
use Rattle.csl.specs.Typing.{reading_of_type, then_sight}

-- the clause, the types in sight there and the number of party parameters
pub record Found : Type 0 where
  pub clause : Clause
  pub sight : List Ty
  pub params : ℕ

module _ (rs : List (List Ty)) (n p : ℕ) where
  unfoldable pub find : Clause → List Ty → Option Found
  find fulfilled env = none
  find (obligation b w t) env = elim (eqb p w.place) [
    | true ↦ some (record { clause = obligation b w t; sight = env; params = n })
    | false ↦ find t (then_sight env (or_nil (reading_of_type rs w.wanted)))
  ]
  find (choice w t f) env = elim (eqb p w.place) [
    | true ↦ some (record { clause = choice w t f; sight = env; params = n })
    | false ↦ or_else (find t (then_sight env (or_nil (reading_of_type rs w.wanted)))) (find f env)
  ]
  find (if c t f) env = or_else (find t env) (find f env)
  find (join j t f) env = or_else (find t env) (find f env)
  find (instance k es bs) env = none
  find bad_clause env = none

unfoldable pub find_in : List (List Ty) → ℕ → List Template → Option Found
find_in rs p [] = none
find_in rs p (t ∷ ts) = or_else (find rs t.head.params p t.body t.head.values) (find_in rs p ts)

unfoldable pub clause_at : Agreement → ℕ → Option Found
clause_at a p = or_else (find a.readings 0 p a.main []) (find_in a.readings p a.templates)

-- what a proof by computation unfolds
unfoldable pub computes : Unit {0}
unfolding find find_in clause_at
computes = tt
