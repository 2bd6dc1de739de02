-- Each arm asks what the form of its kind asks; a part is nested less deep than its clause.
use borrow.Author.Rules.{rules}
use Rattle.formed.proofs.Clauses.{clauses, obligation_formed, sides_formed}
use Rattle.laws.proofs.Bools.{true_first, false_first}
use Rattle.formed.proofs.+clause_formed.Goals as goal
use Rattle.formed.proofs.+clause_formed.Goals.{then-tests_formed-2, else-tests_formed-2}

pub returns-then-depth-eq0 : goal.returns-then-depth-eq0
returns-then-depth-eq0 t c = search clauses

pub first_clause-c-requires : goal.first_clause-c-requires
first_clause-c-requires t c = search clauses

pub sides_at-c-requires : goal.sides_at-c-requires
sides_at-c-requires t c = search clauses

pub returns-in-16 : goal.returns-in-16
returns-in-16 t c = search clauses

pub returns-then-tests_formed : goal.returns-then-tests_formed
returns-then-tests_formed t c = search (obligation_formed, true_first)

pub returns-else-tests_formed : goal.returns-else-tests_formed
returns-else-tests_formed t c = search clauses

pub returns-in-22 : goal.returns-in-22
returns-in-22 t c = search clauses

pub returns-then-clause_formed : goal.returns-then-clause_formed
returns-then-clause_formed t c = elim c.if-tests_formed-2.branch [
  | then-tests_formed-2 w ↦ search (sides_formed, true_first, rules)
  | else-tests_formed-2 w ↦ search (sides_formed, true_first, false_first, rules)
]

pub returns-else-clause_formed : goal.returns-else-clause_formed
returns-else-clause_formed t c = elim c.if-tests_formed-2.branch [
  | then-tests_formed-2 w ↦ search (sides_formed, true_first, false_first, rules)
  | else-tests_formed-2 w ↦ search (sides_formed, true_first, false_first, rules)
]

pub returns-in_default : goal.returns-in_default
returns-in_default t c = search clauses

pub returns-in_default-2 : goal.returns-in_default-2
returns-in_default-2 t c = search clauses
