-- Each kind has its own parts before its first clause, and the arms are the definition's.
use native.Mathlib.Omega.{arith}
use Rattle.arith.proofs.Conds.{keys}
use Rattle.records.specs.Index.{first_clause}
use Rattle.records.proofs.first_clause.Goals as goal

pub returns-in-17 : goal.returns-in-17
unfolding first_clause
returns-in-17 c = (search keys depth 9, omega arith, omega arith)

pub returns-in-18 : goal.returns-in-18
unfolding first_clause
returns-in-18 c = (search keys depth 9, omega arith, omega arith)

pub returns-in-19 : goal.returns-in-19
unfolding first_clause
returns-in-19 c = (search keys depth 9, omega arith, omega arith)

pub returns-in_default : goal.returns-in_default
unfolding first_clause
returns-in_default c = (search keys depth 9, omega arith, omega arith)
