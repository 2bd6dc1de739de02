-- Each arm needs what the paper says of its kind, up to 129; a part is nested less deep.
use native.Mathlib.Omega.{arith}
use borrow.Author.Rules.{rules}
use Rattle.guards.proofs.Walks.{formed, parts, past_wait}
use Rattle.sizes.proofs.Counting.{needs}
use Rattle.sizes.proofs.+need.Goals as goal
use Rattle.sizes.proofs.+need.Goals.{in-17, in-18, in-22, in-19-to-21+then-k-eq19, in-19-to-21+else-k-eq19}
use Rattle.sizes.proofs.+need.Goals.{in_default, in_default-2}

ruleset laws = (past_wait, formed, parts, rules)

ruleset sums = (past_wait, needs, rules)

pub first_clause-c-requires : goal.first_clause-c-requires
first_clause-c-requires t c = search laws

pub overflow_sub-depth : goal.overflow_sub-depth
overflow_sub-depth t c = search laws

pub need-requires : goal.need-requires
need-requires t c = search laws

pub sides_at-c-requires : goal.sides_at-c-requires
sides_at-c-requires t c = search laws

pub overflow_sub-depth-in-18 : goal.overflow_sub-depth-in-18
overflow_sub-depth-in-18 t c = search laws

pub need-taken-requires : goal.need-taken-requires
need-taken-requires t c = search laws

pub overflow_sub-depth-in-18-2 : goal.overflow_sub-depth-in-18-2
overflow_sub-depth-in-18-2 t c = search laws

pub need-left-requires : goal.need-left-requires
need-left-requires t c = search laws

pub sides_at-c-requires-in-19-to-21 : goal.sides_at-c-requires-in-19-to-21
sides_at-c-requires-in-19-to-21 t c = search laws

pub overflow_sub-depth-in-19-to-21 : goal.overflow_sub-depth-in-19-to-21
overflow_sub-depth-in-19-to-21 t c = search laws

pub need-first-requires : goal.need-first-requires
need-first-requires t c = search laws

pub overflow_sub-depth-in-19-to-21-2 : goal.overflow_sub-depth-in-19-to-21-2
overflow_sub-depth-in-19-to-21-2 t c = search laws

pub need-second-requires : goal.need-second-requires
need-second-requires t c = search laws

pub returns : goal.returns
returns t c = (
  elim c.match-k.branch [
    | in-17 w ↦ search sums
    | in-18 w ↦ search sums
    | in-22 w ↦ search sums
    | in-19-to-21+then-k-eq19 w ↦ search sums
    | in-19-to-21+else-k-eq19 w ↦ search sums
    | in_default w ↦ search sums
    | in_default-2 w ↦ search sums
  ],
  omega arith,
)
