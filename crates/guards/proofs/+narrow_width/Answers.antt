-- Each arm sums up what the rule for widths of its kind says, and one part that is not narrow decides; a part is nested
-- less deep.
use borrow.Author.Rules.{rules}
use Rattle.guards.proofs.Walks.{formed, parts}
use Rattle.guards.proofs.Wide.{narrows, offs, few}
use Rattle.guards.proofs.+narrow_width.Goals as goal
use Rattle.guards.proofs.+narrow_width.Goals.{in-17+in_ok-narrow_width-in-17, in-22, in_default, in_default-2}
use Rattle.guards.proofs.+narrow_width.Goals.{in-18+in_ok-narrow_width-in-18+in_ok-narrow_width-in-18-2}
use Rattle.guards.proofs.+narrow_width.Goals.{in-19-to-21+in_ok-left-in-19-to-21+in_ok-right-in-19-to-21}

ruleset laws = (offs, formed, parts, rules)

ruleset sums = (narrows, rules)

pub first_clause-c-requires : goal.first_clause-c-requires
first_clause-c-requires t c = search laws

pub overflow_sub-depth : goal.overflow_sub-depth
overflow_sub-depth t c = search laws

pub narrow_width-requires : goal.narrow_width-requires
narrow_width-requires t c = search laws

pub returns-in_err-narrow_width-in-17 : goal.returns-in_err-narrow_width-in-17
returns-in_err-narrow_width-in-17 t c = search laws

pub sides_at-c-requires : goal.sides_at-c-requires
sides_at-c-requires t c = search laws

pub overflow_sub-depth-in-18 : goal.overflow_sub-depth-in-18
overflow_sub-depth-in-18 t c = search laws

pub narrow_width-requires-in-18 : goal.narrow_width-requires-in-18
narrow_width-requires-in-18 t c = search laws

pub returns-in_err-narrow_width-in-18 : goal.returns-in_err-narrow_width-in-18
returns-in_err-narrow_width-in-18 t c = search laws

pub overflow_sub-depth-in-18-2 : goal.overflow_sub-depth-in-18-2
overflow_sub-depth-in-18-2 t c = search laws

pub narrow_width-requires-in-18-2 : goal.narrow_width-requires-in-18-2
narrow_width-requires-in-18-2 t c = search laws

pub returns-in_err-narrow_width-in-18-2 : goal.returns-in_err-narrow_width-in-18-2
returns-in_err-narrow_width-in-18-2 t c = search laws

pub sides_at-c-requires-in-19-to-21 : goal.sides_at-c-requires-in-19-to-21
sides_at-c-requires-in-19-to-21 t c = search laws

pub overflow_sub-depth-in-19-to-21 : goal.overflow_sub-depth-in-19-to-21
overflow_sub-depth-in-19-to-21 t c = search laws

pub narrow_width-requires-in-19-to-21 : goal.narrow_width-requires-in-19-to-21
narrow_width-requires-in-19-to-21 t c = search laws

pub returns-in_err-left-in-19-to-21 : goal.returns-in_err-left-in-19-to-21
returns-in_err-left-in-19-to-21 t c = search laws

pub overflow_sub-depth-in-19-to-21-2 : goal.overflow_sub-depth-in-19-to-21-2
overflow_sub-depth-in-19-to-21-2 t c = search laws

pub narrow_width-requires-in-19-to-21-2 : goal.narrow_width-requires-in-19-to-21-2
narrow_width-requires-in-19-to-21-2 t c = search laws

pub returns-in_err-right-in-19-to-21 : goal.returns-in_err-right-in-19-to-21
returns-in_err-right-in-19-to-21 t c = search laws

pub returns : goal.returns
returns t c = (
  elim c.match-k.branch [
    | in-17+in_ok-narrow_width-in-17 w ↦ search sums
    | in-18+in_ok-narrow_width-in-18+in_ok-narrow_width-in-18-2 w ↦ search sums
    | in-22 w ↦ search sums
    | in-19-to-21+in_ok-left-in-19-to-21+in_ok-right-in-19-to-21 w ↦ search sums
    | in_default w ↦ search sums
    | in_default-2 w ↦ search sums
  ],
  few c.match-k.width c.then_some.ensures,
)
