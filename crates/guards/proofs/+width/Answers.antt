-- Each arm counts what the rule for widths of its kind counts, up to 257; a part is nested less deep.
use borrow.Author.Rules.{rules}
use Rattle.guards.proofs.Walks.{formed, parts}
use Rattle.guards.proofs.Wide.{counts}
use Rattle.guards.proofs.+width.Goals as goal
use Rattle.guards.proofs.+width.Goals.{in-18, in-22, in-19-to-21, in_default, in_default-2}

ruleset laws = (counts, formed, parts, rules)

pub sides_at-f-requires : goal.sides_at-f-requires
sides_at-f-requires t c = search laws

pub overflow_sub-depth : goal.overflow_sub-depth
overflow_sub-depth t c = search laws

pub width-requires : goal.width-requires
width-requires t c = search laws

pub sides_at-c-requires : goal.sides_at-c-requires
sides_at-c-requires t c = search laws

pub overflow_sub-depth-in-19-to-21 : goal.overflow_sub-depth-in-19-to-21
overflow_sub-depth-in-19-to-21 t c = search laws

pub width-requires-in-19-to-21 : goal.width-requires-in-19-to-21
width-requires-in-19-to-21 t c = search laws

pub overflow_sub-depth-in-19-to-21-2 : goal.overflow_sub-depth-in-19-to-21-2
overflow_sub-depth-in-19-to-21-2 t c = search laws

pub width-requires-in-19-to-21-2 : goal.width-requires-in-19-to-21-2
width-requires-in-19-to-21-2 t c = search laws

pub returns : goal.returns
returns t c = elim c.match-k.branch [
  | in-18 w ↦ search laws
  | in-22 w ↦ search laws
  | in-19-to-21 w ↦ search laws
  | in_default w ↦ search laws
  | in_default-2 w ↦ search laws
]
