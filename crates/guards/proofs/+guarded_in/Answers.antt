-- Each arm follows the rule for guards of its kind, a `then` being left out; a part is nested less deep.
use borrow.Author.Rules.{rules}
use Rattle.guards.proofs.Walks.{formed, parts, sides}
use Rattle.guards.proofs.Guarding.{guards}
use Rattle.guards.proofs.+guarded_in.Goals as goal

ruleset laws = (guards, sides, formed, parts, rules)

pub sides_at-f-requires : goal.sides_at-f-requires
sides_at-f-requires t c = search laws

pub overflow_sub-depth : goal.overflow_sub-depth
overflow_sub-depth t c = search laws

pub guarded_in-requires : goal.guarded_in-requires
guarded_in-requires t c = search laws

pub sides_at-c-requires : goal.sides_at-c-requires
sides_at-c-requires t c = search laws

pub overflow_sub-depth-in-19-to-21 : goal.overflow_sub-depth-in-19-to-21
overflow_sub-depth-in-19-to-21 t c = search laws

pub guarded_in-requires-in-19-to-21 : goal.guarded_in-requires-in-19-to-21
guarded_in-requires-in-19-to-21 t c = search laws

pub overflow_sub-depth-then-guarded_in : goal.overflow_sub-depth-then-guarded_in
overflow_sub-depth-then-guarded_in t c = search laws

pub guarded_in-requires-then-guarded_in : goal.guarded_in-requires-then-guarded_in
guarded_in-requires-then-guarded_in t c = search laws

pub returns-in-18 : goal.returns-in-18
returns-in-18 t c = search laws

pub returns-in-22 : goal.returns-in-22
returns-in-22 t c = search laws

pub returns-then-guarded_in : goal.returns-then-guarded_in
returns-then-guarded_in t c = search laws

pub returns-else-guarded_in : goal.returns-else-guarded_in
returns-else-guarded_in t c = search laws

pub returns-in_default : goal.returns-in_default
returns-in_default t c = search laws

pub returns-in_default-2 : goal.returns-in_default-2
returns-in_default-2 t c = search laws
