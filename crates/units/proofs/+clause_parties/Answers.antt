-- Each arm gives the parties that the rule of its kind gives, parameters replaced; a part is shorter than its clause.
use Rattle.units.proofs.Blames.{whole_room, then_in_lem, then_parties, sides_in, sides_parties, low_parties}
use Rattle.units.proofs.Blames.{high_parties}
use Rattle.arith.proofs.Lists.{length_part}
use lib.ListN.{length}
use native.Mathlib.Omega.{arith}
use Rattle.units.proofs.+clause_parties.Goals as goal
use Rattle.units.proofs.+clause_parties.Goals.{in_default-via-then-k-lt17}
use Rattle.units.proofs.+clause_parties.Goals.{in_default-via-else-k-lt17+else-k-lt22}

pub first_clause-c-requires : goal.first_clause-c-requires
first_clause-c-requires t c = whole_room c.requires

pub clause_parties-requires : goal.clause_parties-requires
clause_parties-requires t c = (
  omega (
    arith,
    whole_room c.requires,
    c.first_clause-c.ensures,
    length_part c.args.s.now c.first_clause-c.result (length c.args.s.now) (omega arith),
  ),
  then_in_lem c.requires c.kind-k.ensures c.in-17.is c.first_clause-c.ensures.0,
)

pub sides_at-c-requires : goal.sides_at-c-requires
sides_at-c-requires t c = whole_room c.requires

pub clause_parties-left-requires : goal.clause_parties-left-requires
clause_parties-left-requires t c =
    let x = c.sides_at-c.result.0 in
    let z = c.sides_at-c.result.1 in
    let second = c.sides_at-c.ensures.second in (
      omega (
        arith,
        whole_room c.requires,
        c.sides_at-c.ensures.first,
        second,
        length_part c.args.s.now x z second.1,
      ),
      (sides_in c.requires c.kind-k.ensures (omega arith) (omega arith) c.sides_at-c.ensures.first.0 second.0).0,
    )

pub clause_parties-requires-in-18-to-21 : goal.clause_parties-requires-in-18-to-21
clause_parties-requires-in-18-to-21 t c =
    let z = c.sides_at-c.result.1 in
    let n = length c.args.s.now in
    let second = c.sides_at-c.ensures.second in (
      omega (
        arith,
        whole_room c.requires,
        c.sides_at-c.ensures.first,
        second,
        length_part c.args.s.now z n (omega arith),
      ),
      (sides_in c.requires c.kind-k.ensures (omega arith) (omega arith) c.sides_at-c.ensures.first.0 second.0).1,
    )

pub returns-in-17 : goal.returns-in-17
returns-in-17 t c =
    then_parties c.requires c.kind-k.ensures c.in-17.is c.first_clause-c.ensures.0
    c.byte.ensures.0 c.stands_for.ensures c.of-own.ensures.0 c.clause_parties.ensures c.bitor.ensures.0

pub returns-in-18-to-21 : goal.returns-in-18-to-21
returns-in-18-to-21 t c =
    sides_parties c.requires c.kind-k.ensures (omega arith) (omega arith) c.sides_at-c.ensures.first.0
    c.sides_at-c.ensures.second.0 c.clause_parties-left.ensures
    c.clause_parties-in-18-to-21.ensures c.bitor-in-18-to-21.ensures.0

pub returns-in_default : goal.returns-in_default
returns-in_default t c = rw c.empty.ensures (elim c.in_default.branch [
  | in_default-via-then-k-lt17 w ↦ low_parties c.requires c.kind-k.ensures (omega arith) (λ e. omega arith)
  | in_default-via-else-k-lt17+else-k-lt22 w ↦ high_parties c.requires c.kind-k.ensures (omega arith)
      (λ e. omega arith)
])
