-- Each arm gives the parties that the typing rule of its kind gives; a part is nested less deep than its clause.
use mathlib.Core.Option.{some}
use mathlib.Core.Path.{◌≡◌, ◌∙◌}
use Prim.Native.Nat.{ℕ, ◌-◌, ◌≤◌, ◌<◌}
use native.Mathlib.Omega.{arith}
use borrow.Author.Rules.{rules}
use Rattle.csl.specs.Decode.{expr, tys_of}
use Rattle.typing.specs.Clauses.{names_in, first_sight}
use Rattle.typing.proofs.Exprs.{cut_room}
use Rattle.typing.proofs.Sights.{first_true, first_join}
use Rattle.typing.proofs.Typings.{clauses, clause_then, choice_sees, clause_first_none}
use Rattle.typing.proofs.Typings.{clause_second_none, clause_two, sides_choice, clause_high}
use Rattle.typing.proofs.names.Names.+clause_parties.Goals as goal
use Rattle.typing.proofs.names.Names.+clause_parties.Goals.{After-sides_at-c-in-19-to-21}
use Rattle.typing.proofs.names.Names.+clause_parties.Goals.{in-19+else-not-part_typed}
use Rattle.typing.proofs.names.Names.+clause_parties.Goals.{in_default+else-kind-lt16+then-kind-lt22}
use Rattle.typing.proofs.names.Names.+clause_parties.Goals.{in_default-via-then-kind-lt16}
use Rattle.typing.proofs.names.Names.+clause_parties.Goals.{in_default-via-else-kind-lt16+else-kind-lt22}

-- the first side of a clause of kind 19 to 21 sees what the clause sees
sees : (t : ℕ) (c : After-sides_at-c-in-19-to-21 t) → (18 ≤ c.in_ok-kind.kind) × (c.in_ok-kind.kind < 22)
    × (first_sight (names_in c.args.self.now.agreement.now c.args.self.now.params)
    (tys_of c.args.types.now) (expr (c.args.depth - 1)) c.in_ok-kind.kind c.args.s.now ≡ some (tys_of
    c.args.types.now))
sees t c = elim c.in-19-to-21-1.branch [
  | in-19+else-not-part_typed w ↦ (
    omega arith,
    omega arith,
    first_true c.args.self.now.agreement.now c.args.self.now.params (tys_of c.args.types.now)
        (expr (c.args.depth - 1)) c.in_ok-kind.kind c.args.s.now w.in-19.is
        w.record_end.ensures.0 w.part_typed.ensures w.if-not-part_typed.false,
  )
  | in_default+else-kind-lt16+then-kind-lt22 w ↦ (
    omega arith,
    omega arith,
    first_join c.args.self.now.agreement.now c.args.self.now.params (tys_of c.args.types.now)
        (expr (c.args.depth - 1)) c.in_ok-kind.kind c.args.s.now
        (λ z. omega arith) (λ z. omega arith) (λ z. omega arith),
  )
]

pub returns-in_err-kind : goal.returns-in_err-kind
returns-in_err-kind t c = search (clauses, rules)

pub overflow_sub-d : goal.overflow_sub-d
overflow_sub-d t c = search (clauses, rules)

pub returns-in_err-blamed-in-17 : goal.returns-in_err-blamed-in-17
returns-in_err-blamed-in-17 t c = search (clauses, rules)

pub returns-in_err-seen-in-17 : goal.returns-in_err-seen-in-17
returns-in_err-seen-in-17 t c = search (clauses, rules)

pub first_clause-c-requires : goal.first_clause-c-requires
first_clause-c-requires t c = search (clauses, rules)

pub clause_parties-requires : goal.clause_parties-requires
clause_parties-requires t c = search (clauses, rules)

pub returns-in_err-then-in-17 : goal.returns-in_err-then-in-17
returns-in_err-then-in-17 t c = search (clauses, rules)

pub returns-in_err-seen-in-18 : goal.returns-in_err-seen-in-18
returns-in_err-seen-in-18 t c = search (clauses, rules)

pub sides_at-c-requires : goal.sides_at-c-requires
sides_at-c-requires t c = search (clauses, rules)

pub clause_parties-requires-in-18 : goal.clause_parties-requires-in-18
clause_parties-requires-in-18 t c = search (clauses, rules)

pub returns-in_err-then-in-18 : goal.returns-in_err-then-in-18
returns-in_err-then-in-18 t c =
    c.from_residual-in_err-then-in-18.ensures ∙ clause_first_none c.args.self.now.agreement.now
    c.args.self.now.params c.args.types.now c.args.depth c.args.s.now
    c.in_ok-kind.ensures (omega arith) (omega arith) _
    (choice_sees c.args.self.now.agreement.now c.args.self.now.params c.args.types.now c.args.depth c.args.s.now
    c.in_ok-kind.ensures c.in_ok-seen-in-18.seen c.in-18.is
    c.in_ok-seen-in-18.ensures c.deref-in-18.ensures.0)
    c.sides_at-c.ensures.first.0 c.sides_at-c.ensures.second.0 c.in_err-then-in-18.ensures

pub clause_parties-requires-in-18-2 : goal.clause_parties-requires-in-18-2
clause_parties-requires-in-18-2 t c = search (clauses, rules)

pub returns-in_err-other-in-18 : goal.returns-in_err-other-in-18
returns-in_err-other-in-18 t c =
    c.from_residual-in_err-other-in-18.ensures ∙ clause_second_none c.args.self.now.agreement.now
    c.args.self.now.params c.args.types.now c.args.depth c.args.s.now
    c.in_ok-kind.ensures (omega arith) (omega arith) _
    (choice_sees c.args.self.now.agreement.now c.args.self.now.params c.args.types.now c.args.depth c.args.s.now
    c.in_ok-kind.ensures c.in_ok-seen-in-18.seen c.in-18.is
    c.in_ok-seen-in-18.ensures c.deref-in-18.ensures.0)
    c.sides_at-c.ensures.first.0 c.sides_at-c.ensures.second.0 c.in_ok-then-in-18.ensures c.in_err-other-in-18.ensures

pub slice_bounds-part_typed-count : goal.slice_bounds-part_typed-count
slice_bounds-part_typed-count t c =
    cut_room c.args.depth c.args.s.now c.in_ok-kind.ensures c.record_end.ensures.2

pub slice_bounds-part_typed-start : goal.slice_bounds-part_typed-start
slice_bounds-part_typed-start t c =
    cut_room c.args.depth c.args.s.now c.in_ok-kind.ensures c.record_end.ensures.2

pub sides_at-c-requires-in-19-to-21 : goal.sides_at-c-requires-in-19-to-21
sides_at-c-requires-in-19-to-21 t c = search (clauses, rules)

pub clause_parties-requires-in-19-to-21 : goal.clause_parties-requires-in-19-to-21
clause_parties-requires-in-19-to-21 t c = search (clauses, rules)

pub returns-in_err-left-in-19-to-21 : goal.returns-in_err-left-in-19-to-21
returns-in_err-left-in-19-to-21 t c =
    let h = sees t (goal.at.returns-in_err-left-in-19-to-21 t c).After-sides_at-c-in-19-to-21 in
    c.from_residual-in_err-left-in-19-to-21.ensures ∙ clause_first_none c.args.self.now.agreement.now
    c.args.self.now.params c.args.types.now c.args.depth c.args.s.now
    c.in_ok-kind.ensures h.0 h.1 _ h.2
    c.sides_at-c-in-19-to-21.ensures.first.0 c.sides_at-c-in-19-to-21.ensures.second.0
    c.in_err-left-in-19-to-21.ensures

pub clause_parties-requires-in-19-to-21-2 : goal.clause_parties-requires-in-19-to-21-2
clause_parties-requires-in-19-to-21-2 t c = search (clauses, rules)

pub returns-in_err-right-in-19-to-21 : goal.returns-in_err-right-in-19-to-21
returns-in_err-right-in-19-to-21 t c =
    let h = sees t (goal.at.returns-in_err-right-in-19-to-21 t c).After-sides_at-c-in-19-to-21 in
    c.from_residual-in_err-right-in-19-to-21.ensures ∙ clause_second_none c.args.self.now.agreement.now
    c.args.self.now.params c.args.types.now c.args.depth c.args.s.now
    c.in_ok-kind.ensures h.0 h.1 _ h.2
    c.sides_at-c-in-19-to-21.ensures.first.0 c.sides_at-c-in-19-to-21.ensures.second.0
    c.in_ok-left-in-19-to-21.ensures c.in_err-right-in-19-to-21.ensures

pub returns-in-16 : goal.returns-in-16
returns-in-16 t c = search (clauses, rules)

pub returns-in_ok-then-in-17 : goal.returns-in_ok-then-in-17
returns-in_ok-then-in-17 t c =
    clause_then c.args.self.now.agreement.now c.args.self.now.params c.args.types.now c.args.depth c.args.s.now
    c.in_ok-kind.ensures c.in-17.is c.byte.ensures.0 c.in_ok-blamed-in-17.ensures
    c.in_ok-seen-in-17.seen c.in_ok-seen-in-17.ensures c.deref.ensures.0 c.first_clause-c.ensures.0
    c.in_ok-then-in-17.ensures c.bitor.ensures.0

pub returns-in_ok-other-in-18 : goal.returns-in_ok-other-in-18
returns-in_ok-other-in-18 t c =
    clause_two c.args.self.now.agreement.now c.args.self.now.params c.args.types.now c.args.depth c.args.s.now
    c.in_ok-kind.ensures (omega arith) (omega arith) _
    (choice_sees c.args.self.now.agreement.now c.args.self.now.params c.args.types.now c.args.depth c.args.s.now
    c.in_ok-kind.ensures c.in_ok-seen-in-18.seen c.in-18.is
    c.in_ok-seen-in-18.ensures c.deref-in-18.ensures.0)
    c.sides_at-c.ensures.first.0 c.sides_at-c.ensures.second.0 c.in_ok-then-in-18.ensures c.args.self.now.listed
    c.args.self.now.few
    c.in_ok-other-in-18.ensures (sides_choice c.in_ok-kind.kind c.in_ok-then-in-18.then
    c.in_ok-other-in-18.other c.in-18.is c.bitor-in-18.ensures.0)

pub returns-in-19 : goal.returns-in-19
returns-in-19 t c = search (clauses, rules)

pub returns-in-22 : goal.returns-in-22
returns-in-22 t c = search (clauses, rules)

pub returns-in_default : goal.returns-in_default
returns-in_default t c = elim c.in_default.branch [
  | in_default-via-then-kind-lt16 w ↦ search (clauses, rules)
  | in_default-via-else-kind-lt16+else-kind-lt22 w ↦ clause_high c.args.self.now.agreement.now c.args.self.now.params
      c.args.types.now c.args.depth c.args.s.now c.in_ok-kind.ensures
      (λ z. omega arith) (omega arith)
]

pub returns-in_ok-right-in-19-to-21 : goal.returns-in_ok-right-in-19-to-21
returns-in_ok-right-in-19-to-21 t c =
    let h = sees t (goal.at.returns-in_ok-right-in-19-to-21 t c).After-sides_at-c-in-19-to-21 in
    clause_two c.args.self.now.agreement.now c.args.self.now.params c.args.types.now c.args.depth c.args.s.now
    c.in_ok-kind.ensures h.0 h.1 _ h.2
    c.sides_at-c-in-19-to-21.ensures.first.0 c.sides_at-c-in-19-to-21.ensures.second.0
    c.in_ok-left-in-19-to-21.ensures c.args.self.now.listed c.args.self.now.few c.in_ok-right-in-19-to-21.ensures
    c.sides.ensures
