-- Each arm gives the type that the typing rule of its kind gives; an operand is nested less deep.
use Rattle.csl.specs.Bytes.{byte}
use mathlib.Core.Path.{◌∙◌}
use native.Mathlib.Omega.{arith}
use borrow.Author.Rules.{rules}
use Rattle.typing.proofs.Exprs.{deep, fewer, room, cut_room, type_none, type_leaf, type_not, type_not_none}
use Rattle.typing.proofs.Exprs.{type_left_none}
use Rattle.typing.proofs.Exprs.{type_right_none, type_operation, type_low, type_high}
use Rattle.typing.proofs.names.Names.+type_of.Goals as goal

pub slice_bounds-type_of-count : goal.slice_bounds-type_of-count
slice_bounds-type_of-count t c = room c.args.depth c.args.s.now c.in_ok-kind.ensures

pub slice_bounds-type_of-start : goal.slice_bounds-type_of-start
slice_bounds-type_of-start t c = search (rules, room, c.in_ok-kind.ensures)

pub overflow_sub-d : goal.overflow_sub-d
overflow_sub-d t c = deep c.args.depth c.args.s.now c.in_ok-kind.ensures

pub type_of-requires : goal.type_of-requires
type_of-requires t c = search (rules, fewer, c.in_ok-kind.ensures)

pub slice_bounds-type_of-count-in-37-to-43 : goal.slice_bounds-type_of-count-in-37-to-43
slice_bounds-type_of-count-in-37-to-43 t c =
    cut_room c.args.depth c.args.s.now c.in_ok-kind.ensures c.record_end-cut.ensures.2

pub slice_bounds-type_of-start-in-37-to-43 : goal.slice_bounds-type_of-start-in-37-to-43
slice_bounds-type_of-start-in-37-to-43 t c = search (rules, cut_room, c.in_ok-kind.ensures)

pub type_of-requires-in-37-to-43 : goal.type_of-requires-in-37-to-43
type_of-requires-in-37-to-43 t c = search (rules, fewer, c.in_ok-kind.ensures)

pub type_of-requires-in-37-to-43-2 : goal.type_of-requires-in-37-to-43-2
type_of-requires-in-37-to-43-2 t c = search (rules, fewer, c.in_ok-kind.ensures)

pub returns-in_err-kind : goal.returns-in_err-kind
returns-in_err-kind t c =
    c.from_residual.ensures ∙ type_none (byte c.args.self.now.agreement.now 8) c.args.types.now c.args.depth
    c.args.s.now
    c.in_err-kind.ensures

pub returns-in-32-to-35 : goal.returns-in-32-to-35
returns-in-32-to-35 t c =
    type_leaf (byte c.args.self.now.agreement.now 8) c.args.types.now c.args.depth c.args.s.now
    c.in_ok-kind.ensures (omega arith)
    (omega arith) c.leaf_type.ensures

pub returns-in_err-type_of-in-36 : goal.returns-in_err-type_of-in-36
returns-in_err-type_of-in-36 t c =
    c.from_residual-in_err-type_of-in-36.ensures ∙ type_not_none (byte c.args.self.now.agreement.now 8)
    c.args.types.now c.args.depth
    c.args.s.now c.in_ok-kind.ensures c.in-36.is c.in_err-type_of-in-36.ensures

pub returns-in_ok-type_of-in-36 : goal.returns-in_ok-type_of-in-36
returns-in_ok-type_of-in-36 t c =
    type_not (byte c.args.self.now.agreement.now 8) c.args.types.now c.args.depth c.args.s.now
    c.in_ok-kind.ensures c.in-36.is
    c.in_ok-type_of-in-36.ensures c.negated.ensures

pub returns-in_err-left-in-37-to-43 : goal.returns-in_err-left-in-37-to-43
returns-in_err-left-in-37-to-43 t c =
    c.from_residual-in_err-left-in-37-to-43.ensures ∙ type_left_none (byte c.args.self.now.agreement.now 8)
    c.args.types.now c.args.depth
    c.args.s.now c.in_ok-kind.ensures (omega arith) (omega arith) (omega arith)
    c.record_end-cut.ensures.0 c.in_err-left-in-37-to-43.ensures

pub returns-in_err-right-in-37-to-43 : goal.returns-in_err-right-in-37-to-43
returns-in_err-right-in-37-to-43 t c =
    c.from_residual-in_err-right-in-37-to-43.ensures ∙ type_right_none (byte c.args.self.now.agreement.now 8)
    c.args.types.now c.args.depth
    c.args.s.now c.in_ok-kind.ensures (omega arith) (omega arith) (omega arith)
    c.record_end-cut.ensures.0 c.in_err-right-in-37-to-43.ensures

pub returns-in_ok-right-in-37-to-43 : goal.returns-in_ok-right-in-37-to-43
returns-in_ok-right-in-37-to-43 t c =
    type_operation (byte c.args.self.now.agreement.now 8) c.args.types.now c.args.depth c.args.s.now
    c.in_ok-kind.ensures (omega arith)
    (omega arith) (omega arith) c.record_end-cut.ensures.0
    c.in_ok-left-in-37-to-43.ensures c.in_ok-right-in-37-to-43.ensures c.operation_type.ensures

pub returns-in_default : goal.returns-in_default
returns-in_default t c =
    type_low (byte c.args.self.now.agreement.now 8) c.args.types.now c.args.depth c.args.s.now
    c.in_ok-kind.ensures (omega arith)

pub returns-in_default-2 : goal.returns-in_default-2
returns-in_default-2 t c =
    type_high (byte c.args.self.now.agreement.now 8) c.args.types.now c.args.depth c.args.s.now
    c.in_ok-kind.ensures (omega arith)
