-- A literal's bytes or a value in sight; a record of another length has the value 0 on both sides.
use mathlib.Core.Path.{◌∙◌, ap}
use native.Mathlib.Nat.{le_refl}
use native.Mathlib.Omega.{arith}
use lib.IntN.{pos}
use lib.ListN.{get_or}
use Rattle.csl.specs.Numbers.{held}
use Rattle.arith.proofs.Ints.{read! }
use Rattle.evaluation.proofs.Evaluates.{leaf_number, leaf_number_bad, leaf_literal, leaf_variable, leaf_bad, nought}
use Rattle.evaluation.proofs.Evaluates.{byte_held}
use Rattle.evaluation.proofs.leaf.Goals as goal
use Rattle.evaluation.proofs.leaf.Goals.{in_default-via-in-32+in_default, in_default-via-in_default+then-this-lt32}
use Rattle.evaluation.proofs.leaf.Goals.{in_default-via-in_default+else-this-lt32+then-this-lt35+in_default-this}
use Rattle.evaluation.proofs.leaf.Goals.{in_default-via-in_default+else-this-lt32+else-this-lt35+in_default-this-2}

pub returns-in-32-eq8 : goal.returns-in-32-eq8
returns-in-32-eq8 c =
    c.held.ensures ∙ ap held (read! c.signed32.type_inv ∙ c.signed32.ensures)
    ∙ leaf_number c.args.values.now c.args.s.now c.in-32-eq8.is-0 c.in-32-eq8.is-1

pub returns-in-33-to-34-eq5 : goal.returns-in-33-to-34-eq5
returns-in-33-to-34-eq5 c =
    c.held-in-33-to-34-eq5.ensures ∙ byte_held c.byte.ensures.0 c.byte.ensures.1
    ∙ leaf_literal c.args.values.now c.args.s.now c.args.kind c.requires c.in-33-to-34-eq5.is-0.1 (omega arith)
    c.in-33-to-34-eq5.is-1

pub returns-in-35-to-max-eq5 : goal.returns-in-35-to-max-eq5
returns-in-35-to-max-eq5 c =
    let vs = c.args.values.now in
    let i = c.byte-in-35-to-max-eq5 in
    let found = rw c.copied.ensures at c.unwrap_or.ensures ∙ c.get.ensures.lookup.4 (le_refl i.result) (pos 0) in
    c.held-in-35-to-max-eq5.ensures
    ∙ ap held (read! c.unwrap_or.type_inv ∙ found ∙ ap (λ n. get_or vs n (pos 0)) i.ensures.0)
    ∙ leaf_variable vs c.args.s.now c.args.kind (omega arith) c.in-35-to-max-eq5.is-1

pub returns-in_default : goal.returns-in_default
returns-in_default c =
    let vs = c.args.values.now in
    let s = c.args.s.now in
    let k = c.args.kind in
    c.held-in_default.ensures ∙ nought ∙ elim c.in_default.branch [
      | in_default-via-in-32+in_default w ↦ leaf_number_bad vs s (omega arith) (λ e. omega arith)
      | in_default-via-in_default+then-this-lt32 w ↦ absurd (omega arith)
      | in_default-via-in_default+else-this-lt32+then-this-lt35+in_default-this w ↦
          leaf_bad vs s k (λ e. omega arith) (λ e. omega arith)
      | in_default-via-in_default+else-this-lt32+else-this-lt35+in_default-this-2 w ↦
          leaf_bad vs s k (λ e. omega arith) (λ e. omega arith)
    ]
