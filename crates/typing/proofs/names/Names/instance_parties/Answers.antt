-- Each test refuses what the rule for instances refuses, and what is left is the declared parties and the blames'.
use mathlib.Core.Path.{◌≡◌, refl, ◌∙◌}
use native.Mathlib.Omega.{arith}
use lib.ListN.{length}
use Rattle.csl.specs.Bytes.{byte}
use Rattle.csl.specs.Decode.{expr, tys_of}
use Rattle.typing.proofs.Instances.{instance_past, instance_untyped, instance_short, instance_other}
use Rattle.typing.proofs.Instances.{arguments_template, instance_refused, instance_typed}
use Rattle.arith.proofs.Lists.{length_part}
use Rattle.typing.proofs.names.Names.instance_parties.Goals as goal
use Rattle.typing.proofs.names.Names.instance_parties.Goals.{After-from-number}

-- the byte that was found
read : (c : After-from-number) → c.from-number.result ≡ byte c.args.s.now 4
read c = c.from-number.ensures ∙ c.in_ok-get.ensures.lookup.3.1 0

pub returns-in_err-get : goal.returns-in_err-get
returns-in_err-get c =
    c.from_residual.ensures ∙ instance_short c.args.self.now.agreement.now c.args.self.now.params
    (tys_of c.args.types.now) c.args.depth c.args.s.now c.in_err-get.ensures.lookup.3

pub returns-then-number-template_count : goal.returns-then-number-template_count
returns-then-number-template_count c =
    instance_past c.args.self.now.agreement.now c.args.self.now.params (tys_of c.args.types.now) (expr c.args.depth)
    c.args.s.now (read (goal.at.returns-then-number-template_count c).After-from-number) c.template_count.ensures.0
    (omega arith)

pub returns-in_err-i : goal.returns-in_err-i
returns-in_err-i c =
    let env = tys_of c.args.types.now in
    let f = expr c.args.depth in
    c.from_residual-in_err-i.ensures ∙ instance_untyped c.args.self.now.agreement.now c.args.self.now.params env f
    c.args.s.now (read (goal.at.returns-in_err-i c).After-from-number) (omega arith)
    (arguments_template c.value_types.ensures.0 env f c.args.s.now refl c.in_err-i.ensures.ends)

pub returns-then-blames-param_count : goal.returns-then-blames-param_count
returns-then-blames-param_count c =
    let env = tys_of c.args.types.now in
    let f = expr c.args.depth in
    let s = c.args.s.now in
    let n = length_part s c.in_ok-i.i (length s) (omega arith) in
    instance_other c.args.self.now.agreement.now c.args.self.now.params env f s
    (read (goal.at.returns-then-blames-param_count c).After-from-number) (omega arith)
    (arguments_template c.value_types.ensures.0 env f s refl c.in_ok-i.ensures.ends) c.param_count.ensures.0
    c.in_ok-i.ensures.within (λ e. c.if-blames-param_count.true (omega (arith, n, e)))

pub returns-in_err-blamed_parties : goal.returns-in_err-blamed_parties
returns-in_err-blamed_parties c =
    let env = tys_of c.args.types.now in
    let f = expr c.args.depth in
    let s = c.args.s.now in
    let n = length_part s c.in_ok-i.i (length s) (omega arith) in
    c.from_residual-in_err-blamed_parties.ensures ∙ instance_refused c.args.self.now.agreement.now
    c.args.self.now.params env f s (read (goal.at.returns-in_err-blamed_parties c).After-from-number) (omega arith)
    (arguments_template c.value_types.ensures.0 env f s refl c.in_ok-i.ensures.ends) c.param_count.ensures.0
    c.in_ok-i.ensures.within (omega (arith, n, c.if-blames-param_count.false)) refl refl c.in_err-blamed_parties.ensures

pub returns : goal.returns
returns c =
    let env = tys_of c.args.types.now in
    let f = expr c.args.depth in
    let s = c.args.s.now in
    let n = length_part s c.in_ok-i.i (length s) (omega arith) in
    instance_typed c.args.self.now.agreement.now c.args.self.now.params env f s
    (read (goal.at.returns c).After-from-number) (omega arith)
    (arguments_template c.value_types.ensures.0 env f s refl c.in_ok-i.ensures.ends) c.param_count.ensures.0
    c.in_ok-i.ensures.within (omega (arith, n, c.if-blames-param_count.false)) refl c.declared_bits.ensures.0
    c.declared_bits.ensures.1 c.in_ok-blamed_parties.ensures (rw c.of_bits-declared.ensures at c.bitor.ensures.0)
