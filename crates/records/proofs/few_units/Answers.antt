-- One of kind 3 declares none; of one of kind 4 they stand behind the declared parties.
use Rattle.records.proofs.Units.{no_units, units_few}
use borrow.Author.Rules.{rules}
use Rattle.records.proofs.few_units.Goals as goal

pub returns-then-kind-ne4 : goal.returns-then-kind-ne4
returns-then-kind-ne4 c = no_units c.args.piece.now c.kind.ensures c.if-kind-ne4.true

pub returns-else-kind-ne4 : goal.returns-else-kind-ne4
returns-else-kind-ne4 c = search (units_few, rules)
