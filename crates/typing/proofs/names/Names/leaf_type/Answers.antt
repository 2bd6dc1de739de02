-- Each kind of leaf has the type of its rule, if its bytes are as many and its value is allowed.
use Rattle.typing.proofs.Exprs.{leaves}
use borrow.Author.Rules.{rules}
use Rattle.typing.proofs.names.Names.leaf_type.Goals as goal

pub returns-in-32 : goal.returns-in-32
returns-in-32 c = search (leaves, rules)

pub returns-in-33 : goal.returns-in-33
returns-in-33 c = search (leaves, rules)

pub returns-in-34 : goal.returns-in-34
returns-in-34 c = search (leaves, rules)

pub returns-in_default : goal.returns-in_default
returns-in_default c = search (leaves, rules)

pub returns-in_default-2 : goal.returns-in_default-2
returns-in_default-2 c = search (leaves, rules)
