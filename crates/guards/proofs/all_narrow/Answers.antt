-- A width is found just where all is narrow.
use Rattle.guards.proofs.Wide.{narrow_found}
use Rattle.guards.proofs.all_narrow.Goals as goal

pub returns : goal.returns
returns c = narrow_found c.args.widths.now c.args.depth c.args.s.now c.narrow_width.ensures.0 c.is_some.ensures
