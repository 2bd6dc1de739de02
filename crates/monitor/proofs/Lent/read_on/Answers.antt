-- A reading that is refused tells nothing, and one that is followed leaves a table that shows a run, whose forecast is
-- told.
use mathlib.Core.Path.{ap, ◌∙◌}
use mathlib.Core.List.{List}
use borrow.Author.Rules.{rules}
use lib.IntN.{ℤ, pos}
use lib.ListN.{get_or}
use Rattle.std.proofs.lemmas.Result.{err_from_is_err_and}
use Rattle.arith.proofs.Ints.{read! }
use Rattle.settling.specs.Before.{read_from}
use Rattle.monitor.specs.Steps.{Fitted}
use Rattle.monitor.proofs.Joined.{reading_err}
use Rattle.monitor.proofs.Follows.{read_fitted, read_shows}
use Rattle.monitor.proofs.Lent.read_on.Goals as goal
use Rattle.monitor.proofs.Lent.read_on.Goals.{Else-reading-before}

-- the table that is read
abbrev us : Else-reading-before → List ℤ
us c = read_from c.args.first c.args.table.now

-- the reading fits, and is not before the last
fitted : (c : Else-reading-before) → Fitted c.args.self.now.agreement c.args.bytes.now (us c) c.in_ok-reading.reading
fitted c =
    read_fitted c.requires c.args.bytes.now (rw c.agreement.ensures.0 at c.in_ok-reading.ensures)
    (read! {z = get_or c.table_before-before.result.now 1 (pos 0)} (search rules)
    ∙ ap (λ cells. get_or cells 1 (pos 0)) c.table_before-before.ensures)
    c.if-reading-before.false

pub returns-in_err-followed : goal.returns-in_err-followed
returns-in_err-followed c =
    let at = (goal.at.returns-in_err-followed c).Else-reading-before in
    let p = err_from_is_err_and c.from_residual-in_err-followed.result c.from_residual-in_err-followed.ensures.1 in
    rw (p.1, p.2) (record {
      is = reading_err c.args.self.now.agreement (us at) (us at) c.args.bytes.now c.in_err-followed.field-0.0
          (c.in_err-followed.ensures.is c.args.bytes.now (fitted at));
      untouched = c.in_err-followed.ensures.untouched;
    })

pub foretell-ahead-requires : goal.foretell-ahead-requires
foretell-ahead-requires c =
    let f = fitted (goal.at.foretell-ahead-requires c).Else-reading-before in (
      c.requires.accepted,
      read_shows c.requires c.args.bytes.now f c.in_ok-followed.followed c.follow.new.table
          (c.in_ok-followed.ensures.is c.args.bytes.now f),
    )
