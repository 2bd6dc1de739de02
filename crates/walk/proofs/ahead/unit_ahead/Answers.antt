-- An obligation's breach is what the rule at the unit gives, and so is what any other clause comes to, by definition.
use lib.IntN.{pos}
use lib.ListN.{get_or}
use Rattle.std.proofs.lemmas.List.{nil_from_length}
use Rattle.cells.specs.Across.{nat_of}
use Rattle.cells.specs.Ahead.{unit_ahead}
use Rattle.activation.specs.Leads.{BreaksAhead}
use Rattle.walk.proofs.WaitingUnits.{unit_ahead_lem}
use Rattle.walk.proofs.ahead.unit_ahead.Goals as goal

pub returns-in-Some : goal.returns-in-Some
unfolding BreaksAhead
returns-in-Some c =
    let ag = c.args.agreement.now in
    let p = nat_of (get_or c.args.unit.now 1 (pos 0)) in
    let place = (rw (c.bytes.ensures.0, c.natural.ensures) at c.clause_at-s.ensures).0 in
    rw (unit_ahead_lem ag c.args.unit.now)
    (rw (place, c.natural-2.ensures) at (c.in-Some.ensures ag p))

pub returns-in-None : goal.returns-in-None
unfolding unit_ahead
returns-in-None c =
    let w = c.waiting_unit in
    rw (nil_from_length w.new.out w.auto.out) at w.ensures.outcome
