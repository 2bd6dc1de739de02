-- Place and time are read as numbers; the time, the clause found at the place and its sort decide the rest.
use mathlib.Core.Path.{◌≡◌}
use borrow.Author.Rules.{rules}
use borrow.Author.Tests.{tests}
use mathlib.Core.Bool.{◌&&◌}
use lib.Dec.{leb}
use lib.IntN.{pos}
use lib.ListN.{get_or}
use Rattle.csl.specs.Bytes.{le32}
use Rattle.csl.specs.Decode.{agreement_of}
use Rattle.csl.specs.Places.{clause_at}
use Rattle.places.specs.Locate.{Locates}
use Rattle.units.proofs.Cells.{not_natural, natural}
use Rattle.units.proofs.Waits.{wait_negative, wait_timeless, wait_outside, wait_nowhere, found_there, wait_other}
use Rattle.units.proofs.Waits.{wait_located}
use Rattle.units.proofs.waiting_unit.Goals as goal
use Rattle.units.proofs.waiting_unit.Goals.{In_ok-place, In_ok-when, After-locate, After-start, After-contains}

-- the place and the time, as the cells say them
placed : (c : In_ok-place) → get_or c.args.cells.now 0 (pos 0) ≡ pos c.in_ok-place.place
placed c = natural (get_or c.args.cells.now 0 (pos 0)) (search rules) _ c.ok.ensures.value c.try_from.ensures
    c.in_ok-place.was

timed : (c : In_ok-when) → get_or c.args.cells.now 1 (pos 0) ≡ pos c.in_ok-when.when
timed c = natural (get_or c.args.cells.now 1 (pos 0)) (search rules) _ c.ok-2.ensures.value c.try_from-2.ensures
    c.in_ok-when.was

-- what is found there
found : (c : After-locate) → Locates (clause_at (agreement_of c.args.accepted.now) c.in_ok-place.place) c.locate.result
found c = rw c.agreement-agreement.ensures.0 at c.locate.ensures

-- the test of the time
begins : (c : After-start) → c.start.result ≡ le32 c.args.accepted.now 4
begins c = rw c.agreement-agreement.ensures.0 at c.start.ensures.0

within : (c : After-contains) → c.contains.result
    ≡ (leb c.start.result c.in_ok-when.when && leb c.in_ok-when.when c.args.time)
within c = grind (rules, tests)

pub returns-in_err-place : goal.returns-in_err-place
returns-in_err-place c = rw c.from_residual.ensures
    (wait_negative c.agreement-agreement.ensures.1 c.args.time c.args.wait c.args.cells.now c.requires
    (not_natural (get_or c.args.cells.now 0 (pos 0)) (search rules) _ c.ok.ensures.value c.try_from.ensures
    c.in_err-place.was))

pub returns-in_err-when : goal.returns-in_err-when
returns-in_err-when c = rw c.from_residual-in_err-when.ensures
    (wait_timeless c.agreement-agreement.ensures.1 c.args.time c.args.wait c.args.cells.now c.requires
    (not_natural (get_or c.args.cells.now 1 (pos 0)) (search rules) _ c.ok-2.ensures.value c.try_from-2.ensures
    c.in_err-when.was))

pub returns-then-not-contains : goal.returns-then-not-contains
returns-then-not-contains c =
    let at = goal.at.returns-then-not-contains c in
    wait_outside c.agreement-agreement.ensures.1 c.args.time c.args.wait c.args.cells.now c.requires
    (timed at.In_ok-when) (begins at.After-start) (within at.After-contains) c.if-not-contains.true

pub returns-in_err-found : goal.returns-in_err-found
returns-in_err-found c =
    let at = goal.at.returns-in_err-found c in
    rw c.from_residual-in_err-found.ensures
    (wait_nowhere c.agreement-agreement.ensures.1 c.args.time c.args.wait c.args.cells.now c.requires
    (timed at.In_ok-when) (placed at.In_ok-place)
    _ (found at.After-locate) c.in_err-found.was)

pub returns-else-eq : goal.returns-else-eq
returns-else-eq c =
    let at = goal.at.returns-else-eq c in
    wait_other c.agreement-agreement.ensures.1 c.args.time c.args.wait c.args.cells.now c.requires
    (timed at.In_ok-when) (placed at.In_ok-place)
    _ (found at.After-locate) c.in_ok-found.was (search rules)

pub located_unit-requires-clause-there : goal.located_unit-requires-clause-there
located_unit-requires-clause-there c =
    let at = goal.at.located_unit-requires-clause-there c in
    found_there c.agreement-agreement.ensures.1 c.args.time c.args.wait c.args.cells.now c.requires
    (timed at.In_ok-when) (placed at.In_ok-place)
    _ (found at.After-locate) c.in_ok-found.was

pub returns-then-eq : goal.returns-then-eq
returns-then-eq c =
    let at = goal.at.returns-then-eq c in
    wait_located c.agreement-agreement.ensures.1 c.args.time c.args.wait c.args.cells.now c.requires
    (timed at.In_ok-when) (placed at.In_ok-place)
    _ (found at.After-locate) c.in_ok-found.was
    (begins at.After-start) (within at.After-contains) c.if-not-contains.false (search rules)
    c.located_unit.result c.located_unit.ensures
