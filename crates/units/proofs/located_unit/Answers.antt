-- The cells hold to what is in sight at the place, and the parties are then compared with the main clause's.
use lib.ListN.{length}
use mathlib.Core.Path.{◌≡◌, refl, ap}
use native.Mathlib.Omega.{arith}
use Prim.Native.Nat.{◌+◌, ◌≤◌}
use Rattle.csl.specs.Bytes.{byte, record_end, part}
use Rattle.csl.specs.Decode.{tys_of}
use Rattle.places.specs.Sight.{types_in}
use Rattle.units.specs.Units.{CellsRead}
use Rattle.units.specs.Blames.{PartiesAre}
use Rattle.cells.specs.declared.Sight.TheVariants.{Waits}
use Rattle.units.proofs.Units.{there_few, there_whole, there_room, located_not, located_is}
use Rattle.units.proofs.located_unit.Goals as goal
use Rattle.units.proofs.located_unit.Goals.{After-unit_cells, After-record_end-e, After-clause_parties-parties}

-- what was read of the cells, of the agreement's parties
parties_are : (c : After-unit_cells) → c.parties.result ≡ byte c.args.accepted.now 8
parties_are c = rw c.agreement-agreement.ensures.0 at c.parties.ensures.0

cells_read : (c : After-unit_cells) → CellsRead c.parties.result c.args.found.now.params
    (tys_of (types_in c.args.found.now.sight)) c.args.cells.now c.unit_cells.result
cells_read c = rw c.as_slice-types.ensures.value at c.unit_cells.ensures

-- and of its clause
room : (c : After-record_end-e) → c.args.place + 4 ≤ c.record_end-e.result
room c =
    let r = there_room c.agreement-agreement.ensures.1 c.requires.there c.args.cells.now in
    let e = rw (c.bytes-bytes.ensures.0, c.agreement-agreement.ensures.0) at c.record_end-e.ensures in
    omega (arith, r, e)

end_is : (c : After-clause_parties-parties) → c.record_end-e.result ≡ record_end c.args.accepted.now c.args.place
end_is c = rw (c.bytes-bytes.ensures.0, c.agreement-agreement.ensures.0) at c.record_end-e.ensures.0

bits_are : (c : After-clause_parties-parties) → PartiesAre c.args.accepted.now
    (part c.args.accepted.now c.args.place c.record_end-e.result) c.in_ok-own.own.items c.clause_parties-parties.result
bits_are c =
    rw (c.deref.ensures.0, c.bytes-bytes.ensures.0, c.agreement-agreement.ensures.0) at c.clause_parties-parties.ensures

pub unit_cells-requires : goal.unit_cells-requires
unit_cells-requires c = (
  c.requires.long,
  there_few c.agreement-agreement.ensures.1 c.requires.there c.args.cells.now,
  omega (arith, c.as_slice-types.ensures.fits),
)

pub returns-in_err-own : goal.returns-in_err-own
returns-in_err-own c =
    let t = (goal.at.returns-in_err-own c).After-unit_cells in
    rw c.from_residual.ensures (located_not c.agreement-agreement.ensures.1 c.requires.there
    c.args.cells.now (parties_are t) (cells_read t) c.in_err-own.was)

pub slice_bounds-clause_parties-count : goal.slice_bounds-clause_parties-count
slice_bounds-clause_parties-count c = omega
    (arith, room (goal.at.slice_bounds-clause_parties-count c).After-record_end-e)

pub slice_bounds-clause_parties-start : goal.slice_bounds-clause_parties-start
slice_bounds-clause_parties-start c = omega
    (arith, room (goal.at.slice_bounds-clause_parties-start c).After-record_end-e)

pub clause_parties-parties-requires : goal.clause_parties-parties-requires
clause_parties-parties-requires c =
    rw (c.record_end-e.ensures.0, c.bytes-bytes.ensures.0, c.agreement-agreement.ensures.0)
    (there_whole c.agreement-agreement.ensures.1 c.requires.there c.args.cells.now)

pub returns : goal.returns
returns c =
    let t = (goal.at.returns c).After-unit_cells in
    let u = (goal.at.returns c).After-clause_parties-parties in
    located_is c.agreement-agreement.ensures.1 c.requires.there c.args.cells.now
    (parties_are t) (cells_read t) c.in_ok-own.was (end_is u) (bits_are u) c.mains.ensures.0
    c.is_subset.ensures (ap (λ n. Waits c.args.found.now.params n) (ap length c.as_slice-types.ensures.value)) refl
    c.then_some.ensures
