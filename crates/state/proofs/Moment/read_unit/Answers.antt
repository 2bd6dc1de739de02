-- A waiting unit is a tree of one unit, with the parties and the two numbers that were read of it.
use mathlib.Core.Path.{refl}
use mathlib.Core.List.{◌∷◌}
use Rattle.arith.proofs.Lists.{length_part}
use Rattle.state.proofs.Trees.{waits_not, waits_of}
use Rattle.state.proofs.Moment.read_unit.Goals as goal

pub waiting_unit-requires : goal.waiting_unit-requires
waiting_unit-requires c = length_part c.args.cells.now 1 24 c.requires.long

pub returns-in_err-unit : goal.returns-in_err-unit
returns-in_err-unit c = rw c.from_residual.ensures
    λ n sights some_units. waits_not c.args.self.now.accepted.now c.args.self.now.time n c.args.cells.now c.args.wait
    c.requires.first (c.args.sight.now ∷ sights) c.waiting_unit.ensures c.in_err-unit.was

pub returns : goal.returns
returns c =
    λ n sights some_units. waits_of c.args.self.now.accepted.now c.args.self.now.time n c.args.cells.now c.args.wait
    c.requires.first sights c.requires.long some_units c.waiting_unit.ensures c.in_ok-unit.was refl
