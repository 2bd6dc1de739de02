-- The three parts are tested in their order, each under what it sees.
use Rattle.typing.specs.Clauses.{wait_typed}
use Rattle.csl.specs.Decode.{wait_at}
use Rattle.laws.proofs.Clash.{impossible}
use Rattle.typing.proofs.Sights.{three_on, three_second, three_first}
use Rattle.typing.proofs.names.Names.wait_typed.Goals as goal
use Rattle.typing.proofs.names.Names.wait_typed.Goals.{then-part_typed, else-part_typed}

pub returns-then-part_typed-2 : goal.returns-then-part_typed-2
unfolding wait_typed wait_at
returns-then-part_typed-2 c = elim c.if-part_typed.branch [
  | then-part_typed w ↦ rw (← c.record_end-a.ensures.0, ← c.record_end-b.ensures.0, ← c.record_end-e.ensures.0)
      (three_on c.part_typed.ensures w.if-part_typed.true w.part_typed-then-part_typed.ensures w.value-is
      c.if-part_typed-2.true c.part_typed-then-part_typed-2.ensures)
  | else-part_typed w ↦ impossible cc
]

pub returns-else-part_typed-2 : goal.returns-else-part_typed-2
unfolding wait_typed wait_at
returns-else-part_typed-2 c = elim c.if-part_typed.branch [
  | then-part_typed w ↦ rw (← c.record_end-a.ensures.0, ← c.record_end-b.ensures.0)
      (three_second _ c.part_typed.ensures w.if-part_typed.true w.part_typed-then-part_typed.ensures w.value-is
      c.if-part_typed-2.false)
  | else-part_typed w ↦ rw (← c.record_end-a.ensures.0)
      (three_first _ _ c.part_typed.ensures w.if-part_typed.false c.if-part_typed-2.false)
]
