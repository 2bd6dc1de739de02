-- `step` is right, case by case of what is next in the input.
use Rattle.std.proofs.Common.{refl, sym, ap, ◌∙◌, take, length, arith}
use Rattle.watch.specs.Steps.{stage_after}
use Rattle.std.proofs.lemmas.List.{length-take, length-drop}
use Rattle.watch.proofs.Taking.{cut, record_turns, wait_turns, end_turns}
use Rattle.watch.proofs.Run.step.Goals as goal

pub slice_bounds-record-end : goal.slice_bounds-record-end
slice_bounds-record-end c =
    let found = cut c.args.self.now.hand c.next.ensures.next c.in-Record.is in
    omega (arith, found.bounded, ap length c.bytes.ensures.bytes, length-take c.in-Record.size c.bytes.result.now)

pub take-requires : goal.take-requires
take-requires c = (cut c.args.self.now.hand c.next.ensures.next c.in-Record.is).bounded

pub overflow_add-self : goal.overflow_add-self
overflow_add-self c =
    let found = cut c.args.self.now.hand c.next.ensures.next c.in-Record.is in
    record { fits = omega (arith, found.bounded, found.some, c.requires.1) }

pub returns-in-Wait-clause-turns : goal.returns-in-Wait-clause-turns
returns-in-Wait-clause-turns c =
    wait_turns c.args.self.now c.next.ensures.next c.in-Wait.is (c.next.ensures.waits c.in-Wait.is)

pub returns-in-End-clause-turns : goal.returns-in-End-clause-turns
returns-in-End-clause-turns c = end_turns c.args.self.now c.next.ensures.next c.in-End.is

pub returns-then-goes_on-clause-turns : goal.returns-then-goes_on-clause-turns
returns-then-goes_on-clause-turns c =
    let told = c.follow-told in
    record_turns c.args.self.now c.next.ensures.next _ c.in-Record.is (take c.in-Record.size c.bytes.result.now)
    told.result (ap (take c.in-Record.size) c.bytes.ensures.bytes) told.ensures c.take.ensures.bytes refl c.requires.0
    c.put_on.ensures c.take.ensures.ended c.take.ensures.capacity refl
    (ap stage_after (sym c.if-goes_on.true ∙ c.goes_on.ensures))

pub returns-then-goes_on-clause-takes : goal.returns-then-goes_on-clause-takes
returns-then-goes_on-clause-takes c =
    let found = cut c.args.self.now.hand c.next.ensures.next c.in-Record.is in
    λ _. omega (
      arith,
      found.bounded,
      found.some,
      ap length c.take.ensures.bytes,
      length-drop c.in-Record.size c.args.self.now.hand.bytes,
    )

pub returns-else-goes_on-clause-turns : goal.returns-else-goes_on-clause-turns
returns-else-goes_on-clause-turns c =
    let told = c.follow-told in
    record_turns c.args.self.now c.next.ensures.next _ c.in-Record.is (take c.in-Record.size c.bytes.result.now)
    told.result (ap (take c.in-Record.size) c.bytes.ensures.bytes) told.ensures c.take.ensures.bytes refl c.requires.0
    c.put_on.ensures c.take.ensures.ended c.take.ensures.capacity refl
    (ap stage_after (sym c.if-goes_on.false ∙ c.goes_on.ensures))
