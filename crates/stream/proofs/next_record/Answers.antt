-- `next_record` is right: its tests are those of `next_of`.
use Rattle.std.proofs.Common.{rules, ◌≡◌, length}
use Rattle.stream.proofs.Cuts.{next_whole, next_wait, next_end, next_cut}
use Rattle.stream.proofs.next_record.Goals as goal

pub returns-then-size-s-clause-next : goal.returns-then-size-s-clause-next
returns-then-size-s-clause-next c =
    next_whole c.args.s.now c.args.ended c.record_size-size.ensures.size c.if-size-s.true

pub returns-then-not-ended-clause-next : goal.returns-then-not-ended-clause-next
returns-then-not-ended-clause-next c =
    next_wait c.args.s.now c.args.ended c.record_size-size.ensures.size c.if-size-s.false
    c.if-not-ended.true

pub returns-then-is_empty-clause-next : goal.returns-then-is_empty-clause-next
returns-then-is_empty-clause-next c =
    let none : length c.args.s.now ≡ 0 = search rules in
    next_end c.args.s.now c.args.ended c.record_size-size.ensures.size c.if-size-s.false c.if-not-ended.false none

pub returns-else-is_empty-clause-next : goal.returns-else-is_empty-clause-next
returns-else-is_empty-clause-next c =
    let some : length c.args.s.now ≡ 0 → ⊥ = search rules in
    next_cut c.args.s.now c.args.ended c.record_size-size.ensures.size c.if-size-s.false c.if-not-ended.false some
