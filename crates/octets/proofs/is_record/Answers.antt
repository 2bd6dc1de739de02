-- The bytes are a record where there are four of them and the first two give their length.
use Rattle.octets.proofs.Bytes.{record_yes, record_no}
use Rattle.octets.proofs.is_record.Goals as goal

pub returns-then-s-ge4 : goal.returns-then-s-ge4
returns-then-s-ge4 c =
    record_yes c.args.s.now c.if-s-ge4.true c.unsigned16.ensures.0

pub returns-else-s-ge4 : goal.returns-else-s-ge4
returns-else-s-ge4 c =
    record_no c.args.s.now c.if-s-ge4.false
