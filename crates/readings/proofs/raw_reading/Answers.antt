-- What has the form of a reading is read as the definition reads it: time, type, values.
use Rattle.readings.proofs.Raw.{raw_bad, raw_read}
use Rattle.readings.proofs.raw_reading.Goals as goal

pub returns-in_err-count : goal.returns-in_err-count
returns-in_err-count c = rw c.from_residual.ensures (raw_bad c.args.bytes.now c.in_err-count.ensures)

pub returns : goal.returns
returns c =
    raw_read c.args.bytes.now _ c.in_ok-count.ensures c.read_numbers.ensures.0 c.unsigned32.ensures.0
    c.unsigned32.ensures.1 c.byte.ensures.0
