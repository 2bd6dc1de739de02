-- What is no reading is malformed, what does not fit is untyped, and what is left fits.
use Rattle.readings.proofs.Fitting.{was_read, gives}
use Rattle.readings.proofs.take.Goals as goal

pub returns : goal.returns
returns c =
    let h = was_read c.args.bytes.now c.raw_reading.result _ c.in_ok-reading.ensures.value c.raw_reading.ensures in
    rw (c.ok_or-2.ensures.value, c.then_some.ensures) (gives h c.is_typed.ensures)
