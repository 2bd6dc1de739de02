-- `time_of` is right: only 8 has no time.
use Rattle.std.proofs.Common.{arith, sym, ap, not}
use Rattle.lines.proofs.Decimal.{few}
use Rattle.telling.proofs.Says.{time_dash, time_told, not_eight}
use Rattle.telling.proofs.time_of.Goals as goal

pub returns-in-ReadingForm-clause-shows : goal.returns-in-ReadingForm-clause-shows
returns-in-ReadingForm-clause-shows c = rw c.in-ReadingForm.is (time_dash c.args.reading.now)

pub returns-in_default : goal.returns-in_default
returns-in_default c = record {
  shows = time_told c.args.reading.now c.args.why c.unsigned32.ensures.0 c.in_default.not-ReadingForm;
  some = sym (ap not (not_eight c.args.why c.in_default.not-ReadingForm));
  room = few c.unsigned32.result (omega (arith, c.unsigned32.ensures.1));
}
