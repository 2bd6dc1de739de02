-- `follow` is right, case by case of `reading`'s answer.
use Rattle.std.proofs.Common.{refl, ap, ◌∙◌, Some, Ok, Err, arith}
use Rattle.csl.specs.Entries.{untold}
use Rattle.lines.specs.Text.{decimal, fields}
use Rattle.lines.specs.Lines.{reading_time, time_field, answer_fields, refusal_fields}
use Rattle.lines.proofs.Decimal.{few}
use Rattle.telling.proofs.Says.{answer_refused}
use Rattle.telling.proofs.Shows.{Fits, ahead_short, refusal_shown, refusal_short}
use Rattle.telling.proofs.Tells.{follows}
use Rattle.telling.proofs.follow.Goals as goal

pub returns-in-Ok : goal.returns-in-Ok
unfolding reading_time time_field answer_fields
returns-in-Ok c =
    let time = c.unsigned32 in
    let verdict = c.verdict_on in
    let ahead = c.in-Ok.taken.ahead in
    let fits : Fits ahead = λ b e. let d = rw (c.in-Ok.is, e) at c.reading.type_inv in
    (omega (arith, d), omega (arith, d)) in
    follows c.args.agreement.now c.args.table.now (Some time.result) (Ok verdict.result) c.args.number
    c.ranges.number.fits c.args.reading.now _ (rw c.in-Ok.is at c.reading.ensures) (record {
      timed = ap decimal time.ensures.0;
      said = verdict.ensures.shows;
      short_time = few time.result (omega (arith, time.ensures.1));
      short = omega (arith, verdict.ensures.room, ahead_short ahead fits);
    }) refl

pub returns-in-Err : goal.returns-in-Err
returns-in-Err c =
    let why = c.in-Err.field-0.why in
    let number = c.from in
    let time = c.time_of in
    follows c.args.agreement.now c.args.table.now time.result (Err number.result) c.args.number c.ranges.number.fits
    c.args.reading.now _ (rw c.in-Err.is at c.reading.ensures) (record {
      timed = time.ensures.shows;
      said = refusal_shown number.result ∙ ap (λ n. fields (refusal_fields n)) number.ensures
          ∙ ap fields (answer_refused why untold c.reading.new.table);
      short_time = time.ensures.room;
      short = refusal_short number.result (omega (arith, number.type_inv));
    }) time.ensures.some
