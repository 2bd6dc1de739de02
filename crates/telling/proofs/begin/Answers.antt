-- `begin` is right, case by case of `start`'s answer.
use Rattle.std.proofs.Common.{refl, sym, ap, ◌∙◌, None, Some, Ok, Err, arith}
use Rattle.csl.specs.Entries.{untold}
use Rattle.lines.specs.Text.{decimal, fields}
use Rattle.lines.specs.Lines.{start_time, time_field, answer_fields, refusal_fields}
use Rattle.lines.proofs.Decimal.{few}
use Rattle.telling.proofs.Says.{answer_refused, not_zero}
use Rattle.telling.proofs.Shows.{Fits, ahead_short, refusal_shown, refusal_short}
use Rattle.telling.proofs.Tells.{begins}
use Rattle.telling.proofs.begin.Goals as goal

pub returns-in-Ok : goal.returns-in-Ok
unfolding start_time time_field answer_fields
returns-in-Ok c =
    let time = c.unsigned32 in
    let verdict = c.verdict_on in
    let fits : Fits c.in-Ok.ahead = λ b e. let d = rw (c.in-Ok.is, e) at c.start.type_inv in
    (omega (arith, d), omega (arith, d)) in
    begins c.args.agreement.now c.args.table.now (Some time.result) (Ok verdict.result) _
    (rw c.in-Ok.is at c.start.ensures) (record {
      timed = ap decimal time.ensures.0;
      said = verdict.ensures.shows;
      short_time = few time.result (omega (arith, time.ensures.1));
      short = omega (arith, verdict.ensures.room, ahead_short c.in-Ok.ahead fits);
    }) refl

pub returns-in-Err : goal.returns-in-Err
unfolding start_time time_field
returns-in-Err c =
    let why = c.in-Err.why in
    let number = c.from in
    begins c.args.agreement.now c.args.table.now None (Err number.result) _
    (rw c.in-Err.is at c.start.ensures) (record {
      timed = rw (not_zero why) refl;
      said = refusal_shown number.result ∙ ap (λ n. fields (refusal_fields n)) number.ensures
          ∙ ap fields (answer_refused why untold c.start.new.table);
      short_time = omega arith;
      short = refusal_short number.result (omega (arith, number.type_inv));
    }) (sym (not_zero why))
