-- Of an accepted reading `tell` gives the forecast, the mark and the cost of its answer.
use mathlib.Core.Path.{◌≡◌, refl, sym, ap}
use mathlib.Core.Bool.{Bool, true, false}
use mir.Val.{bool_byte}
use Rattle.csl.specs.Early.{mark_of}
use Rattle.monitor.specs.Answers.{taken_answer}
use Rattle.givuntha.specs.Numbers.{reading_numbers}
use Rattle.givuntha.proofs.tell.Goals as goal

marked : (early : Bool) → mark_of early ≡ bool_byte early
unfolding mark_of
marked true = refl
marked false = refl

pub returns-in-Ok : goal.returns-in-Ok
returns-in-Ok c table =
    let forecast = c.accept.ensures.forecast in
    let is = ap (λ r. reading_numbers (taken_answer r table)) c.in-Ok.is in
    rw (c.from.ensures, c.accept.ensures.number, ap (λ f. f.time) forecast, ap (λ f. f.parties) forecast)
    (sym (rw (marked c.in-Ok.taken.early) at is))
