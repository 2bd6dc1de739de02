-- The trials of the mark "too early" pass, by computation.
use mathlib.Core.Path.{◌≡◌, refl}
use mathlib.Core.List.{map}
use Rattle.csl.specs.Trials.{harness}
use Rattle.csl.specs.Further.{shows, steps_of, run_seen, obeys, leads, waits, owed, by, asking, next, main, a_number}
use Rattle.csl.specs.Further.{template, call, two}
use Rattle.csl.specs.TooEarly.{too_soon, told_by, told_from, tells, accepting, refusing', asks, one, alone, soon}
use Rattle.csl.specs.TooEarly.{never, two_types, chosen_by, in_sight, shut, besides, crowding, anew, again, at_once}
use Rattle.csl.specs.TooEarly.{too_earlies}

pub too_early_pass : map (λ t. t.shown) too_earlies ≡ map (λ t. t.expected) too_earlies
unfolding harness shows steps_of run_seen obeys leads waits owed by asking next main a_number template call two too_soon
    told_by told_from tells accepting refusing' asks one alone soon never two_types chosen_by in_sight shut besides
    crowding
    anew again at_once too_earlies
too_early_pass = refl
