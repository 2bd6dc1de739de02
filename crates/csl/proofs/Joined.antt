-- The trials of joined answers pass, by computation.
use mathlib.Core.Path.{◌≡◌, refl}
use mathlib.Core.List.{map}
use Rattle.csl.specs.Demand3.{forecasts_by}
use Rattle.csl.specs.Trials.{harness, self, doubling, doubled}
use Rattle.csl.specs.Further.{shows, next, call, ever, since, two, template, beside, crowd, main, a_number, ladder}
use Rattle.csl.specs.Further.{wide}
use Rattle.csl.specs.Joined.{pairs, starts, reads', told_from, waiting, broken, both_now, else_ahead, names_itself}
use Rattle.csl.specs.Joined.{over_wide, joined_trials}

pub joined_pass : map (λ t. t.shown) joined_trials ≡ map (λ t. t.expected) joined_trials
unfolding harness self doubling doubled shows next call ever since two template beside crowd main a_number ladder wide
    pairs starts reads' told_from waiting broken both_now else_ahead names_itself over_wide joined_trials forecasts_by
joined_pass = refl
