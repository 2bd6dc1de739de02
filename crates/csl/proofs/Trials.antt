-- The trials P1 to P15 pass, by computation, as one claim over a list.
use mathlib.Core.Path.{◌≡◌, refl}
use mathlib.Core.List.{map}
use Rattle.csl.specs.Trials.{harness, unmet, p1to4, p5and6, p7, pair, p8, p9, p10, p11, choosing, p12a, p12b, asks}
use Rattle.csl.specs.Trials.{p13, p14, self, doubling, doubled, p15, trials}

pub trials_pass : map (λ t. t.shown) trials ≡ map (λ t. t.expected) trials
unfolding harness unmet p1to4 p5and6 p7 pair p8 p9 p10 p11 choosing p12a p12b asks p13 p14 self doubling doubled p15
    trials
trials_pass = refl
