-- The trials of what a reading costs pass, by computation.
use mathlib.Core.Path.{◌≡◌, refl}
use mathlib.Core.List.{map}
use Rattle.csl.specs.Trials.{harness, self, doubling, doubled, choosing}
use Rattle.csl.specs.Further.{shows, waits, owed, chosen, by, asking, next, main, calls, body, waiting, next'}
use Rattle.csl.specs.Further.{either', laddered, ladder', bare, still}
use Rattle.csl.specs.Costs.{spent_by, spent_from, costs_from, costs, each, takes, asked, told, denied, pair, belated}
use Rattle.csl.specs.Costs.{or_else', naming, lapses, owe, untaken, read_at, or_late, owing, costing}
use Rattle.csl.specs.Demand3.{costs_by}

pub costs_pass : map (λ t. t.shown) costing ≡ map (λ t. t.expected) costing
unfolding harness self doubling doubled choosing shows waits owed chosen by asking next main calls body waiting next'
    either' laddered ladder' bare still spent_by spent_from costs_from costs each takes asked told denied pair belated
    or_else' naming lapses owe untaken read_at or_late owing costing costs_by
costs_pass = refl
