-- The trials of known sizes pass, by computation.
use mathlib.Core.Path.{◌≡◌, refl}
use mathlib.Core.List.{map}
use Rattle.csl.specs.Preview.{previews_compute}
use Rattle.csl.specs.Trials.{harness, self}
use Rattle.csl.specs.Further.{says, shows, accepts, refuses, refuses_all, five, steps_of, run_seen, obeys, leads}
use Rattle.csl.specs.Further.{one, next, chooses, template, beside, calls, both', body, waiting, next', bare}
use Rattle.csl.specs.Joined as joined
use Rattle.csl.specs.Joined.{broken}
use Rattle.csl.specs.Costs.{denied}
use Rattle.csl.specs.Previews.{ascending, second_tables, misfits, previews, keeps, misses}
use Rattle.csl.specs.KnownSizes.{sized_template, limits, needs_by, needs_from, needing, owe, two, over_size, whole_need}
use Rattle.csl.specs.KnownSizes.{with_values, sized_body, agreeing, twice, large, second_over, first_at}
use Rattle.csl.specs.KnownSizes.{first_sized, second_sized, typed_as, taken, in_sight, known_sizes}

pub known_sizes_pass : map (λ t. t.shown) known_sizes ≡ map (λ t. t.expected) known_sizes
unfolding previews_compute harness self says shows accepts refuses refuses_all five steps_of run_seen obeys leads one
    next chooses template beside calls both' body waiting next' bare joined.waiting broken denied ascending
    second_tables misfits previews keeps misses sized_template limits needs_by needs_from needing owe two over_size
    whole_need with_values sized_body agreeing twice large second_over first_at first_sized second_sized
    typed_as taken in_sight known_sizes
known_sizes_pass = refl
