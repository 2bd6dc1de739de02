-- The trials of previews pass, by computation.
use mathlib.Core.Path.{◌≡◌, refl}
use mathlib.Core.List.{map}
use Rattle.csl.specs.Preview.{previews_compute}
use Rattle.csl.specs.Trials.{harness, self, pair, doubling, doubled}
use Rattle.csl.specs.Further.{shows, one, asking, main, template, beside, call, next, ladder, wide, ever, since}
use Rattle.csl.specs.TooEarly.{soon, shut}
use Rattle.csl.specs.Costs.{asked, told, denied}
use Rattle.csl.specs.Joined.{waiting, broken, else_ahead, names_itself, over_wide}
use Rattle.csl.specs.Previews.{ascending, second_tables, misfits, previews, overwrites, keeps, misses, told_early}
use Rattle.csl.specs.Previews.{crowded, foreseen, previewed}

pub previews_pass : map (λ t. t.shown) previewed ≡ map (λ t. t.expected) previewed
unfolding previews_compute harness self pair doubling doubled shows one asking main template beside call next ladder
    wide ever since soon shut asked told denied waiting broken else_ahead names_itself over_wide ascending second_tables
    misfits previews overwrites keeps misses told_early crowded foreseen previewed
previews_pass = refl
