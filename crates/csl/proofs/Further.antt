-- The further trials pass, by computation.
use mathlib.Core.Path.{◌≡◌, refl}
use mathlib.Core.List.{map}
use Rattle.csl.specs.Trials.{harness}
use Rattle.csl.specs.Further.{says, accepts, refuses, mains, five, refuses_all, steps_of, run_seen, obeys, leads}
use Rattle.csl.specs.Further.{waits, owed, chosen, by, shows, saying, nested, one, asking, after_is, within_is, next}
use Rattle.csl.specs.Further.{otherwise, chooses, main, a_number, counting, template, beside, call, lending, every}
use Rattle.csl.specs.Further.{is, is_not, calculated, most, least, sums, fractions, wholes, equations, taken, chain}
use Rattle.csl.specs.Further.{nums, runs, pairs, becoming, left, right, joins, values, refused', readings, records}
use Rattle.csl.specs.Further.{named, in_sight, parameters, party_sets, types, guards, ladder, wide, calls, both'}
use Rattle.csl.specs.Further.{body, ladder', wide', waiting, next', either', if', widest, too_wide, laddered, narrow}
use Rattle.csl.specs.Further.{over, widths, mixed, lent, offered, units', short, good, ended, broke, full, set, alter}
use Rattle.csl.specs.Further.{read_by, rejects, ends, running', moves, lent', residue, sound, sights, alone, alone'}
use Rattle.csl.specs.Further.{in_place, tables, begun, two, crowd, entries, ever, since, ten, unlike, alike, moved}
use Rattle.csl.specs.Further.{bare, lent_a_number, asked, op', still, absent, unreached, further}

pub further_pass : map (λ t. t.shown) further ≡ map (λ t. t.expected) further
unfolding harness says accepts refuses mains five refuses_all steps_of run_seen obeys leads waits owed chosen by shows
    saying nested one asking after_is within_is next otherwise chooses main a_number counting template beside call
    lending every is is_not calculated most least sums fractions wholes equations taken chain nums runs pairs
    becoming left right joins values refused' readings records named in_sight parameters party_sets types guards
    ladder wide calls both' body ladder' wide' waiting next' either' if' widest too_wide laddered narrow over widths
    mixed lent offered units' short good ended broke full set alter read_by rejects ends running' moves lent' residue
    sound sights alone alone' in_place tables begun two crowd entries ever since ten unlike alike moved bare
    lent_a_number asked op' still absent unreached further
further_pass = refl
