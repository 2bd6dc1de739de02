-- The trials that must be there: P1 to P15 by name, those of paper 02, Nos. 2, 6, 7, 8 and 9 by name, the second list,
-- and that all pass.
use mathlib.Core.Path.{◌≡◌, refl}
use mathlib.Core.List.{List, [], ◌∷◌, map}
use Prim.Native.String.{String}
use Rattle.csl.proofs.Trials.{trials_pass}
use Rattle.csl.proofs.Further.{further_pass}
use Rattle.csl.proofs.Joined.{joined_pass}
use Rattle.csl.proofs.TooEarly.{too_early_pass}
use Rattle.csl.proofs.Costs.{costs_pass}
use Rattle.csl.proofs.Previews.{previews_pass}
use Rattle.csl.proofs.KnownSizes.{known_sizes_pass}
use Rattle.csl.specs.Trials.{Trial, trials, p1to4, p5and6, p7, p8, p9, p10, p11, p12a, p12b, p13, p14}
use Rattle.csl.specs.Trials.{p15, follows}
use Rattle.csl.specs.Further.{further, obeys, shows, accepts, refuses, refuses_all}
use Rattle.csl.specs.Joined.{joined_trials}
use Rattle.csl.specs.TooEarly.{too_earlies, tells}
use Rattle.csl.specs.Costs.{costing, costs, takes, lapses}
use Rattle.csl.specs.Previews.{previewed, overwrites, keeps, misses}
use Rattle.csl.specs.KnownSizes.{known_sizes, limits, needing}

abbrev names : List Trial → List String
names ts = map (λ t. t.name) ts

trial_names : names trials ≡ "P1 to P4 and the transcript's refused reading" ∷ "P5 and P6" ∷ "P7" ∷ "P8" ∷ "P9"
    ∷ "P10" ∷ "P11"
    ∷ "P12, a reading" ∷ "P12, a mark" ∷ "P13" ∷ "P14" ∷ "P15" ∷ []
unfolding trials p1to4 p5and6 p7 p8 p9 p10 p11 p12a p12b p13 p14 p15 follows
trial_names = refl

trials_hold : map (λ t. t.shown) trials ≡ map (λ t. t.expected) trials
trials_hold = trials_pass

joined_names : names joined_trials
    ≡ "a start, whatever the table was" ∷ "a start that leaves nothing to wait for"
    ∷ "a start that is refused: 1, 6, 11, whatever lies ahead in the table"
    ∷ "a reading that waits on, and a mark: the same as before"
    ∷ "a reading that alters: what lies ahead now, not before" ∷ "a reading that fulfils, and a mark after it"
    ∷ "a reading that breaches, a mark after it: the verdict"
    ∷ "a breach in its own minute: by those that are late, of all that lay ahead"
    ∷ "a choice's else, and the else that waits"
    ∷ "a reading that is refused: 1, 6, 7, 8, 9, 10, whatever lies ahead in the table"
    ∷ "a reading that is refused on a breached and on a fulfilled table"
    ∷ "11: neither what lies ahead nor what would" ∷ "by the words of demand 3" ∷ []
unfolding joined_trials shows
joined_names = refl

joined_hold : map (λ t. t.shown) joined_trials ≡ map (λ t. t.expected) joined_trials
joined_hold = joined_pass

too_early_names : names too_earlies
    ≡ "too early, `where` false, a mark, refused with 10, the last minute before, the first, fulfilled"
    ∷ "another type, the wanted one, breached" ∷ "altered by another unit; then alone"
    ∷ "altered by another unit, by the entries" ∷ "altered in the minute of the alteration before"
    ∷ "a type above the wanted one" ∷ "a type above the wanted one, in time"
    ∷ "the left side of an `and` alone" ∷ "the right side of an `or` alone" ∷ "the left side of an `or` alone"
    ∷ "both sides" ∷ "neither side" ∷ "a choice" ∷ "a choice keeps what is in sight, in time"
    ∷ "a choice keeps what is in sight, too early"
    ∷ "one unit by itself: after its first, and by the values in sight alone"
    ∷ "by the values in sight and A" ∷ "11 where a unit is too early"
    ∷ "what a late choice's else waits for is no unit of the table"
    ∷ "late, with a first later than the reading, and the same unit anew" ∷ []
unfolding too_earlies follows tells obeys shows
too_early_names = refl

too_early_hold : map (λ t. t.shown) too_earlies ≡ map (λ t. t.expected) too_earlies
too_early_hold = too_early_pass

cost_names : names costing
    ≡ "a unit that waits, one that takes the reading, a fulfilled table"
    ∷ "an `and` of the table that is breached, a breached table" ∷ "refused with 8, 9 and 10"
    ∷ "what is early, and what finds `where` false" ∷ "a `then` that is an obligation" ∷ "a choice"
    ∷ "an `if` and its first side" ∷ "an `if` and its second side" ∷ "fulfilled sides of an `and`"
    ∷ "an `and` with one fulfilled side" ∷ "an `or` with one fulfilled side"
    ∷ "an instance and its template's body" ∷ "a choice that is taken" ∷ "sides that are dropped"
    ∷ "a side dropped beside a breach" ∷ "an else that waits" ∷ "an else that takes the same reading"
    ∷ "an else that is breached" ∷ "a chain of elses" ∷ "a `then` under an else" ∷ "an else that is fulfilled"
    ∷ "an else fulfilled when it is activated: the side that is dropped follows nothing"
    ∷ "the same with the sides the other way round" ∷ "by an `if`" ∷ "by an instance" ∷ "by an `or` within it"
    ∷ "by an `and` within it" ∷ "an `or` fulfilled when it is activated, under an `and` that is not"
    ∷ "an `and` with one fulfilled side follows on" ∷ "an `and` with the other side fulfilled"
    ∷ "an `and` with one fulfilled side does not fulfil an `or`"
    ∷ "an else fulfilled by the reading: the other side has followed it"
    ∷ "an else fulfilled by a late choice's else: the other side has followed"
    ∷ "a breached side does not fulfil an `or`" ∷ "an `and` that is breached: the other side has followed"
    ∷ "each of a list of readings" ∷ "the readings of P15, then refused with 10, breached, a breached table"
    ∷ "11 by the entry, with its cost"
    ∷ "by the entry: a mark, a reading that is taken, fulfilled, breached; refused with 7, 8 and 10"
    ∷ "fulfilled, and what cannot be activated, beside a side that follows; a stuck run"
    ∷ "the outcome by each name of `Rules`" ∷ []
unfolding costing costs takes lapses shows
cost_names = refl

costs_hold : map (λ t. t.shown) costing ≡ map (λ t. t.expected) costing
costs_hold = costs_pass

preview_names : names previewed
    ≡ "a mark: only the time moves"
    ∷ "a mark in the minute of the last reading: the first table, cell for cell"
    ∷ "a reading that alters nothing" ∷ "a reading that alters: what lies ahead afterwards, not before"
    ∷ "more units than before" ∷ "fewer units than before" ∷ "a late choice's else waits"
    ∷ "a reading that comes too early" ∷ "a reading that fulfils" ∷ "a reading that breaches"
    ∷ "a fulfilled table: only the time moves" ∷ "a breached table: the first table, cell for cell"
    ∷ "refused with 1" ∷ "refused with 2" ∷ "refused with 3" ∷ "refused with 4" ∷ "refused with 5"
    ∷ "refused with 6: the first table has a cell too few"
    ∷ "refused with 6: the first table has one too many" ∷ "refused with 7: the first table is damaged"
    ∷ "refused with 8" ∷ "refused with 9" ∷ "refused with 10" ∷ "refused with 10 on a fulfilled table"
    ∷ "refused with 10 on a breached table" ∷ "refused with 11: its cost is told, and what lies ahead is not"
    ∷ "6 by the second table" ∷ "6 by both tables" ∷ "6 on a breached table"
    ∷ "6 where the reading comes too early" ∷ "1 before 6 by the second table" ∷ "2 before it" ∷ "3 before it"
    ∷ "4 before it" ∷ "5 before it" ∷ "6 by the second table before 7" ∷ "before 8" ∷ "before 9" ∷ "before 10"
    ∷ "before 11, and at no cost" ∷ "the reading itself afterwards, on the first table: the same answer"
    ∷ "the second table then stands for the first: a preview of the mark after it, and that mark" ∷ []
unfolding previewed overwrites keeps misses shows
preview_names = refl

previews_hold : map (λ t. t.shown) previewed ≡ map (λ t. t.expected) previewed
previews_hold = previews_pass

known_size_names : names known_sizes
    ≡ "fulfilled needs nothing" ∷ "an if of two fulfilled needs nothing" ∷ "an obligation: 1"
    ∷ "an obligation: its `then`" ∷ "a choice: 1" ∷ "a choice: its `then`" ∷ "a choice: its else"
    ∷ "an if: its first clause" ∷ "an if: its second clause, though it is never followed" ∷ "`and`: 1 of its own"
    ∷ "`and`: both together" ∷ "`or`: both together"
    ∷ "an instance: what its template declares, not what its body needs" ∷ "an instance of the second template"
    ∷ "an instance of a template without units needs nothing"
    ∷ "an instance of its own template behind a reading: all that it declares"
    ∷ "a clause that begins anew beside itself" ∷ "declared more than is needed" ∷ "the main clause: 128"
    ∷ "the main clause: 129" ∷ "a body that is not used, before 6" ∷ "a preview: 15 before 7" ∷ "a preview: 15 before 6"
    ∷ "128 units" ∷ "129 units" ∷ "255 units" ∷ "kind 4 behind kind 3" ∷ "kind 3 behind kind 4" ∷ "kind 5"
    ∷ "kind 5 with units" ∷ "kind 2 for the only template" ∷ "kind 4 without its units" ∷ "kind 3 with units"
    ∷ "kind 4 with 8 values and 4 parameters" ∷ "kind 4 with 129 units behind a value" ∷ "kind 4 with 9 values"
    ∷ "kind 4 with a type byte 4" ∷ "kind 4 with 5 parameters"
    ∷ "no template, or templates of kind 3: not sized, whatever is needed"
    ∷ "one template that declares units, and one that does not: not sized" ∷ "sized: the main clause and each body"
    ∷ "3, 4 and 5 before 15" ∷ "a run that uses its whole need" ∷ "it needs 3 all the way, and nothing once breached"
    ∷ "fulfilled needs nothing, whatever the templates declare" ∷ "an `or` needs both together"
    ∷ "an instance with values and a parameter: what its template declares" ∷ "a choice that is taken, then fulfilled"
    ∷ "a unit that vanishes takes its join with it" ∷ "units behind values and a party parameter"
    ∷ "where no accepted agreement leads, and where nothing waits" ∷ []
unfolding known_sizes limits needing accepts refuses refuses_all keeps misses follows obeys shows
known_size_names = refl

known_sizes_hold : map (λ t. t.shown) known_sizes ≡ map (λ t. t.expected) known_sizes
known_sizes_hold = known_sizes_pass

further_hold : map (λ t. t.shown) further ≡ map (λ t. t.expected) further
further_hold = further_pass
