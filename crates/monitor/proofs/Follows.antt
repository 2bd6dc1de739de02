-- Laws for a reading: of a running run the rules on cells give what the step writes, its cost and its mark, which are
-- csl's; of any other run, and of a reading that is none, csl's answer is at hand.
use mathlib.Core.Path.{◌≡◌, refl, sym, ap, ap₂, subst, ◌∙◌}
use mathlib.Core.Bool.{Bool, true, false, cond, not, ◌&&◌}
use mathlib.Core.List.{List, [], ◌∷◌, ◌++◌}
use mathlib.Core.Option.{some}
use Prim.Native.Nat.{ℕ, ◌≤◌, ◌<◌, min}
use native.Mathlib.Omega.{arith}
use borrow.Author.Tests.{ltb-true, ltb-false}
use denote.Bor.{Bor}
use mir.Syntax.{w64}
use mir.Val.{to_z, SFits}
use mir.ValLaws.{to_z_pos}
use lib.Dec.{eqb, ltb}
use lib.IntN.{ℤ, pos}
use lib.Signed.{lt_z}
use lib.ListN.{length, get_or, take, drop, set, length-take}
use Rattle.std.specs.Prelude.{Result, Some, Ok, Err}
use Rattle.arith.proofs.Ints.{small}
use Rattle.csl.specs.Lists.{◌>>=◌}
use Rattle.csl.specs.Syntax.{Agreement}
use Rattle.csl.specs.Decode.{agreement_of}
use Rattle.csl.specs.Check.{checked, accepted}
use Rattle.csl.specs.Outcomes.{Residue, units, done}
use Rattle.csl.specs.Table as csl
use Rattle.csl.specs.Table.{table_of, table_length, padded, head_cells, nat_cells, cells_of}
use Rattle.csl.specs.Early.{mark_of}
use Rattle.csl.specs.Cost.{total}
use Rattle.csl.specs.Entries.{ReadAnswer, answered, read_of}
use Rattle.csl.specs.Demand3.{fitting}
use Rattle.soundness.proofs.Checked.{passed}
use Rattle.soundness.proofs.CostBound.{cost_of_units}
use Rattle.soundness.proofs.Readings.{fitting_time, reading_ok}
use Rattle.soundness.proofs.Runs.{is_fair, run_at}
use Rattle.soundness.proofs.Walks.{Fair}
use Rattle.soundness.proofs.ReadBack.{table_back}
use Rattle.cells.specs.Reduce as cells
use Rattle.cells.specs.Across as table
use Rattle.cells.specs.declared.Sight.{Sight}
use Rattle.cells.specs.Across.{some_open_later}
use Rattle.csl.specs.Check.{mains_of}
use Rattle.laws.proofs.Bools.{by}
use Rattle.laws.proofs.Integers.{pos_inj}
use Rattle.bridge.proofs.Across.{FoundIs, follow_across, follow_costs, sights_of}
use Rattle.bridge.proofs.Moved.{idle_units}
use Rattle.bridge.proofs.Tables.{units_in}
use Rattle.bridge.proofs.Refusals.{answer}
use Rattle.cells.specs.Tables.{alters, head_of, reduced_table, stepped_table}
use Rattle.bridge.proofs.Entries.{kept_cells, reading_eight, reading_nine, reading_ten, reading_done, reading_breach}
use Rattle.bridge.proofs.Entries.{early_cells, marks_later, reading_running}
use Rattle.readings.specs.Taking.{TakenIs, FittingRead}
use Rattle.readings.specs.Values.{values_read}
use Rattle.readings.specs.declared.reading.Reading.{Reading}
use Rattle.readings.specs.declared.Misfit.{Misfit}
use Rattle.readings.specs.declared.Misfit.TheVariants.{Malformed, Untyped}
use Rattle.waits.specs.Fates.{mode_of}
use Rattle.waits.specs.declared.Event.{Event}
use Rattle.waits.specs.declared.Event.TheVariants.{Follow}
use Rattle.residues.specs.Tallies.{most_counted}
use Rattle.walk.specs.Tree.{Tree}
use Rattle.walk.proofs.Trees.{tree_only, tree_taken}
use Rattle.walk.proofs.Opening.{taken_open}
use Rattle.cells.specs.Sights.{flat, sights_in}
use Rattle.state.specs.Shown.{RunShows, RunningAs, BreachedAs, Shows, run_in}
use Rattle.parties.specs.declared.breach.Breach.{Breach as Broken}
use Rattle.state.specs.declared.State.{State}
use Rattle.state.specs.declared.State.TheVariants.{Running, Fulfilled, Breached}
use Rattle.monitor.specs.declared.Refusal.TheVariants.{ReadingTime}
use Rattle.monitor.specs.declared.Refusal.TheVariants.{Units as tooManyUnits}
use Rattle.reduction.specs.Steps.{UnitsDue, Due, reckoned, reduced}
use Rattle.reduction.specs.Steps.{advanced, cost_in, Advances}
use Rattle.reduction.specs.declared.TooMany.{TooMany}
use Rattle.reduction.specs.declared.Wrote.{Wrote}
use Rattle.monitor.specs.declared.Followed.{Followed}
use Rattle.monitor.proofs.Leaves.{reading_leaves}
use Rattle.monitor.proofs.Begins.{short}
use Rattle.monitor.proofs.Opens.{opened_as}
use Rattle.reduction.proofs.Advances.{behind_head}
use Rattle.reduction.proofs.Tabled.{founds, flat_sighted, has_tree}
use Rattle.monitor.specs.Steps.{Opened, why_misfit, Fitted, SomeReading, ReadAs, ReadsOn, some_later, Judged}
use Rattle.monitor.specs.Steps.{Shown, read_answer}
use Rattle.monitor.proofs.Joined.{reading_err, reading_ok as told_ok}

fits_as : {s bytes : List ℕ} {r : Reading} (f : FittingRead s bytes r) → fitting (agreement_of s) bytes ≡ some f.reading
unfolding fitting ◌>>=◌
fits_as f = rw f.is f.typed

mode_as : {s bytes : List ℕ} {r : Reading} (f : FittingRead s bytes r)
    → mode_of r ≡ cells.following f.reading.time f.reading.type (cells_of f.reading.values)
mode_as f = rw (f.cells, f.time, f.type) refl

pub time_fits : {t : ℕ} → t < 4_294_967_296 → SFits w64 (pos t)
time_fits h = small (omega arith)

-- of a fulfilled run's table the last reading time alone is another
retimed : (us : List ℤ) (now m t : ℕ) → us ≡ table_of (run_at now m done)
    → set us 1 (pos t) ≡ reduced_table t (pos m) cells.done
unfolding table_of padded head_cells nat_cells reduced_table head_of
retimed us now m t e = rw e refl

-- ---- what a written table and a refusal say of the residue
module _ (now n : ℕ) (us : List ℤ) (x : cells.Reduced) where
  -- an 11 where there are more than 128
  over : (k : ℕ) {left : List ℤ} → answer k left ≡ kept_cells now n us x → ltb 128 (units_in x) ≡ eqb k 11
  unfolding kept_cells
  over k {left} = by (λ b. answer k left ≡ cond b (answer 11 us) (answer 0 (stepped_table now n us x)) → b ≡ eqb k 11)
      (ltb 128 (units_in x)) (λ _ e. sym (ap (λ a. eqb a.number 11) e)) (λ _ e. sym (ap (λ a. eqb a.number 11) e))

  kept_table : {left : List ℤ} → answer 0 left ≡ kept_cells now n us x → left ≡ stepped_table now n us x
  unfolding kept_cells
  kept_table e =
      let is : kept_cells now n us x ≡ answer 0 (stepped_table now n us x) = rw (over 0 e, kept_cells) refl in
      ap (λ a. a.table) (e ∙ is)

  early_over : {left : List ℤ} (b : Bool) → answer 11 left ≡ kept_cells now n us x → mark_of (early_cells n us x b) ≡ 0
  unfolding early_cells mark_of
  early_over b e = rw (over 11 e) refl

  early_within : {left : List ℤ} (b : Bool) → answer 0 left ≡ kept_cells now n us x
      → (not (alters n us x) && b) ≡ early_cells n us x b
  unfolding early_cells
  early_within b e = rw (over 0 e) refl

judged_as : {b c : Bool} (altered : Bool) → (altered ≡ false → b ≡ c) → (not altered && b) ≡ (not altered && c)
judged_as true h = refl
judged_as false h = h refl

-- ---- the run and the code have the same units, sights, time and mark
pub across_as : (m : cells.Mode) (s : List ℕ) (us : List ℤ) {sights seen : List ℕ} {n k : ℕ} {x : cells.Reckoned}
    → n ≡ k → sights ≡ seen → table.across m s k seen us ≡ x ∷ [] → table.across m s n sights us ≡ x ∷ []
across_as m s us e f h = rw (e, f) h

later_by : (s : List ℕ) (us : List ℤ) {a bytes : List ℕ} {r : Reading} (f : FittingRead a bytes r)
    {sights seen : List ℕ} {n k : ℕ} → n ≡ k → sights ≡ seen
    → some_open_later f.reading.time f.reading.type (cells_of f.reading.values) s k seen us
    ≡ some_open_later r.time r.tag (values_read r) s n sights us
later_by s us f e g = rw (e, g, f.cells, f.time, f.type) refl

abbrev replied : List ℤ → cells.Reckoned → ℕ → ℕ → Bool → ReadAnswer
replied us x time n later =
    answered (mark_of (early_cells n us x.outcome later)) (total x.tally) (kept_cells time n us x.outcome)

replied_as : (us : List ℤ) (x : cells.Reckoned) {t u n k : ℕ} {b c : Bool} → t ≡ u → n ≡ k → b ≡ c
    → replied us x u k c ≡ replied us x t n b
replied_as us x e f g = rw (e, f, g) refl

module _ {s : List ℕ} {us : List ℤ} {sights : List Sight} {state : State} (o : Opened s us sights state) where
  abbrev ag : Agreement
  ag = agreement_of s

  abbrev ck : checked s ≡ accepted (agreement_of s) (mains_of s)
  ck = o.accepted.is

  abbrev fair : Fair (agreement_of s) (mains_of s)
  fair = is_fair s (agreement_of s) (mains_of s) ck

  abbrev places : FoundIs s
  places = founds s (mains_of s) ck

  in_order : {bytes : List ℕ} {r : Reading} (f : Fitted s bytes us r) {q : _} (shown : RunShows (run_in s us) us q)
      → shown.now ≤ f.fits.reading.time
  in_order f shown = omega (arith, f.in_order shown.now shown.cell, f.fits.time)

-- ---- a running run
module _ {s : List ℕ} {us : List ℤ} {sights : List Sight} {n : ℕ} (o : Opened s us sights (Running n)) where
  abbrev l : length us ≡ table_length
  l = o.cells

  pub runs : RunningAs (run_in s us) us sights n
  unfolding Shows
  runs = o.shows

  abbrev res : Residue
  res = runs.residue

  pub residue_sights : take (units res) sights ≡ sights_in res
  residue_sights = ap (λ k. take k sights) (sym runs.count) ∙ runs.sighted

  pub units_ready : Tree (length s) sights (drop 8 us) n
  units_ready = rw runs.count (has_tree s _ (ck o) _ _ res us l runs.shows.is sights residue_sights)

  -- what is in sight at the units, and behind them
  abbrev more : List ℕ
  more = flat (drop (units res) sights)

  pub seen : flat sights ≡ sights_of (ag o) res ++ more
  seen = flat_sighted s _ (ck o) _ _ res us l runs.shows.is sights residue_sights

  abbrev later : Reading → Bool
  later r = some_later s n sights us r

  module _ {bytes : List ℕ} {r : Reading} (f : Fitted s bytes us r) where
    -- what the rules on cells give for a reading
    record Given : Type 0 where
      given : cells.Reckoned
      is : table.across (mode_of r) s n (flat sights) (drop 8 us) ≡ given ∷ []
      reads : read_of s us bytes ≡ replied us given r.time n (later r)
      small : total given.tally ≤ most_counted
      marks : r.tag ≡ 0 → later r ≡ false

    same_later : some_open_later f.fits.reading.time f.fits.reading.type (cells_of f.fits.reading.values) s (units res)
        (sights_of (ag o) res ++ more) (drop 8 us) ≡ later r
    same_later = later_by s (drop 8 us) f.fits runs.count seen

    following : Given
    following =
        let fits = f.fits in
        let d = fits.reading in
        let is = runs.shows.is in
        let le = in_order o f runs.shows in
        let rok = (reading_ok (ag o) fits.raw d fits.typed).0 in
        let w = follow_across s _ (fair o) (places o) _ _ res us l is more d rok in
        record {
          given = w.given;
          is = across_as _ s (drop 8 us) runs.count seen (rw (mode_as fits) w.only);
          reads = reading_running s _ (ck o) us l _ _ bytes d (fits_as fits) le (places o) res more w.given is w.only
              ∙ replied_as us w.given fits.time runs.count (sym same_later);
          small = omega (
            arith,
            follow_costs s _ (fair o) (places o) _ _ res us l is more d rok,
            cost_of_units s (ag o) (mains_of s) (passed s (ag o) (mains_of s) (ck o)) d res,
            runs.count,
            runs.few,
          );
          marks = λ z. sym same_later ∙ marks_later s _ (ck o) us l _ _ bytes d (fits_as fits) le (places o) res more
              is (sym fits.type ∙ z);
        }

  module _ (rr : Bor Reading) where
    abbrev e : Event
    e = Follow rr

    pub follow_due : {a : List ℕ} → a ≡ s → SomeReading s us rr.now → Due a sights us n rr.now.time e
    follow_due same r =
        let f = r.1 in
        let all : UnitsDue s sights us n e =
        record { tree = units_ready; given = (following f).given; one = (following f).is } in
        rw same (record { short = short o.accepted; held = runs.few; soon = f.fits.small; units = all })

    module _ {bytes : List ℕ} (f : Fitted s bytes us rr.now) {r : Result Wrote TooMany} {left : List ℤ}
        (a : Advances s sights us n rr.now.time e left r) where
      follows_as : reckoned s sights us n e ≡ (following f).given
      unfolding reckoned
      follows_as = tree_only (following f).is

      -- no cost is so great that it is not counted whole
      costs_as : cost_in r ≡ total (following f).given.tally
      costs_as =
          let tally = (following f).given.tally in
          let whole : min (total tally) most_counted ≡ total tally = omega (arith, (following f).small) in
          a.costs ∙ ap (λ x. min (total x.tally) most_counted) follows_as ∙ whole

      -- the mark is the one judged on cells
      reads_as : answered (mark_of (early_cells n us (reduced s sights us n e) (later rr.now))) (cost_in r)
          (advanced r left) ≡ read_of s us bytes
      reads_as =
          ap₂ (λ x y. answered (mark_of (early_cells n us x.outcome (later rr.now))) (cost_in r) y)
          follows_as (a.is ∙ ap (λ x. kept_cells rr.now.time n us x.outcome) follows_as)
          ∙ rw costs_as (sym (following f).reads)

    pub follow_no : {many : TooMany} {lent left : List ℤ} → Advances s sights us n rr.now.time e us (Err many)
        → left ≡ lent → ReadAs s us lent rr.now (Err (record { why = tooManyUnits; cost = many.cost })) left
    unfolding answered
    follow_no {many} a kept = record {
      is = λ bytes f. ap (λ m. answered m many.cost (advanced (Err many) us))
          (sym (early_over rr.now.time n us (reduced s sights us n e) (later rr.now) a.is)) ∙ reads_as f a;
      untouched = kept;
    }

    module _ {w : Wrote} {left : List ℤ} (a : Advances s sights us n rr.now.time e left (Ok w)) where
      -- where nothing altered the units are as they were
      same_units : w.altered ≡ false → drop 8 left ≡ drop 8 us
      unfolding stepped_table
      same_units h = ap (drop 8) (kept_table rr.now.time n us (reduced s sights us n e) a.is)
          ∙ idle_units (ag o) _ (fair o) _ _ res us l runs.shows.is rr.now.time _ (reduced s sights us n e)
          (ap (λ k. alters k us (reduced s sights us n e)) (sym runs.count) ∙ sym a.told ∙ h)

      later_as : w.altered ≡ false → some_later s n sights left rr.now ≡ later rr.now
      later_as h = ap (λ cs. some_open_later rr.now.time rr.now.tag (values_read rr.now) s n (flat sights) cs)
          (same_units h)

      pub judge_due : SomeReading s us rr.now → w.altered ≡ false → Judged s sights left n rr.now
      judge_due reading h = record {
        tree = subst (λ cs. Tree (length s) sights cs n) (sym (same_units h)) units_ready;
        marks = λ z. later_as h ∙ (following reading.1).marks z;
      }

      pub follow_yes : {lent : List ℤ} {early : Bool} → early ≡ (not w.altered && some_later s n sights left rr.now)
          → ReadAs s us lent rr.now (Ok (record { early = early; cost = w.cost })) left
      unfolding answered
      follow_yes {early = early} h = record {
        is = λ bytes f. ap (λ b. answered (mark_of b) w.cost (advanced (Ok w) left))
            (h ∙ judged_as w.altered later_as ∙ ap (λ b. not b && later rr.now) a.told
            ∙ early_within rr.now.time n us (reduced s sights us n e) (later rr.now) a.is) ∙ reads_as f a;
        untouched = tt;
      }

-- ---- a breached run, and a fulfilled one
module _ {s : List ℕ} {us lent : List ℤ} {sights : List Sight} {r : Reading} where
  pub read_breached : {b : Broken} {left : List ℤ} → Opened s us sights (Breached b) → left ≡ us
      → ReadAs s us lent r (Ok (record { early = false; cost = 0 })) left
  unfolding answered mark_of Shows
  read_breached {b} o kept =
      let shown : BreachedAs (run_in s us) us b.time b.parties = o.shows in
      record {
        is = λ bytes f.
            ap (λ cells. answered 0 0 (answer 0 cells)) kept
            ∙ sym (reading_breach s _ (ck o) us o.cells _ _ bytes f.fits.reading (fits_as f.fits)
            (in_order o f shown.shows) shown.time _ shown.shows.is);
        untouched = tt;
      }

  pub read_done : {left : List ℤ} → Opened s us sights Fulfilled → left ≡ us
      → ReadAs s us lent r (Ok (record { early = false; cost = 0 })) (set left 1 (to_z w64 r.time))
  unfolding answered mark_of Shows
  read_done o kept =
      let shown : RunShows (run_in s us) us done = o.shows in
      let back = sym (table_back (ag o) _ us _ shown.is o.cells) in
      record {
        is = λ bytes f.
            ap (λ cells. answered 0 0 (answer 0 cells))
            (ap (λ cells. set cells 1 (to_z w64 r.time)) kept
            ∙ ap (set us 1) (to_z_pos w64 r.time (omega (arith, f.fits.small)) ∙ ap pos f.fits.time)
            ∙ retimed us shown.now shown.moved f.fits.reading.time back)
            ∙ sym (reading_done s _ (ck o) us o.cells _ _ bytes f.fits.reading (fits_as f.fits) (in_order o f shown)
            shown.is);
        untouched = tt;
      }

-- ---- before the reading is known to fit
record SomeRun (s : List ℕ) (us : List ℤ) : Type 0 where
  run : csl.Run
  is : run_in s us ≡ some run
  cell : get_or us 1 (pos 0) ≡ pos run.last_time

some_run : (s : List ℕ) (us : List ℤ) (sights : List Sight) (state : State) → Shows (run_in s us) us sights (Some state)
    → SomeRun s us
unfolding Shows
some_run s us sights (Running n) v = record { run = _; is = v.shows.is; cell = v.shows.cell }
some_run s us sights Fulfilled v = record { run = _; is = v.is; cell = v.cell }
some_run s us sights (Breached b) v = record { run = _; is = v.shows.is; cell = v.shows.cell }

module _ {s : List ℕ} {us : List ℤ} {sights : List Sight} {state : State} (o : Opened s us sights state)
    (bytes : List ℕ) where
  abbrev shown : SomeRun s us
  shown = some_run s us sights state o.shows

  read_refused : (m : Misfit) → TakenIs s bytes (Err m)
      → read_answer (Err (record { why = why_misfit m; cost = 0 })) us ≡ read_of s us bytes
  unfolding answered
  read_refused Malformed f = sym (reading_eight s (mains_of s) (ck o) us o.cells shown.run shown.is bytes f)
  read_refused Untyped f = sym (reading_nine s (mains_of s) (ck o) us o.cells shown.run shown.is bytes f.raw f.is
      f.untyped)

  pub read_misfit : {lent : List ℤ} (m : Misfit) → TakenIs s bytes (Err m)
      → ReadsOn s us lent bytes (Err (record { why = why_misfit m; cost = 0 })) lent
  read_misfit m f = record {
    is = reading_err s us us bytes (record { why = why_misfit m; cost = 0 }) (read_refused m f);
    untouched = refl;
  }

  module _ {r : Reading} (f : FittingRead s bytes r) {z : ℤ} (ez : z ≡ get_or us 1 (pos 0)) where
    -- the time of the last reading, as the code compares
    earlier : lt_z (to_z w64 r.time) z ≡ ltb r.time shown.run.last_time
    earlier = ap₂ lt_z (to_z_pos w64 r.time (omega (arith, f.small))) (ez ∙ shown.cell)

    pub read_ten : {lent : List ℤ} → lt_z (to_z w64 r.time) z ≡ true
        → ReadsOn s us lent bytes (Err (record { why = ReadingTime; cost = 0 })) lent
    unfolding answered
    read_ten t = record {
      is = reading_err s us us bytes (record { why = ReadingTime; cost = 0 })
          (sym (reading_ten s (mains_of s) (ck o) us o.cells shown.run shown.is bytes f.reading (fits_as f)
          (omega (arith, ltb-true r.time shown.run.last_time (sym earlier ∙ t), f.time))));
      untouched = refl;
    }

    pub read_fitted : lt_z (to_z w64 r.time) z ≡ false → Fitted s bytes us r
    read_fitted t = record {
      fits = f;
      in_order = λ now e. omega (
        arith,
        ltb-false r.time shown.run.last_time (sym earlier ∙ t),
        pos_inj (sym e ∙ shown.cell),
      );
    }

  -- a reading that is followed leaves a table that shows a run
  module _ {r : Reading} (f : Fitted s bytes us r) (a : Followed) (left : List ℤ)
      (e : read_answer (Ok a) left ≡ read_of s us bytes) where
    pub read_shows : Shown s left
    read_shows =
        let x = f.fits in
        let time = fitting_time (agreement_of s) bytes x.reading (fits_as x) in
        reading_leaves o.accepted us o.cells (shown.run, shown.is) bytes (omega (arith, x.small, x.time, time)) a left e

-- ---- what the methods' goals need
pub ruleset lending = (behind_head, length-take)

pub ruleset asking = (short, tree_taken, taken_open)

pub ruleset stepping = (follow_due, follow_no, follow_yes, judge_due, read_done, read_breached, opened_as)

pub ruleset judging = (time_fits, read_misfit, read_ten, read_fitted, read_shows, told_ok)
