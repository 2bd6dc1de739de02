-- A sized agreement's run needs no more than its main clause (`soundness`), and the calls are the run's (`Demand3`).
use mathlib.Core.Path.{◌≡◌, refl, sym, ap, subst, ◌∙◌}
use mathlib.Core.Bool.{true}
use mathlib.Core.List.{List, [], ◌∷◌, ◌++◌}
use mathlib.Core.Logic.{◌≢◌}
use mathlib.Core.Option.{some}
use Prim.Native.Nat.{ℕ, ◌≤◌}
use native.Mathlib.Omega.{arith}
use borrow.Author.Tests.{eqb-true, eqb-false}
use lib.Dec.{eqb}
use lib.IntN.{ℤ, pos}
use lib.ListN.{length}
use Rattle.csl.specs.Lists.{at}
use Rattle.csl.specs.Syntax.{Agreement}
use Rattle.csl.specs.Decode.{agreement_of}
use Rattle.csl.specs.Check.{accepted, checked}
use Rattle.csl.specs.Sizes.{main_need, sized}
use Rattle.csl.specs.Needs.{outcome_need}
use Rattle.csl.specs.Run.{started, step}
use Rattle.csl.specs.Table.{table_length, table_of}
use Rattle.csl.specs.Entries.{begun_of, start_of}
use Rattle.csl.specs.Demand3.{AllBytes, Bytes, needed, run_after}
use Rattle.laws.proofs.Bools.{by_test}
use Rattle.laws.proofs.Options.{some_inj}
use Rattle.soundness.proofs.KnownSize.{main_small, need_after, need_falls, never_eleven, start_fits, units_after}
use Rattle.laws.proofs.Integers.{pos_inj}
use Rattle.soundness.proofs.Runs.{not_stuck, start_is, written_number}
use Rattle.monitor.specs.Answers.{Started, start_answer}
use Rattle.monitor.specs.Calls.{Call, Calls, last_table, number_in, readings_in}
use Rattle.monitor.specs.Demand3.{IsStarted, run_by}
use Rattle.monitor.specs.KnownSize.{KnownSize, StartsBelow, WithinNeed}
use Rattle.monitor.specs.Preview.{Preview, PreviewClaim, Previews, answer_in}
use Rattle.monitor.proofs.Calls.{Sound, bytes_split, found, inv_at, table_at}
use Rattle.monitor.proofs.Cost.{used_cell}
use Rattle.monitor.proofs.Demand3.{begins_zero, run_inv, run_next, us_is}
use Rattle.monitor.proofs.Copies.{foresees, previews_claim}
use Rattle.monitor.proofs.Opens.{by_table}

module _ (s : List ℕ) (lent : List ℤ) (a : Agreement) (mains : List ℕ) (r : Started) (us : List ℤ) (hs : Bytes s)
    (ck : checked s ≡ accepted a mains) (sz : sized a ≡ true) (l : length lent ≡ table_length)
    (start : start_answer r us ≡ start_of s lent) where
  st : IsStarted s lent a mains
  st = record { is_accepted = ck; not_six = l; not_eleven = start_fits s a mains ck sz }

  begun_table : us ≡ table_of (started a).run
  begun_table = us_is s lent a mains st r us start hs

  begun_sound : Sound s a mains ck (started a).run
  begun_sound = run_inv s lent a mains st r us start hs

  module _ (calls : List Call) (hr : AllBytes (readings_in calls)) (cs : Calls s us calls) where
    -- the readings before a place of the list
    bytes_at : (before later : List Call) → calls ≡ before ++ later → AllBytes (readings_in before)
    bytes_at before later e = (bytes_split before later (subst (λ c. AllBytes (readings_in c)) e hr)).0

    need_at : (before later : List Call) → calls ≡ before ++ later
        → outcome_need a (run_by a before).outcome ≤ main_need a
    unfolding run_by
    need_at before later e = need_after s a mains ck sz hs (readings_in before) (bytes_at before later e)

    units_at : (before later : List Call) → calls ≡ before ++ later
        → needed (run_by a before).outcome ≤ outcome_need a (run_by a before).outcome
    unfolding run_by
    units_at before later e = units_after s a mains ck sz hs (readings_in before) (bytes_at before later e)

    in_use_at : (before later : List Call) → calls ≡ before ++ later → (n : ℕ)
        → at (last_table us before) 4 ≡ some (pos n) → n ≤ main_need a
    unfolding run_by
    in_use_at before later e n is =
        let q = run_by a before in
        let inv = inv_at s a mains ck (started a).run us begun_table begun_sound calls hr cs before later e in
        let table = table_at s a mains ck (started a).run us begun_table begun_sound calls hr cs before later e in
        let used = used_cell q.last_time q.last_moved q.outcome (not_stuck a mains _ _ inv.good) in
        let same : n ≡ needed q.outcome = pos_inj (some_inj (sym is ∙ ap (λ cells. at cells 4) table ∙ used)) in
        omega (arith, need_at before later e, units_at before later e)

    -- one of the calls: its number is the run's
    call_number : (before : List Call) (one : Call) (later : List Call) → calls ≡ before ++ (one ∷ later)
        → number_in one ≡ (step a (run_by a before) one.bytes).number
    unfolding run_by
    call_number before one later e =
        (found s a mains ck (started a).run us begun_table begun_sound calls hr cs before one later e).number

    step_below : (before later : List Call) → calls ≡ before ++ later → (bytes : List ℕ)
        → (step a (run_by a before) bytes).number ≢ 11
    unfolding run_by
    step_below before later e bytes =
        never_eleven s a mains ck sz hs (readings_in before) (bytes_at before later e) bytes

    -- a preview: under 6 where the second table is none, and else the run's number
    preview_below : (before later : List Call) → calls ≡ before ++ later → (p : Preview) → Bytes p.bytes
        → Previews s (last_table us before) p → (answer_in p).number ≢ 11
    unfolding run_by PreviewClaim
    preview_below before later e p h meets z = by_test (eqb (length p.second) table_length)
        (λ y.
        let inv = inv_at s a mains ck (started a).run us begun_table begun_sound calls hr cs before later e in
        let table = table_at s a mains ck (started a).run us begun_table begun_sound calls hr cs before later e in
        let long = eqb-true (length p.second) table_length y in
        let f = foresees s a mains ck (run_by a before) (last_table us before) p table inv h meets long in
        step_below before later e p.bytes (sym f.number ∙ z))
        (λ y.
        let none = eqb-false (length p.second) table_length y in
        let six = ((previews_claim s (last_table us before) p meets).1 none).six a mains ck in
        absurd (omega arith))

    need_next : (before : List Call) (one : Call) (later : List Call) → calls ≡ before ++ (one ∷ later)
        → outcome_need a (run_by a (before ++ (one ∷ []))).outcome ≤ outcome_need a (run_by a before).outcome
    unfolding run_by
    need_next before one later e = subst (λ q. outcome_need a q.outcome ≤ outcome_need a (run_by a before).outcome)
        (sym (run_next a (started a).run before one))
        (need_falls s a mains ck sz hs (readings_in before) (bytes_at before (one ∷ later) e) one.bytes)

    within : WithinNeed s a r us calls
    within = record {
      begun = ap (λ x. x.number) (start ∙ begins_zero s lent a mains st r us start hs);
      never_eleven = λ before one later e z.
          step_below before (one ∷ later) e one.bytes (sym (call_number before one later e) ∙ z);
      foreseen = preview_below;
      need = need_at;
      room = main_small s a mains ck sz;
      falls = need_next;
      units = units_at;
      in_use = in_use_at;
    }

-- The single claim over the whole list.
pub known_size : KnownSize
unfolding KnownSize
known_size s lent a mains r us calls hs hr ck sz l start cs = within s lent a mains r us hs ck sz l start calls hr cs

pub starts_below : StartsBelow
unfolding StartsBelow start_of
starts_below s lent a mains r us ck sz start z = by_table s lent
    (λ n more other x. other (sym (ap (λ y. y.number) x.start) ∙ sym number ∙ z))
    (λ ps ck′ l.
    let is = start_is s a mains ck lent l in
    let zero : (begun_of s lent).number ≡ 0 =
    ap (λ x. x.number) is ∙ written_number lent (started a) ∙ start_fits s a mains ck sz in
    absurd (omega (arith, number, zero, z)))
  where
    number : (start_answer r us).number ≡ (begun_of s lent).number
    number = ap (λ x. x.number) start
