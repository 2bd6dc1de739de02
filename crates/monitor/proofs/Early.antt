-- The mark's claim holds: a call's mark is that of the run which its table shows (`Calls`), and of that run
-- soundness/Early says when it is set.
use mathlib.Core.Path.{◌≡◌, refl, sym, ap, ◌∙◌}
use mathlib.Core.Bool.{Bool, true, false}
use mathlib.Core.List.{List}
use Rattle.std.specs.Prelude.{Ok, Err}
use mathlib.Core.Logic.{inl, inr, ◌⊎◌, ◌↔◌}
use mathlib.Core.Option.{some}
use Prim.Native.Nat.{ℕ}
use native.Mathlib.Omega.{arith}
use lib.IntN.{ℤ, pos}
use lib.ListN.{length}
use Rattle.csl.specs.Lists.{at}
use Rattle.csl.specs.Syntax.{Agreement}
use Rattle.csl.specs.Decode.{agreement_of}
use Rattle.csl.specs.Check.{checked, accepted}
use Rattle.csl.specs.Outcomes.{Residue, running}
use Rattle.csl.specs.Rules.{Reading}
use Rattle.csl.specs.Run.{Fit, Stepped, fit, fit_of, followed, step, unfit}
use Rattle.csl.specs.Table.{Run, head_cells, nat_cells, padded, run_of, table_length, table_of}
use Rattle.csl.specs.Entries.{answered, reading_of}
use Rattle.csl.specs.Early.{came_early, mark_of}
use Rattle.csl.specs.Demand3.{Unaltered, fitting}
use Rattle.laws.proofs.Clash.{impossible}
use Rattle.laws.proofs.Options.{none_some, some_inj}
use Rattle.soundness.proofs.Runs.{fit_cases, run_at, stepped}
use Rattle.soundness.proofs.Moved.{altered_not, unaltered_is}
use Rattle.soundness.proofs.Early.{IsEarly, came_early_lem}
use Rattle.monitor.specs.Answers.{TakenOrRefused, taken_answer}
use Rattle.monitor.specs.Calls.{Call, early_in, number_in}
use Rattle.monitor.specs.Early.{CameEarly, EarlyClaim, TooEarly}
use Rattle.monitor.proofs.Calls.{called, shown}
use Rattle.monitor.proofs.Joined.{part_of}
use Rattle.monitor.proofs.Opens.{by_run}

-- ---- a mark that is 1
mark_one : (b : Bool) → mark_of b ≡ 1 → b ≡ true
unfolding mark_of
mark_one true e = refl
mark_one false e = absurd (omega arith)

-- the same tables
pub unaltered_in : {us vs xs ys : List ℤ} → us ≡ xs → vs ≡ ys → Unaltered us vs → Unaltered xs ys
unaltered_in e f u = rw (e, f) at u

-- ---- a reading that is followed
fit_says : (a : Agreement) (now : ℕ) (bytes : List ℕ) (d : Reading) → fit_of a now bytes ≡ fit d
    → fitting a bytes ≡ some d
fit_says a now bytes d e = fit_cases a now bytes
    (λ n w f g. impossible cc)
    (λ d' f lt g. impossible cc)
    (λ w d' r t f le g. let same : d' ≡ d = cc in f ∙ ap some same)

-- one that is accepted is followed
says_fit : (a : Agreement) (q : Run) (bytes : List ℕ) (d : Reading) → fitting a bytes ≡ some d
    → (step a q bytes).number ≡ 0 → fit_of a q.last_time bytes ≡ fit d
unfolding step
says_fit a q bytes d e z = fit_cases a q.last_time bytes
    (λ n w f g. none_some (sym f ∙ e))
    (λ d' f lt g. let ten : ◌≡◌ {A = ℕ} 10 0 = sym (ap (λ x. (by x).number) g) ∙ z in absurd (omega arith))
    (λ w d' r t f le g. g ∙ ap fit (some_inj (sym f ∙ e)))
  where
    by : Fit → Stepped
    by x = elim x [ unfit n ↦ stepped n q | fit d ↦ followed a q d ]

-- the state cell of a running run's table
pub running_cell : (q : Run) (res : Residue) → q.outcome ≡ running res → at (table_of q) 0 ≡ some (pos 1)
unfolding table_of padded head_cells nat_cells at
running_cell q res e = ap (λ o. at (table_of (run_at q.last_time q.last_moved o)) 0) e

-- ---- a call on a run's table
module _ (a : Agreement) (q : Run) (us : List ℤ) (one : Call) (table : us ≡ table_of q)
    (number : number_in one ≡ (step a q one.bytes).number)
    (left : one.left ≡ table_of (step a q one.bytes).run)
    (mark : early_in one ≡ mark_of (came_early a q one.bytes)) where
  pub early_is : (early_in one ≡ 1) ↔ TooEarly a q us one
  unfolding mark_of
  early_is = (
    (λ e. let x = (came_early_lem a q one.bytes).0 (mark_one (came_early a q one.bytes) (sym mark ∙ e)) in record {
      is_accepted = number ∙ x.accepted;
      was_running = ap (λ cells. at cells 0) table ∙ running_cell q x.residue x.runs;
      unaltered = unaltered_in (sym table) (sym left) (altered_not _ _ x.unaltered);
      reading = x.reading;
      says = fit_says a q.last_time one.bytes x.reading x.fits;
      residue = x.residue;
      waits = x.runs;
      awaits = x.awaits;
    }),
    (λ x.
        let zero : (step a q one.bytes).number ≡ 0 = sym number ∙ x.is_accepted in
        let is : IsEarly a q one.bytes = record {
          reading = x.reading;
          fits = says_fit a q one.bytes x.reading x.says zero;
          residue = x.residue;
          runs = x.waits;
          accepted = zero;
          unaltered = unaltered_is _ _ (unaltered_in table left x.unaltered);
          awaits = x.awaits;
        } in
        mark ∙ ap mark_of ((came_early_lem a q one.bytes).1 is)),
  )

-- ---- whatever is lent
-- a mark is 1 or 0
either : (r : TakenOrRefused) (us : List ℤ) → ((taken_answer r us).early ≡ 1) ⊎ ((taken_answer r us).early ≡ 0)
unfolding mark_of
either (Ok a) us = elim a.early as (λ b. (mark_of b ≡ 1) ⊎ (mark_of b ≡ 0)) [ true ↦ inl refl | false ↦ inr refl ]
either (Err w) us = inr refl

module _ (s : List ℕ) (us : List ℤ) (one : Call)
    (meets : taken_answer one.answer one.left ≡ reading_of s us one.bytes) where
  -- of a table that shows a run
  shown_early : (a : Agreement) (mains : List ℕ) (q : Run) → checked s ≡ accepted a mains → length us ≡ table_length
      → run_of a mains us ≡ some q → (early_in one ≡ 1) ↔ TooEarly a q us one
  shown_early a mains q ck l e =
      let on = shown s a mains ck q us l e in
      let x = called s a mains ck q us one on.0 on.1 meets in
      early_is a q us one on.0 x.number x.left x.early

  -- a refusal's mark is 0, and it is no 0
  early_iff : (early_in one ≡ 1) ↔ CameEarly s us one
  unfolding early_in number_in answered
  early_iff = by_run s us
      (λ n more other reads.
      let is = part_of s us one.bytes meets ∙ reads one.bytes in (
        λ h. let z : ◌≡◌ {A = ℕ} 0 1 = sym (ap (λ x. x.early) is) ∙ h in absurd (omega arith),
        λ x. let z : n ≡ 0 = sym (ap (λ y. y.number) is) ∙ x.too_early.is_accepted in absurd (omega arith),
      ))
      (λ mains q ck l e. (
        λ h. record {
          agreement = agreement_of s;
          mains = mains;
          run = q;
          is_agreement = ck;
          is_run = e;
          too_early = (shown_early (agreement_of s) mains q ck l e).0 h;
        },
        λ x. (shown_early x.agreement x.mains x.run x.is_agreement l x.is_run).1 x.too_early,
      ))

pub early : EarlyClaim
unfolding EarlyClaim early_in
early s us one meets = (either one.answer one.left, early_iff s us one meets)
