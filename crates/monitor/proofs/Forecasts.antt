-- The forecast's claim holds: the marks' calls leave the tables of the run (`Calls`), and of that run soundness/Marks
-- says all that is claimed.
use mathlib.Core.Path.{◌≡◌, refl, sym, ap, subst, ◌∙◌}
use mathlib.Core.List.{List, [], ◌∷◌, ◌++◌}
use mathlib.Core.Logic.{inl, inr, ◌⊎◌}
use mathlib.Core.Option.{some}
use Prim.Native.Nat.{ℕ, ◌<◌}
use native.Mathlib.Omega.{arith}
use lib.Dec.{T}
use lib.IntN.{ℤ}
use Rattle.csl.specs.Parties.{bits_of, members, subset}
use Rattle.csl.specs.Syntax.{Agreement}
use Rattle.csl.specs.Check.{checked, accepted}
use Rattle.csl.specs.Outcomes.{Outcome, breach, done, running, stuck}
use Rattle.csl.specs.Decode.{agreement_of}
use Rattle.csl.specs.Run.{started, step}
use Rattle.csl.specs.Table.{Run, run_of, table_of}
use Rattle.csl.specs.Entries.{Forecast, begun_of, breach_at, forecast_of, forecast_run, no_breach, reading_of, shown}
use Rattle.csl.specs.Entries.{answered, start_of, told_of}
use Rattle.csl.specs.Demand3.{AllBytes, Bytes, IsBreach, run_after}
use Rattle.csl.specs.Marks.{Breached, ForecastFits, breach_table, time_in}
use Rattle.soundness.proofs.Runs.{run_at, start_is, step_inv, written_number, written_zero}
use Rattle.soundness.proofs.Demand3.{after_inv, start_inv}
use Rattle.soundness.proofs.Marks.{AtOnce, Marks, Stays, at_once_lem, breach_state, fits, forecast_shows, frozen, given}
use Rattle.soundness.proofs.Marks.{never, none_breach, not_yet, run_ok, table_state, until}
use Rattle.monitor.specs.Answers.{Started, start_answer, taken_answer}
use Rattle.monitor.specs.Calls.{Call, Calls, forecast_in, last_table, number_in, readings_in}
use Rattle.monitor.specs.Preview.{Preview, Previews, answer_in}
use Rattle.monitor.specs.Forecasts.{AcceptedMarks, ForecastClaim, Foretells, Told, by_preview, by_reading, by_start}
use Rattle.monitor.specs.Forecasts.{last_forecast}
use Rattle.monitor.proofs.Joined.{begun_table, part_of, table_in}
use Rattle.monitor.proofs.Opens.{by_run, by_table}
use Rattle.monitor.proofs.Calls.{Sound, called, found, runs, shown as shows_run}
use Rattle.monitor.proofs.Copies.{accepted_long, as_reading, copied, copied_meets}

last_++ : (us : List ℤ) (before later : List Call)
    → last_table us (before ++ later) ≡ last_table (last_table us before) later
unfolding last_table
last_++ us [] later = refl
last_++ us (c ∷ before) later = last_++ c.left before later

marks_split : (a : Agreement) (before later : List Call) → AcceptedMarks a (before ++ later)
    → AcceptedMarks a before × AcceptedMarks a later
unfolding AcceptedMarks
marks_split a [] later m = (tt, m)
marks_split a (c ∷ before) later m = let h = marks_split a before later m.2 in ((m.0, m.1, h.0), h.1)

module _ (s : List ℕ) (a : Agreement) (mains : List ℕ) (ck : checked s ≡ accepted a mains) where
  -- the run takes the marks that the calls take
  run_marks : (q : Run) (us : List ℤ) (marks : List Call) → us ≡ table_of q → Sound s a mains ck q
      → AllBytes (readings_in marks) → Calls s us marks → AcceptedMarks a marks → Marks a q (readings_in marks)
  unfolding AllBytes readings_in Calls AcceptedMarks Marks
  run_marks q us [] e i h cs m = tt
  run_marks q us (c ∷ marks) e i h cs m =
      let x = called s a mains ck q us c e i cs.0 in
      let more = run_marks (step a q c.bytes).run c.left marks x.left (step_inv s a mains ck q c.bytes h.0 i) h.1 cs.1
      m.2 in
      (m.0, sym x.number ∙ m.1, more)

  -- of the run q, whose table the marks begin with
  module _ (q : Run) (us : List ℤ) (is : us ≡ table_of q) (i : Sound s a mains ck q) (marks : List Call)
      (h : AllBytes (readings_in marks)) (cs : Calls s us marks) (m : AcceptedMarks a marks)
      (f : Forecast) (fe : f ≡ shown (forecast_run a q)) (f' : Forecast) (fe' : f'
      ≡ forecast_of s (last_table us marks))
    where
      end : Run
      end = run_after a q (readings_in marks)

      end_table : last_table us marks ≡ table_of end
      unfolding end
      end_table = (runs s a mains ck q us marks is i h cs).table

      end_forecast : f' ≡ shown (forecast_run a end)
      unfolding end
      end_forecast = fe' ∙ ap (forecast_of s) end_table
          ∙ forecast_shows s a mains ck end (after_inv s a mains ck q (readings_in marks) h i)

      marked : Marks a q (readings_in marks)
      marked = run_marks q us marks is i h cs m

      unbreached : (Breached us → ⊥) → IsBreach q.outcome → ⊥
      unbreached nb b = nb (subst Breached (sym is) (breach_state q b))

      begins : (g : Forecast) → f ≡ g → (Breached us → ⊥) → Stays a g q
      unfolding Stays
      begins g e nb = (unbreached nb, sym fe ∙ e)

      stayed : (g : Forecast) → Stays a g end → (Breached (last_table us marks) → ⊥) × (f' ≡ g)
      unfolding Stays
      stayed g st = (
        (λ b. st.0 (table_state end.last_time end.last_moved end.outcome (subst Breached end_table b))),
        end_forecast ∙ st.1,
      )

      -- a breached table gives its verdict
      verdict_of : (o : Outcome) → q.outcome ≡ o → IsBreach o
          → (t : ℕ) × (b : ℕ) × (us ≡ breach_table q.last_time q.last_moved t b) × (f ≡ breach_at t b)
      unfolding IsBreach table_of breach_table forecast_run shown
      verdict_of done e b = absurd b
      verdict_of (breach t ps) e b = (
        t,
        bits_of ps,
        is ∙ ap (λ o. table_of (run_at q.last_time q.last_moved o)) e,
        fe ∙ ap (λ o. shown (forecast_run a (run_at q.last_time q.last_moved o))) e,
      )
      verdict_of (running r) e b = absurd b
      verdict_of stuck e b = absurd b

      verdict : Breached us
          → (now : ℕ) × (moved : ℕ) × (t : ℕ) × (b : ℕ) × (us ≡ breach_table now moved t b) × (f ≡ breach_at t b)
          × (last_table us marks ≡ us)
      unfolding end
      verdict b =
          let ib = table_state q.last_time q.last_moved q.outcome (subst Breached is b) in
          let v = verdict_of q.outcome refl ib in (
            q.last_time,
            q.last_moved,
            v.0,
            v.1,
            v.2,
            v.3,
            end_table ∙ ap table_of (frozen s a mains ck q (readings_in marks) i ib) ∙ sym is,
          )

      -- the first later mark
      first_later : (t b : ℕ) → f ≡ breach_at t b → (before : List Call) (one : Call) (later : List Call)
          → marks ≡ before ++ (one ∷ later) → (Breached (last_table us before) → ⊥) → t < time_in one.bytes
          → (last_table us marks ≡ breach_table (time_in one.bytes) (time_in one.bytes) t b) × (f' ≡ f)
      unfolding Marks AcceptedMarks last_table table_of breach_table forecast_run shown IsBreach Stays
      first_later t b fe₂ before one later e nb lt =
          let x = found s a mains ck q us is i marks h cs before one later e in
          let two = marks_split a before (one ∷ later) (subst (AcceptedMarks a) e m) in
          let run = run_after a q (readings_in before) in
          let next = (step a run one.bytes).run in
          -- before it nothing is breached
          let still : IsBreach run.outcome → ⊥ = λ ib. nb (subst Breached (sym x.table) (breach_state run ib)) in
          let at-first : IsBreach q.outcome → ⊥ = λ ib. still (subst (λ r. IsBreach r.outcome)
          (sym (frozen s a mains ck q (readings_in before) i ib)) ib) in
          let stays = until s a mains ck q (readings_in before) x.bytes.0 i
          (run_marks q us before is i x.bytes.0 x.meets.0 two.0) (breach_at t b) (at-first, sym fe ∙ fe₂) still in
          -- it gives the breach that was foretold, and after that nothing moves
          let g = given s a mains ck t b run one.bytes x.inv stays two.1.0 (sym x.number ∙ two.1.1) lt in
          let ib : IsBreach next.outcome = subst (λ r. IsBreach r.outcome) (sym g.1) tt in
          let last : last_table us marks ≡ table_of next = ap (last_table us) e ∙ last_++ us before (one ∷ later)
          ∙ (runs s a mains ck next one.left later x.left x.next x.bytes.1 x.meets.1).table
          ∙ ap table_of (frozen s a mains ck next (readings_in later) x.next ib) in (
            last ∙ ap table_of g.1 ∙ ap (breach_table (time_in one.bytes) (time_in one.bytes) t) g.2,
            fe' ∙ ap (forecast_of s) last ∙ forecast_shows s a mains ck next x.next
                ∙ ap (λ r. shown (forecast_run a r)) g.1 ∙ ap (breach_at t) g.2 ∙ sym fe₂,
          )

      foretells : Foretells a mains us f marks f'
      unfolding end
      foretells = record {
        fits = subst (ForecastFits a mains) (sym fe)
            (fits s a mains ck (forecast_run a q) (run_ok s a mains ck q.last_time q.last_moved q.outcome i));
        verdict = verdict;
        never = λ e. stayed no_breach (never s a mains ck q (readings_in marks) h i marked
            (begins no_breach e (λ b. let v = verdict b in none_breach (sym e ∙ v.5))));
        not_yet = λ t b e nb c. let x = stayed (breach_at t b)
            (not_yet s a mains ck q (readings_in marks) h i marked t b (begins (breach_at t b) e nb) c) in
            (x.0, x.1 ∙ sym e);
        at_once = λ t b e nb c. once t b e (at_once_lem s a mains ck q (readings_in marks) h i marked t b
            (begins (breach_at t b) e nb) c);
        given = first_later;
      }
        where
          once : (t b : ℕ) → f ≡ breach_at t b
              → Stays a (breach_at t b) (run_after a q (readings_in marks)) ⊎ AtOnce t b
              (run_after a q (readings_in marks))
              → ((Breached (last_table us marks) → ⊥) × (f' ≡ f)) ⊎
              ((c : ℕ) × (last_table us marks ≡ breach_table t t t c) × (0 < c) × T (subset (members c) (members b)))
          once t b e (inl st) = let x = stayed (breach_at t b) st in inl (x.0, x.1 ∙ sym e)
          once t b e (inr k) = inr (
            bits_of k.parties,
            end_table ∙ ap table_of k.is ∙ unfold table_of breach_table in
                refl,
            k.named,
            k.among,
          )

-- ---- what an accepted call tells is the forecast of the table that it leaves
told_as : (s : List ℕ) {n : ℕ} {left us : List ℤ} → n ≡ 0 → left ≡ us → told_of s n left ≡ forecast_of s us
unfolding told_of
told_as s e f = rw (e, f) refl

reading_tells : (s : List ℕ) (lent : List ℤ) (one : Call)
    → taken_answer one.answer one.left ≡ reading_of s lent one.bytes → number_in one ≡ 0
    → forecast_in one ≡ forecast_of s one.left
unfolding forecast_in number_in reading_of
reading_tells s lent one e z = ap (λ x. x.forecast) e ∙ told_as s (sym (ap (λ x. x.number) e) ∙ z)
    (sym (ap (λ x. x.table) e) ∙ table_in one.answer one.left)

last_tells : (s : List ℕ) (a : Agreement) (us : List ℤ) (f : Forecast) (marks : List Call) → f ≡ forecast_of s us
    → Calls s us marks → AcceptedMarks a marks → last_forecast f marks ≡ forecast_of s (last_table us marks)
unfolding last_forecast last_table Calls AcceptedMarks
last_tells s a us f [] e cs m = e
last_tells s a us f (c ∷ marks) e cs m =
    last_tells s a c.left (forecast_in c) marks (reading_tells s us c cs.0 m.1) cs.1 m.2

same_agreement : {a b : Agreement} {ps qs : List ℕ} → accepted a ps ≡ accepted b qs → (a ≡ b) × (ps ≡ qs)
same_agreement e = (cc, cc)

-- the run whose table it leaves
record Leaving (s : List ℕ) (a : Agreement) (mains : List ℕ) (ck : checked s ≡ accepted a mains) (us : List ℤ)
    (f : Forecast) : Type 0 where
  run : Run
  table : us ≡ table_of run
  sound : Sound s a mains ck run
  tells : f ≡ forecast_of s us

module _ (s : List ℕ) (a : Agreement) (mains : List ℕ) (ck : checked s ≡ accepted a mains) (hs : Bytes s) (us : List ℤ)
    (f : Forecast) where
  begun_leaves : (lent : List ℤ) (r : Started) → start_answer r us ≡ start_of s lent → (start_answer r us).number ≡ 0
      → f ≡ (start_answer r us).forecast → Leaving s a mains ck us f
  unfolding start_of
  begun_leaves lent r e z fe = by_table s lent
      (λ n more other x. let zero : n ≡ 0 = sym (ap (λ y. y.number) x.start) ∙ none in absurd (omega arith))
      (λ ps ck' l.
      let is = start_is s a mains ck lent l in
      let zero : (started a).number ≡ 0 = sym (written_number lent (started a)) ∙ sym (ap (λ x. x.number) is) ∙ none in
      record {
        run = (started a).run;
        table = same ∙ ap (λ x. x.table) (is ∙ written_zero lent (started a) zero);
        sound = start_inv s a mains ck hs zero;
        tells = fe ∙ ap (λ x. x.forecast) e ∙ told_as s none (sym same);
      })
    where
      none : (begun_of s lent).number ≡ 0
      none = sym (ap (λ x. x.number) e) ∙ z

      same : us ≡ (begun_of s lent).table
      same = sym (begun_table r us) ∙ ap (λ x. x.table) e

  read_leaves : (lent : List ℤ) (one : Call) → Bytes one.bytes
      → taken_answer one.answer one.left ≡ reading_of s lent one.bytes → number_in one ≡ 0 → us ≡ one.left
      → f ≡ forecast_in one → Leaving s a mains ck us f
  unfolding number_in answered
  read_leaves lent one h e z same fe = by_run s lent
      (λ n more other reads.
      let is = part_of s lent one.bytes e ∙ reads one.bytes in
      let zero : n ≡ 0 = sym (ap (λ x. x.number) is) ∙ z in absurd (omega arith))
      (λ ps q ck' l is.
      let agree = same_agreement (sym ck' ∙ ck) in
      let shows = subst (λ x. run_of x mains lent ≡ some q) agree.0
      (subst (λ x. run_of (agreement_of s) x lent ≡ some q) agree.1 is) in
      let on = shows_run s a mains ck q lent l shows in
      let x = called s a mains ck q lent one on.0 on.1 e in
      record {
        run = (step a q one.bytes).run;
        table = same ∙ x.left;
        sound = step_inv s a mains ck q one.bytes h on.1;
        tells = fe ∙ reading_tells s lent one e z ∙ ap (forecast_of s) (sym same);
      })

  preview_leaves : (first : List ℤ) (p : Preview) → Bytes p.bytes → Previews s first p → (answer_in p).number ≡ 0
      → us ≡ p.left → f ≡ (answer_in p).forecast → Leaving s a mains ck us f
  preview_leaves first p h meets z same fe =
      let l = accepted_long s first p meets z in
      let one = copied s first p meets l in
      let is = copied_meets s first p meets l in
      let y = as_reading s first p meets l one is in
      let zero = sym y.number ∙ z in
      read_leaves first one h is zero (same ∙ y.outcome zero) (fe ∙ y.forecast)

  leaving : Told s us f → Leaving s a mains ck us f
  leaving (by_start lent r e z fe) = begun_leaves lent r e z fe
  leaving (by_reading lent one h e z same fe) = read_leaves lent one h e z same fe
  leaving (by_preview first p h meets z same fe) = preview_leaves first p h meets z same fe

-- what start, reading and preview tell is what accepted marks then do, cell for cell
pub forecasts : ForecastClaim
unfolding ForecastClaim
forecasts s a mains us f marks hs ck t h cs m =
    let x = leaving s a mains ck hs us f t in (
      x.tells,
      foretells s a mains ck x.run us x.table x.sound marks h cs m f
          (x.tells ∙ ap (forecast_of s) x.table ∙ forecast_shows s a mains ck x.run x.sound)
          (last_forecast f marks) (last_tells s a us f marks x.tells cs m),
    )
