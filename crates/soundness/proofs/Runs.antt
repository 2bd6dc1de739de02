-- A run step by step: the cases of a reading, the invariant that every reading keeps, and what the entries answer on
-- a run's table.
use mathlib.Core.Bool.{◌&&◌, Bool, false, not, true}
use mathlib.Core.List.{◌++◌, List, []}
use mathlib.Core.Logic.{inl, inr, ◌≢◌, ◌⊎◌}
use mathlib.Core.Option.{Option, none, some}
use mathlib.Core.Path.{ap, refl, subst, sym, ◌∙◌, ◌≡◌}
use Prim.Native.Nat.{◌*◌, ◌+◌, ◌<◌, ◌^◌, suc, zero, ℕ, ◌≤◌}
use native.Mathlib.Omega.{arith}
use lib.Dec.{T, leb, leb→le, ltb, ltb→lt, nltb→le}
use lib.IntN.{ℤ}
use lib.ListN.{length, length-append}
use Rattle.csl.specs.Lists.{◌>>=◌}
use Rattle.csl.specs.Parties.{bits_of, members, subset}
use Rattle.csl.specs.Syntax.{Agreement}
use Rattle.csl.specs.Typing.{blame_ok, names_of}
use Rattle.csl.specs.Check.{accepted, checked, refused}
use Rattle.csl.specs.Outcomes.{Outcome, Residue, both, breach, done, running, stuck, unit, units}
use Rattle.csl.specs.Rules.{Reading, follow}
use Rattle.csl.specs.Run.{Fit, Raw, Stepped, altered, fit, fit_of, followed, kept, moved_by, raw_reading, read_at}
use Rattle.csl.specs.Run.{started}
use Rattle.csl.specs.Run.{step, too_many, typed_reading, unfit}
use Rattle.csl.specs.Table.{Run, head_cells, join_cells, nat_cells, padded, residue_cells, run_of, table_length}
use Rattle.csl.specs.Table.{table_of}
use Rattle.csl.specs.Early.{came_early, mark_of}
use Rattle.csl.specs.Cost.{cost_from, cost_of}
use Rattle.csl.specs.Entries.{Answer, ReadAnswer, answered, is_table, read_of, refusal, begun_of, written}
use Rattle.csl.specs.Demand3.{Bytes, IsBreach, NotStuck, fitting, needed, reached}
use Rattle.laws.proofs.Bools.{T-left, T-or, T-right}
use Rattle.laws.proofs.Options.{some_bind}
use Rattle.laws.proofs.Cells.{length_join, length_padded}
use Rattle.soundness.proofs.Members.{In, sub→subset}
use Rattle.soundness.proofs.Good.{Good, Ok, good_sub}
use Rattle.soundness.proofs.Walks.{Fair}
use Rattle.soundness.proofs.Activation.{typed_blames}
use Rattle.soundness.proofs.Following.{ReadingOk, follow_good}
use Rattle.soundness.proofs.Bits.{bits_back}
use Rattle.soundness.proofs.RoundTrip.{breach_reads, done_reads, running_reads, units_length}
use Rattle.soundness.proofs.Checked.{Passed, fair, passed}
use Rattle.csl.specs.Marks.{time_in}
use Rattle.soundness.proofs.Readings.{fitting_time, raw_time, reading_ok, time_below}

-- a run by its last reading time, when it last moved, and its outcome
abbrev pub run_at : ℕ → ℕ → Outcome → Run
run_at t m o = record { last_time = t; last_moved = m; outcome = o }

abbrev pub stepped : ℕ → Run → Stepped
stepped n r = record { number = n; run = r }

-- ---- a reading fits or not: by its time, its type and its bytes
abbrev pub fit_by_time : ℕ → Reading → Fit
fit_by_time now d = elim (ltb d.time now) [ true ↦ unfit 10 | false ↦ fit d ]

abbrev pub fit_by_type : ℕ → Option Reading → Fit
fit_by_type now o = elim o [ none ↦ unfit 9 | some d ↦ fit_by_time now d ]

abbrev pub fit_by_bytes : Agreement → ℕ → Option Raw → Fit
fit_by_bytes a now o = elim o [ none ↦ unfit 8 | some w ↦ fit_by_type now (typed_reading a w) ]

pub fit_cases : {C : Type 0} (a : Agreement) (now : ℕ) (bytes : List ℕ)
    → ((n : ℕ) → (n ≡ 8) ⊎ (n ≡ 9) → fitting a bytes ≡ none → fit_of a now bytes ≡ unfit n → C)
    → ((d : Reading) → fitting a bytes ≡ some d → d.time < now → fit_of a now bytes ≡ unfit 10 → C)
    → ((w : Raw) (d : Reading) → raw_reading bytes ≡ some w → typed_reading a w ≡ some d → fitting a bytes ≡ some d
    → now ≤ d.time → fit_of a now bytes ≡ fit d → C) → C
unfolding fitting fit_of ◌>>=◌
fit_cases {C = C} a now bytes k₁ k₂ k₃ = raw (raw_reading bytes) refl
  where
    timed : (w : Raw) (d : Reading) → raw_reading bytes ≡ some w → typed_reading a w ≡ some d → (b : Bool)
        → ltb d.time now ≡ b → C
    timed w d e f true g = k₂ d (some_bind (raw_reading bytes) (typed_reading a) w e ∙ f)
        (ltb→lt d.time now (subst T (sym g) tt))
        (ap (fit_by_bytes a now) e ∙ ap (fit_by_type now) f
        ∙ ap (λ b. elim b [ true ↦ unfit 10 | false ↦ fit d ]) g)
    timed w d e f false g = k₃ w d e f (some_bind (raw_reading bytes) (typed_reading a) w e ∙ f)
        (nltb→le d.time now (subst (λ b. T (not b)) (sym g) tt))
        (ap (fit_by_bytes a now) e ∙ ap (fit_by_type now) f
        ∙ ap (λ b. elim b [ true ↦ unfit 10 | false ↦ fit d ]) g)

    typed_at : (w : Raw) → raw_reading bytes ≡ some w → (o : Option Reading) → typed_reading a w ≡ o → C
    typed_at w e none f = k₁ 9 (inr refl) (some_bind (raw_reading bytes) (typed_reading a) w e ∙ f)
        (ap (fit_by_bytes a now) e ∙ ap (fit_by_type now) f)
    typed_at w e (some d) f = timed w d e f (ltb d.time now) refl

    raw : (o : Option Raw) → raw_reading bytes ≡ o → C
    raw none e = k₁ 8 (inl refl) (ap (λ o. o >>= typed_reading a) e)
        (ap (fit_by_bytes a now) e)
    raw (some w) e = typed_at w e (typed_reading a w) refl

pub too_many_is : (o : Outcome) → too_many o ≡ ltb 128 (needed o)
unfolding too_many needed
too_many_is done = refl
too_many_is (breach t ps) = refl
too_many_is (running r) = refl
too_many_is stuck = refl

-- ---- the run that a reading leads to
-- when it then last moved
abbrev pub moved_to : ℕ → ℕ → Outcome → ℕ → Outcome → ℕ
moved_to t m o time next = moved_by (run_at t m o) (run_at time m next)

abbrev pub read_to : ℕ → ℕ → Outcome → ℕ → Outcome → Run
read_to t m o time next = run_at time (moved_to t m o time next) next

-- it is the reading's time, or it stays
pub moved_from : (t m : ℕ) (o : Outcome) (time : ℕ) (next : Outcome)
    → (moved_to t m o time next ≡ time) ⊎ (moved_to t m o time next ≡ m)
unfolding moved_by
moved_from t m o time next = go (altered (table_of (run_at t m o)) (table_of (run_at time m next)))
  where
    go : (b : Bool) → ◌⊎◌ (elim b as (λ _. ℕ) [ true ↦ time | false ↦ m ] ≡ time)
        (elim b as (λ _. ℕ) [ true ↦ time | false ↦ m ] ≡ m)
    go true = inl refl
    go false = inr refl

-- ---- the cases of a step
pub data Case (a : Agreement) (t m : ℕ) (o : Outcome) (bytes : List ℕ) : Type 0 where
  misfit : (n : ℕ) → (n ≡ 8) ⊎ (n ≡ 9) → fitting a bytes ≡ none
      → step a (run_at t m o) bytes ≡ stepped n (run_at t m o) → Case a t m o bytes
  backward : (d : Reading) → fitting a bytes ≡ some d → d.time < t
      → step a (run_at t m o) bytes ≡ stepped 10 (run_at t m o) → Case a t m o bytes
  many : (d : Reading) → fitting a bytes ≡ some d → t ≤ d.time → 128 < needed (reached a o d)
      → step a (run_at t m o) bytes ≡ stepped 11 (run_at t m o) → Case a t m o bytes
  taken : (d : Reading) → fitting a bytes ≡ some d → t ≤ d.time → needed (reached a o d) ≤ 128 → (IsBreach o → ⊥)
      → ReadingOk a d → (Bytes bytes → d.time < 2 ^ 32)
      → step a (run_at t m o) bytes ≡ stepped 0 (read_to t m o d.time (reached a o d)) → Case a t m o bytes
  final : (d : Reading) → fitting a bytes ≡ some d → t ≤ d.time → IsBreach o → needed (reached a o d) ≤ 128
      → step a (run_at t m o) bytes ≡ stepped 0 (run_at t m o) → Case a t m o bytes

follow_case : (a : Agreement) (t m : ℕ) (o : Outcome) (bytes : List ℕ) (d : Reading) → NotStuck o
    → fitting a bytes ≡ some d → t ≤ d.time → ReadingOk a d → (Bytes bytes → d.time < 2 ^ 32)
    → step a (run_at t m o) bytes ≡ followed a (run_at t m o) d → Case a t m o bytes
unfolding followed NotStuck reached needed IsBreach kept read_at
follow_case a t m done bytes d ns f le ok lt e = taken d f le (omega arith) (λ b. b) ok lt e
follow_case a t m (breach u ps) bytes d ns f le ok lt e = final d f le tt (omega arith) e
follow_case a t m (running res) bytes d ns f le ok lt e = go (too_many (follow a d res)) refl
  where
    choose : Bool → Stepped
    choose b = elim b [
      | true ↦ stepped 11 (run_at t m (running res))
      | false ↦ stepped 0 (read_to t m (running res) d.time (follow a d res))
    ]

    go : (b : Bool) → too_many (follow a d res) ≡ b → Case a t m (running res) bytes
    go true g = many d f le (ltb→lt 128 (needed (follow a d res)) (subst T (sym g ∙ too_many_is (follow a d res)) tt))
        (e ∙ ap choose g)
    go false g = taken d f le (nltb→le 128 (needed (follow a d res))
        (subst (λ b. T (not b)) (sym g ∙ too_many_is (follow a d res)) tt)) (λ b. b) ok lt (e ∙ ap choose g)
follow_case a t m stuck bytes d ns f le ok lt e = absurd ns

-- what a reading can do to a run that is not stuck: one of five cases
pub cases : (a : Agreement) (t m : ℕ) (o : Outcome) (bytes : List ℕ) → NotStuck o → Case a t m o bytes
unfolding step
cases a t m o bytes ns = fit_cases a t bytes
    (λ n w f e. misfit n w f (ap by e))
    (λ d f lt e. backward d f lt (ap by e))
    (λ w d rw' td f le e. let ok = reading_ok a w d td in
    follow_case a t m o bytes d ns f le ok.0
    (λ h. subst (λ z. z < 2 ^ 32) (sym ok.1) (raw_time bytes w h rw')) (ap by e))
  where
    by : Fit → Stepped
    by x = elim x [ unfit n ↦ stepped n (run_at t m o) | fit d ↦ followed a (run_at t m o) d ]

-- of a run
abbrev pub CaseOf : Agreement → Run → List ℕ → Type 0
CaseOf a q bytes = Case a q.last_time q.last_moved q.outcome bytes

pub case_of : (a : Agreement) (q : Run) (bytes : List ℕ) → NotStuck q.outcome → CaseOf a q bytes
case_of a q bytes ns = cases a q.last_time q.last_moved q.outcome bytes ns

-- ---- the invariant of a run
abbrev pub Since : Agreement → ℕ → ℕ → Type 0
Since a now t = (a.start ≤ t) × (t ≤ now)

pub record Inv (a : Agreement) (mains : List ℕ) (now m : ℕ) (o : Outcome) : Type 0 where
  pub from : a.start ≤ m
  pub to : m ≤ now
  pub fits : now < 2 ^ 32
  pub good : Good a (Since a now) mains o
  pub small : needed o ≤ 128

pub not_stuck : (a : Agreement) (mains : List ℕ) (now : ℕ) (o : Outcome) → Good a (Since a now) mains o → NotStuck o
unfolding Good NotStuck
not_stuck a mains now done g = tt
not_stuck a mains now (breach t ps) g = tt
not_stuck a mains now (running r) g = tt
not_stuck a mains now stuck g = g

pub breach_ok : (a : Agreement) (mains : List ℕ) (now t : ℕ) (ps : List ℕ) → Good a (Since a now) mains (breach t ps)
    → (ps ≢ []) × T (subset ps mains) × (a.start ≤ t) × (t ≤ now)
unfolding Good In
breach_ok a mains now t ps g = (nonempty, sub→subset ps mains g.2, g.3.0, g.3.1)
  where
    nonempty : ps ≢ []
    nonempty e = subst (λ l. In g.0 l) e g.1

pub cells_len : (a : Agreement) (W : ℕ → Type 0) (res : Residue) (ps : List ℕ) → Ok a W res ps
    → length (residue_cells res) ≡ 24 * units res
unfolding Ok residue_cells units
cells_len a W (unit s p t e) ps ok = units_length a W s p t e ps ok
cells_len a W (both j l r) ps ok = length-append (join_cells j) (residue_cells l ++ residue_cells r)
    ∙ omega (
      arith,
      length_join j,
      length-append (residue_cells l) (residue_cells r),
      cells_len a W l ok.0 ok.2,
      cells_len a W r ok.1 ok.3,
    )

head_len : (s n t b u m : ℕ) → length (head_cells s n t b u m) ≡ 8
unfolding head_cells nat_cells
head_len s n t b u m = refl

pub table_len : (a : Agreement) (mains : List ℕ) (now m : ℕ) (o : Outcome) → Inv a mains now m o
    → length (table_of (run_at now m o)) ≡ 3080
unfolding table_of
table_len a mains now m done i = length_padded 3080 (head_cells 2 now 0 0 0 m) (omega (arith, head_len 2 now 0 0 0 m))
table_len a mains now m (breach t ps) i = length_padded 3080 (head_cells 3 now t (bits_of ps) 0 m)
    (omega (arith, head_len 3 now t (bits_of ps) 0 m))
table_len a mains now m (running r) i = length_padded 3080 (head_cells 1 now 0 0 (units r) m ++ residue_cells r)
    (unfold Good needed in omega (
      arith,
      head_len 1 now 0 0 (units r) m,
      length-append (head_cells 1 now 0 0 (units r) m) (residue_cells r),
      cells_len a (Since a now) r i.good.0 i.good.1,
      i.small,
    ))
table_len a mains now m stuck i = absurd (unfold Good in i.good)

-- what a table reads back as: the run, up to the form of a breach's set
pub data Alike : Outcome → Outcome → Type 0 where
  same : (o : Outcome) → Alike o o
  breached : (t : ℕ) (ps : List ℕ) → Alike (breach t (members (bits_of ps))) (breach t ps)

pub reads : (a : Agreement) (mains : List ℕ) (few : (q : ℕ) → In q mains → q < 16) (now m : ℕ) (o : Outcome)
    → Inv a mains now m o → (q : Outcome) × (run_of a mains (table_of (run_at now m o)) ≡ some (run_at now m q)) ×
    Alike q o
unfolding Good needed
reads a mains few now m done i = (done, done_reads a mains now m i.from i.to i.fits, same done)
reads a mains few now m (breach t ps) i = (
  breach t (members (bits_of ps)),
  breach_reads a mains few now m i.from i.to i.fits t ps i.good.0 i.good.1 i.good.2 i.good.3.0
      i.good.3.1,
  breached t ps,
)
reads a mains few now m (running r) i = (
  running r,
  running_reads a mains now m i.from i.to i.fits r i.good.0 i.good.1 i.good.2 i.small,
  same (running r),
)
reads a mains few now m stuck i = absurd i.good

-- ---- what the entry answers on a run's table
abbrev Fine : Agreement → ℕ → ℕ → Outcome → List ℤ → List ℕ → Answer → Type 0
Fine a now m o cells r x = (x.number ≡ (step a (run_at now m o) r).number)
    × (x.table ≡ table_of (step a (run_at now m o) r).run)

written_fine : (a : Agreement) (now m : ℕ) (o : Outcome) (r : List ℕ) → NotStuck o
    → Fine a now m o (table_of (run_at now m o)) r (written (table_of (run_at now m o)) (step a (run_at now m o) r))
unfolding written refusal
written_fine a now m o r ns = go (cases a now m o r ns)
  where
    refuses : (n : ℕ) → step a (run_at now m o) r ≡ stepped (suc n) (run_at now m o)
        → Fine a now m o (table_of (run_at now m o)) r (written (table_of (run_at now m o)) (step a (run_at now m o) r))
    refuses n e = subst (λ s. ((written (table_of (run_at now m o)) s).number ≡ s.number)
        × ((written (table_of (run_at now m o)) s).table ≡ table_of s.run)) (sym e) (refl, refl)

    takes : (s : Run) → step a (run_at now m o) r ≡ stepped 0 s
        → Fine a now m o (table_of (run_at now m o)) r (written (table_of (run_at now m o)) (step a (run_at now m o) r))
    takes s e = subst (λ s. ((written (table_of (run_at now m o)) s).number ≡ s.number)
        × ((written (table_of (run_at now m o)) s).table ≡ table_of s.run)) (sym e) (refl, refl)

    go : Case a now m o r → Fine a now m o (table_of (run_at now m o)) r
        (written (table_of (run_at now m o)) (step a (run_at now m o) r))
    go (misfit n (inl e₈) f e) = refuses 7 (e ∙ ap (λ n. stepped n (run_at now m o)) e₈)
    go (misfit n (inr e₉) f e) = refuses 8 (e ∙ ap (λ n. stepped n (run_at now m o)) e₉)
    go (backward d f lt e) = refuses 9 e
    go (many d f le nd e) = refuses 10 e
    go (taken d f le nd nb ok lt e) = takes (read_to now m o d.time (reached a o d)) e
    go (final d f le ib nd e) = takes (run_at now m o) e

bits_same : (now m t : ℕ) (ps : List ℕ) → table_of (run_at now m (breach t (members (bits_of ps)))) ≡ table_of
    (run_at now m (breach t ps))
unfolding table_of members bits_of
bits_same now m t ps = ap (λ b. padded table_length (head_cells 3 now t b 0 m)) (bits_back 16 0 ps)

alike_fine : (a : Agreement) (now m : ℕ) (q o : Outcome) (r : List ℕ) → Alike q o → NotStuck o
    → Fine a now m o (table_of (run_at now m o)) r (written (table_of (run_at now m o)) (step a (run_at now m q) r))
unfolding written refusal step followed
alike_fine a now m q o r (same o') ns = written_fine a now m o r ns
alike_fine a now m q o r (breached t ps) ns = fit_cases a now r (λ n w f e. on (unfit n) e (refusing n w))
    (λ d f lt e. on (unfit 10) e (refl, refl)) (λ w d rw' td f le e. on (fit d) e (refl, bits_same now m t ps))
  where
    Q : Outcome
    Q = breach t (members (bits_of ps))

    O : Outcome
    O = breach t ps

    by : Outcome → Fit → Stepped
    by x z = elim z [ unfit n ↦ stepped n (run_at now m x) | fit d ↦ followed a (run_at now m x) d ]

    on : (z : Fit) → fit_of a now r ≡ z → ((written (table_of (run_at now m O)) (by Q z)).number ≡ (by O z).number)
        × ((written (table_of (run_at now m O)) (by Q z)).table ≡ table_of (by O z).run)
        → ((written (table_of (run_at now m O)) (by Q (fit_of a now r))).number ≡ (by O (fit_of a now r)).number)
        × ((written (table_of (run_at now m O)) (by Q (fit_of a now r))).table ≡ table_of (by O (fit_of a now r)).run)
    on z e h = subst (λ z. ((written (table_of (run_at now m O)) (by Q z)).number ≡ (by O z).number)
        × ((written (table_of (run_at now m O)) (by Q z)).table ≡ table_of (by O z).run)) (sym e) h

    refusing : (n : ℕ) → (n ≡ 8) ⊎ (n ≡ 9) →
        ((written (table_of (run_at now m O)) (by Q (unfit n))).number ≡ (by O (unfit n)).number)
        × ((written (table_of (run_at now m O)) (by Q (unfit n))).table ≡ table_of (by O (unfit n)).run)
    refusing zero (inl e) = absurd (omega arith)
    refusing zero (inr e) = absurd (omega arith)
    refusing (suc n) e = (refl, refl)

-- no mark is of a breach
alike_early : (a : Agreement) (now m : ℕ) (q o : Outcome) (r : List ℕ) → Alike q o
    → came_early a (run_at now m q) r ≡ came_early a (run_at now m o) r
unfolding came_early
alike_early a now m q o r (same o') = refl
alike_early a now m q o r (breached t ps) = refl

-- nor does a reading of a breach cost anything
alike_cost : (a : Agreement) (now m : ℕ) (q o : Outcome) (r : List ℕ) → Alike q o
    → cost_of a (run_at now m q) r ≡ cost_of a (run_at now m o) r
unfolding cost_of cost_from
alike_cost a now m q o r (same o') = refl
alike_cost a now m q o r (breached t ps) = refl

abbrev FineReading : Agreement → Run → List ℕ → ReadAnswer → Type 0
FineReading a q r x = (x.number ≡ (step a q r).number) × (x.table ≡ table_of (step a q r).run)
    × (x.early ≡ mark_of (came_early a q r)) × (x.cost ≡ cost_of a q r)

-- the main clause's parties are parties
pub main_in : (a : Agreement) (mains : List ℕ) → Fair a mains → (q : ℕ) → In q mains → q < a.parties
unfolding blame_ok names_of
main_in a mains fr q i = T-or (ltb q a.parties) (leb 128 q && ltb q (128 + 0))
    (typed_blames a mains fr a.main 0 [] mains fr.main q i) (λ t. ltb→lt q a.parties t)
    (λ t. absurd (omega (arith, leb→le 128 q (T-left (leb 128 q) _ t), ltb→lt q (128 + 0) (T-right (leb 128 q) _ t))))

-- ---- the entries of a checked agreement
module _ (bytes : List ℕ) (a : Agreement) (mains : List ℕ) (ck : checked bytes ≡ accepted a mains) where
  pub is_table_is : (cells : List ℤ) → length cells ≡ 3080 → is_table cells ≡ true
  unfolding is_table
  is_table_is cells h = rw h refl

  pub reading_is : (cells : List ℤ) (q : Run) (r : List ℕ) → length cells ≡ 3080 → run_of a mains cells ≡ some q
      → read_of bytes cells r ≡ answered (mark_of (came_early a q r)) (cost_of a q r)
      (written cells (step a q r))
  unfolding read_of
  reading_is cells q r h e =
      ap (λ c. elim c [
        | refused n ↦ answered 0 0 (refusal n cells)
        | accepted a ps ↦ elim (is_table cells) [
          | false ↦ answered 0 0 (refusal 6 cells)
          | true ↦ elim (run_of a ps cells) [
            | none ↦ answered 0 0 (refusal 7 cells)
            | some x ↦ answered (mark_of (came_early a x r)) (cost_of a x r) (written cells (step a x r))
          ]
        ]
      ]) ck
      ∙ ap (λ b. elim b [
        | false ↦ answered 0 0 (refusal 6 cells)
        | true ↦ elim (run_of a mains cells) [
          | none ↦ answered 0 0 (refusal 7 cells)
          | some x ↦ answered (mark_of (came_early a x r)) (cost_of a x r) (written cells (step a x r))
        ]
      ])
      (is_table_is cells h)
      ∙ ap (λ o. elim o [
        | none ↦ answered 0 0 (refusal 7 cells)
        | some x ↦ answered (mark_of (came_early a x r)) (cost_of a x r) (written cells (step a x r))
      ]) e

  pub start_is : (cells : List ℤ) → length cells ≡ 3080 → begun_of bytes cells ≡ written cells (started a)
  unfolding begun_of
  start_is cells h =
      ap (λ c. elim c [
        | refused n ↦ refusal n cells
        | accepted a ps ↦ elim (is_table cells) [ false ↦ refusal 6 cells | true ↦ written cells (started a) ]
      ]) ck
      ∙ ap (λ b. elim b [ false ↦ refusal 6 cells | true ↦ written cells (started a) ]) (is_table_is cells h)

  pub is_passed : Passed bytes a mains
  is_passed = passed bytes a mains ck

  pub is_fair : Fair a mains
  is_fair = fair bytes a mains is_passed

  pub few_mains : (q : ℕ) → In q mains → q < 16
  few_mains q i = omega (arith, main_in a mains is_fair q i, is_fair.few)

  abbrev pub InvOf : Run → Type 0
  InvOf q = Inv a mains q.last_time q.last_moved q.outcome

  -- on a run's table the entry answers with the run's number, mark and cost, and leaves the run's table
  pub reading_fine : (q : Run) (r : List ℕ) → InvOf q → FineReading a q r (read_of bytes (table_of q) r)
  unfolding answered
  reading_fine q r i =
      let now = q.last_time in
      let m = q.last_moved in
      let x = reads a mains few_mains now m q.outcome i in
      let fine = alike_fine a now m x.0 q.outcome r x.2 (not_stuck a mains now q.outcome i.good) in
      subst (FineReading a q r)
      (sym (reading_is (table_of q) (run_at now m x.0) r (table_len a mains now m q.outcome i) x.1)) (
        fine.0,
        fine.1,
        ap mark_of (alike_early a now m x.0 q.outcome r x.2),
        alike_cost a now m x.0 q.outcome r x.2,
      )

  -- ---- a reading keeps the invariant
  pub reached_good : (now m : ℕ) (o : Outcome) (d : Reading) → now ≤ d.time → ReadingOk a d → (IsBreach o → ⊥)
      → Inv a mains now m o → Good a (Since a d.time) mains (reached a o d)
  unfolding reached Good IsBreach
  reached_good now m done d le ok nb i = tt
  reached_good now m (breach t ps) d le ok nb i = absurd (nb tt)
  reached_good now m (running r) d le ok nb i = good_sub a (Since a d.time) i.good.0 mains (follow a d r)
      i.good.2 (follow_good a mains is_fair d ok now le r i.good.0 i.good.1)
  reached_good now m stuck d le ok nb i = i.good

  -- every reading keeps the invariant: typed residue, parties within the main clause's, times from the start to the
  -- last reading
  pub step_inv_soon : (q : Run) (r : List ℕ) → time_in r < 2 ^ 32 → InvOf q → InvOf (step a q r).run
  step_inv_soon q r soon i = go (case_of a q r (not_stuck a mains q.last_time q.outcome i.good))
    where
      since : (d : Reading) {k : ℕ} → q.last_time ≤ d.time → (k ≡ d.time) ⊎ (k ≡ q.last_moved) → Since a d.time k
      since d le (inl e) = (omega (arith, i.from, i.to), omega arith)
      since d le (inr e) = (omega (arith, i.from), omega (arith, i.to))

      go : CaseOf a q r → InvOf (step a q r).run
      go (misfit n w f e) = subst (λ s. InvOf s.run) (sym e) i
      go (backward d f lt e) = subst (λ s. InvOf s.run) (sym e) i
      go (many d f le nd e) = subst (λ s. InvOf s.run) (sym e) i
      go (taken d f le nd nb ok lt e) =
          let moved = since d le (moved_from q.last_time q.last_moved q.outcome d.time
          (reached a q.outcome d)) in
          subst (λ s. InvOf s.run) (sym e) (record {
            from = moved.0;
            to = moved.1;
            fits = subst (λ t. t < 2 ^ 32) (sym (fitting_time a r d f)) soon;
            good = reached_good q.last_time q.last_moved q.outcome d le ok nb i;
            small = nd;
          })
      go (final d f le ib nd e) = subst (λ s. InvOf s.run) (sym e) i

  -- whatever the reading's bytes
  pub step_inv : (q : Run) (r : List ℕ) → Bytes r → InvOf q → InvOf (step a q r).run
  unfolding time_in
  step_inv q r h = step_inv_soon q r (time_below r 4 h)

  -- 7 does not apply to its table
  pub table_typed : (q : Run) → InvOf q → (length (table_of q) ≡ 3080)
      × ((p : Run) × (run_of a mains (table_of q) ≡ some p))
  table_typed q i = let x = reads a mains few_mains q.last_time q.last_moved q.outcome i in (
    table_len a mains q.last_time q.last_moved q.outcome i,
    (run_at q.last_time q.last_moved x.0, x.1),
  )

pub written_zero : (cells : List ℤ) (s : Stepped) → s.number ≡ 0
    → written cells s ≡ record { number = 0; table = table_of s.run }
unfolding written refusal
written_zero cells s h = go s.number h
  where
    go : (n : ℕ) → n ≡ 0 → ◌≡◌ {A = Answer}
        (elim n [
          | zero ↦ record { number = 0; table = table_of s.run }
          | suc m ↦ record { number = s.number; table = cells }
        ]) (record { number = 0; table = table_of s.run })
    go zero e = refl
    go (suc n) e = absurd (omega arith)

pub written_number : (cells : List ℤ) (s : Stepped) → (written cells s).number ≡ s.number
unfolding written refusal
written_number cells s = go s.number refl
  where
    go : (n : ℕ) → s.number ≡ n → (elim n as (λ _. Answer) [
      | zero ↦ record { number = 0; table = table_of s.run }
      | suc k ↦ record { number = s.number; table = cells }
    ]).number ≡ s.number
    go zero e = sym e
    go (suc n) e = refl
