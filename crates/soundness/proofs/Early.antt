-- The mark of a reading that came too early is what paper 02, No. 8, says it is: the truths that are computed, both
-- ways, in csl's words, and no time mark is too early for a typed residue.
-- Main theorems: `came_early_lem`, `mark_not_early`.
use mathlib.Core.Bool.{◌||◌, Bool, false, false≢true, true}
use mathlib.Core.List.{◌++◌, List}
use mathlib.Core.Logic.{inl, inr, ◌↔◌, ◌⊎◌}
use mathlib.Core.Option.{Option, none, some}
use mathlib.Core.Path.{ap, ap₂, refl, sym, ◌∙◌, ◌≡◌}
use Prim.Native.Nat.{ℕ}
use lib.Dec.{eqb, eqb→eq}
use lib.IntN.{pos}
use lib.Signed.{lt_z, lt_z_yes}
use borrow.Author.Tests.{eq-eqb, eqb-false, eqb-true, not-true}
use Rattle.csl.specs.Lists.{◌>>=◌, need, there}
use Rattle.csl.specs.Syntax.{Agreement, Clause, Ty, Wait, bad_clause, choice, fulfilled, if, instance, join, obligation}
use Rattle.csl.specs.Typing.{blame_ok, names_of, type_clause, type_wait}
use Rattle.csl.specs.Values.{eval_bool}
use Rattle.csl.specs.Outcomes.{Outcome, Residue, Sight, both, breach, done, running, stuck, unit}
use Rattle.csl.specs.Rules.{Reading, window}
use Rattle.csl.specs.Places.{clause_at}
use Rattle.csl.specs.Run.{Fit, Stepped, altered, fit, fit_of, followed, step, unfit}
use Rattle.csl.specs.Table.{Run, table_of}
use Rattle.csl.specs.Early.{Awaits, SomeUnit, came_early, idle, some_too_early, too_early, wait_in}
use Rattle.laws.proofs.Bools.{T→true, and_left, and_right, by_test, elim_true, from_test}
use Rattle.laws.proofs.Options.{from_bind, from_need, need_true, none_some, some_inj}
use Rattle.soundness.proofs.Good.{Ok}
use Rattle.soundness.proofs.Following.{from_wait}
use Rattle.soundness.proofs.Forecasts.{unwanted}

from_there : {A C : Type 0} (o : Option A) → there o ≡ true → ((x : A) → o ≡ some x → C) → C
unfolding there
from_there none h k = absurd (false≢true h)
from_there (some x) h k = k x refl

either : {A B : Type 0} (x y : Bool) → (x ≡ true) ↔ A → (y ≡ true) ↔ B → ((x || y) ≡ true) ↔ (A ⊎ B)
either true y f g = (λ h. inl (f.0 refl), λ s. refl)
either {A} {B} false y f g = (λ h. inr (g.0 h), back)
  where
    back : A ⊎ B → y ≡ true
    back (inl p) = absurd (false≢true (f.1 p))
    back (inr q) = g.1 q

-- ---- "at least one waiting unit wants this type, finds `where` true, and has a first later than the reading"
module _ (a : Agreement) (d : Reading) where
  unit_awaits : (p t : ℕ) (e : Sight) → there (too_early a d p t e) ≡ true → Awaits a d p t e
  unfolding too_early
  unit_awaits p t e h =
      from_there (too_early a d p t e) h λ u q.
      from_bind (clause_at a p) _ u q λ c ec q₁.
      from_bind (wait_in c.clause) _ u q₁ λ w ew q₂.
      from_need (eqb w.wanted d.type) _ u q₂ λ wanted q₃.
      from_bind (eval_bool (e.values ++ d.values) w.condition) _ u q₃ λ b eb q₄.
      from_need b _ u q₄ λ true-now q₅.
      from_bind (window e t w) _ u q₅ λ v ev q₆.
      record {
        found = c;
        is_at = ec;
        wait = w;
        waits = ew;
        wants = eqb→eq w.wanted d.type wanted;
        finds = eb ∙ ap some (T→true b true-now);
        opens = v;
        is_opens = ev;
        later = lt_z_yes (need_true (lt_z (pos d.time) v.first) u q₆);
      }

  awaits_unit : (p t : ℕ) (e : Sight) → Awaits a d p t e → there (too_early a d p t e) ≡ true
  unfolding too_early there need ◌>>=◌
  awaits_unit p t e w = rw (
    w.is_at,
    w.waits,
    eq-eqb w.wait.wanted d.type w.wants,
    w.finds,
    w.is_opens,
    T→true (lt_z (pos d.time) w.opens.first) w.later.lt,
  )

  pub some_too_early_lem : (res : Residue) → (some_too_early a d res ≡ true) ↔ SomeUnit (Awaits a d) res
  unfolding some_too_early SomeUnit
  some_too_early_lem (unit k p t e) = (unit_awaits p t e, awaits_unit p t e)
  some_too_early_lem (both j l r) =
      either (some_too_early a d l) (some_too_early a d r) (some_too_early_lem l) (some_too_early_lem r)

-- ---- a time mark is never too early: what a typed clause waits for is no mark
pub typed_wait : {C : Type 0} (ag : Agreement) (n : ℕ) (env : List Ty) (c : Clause) (w : Wait) (bs : List ℕ)
    → wait_in c ≡ some w → type_clause (names_of ag n) env c ≡ some bs
    → ((vs : List Ty) → type_wait (names_of ag n) env w ≡ some vs → C) → C
unfolding wait_in type_clause
typed_wait ag n env fulfilled w bs e ty k = none_some e
typed_wait ag n env (obligation b x t) w bs e ty k = from_need (blame_ok (names_of ag n) b) _ bs ty λ bo q.
    from_bind (type_wait (names_of ag n) env x) _ bs q λ vs tw _.
    k vs (ap (type_wait (names_of ag n) env) (sym (some_inj e)) ∙ tw)
typed_wait ag n env (choice x t f) w bs e ty k = from_bind (type_wait (names_of ag n) env x) _ bs ty λ vs tw _.
    k vs (ap (type_wait (names_of ag n) env) (sym (some_inj e)) ∙ tw)
typed_wait ag n env (if x t f) w bs e ty k = none_some e
typed_wait ag n env (join j t f) w bs e ty k = none_some e
typed_wait ag n env (instance i es cs) w bs e ty k = none_some e
typed_wait ag n env bad_clause w bs e ty k = none_some e

module _ (ag : Agreement) (Q : ℕ → Type 0) (d : Reading) (mark : d.type ≡ 0) where
  none_awaits : (res : Residue) (ps : List ℕ) → Ok ag Q res ps → SomeUnit (Awaits ag d) res → ⊥
  unfolding Ok SomeUnit
  none_awaits (unit k p t e) ps ok x =
      let same = some_inj (sym ok.is_at ∙ x.is_at) in
      typed_wait ag ok.found.params ok.found.sight ok.found.clause x.wait ok.blames
      (ap (λ f. wait_in f.clause) same ∙ x.waits) ok.typed λ vs tw.
      from_wait ag ok.found.params ok.found.sight x.wait vs tw λ u₁ u₂ u₃ rt tc ta ti.
      eqb-false x.wait.wanted d.type (unwanted ag d mark x.wait vs rt) x.wants
  none_awaits (both j l r) ps ok (inl x) = none_awaits l ok.0 ok.2 x
  none_awaits (both j l r) ps ok (inr x) = none_awaits r ok.1 ok.3 x

  pub mark_not_early : (res : Residue) (ps : List ℕ) → Ok ag Q res ps → some_too_early ag d res ≡ false
  mark_not_early res ps ok = by_test (some_too_early ag d res)
      (λ h. absurd (none_awaits res ps ok ((some_too_early_lem ag d res).0 h))) (λ h. h)

-- ---- "It is 1 if and only if the reading is accepted, the table was running and no unit or state altered, and at
-- least one waiting unit wants this type, finds `where` true, and has a first later than the reading."
pub record IsEarly (a : Agreement) (q : Run) (bytes : List ℕ) : Type 0 where
  pub reading : Reading
  pub fits : fit_of a q.last_time bytes ≡ fit reading
  pub residue : Residue
  pub runs : q.outcome ≡ running residue
  pub accepted : (step a q bytes).number ≡ 0
  pub unaltered : altered (table_of q) (table_of (step a q bytes).run) ≡ false
  pub awaits : SomeUnit (Awaits a reading) residue

module _ (a : Agreement) (q : Run) (bytes : List ℕ) where
  is_idle : (s : Stepped) → (idle q s ≡ true) ↔ ((s.number ≡ 0) × (altered (table_of q) (table_of s.run) ≡ false))
  unfolding idle
  is_idle s = (
    λ h. (
      eqb-true s.number 0 (and_left (eqb s.number 0) _ h),
      not-true (altered (table_of q) (table_of s.run)) (and_right (eqb s.number 0) _ h),
    ),
    λ h. rw (eq-eqb s.number 0 h.0, h.1),
  )

  followed_is : (d : Reading) → fit_of a q.last_time bytes ≡ fit d → step a q bytes ≡ followed a q d
  unfolding step
  followed_is d e = rw (e, step)

  abbrev judged : Fit → Outcome → Bool
  judged z o = elim z [
    | unfit n ↦ false
    | fit d ↦ elim o [
      | done ↦ false
      | breach t ps ↦ false
      | running res ↦ elim (some_too_early a d res) [ false ↦ false | true ↦ idle q (followed a q d) ]
      | stuck ↦ false
    ]
  ]

  pub came_early_lem : (came_early a q bytes ≡ true) ↔ IsEarly a q bytes
  unfolding came_early
  came_early_lem = (to (fit_of a q.last_time bytes) q.outcome refl refl, from)
    where
      to : (z : Fit) (o : Outcome) → fit_of a q.last_time bytes ≡ z → q.outcome ≡ o → judged z o ≡ true
          → IsEarly a q bytes
      to (unfit n) o e f h = absurd (false≢true h)
      to (fit d) done e f h = absurd (false≢true h)
      to (fit d) (breach t ps) e f h = absurd (false≢true h)
      to (fit d) (running res) e f h = from_test (some_too_early a d res) (idle q (followed a q d)) false h
          (λ early i. let idly = (is_idle (step a q bytes)).0 (ap (idle q) (followed_is d e) ∙ i) in record {
            reading = d;
            fits = e;
            residue = res;
            runs = f;
            accepted = idly.0;
            unaltered = idly.1;
            awaits = (some_too_early_lem a d res).0 (T→true (some_too_early a d res) early);
          })
          (λ no. absurd (false≢true no))
      to (fit d) stuck e f h = absurd (false≢true h)

      from : IsEarly a q bytes → came_early a q bytes ≡ true
      from x = ap₂ judged x.fits x.runs
          ∙ elim_true (some_too_early a x.reading x.residue) _ false
          ((some_too_early_lem a x.reading x.residue).1 x.awaits)
          ∙ ap (idle q) (sym (followed_is x.reading x.fits))
          ∙ (is_idle (step a q bytes)).1 (x.accepted, x.unaltered)
