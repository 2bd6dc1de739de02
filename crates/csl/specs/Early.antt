-- Paper 02, No. 8: "Say when a reading came too early." What the mark is of, on the run by the rules.
use Rattle.std.specs.Prelude.{Bool, true, false, not, ◌&&◌, ◌||◌, List, ◌++◌, ◌⊎◌, ◌≡◌, ℕ, eqb, pos, ◌<ℤ◌}
use Rattle.std.proofs.Math.Option.{Option, none, some}
use Rattle.std.specs.Int.Signed.{lt_z}
use Rattle.csl.specs.Lists.{◌>>=◌, need, there}
use Rattle.csl.specs.Syntax.{Wait, Clause, fulfilled, obligation, choice, if, join, instance, bad_clause}
use Rattle.csl.specs.Syntax.{Agreement}
use Rattle.csl.specs.Values.{eval_bool}
use Rattle.csl.specs.Outcomes.{Sight, Residue, unit, both, done, breach, running, stuck}
use Rattle.csl.specs.Places.{Found, clause_at}
use Rattle.csl.specs.Rules.{Reading, Window, window}
use Rattle.csl.specs.Table.{Run, table_of}
use Rattle.csl.specs.Run.{Stepped, altered, unfit, fit, fit_of, followed}

-- what an obligation and a choice wait for
unfoldable pub wait_in : Clause → Option Wait
wait_in fulfilled = none
wait_in (obligation b w t) = some w
wait_in (choice w t f) = some w
wait_in (if c t f) = none
wait_in (join j t f) = none
wait_in (instance k es bs) = none
wait_in bad_clause = none

-- a waiting unit that "wants this type, finds `where` true, and has a first later than the reading"
unfoldable pub too_early : Agreement → Reading → ℕ → ℕ → Sight → Option (Unit {0})
too_early a r p t e = do
  c ← clause_at a p
  w ← wait_in c.clause
  _ ← need (eqb w.wanted r.type)
  b ← eval_bool (e.values ++ r.values) w.condition
  _ ← need b
  v ← window e t w
  need (lt_z (pos r.time) v.first)

-- "at least one waiting unit": of the table, so not what a late choice's else comes to wait for
unfoldable pub some_too_early : Agreement → Reading → Residue → Bool
some_too_early a r (unit k p t e) = there (too_early a r p t e)
some_too_early a r (both j l m) = some_too_early a r l || some_too_early a r m

-- "the reading is accepted [..] and no unit or state altered"
unfoldable pub idle : Run → Stepped → Bool
idle before next = eqb next.number 0 && not (altered (table_of before) (table_of next.run))

-- "It is 1 if and only if the reading is accepted, the table was running and no unit or state altered, and at least one
-- waiting unit wants this type, finds `where` true, and has a first later than the reading."
unfoldable pub came_early : Agreement → Run → List ℕ → Bool
came_early a r bytes = elim (fit_of a r.last_time bytes) [
  | unfit n ↦ false
  | fit d ↦ elim r.outcome [
    | done ↦ false
    | breach t ps ↦ false
    | running res ↦ elim (some_too_early a d res) [ false ↦ false | true ↦ idle r (followed a r d) ]
    | stuck ↦ false
  ]
]

-- "a mark 'early', 1 or 0"
unfoldable pub mark_of : Bool → ℕ
mark_of true = 1
mark_of false = 0

-- ---- the words of the mark's claim; `soundness` proves that they say what is computed above
-- "at least one waiting unit", of which P says something by its place, its A and what is in sight
unfoldable pub SomeUnit : (ℕ → ℕ → Sight → Type 0) → Residue → Type 0
SomeUnit P (unit k p t e) = P p t e
SomeUnit P (both j l r) = SomeUnit P l ⊎ SomeUnit P r

-- it "wants this type, finds `where` true, and has a first later than the reading", in this order
pub record Awaits (a : Agreement) (d : Reading) (p t : ℕ) (e : Sight) : Type 0 where
  pub found : Found
  pub is_at : clause_at a p ≡ some found
  pub wait : Wait
  pub waits : wait_in found.clause ≡ some wait
  pub wants : wait.wanted ≡ d.type
  pub finds : eval_bool (e.values ++ d.values) wait.condition ≡ some true
  pub opens : Window
  pub is_opens : window e t wait ≡ some opens
  pub later : pos d.time <ℤ opens.first

-- what a proof by computation unfolds
unfoldable pub computes : Unit {0}
unfolding wait_in too_early some_too_early idle came_early mark_of
computes = tt
