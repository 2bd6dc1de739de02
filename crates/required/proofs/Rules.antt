-- The published rules: for every accepted and started agreement they derive one run over every list of readings and
-- no other,
-- and the entries' tables and forecasts are that run's.
use mathlib.Core.Path.{◌≡◌}
use mathlib.Core.Logic.{◌↔◌}
use mathlib.Core.List.{List, []}
use mathlib.Core.Option.{some}
use Prim.Native.Nat.{ℕ, ◌≤◌}
use lib.IntN.{ℤ}
use lib.ListN.{length}
use mathlib.Core.Bool.{false}
use Rattle.csl.specs.Syntax.{Agreement, Clause, Expr, Template, Ty, binary, conj, truth}
use Rattle.csl.specs.Typing.{has_type}
use Rattle.csl.specs.Values.{Val, bool}
use Rattle.csl.specs.Check.{accepted, checked}
use Rattle.csl.specs.Outcomes.{Outcome, Residue, Sight, running}
use Rattle.csl.specs.Rules.{Reading, activate, follow, forecast}
use Rattle.csl.specs.Run.{started}
use Rattle.csl.specs.Table.{table_of}
use Rattle.csl.specs.Entries.{forecast_of, shown, start_of}
use Rattle.csl.specs.Demand3.{AllBytes, Bytes, NotStuck, fitting, run_after}
use Rattle.soundness.proofs.Evaluation.{HaveTy}
use Rattle.published.specs.Fig6.{Evaluates}
use Rattle.published.specs.Fig8.{Activates, Follows, sight_of}
use Rattle.published.specs.Fig9.{Foretells}
use Rattle.published.specs.Runs.{Runs}
use Rattle.published.specs.Claim.{Only, Published, PublishedClaim, table_left}
use Rattle.published.proofs.Evaluations.{and_false_left, and_false_right}
use Rattle.published.proofs.Walking.{Guarded}
use Rattle.published.proofs.Residues.{activates_exactly, follows_exactly, foretells_exactly}
use Rattle.published.proofs.Published.{published}

module _ (bytes : List ℕ) (a : Agreement) (mains : List ℕ) (cells : List ℤ) (readings : List (List ℕ))
    (are : Bytes bytes) (all : AllBytes readings) (acc : checked bytes ≡ accepted a mains)
    (long : length cells ≡ 3080) (few : (started a).number ≡ 0) where
  claim : Published bytes a cells readings
  unfolding PublishedClaim
  claim = published bytes a mains cells readings are all acc long few

  one_run : (f : Outcome) × (t : ℕ) × (o : Outcome)
      × Activates a.templates (sight_of [] []) a.start a.main f × Runs a a.start f readings t o
      × (table_left bytes (start_of bytes cells).table readings ≡ table_of
      (record { last_time = t; last_moved = (run_after a (started a).run readings).last_moved; outcome = o }))
  one_run = (claim.first, claim.time, claim.last, claim.activated, claim.run, claim.table)

  no_other : (f o : Outcome) (t : ℕ)
      → Activates a.templates (sight_of [] []) a.start a.main f → Runs a a.start f readings t o
      → (f ≡ claim.first) × (t ≡ claim.time) × (o ≡ claim.last)
  no_other = claim.only

  one_step : (res : Residue) → claim.last ≡ running res
      → (b : List ℕ) (ε : Reading) → fitting a b ≡ some ε → claim.time ≤ ε.time → Only (Follows a ε res)
  one_step = claim.next

  one_verdict : (res : Residue) → claim.last ≡ running res
      → (ν : Outcome) × Foretells a res ν × ((q : Outcome) → Foretells a res q → q ≡ ν)
      × (forecast_of bytes (table_of (record {
        last_time = claim.time;
        last_moved = (run_after a (started a).run readings).last_moved;
        outcome = claim.last;
      })) ≡ shown ν)
  one_verdict = claim.ahead

-- where templates are guarded, the rules derive just what the definitions compute
activates_just : (D : List Template) → Guarded D → (c : Clause) (e : Sight) (a : ℕ) (o : Outcome)
    → Activates D e a c o ↔ ((activate D c e a ≡ o) × NotStuck o)
activates_just = activates_exactly

follows_just : (ag : Agreement) (r : Reading) → Guarded ag.templates → (res : Residue) (o : Outcome)
    → Follows ag r res o ↔ ((follow ag r res ≡ o) × NotStuck o)
follows_just = follows_exactly

foretells_just : (ag : Agreement) → Guarded ag.templates → (res : Residue) (o : Outcome)
    → Foretells ag res o ↔ ((forecast ag res ≡ o) × NotStuck o)
foretells_just = foretells_exactly

-- Fig. 6's own rules for `and`: it is false as soon as one side is, the other being typed
module _ (ps : ℕ) (ts : List Ty) (env : List Val) (typed : HaveTy ps ts env) (x y : Expr) (u : Unit {0}) where
  false_left : has_type ps ts y truth ≡ some u → Evaluates env x (bool false)
      → Evaluates env (binary conj x y) (bool false)
  false_left = and_false_left ps ts env typed x y u

  false_right : has_type ps ts x truth ≡ some u → Evaluates env y (bool false)
      → Evaluates env (binary conj x y) (bool false)
  false_right = and_false_right ps ts env typed x y u
