-- Laws for a forecast: a running run's units come to what the rules on cells give of them, none of which waits on; a
-- fulfilled run comes to nothing, and a breached one has come to its breach.
use mathlib.Core.Path.{◌≡◌, refl, sym, ap, subst, ◌∙◌}
use mathlib.Core.List.{List}
use mathlib.Core.Option.{some}
use Prim.Native.Nat.{ℕ, ◌≤◌, ◌<◌, ◌^◌}
use native.Mathlib.Omega.{arith}
use lib.Dec.{T}
use lib.IntN.{ℤ, nat_abs, pos}
use lib.Signed.{mag, non_neg}
use mir.Syntax.{w64}
use mir.Val.{Fits}
use lib.ListN.{drop, get_or, length, take}
use Rattle.std.specs.Prelude.{None, Option, Some, unsigned_abs}
use Rattle.csl.specs.Parties.{bits_of}
use Rattle.csl.specs.Syntax.{Agreement}
use Rattle.csl.specs.Decode.{agreement_of}
use Rattle.csl.specs.Check.{Accepted, accepted, checked, mains_of}
use Rattle.csl.specs.Outcomes.{Outcome, Residue, breach, done, running, stuck, units}
use Rattle.csl.specs.Table.{head_cells, nat_cells, padded, table_length, table_of}
use Rattle.csl.specs.Entries as entries
use Rattle.csl.specs.Entries.{forecast_of}
use Rattle.csl.specs.Demand3.{needed}
use Rattle.soundness.proofs.Good.{Good}
use Rattle.soundness.proofs.Runs.{InvOf, is_fair, run_at}
use Rattle.soundness.proofs.ReadBack.{run_of_good, table_back}
use Rattle.arith.proofs.Ints.{read!, seen}
use Rattle.kinds.specs.Kinds.{state_cell}
use Rattle.kinds.specs.declared.RunState.{RunState}
use Rattle.kinds.specs.declared.RunState.TheVariants as state
use Rattle.cells.specs.Reduce as cells
use Rattle.cells.specs.Ahead.{ahead}
use Rattle.bridge.proofs.Ahead.{ahead_shows, foretold}
use Rattle.bridge.proofs.Entries.{forecast_breach, forecast_done}
use Rattle.parties.specs.declared.breach.Breach.{Breach}
use Rattle.walk.specs.Ahead.{SomeUnits, Tells, UnitsOf}
use Rattle.laws.proofs.Integers.{pos_inj}
use Rattle.reduction.proofs.Advances.{behind_head}
use Rattle.reduction.proofs.Tabled.{founds, has_units}
use Rattle.state.specs.Shown.{run_in}
use Rattle.monitor.specs.Steps.{Shown}
use Rattle.monitor.proofs.Begins.{short}

-- a natural number in a cell, as the code casts it
pub cast_fits : {z : ℤ} {n : ℕ} → mag z < 2 ^ 63 → z ≡ pos n → T (non_neg (seen z)) × Fits w64 (nat_abs (seen z))
cast_fits {z} {n} h e = let few : n < 2 ^ 63 = rw e at h in
    rw (read! {z = z} h ∙ e) (tt, record { fits = omega (arith, few) })

-- no two numbers stand in one cell
other : {A : Type 0} {m n : ℕ} → pos m ≡ pos n → (m ≡ n → ⊥) → A
other e f = absurd (f (pos_inj e))

-- ---- what a table's head says of the run that it shows
pub data Shows (s : List ℕ) (us : List ℤ) : Type 0 where
  runs : (now m : ℕ) (res : Residue) → run_in s us ≡ some (run_at now m (running res)) → get_or us 0 (pos 0) ≡ pos 1
      → units res ≤ 128 → Shows s us
  ended : forecast_of s us ≡ entries.no_breach → get_or us 0 (pos 0) ≡ pos 2 → Shows s us
  broke : (t b : ℕ) → forecast_of s us ≡ entries.breach_at t b → get_or us 0 (pos 0) ≡ pos 3
      → get_or us 2 (pos 0) ≡ pos t → get_or us 3 (pos 0) ≡ pos b → Shows s us

-- a running run's units, which come to the forecast; none of them waits on
pub record RunsOn (s : List ℕ) (us : List ℤ) : Type 0 where
  pub residue : Residue
  pub units : SomeUnits (length s) (drop 8 us)
  pub stands : UnitsOf (length s) residue (drop 8 us)
  pub comes : forecast_of s us ≡ foretold (ahead s residue (drop 8 us))
  pub ends : (cs : List ℤ) → ahead s residue (drop 8 us) ≡ cells.running cs → ⊥

-- a breach, as the head has it
pub record BrokeAs (s : List ℕ) (us : List ℤ) : Type 0 where
  pub time : ℕ
  pub bits : ℕ
  pub tells : forecast_of s us ≡ entries.breach_at time bits
  pub is_time : get_or us 2 (pos 0) ≡ pos time
  pub is_bits : get_or us 3 (pos 0) ≡ pos bits

-- ---- what the units of a running run come to, as the code has them
module _ (s : List ℕ) (us : List ℤ) (l : length us ≡ table_length) (r : RunsOn s us) {a : List ℕ} (same : a ≡ s) where
  pub units_there : SomeUnits (length a) (take 3072 (drop 8 us))
  units_there = rw (same, behind_head us l) r.units

  module _ (x : Option Breach) (says : (res : Residue) → UnitsOf (length a) res (take 3072 (drop 8 us))
      → Tells (ahead a res (take 3072 (drop 8 us))) x) where
    told_of_units : Tells (ahead s r.residue (drop 8 us)) x
    told_of_units = (rw (same, behind_head us l) at says) r.residue r.stands

    pub none_ahead : x ≡ None → entries.no_breach ≡ forecast_of s us
    unfolding Tells foretold
    none_ahead e = go (ahead s r.residue (drop 8 us)) refl (subst (Tells _) e told_of_units)
      where
        go : (y : cells.Reduced) → ahead s r.residue (drop 8 us) ≡ y → Tells y None
            → entries.no_breach ≡ forecast_of s us
        go cells.done f h = sym (r.comes ∙ ap foretold f)
        go (cells.breach u b) f h = absurd h
        go (cells.running cs) f h = absurd (r.ends cs f)

    pub breach_ahead : (b : Breach) → x ≡ Some b → entries.breach_at (unsigned_abs b.time) b.parties ≡ forecast_of s us
    unfolding Tells foretold
    breach_ahead b e = go (ahead s r.residue (drop 8 us)) refl (subst (Tells _) e told_of_units)
      where
        go : (y : cells.Reduced) → ahead s r.residue (drop 8 us) ≡ y → Tells y (Some b)
            → entries.breach_at (unsigned_abs b.time) b.parties ≡ forecast_of s us
        go cells.done f h = absurd h
        go (cells.breach u c) f h = rw (h.0, h.1) (sym (r.comes ∙ ap foretold f))
        go (cells.running cs) f h = absurd (r.ends cs f)

module _ (s : List ℕ) (ok : Accepted s) (us : List ℤ) (l : length us ≡ table_length) (shown : Shown s us) where
  abbrev ag : Agreement
  ag = agreement_of s

  abbrev ck : checked s ≡ accepted ag (mains_of s)
  ck = ok.is

  inv : InvOf s ag (mains_of s) ck shown.0
  inv = run_of_good ag (mains_of s) us shown.0 (is_fair s ag (mains_of s) ck) shown.1

  shows : Shows s us
  unfolding Good needed table_of padded head_cells nat_cells
  shows = go shown.0.outcome refl
    where
      now : ℕ
      now = shown.0.last_time

      m : ℕ
      m = shown.0.last_moved

      at_run : {o : Outcome} → shown.0.outcome ≡ o → run_in s us ≡ some (run_at now m o)
      at_run e = shown.1 ∙ ap (λ o. some (run_at now m o)) e

      cell : (i : ℕ) {o : Outcome} → shown.0.outcome ≡ o
          → get_or us i (pos 0) ≡ get_or (table_of (run_at now m o)) i (pos 0)
      cell i e = ap (λ cells. get_or cells i (pos 0)) (sym (table_back ag (mains_of s) us shown.0 shown.1 l))
          ∙ ap (λ o. get_or (table_of (run_at now m o)) i (pos 0)) e

      go : (o : Outcome) → shown.0.outcome ≡ o → Shows s us
      go done e = ended (forecast_done s (mains_of s) ck us l now m (at_run e)) (cell 0 e)
      go (breach t ps) e = broke t (bits_of ps) (forecast_breach s (mains_of s) ck us l now m t ps (at_run e))
          (cell 0 e) (cell 2 e) (cell 3 e)
      go (running res) e = runs now m res (at_run e) (cell 0 e)
          (subst (λ o. needed o ≤ 128) e inv.small)
      go stuck e = absurd (subst (Good ag _ (mains_of s)) e inv.good)

  -- ---- by the state cell
  runs_on : (now m : ℕ) (res : Residue) → run_in s us ≡ some (run_at now m (running res)) → units res ≤ 128
      → RunsOn s us
  runs_on now m res is few =
      let f = founds s (mains_of s) ck in
      let stands = has_units s (mains_of s) ck now m res us l is in
      let x = ahead_shows s (mains_of s) ck f now m res us l is in
      record {
        residue = res;
        units = record { residue = res; few = few; stands = stands };
        stands = stands;
        comes = x.0;
        ends = x.1;
      }

  pub by_state : {A : Type 0} → (get_or us 0 (pos 0) ≡ pos 1 → RunsOn s us → A)
      → (get_or us 0 (pos 0) ≡ pos 2 → forecast_of s us ≡ entries.no_breach → A)
      → (get_or us 0 (pos 0) ≡ pos 3 → BrokeAs s us → A) → A
  by_state {A = A} f g h = go shows
    where
      go : Shows s us → A
      go (runs now m res is c few) = f c (runs_on now m res is few)
      go (ended e c) = g c e
      go (broke t b e c c₂ c₃) = h c (record { time = t; bits = b; tells = e; is_time = c₂; is_bits = c₃ })

  -- the units, where the state cell is 1
  pub runs_there : pos 1 ≡ get_or us 0 (pos 0) → RunsOn s us
  runs_there e = by_state (λ c r. r) (λ c h. other {n = 2} (e ∙ c) (omega arith))
      (λ c h. other {n = 3} (e ∙ c) (omega arith))

  -- the breach in the head, where it is 3
  pub broke_there : pos 3 ≡ get_or us 0 (pos 0) → BrokeAs s us
  broke_there e = by_state (λ c r. other {n = 1} (e ∙ c) (omega arith)) (λ c h. other {n = 2} (e ∙ c) (omega arith))
      (λ c h. h)

  -- none, where it is 2, or is no state's, which does not occur
  pub ended_there : pos 2 ≡ get_or us 0 (pos 0) → entries.no_breach ≡ forecast_of s us
  ended_there e = by_state (λ c r. other {n = 1} (e ∙ c) (omega arith)) (λ c h. sym h)
      (λ c h. other {n = 3} (e ∙ c) (omega arith))

  pub state_there : ((state : RunState) → state_cell state ≡ get_or us 0 (pos 0) → ⊥) → ⊥
  state_there f = by_state (λ c r. f state.Running (sym c)) (λ c h. f state.Fulfilled (sym c))
      (λ c h. f state.Breached (sym c))

pub ruleset foretelling = (short)
