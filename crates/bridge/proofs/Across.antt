-- At every unit of a table the rules on cells show what csl's rules reckon of the residue, whatever is reckoned.
-- Main theorems: `across_shows` for any step and mode, `follow_across` for whole tables, and `follow_costs` for what a
-- reading costs.
use mathlib.Core.Bool.{cond}
use mathlib.Core.List.{List, [], ◌∷◌, ◌++◌, append_assoc}
use mathlib.Core.Option.{Option, none, some}
use mathlib.Core.Path.{ap, ap₂, refl, sym, ◌∙◌, ◌≡◌}
use Prim.Native.Nat.{◌+◌, ◌-◌, suc, ℕ}
use native.Mathlib.Omega.{arith}
use lib.Dec.{ltb}
use lib.IntN.{pos, ℤ}
use lib.ListN.{drop, get_or, length, replicate, take, get_or-append}
use lib.Seq.{drop_at, take_at}
use Rattle.csl.specs.Bytes.{part, record_end}
use Rattle.csl.specs.Syntax.{Agreement, Clause, Join, and, or}
use Rattle.csl.specs.Decode.{agreement_of, clause, heads_of}
use Rattle.laws.specs.Joins.{join_of}
use Rattle.csl.specs.Outcomes.{Residue, Sight, Sort, a_choice, an_obligation, both, running, unit, units}
use Rattle.csl.specs.Places.{Found, clause_at}
use Rattle.csl.specs.Windows.{Reading}
use Rattle.csl.specs.Reckoning as Open
use Rattle.csl.specs.Reckoning.{Reckoning, StepOf}
use Rattle.csl.specs.Cost.{follow_cost, total}
use Rattle.csl.specs.Table.{cells_of, join_cells, join_number, nat_cells, padded, residue_cells, run_of}
use Rattle.csl.specs.Table.{sort_number, table_of, cells_of_unit}
use Rattle.laws.proofs.Cells.{length_join, length_padded}
use Rattle.soundness.proofs.Good.{Good, Ok, OkUnit}
use Rattle.soundness.proofs.Walks.{Fair}
use Rattle.soundness.proofs.Following.{ReadingOk}
use Rattle.soundness.proofs.RoundTrip.{len_cells, len_nats, len_typed, units_length}
use Rattle.soundness.proofs.Runs.{Inv, Since, run_at}
use Rattle.soundness.proofs.Moved.{units_behind, with_zeros}
use Rattle.soundness.proofs.ReadBack.{run_of_good, table_back}
use Rattle.cells.specs.Reduce.{Mode, Reckoned}
use Rattle.cells.specs.Reduce as cells
use Rattle.cells.specs.Across as table
use Rattle.cells.specs.Across.{nat_of, unit_reckoned}
use Rattle.bridge.proofs.Shows.{Matches, match_bind, tallies_match}
use Rattle.bridge.proofs.Reduce.{Shown, follow_shows}

-- ---- the numbers of party parameters and of values in sight, unit by unit; a join has the number of its left side's
-- units and 0
unfoldable pub sight_at : Option Found → List ℕ
sight_at none = 0 ∷ 0 ∷ []
sight_at (some f) = f.params ∷ length f.sight ∷ []

unfoldable pub sights_of : Agreement → Residue → List ℕ
sights_of ag (unit s p a e) = sight_at (clause_at ag p)
sights_of ag (both j l r) = units l ∷ 0 ∷ (sights_of ag l ++ sights_of ag r)

-- a clause that is found is what the bytes at its place decode to
abbrev pub FoundIs : List ℕ → Type 0
FoundIs s = (p : ℕ) (f : Found) → clause_at (agreement_of s) p ≡ some f
    → f.clause ≡ clause (heads_of s) 23 p (part s p (record_end s p))

-- ---- F is asked of the units of a table: `by` makes it of the first one's sort number, its two numbers of sight, its
-- cells, and what F gives for the units behind it
module _ {X : Type 0} (F : ℕ → List ℕ → List ℤ → X) (by : ℕ → ℕ → ℕ → List ℤ → X → X)
    (steps : (n : ℕ) (sights : List ℕ) (cs : List ℤ) → F (suc n) sights cs ≡ by (nat_of (get_or cs 0 (pos 0)))
    (get_or sights 0 0) (get_or sights 1 0) (take 24 cs) (F n (drop 2 sights) (drop 24 cs))) where
  first_unit : (n params values : ℕ) (sights : List ℕ) (us rest : List ℤ) (i : ℕ) → length us ≡ 24
      → nat_of (get_or us 0 (pos 0)) ≡ i
      → F (suc n) (params ∷ values ∷ sights) (us ++ rest) ≡ by i params values us (F n sights rest)
  first_unit n params values sights us rest i l e = steps n (params ∷ values ∷ sights) (us ++ rest)
      ∙ ap₂ (λ k u. by k params values u (F n sights (drop 24 (us ++ rest))))
      (ap nat_of (get_or-append us rest (pos 0) 0 (omega arith)) ∙ e) (take_at us rest 24 l)
      ∙ ap (λ v. by i params values us (F n sights v)) (drop_at us rest 24 l)

  module _ (ag : Agreement) where
    pub unit_first : (W : ℕ → Type 0) (k : Sort) (p a : ℕ) (e : Sight) (ps : List ℕ) (ok : OkUnit ag W k p a e ps)
        (n : ℕ) (sights : List ℕ) (rest : List ℤ)
        → F (1 + n) (sight_at (clause_at ag p) ++ sights) (cells_of_unit k p a e ++ rest) ≡ by (sort_number k)
        ok.found.params (length ok.found.sight) (cells_of_unit k p a e) (F n sights rest)
    unfolding sight_at nat_of cells_of_unit
    unit_first W k p a e ps ok n sights rest =
        let one : 1 + n ≡ suc n = omega arith in
        ap₂ (λ i o. F i (sight_at o ++ sights) (cells_of_unit k p a e ++ rest)) one ok.is_at
        ∙ first_unit n ok.found.params (length ok.found.sight) sights (cells_of_unit k p a e) rest (sort_number k)
        (units_length ag W k p a e ps ok) refl

    -- a join's left side stands behind it, then its right side
    pub join_first : (j : Join) (l r : Residue) (n : ℕ) (sights : List ℕ) (rest : List ℤ)
        → F (1 + units l + units r + n) (units l ∷ 0 ∷ ((sights_of ag l ++ sights_of ag r) ++ sights))
        ((join_cells j ++ (residue_cells l ++ residue_cells r)) ++ rest) ≡ by (join_number j) (units l) 0 (join_cells j)
        (F (units l + (units r + n)) (sights_of ag l ++ (sights_of ag r ++ sights))
        (residue_cells l ++ (residue_cells r ++ rest)))
    unfolding nat_of join_cells padded
    join_first j l r n sights rest =
        let count : 1 + units l + units r + n ≡ suc (units l + (units r + n)) = omega arith in
        ap₂ (λ i o. F i (units l ∷ 0 ∷ o) ((join_cells j ++ (residue_cells l ++ residue_cells r)) ++ rest)) count
        (append_assoc (sights_of ag l) (sights_of ag r) sights)
        ∙ ap (F (suc (units l + (units r + n))) (units l ∷ 0 ∷ (sights_of ag l ++ (sights_of ag r ++ sights))))
        (append_assoc (join_cells j) (residue_cells l ++ residue_cells r) rest
        ∙ ap (λ x. join_cells j ++ x) (append_assoc (residue_cells l) (residue_cells r) rest))
        ∙ first_unit (units l + (units r + n)) (units l) 0 (sights_of ag l ++ (sights_of ag r ++ sights)) (join_cells j)
        (residue_cells l ++ (residue_cells r ++ rest)) (join_number j) (length_join j) refl

-- all units of a running run's table, which stand in front of zeros
pub whole_table : {X : Type 0} (F : ℕ → List ℕ → List ℤ → X) (now moved : ℕ) (res : Residue) (sights : List ℕ)
    (us : List ℤ) → table_of (run_at now moved (running res)) ≡ us
    → F (units res) sights (drop 8 us) ≡ F (units res + 0) sights (with_zeros (residue_cells res))
whole_table F now moved res sights us e =
    let none_more : units res ≡ units res + 0 = omega arith in
    ap₂ (λ i o. F i sights o) none_more (ap (drop 8) (sym e) ∙ units_behind now moved res)

-- a unit's sort number is below 20, a join's is 20 or 21
pub by_sort : {X : Type 0} (k : Sort) (x y : X) → cond (ltb (sort_number k) 20) x y ≡ x
unfolding sort_number
by_sort an_obligation x y = refl
by_sort a_choice x y = refl

pub by_join : {X : Type 0} (j : Join) (x y : X) → cond (ltb (join_number j) 20) x y ≡ y
unfolding join_number
by_join and x y = refl
by_join or x y = refl

join_is : (j : Join) → join_of (join_number j) ≡ j
unfolding join_number join_of
join_is and = refl
join_is or = refl

-- ---- a unit's clause, its parameters, the values in sight and since when it waits, as its cells have them
abbrev pub unit_by : {X : Type 0} → (Clause → List ℤ → List ℤ → ℕ → X) → List ℕ → ℕ → ℕ → List ℤ → X
unit_by f s params values cs =
    let p = nat_of (get_or cs 1 (pos 0)) in
    f (clause (heads_of s) 23 p (part s p (record_end s p))) (take params (drop 3 cs)) (take values (drop 8 cs))
    (nat_of (get_or cs 2 (pos 0)))

pub unit_values : {X : Type 0} (f : Clause → List ℤ → List ℤ → ℕ → X) (s : List ℕ) → FoundIs s → (W : ℕ → Type 0)
    (k : Sort) (p a : ℕ) (e : Sight) (ps : List ℕ) (ok : OkUnit (agreement_of s) W k p a e ps)
    → unit_by f s ok.found.params (length ok.found.sight) (cells_of_unit k p a e) ≡ f ok.found.clause
    (nat_cells e.params) (cells_of e.values) a
unfolding nat_of cells_of_unit padded
unit_values f s found W k p a e ps ok = rw (← (found p ok.found ok.is_at))
    (ap₂ (λ qs vs. f ok.found.clause qs vs a) params values)
  where
    few : length (nat_cells e.params) ≡ ok.found.params
    few = len_nats e.params ∙ ok.sight.count

    params : take ok.found.params (padded 5 (nat_cells e.params)
        ++ padded 16 (cells_of e.values)) ≡ nat_cells e.params
    params = ap (take ok.found.params)
        (append_assoc (nat_cells e.params) (replicate (5 - length (nat_cells e.params)) (pos 0))
        (padded 16 (cells_of e.values))) ∙ take_at (nat_cells e.params) _ ok.found.params few

    values : take (length ok.found.sight)
        (drop 5 (padded 5 (nat_cells e.params) ++ padded 16 (cells_of e.values))) ≡ cells_of e.values
    values = ap (take (length ok.found.sight))
        (drop_at (padded 5 (nat_cells e.params)) (padded 16 (cells_of e.values)) 5
        (length_padded 5 (nat_cells e.params) (omega (arith, few, ok.sight.few_params))))
        ∙ take_at (cells_of e.values) _ (length ok.found.sight)
        (len_cells e.values ∙ len_typed _ ok.found.sight e.values ok.sight.values)

-- ---- what becomes of the first unit by a mode
abbrev across_by : Mode → List ℕ → ℕ → ℕ → ℕ → List ℤ → List Reckoned → List Reckoned
across_by m s i params values us rs = cond (ltb i 20) (unit_reckoned m s params values us ∷ rs)
    (table.join_first_two (join_of i) rs)

across_steps : (m : Mode) (s : List ℕ) (n : ℕ) (sights : List ℕ) (cs : List ℤ)
    → table.across m s (suc n) sights cs ≡ across_by m s (nat_of (get_or cs 0 (pos 0))) (get_or sights 0 0)
    (get_or sights 1 0)
    (take 24 cs) (table.across m s n (drop 2 sights) (drop 24 cs))
unfolding table.across
across_steps m s n sights cs = refl

-- a step, whatever is reckoned
abbrev StepFor : Type 1
StepFor = (A : Type 0) → Reckoning A → StepOf A

-- what the units of a residue, in front of others, give by a mode; it shows what is reckoned of the residue in csl
pub record Gives (m : Mode) (s : List ℕ) (st : StepFor) (res : Residue) (n : ℕ) (sights : List ℕ) (rest : List ℤ) : Type
    1 where
  pub given : Reckoned
  pub first : table.across m s (units res + n) (sights_of (agreement_of s) res ++ sights)
      (residue_cells res ++ rest) ≡ given ∷ table.across m s n sights rest
  pub shown : {A : Type 0} {g : Reckoning A} {R : A → Reckoned → Type 0} → Matches g R
      → R (Open.across g (st A g) (agreement_of s) res) given

-- the same of all the units of a table us
pub record Whole (m : Mode) (s : List ℕ) (st : StepFor) (res : Residue) (sights : List ℕ) (us : List ℤ) : Type 1 where
  pub given : Reckoned
  pub only : table.across m s (units res) (sights_of (agreement_of s) res ++ sights) (drop 8 us) ≡ given ∷ []
  pub shown : {A : Type 0} {g : Reckoning A} {R : A → Reckoned → Type 0} → Matches g R
      → R (Open.across g (st A g) (agreement_of s) res) given

module _ (s mains : List ℕ) (fair : Fair (agreement_of s) mains) (found : FoundIs s) where
  abbrev ag : Agreement
  ag = agreement_of s

  -- ---- any step and mode: Q says since when a unit waits
  module _ (Q : ℕ → Type 0) (st : StepFor) (m : Mode)
      (shows : (A : Type 0) (g : Reckoning A) (R : A → Reckoned → Type 0) → Matches g R
      → Shown g R ag (st A g) (cells.reduce m ag.templates)) where
    pub across_shows : (res : Residue) (ps : List ℕ) (n : ℕ) (sights : List ℕ) (rest : List ℤ) → Ok ag Q res ps
        → Gives m s st res n sights rest
    unfolding Ok units sights_of residue_cells Open.across Open.or_stops unit_reckoned table.join_first_two
    across_shows (unit k p a e) ps n sights rest ok = record {
      given = cells.reduce m ag.templates ok.found.clause (nat_cells e.params) (cells_of e.values) a;
      first = unit_first (table.across m s) (across_by m s) (across_steps m s) ag Q k p a e ps ok n sights rest
          ∙ by_sort k _ _
          ∙ ap (λ x. x ∷ table.across m s n sights rest)
          (unit_values (cells.reduce m ag.templates) s found Q k p a e ps ok);
      shown = λ {A} {g} {R} z. match_bind g R (clause_at ag p) _ ok.found _ ok.is_at
          (shows A g R z ok.found.clause ok.found.params ok.found.sight e a ok.blames ok.sight
          ok.typed ok.placed);
    }
    across_shows (both j l r) ps n sights rest ok =
        let right = across_shows r ok.1 n sights rest ok.3 in
        let left = across_shows l ok.0 (units r + n) (sights_of ag r ++ sights) (residue_cells r ++ rest) ok.2 in
        record {
          given = cells.reaches (cells.joins j left.given right.given);
          first = join_first (table.across m s) (across_by m s) (across_steps m s) ag j l r n sights rest
              ∙ by_join j _ _
              ∙ ap₂ table.join_first_two (join_is j) (left.first ∙ ap (λ o. left.given ∷ o) right.first);
          shown = λ z. z.reaches _ _ (z.joins j _ _ _ _ (left.shown z) (right.shown z));
        }

    -- all units of a running run's table, whatever sights stand behind theirs
    whole_shows : (now moved : ℕ) (res : Residue) (ps sights : List ℕ) (us : List ℤ) → Ok ag Q res ps
        → table_of (run_at now moved (running res)) ≡ us → Whole m s st res sights us
    unfolding table.across
    whole_shows now moved res ps sights us ok e =
        let g = across_shows res ps 0 sights (replicate (3072 - length (residue_cells res)) (pos 0)) ok in
        record {
          given = g.given;
          only = whole_table (table.across m s) now moved res (sights_of ag res ++ sights) us e ∙ g.first;
          shown = g.shown;
        }

  -- ---- the table of a run
  module _ (now moved : ℕ) (res : Residue) (us : List ℤ) (l : length us ≡ 3080)
      (is : run_of ag mains us ≡ some (run_at now moved (running res))) (sights : List ℕ) where
    inv : Inv ag mains now moved (running res)
    inv = run_of_good ag mains us (run_at now moved (running res)) fair is

    pub follow_across : (d : Reading) → ReadingOk ag d
        → Whole (cells.following d.time d.type (cells_of d.values)) s
        (λ A g. Open.following g ag.templates d) res sights us
    unfolding Good
    follow_across d rok =
        whole_shows (Since ag now) (λ A g. Open.following g ag.templates d) _
        (λ A g R z. follow_shows z ag mains fair d rok)
        now moved res inv.good.0 sights us inv.good.1
        (table_back ag mains us (run_at now moved (running res)) is l)

    -- what is counted on cells is what the reading costs
    pub follow_costs : (d : Reading) (rok : ReadingOk ag d)
        → total (follow_across d rok).given.tally ≡ follow_cost ag d res
    unfolding follow_cost Open.follow
    follow_costs d rok = ap total (sym ((follow_across d rok).shown tallies_match))
