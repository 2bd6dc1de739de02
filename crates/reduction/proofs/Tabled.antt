-- A table that shows a running run has the tree of units that the rules ask for.
use mathlib.Core.Path.{◌≡◌, refl, sym, ap, ◌∙◌, subst}
use mathlib.Core.Bool.{Bool, true, false}
use mathlib.Core.List.{List, [], ◌∷◌, ◌++◌, append_assoc}
use mathlib.Core.Option.{some}
use Prim.Native.Nat.{ℕ, ◌-◌, ◌*◌, ◌^◌, ◌≤◌, ◌<◌}
use native.Mathlib.Omega.{arith}
use borrow.Author.Tests.{leb-true, leb-false}
use lib.Dec.{T, leb, ltb}
use lib.IntN.{ℤ, pos}
use lib.ListN.{length, take-append-drop, take, drop, replicate, length-append}
use lib.Seq.{take_at, drop_at, drop-drop}
use Rattle.octets.proofs.Bytes.{record_end_within}
use Rattle.csl.specs.Bytes.{part, record_end, is_record}
use Rattle.csl.specs.Syntax.{Agreement, Clause, Join, and, or}
use Rattle.csl.specs.Decode.{agreement_of, heads_of, clause, clause_head, clause_body, whole, well_formed}
use Rattle.csl.specs.Check.{checked, accepted}
use Rattle.csl.specs.Outcomes.{Residue, Sight, Sort, an_obligation, a_choice, unit, both, units, running}
use Rattle.csl.specs.Table.{run_of, padded, nat_cells, cells_of, residue_cells, cells_of_unit, join_cells}
use Rattle.csl.specs.Table.{join_number, sort_number}
use Rattle.csl.specs.Demand3.{needed}
use Rattle.laws.proofs.Cells.{length_join, length_padded}
use Rattle.soundness.proofs.Checked.{passed}
use Rattle.soundness.proofs.Decoding.{decode_is}
use Rattle.soundness.proofs.Good.{Good, Ok, OkUnit}
use Rattle.soundness.proofs.RoundTrip.{units_length, len_nats, len_cells, len_typed}
use Rattle.soundness.proofs.Runs.{Since, cells_len, is_fair, run_at}
use Rattle.soundness.proofs.Moved.{units_behind, with_zeros}
use Rattle.soundness.proofs.ReadBack.{run_of_good, table_back}
use Rattle.laws.specs.Joins.{join_of}
use Rattle.cells.specs.Across.{nat_of}
use Rattle.cells.specs.Sights.{flat, join_as, sights_in}
use Rattle.cells.specs.declared.Sight.{Sight as Seen}
use Rattle.cells.specs.declared.Sight.TheVariants.{Joins}
use Rattle.cells.proofs.Sights.{flat-append}
use Rattle.places.proofs.Found.{found_is}
use Rattle.bridge.proofs.Across.{FoundIs, sight_at, sights_of}
use Rattle.walk.specs.Tree.{Waiting, Joining, TreeOf, Tree}
use Rattle.walk.specs.Ahead.{UnitsOf}
use Rattle.walk.proofs.Forecasts.{sights_count, tree_units}

-- ---- the place of a clause that is found lies within the agreement
no_clause_lem : (s : List ℕ) (p : ℕ) → T (whole (clause (heads_of s) 23 p [])) → ⊥
unfolding clause clause_head is_record clause_body whole
no_clause_lem s p u = u

place_within : (s : List ℕ) (p : ℕ) (c : Clause) → c ≡ clause (heads_of s) 23 p (part s p (record_end s p))
    → T (whole c) → p ≤ length s
place_within s p c e t = go (leb p (length s)) refl
  where
    go : (b : Bool) → leb p (length s) ≡ b → p ≤ length s
    go true g = leb-true p (length s) g
    go false g =
        let z : record_end s p - p ≡ 0 = omega (arith, record_end_within s p, leb-false p (length s) g) in
        let t' : T (whole (clause (heads_of s) 23 p (take (record_end s p - p) (drop p s)))) = rw e at t in
        let t'' : T (whole (clause (heads_of s) 23 p (take 0 (drop p s)))) = rw z at t' in
        absurd (no_clause_lem s p t'')

few_cells : (xs : List ℤ) → length (padded 16 xs) ≡ 16 → length xs ≤ 16
unfolding padded
few_cells xs e = omega (arith, length-append xs (replicate (16 - length xs) (pos 0)))

module _ (s mains : List ℕ) (ck : checked s ≡ accepted (agreement_of s) mains) where
  abbrev ag : Agreement
  ag = agreement_of s

  formed : T (well_formed s)
  formed = decode_is s ag (passed s ag mains ck).decodes λ w e. w

  pub founds : FoundIs s
  founds p f e = (found_is s p f formed e).0

  -- ---- one unit, and a residue's units in front of others
  module _ (now : ℕ) (small : now < 2 ^ 32) where
    few_values_lem : (k : Sort) (p a : ℕ) (e : Sight) (ps : List ℕ) → OkUnit ag (Since ag now) k p a e ps
        → length (cells_of e.values) ≤ 16
    unfolding cells_of_unit
    few_values_lem k p a e ps ok =
        let five = length_padded 5 (nat_cells e.params)
        (omega (arith, len_nats e.params, ok.sight.count, ok.sight.few_params)) in
        few_cells (cells_of e.values) (omega (
          arith,
          five,
          units_length ag (Since ag now) k p a e ps ok,
          length-append (padded 5 (nat_cells e.params)) (padded 16 (cells_of e.values)),
        ))

    sort_waits : (k : Sort) → ltb (sort_number k) 20 ≡ true
    unfolding sort_number
    sort_waits an_obligation = refl
    sort_waits a_choice = refl

    unit_waits : (k : Sort) (p a : ℕ) (e : Sight) (ps : List ℕ) → OkUnit ag (Since ag now) k p a e ps
        → Waiting (length s) (length e.params) (length e.values) (cells_of_unit k p a e)
    unfolding cells_of_unit nat_of
    unit_waits k p a e ps ok =
        let f = found_is s p ok.found formed ok.is_at in
        record {
          sort = sort_waits k;
          few_params = omega (arith, ok.sight.count, ok.sight.few_params);
          few_values = omega (arith, few_values_lem k p a e ps ok, len_cells e.values);
          bounded = place_within s p ok.found.clause f.0 f.1;
          dated = omega (arith, ok.when.1);
        }

    unit_tree : (k : Sort) (p a : ℕ) (e : Sight) (ps : List ℕ) (more : List Seen) (rest : List ℤ)
        → OkUnit ag (Since ag now) k p a e ps
        → TreeOf (length s) (unit k p a e) (sights_in (unit k p a e) ++ more) (cells_of_unit k p a e ++ rest)
    unfolding TreeOf sights_in
    unit_tree k p a e ps more rest ok =
        let l = units_length ag (Since ag now) k p a e ps ok in (
          omega (arith, length-append (cells_of_unit k p a e) rest, l),
          rw (take_at (cells_of_unit k p a e) rest 24 l) (unit_waits k p a e ps ok),
        )

    join_seen : (j : Join) → Joining (join_as j) (join_cells j)
    unfolding join_cells padded nat_of join_number join_of join_as
    join_seen and = record { sort = refl; is = refl }
    join_seen or = record { sort = refl; is = refl }

    join_tree : (j : Join) (l r : Residue) (more : List Seen) (rest : List ℤ) → TreeOf (length s) l more rest
        → TreeOf (length s) r (drop (units l) more) (drop (24 * units l) rest)
        → TreeOf (length s) (both j l r) (Joins (join_as j) (units l) ∷ more) (join_cells j ++ rest)
    unfolding TreeOf
    join_tree j l r more rest t v =
        let size = length_join j in
        let behind = drop_at (join_cells j) rest 24 size in (
          omega (arith, length-append (join_cells j) rest, size),
          rw (take_at (join_cells j) rest 24 size) (join_seen j),
          refl,
          rw behind t,
          rw (sym (drop-drop (24 * units l) 24 (join_cells j ++ rest)), behind) v,
        )

    residue_tree : (res : Residue) (ps : List ℕ) (more : List Seen) (rest : List ℤ) → Ok ag (Since ag now) res ps
        → TreeOf (length s) res (sights_in res ++ more) (residue_cells res ++ rest)
    unfolding Ok sights_in residue_cells
    residue_tree (unit k p a e) ps more rest ok = unit_tree k p a e ps more rest ok
    residue_tree (both j l r) ps more rest ok =
        let left = residue_tree l ok.0 (sights_in r ++ more) (residue_cells r ++ rest) ok.2 in
        let right = residue_tree r ok.1 more rest ok.3 in
        rw (
          append_assoc (sights_in l) (sights_in r) more,
          append_assoc (join_cells j) (residue_cells l ++ residue_cells r) rest,
          append_assoc (residue_cells l) (residue_cells r) rest,
        )
        (join_tree j l r (sights_in l ++ (sights_in r ++ more)) (residue_cells l ++ (residue_cells r ++ rest)) left
        (rw (
          drop_at (sights_in l) (sights_in r ++ more) (units l) (sights_count l),
          drop_at (residue_cells l) (residue_cells r ++ rest) (24 * units l)
              (cells_len ag (Since ag now) l ok.0 ok.2),
        ) right))

    -- the two numbers of each unit, as the residue has them
    sights_same : (res : Residue) (ps : List ℕ) → Ok ag (Since ag now) res ps → flat (sights_in res) ≡ sights_of ag res
    unfolding Ok sights_of sight_at sights_in flat
    sights_same (unit k p a e) ps ok = rw (
      ok.is_at,
      ok.sight.count,
      len_typed ag.parties ok.found.sight e.values ok.sight.values,
    ) refl
    sights_same (both j l r) ps ok = rw (
      flat-append (sights_in l) (sights_in r),
      sights_same l ok.0 ok.2,
      sights_same r ok.1 ok.3,
    ) refl

  -- ---- a table that shows a running run
  module _ (now m : ℕ) (res : Residue) (us : List ℤ) (l : length us ≡ 3080)
      (is : run_of ag mains us ≡ some (run_at now m (running res))) where
    units_there : drop 8 us ≡ with_zeros (residue_cells res)
    units_there = ap (drop 8) (sym (table_back ag mains us (run_at now m (running res)) is l)) ∙ units_behind now m res

    -- its units, as a forecast takes them
    pub has_units : UnitsOf (length s) res (drop 8 us)
    unfolding Good
    has_units =
        let inv = run_of_good ag mains us (run_at now m (running res)) (is_fair s ag mains ck) is in
        let tree = residue_tree now inv.fits res inv.good.0 [] _ inv.good.1 in
        subst (UnitsOf (length s) res) (sym units_there) (tree_units (length s) res [] _ tree)

    module _ (sights : List Seen) (taken : take (units res) sights ≡ sights_in res) where
      sighted : sights ≡ sights_in res ++ drop (units res) sights
      sighted = sym (take-append-drop (units res) sights) ∙ ap (λ x. x ++ drop (units res) sights) taken

      pub flat_sighted : flat sights ≡ sights_of ag res ++ flat (drop (units res) sights)
      unfolding Good
      flat_sighted =
          let inv = run_of_good ag mains us (run_at now m (running res)) (is_fair s ag mains ck) is in
          let more = drop (units res) sights in
          ap flat sighted ∙ flat-append (sights_in res) more
          ∙ ap (λ x. x ++ flat more) (sights_same now inv.fits res inv.good.0 inv.good.1)

      pub has_tree : Tree (length s) sights (drop 8 us) (units res)
      unfolding Good needed
      has_tree =
          let inv = run_of_good ag mains us (run_at now m (running res)) (is_fair s ag mains ck) is in
          record {
            residue = res;
            count = refl;
            few = inv.small;
            stands = subst (TreeOf (length s) res sights) (sym units_there)
                (subst (λ q. TreeOf (length s) res q (with_zeros (residue_cells res))) (sym sighted)
                (residue_tree now inv.fits res inv.good.0 (drop (units res) sights) _ inv.good.1));
          }
