-- Whether some unit of a table opens later than a reading is on cells what csl judges by the residue, since a typed
-- wait has there the same window and the same truth of `where`.
-- Main theorems: `some_opens_later`, and `whole_opens_later` for a whole table.
use mathlib.Core.Bool.{Bool, cond, false, true, ◌&&◌, ◌||◌}
use mathlib.Core.List.{List, ◌++◌}
use mathlib.Core.Option.{Option, some}
use mathlib.Core.Path.{ap, ap₂, refl, sym, ◌∙◌, ◌≡◌}
use Prim.Native.Nat.{◌+◌, suc, ℕ}
use lib.Dec.{eqb, ltb}
use lib.IntN.{pos, ℤ}
use lib.ListN.{drop, get_or, length, take}
use lib.Signed.{lt_z}
use Rattle.csl.specs.Lists.{◌>>=◌, need, there}
use Rattle.csl.specs.Syntax.{Agreement, Clause, Ty, Wait, bad_clause, choice, fulfilled, if, instance, join, obligation}
use Rattle.csl.specs.Decode.{agreement_of}
use Rattle.csl.specs.Typing.{names_of, type_clause, type_wait}
use Rattle.csl.specs.Values.{eval_bool}
use Rattle.csl.specs.Outcomes.{Residue, Sight, Sort, both, running, unit, units}
use Rattle.csl.specs.Places.{clause_at}
use Rattle.csl.specs.Rules.{Reading, window}
use Rattle.csl.specs.Table.{cells_of, residue_cells, run_of, cells_of_unit}
use Rattle.csl.specs.Early.{some_too_early, too_early, wait_in}
use Rattle.laws.proofs.Bools.{true→T}
use Rattle.laws.proofs.Options.{some_bind}
use Rattle.soundness.proofs.Good.{Good, Ok, OkUnit, SightOk}
use Rattle.soundness.proofs.Walks.{Fair}
use Rattle.soundness.proofs.Following.{ReadingOk}
use Rattle.soundness.proofs.Runs.{Since, run_at}
use Rattle.soundness.proofs.ReadBack.{run_of_good, table_back}
use Rattle.soundness.proofs.Early.{typed_wait}
use Rattle.cells.specs.Evaluate.{eval_cells, is_true_cell}
use Rattle.cells.specs.Reduce as cells
use Rattle.cells.specs.Across as table
use Rattle.cells.specs.Across.{nat_of}
use Rattle.bridge.proofs.Reduce.{where_cells, window_cells}
use Rattle.bridge.proofs.Across.{FoundIs, by_join, by_sort, join_first, sights_of, unit_first, unit_values}
use Rattle.bridge.proofs.Across.{whole_table}

or_false : (x : Bool) → (x || false) ≡ x
or_false true = refl
or_false false = refl

or_assoc : (x y z : Bool) → (x || (y || z)) ≡ ((x || y) || z)
or_assoc true y z = refl
or_assoc false y z = refl

module _ (s mains : List ℕ) (fair : Fair (agreement_of s) mains) (found : FoundIs s) (d : Reading)
    (rok : ReadingOk (agreement_of s) d) where
  abbrev ag : Agreement
  ag = agreement_of s

  abbrev clause_later : Clause → List ℤ → ℕ → Bool
  clause_later = table.clause_opens_later d.time d.type (cells_of d.values)

  -- ---- one wait
  module _ (n : ℕ) (env : List Ty) (e : Sight) (a : ℕ) (ok : SightOk ag n env e) where
    -- what is asked of it, where x says whether it wants the reading's type
    abbrev asked : Bool → Wait → Option (Unit {0})
    asked x w = do
      _ ← need x
      b ← eval_bool (e.values ++ d.values) w.condition
      _ ← need b
      v ← window e a w
      need (lt_z (pos d.time) v.first)

    wait_later : (w : Wait) (vs : List Ty) → type_wait (names_of ag n) env w ≡ some vs
        → there (asked (eqb w.wanted d.type) w) ≡ cells.opens_later (cells_of e.values) a w d.time d.type
        (cells_of d.values)
    unfolding cells.opens_later cells.takes cells.window_of need there ◌>>=◌
    wait_later w vs tw = wanted (eqb w.wanted d.type) refl
      where
        condition : Bool
        condition = is_true_cell (eval_cells (cells_of e.values ++ cells_of d.values) w.condition)

        later : Bool
        later = lt_z (pos d.time) (cells.first_of (cells_of e.values) a w)

        needs : (b c : Bool) → there (need b >>= λ _. need c) ≡ (b && c)
        needs true true = refl
        needs true false = refl
        needs false c = refl

        wanted : (x : Bool) → eqb w.wanted d.type ≡ x → there (asked x w) ≡ ((x && condition) && later)
        wanted true q = rw (
          where_cells ag fair.few n env e w vs ok tw d rok (true→T q),
          (window_cells ag fair.few n env e w vs ok tw a).0,
        ) (needs condition later)
        wanted false q = refl

    clause_later_lem : (c : Clause) (bs : List ℕ) → type_clause (names_of ag n) env c ≡ some bs
        → there (wait_in c >>= λ w. asked (eqb w.wanted d.type) w) ≡ clause_later c (cells_of e.values) a
    unfolding wait_in table.clause_opens_later there ◌>>=◌
    clause_later_lem fulfilled bs ty = refl
    clause_later_lem (obligation b w t) bs ty = typed_wait ag n env (obligation b w t) w bs refl ty (wait_later w)
    clause_later_lem (choice w t f) bs ty = typed_wait ag n env (choice w t f) w bs refl ty (wait_later w)
    clause_later_lem (if c t f) bs ty = refl
    clause_later_lem (join j t f) bs ty = refl
    clause_later_lem (instance k es cs) bs ty = refl
    clause_later_lem bad_clause bs ty = refl

  -- ---- the units of a residue, in front of others
  abbrev later : ℕ → List ℕ → List ℤ → Bool
  later = table.some_open_later d.time d.type (cells_of d.values) s

  abbrev later_by : ℕ → ℕ → ℕ → List ℤ → Bool → Bool
  later_by i params values us b =
      cond (ltb i 20) (table.unit_opens_later d.time d.type (cells_of d.values) s values us) false || b

  later_steps : (n : ℕ) (sights : List ℕ) (cs : List ℤ) → later (suc n) sights cs ≡ later_by
      (nat_of (get_or cs 0 (pos 0)))
      (get_or sights 0 0) (get_or sights 1 0) (take 24 cs) (later n (drop 2 sights) (drop 24 cs))
  unfolding table.some_open_later
  later_steps n sights cs = refl

  module _ (Q : ℕ → Type 0) where
    unit_later : (k : Sort) (p a : ℕ) (e : Sight) (ps : List ℕ) (ok : OkUnit ag Q k p a e ps)
        → table.unit_opens_later d.time d.type (cells_of d.values) s (length ok.found.sight)
        (cells_of_unit k p a e) ≡ there (too_early ag d p a e)
    unfolding table.unit_opens_later too_early
    unit_later k p a e ps ok =
        unit_values (λ c qs vs u. clause_later c vs u) s found Q k p a e ps ok
        ∙ sym (clause_later_lem ok.found.params ok.found.sight e a ok.sight ok.found.clause ok.blames
        ok.typed)
        ∙ sym (ap there (some_bind (clause_at ag p) _ ok.found ok.is_at))

    pub some_opens_later : (res : Residue) (ps : List ℕ) (n : ℕ) (sights : List ℕ) (rest : List ℤ) → Ok ag Q res ps
        → later (units res + n) (sights_of ag res ++ sights) (residue_cells res ++ rest)
        ≡ (some_too_early ag d res || later n sights rest)
    unfolding Ok units sights_of residue_cells some_too_early
    some_opens_later (unit k p a e) ps n sights rest ok =
        unit_first later later_by later_steps ag Q k p a e ps ok n sights rest
        ∙ ap (λ b. b || later n sights rest) (by_sort k _ false ∙ unit_later k p a e ps ok)
    some_opens_later (both j l r) ps n sights rest ok =
        join_first later later_by later_steps ag j l r n sights rest
        ∙ ap₂ ◌||◌ (by_join j _ false)
        (some_opens_later l ok.0 (units r + n) (sights_of ag r ++ sights) (residue_cells r ++ rest) ok.2)
        ∙ ap (λ b. some_too_early ag d l || b) (some_opens_later r ok.1 n sights rest ok.3)
        ∙ or_assoc (some_too_early ag d l) (some_too_early ag d r) (later n sights rest)

  -- all units of a running run's table, whatever sights stand behind theirs
  pub whole_opens_later : (now moved : ℕ) (res : Residue) (us : List ℤ) → length us ≡ 3080
      → run_of ag mains us ≡ some (run_at now moved (running res)) → (sights : List ℕ)
      → later (units res) (sights_of ag res ++ sights) (drop 8 us) ≡ some_too_early ag d res
  unfolding Good table.some_open_later
  whole_opens_later now moved res us l is sights =
      let g = (run_of_good ag mains us (run_at now moved (running res)) fair is).good in
      whole_table later now moved res (sights_of ag res ++ sights) us
      (table_back ag mains us (run_at now moved (running res)) is l)
      ∙ some_opens_later (Since ag now) res g.0 0 sights _ g.1
      ∙ or_false (some_too_early ag d res)
