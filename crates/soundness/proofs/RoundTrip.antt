-- A good run's table reads back as the run.
use mathlib.Core.Bool.{◌&&◌, false, not, true}
use mathlib.Core.List.{◌++◌, List, [], ◌∷◌, append_assoc}
use mathlib.Core.Option.{some}
use mathlib.Core.Path.{ap, refl, subst, sym, ◌∙◌, ◌≡◌}
use Prim.Native.Nat.{◌+◌, ◌-◌, ◌<◌, ◌^◌, suc, zero, ℕ, ◌≤◌}
use native.Mathlib.Omega.{arith}
use lib.Dec.{T, eqb, eqb→eq, leb, leb→le, le→leb, ltb, lt→ltb, not_T}
use lib.IntN.{pos, ℤ}
use lib.ListN.{length, length-append, replicate}
use Rattle.csl.specs.Lists.{◌>>=◌, all, at, need, split}
use Rattle.csl.specs.Numbers.{in_range}
use Rattle.csl.specs.Parties.{bits_of, members, subset}
use Rattle.csl.specs.Syntax.{Agreement, Clause, Join, Ty, Wait, and, bad_clause, choice, fulfilled, if, instance, join}
use Rattle.csl.specs.Syntax.{number, obligation, or, party, truth}
use Rattle.csl.specs.Typing.{blame_ok, join_ok, names_of, reading_of_type, then_sight, type_clause, type_wait}
use Rattle.csl.specs.Values.{Val, as_nat, as_truth, bool, num, value_of, values_of, who}
use Rattle.csl.specs.Outcomes.{Outcome, Residue, Sight, Sort, a_choice, an_obligation, both, breach, done, running}
use Rattle.csl.specs.Outcomes.{unit, units}
use Rattle.csl.specs.Places.{clause_at}
use Rattle.csl.specs.Table.{add_unit, as_nats, cell_of, cells_of, head_cells, head_numbers, is_sort, is_zero}
use Rattle.csl.specs.Table.{join_cells}
use Rattle.csl.specs.Table.{join_number, nat_cells, padded, push, read_state, residue_cells, residue_parties, run_of}
use Rattle.csl.specs.Table.{single, sort_number, stand_for, table_of, trees, cells_of_unit, unit_sort, waiting_unit}
use Rattle.laws.proofs.Cells.{length_padded, length_join}
use Rattle.laws.proofs.Bools.{T-both}
use Rattle.laws.proofs.Options.{from_bind, from_need, passes, some_bind, true_need}
use Rattle.laws.proofs.PartyBits.{bits_lt}
use Rattle.soundness.proofs.Members.{In, Sub, in_left, in_right, sub→subset}
use Rattle.soundness.proofs.Evaluation.{HasTy, HaveTy}
use Rattle.soundness.proofs.Good.{Ok, OkUnit}
use Rattle.soundness.proofs.Bits.{bits_pos, members_in}

-- ---- lists
module _ {A : Type 0} where
  pub split_++ : (n : ℕ) (xs ys : List A) → length xs ≡ n → split n (xs ++ ys) ≡ some (xs, ys)
  unfolding split
  split_++ zero [] ys e = refl
  split_++ zero (x ∷ xs) ys e = absurd (omega arith)
  split_++ (suc n) [] ys e = absurd (omega arith)
  split_++ (suc n) (x ∷ xs) ys e = some_bind (split n (xs ++ ys)) _ (xs, ys) (split_++ n xs ys (omega arith))

pub zeros_zero : (n : ℕ) → T (all is_zero (replicate n (pos 0)))
unfolding all is_zero
zeros_zero zero = tt
zeros_zero (suc n) = zeros_zero n

pub len_nats : (ns : List ℕ) → length (nat_cells ns) ≡ length ns
unfolding nat_cells
len_nats [] = refl
len_nats (n ∷ ns) = ap suc (len_nats ns)

pub len_cells : (vs : List Val) → length (cells_of vs) ≡ length vs
unfolding cells_of
len_cells [] = refl
len_cells (n ∷ ns) = ap suc (len_cells ns)

as_nats_nats : (ns : List ℕ) → as_nats (nat_cells ns) ≡ some ns
unfolding as_nats nat_cells as_nat ◌>>=◌
as_nats_nats [] = refl
as_nats_nats (n ∷ ns) = rw (as_nats_nats ns) refl

-- ---- values
value_cell : (ps : ℕ) (t : Ty) (v : Val) → HasTy ps t v → value_of ps t (cell_of v) ≡ some v
unfolding value_of cell_of HasTy as_nat as_truth ◌>>=◌ need
value_cell ps number (num z) h = rw (true_need (in_range z) h) refl
value_cell ps number (bool b) h = absurd h
value_cell ps number (who p) h = absurd h
value_cell ps truth (num z) h = absurd h
value_cell ps truth (bool true) h = refl
value_cell ps truth (bool false) h = refl
value_cell ps truth (who p) h = absurd h
value_cell ps party (num z) h = absurd h
value_cell ps party (bool b) h = absurd h
value_cell ps party (who p) h = rw (true_need (ltb p ps) h) refl

values_cells : (ps : ℕ) (ts : List Ty) (vs : List Val) (rest : List ℤ) → HaveTy ps ts vs
    → values_of ps ts (cells_of vs ++ rest) ≡ some (vs, rest)
unfolding values_of cells_of HaveTy
values_cells ps [] [] rest h = refl
values_cells ps [] (v ∷ vs) rest h = absurd h
values_cells ps (t ∷ ts) [] rest h = absurd h
values_cells ps (t ∷ ts) (v ∷ vs) rest h = some_bind (value_of ps t (cell_of v)) _ v (value_cell ps t v h.0)
    ∙ some_bind (values_of ps ts (cells_of vs ++ rest)) _ (vs, rest) (values_cells ps ts vs rest h.1)

pub len_typed : (ps : ℕ) (ts : List Ty) (vs : List Val) → HaveTy ps ts vs → length vs ≡ length ts
unfolding HaveTy
len_typed ps [] [] h = refl
len_typed ps [] (v ∷ vs) h = absurd h
len_typed ps (t ∷ ts) [] h = absurd h
len_typed ps (t ∷ ts) (v ∷ vs) h = ap suc (len_typed ps ts vs h.1)

-- ---- a typed wait has at most 15 values in sight
wait_sight_lem : (ag : Agreement) (n : ℕ) (env : List Ty) (w : Wait) (vs : List Ty)
    → type_wait (names_of ag n) env w ≡ some vs → length env ≤ 16
unfolding type_wait then_sight
wait_sight_lem ag n env w vs e =
    from_bind (reading_of_type (names_of ag n).readings w.wanted) _ vs e λ vs' p q.
    from_need (leb (length (then_sight env vs')) 16) _ vs q λ t q₁.
    omega (
      arith,
      leb→le (length (then_sight env vs')) 16 t,
      length-append (env ++ vs') (number ∷ []),
      length-append env vs',
    )

clause_sight : (ag : Agreement) (s : Sort) (c : Clause) (n : ℕ) (env : List Ty) (bs : List ℕ) → T (is_sort s c)
    → type_clause (names_of ag n) env c ≡ some bs → length env ≤ 16
unfolding is_sort type_clause
clause_sight ag s fulfilled n env bs i ty = absurd i
clause_sight ag s (obligation b w t) n env bs i ty = from_need (blame_ok (names_of ag n) b) _ bs ty λ bo q₁. from_bind
    (type_wait (names_of ag n) env w) _ bs q₁ λ vs tw q₂. wait_sight_lem ag n env w vs tw
clause_sight ag s (choice w t f) n env bs i ty = from_bind (type_wait (names_of ag n) env w) _ bs ty λ vs tw q₂.
    wait_sight_lem ag n env w vs tw
clause_sight ag s (if c t f) n env bs i ty = absurd i
clause_sight ag s (join j t f) n env bs i ty = absurd i
clause_sight ag s (instance k es cs) n env bs i ty = absurd i
clause_sight ag s bad_clause n env bs i ty = absurd i

-- ---- units
module _ (ag : Agreement) (W : ℕ → Type 0) where
  unit_reads : (s : Sort) (p a : ℕ) (e : Sight) (ps : List ℕ) → OkUnit ag W s p a e ps
      → waiting_unit ag s (pos p ∷ pos a ∷ (padded 5 (nat_cells e.params) ++ padded 16 (cells_of e.values))) ≡ some
      (unit s p a e)
  unfolding waiting_unit split as_nats as_nat at ◌>>=◌ padded
  unit_reads s p a e ps ok =
      some_bind (clause_at ag p) _ ok.found ok.is_at
      ∙ some_bind (need (is_sort s ok.found.clause)) _ tt (true_need _ ok.sorted)
      ∙ some_bind (split 5 (padded 5 (nat_cells e.params) ++ padded 16 (cells_of e.values))) _
      (padded 5 (nat_cells e.params), padded 16 (cells_of e.values))
      (split_++ 5 (padded 5 (nat_cells e.params)) (padded 16 (cells_of e.values))
      (length_padded 5 (nat_cells e.params) (omega
      (arith, len_nats e.params, ok.sight.count, ok.sight.few_params))))
      ∙ some_bind (split ok.found.params (padded 5 (nat_cells e.params))) _
      (nat_cells e.params, replicate (5 - length (nat_cells e.params)) (pos 0))
      (split_++ ok.found.params (nat_cells e.params) _ (len_nats e.params ∙ ok.sight.count))
      ∙ some_bind (as_nats (nat_cells e.params)) _ e.params (as_nats_nats e.params)
      ∙ some_bind (need (all (λ x. ltb x ag.parties) e.params)) _ tt (true_need _ ok.sight.range)
      ∙ some_bind (need (all is_zero (replicate (5 - length (nat_cells e.params)) (pos 0)))) _ tt
      (true_need _ (zeros_zero (5 - length (nat_cells e.params))))
      ∙ some_bind (values_of ag.parties ok.found.sight (padded 16 (cells_of e.values))) _
      (e.values, replicate (16 - length (cells_of e.values)) (pos 0))
      (values_cells ag.parties ok.found.sight e.values _ ok.sight.values)
      ∙ some_bind (need (all is_zero (replicate (16 - length (cells_of e.values)) (pos 0)))) _ tt
      (true_need _ (zeros_zero (16 - length (cells_of e.values))))

  pub units_length : (s : Sort) (p a : ℕ) (e : Sight) (ps : List ℕ) → OkUnit ag W s p a e ps
      → length (cells_of_unit s p a e) ≡ 24
  unfolding cells_of_unit
  units_length s p a e ps ok =
      omega (
        arith,
        length-append (padded 5 (nat_cells e.params)) (padded 16 (cells_of e.values)),
        length_padded 5 (nat_cells e.params) (omega
            (arith, len_nats e.params, ok.sight.count, ok.sight.few_params)),
        length_padded 16 (cells_of e.values) (omega (
          arith,
          len_cells e.values,
          len_typed ag.parties ok.found.sight e.values ok.sight.values,
          clause_sight ag s ok.found.clause ok.found.params ok.found.sight ok.blames ok.sorted
              ok.typed,
        )),
      )

  join_reads : (j : Join) (l r : Residue) (rs : List Residue)
      → add_unit ag (join_cells j) (l ∷ r ∷ rs) ≡ some (both j l r ∷ rs)
  unfolding add_unit join_cells padded unit_sort join_number as_nat need ◌>>=◌ at all is_zero push
  join_reads and l r rs = refl
  join_reads or l r rs = refl

  adds_unit : (s : Sort) (p a : ℕ) (e : Sight) (ps : List ℕ) (rs : List Residue) → OkUnit ag W s p a e ps
      → add_unit ag (cells_of_unit s p a e) rs ≡ some (unit s p a e ∷ rs)
  unfolding add_unit cells_of_unit unit_sort sort_number as_nat need ◌>>=◌ at
  adds_unit an_obligation p a e ps rs ok = some_bind
      (waiting_unit ag an_obligation (pos p ∷ pos a
      ∷ (padded 5 (nat_cells e.params) ++ padded 16 (cells_of e.values)))) _ (unit an_obligation p a e)
      (unit_reads an_obligation p a e ps ok)
  adds_unit a_choice p a e ps rs ok = some_bind
      (waiting_unit ag a_choice (pos p ∷ pos a ∷ (padded 5 (nat_cells e.params) ++ padded 16 (cells_of e.values))))
      _ (unit a_choice p a e) (unit_reads a_choice p a e ps ok)

  trees_step : (m n : ℕ) (cells rest : List ℤ) (rs qs : List Residue) → m ≡ suc n → length cells ≡ 24
      → trees ag n rest ≡ some rs → add_unit ag cells rs ≡ some qs → trees ag m (cells ++ rest) ≡ some qs
  unfolding trees
  trees_step m n cells rest rs qs e l h k =
      rw e (some_bind (split 24 (cells ++ rest)) _ (cells, rest) (split_++ 24 cells rest l)
      ∙ some_bind (trees ag n rest) _ rs h ∙ k)

  -- the units of a residue, in front of others, give that residue in front of theirs
  pub trees_read : (res : Residue) (ps : List ℕ) (n : ℕ) (rest : List ℤ) (rs : List Residue) → Ok ag W res ps
      → trees ag n rest ≡ some rs → trees ag (units res + n) (residue_cells res ++ rest) ≡ some (res ∷ rs)
  unfolding Ok units residue_cells
  trees_read (unit s p a e) ps n rest rs ok h = trees_step (1 + n) n (cells_of_unit s p a e) rest rs _ (omega arith)
      (units_length s p a e ps ok) h (adds_unit s p a e ps rs ok)
  trees_read (both j l r) ps n rest rs ok h =
      subst (λ x. trees ag (1 + units l + units r + n) x ≡ some (both j l r ∷ rs))
      (sym (append_assoc (join_cells j) (residue_cells l ++ residue_cells r) rest
      ∙ ap (λ x. join_cells j ++ x) (append_assoc (residue_cells l) (residue_cells r) rest)))
      (trees_step (1 + units l + units r + n) (units l + (units r + n)) (join_cells j)
      (residue_cells l ++ (residue_cells r ++ rest)) (l ∷ r ∷ rs) (both j l r ∷ rs) (omega arith) (length_join j)
      (trees_read l ok.0 (units r + n) (residue_cells r ++ rest) (r ∷ rs) ok.2
      (trees_read r ok.1 n rest rs ok.3 h)) (join_reads j l r rs))

-- ---- a residue's parties are computed as its typing says
pub parties_read : (ag : Agreement) (mains : List ℕ) (now : ℕ) (res : Residue) (ps : List ℕ)
    → Ok ag (λ t. (ag.start ≤ t) × (t ≤ now)) res ps → Sub ps mains → residue_parties ag mains now res ≡ some ps
unfolding Ok residue_parties Sub
parties_read ag mains now (unit s p a e) ps ok sub =
    some_bind (need (leb ag.start a && leb a now)) _ tt
    (true_need _ (T-both (leb ag.start a) (leb a now) (le→leb _ _ ok.when.0) (le→leb _ _ ok.when.1)))
    ∙ some_bind (clause_at ag p) _ ok.found ok.is_at
    ∙ some_bind (type_clause (names_of ag ok.found.params) ok.found.sight ok.found.clause) _ ok.blames
    ok.typed
    ∙ some_bind (need (subset (stand_for e.params ok.blames) mains)) _ tt
    (true_need _ (sub→subset (stand_for e.params ok.blames) mains
    (subst (λ l. Sub l mains) ok.parties sub)))
    ∙ ap some (sym ok.parties)
parties_read ag mains now (both j l r) ps ok sub =
    let s : Sub (ok.0 ++ ok.1) mains = subst (λ x. Sub x mains) ok.5 sub in
    some_bind (residue_parties ag mains now l) _ ok.0
    (parties_read ag mains now l ok.0 ok.2 (λ x k. s x (in_left x ok.0 ok.1 k)))
    ∙ some_bind (residue_parties ag mains now r) _ ok.1
    (parties_read ag mains now r ok.1 ok.3 (λ x k. s x (in_right x ok.0 ok.1 k)))
    ∙ some_bind (need (join_ok j (ok.0 ++ ok.1))) _ tt (true_need _ ok.4)
    ∙ ap some (sym ok.5)

-- ---- whole tables
module _ (ag : Agreement) (mains : List ℕ) (now m : ℕ) (from : ag.start ≤ m) (to : m ≤ now)
    (fit : now < 2 ^ 32) where
  head_reads : (state time parties used : ℕ) → head_numbers (head_cells state now time parties used m) ≡ some (record {
    state = state;
    now = now;
    time = time;
    parties = parties;
    used = used;
    moved = m;
  })
  unfolding head_numbers head_cells nat_cells split need all is_zero as_nats as_nat at ◌>>=◌
  head_reads state time parties used = refl

  split_head : (state time parties used n : ℕ) (cells : List ℤ)
      → split 8 (padded n (head_cells state now time parties used m ++ cells)) ≡ some (
        head_cells state now time parties used m,
        cells ++ replicate (n - length (head_cells state now time parties used m ++ cells)) (pos 0),
      )
  unfolding padded head_cells nat_cells
  split_head state time parties used n cells = split_++ 8 (head_cells state now time parties used m)
      (cells ++ replicate (n - length (head_cells state now time parties used m ++ cells)) (pos 0)) refl

  run_reads : (state time parties used : ℕ) (cells : List ℤ) (o : Outcome)
      → read_state ag mains
      (record { state = state; now = now; time = time; parties = parties; used = used; moved = m })
      (cells ++ replicate (3080 - length (head_cells state now time parties used m ++ cells)) (pos 0)) state ≡ some o
      → run_of ag mains (padded 3080 (head_cells state now time parties used m ++ cells)) ≡ some
      (record { last_time = now; last_moved = m; outcome = o })
  unfolding run_of
  run_reads state time parties used cells o e =
      some_bind (split 8 (padded 3080 (head_cells state now time parties used m ++ cells))) _ _
      (split_head state time parties used 3080 cells)
      ∙ some_bind (head_numbers (head_cells state now time parties used m)) _ _ (head_reads state time parties used)
      ∙ some_bind (need (leb ag.start m && leb m now && ltb now (2 ^ 32))) _ tt
      (true_need _ (T-both (leb ag.start m && leb m now) (ltb now (2 ^ 32))
      (T-both (leb ag.start m) (leb m now) (le→leb _ _ from) (le→leb _ _ to)) (lt→ltb _ _ fit)))
      ∙ some_bind (read_state ag mains (record {
        state = state;
        now = now;
        time = time;
        parties = parties;
        used = used;
        moved = m;
      }) (cells ++ replicate (3080 - length (head_cells state now time parties used m ++ cells)) (pos 0)) state) _ o e

  no_trees : (n : ℕ) → trees ag 0 (replicate n (pos 0)) ≡ some []
  unfolding trees
  no_trees n = some_bind (need (all is_zero (replicate n (pos 0)))) _ tt (true_need _ (zeros_zero n))

  -- the table of a running run reads back as that run
  pub running_reads : (res : Residue) (ps : List ℕ) → Ok ag (λ t. (ag.start ≤ t) × (t ≤ now)) res ps → Sub ps mains
      → units res ≤ 128
      → run_of ag mains (table_of (record { last_time = now; last_moved = m; outcome = running res })) ≡ some
      (record { last_time = now; last_moved = m; outcome = running res })
  unfolding table_of read_state single ◌>>=◌ need
  running_reads res ps ok sub few = run_reads 1 0 0 (units res) (residue_cells res) (running res)
      (some_bind (need (leb (units res) 128)) _ tt (true_need (leb (units res) 128) (le→leb _ _ few))
      ∙ some_bind (trees ag (units res) (residue_cells res
      ++ replicate (3080 - length (head_cells 1 now 0 0 (units res) m ++ residue_cells res)) (pos 0))) _ (res ∷ [])
      (subst (λ k. trees ag k (residue_cells res
      ++ replicate (3080 - length (head_cells 1 now 0 0 (units res) m ++ residue_cells res)) (pos 0)) ≡ some
      (res ∷ [])) (omega arith) (trees_read ag _ res ps 0
      (replicate (3080 - length (head_cells 1 now 0 0 (units res) m ++ residue_cells res)) (pos 0)) [] ok
      (no_trees (3080 - length (head_cells 1 now 0 0 (units res) m ++ residue_cells res)))))
      ∙ some_bind (residue_parties ag mains now res) _ ps (parties_read ag mains now res ps ok sub))

  -- the same of a fulfilled run
  pub done_reads : run_of ag mains (table_of (record { last_time = now; last_moved = m; outcome = done })) ≡ some
      (record { last_time = now; last_moved = m; outcome = done })
  unfolding table_of read_state head_cells nat_cells
  done_reads = run_reads 2 0 0 0 [] done (some_bind
      (need (all is_zero (replicate (3080 - length (head_cells 2 now 0 0 0 m ++ [])) (pos 0)))) _ tt
      (true_need _ (zeros_zero (3080 - length (head_cells 2 now 0 0 0 m ++ [])))))

module _ (ag : Agreement) (mains : List ℕ) (few : (q : ℕ) → In q mains → q < 16) (now m : ℕ)
    (from : ag.start ≤ m) (to : m ≤ now) (fit : now < 2 ^ 32) where
  -- the same of a breached run, the parties being read back from their bits
  pub breach_reads : (t : ℕ) (ps : List ℕ) (p : ℕ) → In p ps → Sub ps mains → ag.start ≤ t → t ≤ now
      → run_of ag mains (table_of (record { last_time = now; last_moved = m; outcome = breach t ps })) ≡ some
      (record { last_time = now; last_moved = m; outcome = breach t (members (bits_of ps)) })
  unfolding table_of read_state head_cells nat_cells Sub members bits_of
  breach_reads t ps p i sub lo hi = run_reads ag mains now m from to fit 3 t (bits_of ps) 0 []
      (breach t (members (bits_of ps)))
      (passes (leb ag.start t) _ (le→leb _ _ lo)
      ∙ passes (leb t now) _ (le→leb _ _ hi)
      ∙ passes (ltb (bits_of ps) (2 ^ 16)) _ (lt→ltb (bits_of ps) (2 ^ 16) (bits_lt 16 0 ps))
      ∙ passes (not (eqb (bits_of ps) 0)) _ (nonzero (bits_of ps)
      (bits_pos 16 0 ps p i (omega arith) (omega (arith, few p (sub p i)))))
      ∙ passes (subset (members (bits_of ps)) mains) _
      (sub→subset (members (bits_of ps)) mains (λ x h. sub x (members_in 16 0 ps x h)))
      ∙ passes (eqb 0 0) _ tt
      ∙ passes (all is_zero (replicate (3080 - length (head_cells 3 now t (bits_of ps) 0 m ++ [])) (pos 0))) _
      (zeros_zero (3080 - length (head_cells 3 now t (bits_of ps) 0 m ++ []))))
    where
      nonzero : (n : ℕ) → 0 < n → T (not (eqb n 0))
      nonzero n h = not_T (eqb n 0) (λ q. let e : n ≡ 0 = eqb→eq n 0 q in omega arith)
