-- Walking a typed clause gives a good outcome, whatever the step.
use mathlib.Core.Bool.{Bool, false, true}
use mathlib.Core.List.{◌++◌, List}
use mathlib.Core.Option.{some}
use mathlib.Core.Path.{refl, subst, sym, ◌≡◌}
use Prim.Native.Nat.{ℕ, ◌≤◌}
use lib.Dec.{T, ltb}
use lib.ListN.{length}
use Rattle.csl.specs.Lists.{all, or_nil}
use Rattle.csl.specs.Parties.{is_same_set, subset}
use Rattle.csl.specs.Syntax.{Agreement, Clause, Join, Ty, and, bad_clause, choice, fulfilled, if, instance, join}
use Rattle.csl.specs.Syntax.{obligation, or}
use Rattle.csl.specs.Typing.{join_ok, names_of, reading_of_type, then_sight, type_clause}
use Rattle.csl.specs.Outcomes.{Outcome, Residue, Sight, Sort, both, breach, done, earlier, join_both, join_either}
use Rattle.csl.specs.Outcomes.{joined, later, running, stuck, unit}
use Rattle.csl.specs.Places.{Found, clause_at}
use Rattle.csl.specs.Table.{is_sort, stand_for}
use Rattle.csl.specs.Demand3.{NotStuck}
use Rattle.laws.proofs.Bools.{T-both}
use Rattle.soundness.proofs.Members.{In, One, Sub, few→one, in_left, in_right, join_ok_sub, sub_both, sub_trans}
use Rattle.soundness.proofs.Members.{sub→subset}
use Rattle.soundness.proofs.Evaluation.{HaveTy}

-- ---- what stands in sight has the types and the ranges
pub record SightOk (ag : Agreement) (n : ℕ) (env : List Ty) (e : Sight) : Type 0 where
  pub count : length e.params ≡ n
  pub few_params : n ≤ 4
  pub range : T (all (λ x. ltb x ag.parties) e.params)
  pub values : HaveTy ag.parties env e.values

-- every wait of a clause is found at its place, with what is in sight there
unfoldable pub Placed : Agreement → ℕ → List Ty → Clause → Type 0
Placed ag n env fulfilled = Unit {0}
Placed ag n env (obligation b w t) = (clause_at ag w.place ≡ some (record {
  clause = obligation b w t;
  sight = env;
  params = n;
})) × Placed ag n (then_sight env (or_nil (reading_of_type ag.readings w.wanted))) t
Placed ag n env (choice w t f) = (clause_at ag w.place ≡ some (record {
  clause = choice w t f;
  sight = env;
  params = n;
})) × Placed ag n (then_sight env (or_nil (reading_of_type ag.readings w.wanted))) t × Placed ag n env f
Placed ag n env (if c t f) = Placed ag n env t × Placed ag n env f
Placed ag n env (join j t f) = Placed ag n env t × Placed ag n env f
Placed ag n env (instance k es bs) = Unit {0}
Placed ag n env bad_clause = Unit {0}

module _ (ag : Agreement) (W : ℕ → Type 0) where
  pub record OkUnit (s : Sort) (p a : ℕ) (e : Sight) (ps : List ℕ) : Type 0 where
    pub found : Found
    pub is_at : clause_at ag p ≡ some found
    pub sorted : T (is_sort s found.clause)
    pub when : W a
    pub sight : SightOk ag found.params found.sight e
    pub blames : List ℕ
    pub typed : type_clause (names_of ag found.params) found.sight found.clause ≡ some blames
    pub parties : ps ≡ stand_for e.params blames
    pub placed : Placed ag found.params found.sight found.clause

  -- a residue whose units are well typed, found at their places, in time, and whose joins keep the rule for `or`
  unfoldable pub Ok : Residue → List ℕ → Type 0
  Ok (unit s p a e) ps = OkUnit s p a e ps
  Ok (both j l r) ps = (pl : List ℕ) × (pr : List ℕ) × Ok l pl × Ok r pr × T (join_ok j (pl ++ pr)) × (ps ≡ pl ++ pr)

  -- an outcome that is not stuck, whose breach names a party, only parties of P, at a time that W allows, and whose
  -- residue is Ok
  unfoldable pub Good : List ℕ → Outcome → Type 0
  Good P done = Unit {0}
  Good P (breach t ps) = (p : ℕ) × In p ps × Sub ps P × W t
  Good P (running r) = (ps : List ℕ) × Ok r ps × Sub ps P
  Good P stuck = ⊥

  pub good_sub : (P Q : List ℕ) (o : Outcome) → Sub P Q → Good P o → Good Q o
  unfolding Good
  good_sub P Q done h g = tt
  good_sub P Q (breach t ps) h g = (g.0, g.1, sub_trans ps P Q g.2 h, g.3)
  good_sub P Q (running r) h g = (g.0, g.1, sub_trans g.0 P Q g.2 h)
  good_sub P Q stuck h g = g

  pub good_moves : (P : List ℕ) (o : Outcome) → Good P o → NotStuck o
  unfolding Good NotStuck
  good_moves P done g = tt
  good_moves P (breach t ps) g = tt
  good_moves P (running r) g = tt
  good_moves P stuck g = g

  earlier_good : (P Q : List ℕ) (t u : ℕ) (ps qs : List ℕ) → Good P (breach t ps) → Good Q (breach u qs)
      → Good (P ++ Q) (earlier t ps u qs)
  unfolding earlier Good Sub
  earlier_good P Q t u ps qs g h = go (ltb t u) (ltb u t)
    where
      go : (x y : Bool) → Good (P ++ Q) (elim x
          [ true ↦ breach t ps | false ↦ elim y [ true ↦ breach u qs | false ↦ breach t (ps ++ qs) ] ])
      go true y = (g.0, g.1, (λ x k. in_left x P Q (g.2 x k)), g.3)
      go false true = (h.0, h.1, (λ x k. in_right x P Q (h.2 x k)), h.3)
      go false false = (g.0, in_left g.0 ps qs g.1, sub_both ps qs P Q g.2 h.2, g.3)

  later_good : (P Q : List ℕ) (t u : ℕ) (ps qs : List ℕ) → T (join_ok or (P ++ Q)) → Good P (breach t ps)
      → Good Q (breach u qs) → Good (P ++ Q) (later t ps u qs)
  unfolding later Good Sub join_ok One is_same_set
  later_good P Q t u ps qs ok g h = go (ltb t u) (ltb u t) (is_same_set ps qs) same
    where
      one : One (P ++ Q)
      one = few→one (P ++ Q) ok

      all_same : (x y : ℕ) → In x ps → In y qs → x ≡ y
      all_same x y k l = one x y (in_left x P Q (g.2 x k)) (in_right y P Q (h.2 y l))

      same : T (is_same_set ps qs)
      same = T-both (subset ps qs) (subset qs ps)
          (sub→subset ps qs (λ x k. subst (λ z. In z qs) (sym (all_same x h.0 k h.1)) h.1))
          (sub→subset qs ps (λ x k. subst (λ z. In z ps) (all_same g.0 x g.1 k) g.1))

      go : (x y z : Bool) → T z → Good (P ++ Q)
          (elim x [
            | true ↦ breach u qs
            | false ↦ elim y
                [ true ↦ breach t ps | false ↦ elim z [ true ↦ breach t ps | false ↦ stuck ] ]
          ])
      go true y z s = (h.0, h.1, (λ x k. in_right x P Q (h.2 x k)), h.3)
      go false true z s = (g.0, g.1, (λ x k. in_left x P Q (g.2 x k)), g.3)
      go false false true s = (g.0, g.1, (λ x k. in_left x P Q (g.2 x k)), g.3)
      go false false false s = absurd s

  running_good : (j : Join) (P Q : List ℕ) (l r : Residue) → T (join_ok j (P ++ Q)) → Good P (running l)
      → Good Q (running r) → Good (P ++ Q) (running (both j l r))
  unfolding Good Ok
  running_good j P Q l r ok g h =
      let s = sub_both g.0 h.0 P Q g.2 h.2 in
      (g.0 ++ h.0, (g.0, h.0, g.1, h.1, join_ok_sub j (g.0 ++ h.0) (P ++ Q) s ok, refl), s)

  pub left_good : (P Q : List ℕ) (o : Outcome) → Good P o → Good (P ++ Q) o
  unfolding Sub
  left_good P Q o g = good_sub P (P ++ Q) o (λ x k. in_left x P Q k) g

  pub right_good : (P Q : List ℕ) (o : Outcome) → Good Q o → Good (P ++ Q) o
  unfolding Sub
  right_good P Q o g = good_sub Q (P ++ Q) o (λ x k. in_right x P Q k) g

  -- `and` and `or` join good outcomes to a good one: two breaches of an `or` blame the same party, so they never clash
  pub joined_good : (j : Join) (P Q : List ℕ) (l r : Outcome) → T (join_ok j (P ++ Q)) → Good P l → Good Q r
      → Good (P ++ Q) (joined j l r)
  unfolding joined join_both join_either Good
  joined_good and P Q done r ok g h = right_good P Q r h
  joined_good and P Q (breach t ps) done ok g h = left_good P Q (breach t ps) g
  joined_good and P Q (breach t ps) (breach u qs) ok g h = earlier_good P Q t u ps qs g h
  joined_good and P Q (breach t ps) (running r) ok g h = left_good P Q (breach t ps) g
  joined_good and P Q (breach t ps) stuck ok g h = h
  joined_good and P Q (running l) done ok g h = left_good P Q (running l) g
  joined_good and P Q (running l) (breach u qs) ok g h = right_good P Q (breach u qs) h
  joined_good and P Q (running l) (running r) ok g h = running_good and P Q l r ok g h
  joined_good and P Q (running l) stuck ok g h = h
  joined_good and P Q stuck r ok g h = g
  joined_good or P Q done done ok g h = tt
  joined_good or P Q done (breach u qs) ok g h = tt
  joined_good or P Q done (running r) ok g h = tt
  joined_good or P Q done stuck ok g h = h
  joined_good or P Q (breach t ps) done ok g h = tt
  joined_good or P Q (breach t ps) (breach u qs) ok g h = later_good P Q t u ps qs ok g h
  joined_good or P Q (breach t ps) (running r) ok g h = right_good P Q (running r) h
  joined_good or P Q (breach t ps) stuck ok g h = h
  joined_good or P Q (running l) done ok g h = tt
  joined_good or P Q (running l) (breach u qs) ok g h = left_good P Q (running l) g
  joined_good or P Q (running l) (running r) ok g h = running_good or P Q l r ok g h
  joined_good or P Q (running l) stuck ok g h = h
  joined_good or P Q stuck r ok g h = g
