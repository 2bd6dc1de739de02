-- Following a reading keeps residues good.
use mathlib.Core.Bool.{Bool, false, not, true}
use mathlib.Core.List.{◌++◌, List, [], ◌∷◌}
use mathlib.Core.Logic.{inl, inr, ◌⊎◌}
use mathlib.Core.Option.{some}
use mathlib.Core.Path.{ap, refl, subst, sym, ◌∙◌, ◌≡◌}
use Prim.Native.Nat.{ℕ, ◌≤◌}
use native.Mathlib.Omega.{arith}
use lib.Dec.{T, eqb, eqb→eq, leb}
use lib.IntN.{◌+ℤ◌, ◌-ℤ◌, pos, ℤ}
use lib.ListN.{length}
use lib.Signed.{lt_z}
use Rattle.csl.specs.Lists.{◌>>=◌, or_nil}
use Rattle.csl.specs.Numbers.{in_range, later_of}
use Rattle.csl.specs.Syntax.{Agreement, Clause, Ty, Wait, choice, number, obligation, truth}
use Rattle.csl.specs.Typing.{blame_ok, has_type, names_of, reading_of_type, then_sight, type_clause, type_wait}
use Rattle.csl.specs.Values.{eval_bool, eval_num}
use Rattle.csl.specs.Outcomes.{Outcome, Residue, Sight, both, breach, joined, or_stuck, unit}
use Rattle.csl.specs.Rules.{Reading, Step, activate, activating, blamed, during, following, taken}
use Rattle.csl.specs.Rules.{window, with_values, across, follow}
use Rattle.csl.specs.Places.{clause_at}
use Rattle.csl.specs.Table.{stand_for, stands_for}
use Rattle.laws.proofs.Bools.{true→T}
use Rattle.laws.proofs.Options.{from_bind, from_need, some_bind, some_inj}
use Rattle.laws.proofs.Integers.{later_from_lem}
use Rattle.soundness.proofs.Members.{In, Sub, in_left, in_right, stand_sub}
use Rattle.soundness.proofs.Evaluation.{HasTy, HaveTy, HaveTy-++}
use Rattle.soundness.proofs.Times.{by_timing_lem, later_to, remaining_range}
use Rattle.soundness.proofs.Good.{Good, Ok, Placed, SightOk, good_sub, joined_good}
use Rattle.soundness.proofs.Walks.{Fair, StepGood, blamed_ok, bool_typed, good_bind, num_typed}
use Rattle.soundness.proofs.Activation.{activate_good, activating_good, during_good, heads_declared}

-- a reading's values have the types of its reading type
unfoldable pub ReadingOk : Agreement → Reading → Type 0
ReadingOk ag r = (ts : List Ty) → reading_of_type ag.readings r.type ≡ some ts → HaveTy ag.parties ts r.values

-- what a typed wait has
pub from_wait : {C : Type 0} (ag : Agreement) (n : ℕ) (env : List Ty) (w : Wait) (vs : List Ty)
    → type_wait (names_of ag n) env w ≡ some vs
    → ((u₁ u₂ u₃ : Unit {0}) → reading_of_type ag.readings w.wanted ≡ some vs
    → has_type ag.parties (env ++ vs) w.condition truth ≡ some u₁
    → has_type ag.parties env w.after number ≡ some u₂
    → has_type ag.parties env w.within number ≡ some u₃ → C) → C
unfolding type_wait names_of
from_wait ag n env w vs e k =
    from_bind (reading_of_type ag.readings w.wanted) _ vs e λ vs' p q.
    from_need (leb (length (then_sight env vs')) 16) _ vs q λ t q₁.
    from_bind (has_type ag.parties (env ++ vs') w.condition truth) _ vs q₁ λ u₁ h₁ q₂.
    from_bind (has_type ag.parties env w.after number) _ vs q₂ λ u₂ h₂ q₃.
    from_bind (has_type ag.parties env w.within number) _ vs q₃ λ u₃ h₃ q₄.
    let s : vs' ≡ vs = some_inj q₄ in
    k u₁ u₂ u₃ (p ∙ ap some s) (subst (λ z. has_type ag.parties (env ++ z) w.condition truth ≡ some u₁) s h₁) h₂ h₃

pub window_is : (e : Sight) (a : ℕ) (w : Wait) (x y : ℤ) → eval_num e.values w.after ≡ some x
    → eval_num e.values w.within ≡ some y
    → window e a w ≡ some (record { first = pos a +ℤ x; last = (pos a +ℤ x) +ℤ y })
unfolding window
window_is e a w x y p q = some_bind (eval_num e.values w.after) _ x p
    ∙ some_bind (eval_num e.values w.within) _ y q

pub breach_good : (ag : Agreement) (W : ℕ → Type 0) (params : List ℕ) (b p u : ℕ) (ps bs : List ℕ)
    → stands_for params b ≡ p → b ∷ ps ≡ bs → W u → Good ag W (stand_for params bs) (breach u (p ∷ []))
unfolding Good Sub In stand_for
breach_good ag W params b p u ps bs st eq wu = subst (λ l. Good ag W (stand_for params l) (breach u (p ∷ []))) eq
    (p, inl refl, sub, wu)
  where
    sub : (x : ℕ) → (x ≡ p) ⊎ ⊥ → (x ≡ stands_for params b) ⊎ In x (stand_for params ps)
    sub x (inl e) = inl (e ∙ sym st)
    sub x (inr h) = absurd h

-- a good step keeps a whole residue good
pub across_good : (ag : Agreement) (mains : List ℕ) (fair : Fair ag mains) (Q W : ℕ → Type 0) → ((t : ℕ) → Q t → W t)
    → (s : Step) → StepGood ag fair.few (heads_declared ag mains fair) W s → (res : Residue) (ps : List ℕ)
    → Ok ag Q res ps → Good ag W ps (across s ag res)
unfolding across Ok or_stuck
across_good ag mains fair Q W qw s sg (unit k p a e) ps ok =
    good_bind ag fair.few (heads_declared ag mains fair) W ps (clause_at ag p) _ ok.found ok.is_at
    (subst (λ l. Good ag W l (during s ag.templates ok.found.clause e a)) (sym ok.parties)
    (during_good ag mains fair W s sg ok.found.clause ok.found.params ok.found.sight e a ok.blames
    ok.sight (qw a ok.when) ok.typed ok.placed))
across_good ag mains fair Q W qw s sg (both j l m) ps ok =
    subst (λ x. Good ag W x (joined j (across s ag l) (across s ag m))) (sym ok.5)
    (joined_good ag W j ok.0 ok.1 (across s ag l) (across s ag m) ok.4
    (across_good ag mains fair Q W qw s sg l ok.0 ok.2)
    (across_good ag mains fair Q W qw s sg m ok.1 ok.3))

module _ (ag : Agreement) (mains : List ℕ) (fair : Fair ag mains) (r : Reading) (rok : ReadingOk ag r) where
  abbrev W : ℕ → Type 0
  W t = (ag.start ≤ t) × (t ≤ r.time)

  -- 2 and 3, in an open window
  taken_good : (n : ℕ) (env : List Ty) (e : Sight) (w : Wait) (vs : List Ty) (x y : ℤ) (t : Clause) (ps P : List ℕ)
      (o : Outcome) (u₁ : Unit {0})
      → SightOk ag n env e → reading_of_type ag.readings w.wanted ≡ some vs
      → has_type ag.parties (env ++ vs) w.condition truth ≡ some u₁
      → T (in_range y) → T (not (lt_z (x +ℤ y) (pos r.time))) → T (not (lt_z (pos r.time) x))
      → type_clause (names_of ag n) (then_sight env vs) t ≡ some ps → Placed ag n (then_sight env vs) t
      → Sub (stand_for e.params ps) P → ag.start ≤ r.time → Good ag W P o
      → Good ag W P (taken ag.templates r e w (record { first = x; last = x +ℤ y }) t o)
  unfolding taken or_stuck with_values then_sight HaveTy HasTy ReadingOk
  taken_good n env e w vs x y t ps P o u₁ ok rt tc ry nl ne ty pl sub st g = wanted (eqb w.wanted r.type) refl
    where
      vals : T (eqb w.wanted r.type) → HaveTy ag.parties (env ++ vs) (e.values ++ r.values)
      vals h = HaveTy-++ ag.parties env vs e.values r.values ok.values
          (rok vs (subst (λ z. reading_of_type ag.readings z ≡ some vs) (eqb→eq w.wanted r.type h) rt))

      act : Outcome
      act = activate ag.templates t (with_values e r.values ((x +ℤ y) -ℤ pos r.time)) r.time

      held : T (eqb w.wanted r.type) → Good ag W P act
      held h = good_sub ag W (stand_for e.params ps) P act sub
          (activate_good ag mains fair W t n (then_sight env vs) (with_values e r.values ((x +ℤ y) -ℤ pos r.time))
          r.time ps
          (record {
            count = ok.count;
            few_params = ok.few_params;
            range = ok.range;
            values = HaveTy-++ ag.parties (env ++ vs) (number ∷ []) (e.values ++ r.values) _ (vals h)
                (remaining_range x y r.time ne nl ry, tt);
          }) (st, omega arith) ty pl)

      choose : (b : Bool) → T (eqb w.wanted r.type)
          → Good ag W P (or_stuck (elim b [ false ↦ some o | true ↦ some act ]))
      choose true h = held h
      choose false h = g

      wanted : (b : Bool) → eqb w.wanted r.type ≡ b
          → Good ag W P (elim b [
            | false ↦ o
            | true ↦ or_stuck
                (eval_bool (e.values ++ r.values) w.condition >>= λ b. elim b [ false ↦ some o | true ↦ some act ])
          ])
      wanted false q = g
      wanted true q = let h = true→T q in
          bool_typed ag.parties (env ++ vs) (e.values ++ r.values) (vals h) w.condition u₁ tc λ b eb.
          good_bind ag fair.few (heads_declared ag mains fair) W P
          (eval_bool (e.values ++ r.values) w.condition) _ b eb (choose b h)

  pub or_nil_is : (w : Wait) (vs env : List Ty) → reading_of_type ag.readings w.wanted ≡ some vs
      → then_sight env (or_nil (reading_of_type ag.readings w.wanted)) ≡ then_sight env vs
  unfolding or_nil
  or_nil_is w vs env e = rw e refl

  tail_sub : (params : List ℕ) (b : ℕ) (ps bs : List ℕ) → b ∷ ps ≡ bs → Sub (stand_for params ps) (stand_for params bs)
  unfolding Sub In stand_for
  tail_sub params b ps bs eq = subst (λ l. Sub (stand_for params ps) (stand_for params l)) eq (λ x h. inr h)

  following_obligation : (n : ℕ) (env : List Ty) (b : ℕ) (w : Wait) (t : Clause) (e : Sight) (a : ℕ) (bs : List ℕ)
      → SightOk ag n env e → W a → type_clause (names_of ag n) env (obligation b w t) ≡ some bs
      → Placed ag n env (obligation b w t) → Good ag W (stand_for e.params bs)
      ((following ag.templates r).on_obligation e a b w t)
  unfolding following or_stuck type_clause Placed activating
  following_obligation n env b w t e a bs ok wa ty pl =
      from_need (blame_ok (names_of ag n) b) _ bs ty λ bo q₁.
      from_bind (type_wait (names_of ag n) env w) _ bs q₁ λ vs tw q₂.
      from_bind (type_clause (names_of ag n) (then_sight env vs) t) _ bs q₂ λ ps p q₃.
      from_wait ag n env w vs tw λ u₁ u₂ u₃ rt tc ta ti.
      num_typed ag.parties env e.values ok.values w.after u₂ ta λ x ex rx.
      num_typed ag.parties env e.values ok.values w.within u₃ ti λ y ey ry.
      good_bind ag fair.few (heads_declared ag mains fair) W (stand_for e.params bs) (window e a w) _
      (record { first = pos a +ℤ x; last = (pos a +ℤ x) +ℤ y }) (window_is e a w x y ex ey)
      (by_timing_lem (λ o. Good ag W (stand_for e.params bs) (or_stuck o)) _ r.time _ _ _
      (λ late-now. blamed_ok ag n env e ok fair.few b bo λ who eq st lt.
      good_bind ag fair.few (heads_declared ag mains fair) W (stand_for e.params bs) (blamed e.params b) _ who
      eq
      (breach_good ag W e.params b who (later_of a ((pos a +ℤ x) +ℤ y)) ps bs st (some_inj q₃) (
        omega (arith, later_from_lem a ((pos a +ℤ x) +ℤ y), wa.0),
        later_to a r.time ((pos a +ℤ x) +ℤ y) wa.1 late-now,
      )))
      (λ _ _. (activating_good ag mains fair W).obligation n env b w t e a bs ok wa ty pl)
      (λ not_late begun. taken_good n env e w vs (pos a +ℤ x) y t ps (stand_for e.params bs) _ u₁ ok rt tc ry not_late
      begun p (subst (λ z. Placed ag n z t) (or_nil_is w vs env rt) pl.1)
      (tail_sub e.params b ps bs (some_inj q₃)) (omega (arith, wa.0, wa.1))
      ((activating_good ag mains fair W).obligation n env b w t e a bs ok wa ty pl)))

  following_choice : (n : ℕ) (env : List Ty) (w : Wait) (t f : Clause) (e : Sight) (a : ℕ) (bs : List ℕ)
      (g : ℕ → Outcome) → SightOk ag n env e → W a → type_clause (names_of ag n) env (choice w t f) ≡ some bs
      → Placed ag n env (choice w t f)
      → ((qs : List ℕ) (u : ℕ) → type_clause (names_of ag n) env f ≡ some qs → W u
      → Good ag W (stand_for e.params qs) (g u))
      → Good ag W (stand_for e.params bs) ((following ag.templates r).on_choice e a w t g)
  unfolding following or_stuck type_clause Placed activating Sub
  following_choice n env w t f e a bs g ok wa ty pl h =
      from_bind (type_wait (names_of ag n) env w) _ bs ty λ vs tw q₂.
      from_bind (type_clause (names_of ag n) (then_sight env vs) t) _ bs q₂ λ ps p q₃.
      from_bind (type_clause (names_of ag n) env f) _ bs q₃ λ qs p' q₄.
      from_wait ag n env w vs tw λ u₁ u₂ u₃ rt tc ta ti.
      num_typed ag.parties env e.values ok.values w.after u₂ ta λ x ex rx.
      num_typed ag.parties env e.values ok.values w.within u₃ ti λ y ey ry.
      good_bind ag fair.few (heads_declared ag mains fair) W (stand_for e.params bs) (window e a w) _
      (record { first = pos a +ℤ x; last = (pos a +ℤ x) +ℤ y }) (window_is e a w x y ex ey)
      (by_timing_lem (λ o. Good ag W (stand_for e.params bs) (or_stuck o)) _ r.time _ _ _
      (λ late-now. good_sub ag W (stand_for e.params qs) (stand_for e.params bs)
      (g (later_of a ((pos a +ℤ x) +ℤ y))) (stand_sub e.params qs bs
      (subst (λ l. Sub qs l) (some_inj q₄) (λ z k. in_right z ps qs k)))
      (h qs (later_of a ((pos a +ℤ x) +ℤ y)) p' (
        omega (arith, later_from_lem a ((pos a +ℤ x) +ℤ y), wa.0),
        later_to a r.time ((pos a +ℤ x) +ℤ y) wa.1 late-now,
      )))
      (λ _ _. (activating_good ag mains fair W).choice n env w t f e a bs g ok wa ty pl h)
      (λ not_late begun. taken_good n env e w vs (pos a +ℤ x) y t ps (stand_for e.params bs) _ u₁ ok rt tc ry not_late
      begun p (subst (λ z. Placed ag n z t) (or_nil_is w vs env rt) pl.1)
      (stand_sub e.params ps bs (subst (λ l. Sub ps l) (some_inj q₄) (λ z k. in_left z ps qs k)))
      (omega (arith, wa.0, wa.1))
      ((activating_good ag mains fair W).choice n env w t f e a bs g ok wa ty pl h)))

  -- Following a reading is good at obligations and choices: late, taken or waiting on ("For each unit, in this order").
  pub following_good : StepGood ag fair.few (heads_declared ag mains fair) W (following ag.templates r)
  following_good = record { obligation = following_obligation; choice = following_choice }

  -- ---- a whole residue
  pub follow_good : (now : ℕ) → now ≤ r.time → (res : Residue) (ps : List ℕ)
      → Ok ag (λ t. (ag.start ≤ t) × (t ≤ now)) res ps → Good ag W ps (follow ag r res)
  unfolding follow
  follow_good now le = across_good ag mains fair (λ t. (ag.start ≤ t) × (t ≤ now)) W
      (λ t h. (h.0, omega (arith, h.1))) (following ag.templates r) following_good
