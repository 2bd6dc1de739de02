-- Fig. 8 to the letter always applies to an accepted agreement: its texts are typed, and a reading leaves a typed
-- text or a breach of the text's parties (CSL Theorems 10 and 11).
use mathlib.Core.Bool.{Bool, true, false, not}
use mathlib.Core.List.{List, [], ◌∷◌, ◌++◌}
use mathlib.Core.Option.{Option, some}
use mathlib.Core.Path.{ap, ap₂, refl, subst, sym, ◌∙◌, ◌≡◌}
use Prim.Native.Nat.{ℕ}
use native.Mathlib.Omega.{arith}
use borrow.Author.Tests.{eqb-false}
use lib.Dec.{T, eqb, eqb→eq, leb}
use lib.IntN.{ℤ, pos, ◌+ℤ◌, ◌-ℤ◌}
use lib.ListN.{length}
use lib.Signed.{lt_z, ◌≤ℤ◌, ◌<ℤ◌, lt_z_yes, lt_z_no, clash_ℤ}
use Rattle.csl.specs.Lists.{◌>>=◌, need}
use Rattle.csl.specs.Numbers.{in_range, later_of}
use Rattle.csl.specs.Syntax.{Agreement, Clause, Join, and, or, Ty, Wait, choice, number, number_lit, obligation, truth}
use Rattle.csl.specs.Typing.{Names, blame_ok, has_type, join_ok, names_of, reading_of_type, same_ty, then_sight}
use Rattle.csl.specs.Typing.{type_clause}
use Rattle.csl.specs.Typing.{type_expr, type_wait}
use Rattle.csl.specs.Values.{eval_bool}
use Rattle.csl.specs.Outcomes.{Sight, Outcome, breach, joined}
use Rattle.csl.specs.Rules.{Reading, Window, with_values}
use Rattle.csl.specs.Table.{stand_for}
use Rattle.laws.proofs.Bools.{not_T→false}
use Rattle.laws.proofs.Options.{from_bind, from_need, passes, some_bind, some_inj}
use Rattle.laws.proofs.Integers.{later_from_lem}
use Rattle.soundness.proofs.Members.{Sub, in_left, in_right, join_ok_sub, stand_sub, sub_both, sub_refl, sub_trans}
use Rattle.soundness.proofs.Evaluation.{HasTy, HaveTy, HaveTy-++}
use Rattle.soundness.proofs.Times.{later_to, remaining_range}
use Rattle.soundness.proofs.Good.{Good, SightOk, good_sub, joined_good, left_good, right_good}
use Rattle.soundness.proofs.Walks.{Fair, blamed_ok, bool_typed, num_typed}
use Rattle.soundness.proofs.Following.{ReadingOk, breach_good, from_wait}
use Rattle.soundness.proofs.Runs.{Since, not_stuck}
use Rattle.published.specs.Fig6.{Due, due}
use Rattle.published.specs.Verdicts.{Joins, and_first, and_second, and_same, or_first, or_second, or_same}
use Rattle.published.specs.Fig8.{Matches, matching, Waits, early, other, untrue}
use Rattle.published.specs.Literal.{rewritten, Residual, clause, breached, Composes, l_clauses, l_and_left}
use Rattle.published.specs.Literal.{l_and_right, l_and_first, l_and_second, l_and_same, l_or_left, l_or_right}
use Rattle.published.specs.Literal.{l_or_first, l_or_second, l_or_same}
use Rattle.published.proofs.Sighted.{Text, closed, joins, Sighted, i_fulfilment, i_obligation_matched}
use Rattle.published.proofs.Sighted.{i_obligation_late, i_obligation_waiting, i_choice_matched, i_choice_late}
use Rattle.published.proofs.Sighted.{i_choice_waiting, i_composition, i_joins, i_internal_true}
use Rattle.published.proofs.Sighted.{i_internal_false, i_instantiation}
use Rattle.published.proofs.Evaluations.{bool_derived, num_derived, stands_derived}
use Rattle.published.proofs.Verdicts.{joins_derived}
use Rattle.published.proofs.Existence.{Rules, typed_gives}
use Rattle.published.proofs.Ranges.{rewritten_range}

-- a text that is typed, with the parties that it can blame
pub data Typed (ag : Agreement) : Text → List ℕ → Type 0 where
  t_clause : {s : Sight} {c : Clause} (n : ℕ) (env : List Ty) (bs : List ℕ) → SightOk ag n env s
      → type_clause (names_of ag n) env c ≡ some bs → Typed ag (closed s c) (stand_for s.params bs)
  t_joins : {j : Join} {x y : Text} {ps qs : List ℕ} → Typed ag x ps → Typed ag y qs → T (join_ok j (ps ++ qs))
      → Typed ag (joins j x y) (ps ++ qs)

-- ---- a rewritten wait is typed as it was
literal_typed : (ps : ℕ) (env : List Ty) (z : ℤ) → T (in_range z) → has_type ps env (number_lit z) number ≡ some tt
unfolding has_type type_expr same_ty need
literal_typed ps env z h = some_bind (type_expr ps env (number_lit z)) _ number (passes (in_range z) _ h)

-- typing a wait asks for the types of `after` and `within` last
abbrev wait_with : Names → List Ty → Wait → Option (Unit {0}) → Option (Unit {0}) → Option (List Ty)
wait_with n env w p q = reading_of_type n.readings w.wanted >>= λ vs. need (leb (length (then_sight env vs)) 16) >>=
    λ _. has_type n.parties (env ++ vs) w.condition truth >>= λ _. p >>= λ _. q >>= λ _. some vs

rewritten_typed : (n : Names) (env : List Ty) (w : Wait) (d : Window) (t : ℕ) (u₁ u₂ : Unit {0})
    → has_type n.parties env w.after number ≡ some u₁ → has_type n.parties env w.within number ≡ some u₂
    → T (in_range (d.first -ℤ pos t)) → T (in_range (d.last -ℤ d.first))
    → type_wait n env (rewritten w d t) ≡ type_wait n env w
unfolding type_wait
rewritten_typed n env w d t u₁ u₂ p q h k = ap₂ (wait_with n env w) (literal_typed n.parties env _ h)
    (literal_typed n.parties env _ k) ∙ sym (ap₂ (wait_with n env w) p q)

-- ---- tests of times
true_lt_z : (x y : ℤ) → lt_z x y ≡ true → x <ℤ y
true_lt_z x y e = lt_z_yes (subst T (sym e) tt)

false_lt_z : (x y : ℤ) → lt_z x y ≡ false → y ≤ℤ x
false_lt_z x y e = lt_z_no (subst (λ z. T (not z)) (sym e) tt)

not_less : (x y : ℤ) → y ≤ℤ x → T (not (lt_z x y))
not_less x y h = rw (not_T→false (lt_z x y) (λ t. clash_ℤ (lt_z_yes {a = x} {b = y} t) h)) tt

-- ---- two breaches that can be joined as outcomes can be joined to the letter
two_breaches : {j : Join} {t u : ℕ} {B C : List ℕ} {o : Outcome} → Joins j (breach t B) (breach u C) o
    → (v : ℕ) × (E : List ℕ) × Composes joins j (breached t B) (breached u C) (breached v E) × (o ≡ breach v E)
two_breaches (and_first l) = (_, _, l_and_first l, refl)
two_breaches (and_second l) = (_, _, l_and_second l, refl)
two_breaches and_same = (_, _, l_and_same, refl)
two_breaches (or_first l) = (_, _, l_or_first l, refl)
two_breaches (or_second l) = (_, _, l_or_second l, refl)
two_breaches (or_same l) = (_, _, l_or_same l, refl)

module _ (ag : Agreement) (mains : List ℕ) (fair : Fair ag mains) (ε : Reading) (rok : ReadingOk ag ε) where
  abbrev W : ℕ → Type 0
  W t = Since ag ε.time t

  -- a typed text whose parties are among P, or a breach by some of P at a time from the start to the reading
  abbrev pub Sound : List ℕ → Residual Text → Type 0
  Sound P (clause x) = (ps : List ℕ) × Typed ag x ps × Sub ps P
  Sound P (breached t B) = Good ag W P (breach t B)

  sound_sub : (P Q : List ℕ) (r : Residual Text) → Sub P Q → Sound P r → Sound Q r
  sound_sub P Q (clause x) h g = (g.0, g.1, sub_trans g.0 P Q g.2 h)
  sound_sub P Q (breached t B) h g = good_sub ag W P Q (breach t B) h g

  composed : (j : Join) (P Q : List ℕ) (r₁ r₂ : Residual Text) → T (join_ok j (P ++ Q)) → Sound P r₁ → Sound Q r₂
      → (r : Residual Text) × Composes joins j r₁ r₂ r × Sound (P ++ Q) r
  unfolding Sub
  composed j P Q (clause x) (clause y) ok f g =
      let both-in = sub_both f.0 g.0 P Q f.2 g.2 in (
        clause (joins j x y),
        l_clauses,
        (
          f.0 ++ g.0,
          t_joins f.1 g.1 (join_ok_sub j (f.0 ++ g.0) (P ++ Q) both-in ok),
          both-in,
        ),
      )
  composed and P Q (clause x) (breached t B) ok f g = (breached t B, l_and_right, right_good ag W P Q (breach t B) g)
  composed or P Q (clause x) (breached t B) ok f
      g = (clause x, l_or_left, sound_sub P (P ++ Q) (clause x) (λ z k. in_left z P Q k) f)
  composed and P Q (breached t B) (clause y) ok f g = (breached t B, l_and_left, left_good ag W P Q (breach t B) f)
  composed or P Q (breached t B) (clause y) ok f
      g = (clause y, l_or_right, sound_sub Q (P ++ Q) (clause y) (λ z k. in_right z P Q k) g)
  composed j P Q (breached t B) (breached u C) ok f g =
      let h = joined_good ag W j P Q (breach t B) (breach u C) ok f g in
      let d = joins_derived j (breach t B) (breach u C)
      (not_stuck ag (P ++ Q) ε.time (joined j (breach t B) (breach u C)) h) in
      let z = two_breaches d.2 in
      (breached z.0 z.1, z.2, subst (λ o. Good ag W (P ++ Q) o) z.3 h)

  -- ---- the three ways of a unit
  data Way (n : ℕ) (env : List Ty) (s : Sight) (τ : ℕ) (w : Wait) (vs : List Ty) (d : Window) : Type 0 where
    is_late : d.last <ℤ pos ε.time → W (later_of τ d.last) → Way n env s τ w vs d
    is_matched : Matches ε s w d
        → SightOk ag n (then_sight env vs) (with_values s ε.values (d.last -ℤ pos ε.time)) → Way n env s τ w vs d
    is_waiting : Waits ε s w d → type_wait (names_of ag n) env (rewritten w d ε.time) ≡ type_wait (names_of ag n) env w
        → Way n env s τ w vs d

  module _ (n : ℕ) (env : List Ty) (s : Sight) (τ : ℕ) (w : Wait) (vs : List Ty) (ok : SightOk ag n env s) (wτ : W τ)
    where
      -- a typed wait whose `after` and `within` are x and y
      module _ (x y : ℤ) (u₁ u₂ u₃ : Unit {0}) (rt : reading_of_type ag.readings w.wanted ≡ some vs)
          (tc : has_type ag.parties (env ++ vs) w.condition truth ≡ some u₁)
          (ta : has_type ag.parties env w.after number ≡ some u₂)
          (ti : has_type ag.parties env w.within number ≡ some u₃) (rx : T (in_range x)) (ry : T (in_range y)) where
        abbrev win : Window
        win = record { first = pos τ +ℤ x; last = (pos τ +ℤ x) +ℤ y }

        -- `where` and `then` see the reading's values, which are of their types
        seen : w.wanted ≡ ε.type → HaveTy ag.parties (env ++ vs) (s.values ++ ε.values)
        unfolding ReadingOk
        seen e = HaveTy-++ ag.parties env vs s.values ε.values ok.values
            (rok vs (subst (λ z. reading_of_type ag.readings z ≡ some vs) e rt))

        matches : Matches ε s w win → Way n env s τ w vs win
        unfolding with_values then_sight HaveTy HasTy
        matches (matching p c f l) = is_matched (matching p c f l) (record {
          count = ok.count;
          few_params = ok.few_params;
          range = ok.range;
          values = HaveTy-++ ag.parties (env ++ vs) (number ∷ []) (s.values ++ ε.values) _ (seen p)
              (remaining_range (pos τ +ℤ x) y ε.time (not_less _ _ f) (not_less _ _ l) ry, tt);
        })

        waits : pos ε.time ≤ℤ win.last → Waits ε s w win → Way n env s τ w vs win
        unfolding names_of
        waits l k = let r = rewritten_range x y τ ε.time rx ry wτ.1 l in
            is_waiting k (rewritten_typed (names_of ag n) env w win ε.time u₂ u₃ ta ti r.0 r.1)

        -- the reading is not late
        in_time : pos ε.time ≤ℤ win.last → Way n env s τ w vs win
        in_time l = wanted (eqb w.wanted ε.type) (lt_z (pos ε.time) win.first) refl refl
          where
            asked : (b : Bool) → w.wanted ≡ ε.type → win.first ≤ℤ pos ε.time
                → eval_bool (s.values ++ ε.values) w.condition ≡ some b → Way n env s τ w vs win
            asked true p f h = matches (matching p (bool_derived (s.values ++ ε.values) w.condition true h) f l)
            asked false p f h = waits l (untrue l (bool_derived (s.values ++ ε.values) w.condition false h))

            wanted : (b c : Bool) → eqb w.wanted ε.type ≡ b → lt_z (pos ε.time) win.first ≡ c
                → Way n env s τ w vs win
            wanted false c p f = waits l (other l (eqb-false w.wanted ε.type p))
            wanted true true p f = waits l (early l (true_lt_z _ _ f))
            wanted true false p f =
                let same = eqb→eq w.wanted ε.type (subst T (sym p) tt) in
                bool_typed ag.parties (env ++ vs) (s.values ++ ε.values) (seen same) w.condition u₁ tc λ b h.
                asked b same (false_lt_z _ _ f) h

        lateness : (b : Bool) → lt_z win.last (pos ε.time) ≡ b → Way n env s τ w vs win
        lateness true e = let l = true_lt_z _ _ e in
            is_late l (omega (arith, later_from_lem τ win.last, wτ.0), later_to τ ε.time win.last wτ.1 l.lt)
        lateness false e = in_time (false_lt_z _ _ e)

      way : type_wait (names_of ag n) env w ≡ some vs → (d : Window) × Due s.values τ w d × Way n env s τ w vs d
      way tw =
          from_wait ag n env w vs tw λ u₁ u₂ u₃ rt tc ta ti.
          num_typed ag.parties env s.values ok.values w.after u₂ ta λ x ex rx.
          num_typed ag.parties env s.values ok.values w.within u₃ ti λ y ey ry. (
            _,
            due x y (num_derived s.values w.after x ex) (num_derived s.values w.within y ey),
            lateness x y u₁ u₂ u₃ rt tc ta ti rx ry _ refl,
          )

  -- ---- a text and what the letter gives of it at τ
  abbrev pub Given : ℕ → Text → List ℕ → Type 0
  Given τ x P = (r : Residual Text) × Sighted ag.templates ε τ x r × Sound P r

  abbrev Reduced : Sight → ℕ → Clause → Residual Text → Type 0
  Reduced s τ c r = Sighted ag.templates ε τ (closed s c) r

  owed : (n : ℕ) (env : List Ty) (b : ℕ) (w : Wait) (c : Clause) (s : Sight) (τ : ℕ) (bs : List ℕ)
      → SightOk ag n env s → W τ → type_clause (names_of ag n) env (obligation b w c) ≡ some bs
      → Given τ (closed s (obligation b w c)) (stand_for s.params bs)
  unfolding type_clause Sub names_of with_values
  owed n env b w c s τ bs ok wτ ty =
      from_need (blame_ok (names_of ag n) b) _ bs ty λ bo q₁.
      from_bind (type_wait (names_of ag n) env w) _ bs q₁ λ vs tw q₂.
      from_bind (type_clause (names_of ag n) (then_sight env vs) c) _ bs q₂ λ ps p q₃.
      let d = way n env s τ w vs ok wτ tw in by_way bo vs ps p (some_inj q₃) d.0 d.1 d.2
    where
      retyped : (w' : Wait) → type_wait (names_of ag n) env w' ≡ type_wait (names_of ag n) env w
          → type_clause (names_of ag n) env (obligation b w' c) ≡ some bs
      retyped w' e = ap (λ z. need (blame_ok (names_of ag n) b) >>= λ _. z >>= λ vs. type_clause (names_of ag n)
          (then_sight env vs) c >>= λ ps. some (b ∷ ps)) e ∙ ty

      by_way : T (blame_ok (names_of ag n) b) → (vs : List Ty) (ps : List ℕ)
          → type_clause (names_of ag n) (then_sight env vs) c ≡ some ps → b ∷ ps ≡ bs → (d : Window)
          → Due s.values τ w d → Way n env s τ w vs d
          → Given τ (closed s (obligation b w c)) (stand_for s.params bs)
      by_way bo vs ps p eq d dd (is_late l wl) = blamed_ok ag n env s ok fair.few b bo λ who e st lt. (
        _,
        i_obligation_late d dd l (stands_derived s.params b who e),
        breach_good ag W s.params b who (later_of τ d.last) ps bs st eq wl,
      )
      by_way bo vs ps p eq d dd (is_matched m known) = (
        _,
        i_obligation_matched d dd m,
        (
          _,
          t_clause n (then_sight env vs) ps known p,
          stand_sub s.params ps bs (subst (λ l. Sub ps l) eq (λ x i. in_right x (b ∷ []) ps i)),
        ),
      )
      by_way bo vs ps p eq d dd (is_waiting k e) = (
        _,
        i_obligation_waiting d dd k,
        (_, t_clause n env bs ok (retyped (rewritten w d ε.time) e), sub_refl (stand_for s.params bs)),
      )

  chosen : (n : ℕ) (env : List Ty) (w : Wait) (c f : Clause) (s : Sight) (τ : ℕ) (bs : List ℕ)
      → SightOk ag n env s → W τ → type_clause (names_of ag n) env (choice w c f) ≡ some bs
      → ((qs : List ℕ) (u : ℕ) → type_clause (names_of ag n) env f ≡ some qs → W u
      → Given u (closed s f) (stand_for s.params qs))
      → Given τ (closed s (choice w c f)) (stand_for s.params bs)
  unfolding type_clause Sub names_of with_values
  chosen n env w c f s τ bs ok wτ ty else-gives =
      from_bind (type_wait (names_of ag n) env w) _ bs ty λ vs tw q₂.
      from_bind (type_clause (names_of ag n) (then_sight env vs) c) _ bs q₂ λ ps p q₃.
      from_bind (type_clause (names_of ag n) env f) _ bs q₃ λ qs p' q₄.
      let d = way n env s τ w vs ok wτ tw in by_way vs ps qs p p' (some_inj q₄) d.0 d.1 d.2
    where
      retyped : (w' : Wait) → type_wait (names_of ag n) env w' ≡ type_wait (names_of ag n) env w
          → type_clause (names_of ag n) env (choice w' c f) ≡ some bs
      retyped w' e = ap (λ z. z >>= λ vs. type_clause (names_of ag n) (then_sight env vs) c >>= λ ps. type_clause
          (names_of ag n) env f >>= λ qs. some (ps ++ qs)) e ∙ ty

      by_way : (vs : List Ty) (ps qs : List ℕ) → type_clause (names_of ag n) (then_sight env vs) c ≡ some ps
          → type_clause (names_of ag n) env f ≡ some qs → ps ++ qs ≡ bs → (d : Window) → Due s.values τ w d
          → Way n env s τ w vs d
          → Given τ (closed s (choice w c f)) (stand_for s.params bs)
      by_way vs ps qs p p' eq d dd (is_late l wl) =
          let g = else-gives qs (later_of τ d.last) p' wl in (
            g.0,
            i_choice_late d dd l g.1,
            sound_sub (stand_for s.params qs) (stand_for s.params bs) g.0
                (stand_sub s.params qs bs (subst (λ l. Sub qs l) eq (λ x i. in_right x ps qs i))) g.2,
          )
      by_way vs ps qs p p' eq d dd (is_matched m known) = (
        _,
        i_choice_matched d dd m,
        (
          _,
          t_clause n (then_sight env vs) ps known p,
          stand_sub s.params ps bs (subst (λ l. Sub ps l) eq (λ x i. in_left x ps qs i)),
        ),
      )
      by_way vs ps qs p p' eq d dd (is_waiting k e) = (
        _,
        i_choice_waiting d dd k,
        (_, t_clause n env bs ok (retyped (rewritten w d ε.time) e), sub_refl (stand_for s.params bs)),
      )

  sighted_rules : Rules ag W (Residual Text) Sound Reduced
  sighted_rules = record {
    fine_sub = sound_sub;
    fulfilment = λ n env s τ bs ok ty. (
      _,
      i_fulfilment,
      (_, t_clause n env bs ok ty, sub_refl (stand_for s.params bs)),
    );
    obligation = owed;
    choice = chosen;
    internal_true = λ s τ x t f r e p. i_internal_true e p;
    internal_false = λ s τ x t f r e p. i_internal_false e p;
    composition = λ s τ j t f P Q ok g h. let c = composed j P Q g.0 h.0 ok g.2 h.2 in
        (c.0, i_composition g.1 h.1 c.1, c.2);
    instantiation = λ s τ k es bs ps vs t r de db e p. i_instantiation de db e p;
  }

  -- Theorems 10 and 11 to the letter: a typed text has a residue, which is typed or a breach by its parties, from the
  -- start to the reading
  pub text_gives : {x : Text} {ps : List ℕ} (τ : ℕ) → Typed ag x ps → W τ → Given τ x ps
  text_gives τ (t_clause {s = s} {c = c} n env bs ok ty) wτ = typed_gives ag W (Residual Text) Sound Reduced mains
      fair sighted_rules c n env s τ bs ok wτ ty
  text_gives τ (t_joins {j = j} {ps = ps} {qs = qs} x y ok) wτ =
      let g = text_gives τ x wτ in
      let h = text_gives τ y wτ in
      let c = composed j ps qs g.0 h.0 ok g.2 h.2 in
      (c.0, i_joins g.1 h.1 c.1, c.2)
