-- On a typed clause the rules on cells show what csl's rules reckon, whatever is reckoned: the outcome as the table
-- writes it, and what is counted (`outcomes_match` and `tallies_match` in `Shows`).
-- Main theorems: `activate_shows`, `follow_shows`, `forecast_shows`.
use mathlib.Core.Bool.{Bool, cond, false, not, true, ◌&&◌}
use mathlib.Core.List.{List, [], ◌∷◌, ◌++◌}
use mathlib.Core.Option.{Option, some}
use mathlib.Core.Path.{ap, refl, subst, sym, ◌∙◌, ◌≡◌}
use Prim.Native.Nat.{◌<◌, suc, zero, ℕ, ◌≤◌}
use native.Mathlib.Omega.{arith}
use borrow.Author.Tests.{not-true}
use lib.Dec.{T, eqb, eqb→eq, leb, leb→le, ltb, ltb→lt}
use lib.IntN.{◌-ℤ◌, pos, ℤ}
use lib.ListN.{length}
use lib.Seq.{take_all}
use lib.Signed.{lt_z}
use Rattle.csl.specs.Lists.{◌>>=◌, all, at, or_nil}
use Rattle.csl.specs.Numbers.{in_range}
use Rattle.csl.specs.Syntax.{Agreement, Clause, Head, Ty, Wait, bad_clause, choice, fulfilled, if, instance}
use Rattle.csl.specs.Syntax.{join, number, obligation, truth}
use Rattle.csl.specs.Typing.{blame_ok, has_type, have_types, heads_in, names_of, reading_of_type, then_sight}
use Rattle.csl.specs.Typing.{type_clause}
use Rattle.csl.specs.Typing.{type_wait}
use Rattle.csl.specs.Guards.{guarded_in}
use Rattle.csl.specs.Values.{Val, eval_bool, evals, num}
use Rattle.csl.specs.Outcomes.{Sight, a_choice, an_obligation}
use Rattle.csl.specs.Windows.{Reading, Window, blamed, blamed_all, early, late, on_time, timing, window, with_values}
use Rattle.csl.specs.Reckoning as Open
use Rattle.csl.specs.Reckoning.{Reckoning, StepOf}
use Rattle.csl.specs.Table.{cell_of, cells_of, nat_cells, sort_number, stand_for}
use Rattle.laws.proofs.Bools.{T-left, T-right, T→true, true→T}
use Rattle.laws.proofs.Options.{from_bind, from_need, some_inj, none_some}
use Rattle.laws.proofs.Timings.{timing_early, timing_late, timing_on_time}
use Rattle.soundness.proofs.Evaluation.{HasTy, HaveTy, HaveTy-++}
use Rattle.soundness.proofs.Times.{by_timing_lem, remaining_range}
use Rattle.soundness.proofs.Good.{Placed, SightOk}
use Rattle.soundness.proofs.Walks.{Fair, at_heads, blamed_ok, blamed_all_ok, evals_typed, num_typed}
use Rattle.soundness.proofs.Activation.{typed_guarded}
use Rattle.soundness.proofs.Following.{ReadingOk, from_wait, or_nil_is, window_is}
use Rattle.soundness.proofs.RoundTrip.{len_cells, len_typed}
use Rattle.cells.specs.Evaluate.{eval_cells, is_true_cell}
use Rattle.cells.specs.Reduce as cells
use Rattle.cells.specs.Reduce.{Mode, Reckoned}
use Rattle.cells.proofs.Unfolds.{unfold_at}
use Rattle.bridge.proofs.Evaluate.{evals_cells_lem, num_cells, truth_cells}
use Rattle.bridge.proofs.Shows.{Matches, blame_bits_lem, blamed_cells_lem, cells_++, match_bind}

-- ---- the walk, whatever is reckoned and whatever the step
module _ {A : Type 0} {g : Reckoning A} {R : A → Reckoned → Type 0} (z : Matches g R) (ag : Agreement) (mains : List ℕ)
    (fair : Fair ag mains) where
  -- what the step makes of an obligation or a choice, the mode shows on cells
  pub record StepShows (s : StepOf A) (md : Mode) (th : Clause → List ℤ → List ℤ → ℕ → Reckoned) : Type 0 where
    pub obligation : (n : ℕ) (env : List Ty) (b : ℕ) (w : Wait) (t : Clause) (e : Sight) (a : ℕ) (bs : List ℕ)
        (un : ℕ → List ℤ → List ℤ → ℕ → Reckoned)
        → SightOk ag n env e → type_clause (names_of ag n) env (obligation b w t) ≡ some bs
        → Placed ag n env (obligation b w t)
        → R (g.reaches (s.on_obligation e a b w t)) (cells.walk md th un (obligation b w t) (nat_cells e.params)
        (cells_of e.values) a)
    pub choice : (n : ℕ) (env : List Ty) (w : Wait) (t f : Clause) (e : Sight) (a : ℕ) (bs : List ℕ)
        (un : ℕ → List ℤ → List ℤ → ℕ → Reckoned) (else : ℕ → A)
        → SightOk ag n env e → type_clause (names_of ag n) env (choice w t f) ≡ some bs
        → Placed ag n env (choice w t f)
        → ((qs : List ℕ) (u : ℕ) → type_clause (names_of ag n) env f ≡ some qs
        → R (else u) (cells.walk md th un f (nat_cells e.params) (cells_of e.values) u))
        → R (g.reaches (s.on_choice e a w t else)) (cells.walk md th un (choice w t f) (nat_cells e.params)
        (cells_of e.values) a)

  -- instances of the templates below m
  unfoldable UnfoldShows : ℕ → (ℕ → List Val → List ℕ → ℕ → A) → (ℕ → List ℤ → List ℤ → ℕ → Reckoned) → Type 0
  UnfoldShows m un un' = (k : ℕ) (h : Head) (vs : List Val) (ps : List ℕ) (a : ℕ) → k < m
      → at (heads_in ag.templates) k ≡ some h → HaveTy ag.parties h.values vs → length ps ≡ h.params
      → T (all (λ x. ltb x ag.parties) ps) → R (un k vs ps a) (un' k (nat_cells ps) (cells_of vs) a)

  module _ (s : StepOf A) (md : Mode) (th : Clause → List ℤ → List ℤ → ℕ → Reckoned) (ss : StepShows s md th) where
    module _ (m : ℕ) (un : ℕ → List Val → List ℕ → ℕ → A) (un' : ℕ → List ℤ → List ℤ → ℕ → Reckoned)
        (us : UnfoldShows m un un') where
      walk_shows : (c : Clause) (n : ℕ) (env : List Ty) (e : Sight) (a : ℕ) (bs : List ℕ) → T (guarded_in m c)
          → SightOk ag n env e → type_clause (names_of ag n) env c ≡ some bs → Placed ag n env c
          → R (Open.walk g s un c e a) (cells.walk md th un' c (nat_cells e.params) (cells_of e.values) a)
      unfolding Open.walk Open.or_stops cells.walk guarded_in Placed type_clause names_of UnfoldShows
      walk_shows fulfilled n env e a bs gd ok ty pl = z.reaches _ _ z.ends
      walk_shows (obligation b w t) n env e a bs gd ok ty pl = ss.obligation n env b w t e a bs un' ok ty pl
      walk_shows (choice w t f) n env e a bs gd ok ty pl = ss.choice n env w t f e a bs un'
          (λ u. Open.walk g s un f e u) ok ty pl (λ qs u tyf. walk_shows f n env e u qs gd ok tyf pl.2)
      walk_shows (if x t f) n env e a bs gd ok ty pl =
          from_bind (has_type ag.parties env x truth) _ bs ty λ u tx q₀.
          from_bind (type_clause (names_of ag n) env t) _ bs q₀ λ ps p q.
          from_bind (type_clause (names_of ag n) env f) _ bs q λ qs p' q'.
          z.reaches _ _ (match_bind g R (eval_bool e.values x) _ _ _
          (truth_cells ag.parties fair.few env e.values ok.values x u tx)
          (pick (is_true_cell (eval_cells (cells_of e.values) x))
          (walk_shows t n env e a ps (T-left (guarded_in m t) _ gd) ok p pl.0)
          (walk_shows f n env e a qs (T-right (guarded_in m t) _ gd) ok p' pl.1)))
        where
          side : Clause → A
          side c = Open.walk g s un c e a

          on_cells : Clause → Reckoned
          on_cells c = cells.walk md th un' c (nat_cells e.params) (cells_of e.values) a

          pick : (b : Bool) → R (side t) (on_cells t) → R (side f) (on_cells f)
              → R (Open.or_stops g (elim b [ true ↦ some (side t) | false ↦ some (side f) ]))
              (elim b [ true ↦ on_cells t | false ↦ on_cells f ])
          pick true h k = h
          pick false h k = k
      walk_shows (join j t f) n env e a bs gd ok ty pl =
          from_bind (type_clause (names_of ag n) env t) _ bs ty λ ps p q.
          from_bind (type_clause (names_of ag n) env f) _ bs q λ qs p' q'.
          z.reaches _ _ (z.joins j _ _ _ _
          (walk_shows t n env e a ps (T-left (guarded_in m t) _ gd) ok p pl.0)
          (walk_shows f n env e a qs (T-right (guarded_in m t) _ gd) ok p' pl.1))
      walk_shows (instance k es cs) n env e a bs gd ok ty pl =
          from_bind (at (heads_in ag.templates) k) _ bs ty λ h p q.
          from_bind (have_types ag.parties env es h.values) _ bs q λ u te q₂.
          from_need (eqb (length cs) h.params && all (blame_ok (names_of ag n)) cs) _ bs q₂ λ t r.
          let ev = evals_typed ag.parties env e.values ok.values es h.values u te in
          let bl = blamed_all_ok ag n env e ok fair.few cs (T-right (eqb (length cs) h.params) _ t) in
          z.reaches _ _ (match_bind g R (evals e.values es) _ ev.0 _ ev.1
          (match_bind g R (blamed_all e.params cs) _ (stand_for e.params cs) _ bl.0
          (rw (
            blamed_cells_lem e.params cs (stand_for e.params cs) bl.0,
            evals_cells_lem ag.parties fair.few env e.values ok.values es h.values u ev.0 te ev.1,
          )
          (us k h ev.0 (stand_for e.params cs) a (ltb→lt k m gd) p ev.2
          (bl.2 ∙ eqb→eq (length cs) h.params (T-left (eqb (length cs) h.params) _ t)) bl.1))))
      walk_shows bad_clause n env e a bs gd ok ty pl = none_some ty

    -- csl bounds how many instances stand in one another, the cells which template may be named: the walk is the same
    -- for any bound m from the template's number j on
    walk_in_shows : (m j : ℕ) → j ≤ m → (c : Clause) (n : ℕ) (env : List Ty) (e : Sight) (a : ℕ) (bs : List ℕ)
        → T (guarded_in j c) → SightOk ag n env e → type_clause (names_of ag n) env c ≡ some bs → Placed ag n env c
        → R (Open.walk_in g s ag.templates m c e a)
        (cells.walk md th (cells.unfold_below md th ag.templates j) c (nat_cells e.params) (cells_of e.values) a)
    unfolding Open.walk_in Open.or_stops UnfoldShows
    walk_in_shows zero j le = walk_shows j _ _ (λ k h vs ps u lt. absurd (omega arith))
    walk_in_shows (suc m) j le = walk_shows j _ _
        λ k h vs ps u lt ph hv cnt rng.
        at_heads ag.templates k h ph λ t pt eq.
        let ft = fair.templates k t pt in
        match_bind g R (at ag.templates k) _ t _ pt
        (rw (unfold_at md th ag.templates (nat_cells ps) (cells_of vs) u j k lt pt)
        (walk_in_shows m k (omega arith) t.body t.head.params t.head.values
        (record { params = ps; values = vs }) u ft.blames ft.guarded
        (record {
          count = cnt ∙ ap (λ x. x.params) (sym eq);
          few_params = ft.few_params;
          range = rng;
          values = subst (λ x. HaveTy ag.parties x.values vs) (sym eq) hv;
        }) ft.typed ft.placed))

    during_shows : (c : Clause) (n : ℕ) (env : List Ty) (e : Sight) (a : ℕ) (bs : List ℕ) → SightOk ag n env e
        → type_clause (names_of ag n) env c ≡ some bs → Placed ag n env c
        → R (Open.during g s ag.templates c e a)
        (cells.walk md th (cells.unfold_below md th ag.templates (length ag.templates)) c (nat_cells e.params)
        (cells_of e.values) a)
    unfolding Open.during
    during_shows c n env e a bs ok ty pl = walk_in_shows (length ag.templates) (length ag.templates)
        (omega arith) c n env e a bs (typed_guarded ag mains fair c n env bs ty) ok ty pl

-- ---- a typed wait
module _ (ag : Agreement) (few : ag.parties ≤ 16) (n : ℕ) (env : List Ty) (e : Sight) (w : Wait) (vs : List Ty)
    (ok : SightOk ag n env e) (tw : type_wait (names_of ag n) env w ≡ some vs) where
  -- its window is the one on cells, and `within` is in range
  pub window_cells : (a : ℕ) → (window e a w ≡ some (cells.window_of (cells_of e.values) a w))
      × T (in_range (eval_cells (cells_of e.values) w.within))
  unfolding cells.window_of cells.first_of cells.last_of
  window_cells a =
      from_wait ag n env w vs tw λ u₁ u₂ u₃ rt tc ta ti.
      num_typed ag.parties env e.values ok.values w.after u₂ ta λ x ex rx.
      num_typed ag.parties env e.values ok.values w.within u₃ ti λ y ey ry.
      rw (
        num_cells ag.parties few env e.values ok.values w.after u₂ x ta ex,
        num_cells ag.parties few env e.values ok.values w.within u₃ y ti ey,
      ) (window_is e a w x y ex ey, ry)

  -- what it sees of a reading that it wants, and the truth of `where` there
  module _ (r : Reading) (rok : ReadingOk ag r) (wanted : T (eqb w.wanted r.type)) where
    seen_typed : HaveTy ag.parties (env ++ vs) (e.values ++ r.values)
    unfolding ReadingOk
    seen_typed =
        from_wait ag n env w vs tw λ u₁ u₂ u₃ rt tc ta ti.
        HaveTy-++ ag.parties env vs e.values r.values ok.values
        (rok vs (subst (λ z. reading_of_type ag.readings z ≡ some vs) (eqb→eq w.wanted r.type wanted) rt))

    pub where_cells : eval_bool (e.values ++ r.values) w.condition ≡ some
        (is_true_cell (eval_cells (cells_of e.values ++ cells_of r.values) w.condition))
    where_cells =
        from_wait ag n env w vs tw λ u₁ u₂ u₃ rt tc ta ti.
        rw (← cells_++ e.values r.values)
        (truth_cells ag.parties few (env ++ vs) (e.values ++ r.values) seen_typed w.condition u₁ tc)

-- its `then` has few values in sight
sight_few : (ag : Agreement) (n : ℕ) (env : List Ty) (w : Wait) (vs : List Ty)
    → type_wait (names_of ag n) env w ≡ some vs → length (then_sight env vs) ≤ 16
unfolding type_wait names_of
sight_few ag n env w vs e =
    from_bind (reading_of_type ag.readings w.wanted) _ vs e λ us p q.
    from_need (leb (length (then_sight env us)) 16) _ vs q λ t q₁.
    from_bind (has_type ag.parties (env ++ us) w.condition truth) _ vs q₁ λ u₁ h₁ q₂.
    from_bind (has_type ag.parties env w.after number) _ vs q₂ λ u₂ h₂ q₃.
    from_bind (has_type ag.parties env w.within number) _ vs q₃ λ u₃ h₃ q₄.
    subst (λ x. length (then_sight env x) ≤ 16) (some_inj q₄) (leb→le (length (then_sight env us)) 16 t)

-- `then` sees the reading's values and the remaining time
then_cells : (vs us : List Val) (z : ℤ) → length ((vs ++ us) ++ (num z ∷ [])) ≤ 16
    → cells_of ((vs ++ us) ++ (num z ∷ [])) ≡ cells.then_values (cells_of vs) (cells_of us) z
unfolding cells.then_values cells_of cell_of
then_cells vs us z l =
    let same = cells_++ (vs ++ us) (num z ∷ []) ∙ ap (λ l. l ++ (z ∷ [])) (cells_++ vs us) in
    same ∙ sym (take_all 16 _ (subst (λ m. m ≤ 16) (sym (len_cells ((vs ++ us) ++ (num z ∷ []))) ∙ ap length same) l))

-- what becomes of a wait, by its fate
abbrev by_fate : cells.Fate → Reckoned → Reckoned → Reckoned → Reckoned
by_fate f on out then = elim f [ cells.waits ↦ on | cells.late ↦ out | cells.taken ↦ then ]

-- of a typed clause, what `on` gives shows what is reckoned of it by a step
abbrev pub Shown : {A : Type 0} (g : Reckoning A) (R : A → Reckoned → Type 0) → Agreement → StepOf A
    → (Clause → List ℤ → List ℤ → ℕ → Reckoned) → Type 0
Shown g R ag s on = (c : Clause) (n : ℕ) (env : List Ty) (e : Sight) (a : ℕ) (bs : List ℕ) → SightOk ag n env e
    → type_clause (names_of ag n) env c ≡ some bs → Placed ag n env c
    → R (Open.during g s ag.templates c e a) (on c (nat_cells e.params) (cells_of e.values) a)

module _ {A : Type 0} {g : Reckoning A} {R : A → Reckoned → Type 0} (z : Matches g R) (ag : Agreement) (mains : List ℕ)
    (fair : Fair ag mains) where
  -- ---- activating: an obligation or choice waits
  activating_shows : (th : Clause → List ℤ → List ℤ → ℕ → Reckoned)
      → StepShows z ag mains fair (Open.activating g) cells.activating th
  unfolding Open.activating cells.walk cells.fate sort_number
  activating_shows th = record {
    obligation = λ n env b w t e a bs un ok ty pl. z.reaches _ _ (z.waits an_obligation w.place a e);
    choice = λ n env w t f e a bs un else ok ty pl h. z.reaches _ _ (z.waits a_choice w.place a e);
  }

  -- whatever a `then` becomes, since activating takes none
  activated_shows : (th : Clause → List ℤ → List ℤ → ℕ → Reckoned) → Shown g R ag (Open.activating g)
      (cells.walk cells.activating th (cells.unfold_below cells.activating th ag.templates (length ag.templates)))
  activated_shows th = during_shows z ag mains fair (Open.activating g) cells.activating th (activating_shows th)

  -- Activating a typed clause.
  pub activate_shows : Shown g R ag (Open.activating g) (cells.reduce cells.activating ag.templates)
  unfolding cells.reduce
  activate_shows = activated_shows (cells.activate ag.templates)

  -- the same of a `then` that a reading activates
  then_shows : Shown g R ag (Open.activating g) (cells.activate ag.templates)
  unfolding cells.activate
  then_shows = activated_shows (λ t qs us u. cells.ended)

  -- ---- a breach that one party answers for
  broken_shows : (n : ℕ) (env : List Ty) (e : Sight) (b t : ℕ) → SightOk ag n env e → T (blame_ok (names_of ag n) b)
      → R (Open.or_stops g (blamed e.params b >>= λ p. some (g.breaks t (p ∷ []))))
      (cells.broken t (cells.blame_bits (nat_cells e.params) b))
  unfolding Open.or_stops
  broken_shows n env e b t ok bo = blamed_ok ag n env e ok fair.few b bo λ who eb st lt.
      match_bind g R (blamed e.params b) _ who _ eb (rw (blame_bits_lem e.params b who eb) (z.breaks t (who ∷ [])))

  -- ---- forecasting
  forecasting_shows : (th : Clause → List ℤ → List ℤ → ℕ → Reckoned)
      → StepShows z ag mains fair (Open.forecasting g) cells.forecasting th
  unfolding Open.forecasting Open.or_stops cells.walk cells.fate cells.window_of type_clause
  forecasting_shows th = record {
    obligation = λ n env b w t e a bs un ok ty pl.
        from_need (blame_ok (names_of ag n) b) _ bs ty λ bo q₁.
        from_bind (type_wait (names_of ag n) env w) _ bs q₁ λ vs tw q₂.
        z.reaches _ _ (match_bind g R (window e a w) _ _ _ (window_cells ag fair.few n env e w vs ok tw a).0
        (broken_shows n env e b _ ok bo));
    choice = λ n env w t f e a bs un else ok ty pl h.
        from_bind (type_wait (names_of ag n) env w) _ bs ty λ vs tw q₂.
        from_bind (type_clause (names_of ag n) (then_sight env vs) t) _ bs q₂ λ ps p q₃.
        from_bind (type_clause (names_of ag n) env f) _ bs q₃ λ qs p' q₄.
        z.reaches _ _ (match_bind g R (window e a w) _ _ _ (window_cells ag fair.few n env e w vs ok tw a).0
        (z.becomes _ _ (h qs _ p')));
  }

  -- Forecasting a typed clause.
  pub forecast_shows : Shown g R ag (Open.forecasting g) (cells.reduce cells.forecasting ag.templates)
  unfolding cells.reduce
  forecast_shows = during_shows z ag mains fair (Open.forecasting g) cells.forecasting
      (cells.activate ag.templates) (forecasting_shows (cells.activate ag.templates))

  -- ---- following a reading
  module _ (r : Reading) (rok : ReadingOk ag r) where
    abbrev mode : Mode
    mode = cells.following r.time r.type (cells_of r.values)

    -- `then` activated at the reading's time, l being the window's end
    abbrev acted : Clause → Sight → ℤ → A
    acted t e l = g.becomes
        (Open.activate g ag.templates t (with_values e r.values (l -ℤ pos r.time)) r.time)

    abbrev acted_cells : Clause → Sight → ℤ → Reckoned
    acted_cells t e l = cells.becomes (cells.activate ag.templates t (nat_cells e.params)
        (cells.then_values (cells_of e.values) (cells_of r.values) (l -ℤ pos r.time)) r.time)

    -- a wait: o, on cells `on`, is what it is while it waits on; `out` is what a late one becomes on cells
    module _ (n : ℕ) (env : List Ty) (e : Sight) (a : ℕ) (w : Wait) (vs : List Ty) (t : Clause) (ps : List ℕ)
        (ok : SightOk ag n env e) (tw : type_wait (names_of ag n) env w ≡ some vs)
        (ty : type_clause (names_of ag n) (then_sight env vs) t ≡ some ps)
        (pl : Placed ag n (then_sight env (or_nil (reading_of_type ag.readings w.wanted))) t)
        (o : A) (on out : Reckoned) (sh : R o on) where
      abbrev seen : List ℤ
      seen = cells_of e.values

      abbrev opens : Window
      opens = cells.window_of seen a w

      then_placed : Placed ag n (then_sight env vs) t
      then_placed =
          from_wait ag n env w vs tw λ u₁ u₂ u₃ rt tc ta ti.
          subst (λ x. Placed ag n x t) (or_nil_is ag mains fair r rok w vs env rt) pl

      -- in an open window: taken, or waiting on
      taken_shows : T (not (lt_z opens.last (pos r.time))) → T (not (lt_z (pos r.time) opens.first))
          → R (Open.taken g ag.templates r e w opens t o)
          (by_fate (cond (cells.takes seen w r.type (cells_of r.values)) cells.taken cells.waits) on out
          (acted_cells t e opens.last))
      unfolding Open.taken Open.activate Open.or_stops with_values then_sight HaveTy HasTy cells.window_of cells.last_of
          cells.takes
      taken_shows nl ne = wanted (eqb w.wanted r.type) refl
        where
          condition : Bool
          condition = is_true_cell (eval_cells (seen ++ cells_of r.values) w.condition)

          typed : T (eqb w.wanted r.type) → HaveTy ag.parties (then_sight env vs)
              ((e.values ++ r.values) ++ (num (opens.last -ℤ pos r.time) ∷ []))
          typed h = HaveTy-++ ag.parties (env ++ vs) (number ∷ []) (e.values ++ r.values) _
              (seen_typed ag fair.few n env e w vs ok tw r rok h) (
                remaining_range opens.first _ r.time ne nl
                    (window_cells ag fair.few n env e w vs ok tw a).1,
                tt,
              )

          acts : T (eqb w.wanted r.type) → R (acted t e opens.last) (acted_cells t e opens.last)
          acts h = z.becomes _ _ (rw (← then_cells e.values r.values (opens.last -ℤ pos r.time)
              (subst (λ m. m ≤ 16) (sym (len_typed ag.parties (then_sight env vs) _ (typed h)))
              (sight_few ag n env w vs tw)))
              (then_shows t n (then_sight env vs) (with_values e r.values (opens.last -ℤ pos r.time)) r.time ps
              (record { count = ok.count; few_params = ok.few_params; range = ok.range; values = typed h }) ty
              then_placed))

          choose : (b : Bool) → R (acted t e opens.last) (acted_cells t e opens.last)
              → R (Open.or_stops g (elim b [ false ↦ some o | true ↦ some (acted t e opens.last) ]))
              (by_fate (cond b cells.taken cells.waits) on out (acted_cells t e opens.last))
          choose true k = k
          choose false k = sh

          wanted : (b : Bool) → eqb w.wanted r.type ≡ b
              → R (elim b [
                | false ↦ o
                | true ↦ Open.or_stops g
                    (eval_bool (e.values ++ r.values) w.condition >>= λ b. elim b
                    [ false ↦ some o | true ↦ some (acted t e opens.last) ])
              ])
              (by_fate (cond (b && condition) cells.taken cells.waits) on out (acted_cells t e opens.last))
          wanted false q = sh
          wanted true q = match_bind g R (eval_bool (e.values ++ r.values) w.condition) _ condition _
              (where_cells ag fair.few n env e w vs ok tw r rok (true→T q)) (choose condition (acts (true→T q)))

      -- by its window, which is one on both sides: `gone` is what a late one becomes
      wait_shows : (gone : Window → Option A) → R (Open.or_stops g (gone opens)) out
          → R (Open.or_stops g (window e a w >>= λ v. elim (timing v r.time)
          [ late ↦ gone v | on_time ↦ some (Open.taken g ag.templates r e w v t o) | early ↦ some o ]))
          (by_fate (cells.fate mode seen a w) on out
          (cells.on_taken mode (cells.activate ag.templates) t (nat_cells e.params) seen a w))
      unfolding cells.fate cells.on_taken cells.window_of Open.or_stops
      wait_shows gone lt = match_bind g R (window e a w) _ _ _ (window_cells ag fair.few n env e w vs ok tw a).0
          (by_timing_lem
          (λ x. R (Open.or_stops g x) (by_fate (cells.fate mode seen a w) on out (acted_cells t e opens.last)))
          opens r.time (gone opens) (some o) (some (Open.taken g ag.templates r e w opens t o))
          (λ l. rw (timing_late opens r.time (T→true _ l), by_fate, cells.fate) lt)
          (λ nl l. rw (timing_early opens r.time (untrue nl) (T→true _ l), by_fate, cells.fate) sh)
          (λ nl ne. rw (timing_on_time opens r.time (untrue nl) (untrue ne), by_fate, cells.fate)
          (taken_shows nl ne)))
        where
          untrue : {b : Bool} → T (not b) → b ≡ false
          untrue {b} t = not-true b (T→true (not b) t)

    following_shows : StepShows z ag mains fair (Open.following g ag.templates r) mode
        (cells.activate ag.templates)
    unfolding Open.following Open.or_stops cells.walk cells.window_of type_clause Placed sort_number
    following_shows = record {
      obligation = λ n env b w t e a bs un ok ty pl.
          from_need (blame_ok (names_of ag n) b) _ bs ty λ bo q₁.
          from_bind (type_wait (names_of ag n) env w) _ bs q₁ λ vs tw q₂.
          from_bind (type_clause (names_of ag n) (then_sight env vs) t) _ bs q₂ λ ps p q₃.
          z.reaches _ _ (wait_shows n env e a w vs t ps ok tw p pl.1 _ _ _
          (z.waits an_obligation w.place a e) _ (broken_shows n env e b _ ok bo));
      choice = λ n env w t f e a bs un else ok ty pl h.
          from_bind (type_wait (names_of ag n) env w) _ bs ty λ vs tw q₂.
          from_bind (type_clause (names_of ag n) (then_sight env vs) t) _ bs q₂ λ ps p q₃.
          from_bind (type_clause (names_of ag n) env f) _ bs q₃ λ qs p' q₄.
          z.reaches _ _ (wait_shows n env e a w vs t ps ok tw p pl.1 _ _ _
          (z.waits a_choice w.place a e) _ (z.becomes _ _ (h qs _ p')));
    }

    -- A typed clause following a reading.
    pub follow_shows : Shown g R ag (Open.following g ag.templates r)
        (cells.reduce (cells.following r.time r.type (cells_of r.values)) ag.templates)
    unfolding cells.reduce
    follow_shows = during_shows z ag mains fair (Open.following g ag.templates r) mode
        (cells.activate ag.templates) following_shows
