-- The forecast of a residue, paper 01, "Forecast": never stuck, of no time before its clauses are activated (`Coming`),
-- blaming only the residue's parties (`forecast_good`, `forecast_ok`); and a mark is taken by no clause (`untaken`).
use mathlib.Core.Bool.{Bool, false, not, true}
use mathlib.Core.List.{◌++◌, List, []}
use mathlib.Core.Logic.{inl, inr, ◌≢◌, ◌⊎◌}
use mathlib.Core.Option.{Option, none, some}
use mathlib.Core.Path.{refl, subst, sym, ◌∙◌, ◌≡◌}
use Prim.Native.Nat.{◌<◌, suc, zero, ℕ, ◌≤◌}
use native.Mathlib.Omega.{arith}
use lib.Dec.{T, eqb, ltb, ltb→lt, nltb→le}
use lib.IntN.{◌+ℤ◌, negsuc, pos, ℤ}
use lib.ListN.{length}
use lib.Signed.{lt_z}
use borrow.Author.Tests.{ne_eqb}
use Rattle.csl.specs.Lists.{◌>>=◌, at}
use Rattle.csl.specs.Numbers.{later_of}
use Rattle.csl.specs.Parties.{is_same_set, subset}
use Rattle.csl.specs.Syntax.{Agreement, Clause, Join, Template, Ty, Wait, and, bad_clause, choice, fulfilled, if}
use Rattle.csl.specs.Syntax.{instance, join, obligation, or}
use Rattle.csl.specs.Typing.{blame_ok, names_of, reading_of_type, then_sight, type_clause, type_wait}
use Rattle.csl.specs.Values.{Val, eval_bool, evals}
use Rattle.csl.specs.Outcomes.{Outcome, Residue, Sight, both, breach, done, earlier, join_both, join_either, joined}
use Rattle.csl.specs.Outcomes.{later, or_stuck, running, stuck, unit}
use Rattle.csl.specs.Rules.{Reading, Window, blamed, blamed_all, during, forecasting, taken, walk, walk_in, window}
use Rattle.csl.specs.Places.{clause_at}
use Rattle.csl.specs.Reckoning as Open
use Rattle.csl.specs.Rules.{across, forecast}
use Rattle.csl.specs.Table.{stand_for}
use Rattle.laws.proofs.Options.{from_bind, from_need, some_inj}
use Rattle.laws.proofs.Integers.{later_from_lem}
use Rattle.laws.proofs.Clash.{impossible}
use Rattle.soundness.proofs.Members.{In, Sub, in_right, stand_sub, sub_trans, sub→subset}
use Rattle.soundness.proofs.Good.{Good, Ok, Placed, SightOk, good_sub}
use Rattle.soundness.proofs.Walks.{Fair, StepGood, blamed_ok, good_bind, num_typed}
use Rattle.soundness.proofs.Activation.{heads_declared}
use Rattle.soundness.proofs.Following.{across_good, breach_good, from_wait, window_is}
use Rattle.soundness.proofs.Checked.{fair}

-- ---- no breach before a time
unfoldable pub NotBefore : ℕ → Outcome → Type 0
NotBefore k done = Unit {0}
NotBefore k (breach t ps) = k ≤ t
NotBefore k (running r) = Unit {0}
NotBefore k stuck = Unit {0}

pub not_before_mono : (k l : ℕ) (o : Outcome) → k ≤ l → NotBefore l o → NotBefore k o
unfolding NotBefore
not_before_mono k l done h n = tt
not_before_mono k l (breach t ps) h n = omega arith
not_before_mono k l (running r) h n = tt
not_before_mono k l stuck h n = tt

-- the three cases of two times
abbrev pick : Bool → Bool → Outcome → Outcome → Outcome → Outcome
pick a b x y z = elim a [ true ↦ x | false ↦ elim b [ true ↦ y | false ↦ z ] ]

abbrev pub by_times : ℕ → ℕ → Outcome → Outcome → Outcome → Outcome
by_times t u x y z = pick (ltb t u) (ltb u t) x y z

-- of two outcomes that the same times decide
pub times_both : (t u : ℕ) (x y z x' y' z' : Outcome) (P : Outcome → Outcome → Type 0) → (t < u → P x x')
    → (u < t → P y y') → (t ≡ u → P z z') → P (by_times t u x y z) (by_times t u x' y' z')
times_both t u x y z x' y' z' P f g h = go (ltb t u) (ltb u t) refl refl
  where
    go : (a b : Bool) → ltb t u ≡ a → ltb u t ≡ b → P (pick a b x y z) (pick a b x' y' z')
    go true b p q = f (ltb→lt t u (subst T (sym p) tt))
    go false true p q = g (ltb→lt u t (subst T (sym q) tt))
    go false false p q = h (omega (
      arith,
      nltb→le t u (subst (λ c. T (not c)) (sym p) tt),
      nltb→le u t (subst (λ c. T (not c)) (sym q) tt),
    ))

pub times : (t u : ℕ) (x y z : Outcome) (P : Outcome → Type 0) → (t < u → P x) → (u < t → P y) → (t ≡ u → P z)
    → P (by_times t u x y z)
times t u x y z P = times_both t u x y z x y z (λ o _. P o)

earlier_from : (k t u : ℕ) (ps qs : List ℕ) → k ≤ t → k ≤ u → NotBefore k (earlier t ps u qs)
unfolding earlier NotBefore
earlier_from k t u ps qs h g = times t u (breach t ps) (breach u qs) (breach t (ps ++ qs)) (NotBefore k) (λ _. h)
    (λ _. g) (λ _. h)

-- `or` gives the later of two breaches: it is before no time that either is not before
later_from_either : (k t u : ℕ) (ps qs : List ℕ) → (k ≤ t) ⊎ (k ≤ u) → NotBefore k (later t ps u qs)
unfolding later NotBefore
later_from_either k t u ps qs h = times t u (breach u qs) (breach t ps) _ (NotBefore k)
    (λ lt. up u (omega arith) (omega arith) h) (λ lt. up t (omega arith) (omega arith) h)
    (λ e. same (is_same_set ps qs) (up t (omega arith) (omega arith) h))
  where
    up : (y : ℕ) → t ≤ y → u ≤ y → (k ≤ t) ⊎ (k ≤ u) → k ≤ y
    up y p q (inl e) = omega arith
    up y p q (inr e) = omega arith

    same : (b : Bool) → k ≤ t → NotBefore k (elim b [ true ↦ breach t ps | false ↦ stuck ])
    same true e = e
    same false e = tt

pub both_from : (k : ℕ) (l r : Outcome) → NotBefore k l → NotBefore k r → NotBefore k (join_both l r)
unfolding join_both NotBefore
both_from k done r h g = g
both_from k (breach t ps) done h g = h
both_from k (breach t ps) (breach u qs) h g = earlier_from k t u ps qs h g
both_from k (breach t ps) (running r) h g = h
both_from k (breach t ps) stuck h g = tt
both_from k (running l) done h g = tt
both_from k (running l) (breach u qs) h g = g
both_from k (running l) (running r) h g = tt
both_from k (running l) stuck h g = tt
both_from k stuck r h g = tt

either_from : (k : ℕ) (l r : Outcome) → NotBefore k l ⊎ NotBefore k r → NotBefore k (join_either l r)
unfolding join_either NotBefore
either_from k done done h = tt
either_from k done (breach u qs) h = tt
either_from k done (running r) h = tt
either_from k done stuck h = tt
either_from k (breach t ps) done h = tt
either_from k (breach t ps) (breach u qs) h = later_from_either k t u ps qs h
either_from k (breach t ps) (running r) h = tt
either_from k (breach t ps) stuck h = tt
either_from k (running l) done h = tt
either_from k (running l) (breach u qs) h = tt
either_from k (running l) (running r) h = tt
either_from k (running l) stuck h = tt
either_from k stuck r h = tt

joined_from : (k : ℕ) (j : Join) (l r : Outcome) → NotBefore k l → NotBefore k r → NotBefore k (joined j l r)
unfolding joined
joined_from k and l r h g = both_from k l r h g
joined_from k or l r h g = either_from k l r (inl h)

-- ---- nothing is left running
unfoldable pub Done : Outcome → Type 0
Done done = Unit {0}
Done (breach t ps) = Unit {0}
Done (running r) = ⊥
Done stuck = Unit {0}

pub joined_done : (j : Join) (l r : Outcome) → Done l → Done r → Done (joined j l r)
unfolding joined join_both join_either Done earlier later
joined_done and done r h g = g
joined_done and (breach t ps) done h g = tt
joined_done and (breach t ps) (breach u qs) h g = times t u (breach t ps) (breach u qs) (breach t (ps ++ qs)) Done
    (λ _. tt) (λ _. tt) (λ _. tt)
joined_done and (breach t ps) (running r) h g = tt
joined_done and (breach t ps) stuck h g = tt
joined_done and (running l) r h g = absurd h
joined_done and stuck r h g = tt
joined_done or done done h g = tt
joined_done or done (breach u qs) h g = tt
joined_done or done (running r) h g = tt
joined_done or done stuck h g = tt
joined_done or (breach t ps) done h g = tt
joined_done or (breach t ps) (breach u qs) h g = times t u (breach u qs) (breach t ps) _ Done (λ _. tt) (λ _. tt)
    (λ _. same (is_same_set ps qs))
  where
    same : (b : Bool) → Done (elim b [ true ↦ breach t ps | false ↦ stuck ])
    same true = tt
    same false = tt
joined_done or (breach t ps) (running r) h g = g
joined_done or (breach t ps) stuck h g = tt
joined_done or (running l) r h g = absurd h
joined_done or stuck r h g = tt

-- ---- nothing becomes of what is joined to a stuck outcome
pub stuck_right : (j : Join) (l : Outcome) → joined j l stuck ≡ stuck
unfolding joined join_both join_either
stuck_right and done = refl
stuck_right and (breach t ps) = refl
stuck_right and (running r) = refl
stuck_right and stuck = refl
stuck_right or done = refl
stuck_right or (breach t ps) = refl
stuck_right or (running r) = refl
stuck_right or stuck = refl

pub stuck_left : (j : Join) (r : Outcome) → joined j stuck r ≡ stuck
unfolding joined join_both join_either
stuck_left and r = refl
stuck_left or r = refl

-- "Fulfilled beside `and` vanishes"
pub none_beside : (f : Outcome) → join_both f done ≡ f
unfolding join_both
none_beside done = refl
none_beside (breach t ps) = refl
none_beside (running r) = refl
none_beside stuck = refl

-- ---- a forecast gives no breach before its clause is activated, and leaves nothing running
abbrev pub Coming : ℕ → Outcome → Type 0
Coming k o = NotBefore k o × Done o

pub coming_bind : {A : Type 0} (k : ℕ) (m : Option A) (f : A → Option Outcome) → ((x : A) → Coming k (or_stuck (f x)))
    → Coming k (or_stuck (m >>= f))
unfolding ◌>>=◌ or_stuck NotBefore Done
coming_bind k none f h = (tt, tt)
coming_bind k (some x) f h = h x

module _ (un : ℕ → List Val → List ℕ → ℕ → Outcome)
    (uc : (k : ℕ) (vs : List Val) (ps : List ℕ) (a : ℕ) → Coming a (un k vs ps a)) where
  pub walk_coming : (c : Clause) (e : Sight) (a : ℕ) → Coming a (walk forecasting un c e a)
  unfolding walk forecasting or_stuck NotBefore Done
  walk_coming fulfilled e a = (tt, tt)
  walk_coming (obligation b w t) e a = coming_bind a (window e a w) _ λ v. coming_bind a (blamed e.params b) _ λ p.
      (later_from_lem a v.last, tt)
  walk_coming (choice w t f) e a = coming_bind a (window e a w) _ λ v.
      let u = later_of a v.last in
      let ih = walk_coming f e u in
      (not_before_mono a u (walk forecasting un f e u) (later_from_lem a v.last) ih.0, ih.1)
  walk_coming (if x t f) e a = coming_bind a (eval_bool e.values x) _ (side (walk_coming t e a) (walk_coming f e a))
    where
      side : Coming a (walk forecasting un t e a) → Coming a (walk forecasting un f e a) → (b : Bool)
          → Coming a (or_stuck (elim b [
            | true ↦ some (walk forecasting un t e a)
            | false ↦ some (walk forecasting un f e a)
          ]))
      side h g true = h
      side h g false = g
  walk_coming (join j t f) e a =
      let h = walk_coming t e a in
      let g = walk_coming f e a in (
        joined_from a j (walk forecasting un t e a) (walk forecasting un f e a) h.0 g.0,
        joined_done j (walk forecasting un t e a) (walk forecasting un f e a) h.1 g.1,
      )
  walk_coming (instance k es bs) e a = coming_bind a (evals e.values es) _ λ vs. coming_bind a
      (blamed_all e.params bs) _ λ ps. uc k vs ps a
  walk_coming bad_clause e a = (tt, tt)

pub walk_in_coming : (ts : List Template) (n : ℕ) (c : Clause) (e : Sight) (a : ℕ)
    → Coming a (walk_in forecasting ts n c e a)
unfolding walk_in NotBefore Done or_stuck
walk_in_coming ts zero = walk_coming _ (λ k vs ps a. (tt, tt))
walk_in_coming ts (suc n) = walk_coming _
    (λ k vs ps a. coming_bind a (at ts k) _ (λ t. walk_in_coming ts n t.body (record { params = ps; values = vs }) a))

-- ---- a mark is never taken
pub later_beyond : (a t : ℕ) (l : ℤ) → T (not (lt_z l (pos t))) → t ≤ later_of a l
unfolding later_of
later_beyond a t (pos n) h = omega (arith, nltb→le n t h)
later_beyond a t (negsuc n) h = absurd h

module _ (ag : Agreement) (r : Reading) (mark : r.type ≡ 0) where
  pub unwanted : (w : Wait) (vs : List Ty) → reading_of_type ag.readings w.wanted ≡ some vs
      → eqb w.wanted r.type ≡ false
  unfolding reading_of_type
  unwanted w vs e = ne_eqb w.wanted r.type (λ q. none_at w.wanted (q ∙ mark) e)
    where
      none_at : (k : ℕ) → k ≡ 0 → reading_of_type ag.readings k ≡ some vs → ⊥
      none_at zero z p = impossible cc
      none_at (suc k) z p = omega arith

  pub untaken : (n : ℕ) (env : List Ty) (e : Sight) (w : Wait) (v : Window) (t : Clause) (o : Outcome) (vs : List Ty)
      → type_wait (names_of ag n) env w ≡ some vs → taken ag.templates r e w v t o ≡ o
  unfolding taken
  untaken n env e w v t o vs tw = from_wait ag n env w vs tw λ u₁ u₂ u₃ rt tc ta ti.
      rw (unwanted w vs rt, Open.taken) refl

-- ---- a forecast is good: never stuck, its parties some and within, its time not before the start
module _ (ag : Agreement) (mains : List ℕ) (fair : Fair ag mains) where
  abbrev From : ℕ → Type 0
  From t = ag.start ≤ t

  window_good : {C : Type 0} (n : ℕ) (env : List Ty) (e : Sight) (a : ℕ) (w : Wait) (vs : List Ty)
      → SightOk ag n env e → type_wait (names_of ag n) env w ≡ some vs → ((v : Window) → window e a w ≡ some v → C) → C
  window_good n env e a w vs ok tw k =
      from_wait ag n env w vs tw λ u₁ u₂ u₃ rt tc ta ti.
      num_typed ag.parties env e.values ok.values w.after u₂ ta λ x ex rx.
      num_typed ag.parties env e.values ok.values w.within u₃ ti λ y ey ry.
      k (record { first = pos a +ℤ x; last = (pos a +ℤ x) +ℤ y }) (window_is e a w x y ex ey)

  forecasting_obligation : (n : ℕ) (env : List Ty) (b : ℕ) (w : Wait) (t : Clause) (e : Sight) (a : ℕ) (bs : List ℕ)
      → SightOk ag n env e → From a → type_clause (names_of ag n) env (obligation b w t) ≡ some bs
      → Placed ag n env (obligation b w t) → Good ag From (stand_for e.params bs)
      (forecasting.on_obligation e a b w t)
  unfolding forecasting or_stuck type_clause
  forecasting_obligation n env b w t e a bs ok fa ty pl =
      from_need (blame_ok (names_of ag n) b) _ bs ty λ bo q₁.
      from_bind (type_wait (names_of ag n) env w) _ bs q₁ λ vs tw q₂.
      from_bind (type_clause (names_of ag n) (then_sight env vs) t) _ bs q₂ λ ps p q₃.
      window_good n env e a w vs ok tw λ v wv.
      good_bind ag fair.few (heads_declared ag mains fair) From (stand_for e.params bs) (window e a w) _ v wv
      (blamed_ok ag n env e ok fair.few b bo λ who eq st lt.
      good_bind ag fair.few (heads_declared ag mains fair) From (stand_for e.params bs) (blamed e.params b) _
      who eq
      (breach_good ag From e.params b who (later_of a v.last) ps bs st (some_inj q₃)
      (omega (arith, later_from_lem a v.last, fa))))

  forecasting_choice : (n : ℕ) (env : List Ty) (w : Wait) (t f : Clause) (e : Sight) (a : ℕ) (bs : List ℕ)
      (g : ℕ → Outcome) → SightOk ag n env e → From a → type_clause (names_of ag n) env (choice w t f) ≡ some bs
      → Placed ag n env (choice w t f)
      → ((qs : List ℕ) (u : ℕ) → type_clause (names_of ag n) env f ≡ some qs → From u
      → Good ag From (stand_for e.params qs) (g u))
      → Good ag From (stand_for e.params bs) (forecasting.on_choice e a w t g)
  unfolding forecasting or_stuck type_clause Sub
  forecasting_choice n env w t f e a bs g ok fa ty pl h =
      from_bind (type_wait (names_of ag n) env w) _ bs ty λ vs tw q₂.
      from_bind (type_clause (names_of ag n) (then_sight env vs) t) _ bs q₂ λ ps p q₃.
      from_bind (type_clause (names_of ag n) env f) _ bs q₃ λ qs p' q₄.
      window_good n env e a w vs ok tw λ v wv.
      good_bind ag fair.few (heads_declared ag mains fair) From (stand_for e.params bs) (window e a w) _ v wv
      (good_sub ag From (stand_for e.params qs) (stand_for e.params bs) (g (later_of a v.last))
      (stand_sub e.params qs bs (subst (λ l. Sub qs l) (some_inj q₄) (λ z k. in_right z ps qs k)))
      (h qs (later_of a v.last) p' (omega (arith, later_from_lem a v.last, fa))))

  pub forecasting_good : StepGood ag fair.few (heads_declared ag mains fair) From forecasting
  forecasting_good = record { obligation = forecasting_obligation; choice = forecasting_choice }

  -- a forecast of a well-typed residue is never stuck, and blames only that residue's parties
  pub forecast_good : (now : ℕ) (res : Residue) (ps : List ℕ) → Ok ag (λ t. (ag.start ≤ t) × (t ≤ now)) res ps
      → Good ag From ps (forecast ag res)
  unfolding forecast
  forecast_good now = across_good ag mains fair (λ t. (ag.start ≤ t) × (t ≤ now)) From (λ t h. h.0) forecasting
      forecasting_good

  -- and leaves nothing running
  forecast_done : (res : Residue) → Done (forecast ag res)
  unfolding forecast across during or_stuck
  forecast_done (unit s p a e) = (coming_bind a (clause_at ag p) _
      (λ c. walk_in_coming ag.templates (length ag.templates) c.clause e a)).1
  forecast_done (both j l r) = joined_done j (forecast ag l) (forecast ag r) (forecast_done l) (forecast_done r)

-- none, or a breach that names a party at least, only the main clause's, at a time not before the start
unfoldable pub ForecastOk : Agreement → List ℕ → Outcome → Type 0
ForecastOk a mains done = Unit {0}
ForecastOk a mains (breach t ps) = (ps ≢ []) × T (subset ps mains) × (a.start ≤ t)
ForecastOk a mains (running r) = ⊥
ForecastOk a mains stuck = ⊥

pub forecast_ok : (ag : Agreement) (mains : List ℕ) (fair : Fair ag mains) (now : ℕ) (res : Residue) (ps : List ℕ)
    → Ok ag (λ t. (ag.start ≤ t) × (t ≤ now)) res ps → Sub ps mains → ForecastOk ag mains (forecast ag res)
unfolding Good ForecastOk Done In
forecast_ok ag mains fair now res ps ok sub = go (forecast ag res) (forecast_good ag mains fair now res ps ok)
    (forecast_done ag mains fair res)
  where
    go : (f : Outcome) → Good ag (λ t. ag.start ≤ t) ps f → Done f → ForecastOk ag mains f
    go done g d = tt
    go (breach u qs) g d = (
      (λ e. subst (λ l. In g.0 l) e g.1),
      sub→subset qs mains (sub_trans qs ps mains g.2 sub),
      g.3,
    )
    go (running s) g d = d
    go stuck g d = g
