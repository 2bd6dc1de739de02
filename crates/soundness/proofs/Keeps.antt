-- Following a mark keeps the forecast: what waits on is foretold as before, what breaches breaches as foretold.
-- Main theorem: `forecast_kept`. 1. joins keep `Kept`; 2. so do both walks, step by step.
use mathlib.Core.Bool.{Bool, false, not, true}
use mathlib.Core.List.{◌++◌, List, [], ◌∷◌}
use mathlib.Core.Logic.{inl, inr, ◌⊎◌}
use mathlib.Core.Option.{Option, none, some}
use mathlib.Core.Path.{ap, ap₂, refl, subst, sym, ◌∙◌, ◌≡◌}
use Prim.Native.Nat.{◌<◌, suc, zero, ℕ, ◌≤◌}
use native.Mathlib.Omega.{arith}
use lib.Dec.{T}
use lib.IntN.{pos}
use lib.ListN.{length}
use lib.Signed.{lt_z}
use Rattle.csl.specs.Lists.{◌>>=◌, at}
use Rattle.csl.specs.Numbers.{later_of}
use Rattle.csl.specs.Parties.{is_same_set, subset}
use Rattle.csl.specs.Syntax.{Agreement, Clause, Join, Template, Ty, and, bad_clause, choice, fulfilled, if, instance}
use Rattle.csl.specs.Syntax.{join, obligation, or, truth}
use Rattle.csl.specs.Typing.{blame_ok, has_type, names_of, then_sight, type_clause, type_wait}
use Rattle.csl.specs.Values.{Val, eval_bool, evals}
use Rattle.csl.specs.Outcomes.{Outcome, Residue, Sight, Sort, an_obligation, a_choice, both, breach, done, earlier}
use Rattle.csl.specs.Outcomes.{join_both, join_either, joined, later, or_stuck, running, stuck, unit}
use Rattle.csl.specs.Rules.{Reading, Window, blamed, blamed_all, during, early, following, forecasting, late, on_time}
use Rattle.csl.specs.Rules.{timing, walk, walk_in, window}
use Rattle.csl.specs.Places.{Found, clause_at}
use Rattle.csl.specs.Rules.{across, follow, forecast}
use Rattle.laws.proofs.Bools.{T-both, T-left, T-right}
use Rattle.laws.proofs.Options.{from_bind, from_need, some_bind, some_inj}
use Rattle.soundness.proofs.Members.{Sub, in_left, in_right, sub_both, sub_refl, sub_trans, sub→subset}
use Rattle.soundness.proofs.Members.{subset→sub}
use Rattle.soundness.proofs.Times.{by_timing_lem, later_to}
use Rattle.soundness.proofs.Good.{Ok, Placed}
use Rattle.soundness.proofs.Walks.{Fair}
use Rattle.soundness.proofs.Forecasts.{Coming, Done, NotBefore, both_from, coming_bind, later_beyond}
use Rattle.soundness.proofs.Forecasts.{none_beside, not_before_mono, stuck_left, stuck_right, times, times_both}
use Rattle.soundness.proofs.Forecasts.{untaken, walk_coming, walk_in_coming}

-- ---- two forecasts say the same: none, or a breach at one time by the same set of parties
unfoldable pub SameForecast : Outcome → Outcome → Type 0
SameForecast done g = g ≡ done
SameForecast (breach t ps) g = (qs : List ℕ) × (g ≡ breach t qs) × Sub ps qs × Sub qs ps
SameForecast (running r) g = ⊥
SameForecast stuck g = ⊥

-- ---- a forecast, and the outcome of a mark at `now`
module _ (ag : Agreement) (now : ℕ) where
  pub data Kept : Outcome → Outcome → Type 0 where
    -- fulfilled, as foretold
    fulfils : Kept done done
    -- waits on; the forecast is of no time before the mark, and says the same afterwards
    waits : (f : Outcome) (res : Residue) → NotBefore now f → SameForecast f (forecast ag res) → Kept f (running res)
    -- breached as foretold; at the very minute perhaps by fewer parties
    breaks : (t : ℕ) (ps qs : List ℕ) → t ≤ now → Sub qs ps → (t < now → qs ≡ ps) → Kept (breach t ps) (breach t qs)
    -- of stuck outcomes nothing is said here: typing excludes them
    stuck_before : (o : Outcome) → Kept stuck o
    stuck_after : (f : Outcome) → Kept f stuck

  -- ---- small facts of the joins
  -- a forecast that says the same as another is none or a breach, so a fulfilled side fulfils an `or` with it
  fulfilled_left : (g x : Outcome) → SameForecast g x → join_either done g ≡ done
  unfolding join_either SameForecast
  fulfilled_left done x h = refl
  fulfilled_left (breach t ps) x h = refl
  fulfilled_left (running r) x h = absurd h
  fulfilled_left stuck x h = absurd h

  fulfilled_right : (g x : Outcome) → SameForecast g x → join_either g done ≡ done
  unfolding join_either SameForecast
  fulfilled_right done x h = refl
  fulfilled_right (breach t ps) x h = refl
  fulfilled_right (running r) x h = absurd h
  fulfilled_right stuck x h = absurd h

  same_set : (ps qs : List ℕ) → Sub ps qs → Sub qs ps → T (is_same_set ps qs)
  unfolding is_same_set
  same_set ps qs h g = T-both (subset ps qs) (subset qs ps) (sub→subset ps qs h) (sub→subset qs ps g)

  from_same : (ps qs : List ℕ) → T (is_same_set ps qs) → Sub ps qs × Sub qs ps
  unfolding is_same_set
  from_same ps qs h = (subset→sub ps qs (T-left (subset ps qs) _ h), subset→sub qs ps (T-right (subset ps qs) _ h))

  -- ---- both sides wait on
  same_both : (f g x y : Outcome) → SameForecast f x → SameForecast g y → SameForecast (join_both f g) (join_both x y)
  unfolding SameForecast join_both earlier
  same_both done g x y h k = rw h k
  same_both (breach t ps) done x y h k = rw (h.1, k) (h.0, refl, h.2, h.3)
  same_both (breach t ps) (breach u qs) x y h k = rw (h.1, k.1)
      (times_both t u (breach t ps) (breach u qs) (breach t (ps ++ qs)) (breach t h.0) (breach u k.0)
      (breach t (h.0 ++ k.0)) SameForecast
      (λ _. (h.0, refl, h.2, h.3)) (λ _. (k.0, refl, k.2, k.3))
      (λ _. (
        h.0 ++ k.0,
        refl,
        sub_both ps qs h.0 k.0 h.2 k.2,
        sub_both h.0 k.0 ps qs h.3 k.3,
      )))
  same_both (breach t ps) (running r) x y h k = absurd k
  same_both (breach t ps) stuck x y h k = absurd k
  same_both (running l) g x y h k = absurd h
  same_both stuck g x y h k = absurd h

  -- at equal times: the left breach where the sets are the same, else stuck
  abbrev at_one_time : ℕ → List ℕ → List ℕ → Outcome
  at_one_time t ps qs = elim (is_same_set ps qs) [ true ↦ breach t ps | false ↦ stuck ]

  is_same : (t : ℕ) (ps qs : List ℕ) → T (is_same_set ps qs) → at_one_time t ps qs ≡ breach t ps
  is_same t ps qs h = go (is_same_set ps qs) h
    where
      go : (b : Bool) → T b → ◌≡◌ {A = Outcome} (elim b [ true ↦ breach t ps | false ↦ stuck ]) (breach t ps)
      go true h = refl
      go false h = absurd h

  if_same_lem : {o : Outcome} (ps qs : List ℕ) (t : ℕ) → (T (is_same_set ps qs) → Kept (breach t ps) o)
      → Kept (at_one_time t ps qs) o
  if_same_lem {o = o} ps qs t k = go (is_same_set ps qs) k
    where
      go : (b : Bool) → (T b → Kept (breach t ps) o) → Kept (elim b [ true ↦ breach t ps | false ↦ stuck ]) o
      go true k = k tt
      go false k = stuck_before o

  either_waits : (f g : Outcome) (l r : Residue) → NotBefore now f → NotBefore now g → SameForecast f (forecast ag l)
      → SameForecast g (forecast ag r) → Kept (join_either f g) (running (both or l r))
  unfolding SameForecast join_either later forecast across joined NotBefore
  either_waits done done l r n m h k = waits done (both or l r) tt (rw (h, k) refl)
  either_waits done (breach u qs) l r n m h k = waits done (both or l r) tt (rw (h, k.1) refl)
  either_waits done (running g) l r n m h k = absurd k
  either_waits done stuck l r n m h k = absurd k
  either_waits (breach t ps) done l r n m h k = waits done (both or l r) tt (rw (h.1, k) refl)
  either_waits (breach t ps) (breach u qs) l r n m h k =
      times_both t u (breach u qs) (breach t ps) _ (breach u k.0) (breach t h.0) _
      (λ f g. forecast ag (both or l r) ≡ g → Kept f (running (both or l r)))
      (λ _ e. waits (breach u qs) (both or l r) m (k.0, e, k.2, k.3))
      (λ _ e. waits (breach t ps) (both or l r) n (h.0, e, h.2, h.3))
      (λ _ e. if_same_lem ps qs t (λ s. let z = from_same ps qs s in
      waits (breach t ps) (both or l r) n (
        h.0,
        e ∙ is_same t h.0 k.0 (same_set h.0 k.0
            (sub_trans h.0 ps k.0 h.3 (sub_trans ps qs k.0 z.0 k.2))
            (sub_trans k.0 qs h.0 k.3 (sub_trans qs ps h.0 z.1 h.2))),
        h.2,
        h.3,
      )))
      (rw (h.1, k.1) refl)
  either_waits (breach t ps) (running g) l r n m h k = absurd k
  either_waits (breach t ps) stuck l r n m h k = absurd k
  either_waits (running f) g l r n m h k = absurd h
  either_waits stuck g l r n m h k = absurd h

  -- ---- one side waits on, the other breaches
  both_first : (f : Outcome) (l : Residue) (t : ℕ) (ps qs : List ℕ) → NotBefore now f → SameForecast f (forecast ag l)
      → t ≤ now → Sub qs ps → (t < now → qs ≡ ps) → Kept (join_both f (breach t ps)) (breach t qs)
  unfolding NotBefore SameForecast join_both earlier Sub
  both_first done l t ps qs n h le sub eq = breaks t ps qs le sub eq
  both_first (breach u us) l t ps qs n h le sub eq = times u t (breach u us) (breach t ps) (breach u (us ++ ps))
      (λ f. Kept f (breach t qs))
      (λ lt. absurd (omega arith))
      (λ lt. breaks t ps qs le sub eq)
      (λ e. subst (λ v. Kept (breach v (us ++ ps)) (breach t qs)) (sym e)
      (breaks t (us ++ ps) qs le (λ x i. in_right x us ps (sub x i)) (λ lt. absurd (omega arith))))
  both_first (running f) l t ps qs n h le sub eq = absurd h
  both_first stuck l t ps qs n h le sub eq = absurd h

  both_second : (g : Outcome) (r : Residue) (t : ℕ) (ps qs : List ℕ) → NotBefore now g → SameForecast g (forecast ag r)
      → t ≤ now → Sub qs ps → (t < now → qs ≡ ps) → Kept (join_both (breach t ps) g) (breach t qs)
  unfolding NotBefore SameForecast join_both earlier Sub
  both_second done r t ps qs n h le sub eq = breaks t ps qs le sub eq
  both_second (breach u us) r t ps qs n h le sub eq = times t u (breach t ps) (breach u us) (breach t (ps ++ us))
      (λ f. Kept f (breach t qs))
      (λ lt. breaks t ps qs le sub eq)
      (λ lt. absurd (omega arith))
      (λ e. breaks t (ps ++ us) qs le (λ x i. in_left x ps us (sub x i)) (λ lt. absurd (omega arith)))
  both_second (running g) r t ps qs n h le sub eq = absurd h
  both_second stuck r t ps qs n h le sub eq = absurd h

  either_first : (f : Outcome) (l : Residue) (t : ℕ) (ps : List ℕ) → NotBefore now f → SameForecast f (forecast ag l)
      → t ≤ now → Kept (join_either f (breach t ps)) (running l)
  unfolding NotBefore SameForecast join_either later
  either_first done l t ps n h le = waits done l tt h
  either_first (breach u us) l t ps n h le = times u t (breach t ps) (breach u us) _ (λ f. Kept f (running l))
      (λ lt. absurd (omega arith))
      (λ lt. waits (breach u us) l n h)
      (λ e. if_same_lem us ps u (λ _. waits (breach u us) l n h))
  either_first (running f) l t ps n h le = absurd h
  either_first stuck l t ps n h le = absurd h

  either_second : (g : Outcome) (r : Residue) (t : ℕ) (ps : List ℕ) → NotBefore now g → SameForecast g (forecast ag r)
      → t ≤ now → Kept (join_either (breach t ps) g) (running r)
  unfolding NotBefore SameForecast join_either later
  either_second done r t ps n h le = waits done r tt h
  either_second (breach u us) r t ps n h le = times t u (breach u us) (breach t ps) _ (λ f. Kept f (running r))
      (λ lt. waits (breach u us) r n h)
      (λ lt. absurd (omega arith))
      (λ e. if_same_lem ps us t (λ s. let z = from_same ps us s in
      waits (breach t ps) r (omega arith) (
        h.0,
        h.1 ∙ ap (λ v. breach v h.0) (sym e),
        sub_trans ps us h.0 z.0 h.2,
        sub_trans h.0 us ps h.3 z.1,
      )))
  either_second (running g) r t ps n h le = absurd h
  either_second stuck r t ps n h le = absurd h

  -- ---- both breach
  both_break : (t u : ℕ) (ps qs rs ss : List ℕ) → t ≤ now → Sub qs ps → (t < now → qs ≡ ps) → u ≤ now → Sub ss rs
      → (u < now → ss ≡ rs) → Kept (earlier t ps u rs) (earlier t qs u ss)
  unfolding earlier
  both_break t u ps qs rs ss le sub eq le' sub' eq' = times_both t u (breach t ps) (breach u rs) (breach t (ps ++ rs))
      (breach t qs) (breach u ss) (breach t (qs ++ ss)) Kept
      (λ _. breaks t ps qs le sub eq)
      (λ _. breaks u rs ss le' sub' eq')
      (λ e. breaks t (ps ++ rs) (qs ++ ss) le (sub_both qs ss ps rs sub sub')
      (λ lt. ap₂ ◌++◌ (eq lt) (eq' (omega arith))))

  either_break : (t u : ℕ) (ps qs rs ss : List ℕ) → t ≤ now → Sub qs ps → (t < now → qs ≡ ps) → u ≤ now → Sub ss rs
      → (u < now → ss ≡ rs) → Kept (later t ps u rs) (later t qs u ss)
  unfolding later
  either_break t u ps qs rs ss le sub eq le' sub' eq' = times_both t u (breach u rs) (breach t ps) (at_one_time t ps rs)
      (breach u ss) (breach t qs) (at_one_time t qs ss) Kept
      (λ _. breaks u rs ss le' sub' eq')
      (λ _. breaks t ps qs le sub eq)
      (λ e. if_same_lem ps rs t (λ _. one (is_same_set qs ss)))
    where
      one : (b : Bool) → Kept (breach t ps) (elim b [ true ↦ breach t qs | false ↦ stuck ])
      one true = breaks t ps qs le sub eq
      one false = stuck_after (breach t ps)

  -- what `and` and `or` join is kept
  pub joined_kept : (j : Join) (f g l r : Outcome) → Kept f l → Kept g r → Kept (joined j f g) (joined j l r)
  unfolding joined join_both join_either forecast across
  joined_kept and f g l r fulfils k = k
  joined_kept and f g l r (waits f' l' n h) fulfils = subst (λ x. Kept x (running l')) (sym (none_beside f'))
      (waits f' l' n h)
  joined_kept and f g l r (waits f' l' n h) (waits g' r' m k) = waits (join_both f' g') (both and l' r')
      (both_from now f' g' n m) (same_both f' g' (forecast ag l') (forecast ag r') h k)
  joined_kept and f g l r (waits f' l' n h) (breaks t ps qs le sub eq) = both_first f' l' t ps qs n h le sub eq
  joined_kept and f g l r (waits f' l' n h) (stuck_before o) = subst (λ x. Kept x (join_both (running l') o))
      (sym (stuck_right and f')) (stuck_before _)
  joined_kept and f g l r (waits f' l' n h) (stuck_after g') = stuck_after _
  joined_kept and f g l r (breaks t ps qs le sub eq) fulfils = breaks t ps qs le sub eq
  joined_kept and f g l r (breaks t ps qs le sub eq) (waits g' r' m k) = both_second g' r' t ps qs m k le sub eq
  joined_kept and f g l r (breaks t ps qs le sub eq) (breaks u rs ss le' sub' eq') = both_break t u ps qs rs ss le sub
      eq le' sub' eq'
  joined_kept and f g l r (breaks t ps qs le sub eq) (stuck_before o) = stuck_before _
  joined_kept and f g l r (breaks t ps qs le sub eq) (stuck_after g') = stuck_after _
  joined_kept and f g l r (stuck_before o) k = stuck_before _
  joined_kept and f g l r (stuck_after f') k = stuck_after _
  joined_kept or f g l r fulfils fulfils = fulfils
  joined_kept or f g l r fulfils (waits g' r' m k) = subst (λ x. Kept x done)
      (sym (fulfilled_left g' (forecast ag r') k)) fulfils
  joined_kept or f g l r fulfils (breaks u rs ss le sub eq) = fulfils
  joined_kept or f g l r fulfils (stuck_before o) = stuck_before _
  joined_kept or f g l r fulfils (stuck_after g') = stuck_after _
  joined_kept or f g l r (waits f' l' n h) fulfils = subst (λ x. Kept x done)
      (sym (fulfilled_right f' (forecast ag l') h)) fulfils
  joined_kept or f g l r (waits f' l' n h) (waits g' r' m k) = either_waits f' g' l' r' n m h k
  joined_kept or f g l r (waits f' l' n h) (breaks t ps qs le sub eq) = either_first f' l' t ps n h le
  joined_kept or f g l r (waits f' l' n h) (stuck_before o) = subst (λ x. Kept x (join_either (running l') o))
      (sym (stuck_right or f')) (stuck_before _)
  joined_kept or f g l r (waits f' l' n h) (stuck_after g') = stuck_after _
  joined_kept or f g l r (breaks t ps qs le sub eq) fulfils = fulfils
  joined_kept or f g l r (breaks t ps qs le sub eq) (waits g' r' m k) = either_second g' r' t ps m k le
  joined_kept or f g l r (breaks t ps qs le sub eq) (breaks u rs ss le' sub' eq') = either_break t u ps qs rs ss le
      sub eq le' sub' eq'
  joined_kept or f g l r (breaks t ps qs le sub eq) (stuck_before o) = stuck_before _
  joined_kept or f g l r (breaks t ps qs le sub eq) (stuck_after g') = stuck_after _
  joined_kept or f g l r (stuck_before o) k = stuck_before _
  joined_kept or f g l r (stuck_after f') k = stuck_after _

  -- what both wait for, or both are stuck
  kept_bind : {A : Type 0} (m : Option A) (f g : A → Option Outcome)
      → ((x : A) → m ≡ some x → Kept (or_stuck (f x)) (or_stuck (g x))) → Kept (or_stuck (m >>= f)) (or_stuck (m >>= g))
  unfolding ◌>>=◌ or_stuck
  kept_bind none f g h = stuck_before stuck
  kept_bind (some x) f g h = h x refl

  kept_side : (b : Bool) (f f' o o' : Outcome) → Kept f o → Kept f' o'
      → Kept (or_stuck (elim b [ true ↦ some f | false ↦ some f' ]))
      (or_stuck (elim b [ true ↦ some o | false ↦ some o' ]))
  unfolding or_stuck
  kept_side true f f' o o' h g = h
  kept_side false f f' o o' h g = g

-- ---- a forecast that is not stuck is the same with more unfoldings
abbrev SameOrStuck : Outcome → Outcome → Type 0
SameOrStuck x y = (x ≡ stuck) ⊎ (x ≡ y)

joined_deeper : (j : Join) (f g l r : Outcome) → SameOrStuck f l → SameOrStuck g r
    → SameOrStuck (joined j f g) (joined j l r)
joined_deeper j f g l r (inl p) k = inl (ap (λ x. joined j x g) p ∙ stuck_left j g)
joined_deeper j f g l r (inr p) (inl q) = inl (ap (joined j f) q ∙ stuck_right j f)
joined_deeper j f g l r (inr p) (inr q) = inr (ap₂ (joined j) p q)

deeper_bind : {A : Type 0} (m : Option A) (f g : A → Option Outcome)
    → ((x : A) → SameOrStuck (or_stuck (f x)) (or_stuck (g x))) → SameOrStuck (or_stuck (m >>= f)) (or_stuck (m >>= g))
unfolding ◌>>=◌ or_stuck
deeper_bind none f g h = inl refl
deeper_bind (some x) f g h = h x

module _ (un vn : ℕ → List Val → List ℕ → ℕ → Outcome)
    (uv : (k : ℕ) (vs : List Val) (ps : List ℕ) (a : ℕ) → SameOrStuck (un k vs ps a) (vn k vs ps a)) where
  walk_deeper : (c : Clause) (e : Sight) (a : ℕ) → SameOrStuck (walk forecasting un c e a) (walk forecasting vn c e a)
  unfolding walk forecasting or_stuck
  walk_deeper fulfilled e a = inr refl
  walk_deeper (obligation b w t) e a = inr refl
  walk_deeper (choice w t f) e a = deeper_bind (window e a w) _ _ λ v. walk_deeper f e (later_of a v.last)
  walk_deeper (if x t f) e a = deeper_bind (eval_bool e.values x) _ _ (side (walk_deeper t e a) (walk_deeper f e a))
    where
      side : SameOrStuck (walk forecasting un t e a) (walk forecasting vn t e a)
          → SameOrStuck (walk forecasting un f e a) (walk forecasting vn f e a)
          → (b : Bool)
          → SameOrStuck (or_stuck (elim b [
            | true ↦ some (walk forecasting un t e a)
            | false ↦ some (walk forecasting un f e a)
          ]))
          (or_stuck (elim b [ true ↦ some (walk forecasting vn t e a) | false ↦ some (walk forecasting vn f e a) ]))
      side h g true = h
      side h g false = g
  walk_deeper (join j t f) e a = joined_deeper j _ _ _ _ (walk_deeper t e a) (walk_deeper f e a)
  walk_deeper (instance k es bs) e a = deeper_bind (evals e.values es) _ _ λ vs. deeper_bind
      (blamed_all e.params bs) _ _ λ ps. uv k vs ps a
  walk_deeper bad_clause e a = inr refl

walk_in_deeper : (ts : List Template) (m n : ℕ) → m ≤ n → (c : Clause) (e : Sight) (a : ℕ)
    → SameOrStuck (walk_in forecasting ts m c e a) (walk_in forecasting ts n c e a)
unfolding walk_in or_stuck
walk_in_deeper ts zero zero le = walk_deeper _ _ (λ k vs ps a. inl refl)
walk_in_deeper ts zero (suc n) le = walk_deeper _ _ (λ k vs ps a. inl refl)
walk_in_deeper ts (suc m) zero le = absurd (omega arith)
walk_in_deeper ts (suc m) (suc n) le = walk_deeper _ _
    (λ k vs ps a. deeper_bind (at ts k) _ _ λ t. walk_in_deeper ts m n (omega arith) t.body
    (record { params = ps; values = vs }) a)

-- ---- both walks at once: a mark r
module _ (ag : Agreement) (r : Reading) (mark : r.type ≡ 0) where
  abbrev KeptAt : Outcome → Outcome → Type 0
  KeptAt f o = Kept ag r.time f o

  -- what waits on at T is foretold as before
  waiting_kept : (f : Outcome) (res : Residue) → Coming r.time f → SameOrStuck f (forecast ag res)
      → KeptAt f (running res)
  unfolding Done SameForecast
  waiting_kept f res c (inl p) = subst (λ x. KeptAt x (running res)) (sym p) (stuck_before _)
  waiting_kept done res c (inr p) = waits done res c.0 (sym p)
  waiting_kept (breach t ps) res c (inr p) = waits (breach t ps) res c.0 (ps, sym p, sub_refl ps, sub_refl ps)
  waiting_kept (running s) res c (inr p) = absurd c.1
  waiting_kept stuck res c (inr p) = stuck_before _

  -- what is late is decided; what is not waits on
  kept_late : (a : ℕ) (v : Window) (f x : Option Outcome) (y : Outcome) (res : Residue) → y ≡ running res
      → Coming (later_of a v.last) (or_stuck f) → SameOrStuck (or_stuck f) (forecast ag res)
      → (T (lt_z v.last (pos r.time)) → KeptAt (or_stuck f) (or_stuck x))
      → KeptAt (or_stuck f)
      (or_stuck (elim (timing v r.time) [ late ↦ x | on_time ↦ some y | early ↦ some (running res) ]))
  unfolding or_stuck
  kept_late a v f x y res e c same h = by_timing_lem (λ o. KeptAt (or_stuck f) (or_stuck o)) v r.time x
      (some (running res)) (some y) h (λ not_late _. on not_late) (λ not_late _. rw e (on not_late))
    where
      on : T (not (lt_z v.last (pos r.time))) → KeptAt (or_stuck f) (running res)
      on not_late = waiting_kept (or_stuck f) res (
        not_before_mono r.time (later_of a v.last) (or_stuck f)
            (later_beyond a r.time v.last not_late) c.0,
        c.1,
      ) same

  -- the forecast of a unit is that of the clause at its place
  unit_forecast : (k : Sort) (p a : ℕ) (e : Sight) (x : Found) → clause_at ag p ≡ some x
      → during forecasting ag.templates x.clause e a ≡ forecast ag (unit k p a e)
  unfolding forecast across or_stuck
  unit_forecast k p a e x is = sym (ap or_stuck (some_bind (clause_at ag p) _ x is))

  module _ (un mn : ℕ → List Val → List ℕ → ℕ → Outcome)
      (uc : (k : ℕ) (vs : List Val) (ps : List ℕ) (a : ℕ) → Coming a (un k vs ps a))
      (ut : (k : ℕ) (vs : List Val) (ps : List ℕ) (a : ℕ) → a ≤ r.time → KeptAt (un k vs ps a) (mn k vs ps a))
      (deep : (c : Clause) (e : Sight) (a : ℕ)
      → SameOrStuck (walk forecasting un c e a) (during forecasting ag.templates c e a)) where
    -- the forecast that a clause has, once its window is known, is its unit's
    on_unit : (c : Clause) (k : Sort) (p a : ℕ) (e : Sight) (x : Found) (f : Outcome) → clause_at ag p ≡ some x
        → x.clause ≡ c → walk forecasting un c e a ≡ f → SameOrStuck f (forecast ag (unit k p a e))
    on_unit c k p a e x f is same ef = subst (λ g. SameOrStuck g (forecast ag (unit k p a e))) ef
        (subst (SameOrStuck (walk forecasting un c e a))
        (ap (λ c. during forecasting ag.templates c e a) (sym same) ∙ unit_forecast k p a e x is) (deep c e a))

    walk_kept : (c : Clause) (n : ℕ) (env : List Ty) (e : Sight) (a : ℕ) (bs : List ℕ) → a ≤ r.time
        → type_clause (names_of ag n) env c ≡ some bs → Placed ag n env c
        → KeptAt (walk forecasting un c e a) (walk (following ag.templates r) mn c e a)
    unfolding walk forecasting following type_clause names_of or_stuck Placed NotBefore Done
    walk_kept fulfilled n env e a bs le ty pl = fulfils
    walk_kept (obligation b w t) n env e a bs le ty pl =
        from_need (blame_ok (names_of ag n) b) _ bs ty λ bo q₁.
        from_bind (type_wait (names_of ag n) env w) _ bs q₁ λ vs tw q₂.
        kept_bind ag r.time (window e a w) _ _ λ v ev.
        let f : Option Outcome = blamed e.params b >>= λ p. some (breach (later_of a v.last) (p ∷ [])) in
        let c : Coming (later_of a v.last) (or_stuck f) = coming_bind (later_of a v.last) (blamed e.params b) _
        (λ p. (omega arith, tt)) in
        kept_late a v f f _ (unit an_obligation w.place a e) (untaken ag r mark n env e w v t _ vs tw) c
        (on_unit (obligation b w t) an_obligation w.place a e _ (or_stuck f) pl.0 refl
        (ap or_stuck (some_bind (window e a w) _ v ev)))
        (λ l. kept_bind ag r.time (blamed e.params b) _ _ λ p _. breaks (later_of a v.last) (p ∷ []) (p ∷ [])
        (later_to a r.time v.last le l) (sub_refl (p ∷ [])) (λ _. refl))
    walk_kept (choice w t f) n env e a bs le ty pl =
        from_bind (type_wait (names_of ag n) env w) _ bs ty λ vs tw q₂.
        from_bind (type_clause (names_of ag n) (then_sight env vs) t) _ bs q₂ λ ps p q₃.
        from_bind (type_clause (names_of ag n) env f) _ bs q₃ λ qs p' q₄.
        kept_bind ag r.time (window e a w) _ _ λ v ev.
        let u = later_of a v.last in
        kept_late a v (some (walk forecasting un f e u)) _ _ (unit a_choice w.place a e)
        (untaken ag r mark n env e w v t _ vs tw) (walk_coming un uc f e u)
        (on_unit (choice w t f) a_choice w.place a e _ (walk forecasting un f e u) pl.0 refl
        (ap or_stuck (some_bind (window e a w) _ v ev)))
        (λ l. walk_kept f n env e u qs (later_to a r.time v.last le l) p' pl.2)
    walk_kept (if x t f) n env e a bs le ty pl =
        from_bind (has_type ag.parties env x truth) _ bs ty λ u tx q₀.
        from_bind (type_clause (names_of ag n) env t) _ bs q₀ λ ps p q.
        from_bind (type_clause (names_of ag n) env f) _ bs q λ qs p' q'.
        kept_bind ag r.time (eval_bool e.values x) _ _
        (λ b _. kept_side ag r.time b _ _ _ _ (walk_kept t n env e a ps le p pl.0)
        (walk_kept f n env e a qs le p' pl.1))
    walk_kept (join j t f) n env e a bs le ty pl =
        from_bind (type_clause (names_of ag n) env t) _ bs ty λ ps p q.
        from_bind (type_clause (names_of ag n) env f) _ bs q λ qs p' q'.
        joined_kept ag r.time j _ _ _ _ (walk_kept t n env e a ps le p pl.0)
        (walk_kept f n env e a qs le p' pl.1)
    walk_kept (instance k es cs) n env e a bs le ty pl =
        kept_bind ag r.time (evals e.values es) _ _ λ vs _.
        kept_bind ag r.time (blamed_all e.params cs) _ _ λ ps _. ut k vs ps a le
    walk_kept bad_clause n env e a bs le ty pl = stuck_before stuck

module _ (ag : Agreement) (mains : List ℕ) (fair : Fair ag mains) (r : Reading) (mark : r.type ≡ 0) where
  walk_in_kept : (m : ℕ) → m ≤ length ag.templates
      → (c : Clause) (n : ℕ) (env : List Ty) (e : Sight) (a : ℕ) (bs : List ℕ) → a ≤ r.time
      → type_clause (names_of ag n) env c ≡ some bs → Placed ag n env c
      → Kept ag r.time (walk_in forecasting ag.templates m c e a)
      (walk_in (following ag.templates r) ag.templates m c e a)
  unfolding walk_in NotBefore Done or_stuck during
  walk_in_kept zero few = walk_kept ag r mark _ _ (λ k vs ps a. (tt, tt)) (λ k vs ps a le. stuck_before stuck)
      (walk_in_deeper ag.templates zero (length ag.templates) few)
  walk_in_kept (suc m) few = walk_kept ag r mark _ _
      (λ k vs ps a. coming_bind a (at ag.templates k) _
      (λ t. walk_in_coming ag.templates m t.body (record { params = ps; values = vs }) a))
      (λ k vs ps a le. kept_bind ag r.time (at ag.templates k) _ _ λ t pt. let ft = fair.templates k t pt in
      walk_in_kept m (omega arith) t.body t.head.params t.head.values (record { params = ps; values = vs })
      a ft.blames le ft.typed ft.placed)
      (walk_in_deeper ag.templates (suc m) (length ag.templates) few)

  -- of a residue whose units all wait since T at the latest
  pub forecast_kept : (now : ℕ) → now ≤ r.time → (res : Residue) (ps : List ℕ)
      → Ok ag (λ t. (ag.start ≤ t) × (t ≤ now)) res ps → Kept ag r.time (forecast ag res) (follow ag r res)
  unfolding forecast follow across Ok or_stuck during
  forecast_kept now le (unit s p a e) ps ok =
      kept_bind ag r.time (clause_at ag p) _ _ λ c pc.
      let same : ok.found ≡ c = some_inj (sym ok.is_at ∙ pc) in
      subst (λ c. Kept ag r.time (during forecasting ag.templates c.clause e a)
      (during (following ag.templates r) ag.templates c.clause e a)) same
      (walk_in_kept (length ag.templates) (omega arith) ok.found.clause ok.found.params ok.found.sight e
      a ok.blames (omega (arith, ok.when.1)) ok.typed ok.placed)
  forecast_kept now le (both j l m) ps ok = joined_kept ag r.time j (forecast ag l) (forecast ag m) (follow ag r l)
      (follow ag r m) (forecast_kept now le l ok.0 ok.2) (forecast_kept now le m ok.1 ok.3)
