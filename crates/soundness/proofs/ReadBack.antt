-- Cells that read as a run are that run's table, and the run is well typed: the other direction of Round.
use mathlib.Core.Bool.{◌&&◌, not}
use mathlib.Core.List.{◌++◌, List, [], ◌∷◌, append_assoc}
use mathlib.Core.Logic.{inl, ◌↔◌}
use mathlib.Core.Option.{Option, none, some}
use mathlib.Core.Path.{ap, ap₂, refl, subst, sym, ◌∙◌, ◌≡◌}
use Prim.Native.Nat.{◌+◌, ◌-◌, ◌<◌, ◌^◌, suc, zero, ℕ, ◌≤◌}
use native.Mathlib.Omega.{arith}
use lib.Dec.{T, eqb, eqb→eq, leb, leb→le, ltb, ltb→lt}
use lib.IntN.{negsuc, pos, ℤ}
use lib.ListN.{length, length-append, replicate}
use Rattle.csl.specs.Lists.{◌>>=◌, all, at, need, split}
use Rattle.csl.specs.Parties.{bit, bits_from, bits_of, member, members, subset}
use Rattle.csl.specs.Syntax.{Agreement, Clause, Join, Ty, and, bad_clause, choice, fulfilled, if, instance, join}
use Rattle.csl.specs.Syntax.{Template, obligation, or}
use Rattle.csl.specs.Typing.{join_ok, names_of, type_clause}
use Rattle.csl.specs.Values.{Val, as_nat, value_of, values_of}
use Rattle.csl.specs.Outcomes.{Outcome, Residue, Sort, a_choice, an_obligation, both, unit, units}
use Rattle.csl.specs.Places.{Found, clause_at, find, find_in}
use Rattle.csl.specs.Table.{HeadNumbers, UnitSort, add_unit, as_nats, cells_of, head_cells, head_numbers, is_sort}
use Rattle.csl.specs.Table.{is_zero}
use Rattle.csl.specs.Table.{Run, join_cells, join_number, joining, nat_cells, padded, push, read_state, residue_cells}
use Rattle.csl.specs.Table.{residue_parties, run_of, single, sort_number, stand_for, table_of, trees, cells_of_unit}
use Rattle.csl.specs.Table.{unit_sort}
use Rattle.csl.specs.Table.{waiting, waiting_unit}
use Rattle.csl.specs.Demand3.{needed}
use Rattle.laws.proofs.Options.{from_or_else, from_bind, from_need, some_bind, some_inj}
use Rattle.laws.proofs.Bools.{from_test, T-left, T-right}
use Rattle.laws.proofs.Cells.{nat_is, value_is}
use Rattle.laws.proofs.Residues.{single_is}
use Rattle.laws.proofs.Clash.{impossible}
use Rattle.soundness.proofs.Members.{In, Sub, sub_join, subset→sub}
use Rattle.soundness.proofs.Evaluation.{HaveTy}
use Rattle.soundness.proofs.Good.{Good, Ok, Placed}
use Rattle.soundness.proofs.Walks.{Fair}
use Rattle.soundness.proofs.Bits.{bits_members}
use Rattle.soundness.proofs.RoundTrip.{len_nats}
use Rattle.soundness.proofs.Readings.{values_typed}
use Rattle.soundness.proofs.Runs.{Inv, Since, main_in, reads, run_at}

-- ---- what the finder finds
unfoldable FoundOk : Agreement → Found → Type 0
FoundOk ag f = Placed ag f.params f.sight f.clause × (f.params ≤ 4)

module _ (ag : Agreement) (p : ℕ) (f : Found) where
  find_placed : (n : ℕ) (c : Clause) (env : List Ty) → n ≤ 4 → Placed ag n env c
      → find ag.readings n p c env ≡ some f → FoundOk ag f
  unfolding find Placed FoundOk
  find_placed n fulfilled env few pl e = impossible cc
  find_placed n (obligation b w t) env few pl e = from_test (eqb p w.place) _ _ e
      (λ _ q. subst (FoundOk ag) (some_inj q) (pl, few)) (find_placed n t _ few pl.1)
  find_placed n (choice w t u) env few pl e = from_test (eqb p w.place) _ _ e
      (λ _ q. subst (FoundOk ag) (some_inj q) (pl, few))
      (λ q. from_or_else _ _ f q (find_placed n t _ few pl.1) (find_placed n u env few pl.2))
  find_placed n (if c t u) env few pl e = from_or_else _ _ f e (find_placed n t env few pl.0)
      (find_placed n u env few pl.1)
  find_placed n (join j t u) env few pl e = from_or_else _ _ f e (find_placed n t env few pl.0)
      (find_placed n u env few pl.1)
  find_placed n (instance k es bs) env few pl e = impossible cc
  find_placed n bad_clause env few pl e = impossible cc

  find_in_placed : (ts : List Template) → ((k : ℕ) (t : Template) → at ts k ≡ some t → (t.head.params ≤ 4)
      × Placed ag t.head.params t.head.values t.body) → find_in ag.readings p ts ≡ some f → FoundOk ag f
  unfolding find_in at
  find_in_placed [] h e = impossible cc
  find_in_placed (t ∷ ts) h e = from_or_else _ _ f e
      (λ q. let i = h 0 t refl in find_placed t.head.params t.body t.head.values i.0 i.1 q)
      (find_in_placed ts (λ k u q. h (suc k) u q))

-- what is found at a place of a checked agreement is placed, under at most 4 party parameters
pub found_placed : (ag : Agreement) (mains : List ℕ) → Fair ag mains → (p : ℕ) (f : Found) → clause_at ag p ≡ some f
    → Placed ag f.params f.sight f.clause × (f.params ≤ 4)
unfolding clause_at FoundOk
found_placed ag mains fr p f e = from_or_else _ _ f e (find_placed ag p f 0 ag.main [] (omega arith) fr.main_placed)
    (find_in_placed ag p f ag.templates (λ k t q. let x = fr.templates k t q in (x.few_params, x.placed)))

-- ---- what the readers take, and what is written again
module _ {A : Type 0} where
  split_is : (n : ℕ) (xs : List A) (s : List A × List A) → split n xs ≡ some s → (xs ≡ s.0 ++ s.1)
      × (length s.0 ≡ n) × (length xs ≡ n + length s.1)
  unfolding split
  split_is zero xs s e = subst (λ z. (xs ≡ z.0 ++ z.1) × (length z.0 ≡ 0) × (length xs ≡ 0 + length z.1))
      (some_inj e) (refl, refl, omega arith)
  split_is (suc n) [] s e = impossible cc
  split_is (suc n) (x ∷ xs) s e = from_bind (split n xs) _ s e λ t a b. let i = split_is n xs t a in
      subst (λ z. (x ∷ xs ≡ z.0 ++ z.1) × (length z.0 ≡ suc n) × (suc (length xs) ≡ suc n + length z.1))
      (some_inj b) (ap (λ l. x ∷ l) i.0, ap suc i.1, omega (arith, i.2))

zeros_are : (zs : List ℤ) → T (all is_zero zs) → zs ≡ replicate (length zs) (pos 0)
unfolding all is_zero
zeros_are [] t = refl
zeros_are (pos n ∷ zs) t = ap₂ (λ m l. pos m ∷ l) (eqb→eq n 0 (T-left (eqb n 0) _ t))
    (zeros_are zs (T-right (eqb n 0) _ t))
zeros_are (negsuc n ∷ zs) t = absurd t

-- with zeros behind it to a length it is padded to that length
filled : (n : ℕ) (xs zs : List ℤ) → T (all is_zero zs) → length (xs ++ zs) ≡ n → xs ++ zs ≡ padded n xs
unfolding padded
filled n xs zs t l =
    let e : length zs ≡ n - length xs = omega (arith, length-append xs zs) in
    ap (λ z. xs ++ z) (zeros_are zs t ∙ ap (λ k. replicate k (pos 0)) e)

nats_are : (zs : List ℤ) (ns : List ℕ) → as_nats zs ≡ some ns → zs ≡ nat_cells ns
unfolding as_nats nat_cells
nats_are [] ns e = ap nat_cells (some_inj e)
nats_are (z ∷ zs) ns e = from_bind (as_nat z) _ ns e λ m a₁ b₁. from_bind (as_nats zs) _ ns b₁ λ ms a₂ b₂. ap₂ ◌∷◌
    (nat_is z m a₁) (nats_are zs ms a₂) ∙ ap nat_cells (some_inj b₂)

pub values_are : (ps : ℕ) (ts : List Ty) (zs : List ℤ) (r : List Val × List ℤ) → values_of ps ts zs ≡ some r
    → zs ≡ cells_of r.0 ++ r.1
unfolding values_of cells_of
values_are ps [] zs r e = ap (λ x. cells_of x.0 ++ x.1) (some_inj e)
values_are ps (t ∷ ts) [] r e = impossible cc
values_are ps (t ∷ ts) (z ∷ zs) r e = from_bind (value_of ps t z) _ r e λ v a₁ b₁. from_bind (values_of ps ts zs) _ r b₁
    λ q a₂ b₂.
    ap₂ ◌∷◌ (value_is ps t z v a₁) (values_are ps ts zs q a₂) ∙ ap (λ x. cells_of x.0 ++ x.1) (some_inj b₂)

two_are : (ns : List ℕ) (a b : ℕ) → length ns ≡ 2 → at ns 0 ≡ some a → at ns 1 ≡ some b → ns ≡ a ∷ b ∷ []
unfolding at
two_are [] a b l p q = absurd (omega arith)
two_are (x ∷ []) a b l p q = absurd (omega arith)
two_are (x ∷ y ∷ []) a b l p q = cc
two_are (x ∷ y ∷ z ∷ ns) a b l p q = absurd (omega arith)

cons_is : {x a : ℕ} {ns bs : List ℕ} → some x ≡ some a → ns ≡ bs → x ∷ ns ≡ a ∷ bs
cons_is p e = ap₂ (λ k m. k ∷ m) (some_inj p) e

four_are : (ns : List ℕ) (a b c d : ℕ) → length ns ≡ 4 → at ns 0 ≡ some a → at ns 1 ≡ some b → at ns 2 ≡ some c
    → at ns 3 ≡ some d → ns ≡ a ∷ b ∷ c ∷ d ∷ []
unfolding at
four_are [] a b c d l p q r s = absurd (omega arith)
four_are (x ∷ []) a b c d l p q r s = absurd (omega arith)
four_are (x ∷ y ∷ ns) a b c d l p q r s = cons_is p (cons_is q (two_are ns c d (omega arith) r s))

six_are : (ns : List ℕ) (a b c d e f : ℕ) → length ns ≡ 6 → at ns 0 ≡ some a → at ns 1 ≡ some b → at ns 2 ≡ some c
    → at ns 3 ≡ some d → at ns 4 ≡ some e → at ns 5 ≡ some f → ns ≡ a ∷ b ∷ c ∷ d ∷ e ∷ f ∷ []
unfolding at
six_are [] a b c d e f l p q r s t u = absurd (omega arith)
six_are (x ∷ []) a b c d e f l p q r s t u = absurd (omega arith)
six_are (x ∷ y ∷ ns) a b c d e f l p q r s t u = cons_is p (cons_is q (four_are ns c d e f (omega arith) r s t u))

-- ---- units
unfoldable number_of : UnitSort → ℕ
number_of (waiting s) = sort_number s
number_of (joining j) = join_number j

abbrev kinds : List (Option UnitSort)
kinds = some (waiting an_obligation) ∷ some (waiting a_choice) ∷ none ∷ some (joining and) ∷ some (joining or) ∷ []

kind_is : (m : ℕ) (u : UnitSort) → at kinds m ≡ some (some u) → m + 17 ≡ number_of u
unfolding at number_of sort_number join_number
kind_is zero u e = ap number_of (some_inj (some_inj e))
kind_is (suc zero) u e = ap number_of (some_inj (some_inj e))
kind_is (suc (suc zero)) u e = impossible cc
kind_is (suc (suc (suc zero))) u e = ap number_of (some_inj (some_inj e))
kind_is (suc (suc (suc (suc zero)))) u e = ap number_of (some_inj (some_inj e))
kind_is (suc (suc (suc (suc (suc m))))) u e = impossible cc

sort_is : (z : ℤ) (u : UnitSort) → unit_sort z ≡ some u → z ≡ pos (number_of u)
unfolding unit_sort
sort_is z u e = from_bind (as_nat z) _ u e λ n a b. from_need (leb 17 n) _ u b λ t c. from_bind (at kinds (n - 17)) _ u
    c λ o d f.
    nat_is z n a ∙ ap pos (omega (arith, leb→le 17 n t, kind_is (n - 17) u (d ∙ ap some f)))

-- what reading a residue's units says of it
unfoldable Shaped : Agreement → Residue → Type 0
Shaped ag (unit s p a e) = (f : Found) × (clause_at ag p ≡ some f) × T (is_sort s f.clause)
    × (length e.params ≡ f.params) × T (all (λ x. ltb x ag.parties) e.params)
    × HaveTy ag.parties f.sight e.values
Shaped ag (both j l r) = Shaped ag l × Shaped ag r

unit_is : (ag : Agreement) (s : Sort) (cells : List ℤ) (r : Residue) → waiting_unit ag s cells ≡ some r → Shaped ag r
    × (units r ≡ 1) × (length cells ≡ 23 → pos (sort_number s) ∷ cells ≡ residue_cells r)
unfolding waiting_unit Shaped units residue_cells cells_of_unit nat_cells
unit_is ag s cells r e =
    from_bind (split 2 cells) _ r e λ h a₁ b₁. let i₁ = split_is 2 cells h a₁ in
    from_bind (as_nats h.0) _ r b₁ λ pa a₂ b₂. let i₂ = nats_are h.0 pa a₂ in
    from_bind (at pa 0) _ r b₂ λ p a₃ b₃.
    from_bind (at pa 1) _ r b₃ λ a a₄ b₄.
    from_bind (clause_at ag p) _ r b₄ λ f a₅ b₅.
    from_need (is_sort s f.clause) _ r b₅ λ t₆ b₆.
    from_bind (split 5 h.1) _ r b₆ λ q a₇ b₇. let i₇ = split_is 5 h.1 q a₇ in
    from_bind (split f.params q.0) _ r b₇ λ ps a₈ b₈. let i₈ = split_is f.params q.0 ps a₈ in
    from_bind (as_nats ps.0) _ r b₈ λ params a₉ b₉. let i₉ = nats_are ps.0 params a₉ in
    from_need (all (λ x. ltb x ag.parties) params) _ r b₉ λ t₁₀ b₁₀.
    from_need (all is_zero ps.1) _ r b₁₀ λ t₁₁ b₁₁.
    from_bind (values_of ag.parties f.sight q.1) _ r b₁₁ λ vs a₁₂ b₁₂. let i₁₂ = values_are ag.parties
    f.sight q.1 vs a₁₂ in
    from_need (all is_zero vs.1) _ r b₁₂ λ t₁₃ b₁₃.
    let placed : h.0 ≡ pos p ∷ pos a ∷ [] = i₂
    ∙ ap nat_cells (two_are pa p a (sym (len_nats pa) ∙ sym (ap length i₂) ∙ i₁.1) a₃ a₄) in
    let given : q.0 ≡ nat_cells params ++ ps.1 = i₈.0 ∙ ap (λ l. l ++ ps.1) i₉ in
    subst (λ r. Shaped ag r × (units r ≡ 1) × (length cells ≡ 23 → pos (sort_number s) ∷ cells ≡ residue_cells r))
    (some_inj b₁₃) (
      (
        f,
        a₅,
        t₆,
        sym (len_nats params) ∙ sym (ap length i₉) ∙ i₈.1,
        t₁₀,
        values_typed ag.parties f.sight q.1 vs a₁₂,
      ),
      refl,
      λ l. ap (λ x. pos (sort_number s) ∷ x) (i₁.0 ∙ ap₂ ◌++◌ placed (i₇.0 ∙ ap₂ ◌++◌
          (given ∙ filled 5 (nat_cells params) ps.1 t₁₁ (sym (ap length given) ∙ i₇.1))
          (i₁₂ ∙ filled 16 (cells_of vs.0) vs.1 t₁₃ (sym (ap length i₁₂) ∙ omega (arith, l, i₁.2, i₇.2))))),
    )

-- ---- trees
unfoldable Shapes : Agreement → List Residue → Type 0
Shapes ag [] = Unit {0}
Shapes ag (r ∷ rs) = Shaped ag r × Shapes ag rs

unfoldable units_in : List Residue → ℕ
units_in [] = 0
units_in (r ∷ rs) = units r + units_in rs

unfoldable cells_in : List Residue → List ℤ
cells_in [] = []
cells_in (r ∷ rs) = residue_cells r ++ cells_in rs

push_is : (ag : Agreement) (j : Join) (rs qs : List Residue) → push j rs ≡ some qs → Shapes ag rs → Shapes ag qs
    × (units_in qs ≡ suc (units_in rs)) × (join_cells j ++ cells_in rs ≡ cells_in qs)
unfolding push Shapes Shaped units_in units cells_in residue_cells
push_is ag j [] qs e h = impossible cc
push_is ag j (l ∷ []) qs e h = impossible cc
push_is ag j (l ∷ r ∷ rs) qs e h = subst
    (λ qs. Shapes ag qs × (units_in qs ≡ suc (units l + (units r + units_in rs)))
    × (join_cells j ++ (residue_cells l ++ (residue_cells r ++ cells_in rs)) ≡ cells_in qs)) (some_inj e) (
      ((h.0, h.1.0), h.1.1),
      omega arith,
      sym (append_assoc (join_cells j) (residue_cells l ++ residue_cells r) (cells_in rs)
          ∙ ap (λ x. join_cells j ++ x) (append_assoc (residue_cells l) (residue_cells r) (cells_in rs))),
    )

add_is : (ag : Agreement) (cells : List ℤ) (rs qs : List Residue) → add_unit ag cells rs ≡ some qs → length cells ≡ 24
    → Shapes ag rs → Shapes ag qs × (units_in qs ≡ suc (units_in rs)) × (cells ++ cells_in rs ≡ cells_in qs)
unfolding add_unit number_of Shapes units_in cells_in join_cells
add_is ag [] rs qs e l h = absurd (omega arith)
add_is ag (z ∷ zs) rs qs e l h = from_bind (unit_sort z) _ qs e λ u a b. go u (sort_is z u a) b
  where
    go : (u : UnitSort) → z ≡ pos (number_of u)
        → (elim u [
          | waiting s ↦ waiting_unit ag s zs >>= (λ r. some (r ∷ rs))
          | joining j ↦ need (all is_zero zs) >>= (λ _. push j rs)
        ]) ≡ some qs → Shapes ag qs
        × (units_in qs ≡ suc (units_in rs)) × ((z ∷ zs) ++ cells_in rs ≡ cells_in qs)
    go (waiting s) n b = from_bind (waiting_unit ag s zs) _ qs b λ r a₁ b₁. let i = unit_is ag s zs r a₁ in
        subst (λ qs. Shapes ag qs × (units_in qs ≡ suc (units_in rs)) × ((z ∷ zs) ++ cells_in rs ≡ cells_in qs))
        (some_inj b₁)
        ((i.0, h), omega (arith, i.1), ap (λ x. x ++ cells_in rs) (ap (λ x. x ∷ zs) n ∙ i.2 (omega arith)))
    go (joining j) n b = from_need (all is_zero zs) _ qs b λ t b₁. let i = push_is ag j rs qs b₁ h in
        (i.0, i.1, ap (λ x. x ++ cells_in rs) (ap (λ x. x ∷ zs) n ∙ filled 24 (pos (join_number j) ∷ []) zs t l) ∙ i.2)

-- the trees read from n units have n units in all, and the cells are theirs with zeros behind
record Trees (ag : Agreement) (n : ℕ) (cells : List ℤ) (rs : List Residue) : Type 0 where
  pub shaped : Shapes ag rs
  pub count : units_in rs ≡ n
  pub zeros : List ℤ
  pub all_zero : T (all is_zero zeros)
  pub same : cells ≡ cells_in rs ++ zeros

trees_are : (ag : Agreement) (n : ℕ) (cells : List ℤ) (rs : List Residue) → trees ag n cells ≡ some rs
    → Trees ag n cells rs
unfolding trees Shapes units_in cells_in
trees_are ag zero cells rs e = from_need (all is_zero cells) _ rs e λ t b. subst (Trees ag 0 cells) (some_inj b)
    (record {
      shaped = tt;
      count = refl;
      zeros = cells;
      all_zero = t;
      same = refl;
    })
trees_are ag (suc n) cells rs e =
    from_bind (split 24 cells) _ rs e λ s a₁ b₁. let i = split_is 24 cells s a₁ in
    from_bind (trees ag n s.1) _ rs b₁ λ qs a₂ b₂. let j = trees_are ag n s.1 qs a₂ in
    let k = add_is ag s.0 qs rs b₂ i.1 j.shaped in
    record {
      shaped = k.0;
      count = k.1 ∙ ap suc j.count;
      zeros = j.zeros;
      all_zero = j.all_zero;
      same = i.0 ∙ ap (λ x. s.0 ++ x) j.same ∙ sym (append_assoc s.0 (cells_in qs) j.zeros)
          ∙ ap (λ x. x ++ j.zeros) k.2;
    }

tree_is : (ag : Agreement) (n : ℕ) (cells : List ℤ) (rs : List Residue) (r : Residue) → trees ag n cells ≡ some rs
    → single rs ≡ some r → Trees ag n cells (r ∷ [])
tree_is ag n cells rs r e f = subst (Trees ag n cells) (single_is rs r f) (trees_are ag n cells rs e)

-- ---- a residue that was read, and whose parties are as they should be, is well typed
parties_ok : (ag : Agreement) (mains : List ℕ) → Fair ag mains → (now : ℕ) (res : Residue) (ps : List ℕ)
    → Shaped ag res → residue_parties ag mains now res ≡ some ps → Ok ag (Since ag now) res ps × Sub ps mains
unfolding Shaped residue_parties Ok
parties_ok ag mains fr now (unit s p a e) ps h q =
    let f = h.0 in
    let pl = found_placed ag mains fr p f h.1 in
    from_need (leb ag.start a && leb a now) _ ps q λ t b₁.
    from_bind (type_clause (names_of ag f.params) f.sight f.clause) _ ps
    (sym (some_bind (clause_at ag p) _ f h.1) ∙ b₁) λ bs a₂ b₂.
    from_need (subset (stand_for e.params bs) mains) _ ps b₂ λ u b₃. (
      record {
        found = f;
        is_at = h.1;
        sorted = h.2;
        when = (leb→le ag.start a (T-left (leb ag.start a) _ t), leb→le a now (T-right (leb ag.start a) _ t));
        sight = record { count = h.3; few_params = pl.1; range = h.4; values = h.5 };
        blames = bs;
        typed = a₂;
        parties = sym (some_inj b₃);
        placed = pl.0;
      },
      subst (λ l. Sub l mains) (some_inj b₃) (subset→sub (stand_for e.params bs) mains u),
    )
parties_ok ag mains fr now (both j l r) ps h q =
    from_bind (residue_parties ag mains now l) _ ps q λ xs a₁ b₁. let i = parties_ok ag mains fr now l xs h.0 a₁ in
    from_bind (residue_parties ag mains now r) _ ps b₁ λ ys a₂ b₂. let k = parties_ok ag mains fr now r ys h.1 a₂ in
    from_need (join_ok j (xs ++ ys)) _ ps b₂ λ t b₃. (
      (xs, ys, i.0, k.0, t, sym (some_inj b₃)),
      subst (λ l. Sub l mains) (some_inj b₃) (sub_join xs ys mains i.1 k.1),
    )

some_member : (n : ℕ) → n < 2 ^ 16 → T (not (eqb n 0)) → (p : ℕ) × In p (members n)
unfolding In bits_of bits_from bit member
some_member n h t = go (members n) (bits_members n h)
  where
    go : (ps : List ℕ) → bits_of ps ≡ n → (p : ℕ) × In p ps
    go [] e = absurd (subst (λ z. T (not (eqb z 0))) (sym e) t)
    go (p ∷ ps) e = (p, inl refl)

-- ---- whole tables
head_is : (cells : List ℤ) (h : HeadNumbers) → head_numbers cells ≡ some h → length cells ≡ 8
    → cells ≡ head_cells h.state h.now h.time h.parties h.used h.moved
unfolding head_numbers head_cells nat_cells
head_is cells h e l =
    from_bind (split 6 cells) _ h e λ s a₁ b₁. let i = split_is 6 cells s a₁ in
    from_need (all is_zero s.1) _ h b₁ λ t b₂.
    from_bind (as_nats s.0) _ h b₂ λ ns a₃ b₃. let j = nats_are s.0 ns a₃ in
    from_bind (at ns 0) _ h b₃ λ a a₄ b₄.
    from_bind (at ns 1) _ h b₄ λ b a₅ b₅.
    from_bind (at ns 2) _ h b₅ λ c a₆ b₆.
    from_bind (at ns 3) _ h b₆ λ d a₇ b₇.
    from_bind (at ns 4) _ h b₇ λ u a₈ b₈.
    from_bind (at ns 5) _ h b₈ λ m a₉ b₉.
    let two : length s.1 ≡ 2 = omega (arith, i.2) in
    i.0 ∙ ap₂ ◌++◌ (j ∙ ap nat_cells (six_are ns a b c d u m (sym (len_nats ns) ∙ sym (ap length j) ∙ i.1) a₄ a₅ a₆ a₇
    a₈ a₉)) (zeros_are s.1 t ∙ ap (λ k. replicate k (pos 0)) two)
    ∙ ap (λ h. head_cells h.state h.now h.time h.parties h.used h.moved) (some_inj b₉)

module _ (ag : Agreement) (mains : List ℕ) (h : HeadNumbers) (cells : List ℤ) where
  -- the outcome read is well typed, and head and cells are its table
  unfoldable StateIs : ℕ → Outcome → Type 0
  StateIs n o = (Fair ag mains → Good ag (Since ag h.now) mains o × (needed o ≤ 128))
      × (length cells ≡ 3072 → head_cells n h.now h.time h.parties h.used h.moved
      ++ cells ≡ table_of (run_at h.now h.moved o))

  state_is : (n : ℕ) (o : Outcome) → read_state ag mains h cells n ≡ some o → StateIs n o
  unfolding read_state StateIs Good needed table_of Shapes units_in cells_in head_cells nat_cells
  state_is zero o e = impossible cc
  state_is (suc zero) o e =
      from_need (eqb h.time 0 && eqb h.parties 0 && leb h.used 128) _ o e λ t b₁.
      from_bind (trees ag h.used cells) _ o b₁ λ rs a₂ b₂.
      from_bind (single rs) _ o b₂ λ r a₃ b₃. let i = tree_is ag h.used cells rs r a₂ a₃ in
      from_bind (residue_parties ag mains h.now r) _ o b₃ λ ps a₄ b₄.
      let u = T-left (eqb h.time 0 && eqb h.parties 0) _ t in
      let same : cells ≡ residue_cells r ++ i.zeros = i.same ∙ append_assoc (residue_cells r) [] i.zeros in
      let used : h.used ≡ units r = omega (arith, i.count) in
      subst (StateIs 1) (some_inj b₄) (
        (λ fr. let k = parties_ok ag mains fr h.now r ps i.shaped.0 a₄ in (
          (ps, k.0, k.1),
          omega (
            arith,
            used,
            leb→le h.used 128 (T-right (eqb h.time 0 && eqb h.parties 0) _ t),
          ),
        )),
        λ l. rw (
          eqb→eq h.time 0 (T-left (eqb h.time 0) _ u),
          eqb→eq h.parties 0 (T-right (eqb h.time 0) _ u),
          used,
        )
            (ap (λ x. head_cells 1 h.now 0 0 (units r) h.moved ++ x) same
            ∙ filled 3080 (head_cells 1 h.now 0 0 (units r) h.moved ++ residue_cells r) i.zeros i.all_zero
            (omega (arith, l, ap length same))),
      )
  state_is (suc (suc zero)) o e =
      from_need (eqb h.time 0 && eqb h.parties 0 && eqb h.used 0 && all is_zero cells) _ o e λ t b.
      let u = T-left (eqb h.time 0 && eqb h.parties 0 && eqb h.used 0) _ t in
      let v = T-left (eqb h.time 0 && eqb h.parties 0) _ u in
      subst (StateIs 2) (some_inj b) (
        (λ fr. (tt, omega arith)),
        λ l. rw (
          eqb→eq h.time 0 (T-left (eqb h.time 0) _ v),
          eqb→eq h.parties 0 (T-right (eqb h.time 0) _ v),
          eqb→eq h.used 0 (T-right (eqb h.time 0 && eqb h.parties 0) _ u),
        )
            (filled 3080 (head_cells 2 h.now 0 0 0 h.moved) cells
            (T-right (eqb h.time 0 && eqb h.parties 0 && eqb h.used 0) _ t) (omega arith)),
      )
  state_is (suc (suc (suc zero))) o e =
      from_need (leb ag.start h.time) _ o e λ t₁ b₁.
      from_need (leb h.time h.now) _ o b₁ λ t₂ b₂.
      from_need (ltb h.parties (2 ^ 16)) _ o b₂ λ t₃ b₃.
      from_need (not (eqb h.parties 0)) _ o b₃ λ t₄ b₄.
      from_need (subset (members h.parties) mains) _ o b₄ λ t₅ b₅.
      from_need (eqb h.used 0) _ o b₅ λ t₆ b₆.
      from_need (all is_zero cells) _ o b₆ λ t₇ b₇.
      let small = ltb→lt h.parties (2 ^ 16) t₃ in
      let p = some_member h.parties small t₄ in
      subst (StateIs 3) (some_inj b₇) (
        (λ fr. (
          (
            p.0,
            p.1,
            subset→sub (members h.parties) mains t₅,
            (leb→le ag.start h.time t₁, leb→le h.time h.now t₂),
          ),
          omega arith,
        )),
        λ l. filled 3080 (head_cells 3 h.now h.time h.parties h.used h.moved) cells t₇ (omega arith)
            ∙ ap₂ (λ b u. padded 3080 (head_cells 3 h.now h.time b u h.moved))
            (sym (bits_members h.parties small)) (eqb→eq h.used 0 t₆),
      )
  state_is (suc (suc (suc (suc n)))) o e = impossible cc

-- a run that is read, from any cells, is well typed
pub run_of_good : (a : Agreement) (mains : List ℕ) (cells : List ℤ) (q : Run) → Fair a mains
    → run_of a mains cells ≡ some q → Inv a mains q.last_time q.last_moved q.outcome
unfolding run_of StateIs
run_of_good a mains cells q fr e =
    from_bind (split 8 cells) _ q e λ s a₁ b₁.
    from_bind (head_numbers s.0) _ q b₁ λ h a₂ b₂.
    from_need (leb a.start h.moved && leb h.moved h.now && ltb h.now (2 ^ 32)) _ q b₂ λ t b₃.
    from_bind (read_state a mains h s.1 h.state) _ q b₃ λ o a₄ b₄.
    let i = (state_is a mains h s.1 h.state o a₄).0 fr in
    let since = T-left (leb a.start h.moved && leb h.moved h.now) _ t in
    subst (λ q. Inv a mains q.last_time q.last_moved q.outcome) (some_inj b₄)
    (record {
      from = leb→le a.start h.moved (T-left (leb a.start h.moved) _ since);
      to = leb→le h.moved h.now (T-right (leb a.start h.moved) _ since);
      fits = ltb→lt h.now (2 ^ 32) (T-right (leb a.start h.moved && leb h.moved h.now) _ t);
      good = i.0;
      small = i.1;
    })

-- a run that is read from 3080 cells has those cells as its table
pub table_back : (a : Agreement) (mains : List ℕ) (cells : List ℤ) (q : Run) → run_of a mains cells ≡ some q
    → length cells ≡ 3080 → table_of q ≡ cells
unfolding run_of StateIs
table_back a mains cells q e l =
    from_bind (split 8 cells) _ q e λ s a₁ b₁. let i = split_is 8 cells s a₁ in
    from_bind (head_numbers s.0) _ q b₁ λ h a₂ b₂.
    from_need (leb a.start h.moved && leb h.moved h.now && ltb h.now (2 ^ 32)) _ q b₂ λ t b₃.
    from_bind (read_state a mains h s.1 h.state) _ q b₃ λ o a₄ b₄.
    sym (i.0 ∙ ap (λ x. x ++ s.1) (head_is s.0 h a₂ i.1)
    ∙ (state_is a mains h s.1 h.state o a₄).1 (omega (arith, i.2)) ∙ ap table_of (some_inj b₄))

-- 7 does not apply to 3080 cells if and only if they are the table of a well-typed run
pub well_typed : (a : Agreement) (mains : List ℕ) (cells : List ℤ) → Fair a mains → length cells ≡ 3080
    → ((q : Run) × (run_of a mains cells ≡ some q))
    ↔ ((q : Run) × Inv a mains q.last_time q.last_moved q.outcome × (cells ≡ table_of q))
well_typed a mains cells fr l = (
  λ x. (x.0, run_of_good a mains cells x.0 fr x.1, sym (table_back a mains cells x.0 x.1 l)),
  λ x. let r = reads a mains (λ p i. omega (arith, main_in a mains fr p i, fr.few)) x.0.last_time
      x.0.last_moved x.0.outcome x.1 in
      (run_at x.0.last_time x.0.last_moved r.0, ap (run_of a mains) x.2 ∙ r.1),
)
