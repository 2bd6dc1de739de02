-- csl's reader of a waiting unit, and its parties: what they need, and what they give where it is there.
use mathlib.Core.Path.{◌≡◌, refl, sym, ap, ap₂, subst, ◌∙◌}
use mathlib.Core.Bool.{Bool, true, false, ◌&&◌, true≢false}
use mathlib.Core.List.{List, [], ◌∷◌}
use mathlib.Core.Option.{Option, none, some}
use Prim.Native.Nat.{ℕ, zero, suc, ◌+◌, ◌-◌, ◌≤◌}
use native.Mathlib.Omega.{arith}
use lib.Dec.{T, leb, ltb, leb→le, le→leb}
use lib.IntN.{ℤ, pos, negsuc}
use lib.ListN.{length, get_or, take, drop, length-drop, length-take}
use lib.Seq.{take-take, take_all, drop-drop}
use Rattle.arith.proofs.Lists.{length_part, part_part}
use Rattle.csl.specs.Lists.{◌>>=◌, all, at, split}
use Rattle.csl.specs.Numbers.{in_range}
use Rattle.csl.specs.Syntax.{Ty, number, truth, party, Agreement, Clause, fulfilled, obligation, choice, if, join}
use Rattle.csl.specs.Syntax.{instance, bad_clause}
use Rattle.csl.specs.Bytes.{byte, le32}
use Rattle.csl.specs.Parties.{bits_of, subset}
use Rattle.csl.specs.Decode.{tys_of, agreement_of}
use Rattle.csl.specs.Typing.{type_clause, names_of}
use Rattle.csl.specs.Values.{Val, as_nat, as_truth, value_of, values_of}
use Rattle.csl.specs.Outcomes.{Sight, Sort, an_obligation, a_choice, Residue, unit, units}
use Rattle.csl.specs.Places.{Found, clause_at}
use Rattle.csl.specs.Table.{is_zero, is_sort, as_nats, waiting_unit, stand_for, residue_parties}
use Rattle.laws.proofs.Options.{from_bind, from_need, some_bind, passes, some_inj, none_some, some_none}
use Rattle.laws.proofs.Bools.{T-both, both_true, T→true, true→T, true_not_false, and_left, and_right}
use Rattle.laws.proofs.Integers.{pos_inj}
use Rattle.laws.proofs.Types.{types_length}
use Rattle.std.specs.Prelude.{Option as Maybe, Some, None}
use Rattle.laws.proofs.Clash.{impossible}
use Rattle.kinds.specs.Kinds.{sort_in}
use Rattle.kinds.specs.declared.WaitKind.{WaitKind}
use Rattle.kinds.specs.declared.WaitKind.TheVariants.{Obligation, Choice}
use Rattle.places.specs.declared.Located.{Located}
use Rattle.records.specs.TypedValues.{value_ok, values_ok}
use Rattle.places.specs.Locate.{FoundAt, Locates}
use Rattle.places.specs.Sight.{types_in}
use Rattle.csl.specs.Check.{mains_of, Accepted}
use Rattle.units.specs.declared.Waiting.{Waiting}
use Rattle.cells.specs.Sights.{sights_in}
use Rattle.cells.specs.declared.Sight.TheVariants.{Waits}
use Rattle.units.specs.Units.{cells_in, UnitHas, UnitShows, recorded, FoundThere, LocatedIs}
use Rattle.units.specs.Units.{WaitingIs}
use Rattle.units.proofs.Units.{parties_nats, nats_parties, found_few, found_parties, stand_small}

-- ---- a list split
module _ {A : Type 0} where
  pub split_takes : (n : ℕ) (xs : List A) (s : List A × List A) → split n xs ≡ some s → (s.0 ≡ take n xs)
      × (s.1 ≡ drop n xs)
  unfolding split
  split_takes zero xs s e = (
    ap (λ (q : List A × List A). q.0) (sym (some_inj e)),
    ap (λ (q : List A × List A). q.1) (sym (some_inj e)),
  )
  split_takes (suc n) [] s e = none_some e
  split_takes (suc n) (x ∷ xs) s e = from_bind (split n xs) _ s e λ q a b.
      let i = split_takes n xs q a in
      let same = some_inj b in (
        ap (λ (q : List A × List A). q.0) (sym same) ∙ ap (λ (l : List A). x ∷ l) i.0,
        ap (λ (q : List A × List A). q.1) (sym same) ∙ i.1,
      )

  pub split_is : (n : ℕ) (xs : List A) → n ≤ length xs → split n xs ≡ some (take n xs, drop n xs)
  unfolding split
  split_is zero xs l = refl
  split_is (suc n) [] l = absurd (omega arith)
  split_is (suc n) (x ∷ xs) l = some_bind (split n xs) _ (take n xs, drop n xs) (split_is n xs (omega arith))

-- ---- the first two cells
two_from : (zs : List ℤ) (ns : List ℕ) (p w : ℕ) → as_nats (take 2 zs) ≡ some ns → at ns 0 ≡ some p → at ns 1 ≡ some w
    → (get_or zs 0 (pos 0) ≡ pos p) × (get_or zs 1 (pos 0) ≡ pos w)
unfolding as_nats at as_nat ◌>>=◌
two_from [] ns p w e f g = none_some (subst (λ (l : List ℕ). at l 0 ≡ some p) (sym (some_inj e)) f)
two_from (pos a ∷ []) ns p w e f g = none_some (subst (λ (l : List ℕ). at l 1 ≡ some w) (sym (some_inj e)) g)
two_from (negsuc a ∷ []) ns p w e f g = none_some e
two_from (pos a ∷ pos b ∷ zs) ns p w e f
    g = (
      ap pos (some_inj (subst (λ (l : List ℕ). at l 0 ≡ some p) (sym (some_inj e)) f)),
      ap pos (some_inj (subst (λ (l : List ℕ). at l 1 ≡ some w) (sym (some_inj e)) g)),
    )
two_from (pos a ∷ negsuc b ∷ zs) ns p w e f g = none_some e
two_from (negsuc a ∷ b ∷ zs) ns p w e f g = none_some e

two_is : (zs : List ℤ) (p w : ℕ) → 2 ≤ length zs → get_or zs 0 (pos 0) ≡ pos p → get_or zs 1 (pos 0) ≡ pos w
    → as_nats (take 2 zs) ≡ some (p ∷ w ∷ [])
unfolding as_nats as_nat ◌>>=◌
two_is [] p w l f g = absurd (omega arith)
two_is (a ∷ []) p w l f g = absurd (omega arith)
two_is (a ∷ b ∷ zs) p w l f g = rw (f, g) refl

-- ---- values
value_from : (ps : ℕ) (t : Ty) (z : ℤ) (v : Val) → value_of ps t z ≡ some v → value_ok ps t z ≡ true
unfolding value_of value_ok as_nat as_truth ◌>>=◌
value_from ps number z v e = from_need (in_range z) _ v e λ t _. T→true (in_range z) t
value_from ps truth (pos zero) v e = refl
value_from ps truth (pos (suc zero)) v e = refl
value_from ps truth (pos (suc (suc n))) v e = none_some e
value_from ps truth (negsuc n) v e = none_some e
value_from ps party (pos n) v e = from_need (ltb n ps) _ v e λ t _. T→true (ltb n ps) t
value_from ps party (negsuc n) v e = none_some e

value_is : (ps : ℕ) (t : Ty) (z : ℤ) → value_ok ps t z ≡ true → (v : Val) × (value_of ps t z ≡ some v)
unfolding value_of value_ok as_nat as_truth ◌>>=◌
value_is ps number z e = (_, passes (in_range z) _ (true→T e))
value_is ps truth (pos zero) e = (_, refl)
value_is ps truth (pos (suc zero)) e = (_, refl)
value_is ps truth (pos (suc (suc n))) e = absurd (omega (arith, leb→le (suc (suc n)) 1 (true→T e)))
value_is ps truth (negsuc n) e = absurd (true≢false (sym e))
value_is ps party (pos n) e = (_, passes (ltb n ps) _ (true→T e))
value_is ps party (negsuc n) e = absurd (true≢false (sym e))

values_from : (ps : ℕ) (ts : List Ty) (zs : List ℤ) (r : List Val × List ℤ) → values_of ps ts zs ≡ some r
    → (values_ok ps ts zs ≡ true) × (r.1 ≡ drop (length ts) zs) × (length ts ≤ length zs)
unfolding values_of values_ok
values_from ps [] zs r e = (refl, ap (λ (q : List Val × List ℤ). q.1) (sym (some_inj e)), omega arith)
values_from ps (t ∷ ts) [] r e = none_some e
values_from ps (t ∷ ts) (z ∷ zs) r e =
    from_bind (value_of ps t z) _ r e λ v a e₁.
    from_bind (values_of ps ts zs) _ r e₁ λ q b e₂.
    let i = values_from ps ts zs q b in (
      rw (value_from ps t z v a) i.0,
      ap (λ (q : List Val × List ℤ). q.1) (sym (some_inj e₂)) ∙ i.1,
      omega (arith, i.2),
    )

record ValuesAre (ps : ℕ) (ts : List Ty) (zs : List ℤ) : Type 0 where
  pub values : List Val
  pub are : values_of ps ts zs ≡ some (values, drop (length ts) zs)
  pub count : length values ≡ length ts
  pub few : length ts ≤ length zs

values_are : (ps : ℕ) (ts : List Ty) (zs : List ℤ) → values_ok ps ts zs ≡ true → ValuesAre ps ts zs
unfolding values_of values_ok
values_are ps [] zs e = record { values = []; are = refl; count = refl; few = omega arith }
values_are ps (t ∷ ts) [] e = absurd (true≢false (sym e))
values_are ps (t ∷ ts) (z ∷ zs) e =
    let v = value_is ps t z (and_left (value_ok ps t z) _ e) in
    let i = values_are ps ts zs (and_right (value_ok ps t z) _ e) in
    record {
      values = v.0 ∷ i.values;
      are = some_bind (value_of ps t z) _ v.0 v.1
          ∙ some_bind (values_of ps ts zs) _ (i.values, drop (length ts) zs) i.are;
      count = ap suc i.count;
      few = omega (arith, i.few);
    }

-- ---- the parts of the 23 cells, as csl and as code cut them
module _ (zs : List ℤ) (l : length zs ≡ 23) where
  five_length : length (take 5 (drop 2 zs)) ≡ 5
  five_length = length-take 5 (drop 2 zs) ∙ omega (arith, length-drop 2 zs)

  params_part : (n : ℕ) → n ≤ 5 → take n (take 5 (drop 2 zs)) ≡ cells_in zs 2 (2 + n)
  params_part n h = let e : 2 + n - 2 ≡ n = omega arith in rw (e, take-take n 5 (drop 2 zs) h)

  zeros_part : (n : ℕ) → n ≤ 5 → drop n (take 5 (drop 2 zs)) ≡ cells_in zs (2 + n) 7
  zeros_part n h =
      let e = part_part zs 2 7 n 5 (omega arith) in
      sym (take_all (5 - n) (drop n (take 5 (drop 2 zs)))
      (omega (arith, length-drop n (take 5 (drop 2 zs)), five_length))) ∙ e

  values_part : drop 5 (drop 2 zs) ≡ cells_in zs 7 23
  values_part = drop-drop 5 2 zs ∙ sym (take_all 16 (drop 7 zs) (omega (arith, length-drop 7 zs)))

  rest_part : (c : ℕ) → c ≤ 16 → drop c (cells_in zs 7 23) ≡ cells_in zs (7 + c) 23
  rest_part c h =
      let e = part_part zs 7 23 c 16 (omega arith) in
      sym (take_all (16 - c) (drop c (cells_in zs 7 23))
      (omega (arith, length-drop c (cells_in zs 7 23), length_part zs 7 23 (omega arith)))) ∙ e

  values_long : length (cells_in zs 7 23) ≡ 16
  values_long = length_part zs 7 23 (omega arith)

-- ---- what a waiting unit has
pub record UnitFacts (A : List ℕ) (now : ℕ) (s : Sort) (zs : List ℤ) : Type 0 where
  pub place : ℕ
  pub when : ℕ
  pub found : Found
  pub params : List ℕ
  pub is_place : get_or zs 0 (pos 0) ≡ pos place
  pub is_when : get_or zs 1 (pos 0) ≡ pos when
  pub is_at : clause_at (agreement_of A) place ≡ some found
  pub sorted : T (is_sort s found.clause)
  pub from : le32 A 4 ≤ when
  pub to : when ≤ now
  pub has : UnitHas A place found.params found.sight zs params

module _ {A : List ℕ} (acc : Accepted A) (now : ℕ) (s : Sort) (zs : List ℤ) (l : length zs ≡ 23) where
  abbrev Ag : Agreement
  Ag = agreement_of A

  pub unit_facts : (ps : List ℕ) → (waiting_unit Ag s zs >>= residue_parties Ag (mains_of A) now) ≡ some ps
      → UnitFacts A now s zs
  unfolding waiting_unit residue_parties agreement_of
  unit_facts ps e =
      from_bind (waiting_unit Ag s zs) _ ps e λ res a b.
      from_bind (split 2 zs) _ res a λ h a₁ b₁. let i₁ = split_takes 2 zs h a₁ in
      from_bind (as_nats h.0) _ res b₁ λ pa a₂ b₂.
      from_bind (at pa 0) _ res b₂ λ p a₃ b₃.
      from_bind (at pa 1) _ res b₃ λ w a₄ b₄.
      from_bind (clause_at Ag p) _ res b₄ λ f a₅ b₅.
      from_need (is_sort s f.clause) _ res b₅ λ t₆ b₆.
      from_bind (split 5 h.1) _ res b₆ λ q a₇ b₇. let i₇ = split_takes 5 h.1 q a₇ in
      from_bind (split f.params q.0) _ res b₇ λ x a₈ b₈. let i₈ = split_takes f.params q.0 x a₈ in
      from_bind (as_nats x.0) _ res b₈ λ params a₉ b₉.
      from_need (all (λ x. ltb x Ag.parties) params) _ res b₉ λ t₁₀ b₁₀.
      from_need (all is_zero x.1) _ res b₁₀ λ t₁₁ b₁₁.
      from_bind (values_of Ag.parties f.sight q.1) _ res b₁₁ λ vs a₁₂ b₁₂. let i₁₂ = values_from Ag.parties
      f.sight q.1 vs a₁₂ in
      from_need (all is_zero vs.1) _ res b₁₂ λ t₁₃ b₁₃.
      let r : residue_parties Ag (mains_of A) now (unit s p w (record { params = params; values = vs.0 })) ≡ some
      ps = subst (λ (y : Residue). residue_parties Ag (mains_of A) now y ≡ some ps) (sym (some_inj b₁₃)) b in
      from_need (leb Ag.start w && leb w now) _ ps r λ t₁₄ r₁.
      from_bind (type_clause (names_of Ag f.params) f.sight f.clause) _ ps
      (sym (some_bind (clause_at Ag p) _ f a₅) ∙ r₁) λ bs a₁₅ r₂.
      from_need (subset (stand_for params bs) (mains_of A)) _ ps r₂ λ t₁₆ r₃.
      let few = found_few acc p f a₅ in
      let first : q.0 ≡ take 5 (drop 2 zs) = i₇.0 ∙ ap (take 5) i₁.1 in
      let last : q.1 ≡ cells_in zs 7 23 = i₇.1 ∙ ap (drop 5) i₁.1 ∙ values_part zs l in
      let own : x.0 ≡ cells_in zs 2 (2 + f.params) = i₈.0 ∙ ap (take f.params) first
      ∙ params_part zs l f.params (omega arith) in
      let none_there : x.1 ≡ cells_in zs (2 + f.params) 7 = i₈.1 ∙ ap (drop f.params) first
      ∙ zeros_part zs l f.params (omega arith) in
      let short : length f.sight ≤ 16 = omega (arith, i₁₂.2, ap length last, values_long zs l) in
      let rest : vs.1 ≡ cells_in zs (7 + length f.sight) 23 = i₁₂.1 ∙ ap (drop (length f.sight)) last
      ∙ rest_part zs l (length f.sight) short in
      let two = two_from zs pa p w (rw i₁.0 at a₂) a₃ a₄ in
      let blames : bs ≡ recorded A p = some_inj (sym a₁₅ ∙ found_parties acc p f a₅) in
      both_true (leb Ag.start w) (leb w now) t₁₄ λ lo hi.
      record {
        place = p;
        when = w;
        found = f;
        params = params;
        is_place = two.0;
        is_when = two.1;
        is_at = a₅;
        sorted = t₆;
        from = leb→le Ag.start w lo;
        to = leb→le w now hi;
        has = record {
          cells = record {
            are_params = rw own at (nats_parties Ag.parties x.0 params a₉ t₁₀);
            no_params = rw none_there at (T→true (all is_zero x.1) t₁₁);
            are_values = rw last at i₁₂.0;
            no_values = rw rest at (T→true (all is_zero vs.1) t₁₃);
          };
          among = rw blames at (T→true (subset (stand_for params bs) (mains_of A)) t₁₆);
        };
      }

  pub unit_shows : (h : UnitFacts A now s zs)
      → UnitShows A now (waiting_unit Ag s zs) (Waits h.found.params (length h.found.sight))
      (bits_of (stand_for h.params (recorded A h.place)))
  unfolding waiting_unit residue_parties agreement_of at sights_in units
  unit_shows h =
      let f = h.found in
      let n = f.params in
      let few = found_few acc h.place f h.is_at in
      let cells = h.has.cells in
      let nats = parties_nats (byte A 8) (cells_in zs 2 (2 + n)) h.params cells.are_params in
      let v = values_are (byte A 8) f.sight (cells_in zs 7 23) cells.are_values in
      let short : length f.sight ≤ 16 = omega (arith, v.few, values_long zs l) in
      let sight : Sight = record { params = h.params; values = v.values } in
      let res : Residue = unit s h.place h.when sight in
      let reads : waiting_unit Ag s zs ≡ some res =
      some_bind (split 2 zs) _ (take 2 zs, drop 2 zs) (split_is 2 zs (omega arith))
      ∙ some_bind (as_nats (take 2 zs)) _ (h.place ∷ h.when ∷ [])
      (two_is zs h.place h.when (omega arith) h.is_place h.is_when)
      ∙ some_bind (at (h.place ∷ h.when ∷ []) 0) _ h.place refl
      ∙ some_bind (at (h.place ∷ h.when ∷ []) 1) _ h.when refl
      ∙ some_bind (clause_at Ag h.place) _ f h.is_at
      ∙ passes (is_sort s f.clause) _ h.sorted
      ∙ some_bind (split 5 (drop 2 zs)) _ (take 5 (drop 2 zs), drop 5 (drop 2 zs))
      (split_is 5 (drop 2 zs) (omega (arith, length-drop 2 zs)))
      ∙ some_bind (split n (take 5 (drop 2 zs))) _ (take n (take 5 (drop 2 zs)), drop n (take 5 (drop 2 zs)))
      (split_is n (take 5 (drop 2 zs)) (omega (arith, five_length zs l)))
      ∙ some_bind (as_nats (take n (take 5 (drop 2 zs)))) _ h.params (rw (params_part zs l n (omega arith)) nats.0)
      ∙ passes (all (λ x. ltb x (byte A 8)) h.params) _ nats.1
      ∙ passes (all is_zero (drop n (take 5 (drop 2 zs)))) _
      (rw (zeros_part zs l n (omega arith)) (true→T cells.no_params))
      ∙ some_bind (values_of (byte A 8) f.sight (drop 5 (drop 2 zs))) _
      (v.values, drop (length f.sight) (cells_in zs 7 23)) (rw (values_part zs l) v.are)
      ∙ passes (all is_zero (drop (length f.sight) (cells_in zs 7 23))) _
      (rw (rest_part zs l (length f.sight) short) (true→T cells.no_values)) in
      let parties : residue_parties Ag (mains_of A) now res ≡ some (stand_for h.params (recorded A h.place)) =
      passes (leb (le32 A 4) h.when && leb h.when now) _
      (T-both (leb (le32 A 4) h.when) _ (le→leb (le32 A 4) h.when h.from) (le→leb h.when now h.to))
      ∙ some_bind (clause_at Ag h.place) _ f h.is_at
      ∙ some_bind (type_clause (names_of Ag n) f.sight f.clause) _ (recorded A h.place)
      (found_parties acc h.place f h.is_at)
      ∙ passes (subset (stand_for h.params (recorded A h.place)) (mains_of A)) _ (true→T h.has.among) in
      record {
        residue = res;
        is = reads;
        parties = record {
          parties = stand_for h.params (recorded A h.place);
          are = parties;
          small = λ q m. stand_small acc h.place f h.is_at h.params nats.1 q m;
          same = refl;
        };
        sights = ap₂ (λ (x y : ℕ). Waits x y ∷ []) (nats.2 ∙ omega (arith, length_part zs 2 (2 + n) (omega arith)))
            v.count;
        one = refl;
      }

-- ---- a waiting clause has one sort
one_sort : (s t : Sort) (c : Clause) → T (is_sort s c) → T (is_sort t c) → s ≡ t
unfolding is_sort
one_sort an_obligation an_obligation c a b = refl
one_sort a_choice a_choice c a b = refl
one_sort an_obligation a_choice fulfilled a b = absurd a
one_sort an_obligation a_choice (obligation x w t) a b = absurd b
one_sort an_obligation a_choice (choice w t f) a b = absurd a
one_sort an_obligation a_choice (if x t f) a b = absurd a
one_sort an_obligation a_choice (join j t f) a b = absurd a
one_sort an_obligation a_choice (instance k es bs) a b = absurd a
one_sort an_obligation a_choice bad_clause a b = absurd a
one_sort a_choice an_obligation fulfilled a b = absurd a
one_sort a_choice an_obligation (obligation x w t) a b = absurd a
one_sort a_choice an_obligation (choice w t f) a b = absurd b
one_sort a_choice an_obligation (if x t f) a b = absurd a
one_sort a_choice an_obligation (join j t f) a b = absurd a
one_sort a_choice an_obligation (instance k es bs) a b = absurd a
one_sort a_choice an_obligation bad_clause a b = absurd a

same_wait : (v w : WaitKind) → sort_in v ≡ sort_in w → v ≡ w
same_wait Obligation Obligation e = refl
same_wait Choice Choice e = refl
same_wait Obligation Choice e = impossible cc
same_wait Choice Obligation e = impossible cc

-- ---- what the code read
pub option_none : {A : Type 0} (o : Option A) → ((x : A) → o ≡ some x → ⊥) → o ≡ none
option_none none f = refl
option_none (some x) f = absurd (f x refl)

module _ {A : List ℕ} (acc : Accepted A) (now : ℕ) (wait : WaitKind) (zs : List ℤ) (l : length zs ≡ 23) where
  damaged : (UnitFacts A now (sort_in wait) zs → ⊥) → WaitingIs A now (sort_in wait) zs None
  unfolding WaitingIs
  damaged f = option_none
      (waiting_unit (agreement_of A) (sort_in wait) zs >>= residue_parties (agreement_of A) (mains_of A) now)
      (λ ps e. f (unit_facts acc now (sort_in wait) zs l ps e))

  pub wait_negative : ((n : ℕ) → get_or zs 0 (pos 0) ≡ pos n → ⊥) → WaitingIs A now (sort_in wait) zs None
  wait_negative f = damaged λ h. f h.place h.is_place

  pub wait_timeless : ((n : ℕ) → get_or zs 1 (pos 0) ≡ pos n → ⊥) → WaitingIs A now (sort_in wait) zs None
  wait_timeless f = damaged λ h. f h.when h.is_when

  module _ {when : ℕ} (e : get_or zs 1 (pos 0) ≡ pos when) where
    pub wait_outside : {start : ℕ} {b : Bool} → start ≡ le32 A 4 → b ≡ (leb start when && leb when now) → b ≡ false
        → WaitingIs A now (sort_in wait) zs None
    wait_outside {start} a t f = damaged λ h.
        let same : h.when ≡ when = pos_inj (sym h.is_when ∙ e) in
        let from : start ≤ when = omega (arith, h.from) in
        let to : when ≤ now = omega (arith, h.to) in
        true_not_false (T→true (leb start when && leb when now)
        (T-both (leb start when) _ (le→leb start when from) (le→leb when now to))) (sym t ∙ f)

    module _ {place : ℕ} (b : get_or zs 0 (pos 0) ≡ pos place) where
      same_place : (x : UnitFacts A now (sort_in wait) zs) → x.place ≡ place
      same_place x = pos_inj (sym x.is_place ∙ b)

      module _ (r : Maybe Located) (h : Locates (clause_at (agreement_of A) place) r) where
        pub wait_nowhere : r ≡ None → WaitingIs A now (sort_in wait) zs None
        unfolding Locates
        wait_nowhere g = damaged λ x. some_none (rw g at h) (rw (same_place x) at x.is_at)

        module _ {f : Located} (g : r ≡ Some f) where
          there : FoundAt (clause_at (agreement_of A) place) (types_in f.sight) f.wait f.params
          unfolding Locates
          there = rw g at h

          pub found_there : FoundThere A place f.params (types_in f.sight)
          found_there = record { found = there.found; is = there.is; params = there.params; sight = there.sight }

          same_found : (x : UnitFacts A now (sort_in wait) zs) → x.found ≡ there.found
          same_found x = some_inj (sym (rw (same_place x) at x.is_at) ∙ there.is)

          pub wait_other : (f.wait ≡ wait → ⊥) → WaitingIs A now (sort_in wait) zs None
          wait_other m = damaged λ x. m (same_wait f.wait wait (one_sort (sort_in f.wait) (sort_in wait)
              there.found.clause there.sorted
              (subst (λ (y : Found). T (is_sort (sort_in wait) y.clause)) (same_found x) x.sorted)))

          module _ {start : ℕ} {within : Bool} (a : start ≡ le32 A 4)
              (t : within ≡ (leb start when && leb when now)) (inside : within ≡ true) (m : f.wait ≡ wait)
            where
              pub wait_located : (w : Maybe Waiting) → LocatedIs A place f.params (types_in f.sight) zs w
                  → WaitingIs A now (sort_in wait) zs w
              unfolding LocatedIs WaitingIs
              wait_located None y = damaged λ x.
                  let q = same_found x in
                  y x.params (subst (λ (p : ℕ). UnitHas A p f.params (tys_of (types_in f.sight)) zs x.params)
                  (same_place x)
                  (rw (ap (λ (z : Found). z.params) q ∙ there.params, ap (λ (z : Found). z.sight) q ∙ there.sight) at
                  x.has))
              wait_located (Some w) y =
                  let x : UnitFacts A now (sort_in wait) zs = record {
                    place = place;
                    when = when;
                    found = there.found;
                    params = y.params;
                    is_place = b;
                    is_when = e;
                    is_at = there.is;
                    sorted = subst (λ (u : WaitKind). T (is_sort (sort_in u) there.found.clause)) m there.sorted;
                    from = omega (arith, leb→le start when (true→T (and_left _ _ (sym t ∙ inside))));
                    to = leb→le when now (true→T (and_right (leb start when) _ (sym t ∙ inside)));
                    has = rw (there.params, there.sight) y.has;
                  } in
                  let shows = unit_shows acc now (sort_in wait) zs l x in
                  rw (
                    y.same,
                    y.counts ∙ ap₂ (λ n c. Waits n c) (sym there.params)
                        (sym (ap length there.sight ∙ types_length (types_in f.sight))),
                  ) shows
