-- The tree of units at the front of the cells, as the code reads it and as csl's `trees` reads it from the last unit
-- to the first.
use mathlib.Core.Path.{◌≡◌, refl, sym, ap, ap₂, subst, ◌∙◌}
use mathlib.Core.Bool.{Bool, true, false, ◌||◌, true≢false}
use mathlib.Core.List.{List, [], ◌∷◌, ◌++◌}
use mathlib.Core.Logic.{◌⊎◌, inl, inr}
use mathlib.Core.Option.{Option, none, some}
use Prim.Native.Nat.{ℕ, zero, suc, ◌+◌, ◌-◌, ◌*◌, ◌≤◌, ◌<◌}
use native.Mathlib.Decide.{dec_le}
use native.Mathlib.Omega.{arith}
use lib.Bits.{bit_or}
use lib.Dec.{T, leb, ltb, leb→le}
use lib.IntN.{ℤ, pos, negsuc}
use lib.ListN.{length, get_or, take, drop}
use borrow.Rule.Slice.PartMut.{put_mid}
use Rattle.arith.proofs.Lists.{tail_put}
use lib.Seq.{take-add, take-append-le, take_at, drop-drop, drop_at, length-take-le}
use Rattle.csl.specs.Lists.{◌>>=◌, need, all, at, split}
use Rattle.csl.specs.Syntax.{Join, and, or, Agreement}
use Rattle.csl.specs.Parties.{member, member_count, bits_of}
use Rattle.csl.specs.Decode.{agreement_of}
use Rattle.csl.specs.Typing.{join_ok}
use Rattle.csl.specs.Places.{clause_at}
use Rattle.csl.specs.Values.{as_nat, values_of}
use Rattle.csl.specs.Outcomes as csl
use Rattle.csl.specs.Outcomes.{Sort, an_obligation, a_choice, Residue, unit, both, units}
use Rattle.csl.specs.Table.{is_zero, as_nats, is_sort, waiting_unit, push, UnitSort, waiting, joining, unit_sort}
use Rattle.csl.specs.Table.{add_unit}
use Rattle.csl.specs.Table.{trees, residue_parties}
use Rattle.laws.proofs.Options.{from_bind, from_need, some_bind, passes, some_inj, none_some}
use Rattle.laws.proofs.PartyBits.{member_append}
use Rattle.laws.proofs.Lists.{part_from}
use Rattle.laws.proofs.Residues.{some_units}
use Rattle.laws.proofs.Bools.{T→true}
use Rattle.parties.specs.Masks.{mask_of, ValidMembers}
use Rattle.parties.proofs.Masks.{mask_bits}
use Rattle.csl.specs.Check.{mains_of}
use Rattle.std.specs.Prelude.{Option as Maybe, Some, None}
use Rattle.std.specs.Prelude.{Result, Ok, Err}
use Rattle.std.specs.Result.{result_ok}
use Rattle.laws.proofs.Clash.{impossible}
use Rattle.kinds.specs.Kinds.{join_in, sort_in, wait_number, join_number as number_of_join, NamesWait, NamesJoin}
use Rattle.kinds.specs.declared.Unknown.{Unknown}
use Rattle.kinds.specs.declared.Join as kinds
use Rattle.kinds.specs.declared.Join.TheVariants.{And, Or}
use Rattle.kinds.specs.declared.WaitKind.{WaitKind}
use Rattle.kinds.specs.declared.WaitKind.TheVariants.{Obligation, Choice}
use Rattle.units.specs.declared.Waiting.{Waiting}
use Rattle.units.specs.Units.{cells_in, PartiesOf, WaitingIs}
use Rattle.units.proofs.Blames.{at_past, joined_bits}
use Rattle.units.proofs.Waits.{option_none, split_takes, split_is}
use Rattle.state.specs.declared.Tree.{Tree}
use Rattle.state.specs.declared.First.{First}
use Rattle.state.specs.declared.First.TheVariants as kind
use Rattle.cells.specs.Sights.{join_as, sights_in}
use Rattle.cells.specs.declared.Sight.{Sight}
use Rattle.cells.specs.declared.Sight.TheVariants.{Joins}
use Rattle.std.specs.Bool.{then_some}
use Rattle.units.proofs.Tests.{by_then}
use Rattle.state.specs.Tree.{WaitsFirst, JoinsFirst, ReadsAs, FirstIs, TreeAs, WalkIs, SidesAs}

-- ---- the rule for joins
pub join_and : {bits : ℕ} (ps : List ℕ) → ((q : ℕ) → member q ps ≡ true → q < 16) → bits ≡ bits_of ps
    → true ≡ join_ok and ps
unfolding join_ok
join_and ps f g = refl

pub join_or : {bits r : ℕ} → ((ps : List ℕ) → ValidMembers ps → bits ≡ mask_of ps → r ≡ member_count ps) → (ps : List ℕ)
    → ((q : ℕ) → member q ps ≡ true → q < 16) → bits ≡ bits_of ps → leb r 1 ≡ join_ok or ps
unfolding join_ok
join_or m ps f g = rw (m ps (record { each = λ q t. inl (f q t) }) (g ∙ sym (mask_bits ps f)))

module _ (a : List ℕ) (now : ℕ) (j : Join) {l r : Residue} {x y bits : ℕ} (p : PartiesOf a now l x)
    (q : PartiesOf a now r y) (e : bits ≡ bit_or x y) where
  abbrev Both : List ℕ
  Both = p.parties ++ q.parties

  both_small : (n : ℕ) → member n (p.parties ++ q.parties) ≡ true → n < 16
  both_small n h = go (member n p.parties) refl (rw (member_append n p.parties q.parties) at h)
    where
      go : (b : Bool) → member n p.parties ≡ b → (b || member n q.parties) ≡ true → n < 16
      go true m u = p.small n m
      go false m u = q.small n u

  both_bits : bits ≡ bits_of (p.parties ++ q.parties)
  both_bits = joined_bits p.parties q.parties p.same q.same e

  module _ {b : Bool} (ok : b ≡ join_ok j (p.parties ++ q.parties)) where
    asked : residue_parties (agreement_of a) (mains_of a) now
        (both j l r) ≡ (need (join_ok j (p.parties ++ q.parties)) >>= λ _. some (p.parties ++ q.parties))
    unfolding residue_parties
    asked = some_bind (residue_parties (agreement_of a) (mains_of a) now l) _ p.parties p.are
        ∙ some_bind (residue_parties (agreement_of a) (mains_of a) now r) _ q.parties q.are

    both_parties : b ≡ true → PartiesOf a now (both j l r) bits
    unfolding need ◌>>=◌
    both_parties t = record { parties = Both; are = asked ∙ rw (sym ok ∙ t); small = both_small; same = both_bits }

    both_none : b ≡ false → residue_parties (agreement_of a) (mains_of a) now (both j l r) ≡ none
    unfolding need ◌>>=◌
    both_none t = asked ∙ rw (sym ok ∙ t)

sort_joining : (j : kinds.Join) → unit_sort (pos (number_of_join j)) ≡ some (joining (join_in j))
sort_joining And = unfold unit_sort as_nat ◌>>=◌ need at in refl
sort_joining Or = unfold unit_sort as_nat ◌>>=◌ need at in refl

sort_waiting : (w : WaitKind) → unit_sort (pos (wait_number w)) ≡ some (waiting (sort_in w))
sort_waiting Obligation = unfold unit_sort as_nat ◌>>=◌ need at in refl
sort_waiting Choice = unfold unit_sort as_nat ◌>>=◌ need at in refl

-- ---- how a join joins
same_join : (j : kinds.Join) → join_as (join_in j) ≡ j
unfolding join_as
same_join And = refl
same_join Or = refl

-- ---- a unit by its sort
abbrev sorts : List (Option UnitSort)
sorts = some (waiting an_obligation) ∷ some (waiting a_choice) ∷ none ∷ some (joining and) ∷ some (joining or) ∷ []

sort_from : (n : ℕ) (u : UnitSort) → unit_sort (pos n) ≡ some u → (17 ≤ n) × (n < 22) × (n ≡ 19 → ⊥)
unfolding unit_sort at as_nat
sort_from n u e =
    from_bind (as_nat (pos n)) _ u e λ m a e₁.
    let same : m ≡ n = some_inj (sym a) in
    from_need (leb 17 m) _ u e₁ λ t e₂.
    from_bind (at sorts (m - 17)) _ u e₂ λ o b e₃.
    let low = leb→le 17 m t in
    (omega arith, omega (arith, inside m b), λ h. middle m o b e₃ (omega arith))
  where
    inside : (m : ℕ) {o : Option UnitSort} → at sorts (m - 17) ≡ some o → m < 22
    inside m b = go (dec_le 22 m)
      where
        go : Dec (22 ≤ m) → m < 22
        go (yes h) = none_some (sym (at_past sorts (m - 17) (omega arith)) ∙ b)
        go (no h) = omega arith

    middle : (m : ℕ) (o : Option UnitSort) → at sorts (m - 17) ≡ some o → o ≡ some u → m ≡ 19 → ⊥
    middle m o b e h = let third : some none ≡ some o = ap (λ (y : ℕ). at sorts (y - 17)) (sym h) ∙ b in
        none_some (some_inj third ∙ e)

-- what a number names
pub wait_named : (n : ℕ) (r : Result WaitKind Unknown) → NamesWait n r → {w : WaitKind} → r ≡ Ok w → wait_number w ≡ n
wait_named n r h e = rw e at h

pub wait_unnamed : (n : ℕ) (r : Result WaitKind Unknown) → NamesWait n r → {u : Unknown} → r ≡ Err u
    → (n < 17) ⊎ (18 < n)
wait_unnamed n r h e = rw e at h

module _ (n : ℕ) (r : Result kinds.Join Unknown) {o : Maybe kinds.Join} (q : o ≡ result_ok r) (h : NamesJoin n r) where
  pub join_named : {j : kinds.Join} → o ≡ Some j → number_of_join j ≡ n
  join_named {j} e = go r (sym q ∙ e) h
    where
      go : (r : Result kinds.Join Unknown) → result_ok r ≡ Some j → NamesJoin n r → number_of_join j ≡ n
      go (Ok i) e h = let same : i ≡ j = cc in ap number_of_join (sym same) ∙ h
      go (Err u) e h = impossible cc

  pub join_unnamed : o ≡ None → (n < 20) ⊎ (21 < n)
  join_unnamed e = go r (sym q ∙ e) h
    where
      go : (r : Result kinds.Join Unknown) → result_ok r ≡ None → NamesJoin n r → (n < 20) ⊎ (21 < n)
      go (Ok i) e h = impossible cc
      go (Err u) e h = h

pub no_cell : (z : ℤ) → ((n : ℕ) → z ≡ pos n → ⊥) → unit_sort z ≡ none
unfolding unit_sort as_nat ◌>>=◌
no_cell (pos n) f = absurd (f n refl)
no_cell (negsuc n) f = refl

pub no_sort : (n : ℕ) → (n < 17) ⊎ (18 < n) → (n < 20) ⊎ (21 < n) → unit_sort (pos n) ≡ none
no_sort n f g = option_none (unit_sort (pos n)) (λ u h. let s = sort_from n u h in apart s f g)
  where
    apart : (17 ≤ n) × (n < 22) × (n ≡ 19 → ⊥) → (n < 17) ⊎ (18 < n) → (n < 20) ⊎ (21 < n) → ⊥
    apart s (inl a) b = omega arith
    apart s (inr a) (inl b) = s.2 (omega arith)
    apart s (inr a) (inr b) = omega arith

-- ---- csl's `trees` and the tree in prefix order
module _ (ag : Agreement) where
  -- what is read of a waiting unit is one unit
  waits_one : {C : Type 0} (s : Sort) (zs : List ℤ) (r : Residue) → waiting_unit ag s zs ≡ some r
      → ((p a : ℕ) (e : csl.Sight) → r ≡ unit s p a e → C) → C
  unfolding waiting_unit
  waits_one s zs r e k =
      from_bind (split 2 zs) _ r e λ h _ e₁.
      from_bind (as_nats h.0) _ r e₁ λ pa _ e₂.
      from_bind (at pa 0) _ r e₂ λ p _ e₃.
      from_bind (at pa 1) _ r e₃ λ a _ e₄.
      from_bind (clause_at ag p) _ r e₄ λ f _ e₅.
      from_need (is_sort s f.clause) _ r e₅ λ _ e₆.
      from_bind (split 5 h.1) _ r e₆ λ q _ e₇.
      from_bind (split f.params q.0) _ r e₇ λ ps _ e₈.
      from_bind (as_nats ps.0) _ r e₈ λ params _ e₉.
      from_need (all (λ x. ltb x ag.parties) params) _ r e₉ λ _ d₁.
      from_need (all is_zero ps.1) _ r d₁ λ _ d₂.
      from_bind (values_of ag.parties f.sight q.1) _ r d₂ λ vs _ d₃.
      from_need (all is_zero vs.1) _ r d₃ λ _ d₄.
      k p a _ (sym (some_inj d₄))

  reads_unit : (s : Sort) (cells : List ℤ) (r : Residue) → 24 ≤ length cells
      → unit_sort (get_or cells 0 (pos 0)) ≡ some (waiting s) → waiting_unit ag s (cells_in cells 1 24) ≡ some r
      → ReadsAs ag r cells × (units r ≡ 1)
  unfolding ReadsAs units
  reads_unit s cells r room is e = waits_one s (cells_in cells 1 24) r e λ p a v q. rw q (
    record {
      room = room;
      sort = s;
      is_sort = is;
      reads = e ∙ ap some q;
    },
    refl,
  )

  -- one reading
  sort_one : {s t : Sort} {o : Option UnitSort} → o ≡ some (waiting s) → o ≡ some (waiting t) → s ≡ t
  sort_one e f = let g = sym e ∙ f in cc

  sort_not : {C : Type 0} {s : Sort} {j : Join} {o : Option UnitSort} → o ≡ some (waiting s) → o ≡ some (joining j) → C
  sort_not {s = s} {j = j} e f = absurd (true≢false (ap which (some_inj (sym e ∙ f))))
    where
      which : UnitSort → Bool
      which (waiting s) = true
      which (joining j) = false

  join_one : {i j : Join} {o : Option UnitSort} → o ≡ some (joining i) → o ≡ some (joining j) → i ≡ j
  join_one e f = let g = sym e ∙ f in cc

  same_waits : (q r : Residue) (cells : List ℤ) → WaitsFirst ag q cells → WaitsFirst ag r cells → q ≡ r
  same_waits q r cells v w = some_inj (sym v.reads
      ∙ ap (λ (s : Sort). waiting_unit ag s (cells_in cells 1 24)) (sort_one v.is_sort w.is_sort) ∙ w.reads)

  pub reads_same : (q r : Residue) (cells : List ℤ) → ReadsAs ag q cells → ReadsAs ag r cells → q ≡ r
  unfolding ReadsAs
  reads_same (unit s p a e) (unit t u b f) cells v w = same_waits (unit s p a e) (unit t u b f) cells v w
  reads_same (unit s p a e) (both j l r) cells v w = sort_not v.is_sort w.0.is_sort
  reads_same (both j l r) (unit s p a e) cells v w = sort_not w.is_sort v.0.is_sort
  reads_same (both i l r) (both j m n) cells v w =
      let lefts : l ≡ m = reads_same l m (drop 24 cells) v.1 w.1 in
      let rights : r ≡ n = reads_same r n (drop (24 + 24 * units l) cells) v.2
      (subst (λ (x : Residue). ReadsAs ag n (drop (24 + 24 * units x) cells)) (sym lefts) w.2) in
      ap₂ (λ (x y : Residue). both i x y) lefts rights
      ∙ ap (λ (x : Join). both x m n) (join_one v.0.is_sort w.0.is_sort)

  -- csl's list of trees
  cells_first : (cells : List ℤ) → 24 ≤ length cells → take 24 cells ≡ get_or cells 0 (pos 0) ∷ cells_in cells 1 24
  cells_first [] h = absurd (omega arith)
  cells_first (x ∷ xs) h = refl

  trees_next : (n : ℕ) (cells : List ℤ) → 24 ≤ length cells
      → trees ag (suc n) cells ≡
      (trees ag n (drop 24 cells) >>= add_unit ag (get_or cells 0 (pos 0) ∷ cells_in cells 1 24))
  unfolding trees
  trees_next n cells h = some_bind (split 24 cells) _ (take 24 cells, drop 24 cells) (split_is 24 cells h)
      ∙ rw (cells_first cells h)

  add_waiting : (s : Sort) (z : ℤ) (zs : List ℤ) (r : Residue) (rs : List Residue) → unit_sort z ≡ some (waiting s)
      → waiting_unit ag s zs ≡ some r → add_unit ag (z ∷ zs) rs ≡ some (r ∷ rs)
  unfolding add_unit
  add_waiting s z zs r rs e f = some_bind (unit_sort z) _ (waiting s) e ∙ some_bind (waiting_unit ag s zs) _ r f

  add_joining : (j : Join) (z : ℤ) (zs : List ℤ) (l r : Residue) (rs : List Residue) → unit_sort z ≡ some (joining j)
      → all is_zero zs ≡ true → add_unit ag (z ∷ zs) (l ∷ r ∷ rs) ≡ some (both j l r ∷ rs)
  unfolding add_unit push
  add_joining j z zs l r rs e f = some_bind (unit_sort z) _ (joining j) e
      ∙ passes (all is_zero zs) _ (subst T (sym f) tt)

  -- a tree in front of trees
  pub tree_first : (r : Residue) (k : ℕ) (cells : List ℤ) (rs : List Residue) → ReadsAs ag r cells
      → trees ag k (drop (24 * units r) cells) ≡ some rs → trees ag (units r + k) cells ≡ some (r ∷ rs)
  unfolding ReadsAs units
  tree_first (unit s p a e) k cells rs w t =
      let one : 1 + k ≡ suc k = omega arith in
      ap (λ (n : ℕ). trees ag n cells) one ∙ trees_next k cells w.room
      ∙ some_bind (trees ag k (drop 24 cells)) _ rs t
      ∙ add_waiting w.sort (get_or cells 0 (pos 0)) (cells_in cells 1 24) (unit s p a e) rs w.is_sort w.reads
  tree_first (both j l r) k cells rs w t =
      let more : 1 + units l + units r + k ≡ suc (units l + (units r + k)) = omega arith in
      let all_of : 24 + 24 * units l + 24 * units r ≡ 24 * (1 + units l + units r) = omega arith in
      let right = tree_first r k (drop (24 + 24 * units l) cells) rs w.2
      (ap (trees ag k) (drop-drop (24 * units r) (24 + 24 * units l) cells ∙ ap (λ (n : ℕ). drop n cells) all_of)
      ∙ t) in
      let left = tree_first l (units r + k) (drop 24 cells) (r ∷ rs) w.1
      (ap (trees ag (units r + k)) (drop-drop (24 * units l) 24 cells) ∙ right) in
      ap (λ (n : ℕ). trees ag n cells) more ∙ trees_next (units l + (units r + k)) cells w.0.room
      ∙ some_bind (trees ag (units l + (units r + k)) (drop 24 cells)) _ (l ∷ r ∷ rs) left
      ∙ add_joining j (get_or cells 0 (pos 0)) (cells_in cells 1 24) l r rs w.0.is_sort w.0.zeros

  -- all of the trees, zeros behind them
  unfoldable pub AllRead : List Residue → ℕ → List ℤ → Type 0
  AllRead [] n cells = (n ≡ 0) × (all is_zero cells ≡ true)
  AllRead (r ∷ rs) n cells = ReadsAs ag r cells × (units r ≤ n) × AllRead rs (n - units r) (drop (24 * units r) cells)

  pub trees_read : (n : ℕ) (cells : List ℤ) (rs : List Residue) → trees ag n cells ≡ some rs → AllRead rs n cells
  unfolding trees AllRead split push add_unit ReadsAs units
  trees_read zero cells rs e = from_need (all is_zero cells) _ rs e λ t f. subst
      (λ (qs : List Residue). AllRead qs 0 cells) (some_inj f) (refl, T→true (all is_zero cells) t)
  trees_read (suc n) cells rs e =
      from_bind (split 24 cells) _ rs e λ s a e₁.
      from_bind (trees ag n s.1) _ rs e₁ λ qs b e₂.
      let both-are = split_takes 24 cells s a in
      let room : 24 ≤ length cells = split_room cells s a in
      let firsts : s.0 ≡ get_or cells 0 (pos 0) ∷ cells_in cells 1 24 = both-are.0 ∙ cells_first cells room in
      added room qs (trees_read n (drop 24 cells) qs (ap (trees ag n) (sym both-are.1) ∙ b))
      (ap (λ (u : List ℤ). add_unit ag u qs) (sym firsts) ∙ e₂)
    where
      split_room : (cells : List ℤ) (s : List ℤ × List ℤ) → split 24 cells ≡ some s → 24 ≤ length cells
      split_room cells s a = long 24 cells s a
        where
          long : (m : ℕ) (xs : List ℤ) (s : List ℤ × List ℤ) → split m xs ≡ some s → m ≤ length xs
          long zero xs s a = omega arith
          long (suc m) [] s a = none_some a
          long (suc m) (x ∷ xs) s a = from_bind (split m xs) _ s a λ q b _. let i = long m xs q b in omega arith

      behind : (j : Join) (qs : List Residue) → 24 ≤ length cells
          → unit_sort (get_or cells 0 (pos 0)) ≡ some (joining j)
          → T (all is_zero (cells_in cells 1 24)) → AllRead qs n (drop 24 cells) → push j qs ≡ some rs
          → AllRead rs (suc n) cells
      behind j [] room is z all_are e = none_some e
      behind j (l ∷ []) room is z all_are e = none_some e
      behind j (l ∷ r ∷ qs) room is z all_are e = subst (λ (qs : List Residue). AllRead qs (suc n) cells) (some_inj e)
          (joined_read j l r qs room is z all_are)
        where
          joined_read : (j : Join) (l r : Residue) (qs : List Residue) → 24 ≤ length cells
              → unit_sort (get_or cells 0 (pos 0)) ≡ some (joining j) → T (all is_zero (cells_in cells 1 24))
              → AllRead (l ∷ r ∷ qs) n (drop 24 cells) → AllRead (both j l r ∷ qs) (suc n) cells
          joined_read j l r qs room is z v =
              let right-at = drop-drop (24 * units l) 24 cells in
              let rest : 24 + 24 * units l + 24 * units r ≡ 24 * (1 + units l + units r) = omega arith in
              let left_over : n - units l - units r ≡ suc n - (1 + units l + units r) = omega arith in
              let few : units r ≤ n - units l = v.2.1 in (
                (
                  record {
                    room = room;
                    is_sort = is;
                    zeros = T→true (all is_zero (cells_in cells 1 24)) z;
                  },
                  v.0,
                  subst (ReadsAs ag r) right-at v.2.0,
                ),
                omega (arith, v.1, few),
                subst (λ (k : ℕ). AllRead qs k (drop (24 * (1 + units l + units r)) cells)) left_over
                    (subst (AllRead qs (n - units l - units r))
                    (ap (drop (24 * units r)) right-at ∙ drop-drop (24 * units r) (24 + 24 * units l) cells
                    ∙ ap (λ (k : ℕ). drop k cells) rest) v.2.2),
              )

      added : 24 ≤ length cells → (qs : List Residue) → AllRead qs n (drop 24 cells)
          → add_unit ag (get_or cells 0 (pos 0) ∷ cells_in cells 1 24) qs ≡ some rs → AllRead rs (suc n) cells
      added room qs all_are e = from_bind (unit_sort (get_or cells 0 (pos 0))) _ rs e λ u is f. by_sort u is f
        where
          by_sort : (u : UnitSort) → unit_sort (get_or cells 0 (pos 0)) ≡ some u
              → (elim u [
                | waiting s ↦ waiting_unit ag s (cells_in cells 1 24) >>= (λ r. some (r ∷ qs))
                | joining j ↦ need (all is_zero (cells_in cells 1 24)) >>= (λ _. push j qs)
              ]) ≡ some rs
              → AllRead rs (suc n) cells
          by_sort (waiting s) is f = from_bind (waiting_unit ag s (cells_in cells 1 24)) _ rs f λ r b g.
              let one = reads_unit s cells r room is b in
              let less : n ≡ suc n - units r = omega (arith, one.1) in
              let cells_of : 24 ≡ 24 * units r = omega (arith, one.1) in
              subst (λ (qs : List Residue). AllRead qs (suc n) cells) (some_inj g) (
                one.0,
                omega (arith, one.1),
                subst (λ (k : ℕ). AllRead qs k (drop (24 * units r) cells)) less
                    (subst (λ (k : ℕ). AllRead qs n (drop k cells)) cells_of all_are),
              )
          by_sort (joining j) is f = from_need (all is_zero (cells_in cells 1 24)) _ rs f λ z g. behind j qs room is z
              all_are g

-- ---- the first unit
pub no_kind : (cells : List ℤ) → unit_sort (get_or cells 0 (pos 0)) ≡ none → FirstIs cells None
unfolding FirstIs ReadsAs
no_kind cells e ag (unit s p t v) w = none_some (sym e ∙ w.is_sort)
no_kind cells e ag (both j l r) w = none_some (sym e ∙ w.0.is_sort)

-- r is what the code found
pub is_waits : (cells : List ℤ) {r : Maybe First} {w : WaitKind} → FirstIs cells r → r ≡ Some (kind.Waits w)
    → get_or cells 0 (pos 0) ≡ pos (wait_number w)
unfolding FirstIs
is_waits cells h e = rw e at h

pub is_joins : (cells : List ℤ) {r : Maybe First} {j : kinds.Join} → FirstIs cells r → r ≡ Some (kind.Joins j)
    → JoinsFirst (join_in j) cells
unfolding FirstIs
is_joins cells h e = rw e at h

pub waits_first : (cells : List ℤ) {n : ℕ} (w : WaitKind) → get_or cells 0 (pos 0) ≡ pos n → wait_number w ≡ n
    → FirstIs cells (Some (kind.Waits w))
unfolding FirstIs
waits_first cells w e h = e ∙ ap pos (sym h)

module _ (cells : List ℤ) {n : ℕ} (first : get_or cells 0 (pos 0) ≡ pos n) (j : kinds.Join)
    (k : number_of_join j ≡ n) {t : Bool} (h : t ≡ all is_zero (cells_in cells 1 24)) where
  is_joining : unit_sort (get_or cells 0 (pos 0)) ≡ some (joining (join_in j))
  is_joining = ap unit_sort (first ∙ ap pos (sym k)) ∙ sort_joining j

  joins_not_zero : t ≡ false → FirstIs cells None
  unfolding FirstIs ReadsAs
  joins_not_zero f ag (unit s p u v) w = sort_not ag w.is_sort is_joining
  joins_not_zero f ag (both i l r) w = absurd (true≢false (sym w.0.zeros ∙ sym h ∙ f))

  pub joins_first : 24 ≤ length cells → {r : Maybe First} → r ≡ then_some t (kind.Joins j) → FirstIs cells r
  unfolding FirstIs
  joins_first room e = by_then (FirstIs cells) e
      (λ f. record { room = room; is_sort = is_joining; zeros = sym h ∙ f }) (λ f. joins_not_zero f)

-- ---- the code's answers
module _ (a : List ℕ) (now n : ℕ) (cells : List ℤ) where
  abbrev ag : Agreement
  ag = agreement_of a

  pub no_units : (sights : List Sight) → n ≡ 0 → WalkIs a now n cells sights None
  unfolding WalkIs
  no_units sights e r w few = absurd (omega (arith, some_units r))

  pub no_first : (sights : List Sight) → FirstIs cells None → WalkIs a now n cells sights None
  unfolding WalkIs FirstIs
  no_first sights f r w few = absurd (f ag r w)

  module _ (wait : WaitKind) (first : get_or cells 0 (pos 0) ≡ pos (wait_number wait)) where
    is_waiting : unit_sort (get_or cells 0 (pos 0)) ≡ some (waiting (sort_in wait))
    is_waiting = ap unit_sort first ∙ sort_waiting wait

    pub waits_not : {r : Maybe Waiting} (sights : List Sight) → WaitingIs a now (sort_in wait) (cells_in cells 1 24) r
        → r ≡ None → WalkIs a now n cells sights None
    unfolding WalkIs WaitingIs ReadsAs
    waits_not sights h g q w few = go q w
      where
        there : (q : Residue) → WaitsFirst ag q cells → residue_parties ag (mains_of a) now q ≡ none
        there q w =
            let read : waiting_unit ag (sort_in wait) (cells_in cells 1 24) ≡ some q = ap
            (λ (s : Sort). waiting_unit ag s (cells_in cells 1 24)) (sort_one ag is_waiting w.is_sort)
            ∙ w.reads in
            let none_there = rw g at h in
            sym (some_bind (waiting_unit ag (sort_in wait) (cells_in cells 1 24)) _ q read) ∙ none_there

        go : (q : Residue) → ReadsAs ag q cells → residue_parties ag (mains_of a) now q ≡ none
        go (unit s p t v) w = there (unit s p t v) w
        go (both j l r) w = sort_not ag is_waiting w.0.is_sort

    pub waits_of : {r : Maybe Waiting} {u : Waiting} {bits : ℕ} (sights : List Sight) → 24 ≤ length cells → 0 < n
        → WaitingIs a now (sort_in wait) (cells_in cells 1 24) r → r ≡ Some u → bits ≡ u.parties
        → WalkIs a now n cells (u.sight ∷ sights) (Some (record { units = 1; parties = bits }))
    unfolding WalkIs WaitingIs
    waits_of {u = u} sights room Some-of h g same =
        let w = rw g at h in
        rw same
        record {
          residue = w.residue;
          reads = (reads_unit ag (sort_in wait) cells w.residue room is_waiting w.is).0;
          count = sym w.one;
          few = omega arith;
          parties = w.parties;
          sighted = sym w.sights;
        }

  -- the sides
  left_none : (j : Join) (l r : Residue) → residue_parties ag (mains_of a) now l ≡ none
      → residue_parties ag (mains_of a) now (both j l r) ≡ none
  unfolding residue_parties ◌>>=◌
  left_none j l r e = rw e

  right_none : (j : Join) (l r : Residue) → residue_parties ag (mains_of a) now r ≡ none
      → residue_parties ag (mains_of a) now (both j l r) ≡ none
  unfolding residue_parties
  right_none j l r e = option_none (residue_parties ag (mains_of a) now (both j l r)) λ ps f.
      from_bind (residue_parties ag (mains_of a) now l) _ ps f λ qs _ f₁.
      from_bind (residue_parties ag (mains_of a) now r) _ ps f₁ λ rs g _. none_some (sym e ∙ g)

  module _ {j : Join} (first : JoinsFirst j cells) where
    pub left_damaged : (sights sights₂ : List Sight) {w : Maybe Tree} → WalkIs a now (n - 1) (drop 24 cells) sights w
        → w ≡ None → WalkIs a now n cells sights₂ None
    unfolding WalkIs ReadsAs units
    left_damaged sights sights₂ h e (unit s p u v) q few = sort_not ag q.is_sort first.is_sort
    left_damaged sights sights₂ h e (both i l r) q few = let none_there = rw e at h in
        left_none i l r (none_there l q.1 (omega (arith, some_units r)))

    pub right_damaged : (sights₂ sights₃ : List Sight) {sights : List Sight} {k x : ℕ} {w : Maybe Tree}
        → TreeAs a now (n - 1) (drop 24 cells) sights k x
        → WalkIs a now (n - 1 - k) (drop (24 + 24 * k) cells) sights₂ w → w ≡ None
        → WalkIs a now n cells sights₃ None
    unfolding WalkIs ReadsAs units
    right_damaged sights₂ sights₃ t h e (unit s p u v) q few = sort_not ag q.is_sort first.is_sort
    right_damaged sights₂ sights₃ {k = k} t h e (both i l r) q few =
        let none_there = rw e at h in
        let same : k ≡ units l = t.count ∙ ap units (reads_same ag t.residue l (drop 24 cells) t.reads q.1) in
        right_none i l r (none_there r (subst (λ (y : ℕ). ReadsAs ag r (drop (24 + 24 * y) cells)) (sym same) q.2)
        (omega (arith, same)))

pub tree_of : {a : List ℕ} {now n : ℕ} {cells : List ℤ} {sights : List Sight} {w : Maybe Tree} {t : Tree}
    → WalkIs a now n cells sights w → w ≡ Some t → TreeAs a now n cells sights t.units t.parties
unfolding WalkIs
tree_of h e = rw e at h

module _ (a : List ℕ) (now n : ℕ) (join : kinds.Join) (cells : List ℤ) {sights : List Sight} {left right : Tree}
    {bits : ℕ} {ok : Bool} (t : SidesAs a now n (join_in join) cells sights left right)
    (u : bits ≡ bit_or left.parties right.parties)
    (o : (ps : List ℕ) → ((q : ℕ) → member q ps ≡ true → q < 16) → bits ≡ bits_of ps → ok ≡ join_ok (join_in join) ps)
  where
    abbrev j : Join
    j = join_in join

    abbrev l : Residue
    l = t.of_left.residue

    abbrev r : Residue
    r = t.of_right.residue

    whole_reads : ReadsAs (agreement_of a) (both j l r) cells
    unfolding ReadsAs
    whole_reads = (
      t.joins,
      t.of_left.reads,
      subst (λ (i : ℕ). ReadsAs (agreement_of a) r (drop (24 + 24 * i) cells)) t.of_left.count t.of_right.reads,
    )

    allowed : ok ≡ join_ok j (t.of_left.parties.parties ++ t.of_right.parties.parties)
    allowed = o _ (both_small a now j t.of_left.parties t.of_right.parties u)
        (both_bits a now j t.of_left.parties t.of_right.parties u)

    joins_not : ok ≡ false → (sights₂ : List Sight) → WalkIs a now n cells sights₂ None
    unfolding WalkIs
    joins_not g sights₂ q w few = subst (λ (z : Residue). residue_parties (agreement_of a) (mains_of a) now z ≡ none)
        (reads_same (agreement_of a) (both j l r) q cells whole_reads w)
        (both_none a now j t.of_left.parties t.of_right.parties u allowed g)

    joins_both : ok ≡ true → WalkIs a now n cells (Joins join left.units ∷ sights)
        (Some (record { units = 1 + left.units + right.units; parties = bits }))
    unfolding WalkIs units sights_in
    joins_both g =
        let k = left.units in
        let m = right.units in
        let more : 1 + k + m ≡ suc (k + m) = omega arith in
        record {
          residue = both j l r;
          reads = whole_reads;
          count = omega (arith, t.of_left.count, t.of_right.count);
          few = omega (arith, t.some_units, t.of_left.few, t.of_right.few);
          parties = both_parties a now j t.of_left.parties t.of_right.parties u allowed g;
          sighted = ap (λ i. take i (Joins join k ∷ sights)) more
              ∙ ap₂ (λ i x. Joins i x ∷ take (k + m) sights) (sym (same_join join)) t.of_left.count
              ∙ ap (λ xs. Joins (join_as j) (units l) ∷ xs)
              (take-add k m sights ∙ ap₂ ◌++◌ t.of_left.sighted t.of_right.sighted);
        }

    pub joined_is : {r : Maybe Tree}
        → r ≡ then_some ok (record { units = 1 + left.units + right.units; parties = bits })
        → WalkIs a now n cells (Joins join left.units ∷ sights) r
    joined_is e = by_then (WalkIs a now n cells (Joins join left.units ∷ sights)) e joins_both (λ g. joins_not g _)

-- in the rest of the cells
pub rest_walk : (a : List ℕ) (now : ℕ) (out : List Sight) (w : Maybe Tree) (k : ℕ) (cells : List ℤ) {m n : ℕ}
    → WalkIs a now m (take (length cells - k) (drop k cells)) out w → m ≡ n → WalkIs a now n (drop k cells) out w
rest_walk a now out w k cells h e = rw (part_from k cells, e) at h

-- with more sights behind those of the units
pub more_sights : (a : List ℕ) (now n : ℕ) (cells : List ℤ) (sights more : List Sight) (w : Maybe Tree)
    → n ≤ length sights → WalkIs a now n cells sights w → WalkIs a now n cells (sights ++ more) w
unfolding WalkIs
more_sights a now n cells sights more None h k = k
more_sights a now n cells sights more (Some t) h k = record {
  residue = k.residue;
  reads = k.reads;
  count = k.count;
  few = k.few;
  parties = k.parties;
  sighted = take-append-le t.units sights more (omega (arith, k.few)) ∙ k.sighted;
}

-- ---- the sights behind the first, lent from i on
abbrev pub lent : ℕ → List Sight → List Sight → List Sight
lent i xs ys = put_mid i (length xs - i) xs ys

module _ (i : ℕ) (xs ys : List Sight) (h : i ≤ length xs) where
  lent_back : drop i (lent i xs ys) ≡ ys
  lent_back = ap (drop i) (tail_put i xs ys h) ∙ drop_at (take i xs) ys i (length-take-le i xs h)

  lent_front : take i (lent i xs ys) ≡ take i xs
  lent_front = ap (take i) (tail_put i xs ys h) ∙ take_at (take i xs) ys i (length-take-le i xs h)

-- both sides, in the sights that were lent to each
pub sides_read : {a : List ℕ} {now n : ℕ} {j : Join} {cells : List ℤ} (left right : Tree) (ls rs : List Sight)
    → JoinsFirst j cells → 0 < n → left.units ≤ length ls
    → TreeAs a now (n - 1) (drop 24 cells) ls left.units left.parties
    → TreeAs a now (n - 1 - left.units) (drop (24 + 24 * left.units) cells) rs right.units right.parties
    → SidesAs a now n j cells (lent left.units ls rs) left right
sides_read left right ls rs first Some-of room l r =
    record {
      joins = first;
      some_units = Some-of;
      of_left = record {
        residue = l.residue;
        reads = l.reads;
        count = l.count;
        few = l.few;
        parties = l.parties;
        sighted = lent_front left.units ls rs room ∙ l.sighted;
      };
      of_right = rw (lent_back left.units ls rs room) r;
    }
