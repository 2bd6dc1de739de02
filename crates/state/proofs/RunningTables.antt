-- A table with the state of a run that goes on shows one exactly where its units are one residue.
use mathlib.Core.Path.{◌≡◌, refl, sym, ap, ap₂, subst, ◌∙◌}
use mathlib.Core.Bool.{Bool, true, false, ◌&&◌}
use mathlib.Core.List.{List, [], ◌∷◌}
use mathlib.Core.Option.{some}
use Prim.Native.Nat.{ℕ, ◌+◌, ◌-◌, ◌*◌, ◌≤◌}
use native.Mathlib.Omega.{arith}
use lib.Dec.{T, leb, eqb, leb→le, le→leb, eqb→eq}
use lib.IntN.{ℤ, pos}
use lib.ListN.{length, get_or, take, drop}
use lib.Seq.{drop-drop}
use Rattle.arith.proofs.Lists.{take_drop}
use borrow.Author.Tests.{eq-eqb}
use Rattle.csl.specs.Lists.{all}
use Rattle.csl.specs.Decode.{agreement_of}
use Rattle.csl.specs.Outcomes.{Residue, units, running}
use Rattle.csl.specs.Table.{Run, is_zero, read_state, trees, single, residue_parties}
use Rattle.laws.proofs.Options.{from_bind, from_need, some_bind, passes, none_some}
use Rattle.laws.proofs.Bools.{T-both, both_true, T→true, true→T, true_not_false}
use Rattle.laws.proofs.Integers.{pos_inj}
use Rattle.laws.proofs.Residues.{single_is}
use Rattle.csl.specs.Check.{mains_of}
use Rattle.units.specs.Cells.{number_below}
use Rattle.cells.specs.Sights.{sights_in}
use Rattle.cells.specs.declared.Sight.{Sight}
use Rattle.units.proofs.Cells.{below_is, below_not}
use Rattle.std.specs.Prelude.{Option as Maybe, Some, None}
use Rattle.state.specs.declared.State.TheVariants.{Running}
use Rattle.std.specs.Bool.{then_some}
use Rattle.state.specs.declared.State.{State}
use Rattle.state.specs.declared.Tree.{Tree}
use Rattle.units.proofs.Tests.{by_then}
use Rattle.state.specs.Tree.{ReadsAs, TreeAs, WalkIs}
use Rattle.state.specs.Shown.{Shows, run_in, HeadAt}
use Rattle.state.proofs.Trees.{AllRead, trees_read, tree_first, reads_same}
use Rattle.state.proofs.Heads.{RunFacts}
use Rattle.state.proofs.Zeros.{two_zeros, zeros_two, unit_cells}
use Rattle.state.proofs.Shows.{shown_none, same_now, reads_at, shows}

module _ (cells : List ℤ) (l : length cells ≡ 3080) (A : List ℕ) {time : ℕ} (h : HeadAt A cells 1 time) where
  record Waits : Type 0 where
    pub timeless : get_or cells 2 (pos 0) ≡ pos 0
    pub blameless : get_or cells 3 (pos 0) ≡ pos 0
    pub used : ℕ
    pub is_used : get_or cells 4 (pos 0) ≡ pos used
    pub few : used ≤ 128
    pub residue : Residue
    pub are : trees (agreement_of A) used (drop 8 cells) ≡ some (residue ∷ [])
    pub parties : List ℕ
    pub have : residue_parties (agreement_of A) (mains_of A) time residue ≡ some parties

  waits_facts : {q : Run} → RunFacts A cells q → Waits
  unfolding read_state
  waits_facts f =
      let d = f.head in
      let o = f.outcome in
      from_need (eqb d.time 0 && eqb d.parties 0 && leb d.used 128) _ o (reads_at cells l A h f) λ t b₁.
      from_bind (trees (agreement_of A) d.used (drop 8 cells)) _ o b₁ λ rs a₂ b₂.
      from_bind (single rs) _ o b₂ λ r a₃ b₃.
      from_bind (residue_parties (agreement_of A) (mains_of A) d.now r) _ o b₃ λ ps a₄ _.
      both_true (eqb d.time 0 && eqb d.parties 0) _ t λ t₁ c.
      both_true (eqb d.time 0) _ t₁ λ a b.
      record {
        timeless = f.is_time ∙ ap pos (eqb→eq d.time 0 a);
        blameless = f.is_parties ∙ ap pos (eqb→eq d.parties 0 b);
        used = d.used;
        is_used = f.is_used;
        few = leb→le d.used 128 c;
        residue = r;
        are = a₂ ∙ ap some (single_is rs r a₃);
        parties = ps;
        have = subst (λ (n : ℕ). residue_parties (agreement_of A) (mains_of A) n r ≡ some ps)
            (same_now cells l A h f) a₄;
      }

  waits_none : (sights : List Sight) → (Waits → ⊥) → Shows (run_in A cells) cells sights None
  waits_none sights k = shown_none cells l A sights λ q f. k (waits_facts f)

  pub running_head : {b : Bool} (sights : List Sight) → b ≡ all is_zero (take 2 (drop 2 cells)) → b ≡ false
      → Shows (run_in A cells) cells sights None
  running_head {b} sights e f = waits_none sights λ w. true_not_false
      (T→true (all is_zero (take 2 (drop 2 cells))) (zeros_two cells l w.timeless w.blameless)) (sym e ∙ f)

  pub running_many : (sights : List Sight) → None ≡ number_below 129 (get_or cells 4 (pos 0))
      → Shows (run_in A cells) cells sights None
  running_many sights e = waits_none sights λ w. omega
      (arith, below_not 129 w.used (get_or cells 4 (pos 0)) e w.is_used, w.few)

  module _ {n : ℕ} (e : Some n ≡ number_below 129 (get_or cells 4 (pos 0))) where
    pub fewer : n ≤ 128
    fewer = omega (arith, (below_is 129 n (get_or cells 4 (pos 0)) e).1)

    is_used_lem : get_or cells 4 (pos 0) ≡ pos n
    is_used_lem = (below_is 129 n (get_or cells 4 (pos 0)) e).0

    same_used : (w : Waits) → w.used ≡ n
    same_used w = pos_inj (sym w.is_used ∙ is_used_lem)

    -- a run that the table shows, as the tree in prefix order
    residue_read : (w : Waits) → ReadsAs (agreement_of A) w.residue (take 3072 (drop 8 cells))
        × (units w.residue ≡ n) × (all is_zero (drop (24 * n) (take 3072 (drop 8 cells))) ≡ true)
    unfolding AllRead
    residue_read w =
        let all_read = trees_read (agreement_of A) n (take 3072 (drop 8 cells)) (w.residue ∷ [])
        (ap₂ (trees (agreement_of A)) (sym (same_used w)) (unit_cells cells l) ∙ w.are) in
        let same : units w.residue ≡ n = omega (arith, all_read.1, all_read.2.0) in (
          all_read.0,
          same,
          subst (λ (k : ℕ). all is_zero (drop (24 * k) (take 3072 (drop 8 cells))) ≡ true) same
              all_read.2.1,
        )

    rest_cells : drop (24 * n) (take 3072 (drop 8 cells)) ≡ take (3080 - (8 + 24 * n)) (drop (8 + 24 * n) cells)
    rest_cells =
        let k : 3072 - 24 * n ≡ 3080 - (8 + 24 * n) = omega (arith, fewer) in
        take_drop (24 * n) 3072 (drop 8 cells) ∙ ap₂ take k (drop-drop (24 * n) 8 cells)

    module _ (sights : List Sight) {r : Maybe Tree} (k : WalkIs A time n (take 3072 (drop 8 cells)) sights r) where
      pub running_torn : r ≡ None → Shows (run_in A cells) cells sights None
      unfolding WalkIs
      running_torn t = waits_none sights λ w.
          let none_there = rw t at k in
          let is = residue_read w in
          none_some (sym (none_there w.residue is.0 (omega (arith, is.1))) ∙ w.have)

      module _ {tree : Tree} (t : r ≡ Some tree) where
        tree_there : TreeAs A time n (take 3072 (drop 8 cells)) sights tree.units tree.parties
        unfolding WalkIs
        tree_there = rw t at k

        -- the code's tests, one after the other
        abbrev running_tests : Bool
        running_tests = eqb tree.units n && all is_zero (take (3080 - (8 + 24 * n)) (drop (8 + 24 * n) cells))

        running_passed : Waits → T running_tests
        running_passed w =
            let is = residue_read w in
            let same = reads_same (agreement_of A) tree_there.residue w.residue (take 3072 (drop 8 cells))
            tree_there.reads is.0 in
            T-both (eqb tree.units n) _ (true→T (eq-eqb tree.units n (tree_there.count ∙ ap units same ∙ is.1)))
            (true→T (ap (all is_zero) (sym rest_cells) ∙ is.2))

        shown : all is_zero (take 2 (drop 2 cells)) ≡ true → T running_tests
            → Shows (run_in A cells) cells sights (Some (Running n))
        unfolding Shows read_state single trees
        shown two t =
            both_true (eqb tree.units n) _ t λ f z.
            let same : tree.units ≡ n = eqb→eq tree.units n f in
            let x = tree_there.residue in
            let head = two_zeros cells l (true→T two) in
            let count : n ≡ units x = sym same ∙ tree_there.count in
            let count₀ : n ≡ units x + 0 = omega (arith, count) in
            let none-behind : trees (agreement_of A) 0 (drop (24 * units x) (take 3072 (drop 8 cells))) ≡ some
            [] = passes (all is_zero (drop (24 * units x) (take 3072 (drop 8 cells)))) _
            (true→T (ap (λ (k : ℕ). all is_zero (drop (24 * k) (take 3072 (drop 8 cells)))) (sym count)
            ∙ ap (all is_zero) rest_cells ∙ T→true _ z)) in
            let are : trees (agreement_of A) n (drop 8 cells) ≡ some (x ∷ []) = ap₂ (trees (agreement_of A)) count₀
            (sym (unit_cells cells l)) ∙ tree_first (agreement_of A) x 0 (take 3072 (drop 8 cells)) []
            tree_there.reads none-behind in
            record {
              residue = x;
              shows = shows cells l A h (running x) head.0 head.1 is_used_lem
                  (passes (leb n 128) _ (le→leb n 128 fewer)
                  ∙ some_bind (trees (agreement_of A) n (drop 8 cells)) _ (x ∷ []) are
                  ∙ some_bind (single (x ∷ [])) _ x refl
                  ∙ some_bind (residue_parties (agreement_of A) (mains_of A) time x) _ tree_there.parties.parties
                  tree_there.parties.are);
              count = count;
              few = fewer;
              sighted = subst (λ (k : ℕ). take k sights ≡ sights_in x) same tree_there.sighted;
            }

        pub running_is : all is_zero (take 2 (drop 2 cells)) ≡ true → {b : Bool} {q : Maybe State} → b ≡ running_tests
            → q ≡ then_some b (Running n) → Shows (run_in A cells) cells sights q
        running_is two e g = by_then (Shows (run_in A cells) cells sights) g (λ u. shown two (true→T (sym e ∙ u)))
            (λ f. waits_none sights λ w. true_not_false (T→true running_tests (running_passed w)) (sym e ∙ f))
