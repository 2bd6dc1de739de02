-- Laws of the units that open later: the clause at a unit's place by its kind, and unit after unit.
use mathlib.Core.Path.{◌≡◌, refl, sym, ap, subst, ◌∙◌}
use mathlib.Core.Bool.{Bool, true, false, cond, ◌||◌}
use mathlib.Core.List.{List, [], ◌∷◌, ◌++◌}
use mathlib.Core.Option.{Option, none, some}
use Prim.Native.Nat.{ℕ, zero, suc, ◌+◌, ◌-◌, ◌*◌, ◌/◌, ◌≤◌, ◌<◌}
use native.Mathlib.Nat.{not-suc-le-zero}
use native.Mathlib.Omega.{arith}
use borrow.Author.Tests.{ltb-true, ltb-false, ne_eqb}
use lib.Dec.{eqb, ltb}
use lib.IntN.{ℤ, pos}
use lib.ListN.{length, get_or, take, drop, length-take, length-drop, length-append}
use lib.Seq.{drop-drop, get_or-drop, take_at, drop_at}
use Rattle.csl.specs.Bytes.{byte, part}
use Rattle.csl.specs.Lists.{at}
use Rattle.csl.specs.Syntax.{Clause, Head, and, or, fulfilled, bad_clause, instance}
use Rattle.csl.specs.Decode.{ClauseKind, fulfilled_kind, if_kind, join_kind, instance_kind, no_clause, clause_kind}
use Rattle.csl.specs.Decode.{arguments, clause, clause_body, expr, instance_of, records_end}
use Rattle.csl.specs.Outcomes.{Residue, unit, both, units}
use Rattle.laws.proofs.Bools.{by_test}
use Rattle.cells.specs.Across.{nat_of, clause_opens_later, unit_opens_later, some_open_later}
use Rattle.cells.specs.Sights.{flat}
use Rattle.cells.specs.declared.Sight.{Sight}
use Rattle.cells.specs.declared.Sight.TheVariants.{Waits, Joins}
use Rattle.readings.specs.declared.reading.Reading.{Reading}
use Rattle.readings.specs.Values.{values_read}
use Rattle.std.specs.declared.slice.ChunksExact.{ChunksExact}
use Rattle.std.specs.declared.iter.Zip.{Zip}
use Rattle.std.proofs.Common.{Iter}
use Rattle.std.proofs.iter.Yields.{fronts}
use Rattle.std.proofs.lemmas.Iterator.{YieldsList, zips, YieldsList-from_slice, YieldsList-from_zip}
use Rattle.std.proofs.lemmas.Slice.Zip.{length-zip, get_or-zip}
use Rattle.std.specs.Iterator.{AlwaysYields}
use Rattle.std.specs.Iterator.Adapters.{zip_first, zip_second}
use Rattle.std.specs.List.{list_any, zip}
use Rattle.std.specs.Slice.Iter.{iter_rest, chunks_exact_size, chunks_exact_rest, chunks_exact_steps}
use Rattle.walk.specs.Tree.{Seen, TreeOf, opens_at}
use Rattle.walk.proofs.Trees.{sort_at}

-- ---- a clause of another kind than 17 and 18 waits for nothing
module _ (t k : ℕ) (rs vs : List ℤ) (a : ℕ) where
  abbrev pub opening : Clause → Bool
  opening c = clause_opens_later t k rs c vs a

  by_length : (b : Bool) → opening (cond b fulfilled bad_clause) ≡ false
  unfolding clause_opens_later
  by_length true = refl
  by_length false = refl

  module _ (hs : List Head) (p : ℕ) (s : List ℕ) where
    by_head : (h : Option Head) → opening (instance_of (expr 22) s h) ≡ false
    unfolding instance_of clause_opens_later
    by_head none = refl
    by_head (some h) = by_size (eqb (records_end (length h.values) s 5 + h.params) (length s))
      where
        by_size : (b : Bool) → opening (cond b (instance (byte s 4) (arguments (expr 22) (length h.values) s 5)
            (part s (records_end (length h.values) s 5) (length s))) bad_clause) ≡ false
        by_size true = refl
        by_size false = refl

    abbrev of_kind : ClauseKind → Bool
    of_kind n = opening (clause_body hs (expr 22) (clause hs 22) p s n)

    by_kinds : (b c d e f : Bool) → of_kind (cond b fulfilled_kind (cond c if_kind (cond d (join_kind and)
        (cond e (join_kind or) (cond f instance_kind no_clause))))) ≡ false
    unfolding clause_body clause_opens_later
    by_kinds true c d e f = by_length (eqb (length s) 4)
    by_kinds false true d e f = refl
    by_kinds false false true e f = refl
    by_kinds false false false true f = refl
    by_kinds false false false false true = by_head (at hs (byte s 4))
    by_kinds false false false false false = refl

    pub other_kind : (n : ℕ) → (n ≡ 17 → ⊥) → (n ≡ 18 → ⊥) → false ≡ of_kind (clause_kind n)
    unfolding clause_kind
    other_kind n f g = rw (ne_eqb n 17 f, ne_eqb n 18 g)
        (sym (by_kinds (eqb n 16) (eqb n 19) (eqb n 20) (eqb n 21) (eqb n 22)))

-- ---- every unit of a tree is what its sight says
module _ {A : Type 0} where
  dropped : (a b c : ℕ) (l : List A) → a + b ≡ c → drop b (drop a l) ≡ drop c l
  dropped a b c l e = drop-drop b a l ∙ ap (λ k. drop k l) e

pub record UnitAt (size k : ℕ) (sights : List Sight) (cs : List ℤ) : Type 0 where
  pub sight : k < length sights
  pub cells : 24 * k + 24 ≤ length cs
  pub is : (d : Sight) → Seen size (get_or sights k d) (take 24 (drop (24 * k) cs))

pub each_unit : (size : ℕ) (res : Residue) (sights : List Sight) (cs : List ℤ) → TreeOf size res sights cs → (k : ℕ)
    → k < units res → UnitAt size k sights cs
unfolding TreeOf units
each_unit size (unit o p a e) (Waits params values ∷ sights) cs t zero h = record {
  sight = omega arith;
  cells = t.0;
  is = λ d. t.1;
}
each_unit size (unit o p a e) (Waits params values ∷ sights) cs t (suc k) h = absurd (omega arith)
each_unit size (both j l r) (Joins join left ∷ sights) cs t zero h = record {
  sight = omega arith;
  cells = t.0;
  is = λ d. t.1;
}
each_unit size (both j l r) (Joins join left ∷ sights) cs t (suc k) h = by_test (ltb k left)
    (λ f.
    let u = each_unit size l sights (drop 24 cs) t.3 k (omega (arith, ltb-true k left f, t.2)) in
    record {
      sight = omega (arith, u.sight);
      cells = omega (arith, u.cells, length-drop 24 cs);
      is = λ d. subst (λ xs. Seen size (get_or sights k d) (take 24 xs))
          (dropped 24 (24 * k) (24 * suc k) cs (omega arith)) (u.is d);
    })
    (λ f.
    let le = ltb-false k left f in
    let u = each_unit size r (drop left sights) (drop (24 + 24 * left) cs) t.4 (k - left) (omega (arith, t.2)) in
    let at : left + (k - left) ≡ k = omega arith in
    record {
      sight = omega (arith, u.sight, length-drop left sights);
      cells = omega (arith, u.cells, length-drop (24 + 24 * left) cs);
      is = λ d. subst (λ xs. Seen size (get_or sights k d) (take 24 xs))
          (dropped (24 + 24 * left) (24 * (k - left)) (24 * suc k) cs (omega arith))
          (subst (λ x. Seen size x (take 24 (drop (24 * (k - left)) (drop (24 + 24 * left) cs))))
          (get_or-drop left sights (k - left) d ∙ ap (λ i. get_or sights i d) at) (u.is d));
    })
each_unit size (unit o p a e) [] cs t k h = absurd t
each_unit size (unit o p a e) (Joins join left ∷ sights) cs t k h = absurd t
each_unit size (both j l r) [] cs t k h = absurd t
each_unit size (both j l r) (Waits params values ∷ sights) cs t k h = absurd t

-- ---- the cells of n units, unit by unit
pub chunks : ℕ → List ℤ → List (List ℤ)
chunks zero cs = []
chunks (suc n) cs = take 24 cs ∷ chunks n (drop 24 cs)

pub chunk_at : (n k : ℕ) (cs d : List ℤ) → k < n → get_or (chunks n cs) k d ≡ take 24 (drop (24 * k) cs)
unfolding chunks
chunk_at zero k cs d h = absurd (not-suc-le-zero h)
chunk_at (suc n) zero cs d h = refl
chunk_at (suc n) (suc k) cs d h = chunk_at n k (drop 24 cs) d (omega arith)
    ∙ ap (take 24) (dropped 24 (24 * k) (24 * suc k) cs (omega arith))

-- what `chunks_exact` gives of so many cells
yields_chunks : (n : ℕ) (cs : List ℤ) (s : ChunksExact ℤ) → chunks_exact_size s ≡ 24 → chunks_exact_rest s ≡ cs
    → 24 * n ≤ length cs → length cs < 24 * n + 24 → AlwaysYields chunks_exact_steps (λ x. x.now) s (chunks n cs)
unfolding chunks
yields_chunks zero cs s size rest low high = λ x j step. omega (
  arith,
  ap length (sym rest ∙ step.1.0),
  length-append x.now (chunks_exact_rest j),
  step.1.1,
)
yields_chunks (suc n) cs s size rest low high = (
  λ j step. omega (arith, ap length rest, step.1.0),
  λ x j step.
      let e : cs ≡ x.now ++ chunks_exact_rest j = sym rest ∙ step.1.0 in
      let l : length x.now ≡ 24 = step.1.1 ∙ size in (
        sym (ap (take 24) e ∙ take_at x.now (chunks_exact_rest j) 24 l),
        yields_chunks n (drop 24 cs) j (step.0 ∙ size)
            (sym (ap (drop 24) e ∙ drop_at x.now (chunks_exact_rest j) 24 l)) (omega (arith, length-drop 24 cs))
            (omega (arith, length-drop 24 cs)),
      ),
)

pub yields_units : (s : Zip (Iter Sight) (ChunksExact ℤ)) (sights : List Sight) (cs : List ℤ)
    → iter_rest (zip_first s) ≡ sights → chunks_exact_size (zip_second s) ≡ 24 → chunks_exact_rest (zip_second s) ≡ cs
    → YieldsList (zips fronts chunks_exact_steps) (λ p. (p.0.now, p.1.now)) s (zip sights (chunks (length cs / 24) cs))
yields_units s sights cs first size rest = YieldsList-from_zip {others = chunks_exact_steps} {w = λ x. x.now}
    (YieldsList-from_slice sights first)
    (record { runs = yields_chunks (length cs / 24) cs (zip_second s) size rest (omega arith) (omega arith) })

-- what is given at a place
module _ (size m : ℕ) (sights : List Sight) (cs : List ℤ) (few : length sights ≤ m)
    (each : (k : ℕ) → k < length sights → UnitAt size k sights cs) where
  pub seen_at : (p : Sight × List ℤ) (k : ℕ) → k < length (zip sights (chunks m cs))
      → p ≡ get_or (zip sights (chunks m cs)) k p → (length p.1 ≡ 24) × Seen size p.0 p.1
  seen_at p k h e =
      let both_long = length-zip sights (chunks m cs) in
      let below_n : k < length sights = omega (arith, both_long) in
      let below_m : k < m = omega arith in
      let u = each k below_n in
      let at = e ∙ get_or-zip sights (chunks m cs) k p below_n (omega (arith, both_long)) in
      let sight : p.0 ≡ get_or sights k p.0 = ap (λ q. q.0) at in
      let cells : p.1 ≡ take 24 (drop (24 * k) cs) = ap (λ q. q.1) at ∙ chunk_at m k cs p.1 below_m in (
        ap length cells ∙ omega
            (arith, length-take 24 (drop (24 * k) cs), length-drop (24 * k) cs, u.cells),
        subst (λ x. Seen size x p.1) (sym sight) (subst (Seen size (get_or sights k p.0)) (sym cells) (u.is p.0)),
      )

-- behind the first
behind : {size k : ℕ} {x : Sight} {sights : List Sight} {cs : List ℤ} → UnitAt size (suc k) (x ∷ sights) cs
    → UnitAt size k sights (drop 24 cs)
behind {size} {k} {sights = sights} {cs = cs} u = record {
  sight = omega (arith, u.sight);
  cells = omega (arith, u.cells, length-drop 24 cs);
  is = λ d. subst (λ xs. Seen size (get_or sights k d) (take 24 xs))
      (sym (dropped 24 (24 * k) (24 * suc k) cs (omega arith))) (u.is d);
}

-- ---- some unit opens later
module _ (r : Reading) (s : List ℕ) (size : ℕ) where
  abbrev pub opens : Sight × List ℤ → Bool
  opens p = opens_at r s p.0 p.1

  pub some_unit : (m : ℕ) (sights : List Sight) (cs : List ℤ) → length sights ≤ m
      → ((k : ℕ) → k < length sights → UnitAt size k sights cs)
      → some_open_later r.time r.tag (values_read r) s (length sights) (flat sights) cs
      ≡ list_any opens (zip sights (chunks m cs))
  unfolding some_open_later flat chunks
  some_unit m [] cs h each = refl
  some_unit zero (x ∷ sights) cs h each = absurd (not-suc-le-zero h)
  some_unit (suc m) (Waits params values ∷ sights) cs h each =
      let first = (each 0 (omega arith)).is (Waits 0 0) in
      rw (sort_at cs first.sort) (ap (λ b. unit_opens_later r.time r.tag (values_read r) s values (take 24 cs) || b)
      (some_unit m sights (drop 24 cs) (omega arith) (λ k l. behind (each (suc k) (omega arith)))))
  some_unit (suc m) (Joins join left ∷ sights) cs h each =
      let first = (each 0 (omega arith)).is (Waits 0 0) in
      rw (sort_at cs first.sort)
      (some_unit m sights (drop 24 cs) (omega arith) (λ k l. behind (each (suc k) (omega arith))))

-- what stands behind the units is of no account
module _ (t k : ℕ) (rs : List ℤ) (s : List ℕ) where
  pub taken_open : (n : ℕ) (sights : List Sight) (cs : List ℤ)
      → some_open_later t k rs s n (flat (take n sights)) cs ≡ some_open_later t k rs s n (flat sights) cs
  unfolding some_open_later flat
  taken_open zero sights cs = refl
  taken_open (suc n) [] cs = refl
  taken_open (suc n) (Waits params values ∷ sights) cs =
      ap (λ b. cond (ltb (nat_of (get_or cs 0 (pos 0))) 20) (unit_opens_later t k rs s values (take 24 cs)) false || b)
      (taken_open n sights (drop 24 cs))
  taken_open (suc n) (Joins join left ∷ sights) cs =
      ap (λ b. cond (ltb (nat_of (get_or cs 0 (pos 0))) 20) (unit_opens_later t k rs s 0 (take 24 cs)) false || b)
      (taken_open n sights (drop 24 cs))
