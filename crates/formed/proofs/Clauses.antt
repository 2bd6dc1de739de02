-- Whether the tree of a clause is whole, by what the code found of its record.
use mathlib.Core.Path.{◌≡◌, refl, sym, ◌∙◌}
use mathlib.Core.Bool.{Bool, true, false, cond, ◌&&◌, and-true, and-false, and_assoc}
use mathlib.Core.List.{List}
use mathlib.Core.Option.{Option, none, some}
use Prim.Native.Nat.{ℕ, zero, suc, ◌+◌, ◌-◌, ◌≤◌, ◌<◌}
use native.Mathlib.Omega.{arith}
use borrow.Author.Tests.{ne_eqb}
use lib.Dec.{eqb}
use lib.ListN.{length}
use Rattle.csl.specs.Lists.{all, at}
use Rattle.csl.specs.Bytes.{byte, part, is_record, kind_number, record_end}
use Rattle.csl.specs.Syntax.{Expr, Join, Wait, Clause, fulfilled, choice, if, join, instance, bad_clause, Head}
use Rattle.csl.specs.Decode.{expr, whole_expr, wait_at, whole_wait, records_end, arguments, instance_of, ClauseKind}
use Rattle.csl.specs.Decode.{fulfilled_kind, obligation_kind, choice_kind, if_kind, join_kind, instance_kind, no_clause}
use Rattle.csl.specs.Decode.{wait_end, clause_body, clause_head, clause, whole, heads_of}
use Rattle.laws.specs.Joins.{join_of}
use Rattle.octets.proofs.Bytes.{record_end_within}
use Rattle.arith.proofs.Lists.{length_part}
use Rattle.records.specs.Index.{head_at, first_clause}
use Rattle.records.proofs.Trees.{clause_zero, clause_none, clause_at_lem, clause_wait, clause_two, sided}
use Rattle.records.proofs.Trees.{kind_fulfilled}
use Rattle.records.proofs.Trees.{kind_instance, kind_no_clause_low, kind_no_clause_from}
use Rattle.records.proofs.Index.{heads_at, heads_past}
use Rattle.formed.specs.Tests.{tests_whole, arguments_whole}
use Rattle.formed.proofs.Exprs.{walking, nothing}

-- ---- where a clause stands does not matter
module _ (hs : List Head) where
  module _ (e : List ℕ → Expr) (inner : ℕ → List ℕ → Clause)
      (same : (p q : ℕ) (s : List ℕ) → whole (inner p s) ≡ whole (inner q s)) (p q : ℕ) (s : List ℕ) where
    body_place_lem : (k : ClauseKind) → whole (clause_body hs e inner p s k) ≡ whole (clause_body hs e inner q s k)
    unfolding clause_body whole whole_wait wait_at
    body_place_lem fulfilled_kind = refl
    body_place_lem obligation_kind = let c = wait_end s 5 in rw (same (p + c) (q + c) (part s c (length s)))
    body_place_lem choice_kind =
        let c = wait_end s 4 in
        let f = record_end s c in
        rw (same (p + c) (q + c) (part s c f), same (p + f) (q + f) (part s f (length s)))
    body_place_lem if_kind =
        let c = record_end s 4 in
        let f = record_end s c in
        rw (same (p + c) (q + c) (part s c f), same (p + f) (q + f) (part s f (length s)))
    body_place_lem (join_kind j) =
        let f = record_end s 4 in
        rw (same (p + 4) (q + 4) (part s 4 f), same (p + f) (q + f) (part s f (length s)))
    body_place_lem instance_kind = refl
    body_place_lem no_clause = refl

  pub whole_place : (d p q : ℕ) (s : List ℕ) → whole (clause hs d p s) ≡ whole (clause hs d q s)
  unfolding clause
  whole_place zero p q s = refl
  whole_place (suc d) p q s = body_place_lem (expr d) (clause hs d) (whole_place d) p q s (clause_head s)

-- ---- a clause
module _ (hs : List Head) (d : ℕ) (s : List ℕ) where
  pub no_depth : d ≡ 0 → false ≡ whole (clause hs d 0 s)
  unfolding whole
  no_depth e = clause_zero whole hs d 0 s e refl

  pub no_record : {b : Bool} → (d ≡ 0 → ⊥) → b ≡ is_record s → b ≡ false → false ≡ whole (clause hs d 0 s)
  unfolding whole
  no_record n p q = clause_none whole hs d 0 s n p q refl

sized : (t : Bool) (c : Clause) → whole c ≡ true → t ≡ whole (cond t c bad_clause)
unfolding whole
sized true c p = sym p
sized false c p = refl

-- two sides, and what stands before them
sides : (a b : Bool) (w : Wait) (e : Expr) (j : Join) (t f : Clause)
    → whole (cond a (choice w t f) (cond b (if e t f) (join j t f))) ≡
    (cond a (whole_wait w) (cond b (whole_expr e) true) && (whole t && whole f))
unfolding whole
sides true b w e j t f = and_assoc (whole_wait w) (whole t) (whole f)
sides false true w e j t f = and_assoc (whole_expr e) (whole t) (whole f)
sides false false w e j t f = refl

tests_sides : (e : List ℕ → Expr) (s : List ℕ) (k : ℕ) (t f : Clause) → 18 ≤ k
    → whole (sided e 0 s k t f) ≡ (tests_whole e k s && (whole t && whole f))
unfolding tests_whole sided
tests_sides e s k t f l = rw (ne_eqb k 17 (λ h. omega arith))
    (sides (eqb k 18) (eqb k 19) (wait_at e 0 s 4) (e (part s 4 (record_end s 4))) (join_of k) t f)

-- by the kind's number k, as a `match` finds it
module _ (hs : List Head) (d : ℕ) (s : List ℕ) {b : Bool} {k : ℕ} (n : d ≡ 0 → ⊥) (g : b ≡ is_record s) (h : b ≡ true)
    (m : k ≡ kind_number s) where
  pub fulfilled_formed : k ≡ 16 → eqb (length s) 4 ≡ whole (clause hs d 0 s)
  unfolding clause_body whole
  fulfilled_formed e = clause_at_lem whole hs d 0 s n g h m
      (rw (kind_fulfilled e) (sized (eqb (length s) 4) fulfilled refl))

  pub obligation_formed : {r : Bool} {c : ℕ} → k ≡ 17 → c ≡ first_clause k s
      → r ≡ (tests_whole (expr (d - 1)) k s && whole (clause hs (d - 1) 0 (part s c (length s))))
      → r ≡ whole (clause hs d 0 s)
  unfolding whole tests_whole
  obligation_formed {c = c} e i q = clause_wait whole hs d 0 s n g h m e i
      (q ∙ rw (e, whole_place hs (d - 1) (0 + c) 0 (part s c (length s))))

  pub sides_formed : {r : Bool} {c f : ℕ} → 16 ≤ k → (k ≡ 16 → ⊥) → (k ≡ 17 → ⊥) → k < 22 → c ≡ first_clause k s
      → f ≡ record_end s c → r ≡ (tests_whole (expr (d - 1)) k s
      && whole (clause hs (d - 1) 0 (part s c f)) && whole (clause hs (d - 1) 0 (part s f (length s))))
      → r ≡ whole (clause hs d 0 s)
  sides_formed {c = c} {f = f} l x y u i j q =
      let w : 18 ≤ k = omega arith in
      clause_two whole hs d 0 s n g h m w u i j
      (q ∙ and_assoc (tests_whole (expr (d - 1)) k s) _ _
      ∙ sym (tests_sides (expr (d - 1)) s k (clause hs (d - 1) (0 + c) (part s c f))
      (clause hs (d - 1) (0 + f) (part s f (length s))) w
      ∙ rw (whole_place hs (d - 1) (0 + c) 0 (part s c f), whole_place hs (d - 1) (0 + f) 0 (part s f (length s)))))

  pub instance_formed : {r : Bool} → k ≡ 22 → r ≡ whole (instance_of (expr (d - 1)) s (at hs (byte s 4)))
      → r ≡ whole (clause hs d 0 s)
  unfolding clause_body
  instance_formed e q = clause_at_lem whole hs d 0 s n g h m (rw (kind_instance e) q)

  pub no_clause_low : k < 16 → false ≡ whole (clause hs d 0 s)
  unfolding clause_body whole
  no_clause_low u = clause_at_lem whole hs d 0 s n g h m (rw (kind_no_clause_low k u))

  pub no_clause_high : (k ≡ 22 → ⊥) → 22 ≤ k → false ≡ whole (clause hs d 0 s)
  unfolding clause_body whole
  no_clause_high x l = clause_at_lem whole hs d 0 s n g h m (rw (kind_no_clause_from k x l))

-- ---- an instance
counted : (t : Bool) (k : ℕ) (es : List Expr) (bs : List ℕ)
    → (all whole_expr es && t) ≡ whole (cond t (instance k es bs) bad_clause)
unfolding whole
counted true k es bs = and-true (all whole_expr es)
counted false k es bs = and-false (all whole_expr es)

module _ (d : ℕ) (s : List ℕ) where
  instance_is : (h : Head)
      → arguments_whole d s 5 (length h.values) h.params ≡ whole (instance_of (expr d) s (some h))
  unfolding instance_of
  instance_is h = let i = records_end (length h.values) s 5 in
      counted (eqb (i + h.params) (length s)) (byte s 4) (arguments (expr d) (length h.values) s 5)
      (part s i (length s))

  arguments_short : (n m : ℕ) → length s < 5 → false ≡ arguments_whole d s 5 n m
  unfolding all arguments records_end
  arguments_short zero m l = rw (ne_eqb (5 + m) (length s) (λ e. omega arith))
  arguments_short (suc n) m l =
      let a = record_end s 5 in
      rw (sym (nothing d (part s 5 a) (omega
      (arith, length_part s 5 a (record_end_within s 5), record_end_within s 5))))

  short : (o : Option Head) → length s < 5 → false ≡ whole (instance_of (expr d) s o)
  unfolding instance_of whole
  short none l = refl
  short (some h) l = arguments_short (length h.values) h.params l ∙ instance_is h

module _ (d : ℕ) (a s : List ℕ) where
  pub instance_short : length s < 5 → false ≡ whole (instance_of (expr d) s (at (heads_of a) (byte s 4)))
  instance_short l = short d s (at (heads_of a) (byte s 4)) l

  pub instance_unnamed : {k n : ℕ} → k ≡ byte s 4 → n ≡ byte a 10 → n ≤ k
      → false ≡ whole (instance_of (expr d) s (at (heads_of a) (byte s 4)))
  unfolding instance_of whole
  instance_unnamed p q l = rw (heads_past a (byte s 4) (omega arith))

  pub instance_named : {r : Bool} {k t n m : ℕ} → k ≡ byte s 4 → t ≡ byte a 10 → k < t
      → n ≡ length (head_at a k).values → m ≡ (head_at a k).params → r ≡ arguments_whole d s 5 n m
      → r ≡ whole (instance_of (expr d) s (at (heads_of a) (byte s 4)))
  instance_named {k = k} p q l i j h = h ∙ rw (i, j, ← p, heads_at a k (omega arith)) (instance_is d s (head_at a k))

pub ruleset instances = (instance_short, instance_unnamed, instance_named)

pub ruleset clauses = (
  no_depth,
  no_record,
  fulfilled_formed,
  obligation_formed,
  sides_formed,
  instance_formed,
  no_clause_low,
  no_clause_high,
  walking,
)
