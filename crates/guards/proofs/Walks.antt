-- Laws for a walk over a clause's bytes: what is known of a whole clause, and what a function of it is by the
-- clause's kind.
use mathlib.Core.Path.{◌≡◌, refl, sym, ◌∙◌}
use mathlib.Core.Bool.{Bool, true, false, cond, ◌&&◌, false≢true}
use mathlib.Core.List.{List}
use mathlib.Core.Option.{Option, none, some}
use Prim.Native.Nat.{ℕ, ◌+◌, ◌-◌, ◌<◌, ◌≤◌}
use native.Mathlib.Decide.{dec_le}
use native.Mathlib.Omega.{arith}
use borrow.Author.Tests.{ne_eqb}
use lib.Dec.{eqb}
use lib.ListN.{length}
use Rattle.csl.specs.Lists.{at}
use Rattle.csl.specs.Bytes.{byte, part, kind_number, record_end}
use Rattle.csl.specs.Syntax.{Expr, Wait, Head, Clause, Join, fulfilled, obligation, choice, if, join, instance}
use Rattle.csl.specs.Syntax.{bad_clause}
use Rattle.csl.specs.Decode.{expr, wait_at, clause_kind, clause_body, clause, whole, whole_wait, whole_expr}
use Rattle.laws.specs.Joins.{join_of}
use Rattle.csl.specs.Decode.{instance_of, records_end, arguments}
use Rattle.laws.proofs.Bools.{true→T, and_left, and_right, false_first, true_first}
use Rattle.octets.proofs.Bytes.{whole_from}
use Rattle.records.specs.Index.{first_clause}
use Rattle.records.proofs.Trees.{sided, clause_at_lem, clause_wait, clause_two, kind_fulfilled, whole_deep}
use Rattle.records.proofs.Trees.{whole_record}
use Rattle.records.proofs.Trees.{kind_instance, kind_no_clause_low, kind_no_clause_high}
use Rattle.guards.specs.Walk.{Formed, Answers}

-- ---- a whole clause has a depth left, and is a record
module _ {d : ℕ} {s : List ℕ} (x : Formed d s) where
  pub deep : d ≡ 0 → ⊥
  deep = whole_deep x.heads d x.place s (true→T x.formed)

  pub some_depth : 1 ≤ d
  some_depth = let p : d ≡ 0 → ⊥ = deep in omega arith

  pub room : 4 ≤ length s
  room = (whole_from s (whole_record x.heads d x.place s (true→T x.formed))).room

pub ruleset formed = (some_depth, room)

-- ---- the sides of a whole clause are whole
sided_whole : (e : List ℕ → Expr) (p : ℕ) (s : List ℕ) (k : ℕ) (t f : Clause) → whole (sided e p s k t f) ≡ true
    → (whole t ≡ true) × (whole f ≡ true)
unfolding sided whole
sided_whole e p s k t f = go (eqb k 18) (eqb k 19)
  where
    go : (a b : Bool) → whole (cond a (choice (wait_at e p s 4) t f)
        (cond b (if (e (part s 4 (record_end s 4))) t f) (join (join_of k) t f))) ≡ true → (whole t ≡ true)
        × (whole f ≡ true)
    go true b h = (
      and_right (whole_wait (wait_at e p s 4)) (whole t)
          (and_left (whole_wait (wait_at e p s 4) && whole t) (whole f) h),
      and_right (whole_wait (wait_at e p s 4) && whole t) (whole f) h,
    )
    go false true h = let x = whole_expr (e (part s 4 (record_end s 4))) in
        (and_right x (whole t) (and_left (x && whole t) (whole f) h), and_right (x && whole t) (whole f) h)
    go false false h = (and_left (whole t) (whole f) h, and_right (whole t) (whole f) h)

-- c and z are what calls gave: where the first side begins and where it ends
module _ (hs : List Head) (d p : ℕ) (s : List ℕ) (w : whole (clause hs d p s) ≡ true) {m : ℕ} (k : m ≡ kind_number s)
  where
    then_whole : {c : ℕ} → m ≡ 17 → c ≡ first_clause m s
        → whole (clause hs (d - 1) (p + c) (part s c (length s))) ≡ true
    unfolding whole
    then_whole {c} e i =
        and_right (whole_wait (wait_at (expr (d - 1)) p s 5)) _
        (clause_wait whole hs d p s (whole_deep hs d p s (true→T w)) (sym (whole_record hs d p s (true→T w))) refl k e i
        refl ∙ w)

    two_whole : {c z : ℕ} → 18 ≤ m → m < 22 → c ≡ first_clause m s → z ≡ record_end s c
        → (whole (clause hs (d - 1) (p + c) (part s c z)) ≡ true)
        × (whole (clause hs (d - 1) (p + z) (part s z (length s))) ≡ true)
    two_whole {c} {z} l u i j =
        sided_whole (expr (d - 1)) p s m _ _
        (clause_two whole hs d p s (whole_deep hs d p s (true→T w)) (sym (whole_record hs d p s (true→T w))) refl k l u
        i j refl ∙ w)

module _ {d : ℕ} {s : List ℕ} (x : Formed d s) {m c : ℕ} (k : m ≡ kind_number s) (i : c ≡ first_clause m s) where
  pub formed_then : m ≡ 17 → Formed (d - 1) (part s c (length s))
  formed_then e = record {
    heads = x.heads;
    place = x.place + c;
    formed = then_whole x.heads d x.place s x.formed k e i;
  }

  module _ {z : ℕ} (j : z ≡ record_end s c) where
    pub formed_first : 18 ≤ m → m < 22 → Formed (d - 1) (part s c z)
    formed_first l u = record {
      heads = x.heads;
      place = x.place + c;
      formed = (two_whole x.heads d x.place s x.formed k l u i j).0;
    }

    pub formed_second : 18 ≤ m → m < 22 → Formed (d - 1) (part s z (length s))
    formed_second l u = record {
      heads = x.heads;
      place = x.place + z;
      formed = (two_whole x.heads d x.place s x.formed k l u i j).1;
    }

    pub formed_then_of : m ≡ 18 → Formed (d - 1) (part s c z)
    formed_then_of e = formed_first (omega arith) (omega arith)

    pub formed_else_of : m ≡ 18 → Formed (d - 1) (part s z (length s))
    formed_else_of e = formed_second (omega arith) (omega arith)

pub ruleset parts = (formed_then, formed_then_of, formed_else_of, formed_first, formed_second)

-- ---- f of a clause, by its kind
-- P of the clause that s is
abbrev pub Holds : (Clause → Type 0) → ℕ → List ℕ → Type 0
Holds P d s = (hs : List Head) (p : ℕ) → whole (clause hs d p s) ≡ true → P (clause hs d p s)

module _ {A : Type 0} (f : Clause → A) (d : ℕ) (s : List ℕ) {m : ℕ} {r : A} (k : m ≡ kind_number s) where
  pub answers_then : {c : ℕ} (P : Clause → Type 0) → m ≡ 17 → c ≡ first_clause m s
      → Holds P (d - 1) (part s c (length s)) → ((b : ℕ) (w : Wait) (t : Clause) → P t → r ≡ f (obligation b w t))
      → Answers f d s r
  answers_then {c} P e i a h = record {
    is = λ hs p w.
        clause_wait f hs d p s (whole_deep hs d p s (true→T w)) (sym (whole_record hs d p s (true→T w))) refl k e i
        (h (byte s 4) (wait_at (expr (d - 1)) p s 5) (clause hs (d - 1) (p + c) (part s c (length s)))
        (a hs (p + c) (then_whole hs d p s w k e i)));
  }

  pub answers_two : {c z : ℕ} (P Q : Clause → Type 0) → 18 ≤ m → m < 22 → c ≡ first_clause m s → z ≡ record_end s c
      → Holds P (d - 1) (part s c z) → Holds Q (d - 1) (part s z (length s))
      → ((e : List ℕ → Expr) (p : ℕ) (t u : Clause) → P t → Q u → r ≡ f (sided e p s m t u)) → Answers f d s r
  answers_two {c} {z} P Q l u i j a b h = record {
    is = λ hs p w.
        let v = two_whole hs d p s w k l u i j in
        clause_two f hs d p s (whole_deep hs d p s (true→T w)) (sym (whole_record hs d p s (true→T w))) refl k l u i j
        (h (expr (d - 1)) p (clause hs (d - 1) (p + c) (part s c z)) (clause hs (d - 1) (p + z) (part s z (length s)))
        (a hs (p + c) v.0) (b hs (p + z) v.1));
  }

  -- by the body, for the other kinds
  answers_at : ((hs : List Head) (p : ℕ) → whole
      (clause_body hs (expr (d - 1)) (clause hs (d - 1)) p s (clause_kind m)) ≡ true
      → r ≡ f (clause_body hs (expr (d - 1)) (clause hs (d - 1)) p s (clause_kind m))) → Answers f d s r
  answers_at h = record {
    is = λ hs p w.
        let g = sym (whole_record hs d p s (true→T w)) in
        let n = whole_deep hs d p s (true→T w) in
        clause_at_lem f hs d p s n g refl k (h hs p (clause_at_lem whole hs d p s n g refl k refl ∙ w));
  }

  pub answers_instance : m ≡ 22 → ((es : List Expr) (bs : List ℕ) → r ≡ f (instance (byte s 4) es bs)) → Answers f d s r
  unfolding clause_body whole instance_of
  answers_instance e h = answers_at (λ hs p. rw (kind_instance e) (named (expr (d - 1)) (at hs (byte s 4))))
    where
      fits : (b : Bool) (es : List Expr) (bs : List ℕ) → whole (cond b (instance (byte s 4) es bs) bad_clause) ≡ true
          → r ≡ f (cond b (instance (byte s 4) es bs) bad_clause)
      fits true es bs w = h es bs
      fits false es bs w = absurd (false≢true w)

      named : (e : List ℕ → Expr) (o : Option Head) → whole (instance_of e s o) ≡ true → r ≡ f (instance_of e s o)
      named e none w = absurd (false≢true w)
      named e (some g) w =
          let n = length g.values in
          let i = records_end n s 5 in
          fits (eqb (i + g.params) (length s)) (arguments e n s 5) (part s i (length s)) w

  pub answers_fulfilled : m < 17 → r ≡ f fulfilled → Answers f d s r
  unfolding clause_body whole
  answers_fulfilled l h = either (dec_le m 15)
    where
      long : (b : Bool) → whole (cond b fulfilled bad_clause) ≡ true → r ≡ f (cond b fulfilled bad_clause)
      long true w = h
      long false w = absurd (false≢true w)

      either : Dec (m ≤ 15) → Answers f d s r
      either (yes g) = answers_at (λ hs p. rw (kind_no_clause_low m (omega arith)) (λ w. absurd (false≢true w)))
      either (no g) = answers_at (λ hs p. rw (kind_fulfilled {k = m} (omega arith)) (long (eqb (length s) 4)))

  pub answers_none : 23 ≤ m → Answers f d s r
  unfolding clause_body whole
  answers_none l = answers_at (λ hs p. rw (kind_no_clause_high m l) (λ w. absurd (false≢true w)))

  -- as a `match` leaves kinds 16 and 17
  pub answers_low : m < 18 → r ≡ f fulfilled → ((b : ℕ) (w : Wait) (t : Clause) → r ≡ f (obligation b w t))
      → Answers f d s r
  answers_low l g h = either (dec_le m 16)
    where
      either : Dec (m ≤ 16) → Answers f d s r
      either (yes q) = answers_fulfilled (omega arith) g
      either (no q) = answers_then {c = first_clause m s} (λ t. Unit {0}) (omega arith) refl (λ hs p w. tt)
          (λ b w t z. h b w t)

-- as a `match` with arms for 17 and 18 leaves the others
pub past_wait : (m : ℕ) → (m ≡ 17 → ⊥) → 17 ≤ m → 18 ≤ m
past_wait m e l = omega arith

-- kinds 19 to 21: what holds of `if` and of a join
pub sided_same : {A : Type 0} (f : Clause → A) (e : List ℕ → Expr) (p : ℕ) (s : List ℕ) (m : ℕ) (t u : Clause) {r : A}
    → (m ≡ 18 → ⊥) → ((x : Expr) → r ≡ f (if x t u)) → ((j : Join) → r ≡ f (join j t u)) → r ≡ f (sided e p s m t u)
unfolding sided
sided_same f e p s m t u {r} l g h = rw (ne_eqb m 18 l) (go (eqb m 19))
  where
    go : (b : Bool) → r ≡ f (cond b (if (e (part s 4 (record_end s 4))) t u) (join (join_of m) t u))
    go true = g (e (part s 4 (record_end s 4)))
    go false = h (join_of m)

-- f asks the same of both sides of kinds 19 to 21
pub record Both (f : Clause → Bool) : Type 0 where
  pub of_if : (e : Expr) (t u : Clause) → (f t && f u) ≡ f (if e t u)
  pub of_join : (j : Join) (t u : Clause) → (f t && f u) ≡ f (join j t u)

module _ (f : Clause → Bool) (d : ℕ) (s : List ℕ) {m c z : ℕ} {x : Bool} (v : Both f) (k : m ≡ kind_number s)
    (i : c ≡ first_clause m s) (j : z ≡ record_end s c) (l : m ≡ 18 → ⊥) (o : 18 ≤ m) (h : m < 22)
    (a : Answers f (d - 1) (part s c z) x) where
  both_by : {r : Bool} (Q : Clause → Type 0) → Holds Q (d - 1) (part s z (length s))
      → ((t u : Clause) → x ≡ f t → Q u → r ≡ (f t && f u)) → Answers f d s r
  both_by Q b g =
      answers_two f d s k (λ t. x ≡ f t) Q o h i j a.is b
      (λ e p t u p₁ p₂. let q = g t u p₁ p₂ in
      sided_same f e p s m t u l (λ y. q ∙ v.of_if y t u) (λ y. q ∙ v.of_join y t u))

  pub both_off : x ≡ false → Answers f d s x
  both_off q = both_by (λ u. Unit {0}) (λ hs p w. tt) (λ t u e n. false_first (f t) (f u) e q q)

  pub both_on : {y : Bool} → x ≡ true → Answers f (d - 1) (part s z (length s)) y → Answers f d s y
  both_on {y} q b = both_by (λ u. y ≡ f u) b.is (λ t u e n. true_first (f t) (f u) e q n)

pub ruleset sides = (both_off, both_on)
