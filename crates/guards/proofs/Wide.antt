-- Laws for the widths of a clause's bytes.
use mathlib.Core.Path.{◌≡◌, refl, sym, ap, ◌∙◌}
use mathlib.Core.Bool.{Bool, true, false, cond, ◌&&◌, and-true, and-false}
use mathlib.Core.List.{List}
use Prim.Native.Nat.{ℕ, ◌+◌, ◌-◌, ◌<◌, ◌≤◌, min}
use native.Mathlib.Omega.{arith}
use native.Mathlib.Decide.{dec_le}
use borrow.Author.Tests.{le-leb, lt-leb}
use lib.Dec.{leb}
use lib.ListN.{length, get_or}
use Rattle.csl.specs.Lists.{at}
use Rattle.csl.specs.Bytes.{byte, part, kind_number, record_end}
use Rattle.csl.specs.Syntax.{Clause, fulfilled, obligation, choice, if, join, instance}
use Rattle.csl.specs.Decode.{clause, wait_at}
use Rattle.csl.specs.Widths.{or_zero, width, narrow, thens_narrow, all_narrow}
use Rattle.laws.proofs.Lists.{number_at}
use Rattle.records.specs.Index.{first_clause}
use Rattle.records.proofs.Trees.{sided_choice}
use Rattle.std.specs.Prelude.{Option, Some, None}
use Rattle.std.specs.Option.{is_some, IfSome}
use Rattle.std.specs.Bool.{then_some}
use Rattle.guards.specs.Walk.{Answers, counted, narrow_width}
use Rattle.guards.proofs.Walks.{answers_then, answers_two, answers_fulfilled, answers_instance, answers_low}
use Rattle.guards.proofs.Walks.{answers_none, past_wait, sided_same}

-- ---- sums that stop at 257
pub sat : (a b : ℕ) → min (1 + min a 257 + min b 257) 257 ≡ min (1 + a + b) 257
sat a b = omega arith

sat_one : (b : ℕ) {y n r : ℕ} → n ≡ 1 + y → r ≡ min n 257 → y ≡ min b 257 → r ≡ min (1 + b) 257
sat_one b e h q = omega arith

-- ---- `counted`: n is what is summed up, and r what it counts as
module _ (ws : List ℕ) (d : ℕ) (s : List ℕ) {m n r : ℕ} (h : r ≡ min n 257) (k : m ≡ kind_number s) where
  one : n ≡ 1 → r ≡ 1
  one e = omega arith

  pub width_low : n ≡ 1 → m < 18 → Answers (counted ws) d s r
  unfolding counted width
  width_low e l = answers_low (counted ws) d s k l (one e) (λ b w t. one e)

  pub width_none : n ≡ 1 → (m ≡ 22 → ⊥) → 22 ≤ m → Answers (counted ws) d s r
  width_none e f l = answers_none (counted ws) d s k (omega arith)

  pub width_instance : {b y : ℕ} → m ≡ 22 → b ≡ byte s 4 → y ≡ min (get_or ws b 0) 257 → n ≡ 1 + y
      → Answers (counted ws) d s r
  unfolding counted width
  width_instance e g q i = answers_instance (counted ws) d s k e
      (λ es bs. sat_one (or_zero (at ws (byte s 4))) i h (q ∙ rw (g, ← number_at ws (byte s 4))))

  module _ {c z : ℕ} (i : c ≡ first_clause m s) (j : z ≡ record_end s c) where
    pub width_choice : {y : ℕ} → m ≡ 18 → Answers (counted ws) (d - 1) (part s z (length s)) y → n ≡ 1 + y
        → Answers (counted ws) d s r
    unfolding counted width
    width_choice {y} e a q = answers_two (counted ws) d s k (λ t. Unit {0}) (λ u. y ≡ counted ws u)
        (omega arith) (omega arith) i j (λ hs p w. tt) a.is
        (λ x p t u g f. sat_one (width ws u) q h f ∙ ap (counted ws) (sym (sided_choice x p s t u e)))

    pub width_two : {x y : ℕ} → (m ≡ 18 → ⊥) → 18 ≤ m → m < 22 → Answers (counted ws) (d - 1) (part s c z) x
        → Answers (counted ws) (d - 1) (part s z (length s)) y → n ≡ 1 + x + y → Answers (counted ws) d s r
    unfolding counted width
    width_two {x} {y} l o u a b q = answers_two (counted ws) d s k (λ t. x ≡ counted ws t) (λ t. y ≡ counted ws t)
        o u i j a.is b.is
        (λ e p t v f g.
        let w : r ≡ min (1 + width ws t + width ws v) 257 = h ∙ rw (q, f, g) (sat (width ws t) (width ws v)) in
        sided_same (counted ws) e p s m t v l (λ x. w) (λ x. w))

pub ruleset counts = (width_low, width_none, width_instance, width_choice, width_two)

pub leb_min : (a : ℕ) → leb (min a 257) 256 ≡ leb a 256
leb_min a = test (dec_le a 256)
  where
    test : Dec (a ≤ 256) → leb (min a 257) 256 ≡ leb a 256
    test (yes h) = le-leb (min a 257) 256 (omega arith) ∙ sym (le-leb a 256 h)
    test (no h) = lt-leb (min a 257) 256 (omega arith) ∙ sym (lt-leb a 256 (omega arith))

-- ---- `narrow_width`: of a clause, and of one that it has as a part
module _ (ws : List ℕ) (c : Clause) where
  -- n is what is summed up, and the `then`s within are narrow
  last : (n : ℕ) {r : Option ℕ} → r ≡ then_some (leb n 256) n → min n 257 ≡ min (width ws c) 257
      → thens_narrow ws c ≡ true → r ≡ narrow_width ws c
  unfolding narrow_width all_narrow narrow
  last n h e f = h ∙ test (dec_le n 256) ∙ rw (f, and-true (leb (width ws c) 256)) refl
    where
      test : Dec (n ≤ 256) → then_some (leb n 256) n ≡ cond (leb (width ws c) 256) (Some (width ws c)) None
      test (yes l) = let same : n ≡ width ws c = omega arith in rw (same, le-leb (width ws c) 256 (omega arith)) refl
      test (no l) = rw (lt-leb n 256 (omega arith), lt-leb (width ws c) 256 (omega arith)) refl

  some_is : {w : ℕ} → Some w ≡ narrow_width ws c
      → (w ≡ width ws c) × (width ws c ≤ 256) × (thens_narrow ws c ≡ true)
  unfolding narrow_width all_narrow narrow
  some_is {w} e = test (dec_le (width ws c) 256)
    where
      go : (b : Bool) → thens_narrow ws c ≡ b → width ws c ≤ 256 → Some w ≡ cond b (Some (width ws c)) None
          → (w ≡ width ws c) × (width ws c ≤ 256) × (thens_narrow ws c ≡ true)
      go true q l p = (cc, l, q)
      go false q l p = absurd cc

      test : Dec (width ws c ≤ 256) → (w ≡ width ws c) × (width ws c ≤ 256) × (thens_narrow ws c ≡ true)
      test (yes l) = go (thens_narrow ws c) refl l (rw (le-leb (width ws c) 256 l) at e)
      test (no l) = let p : Some w ≡ None = rw (lt-leb (width ws c) 256 (omega arith)) at e in absurd cc

  none_off : thens_narrow ws c ≡ false → None ≡ narrow_width ws c
  unfolding narrow_width all_narrow
  none_off e = rw (e, and-false (narrow ws c)) refl

  none_is : None ≡ narrow_width ws c → all_narrow ws c ≡ false
  unfolding narrow_width
  none_is e = go (all_narrow ws c) e
    where
      go : (a : Bool) → None ≡ cond a (Some (width ws c)) None → a ≡ false
      go true e = absurd cc
      go false e = refl

-- t is a part of c, whose width and `then`s are among c's
none_part : (ws : List ℕ) (t c : Clause) → width ws t ≤ width ws c
    → (thens_narrow ws t ≡ false → thens_narrow ws c ≡ false) → None ≡ narrow_width ws t → None ≡ narrow_width ws c
unfolding narrow_width all_narrow narrow
none_part ws t c l f e = test (dec_le (width ws t) 256)
  where
    test : Dec (width ws t ≤ 256) → None ≡ narrow_width ws c
    test (yes h) = none_off ws c (f (rw (le-leb (width ws t) 256 h) at (none_is ws t e)))
    test (no h) = rw (lt-leb (width ws c) 256 (omega arith)) refl

-- ---- the same by kinds: n is what is summed up
module _ (ws : List ℕ) (d : ℕ) (s : List ℕ) {m : ℕ} (k : m ≡ kind_number s) where
  module _ {n : ℕ} {r : Option ℕ} (h : r ≡ then_some (leb n 256) n) where
    pub narrow_low : n ≡ 1 → m < 17 → Answers (narrow_width ws) d s r
    unfolding width thens_narrow
    narrow_low e l = answers_fulfilled (narrow_width ws) d s k l (last ws fulfilled _ h (rw e refl) refl)

    pub narrow_none : n ≡ 1 → (m ≡ 22 → ⊥) → 22 ≤ m → Answers (narrow_width ws) d s r
    narrow_none e f l = answers_none (narrow_width ws) d s k (omega arith)

    pub narrow_instance : {b y : ℕ} → m ≡ 22 → b ≡ byte s 4 → y ≡ min (get_or ws b 0) 257 → n ≡ 1 + y
        → Answers (narrow_width ws) d s r
    unfolding width thens_narrow
    narrow_instance {b} {y} e g q i = answers_instance (narrow_width ws) d s k e (λ es bs.
        let p = sat_one (or_zero (at ws (byte s 4))) i refl (q ∙ rw (g, ← number_at ws (byte s 4)) refl) in
        last ws (instance (byte s 4) es bs) _ h p refl)

    module _ {c : ℕ} (i : c ≡ first_clause m s) where
      pub narrow_wait : {w : ℕ} → m ≡ 17 → Answers (narrow_width ws) (d - 1) (part s c (length s)) (Some w) → n ≡ 1
          → Answers (narrow_width ws) d s r
      unfolding width thens_narrow narrow
      narrow_wait {w} e a q = answers_then (narrow_width ws) d s k (λ t. Some w ≡ narrow_width ws t) e i a.is
          (λ b v t g. let x = some_is ws t g in
          last ws (obligation b v t) _ h (rw q refl) (rw (le-leb (width ws t) 256 x.1, x.2) refl))

      module _ {z w y : ℕ} (j : z ≡ record_end s c)
          (a : Answers (narrow_width ws) (d - 1) (part s c z) (Some w))
          (b : Answers (narrow_width ws) (d - 1) (part s z (length s)) (Some y)) where
        pub narrow_choice : m ≡ 18 → n ≡ 1 + y → Answers (narrow_width ws) d s r
        unfolding width thens_narrow narrow
        narrow_choice e q = answers_two (narrow_width ws) d s k (λ t. Some w ≡ narrow_width ws t)
            (λ u. Some y ≡ narrow_width ws u) (omega arith) (omega arith) i j a.is b.is
            (λ x p t u g f. let x₁ = some_is ws t g in let x₂ = some_is ws u f in
            last ws (choice (wait_at x p s 4) t u) _ h (rw (q, x₂.0) refl)
            (rw (le-leb (width ws t) 256 x₁.1, x₁.2, x₂.2) refl)
            ∙ ap (narrow_width ws) (sym (sided_choice x p s t u e)))

        pub narrow_two : (m ≡ 18 → ⊥) → 18 ≤ m → m < 22 → n ≡ 1 + w + y → Answers (narrow_width ws) d s r
        unfolding width thens_narrow
        narrow_two l o v q = answers_two (narrow_width ws) d s k (λ t. Some w ≡ narrow_width ws t)
            (λ u. Some y ≡ narrow_width ws u) o v i j a.is b.is
            (λ e p t u g f. let x₁ = some_is ws t g in let x₂ = some_is ws u f in
            sided_same (narrow_width ws) e p s m t u l
            (λ x. last ws (if x t u) _ h (rw (q, x₁.0, x₂.0) refl) (rw (x₁.2, x₂.2) refl))
            (λ x. last ws (join x t u) _ h (rw (q, x₁.0, x₂.0) refl) (rw (x₁.2, x₂.2) refl)))

  -- where a part is not narrow
  module _ {c : ℕ} (i : c ≡ first_clause m s) where
    pub off_wait : m ≡ 17 → Answers (narrow_width ws) (d - 1) (part s c (length s)) None
        → Answers (narrow_width ws) d s None
    unfolding thens_narrow all_narrow
    off_wait e a = answers_then (narrow_width ws) d s k (λ t. None ≡ narrow_width ws t) e i a.is
        (λ b v t g. none_off ws (obligation b v t) (none_is ws t g))

    module _ {z : ℕ} (j : z ≡ record_end s c) where
      pub off_then : m ≡ 18 → Answers (narrow_width ws) (d - 1) (part s c z) None → Answers (narrow_width ws) d s None
      unfolding thens_narrow all_narrow
      off_then e a = answers_two (narrow_width ws) d s k (λ t. None ≡ narrow_width ws t) (λ u. Unit {0})
          (omega arith) (omega arith) i j a.is (λ hs p w. tt)
          (λ x p t u g f. none_off ws (choice (wait_at x p s 4) t u) (rw (none_is ws t g) refl)
          ∙ ap (narrow_width ws) (sym (sided_choice x p s t u e)))

      pub off_else : m ≡ 18 → Answers (narrow_width ws) (d - 1) (part s z (length s)) None
          → Answers (narrow_width ws) d s None
      unfolding width thens_narrow
      off_else e a = answers_two (narrow_width ws) d s k (λ t. Unit {0}) (λ u. None ≡ narrow_width ws u)
          (omega arith) (omega arith) i j (λ hs p w. tt) a.is
          (λ x p t u g f. none_part ws u (choice (wait_at x p s 4) t u) (omega arith)
          (λ q. rw (q, and-false (narrow ws t && thens_narrow ws t)) refl) f
          ∙ ap (narrow_width ws) (sym (sided_choice x p s t u e)))

      pub off_left : (m ≡ 18 → ⊥) → 18 ≤ m → m < 22 → Answers (narrow_width ws) (d - 1) (part s c z) None
          → Answers (narrow_width ws) d s None
      unfolding width thens_narrow
      off_left l o v a = answers_two (narrow_width ws) d s k (λ t. None ≡ narrow_width ws t) (λ u. Unit {0})
          o v i j a.is (λ hs p w. tt)
          (λ e p t u g f. sided_same (narrow_width ws) e p s m t u l
          (λ x. none_part ws t (if x t u) (omega arith) (λ q. rw q refl) g)
          (λ x. none_part ws t (join x t u) (omega arith) (λ q. rw q refl) g))

      pub off_right : (m ≡ 18 → ⊥) → 18 ≤ m → m < 22 → Answers (narrow_width ws) (d - 1) (part s z (length s)) None
          → Answers (narrow_width ws) d s None
      unfolding width thens_narrow
      off_right l o v a = answers_two (narrow_width ws) d s k (λ t. Unit {0}) (λ u. None ≡ narrow_width ws u)
          o v i j (λ hs p w. tt) a.is
          (λ e p t u g f. sided_same (narrow_width ws) e p s m t u l
          (λ x. none_part ws u (if x t u) (omega arith) (λ q. rw (q, and-false (thens_narrow ws t)) refl) f)
          (λ x. none_part ws u (join x t u) (omega arith) (λ q. rw (q, and-false (thens_narrow ws t)) refl) f))

-- what is found is narrow
pub few : (n : ℕ) {r : Option ℕ} → r ≡ then_some (leb n 256) n → IfSome r (λ w. w ≤ 256)
few n h = rw h (test (dec_le n 256))
  where
    test : Dec (n ≤ 256) → IfSome (then_some (leb n 256) n) (λ w. w ≤ 256)
    test (yes l) = rw (le-leb n 256 l) l
    test (no l) = rw (lt-leb n 256 (omega arith)) tt

pub ruleset narrows = (past_wait, narrow_low, narrow_none, narrow_instance, narrow_wait, narrow_choice, narrow_two)

pub ruleset offs = (past_wait, off_wait, off_then, off_else, off_left, off_right)

-- there is a width just where all is narrow
pub narrow_found : (ws : List ℕ) (d : ℕ) (s : List ℕ) {o : Option ℕ} {r : Bool}
    → Answers (narrow_width ws) d s o → r ≡ is_some o → Answers (all_narrow ws) d s r
unfolding narrow_width
narrow_found ws d s a e = record {
  is = λ hs p h. e ∙ ap is_some (a.is hs p h) ∙ found _ (all_narrow ws (clause hs d p s));
}
  where
    found : (n : ℕ) (b : Bool) → is_some (cond b (Some n) None) ≡ b
    found n true = refl
    found n false = refl
