-- Laws for the need of a clause's bytes, by its kind: sums and maxima that stop at 129.
use mathlib.Core.Path.{◌≡◌, refl}
use mathlib.Core.List.{List}
use Prim.Native.Nat.{ℕ, ◌+◌, ◌-◌, ◌<◌, ◌≤◌, min, max}
use native.Mathlib.Omega.{arith}
use lib.ListN.{length, get_or}
use Rattle.csl.specs.Bytes.{byte, part, kind_number, record_end}
use Rattle.csl.specs.Sizes.{clause_need}
use Rattle.laws.proofs.Lists.{number_at}
use Rattle.records.specs.Index.{first_clause}
use Rattle.records.proofs.Trees.{sided_choice, sided_if, sided_join}
use Rattle.guards.specs.Walk.{Answers}
use Rattle.guards.proofs.Walks.{answers_then, answers_two, answers_fulfilled, answers_instance, answers_none}
use Rattle.sizes.specs.Walk.{counted}

-- n is what is needed, and r what it counts as
module _ (us : List ℕ) (d : ℕ) (s : List ℕ) {m n r : ℕ} (h : r ≡ min n 129) (k : m ≡ kind_number s) where
  pub need_low : n ≡ 0 → m < 17 → Answers (counted us) d s r
  unfolding counted clause_need
  need_low e l = answers_fulfilled (counted us) d s k l (rw (h, e) refl)

  pub need_none : n ≡ 0 → (m ≡ 22 → ⊥) → 22 ≤ m → Answers (counted us) d s r
  need_none e f l = answers_none (counted us) d s k (omega arith)

  pub need_instance : {b : ℕ} → m ≡ 22 → b ≡ byte s 4 → n ≡ get_or us b 0 → Answers (counted us) d s r
  unfolding counted clause_need
  need_instance {b} e g i = answers_instance (counted us) d s k e
      (λ es bs. rw (h, i, g, ← number_at us (byte s 4)) refl)

  module _ {c : ℕ} (i : c ≡ first_clause m s) where
    pub need_then : {x : ℕ} → m ≡ 17 → Answers (counted us) (d - 1) (part s c (length s)) x → n ≡ max x 1
        → Answers (counted us) d s r
    unfolding counted clause_need
    need_then {x} e a q = answers_then (counted us) d s k (λ t. x ≡ counted us t) e i a.is (λ b w t f. omega arith)

    module _ {z x y : ℕ} (j : z ≡ record_end s c) (a : Answers (counted us) (d - 1) (part s c z) x)
        (b : Answers (counted us) (d - 1) (part s z (length s)) y) where
      pub need_choice : m ≡ 18 → n ≡ max (max x y) 1 → Answers (counted us) d s r
      unfolding counted clause_need
      need_choice e q = answers_two (counted us) d s k (λ t. x ≡ counted us t) (λ u. y ≡ counted us u)
          (omega arith) (omega arith) i j a.is b.is
          (λ w p t u v v′. rw (sided_choice w p s t u e) (omega arith))

      pub need_if : m ≡ 19 → n ≡ max x y → Answers (counted us) d s r
      unfolding counted clause_need
      need_if e q = answers_two (counted us) d s k (λ t. x ≡ counted us t) (λ u. y ≡ counted us u)
          (omega arith) (omega arith) i j a.is b.is
          (λ w p t u v v′. rw (sided_if w p s t u e) (omega arith))

      pub need_join : (m ≡ 18 → ⊥) → (m ≡ 19 → ⊥) → 18 ≤ m → m < 22 → n ≡ 1 + x + y → Answers (counted us) d s r
      unfolding counted clause_need
      need_join f g l o q = answers_two (counted us) d s k (λ t. x ≡ counted us t) (λ u. y ≡ counted us u)
          l o i j a.is b.is
          (λ w p t u v v′. rw (sided_join w p s m t u (omega arith)) (omega arith))

pub ruleset needs = (need_low, need_none, need_instance, need_then, need_choice, need_if, need_join)
