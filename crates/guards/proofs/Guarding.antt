-- Laws for `guarded_in` of a clause's bytes.
use mathlib.Core.Path.{◌≡◌, refl, sym, ap, ◌∙◌}
use mathlib.Core.Bool.{Bool, true}
use mathlib.Core.List.{List}
use Prim.Native.Nat.{ℕ, ◌-◌, ◌<◌, ◌≤◌}
use native.Mathlib.Omega.{arith}
use lib.Dec.{ltb}
use lib.ListN.{length}
use Rattle.csl.specs.Bytes.{byte, part, kind_number, record_end}
use Rattle.csl.specs.Guards.{guarded_in}
use Rattle.records.specs.Index.{first_clause}
use Rattle.records.proofs.Trees.{sided_choice}
use Rattle.guards.specs.Walk.{Answers}
use Rattle.guards.proofs.Walks.{answers_two, answers_instance, answers_low, answers_none, Both}

module _ (n d : ℕ) (s : List ℕ) {m : ℕ} (k : m ≡ kind_number s) where
  pub guard_low : m < 18 → Answers (guarded_in n) d s true
  unfolding guarded_in
  guard_low l = answers_low (guarded_in n) d s k l refl (λ b w t. refl)

  pub guard_none : (m ≡ 22 → ⊥) → 22 ≤ m → Answers (guarded_in n) d s true
  guard_none e l = answers_none (guarded_in n) d s k (omega arith)

  pub guard_instance : {b : ℕ} → m ≡ 22 → b ≡ byte s 4 → Answers (guarded_in n) d s (ltb b n)
  unfolding guarded_in
  guard_instance e g = answers_instance (guarded_in n) d s k e (λ es bs. ap (λ i. ltb i n) g)

  module _ {c z : ℕ} (i : c ≡ first_clause m s) (j : z ≡ record_end s c) where
    pub guard_choice : {r : Bool} → m ≡ 18 → Answers (guarded_in n) (d - 1) (part s z (length s)) r
        → Answers (guarded_in n) d s r
    unfolding guarded_in
    guard_choice {r} e a = answers_two (guarded_in n) d s k (λ t. Unit {0}) (λ u. r ≡ guarded_in n u) (omega arith)
        (omega arith) i j (λ hs p w. tt) a.is (λ x p t u h g. g ∙ ap (guarded_in n) (sym (sided_choice x p s t u e)))

pub guard_both : (n : ℕ) → Both (guarded_in n)
unfolding guarded_in
guard_both n = record { of_if = λ e t u. refl; of_join = λ j t u. refl }

pub ruleset guards = (guard_low, guard_none, guard_instance, guard_choice, guard_both)
