-- When a run last moved: what its tables before and after come to, outcome by outcome.
-- Main theorems: `altered_done`, `altered_breach` and `altered_running` of the judgement, whatever the cell for when it
-- last moved; `moved_breach` and `stays_done` of the time; `moved_yes`, `moved_no`, `unaltered_is` and `altered_not`
-- say it of the tables themselves.
use mathlib.Core.Bool.{◌&&◌, Bool, false, not, true}
use mathlib.Core.List.{◌++◌, List, [], ◌∷◌}
use mathlib.Core.Logic.{◌↔◌}
use mathlib.Core.Path.{ap, ap₂, refl, sym, ◌∙◌, ◌≡◌}
use Prim.Native.Nat.{◌*◌, ◌+◌, ◌-◌, ◌<◌, suc, zero, ℕ, ◌≤◌}
use native.Mathlib.Omega.{arith}
use lib.Dec.{ltb}
use lib.IntN.{pos, ℤ}
use lib.ListN.{get_or-append, drop, get_or, get_or-replicate, length, replicate, take}
use lib.Seq.{get_or-append-add, take-append_seam}
use borrow.Author.Tests.{ltb-false, ltb-true, not-false}
use Rattle.csl.specs.Lists.{at}
use Rattle.csl.specs.Numbers.{eq_z}
use Rattle.csl.specs.Syntax.{Agreement, Join, and, or}
use Rattle.csl.specs.Outcomes.{Outcome, Residue, Sort, a_choice, an_obligation, both, breach, done, running, stuck}
use Rattle.csl.specs.Outcomes.{unit, units}
use Rattle.csl.specs.Run.{altered, moved_by, same_numbers}
use Rattle.csl.specs.Table.{head_cells, join_cells, join_number, nat_cells, padded, residue_cells, sort_number}
use Rattle.csl.specs.Table.{table_of}
use Rattle.csl.specs.Table.{cells_of_unit}
use Rattle.csl.specs.Demand3.{Unaltered}
use Rattle.laws.proofs.Bools.{and_left, and_right, by_test, true_not_false}
use Rattle.laws.proofs.Cells.{length_join}
use Rattle.laws.proofs.Clash.{impossible}
use Rattle.laws.proofs.Options.{some_inj}
use Rattle.laws.proofs.Integers.{pos_inj}
use Rattle.laws.proofs.Sameness.{same_are, same_not, same_self}
use Rattle.soundness.proofs.Good.{Ok}
use Rattle.soundness.proofs.Runs.{cells_len, moved_to, read_to, run_at}

-- the reading's time where something has altered, else as it was
abbrev judged : ℕ → ℕ → Bool → ℕ
judged time m b = elim b [ true ↦ time | false ↦ m ]

-- ---- a run that ends
pub altered_breach : (t m : ℕ) (res : Residue) (time k u : ℕ) (ps : List ℕ)
    → altered (table_of (run_at t m (running res))) (table_of (run_at time k (breach u ps))) ≡ true
unfolding altered table_of padded head_cells nat_cells same_numbers eq_z
altered_breach t m res time k u ps = refl

pub altered_done : (t m : ℕ) (res : Residue) (time k : ℕ)
    → altered (table_of (run_at t m (running res))) (table_of (run_at time k done)) ≡ true
unfolding altered table_of padded head_cells nat_cells same_numbers eq_z
altered_done t m res time k = refl

pub moved_breach : (t m : ℕ) (res : Residue) (time u : ℕ) (ps : List ℕ)
    → moved_to t m (running res) time (breach u ps) ≡ time
unfolding moved_by
moved_breach t m res time u ps = ap (judged time m) (altered_breach t m res time m u ps)

-- ---- a run that goes on
-- the cells of its units, and zeros behind them
abbrev pub with_zeros : List ℤ → List ℤ
with_zeros cells = cells ++ replicate (3072 - length cells) (pos 0)

pub units_behind : (t m : ℕ) (res : Residue) → drop 8 (table_of (run_at t m (running res))) ≡ with_zeros
    (residue_cells res)
unfolding table_of padded head_cells nat_cells
units_behind t m res =
    let e : 3080 - length (head_cells 1 t 0 0 (units res) m ++ residue_cells res) ≡ 3072
    - length (residue_cells res) = omega arith in
    ap (λ n. residue_cells res ++ replicate n (pos 0)) e

state_cell : (t m : ℕ) (res : Residue) → take 1 (table_of (run_at t m (running res))) ≡ pos 1 ∷ []
unfolding table_of padded head_cells nat_cells
state_cell t m res = refl

-- ---- each unit begins with its sort, which is not 0
unfoldable SortAt : ℕ → List ℤ → Type 0
SortAt k cells = (n : ℕ) × (get_or cells (24 * k) (pos 0) ≡ pos (suc n))

join_sort : (j : Join) (rest : List ℤ) → SortAt 0 (join_cells j ++ rest)
unfolding SortAt join_cells padded join_number
join_sort and rest = (19, refl)
join_sort or rest = (20, refl)

unit_sort_lem : (s : Sort) (cells : List ℤ) → SortAt 0 (pos (sort_number s) ∷ cells)
unfolding SortAt sort_number
unit_sort_lem an_obligation cells = (16, refl)
unit_sort_lem a_choice cells = (17, refl)

sort_front : (k : ℕ) (xs ys : List ℤ) → 24 * k < length xs → SortAt k xs → SortAt k (xs ++ ys)
unfolding SortAt
sort_front k xs ys h b = (b.0, get_or-append xs ys (pos 0) (24 * k) h ∙ b.1)

sort_behind : (k n j : ℕ) (xs ys : List ℤ) → length xs ≡ 24 * n → k ≡ n + j → SortAt j ys → SortAt k (xs ++ ys)
unfolding SortAt
sort_behind k n j xs ys l e b =
    let at : 24 * k ≡ length xs + 24 * j = omega arith in
    (b.0, ap (λ i. get_or (xs ++ ys) i (pos 0)) at ∙ get_or-append-add xs ys (24 * j) (pos 0) ∙ b.1)

-- n units, one behind another
pub record Units (n : ℕ) (cells : List ℤ) : Type 0 where
  pub size : length cells ≡ 24 * n
  sorted : (k : ℕ) → k < n → SortAt k cells

module _ (a : Agreement) (W : ℕ → Type 0) where
  sorts : (res : Residue) (ps : List ℕ) → Ok a W res ps → (k : ℕ) → k < units res → SortAt k (residue_cells res)
  unfolding Ok residue_cells units cells_of_unit
  sorts (unit s p t e) ps ok zero h = unit_sort_lem s _
  sorts (unit s p t e) ps ok (suc k) h = absurd (omega arith)
  sorts (both j l r) ps ok zero h = join_sort j _
  sorts (both j l r) ps ok (suc k) h = sort_behind (suc k) 1 k (join_cells j) _ (length_join j) (omega arith)
      (by_test (ltb k (units l))
      (λ t. let lt = ltb-true k (units l) t in
      sort_front k (residue_cells l) (residue_cells r) (omega (arith, cells_len a W l ok.0 ok.2))
      (sorts l ok.0 ok.2 k lt))
      (λ f. let le = ltb-false k (units l) f in
      sort_behind k (units l) (k - units l) (residue_cells l) (residue_cells r) (cells_len a W l ok.0 ok.2)
      (omega arith) (sorts r ok.1 ok.3 (k - units l) (omega arith))))

  -- a residue's cells are its units'
  pub residue_units : (res : Residue) (ps : List ℕ) → Ok a W res ps → Units (units res) (residue_cells res)
  residue_units res ps ok = record { size = cells_len a W res ps ok; sorted = sorts res ps ok }

-- behind one's units stand zeros, so another with the same cells has no more units
no_more : {n k : ℕ} {xs ys : List ℤ} → Units n xs → Units k ys → k ≤ 128 → with_zeros xs ≡ with_zeros ys → n < k → ⊥
unfolding SortAt
no_more {n = n} {xs = xs} {ys = ys} u v few e lt =
    let b = sort_front n ys (replicate (3072 - length ys) (pos 0)) (omega (arith, v.size)) (v.sorted n lt) in
    let zero-there : get_or (with_zeros xs) (length xs + 0) (pos 0) ≡ pos 0
    = get_or-append-add xs _ 0 (pos 0)
    ∙ get_or-replicate (3072 - length xs) 0 (pos 0) (pos 0) (omega (arith, u.size)) in
    let there : length xs + 0 ≡ 24 * n = omega (arith, u.size) in
    let clash : ◌≡◌ {A = ℕ} 0 (suc b.0) = pos_inj
    (sym zero-there ∙ ap₂ (λ zs i. get_or zs i (pos 0)) e there ∙ b.1) in
    omega arith

as_many : {n k : ℕ} {xs ys : List ℤ} → Units n xs → Units k ys → n ≤ 128 → k ≤ 128 → with_zeros xs ≡ with_zeros ys
    → n ≡ k
as_many {n = n} {k = k} u v few few' e = by_test (ltb n k)
    (λ t. absurd (no_more u v few' e (ltb-true n k t)))
    (λ f. by_test (ltb k n)
    (λ t. absurd (no_more v u few (sym e) (ltb-true k n t)))
    (λ g. omega (arith, ltb-false n k f, ltb-false k n g)))

-- with zeros behind them they are the same just if they are
same_units : {n k : ℕ} (xs ys : List ℤ) → Units n xs → Units k ys → n ≤ 128 → k ≤ 128
    → same_numbers (with_zeros xs) (with_zeros ys) ≡ same_numbers ys xs
same_units xs ys u v few few' = by_test (same_numbers ys xs)
    (λ t. ap (λ zs. same_numbers (with_zeros xs) (with_zeros zs)) (same_are ys xs t) ∙ same_self (with_zeros xs)
    ∙ sym t)
    (λ f. same_not (with_zeros xs) (with_zeros ys) (λ e. true_not_false
    (ap (λ zs. same_numbers zs xs) (front e) ∙ same_self xs) f) ∙ sym f)
  where
    front : with_zeros xs ≡ with_zeros ys → ys ≡ xs
    front e =
        let l : length ys ≡ length xs = omega (arith, as_many u v few few' e, u.size, v.size) in
        sym (take-append_seam ys _) ∙ ap₂ take l (sym e) ∙ take-append_seam xs _

-- it alters just if the cells of its units are not the same
module _ (res next : Residue) (t m time : ℕ) where
  pub altered_running : (k : ℕ) → Units (units res) (residue_cells res) → Units (units next) (residue_cells next)
      → units res ≤ 128 → units next ≤ 128
      → altered (table_of (run_at t m (running res))) (table_of (run_at time k (running next)))
      ≡ not (same_numbers (residue_cells next) (residue_cells res))
  unfolding altered
  altered_running k u v few few' = ap₂ (λ b c. not (b && c))
      (ap₂ same_numbers (state_cell t m res) (state_cell time k next) ∙ same_self (pos 1 ∷ []))
      (ap₂ same_numbers (units_behind t m res) (units_behind time k next)
      ∙ same_units (residue_cells res) (residue_cells next) u v few few')

-- ---- of the tables themselves: what is judged does not tell when the run last moved
same_state : (t m k : ℕ) (o : Outcome) → at (table_of (run_at t m o)) 0 ≡ at (table_of (run_at t k o)) 0
unfolding table_of padded head_cells nat_cells at
same_state t m k done = refl
same_state t m k (breach u ps) = refl
same_state t m k (running r) = refl
same_state t m k stuck = refl

same_behind : (t m k : ℕ) (o : Outcome) → drop 8 (table_of (run_at t m o)) ≡ drop 8 (table_of (run_at t k o))
unfolding table_of padded head_cells nat_cells
same_behind t m k done = refl
same_behind t m k (breach u ps) = refl
same_behind t m k (running r) = refl
same_behind t m k stuck = refl

first_of : (xs ys : List ℤ) → (at xs 0 ≡ at ys 0) ↔ (take 1 xs ≡ take 1 ys)
unfolding at
first_of [] [] = (λ e. refl, λ e. refl)
first_of [] (y ∷ ys) = (λ e. impossible cc, λ e. impossible cc)
first_of (x ∷ xs) [] = (λ e. impossible cc, λ e. impossible cc)
first_of (x ∷ xs) (y ∷ ys) = (λ e. ap (λ z. z ∷ []) (some_inj e), λ e. cc)

pub unaltered_is : (xs ys : List ℤ) → Unaltered xs ys → altered xs ys ≡ false
unfolding Unaltered altered
unaltered_is xs ys u = rw ((first_of xs ys).0 u.0, u.1, same_self (take 1 ys), same_self (drop 8 ys)) refl

pub altered_not : (xs ys : List ℤ) → altered xs ys ≡ false → Unaltered xs ys
unfolding Unaltered altered
altered_not xs ys e =
    let b = not-false (same_numbers (take 1 xs) (take 1 ys) && same_numbers (drop 8 xs) (drop 8 ys)) e in (
      (first_of xs ys).1 (same_are (take 1 xs) (take 1 ys) (and_left _ _ b)),
      same_are (drop 8 xs) (drop 8 ys) (and_right (same_numbers (take 1 xs) (take 1 ys)) _ b),
    )

module _ (t m : ℕ) (o : Outcome) (time : ℕ) (next : Outcome) where
  abbrev before : List ℤ
  before = table_of (run_at t m o)

  abbrev after : List ℤ
  after = table_of (read_to t m o time next)

  unaltered_too : Unaltered before after ↔ Unaltered before (table_of (run_at time m next))
  unfolding Unaltered
  unaltered_too = (
    λ u. (u.0 ∙ same_state time _ m next, u.1 ∙ same_behind time _ m next),
    λ u. (u.0 ∙ same_state time m _ next, u.1 ∙ same_behind time m _ next),
  )

  pub moved_no : Unaltered before after → moved_to t m o time next ≡ m
  unfolding moved_by
  moved_no u = ap (judged time m) (unaltered_is before (table_of (run_at time m next)) (unaltered_too.0 u))

  pub moved_yes : (Unaltered before after → ⊥) → moved_to t m o time next ≡ time
  unfolding moved_by
  moved_yes f = ap (judged time m) (by_test (altered before (table_of (run_at time m next))) (λ e. e)
      (λ e. absurd (f (unaltered_too.1 (altered_not before (table_of (run_at time m next)) e)))))

-- a fulfilled run does not move again
pub stays_done : (t m time : ℕ) → moved_to t m done time done ≡ m
unfolding Unaltered table_of padded head_cells nat_cells at
stays_done t m time = moved_no t m done time done (refl, refl)
