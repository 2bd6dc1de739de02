-- The rules on cells at every unit of a table: "A reading at time T reaches every waiting unit".
-- Like csl's `trees` this gives what becomes of all the trees that n units make, in their order: a join takes the
-- first two of those behind it. A table's units make one tree, so there is one.
use Rattle.std.specs.Prelude.{Bool, cond, false, ◌||◌, List, [], ◌∷◌, ℕ, zero, suc, ltb, ℤ, pos, negsuc, get_or, take}
use Rattle.std.specs.Prelude.{drop}
use Rattle.csl.specs.Bytes.{part, record_end}
use Rattle.csl.specs.Syntax.{Join, Clause, fulfilled, obligation, choice, if, join, instance, bad_clause}
use Rattle.csl.specs.Decode.{heads_of, agreement_of, clause}
use Rattle.laws.specs.Joins.{join_of}
use Rattle.cells.specs.Reduce.{Reckoned, joins, reaches, Mode, opens_later, reduce}

-- a cell that is known to be a natural number
unfoldable pub nat_of : ℤ → ℕ
nat_of (pos n) = n
nat_of (negsuc n) = 0

-- a waiting unit's cells, with the numbers of its party parameters and of the values in sight at its place
unfoldable pub unit_reckoned : Mode → List ℕ → ℕ → ℕ → List ℤ → Reckoned
unit_reckoned m s params values cs =
    let p = nat_of (get_or cs 1 (pos 0)) in
    reduce m (agreement_of s).templates (clause (heads_of s) 23 p (part s p (record_end s p))) (take params (drop 3 cs))
    (take values (drop 8 cs)) (nat_of (get_or cs 2 (pos 0)))

unfoldable pub join_first_two : Join → List Reckoned → List Reckoned
join_first_two j [] = []
join_first_two j (l ∷ []) = []
join_first_two j (l ∷ r ∷ rs) = reaches (joins j l r) ∷ rs

-- `sights` has for each unit, from the one at hand on, two numbers: of a waiting unit those that `unit_reckoned` takes;
-- of a join nothing that is used here
unfoldable pub across : Mode → List ℕ → ℕ → List ℕ → List ℤ → List Reckoned
across m s zero sights cs = []
across m s (suc n) sights cs =
    let rs = across m s n (drop 2 sights) (drop 24 cs) in
    cond (ltb (nat_of (get_or cs 0 (pos 0))) 20)
    (unit_reckoned m s (get_or sights 0 0) (get_or sights 1 0) (take 24 cs) ∷ rs)
    (join_first_two (join_of (nat_of (get_or cs 0 (pos 0)))) rs)

-- ---- paper 02, No. 8: "at least one waiting unit" opens later than a reading of time t and type k
unfoldable pub clause_opens_later : ℕ → ℕ → List ℤ → Clause → List ℤ → ℕ → Bool
clause_opens_later t k rs fulfilled vs a = false
clause_opens_later t k rs (obligation b w c) vs a = opens_later vs a w t k rs
clause_opens_later t k rs (choice w c f) vs a = opens_later vs a w t k rs
clause_opens_later t k rs (if c l r) vs a = false
clause_opens_later t k rs (join j l r) vs a = false
clause_opens_later t k rs (instance n es bs) vs a = false
clause_opens_later t k rs bad_clause vs a = false

-- a unit's cells, with the number of the values in sight at its place
unfoldable pub unit_opens_later : ℕ → ℕ → List ℤ → List ℕ → ℕ → List ℤ → Bool
unit_opens_later t k rs s values cs =
    let p = nat_of (get_or cs 1 (pos 0)) in
    clause_opens_later t k rs (clause (heads_of s) 23 p (part s p (record_end s p))) (take values (drop 8 cs))
    (nat_of (get_or cs 2 (pos 0)))

-- `sights` as above
unfoldable pub some_open_later : ℕ → ℕ → List ℤ → List ℕ → ℕ → List ℕ → List ℤ → Bool
some_open_later t k rs s zero sights cs = false
some_open_later t k rs s (suc n) sights cs =
    cond (ltb (nat_of (get_or cs 0 (pos 0))) 20) (unit_opens_later t k rs s (get_or sights 1 0) (take 24 cs)) false
    || some_open_later t k rs s n (drop 2 sights) (drop 24 cs)
