-- The rules on cells: activating, following and forecasting a clause, the residue being the cells that the table
-- holds for it, with what is counted on the way.
-- Total, with no stuck outcome; on a typed clause it is csl's rules: `bridge` proves it (proofs/Reduce).
use Rattle.std.specs.Prelude.{Bool, true, false, cond, ◌&&◌, List, [], ◌∷◌, ◌++◌, ℕ, zero, suc, ◌-◌, ltb, eqb, ℤ, pos}
use Rattle.std.specs.Prelude.{negsuc, ◌+ℤ◌, ◌-ℤ◌, length, get_or, take}
use Rattle.std.proofs.Math.Option.{none, some}
use Rattle.std.specs.Int.Bits.{bit_or}
use Rattle.std.specs.Int.Signed.{lt_z}
use Rattle.csl.specs.Lists.{at}
use Rattle.csl.specs.Numbers.{later_of}
use Rattle.csl.specs.Parties.{bits_of}
use Rattle.csl.specs.Syntax.{Join, and, or, Wait, Clause, fulfilled, obligation, choice, if, join, instance}
use Rattle.csl.specs.Syntax.{bad_clause, Template}
use Rattle.csl.specs.Rules as csl
use Rattle.csl.specs.Rules.{Window, timing}
use Rattle.csl.specs.Table.{padded, join_cells}
use Rattle.csl.specs.Cost.{Tally, tally_join, nothing_yet, one_more, all_further}
use Rattle.cells.specs.Evaluate.{eval_cells, evals_cells, is_true_cell}

-- fulfilled; a breach's time and its parties by bit; a residue's cells, unit by unit in prefix order
pub data Reduced : Type 0 where
  done : Reduced
  breach : ℕ → ℕ → Reduced
  running : List ℤ → Reduced

-- ---- `and` and `or`
unfoldable pub earlier : ℕ → ℕ → ℕ → ℕ → Reduced
earlier t b u c = cond (ltb t u) (breach t b) (cond (ltb u t) (breach u c) (breach t (bit_or b c)))

unfoldable pub later : ℕ → ℕ → ℕ → ℕ → Reduced
later t b u c = cond (ltb t u) (breach u c) (breach t b)

unfoldable pub join_both : Reduced → Reduced → Reduced
join_both done o = o
join_both (breach t b) done = breach t b
join_both (breach t b) (breach u c) = earlier t b u c
join_both (breach t b) (running r) = breach t b
join_both (running l) done = running l
join_both (running l) (breach u c) = breach u c
join_both (running l) (running r) = running (join_cells and ++ (l ++ r))

unfoldable pub join_either : Reduced → Reduced → Reduced
join_either done o = done
join_either (breach t b) done = done
join_either (breach t b) (breach u c) = later t b u c
join_either (breach t b) (running r) = running r
join_either (running l) done = done
join_either (running l) (breach u c) = running l
join_either (running l) (running r) = running (join_cells or ++ (l ++ r))

unfoldable pub joined : Join → Reduced → Reduced → Reduced
joined and l r = join_both l r
joined or l r = join_either l r

-- ---- a clause's outcome, with what csl's `tallies` counts of it
pub record Reckoned : Type 0 where
  pub outcome : Reduced
  pub tally : Tally

unfoldable pub ended : Reckoned
ended = record { outcome = done; tally = nothing_yet true }

unfoldable pub broken : ℕ → ℕ → Reckoned
broken t b = record { outcome = breach t b; tally = nothing_yet false }

unfoldable pub waiting : List ℤ → Reckoned
waiting cs = record { outcome = running cs; tally = nothing_yet false }

unfoldable pub joins : Join → Reckoned → Reckoned → Reckoned
joins j l r = record {
  outcome = joined j l.outcome r.outcome;
  tally = tally_join j l.tally r.tally;
}

-- of a clause that is activated, or a unit of the table that is read
unfoldable pub reaches : Reckoned → Reckoned
reaches x = record { outcome = x.outcome; tally = one_more x.tally }

-- of a wait that a reading ends
unfoldable pub becomes : Reckoned → Reckoned
becomes x = record { outcome = x.outcome; tally = all_further x.tally }

-- ---- blames: a party, or the party in the parameter's cell
unfoldable pub party_cell : ℤ → ℕ
party_cell (pos n) = n
party_cell (negsuc n) = 16

unfoldable pub blamed_cell : List ℤ → ℕ → ℤ
blamed_cell ps b = cond (ltb b 128) (pos b) (get_or ps (b - 128) (pos 0))

unfoldable pub blamed_cells : List ℤ → List ℕ → List ℤ
blamed_cells ps [] = []
blamed_cells ps (b ∷ bs) = blamed_cell ps b ∷ blamed_cells ps bs

unfoldable pub blame_bits : List ℤ → ℕ → ℕ
blame_bits ps b = bits_of (party_cell (blamed_cell ps b) ∷ [])

-- ---- a waiting unit's cells
unfoldable pub unit_of : ℕ → ℕ → ℕ → List ℤ → List ℤ → List ℤ
unit_of sort place a ps vs = pos sort ∷ pos place ∷ pos a ∷ (padded 5 ps ++ padded 16 vs)

-- ---- what an obligation or a choice does
pub data Mode : Type 0 where
  activating forecasting : Mode
  -- a reading's time, type and values
  following : ℕ → ℕ → List ℤ → Mode

unfoldable pub first_of : List ℤ → ℕ → Wait → ℤ
first_of vs a w = pos a +ℤ eval_cells vs w.after

unfoldable pub last_of : List ℤ → ℕ → Wait → ℤ
last_of vs a w = first_of vs a w +ℤ eval_cells vs w.within

unfoldable pub window_of : List ℤ → ℕ → Wait → Window
window_of vs a w = record { first = first_of vs a w; last = last_of vs a w }

-- the reading is wanted, and `where` is true
unfoldable pub takes : List ℤ → Wait → ℕ → List ℤ → Bool
takes vs w k rs = eqb w.wanted k && is_true_cell (eval_cells (vs ++ rs) w.condition)

-- paper 02, No. 8: a wait that "wants this type, finds `where` true, and has a first later than the reading"
unfoldable pub opens_later : List ℤ → ℕ → Wait → ℕ → ℕ → List ℤ → Bool
opens_later vs a w t k rs = takes vs w k rs && lt_z (pos t) (first_of vs a w)

-- "At most 16 are in sight."
unfoldable pub then_values : List ℤ → List ℤ → ℤ → List ℤ
then_values vs rs z = take 16 ((vs ++ rs) ++ (z ∷ []))

-- what becomes of a wait: late, taken, or waiting on
pub data Fate : Type 0 where
  waits late taken : Fate

unfoldable pub fate : Mode → List ℤ → ℕ → Wait → Fate
fate activating vs a w = waits
fate forecasting vs a w = late
fate (following t k rs) vs a w = elim (timing (window_of vs a w) t) [
  | csl.late ↦ late
  | csl.on_time ↦ cond (takes vs w k rs) taken waits
  | csl.early ↦ waits
]

-- ---- the walk; `thenIs` activates a `then`, `instantiate` unfolds a template
unfoldable pub on_taken : Mode → (Clause → List ℤ → List ℤ → ℕ → Reckoned) → Clause → List ℤ → List ℤ → ℕ → Wait
    → Reckoned
on_taken activating thenIs t ps vs a w = ended
on_taken forecasting thenIs t ps vs a w = ended
on_taken (following u k rs) thenIs t ps vs a w =
    becomes (thenIs t ps (then_values vs rs (last_of vs a w -ℤ pos u)) u)

module _ (m : Mode) (thenIs : Clause → List ℤ → List ℤ → ℕ → Reckoned)
    (instantiate : ℕ → List ℤ → List ℤ → ℕ → Reckoned) where
  unfoldable pub walk : Clause → List ℤ → List ℤ → ℕ → Reckoned
  walk fulfilled ps vs a = reaches ended
  walk (obligation b w t) ps vs a = reaches (elim (fate m vs a w) [
    | waits ↦ waiting (unit_of 17 w.place a ps vs)
    | late ↦ broken (later_of a (last_of vs a w)) (blame_bits ps b)
    | taken ↦ on_taken m thenIs t ps vs a w
  ])
  walk (choice w t f) ps vs a = reaches (elim (fate m vs a w) [
    | waits ↦ waiting (unit_of 18 w.place a ps vs)
    | late ↦ becomes (walk f ps vs (later_of a (last_of vs a w)))
    | taken ↦ on_taken m thenIs t ps vs a w
  ])
  walk (if c t f) ps vs a =
      reaches (elim (is_true_cell (eval_cells vs c)) [ true ↦ walk t ps vs a | false ↦ walk f ps vs a ])
  walk (join j t f) ps vs a = reaches (joins j (walk t ps vs a) (walk f ps vs a))
  walk (instance k es bs) ps vs a = reaches (instantiate k (blamed_cells ps bs) (evals_cells vs es) a)
  walk bad_clause ps vs a = reaches ended

-- instances of the templates below n: template k's body is walked with instances of the templates below k
module _ (m : Mode) (thenIs : Clause → List ℤ → List ℤ → ℕ → Reckoned) (ts : List Template) where
  unfoldable pub unfold_below : ℕ → ℕ → List ℤ → List ℤ → ℕ → Reckoned
  unfold_below zero k ps vs a = ended
  unfold_below (suc n) k ps vs a = elim (eqb k n) [
    | true ↦ elim (at ts n) [ none ↦ ended | some t ↦ walk m thenIs (unfold_below n) t.body ps vs a ]
    | false ↦ unfold_below n k ps vs a
  ]

-- a clause outside the templates, or in some `then`, may name any template
unfoldable pub activate : List Template → Clause → List ℤ → List ℤ → ℕ → Reckoned
activate ts c ps vs a = walk activating (λ t qs us u. ended)
    (unfold_below activating (λ t qs us u. ended) ts (length ts)) c ps vs a

unfoldable pub reduce : Mode → List Template → Clause → List ℤ → List ℤ → ℕ → Reckoned
reduce m ts c ps vs a = walk m (activate ts) (unfold_below m (activate ts) ts (length ts)) c ps vs a
