-- Paper 01, "The table", and refusal 7: what a run's table is, and the run that a table shows.
use Rattle.std.specs.Prelude.{Bool, true, false, not, ◌&&◌, List, [], ◌∷◌, ◌++◌, ℕ, zero, suc, ◌-◌, ◌^◌, leb, ltb}
use Rattle.std.specs.Prelude.{eqb, ℤ, pos, negsuc, length, replicate}
use Rattle.std.proofs.Math.Option.{Option, none, some}
use Rattle.csl.specs.Lists.{◌>>=◌, need, all, at, split}
use Rattle.csl.specs.Parties.{bits_of, members, subset}
use Rattle.csl.specs.Syntax.{Join, and, or, Clause, fulfilled, obligation, choice, if, join, instance, bad_clause}
use Rattle.csl.specs.Syntax.{Agreement}
use Rattle.csl.specs.Typing.{type_clause, names_of, join_ok}
use Rattle.csl.specs.Values.{Val, num, bool, who, as_nat, values_of}
use Rattle.csl.specs.Outcomes.{Sight, Sort, an_obligation, a_choice, Residue, unit, both, units, Outcome, done}
use Rattle.csl.specs.Outcomes.{breach, running, stuck}
use Rattle.csl.specs.Rules.{blamed}
use Rattle.csl.specs.Places.{clause_at}

-- ---- what a run has come to: its last reading time, when it last moved ("the time of the last reading that altered a
-- unit or the state", paper 02, No. 1), and its outcome
pub record Run : Type 0 where
  pub last_time : ℕ
  pub last_moved : ℕ
  pub outcome : Outcome

-- ---- a run's table
unfoldable pub cell_of : Val → ℤ
cell_of (num z) = z
cell_of (bool false) = pos 0
cell_of (bool true) = pos 1
cell_of (who p) = pos p

unfoldable pub cells_of : List Val → List ℤ
cells_of [] = []
cells_of (v ∷ vs) = cell_of v ∷ cells_of vs

unfoldable pub nat_cells : List ℕ → List ℤ
nat_cells [] = []
nat_cells (n ∷ ns) = pos n ∷ nat_cells ns

-- with zeros behind it to a length
unfoldable pub padded : ℕ → List ℤ → List ℤ
padded n xs = xs ++ replicate (n - length xs) (pos 0)

unfoldable pub sort_number : Sort → ℕ
sort_number an_obligation = 17
sort_number a_choice = 18

unfoldable pub join_number : Join → ℕ
join_number and = 20
join_number or = 21

-- "Unit: 0 sort (17, 18, 20 or 21), 1 byte place of its clause in the agreement, 2 A, 3 to 6 party parameters, 7 zero,
-- 8 to 23 values in sight there."
unfoldable pub cells_of_unit : Sort → ℕ → ℕ → Sight → List ℤ
cells_of_unit s p a e =
    pos (sort_number s) ∷ pos p ∷ pos a ∷ (padded 5 (nat_cells e.params) ++ padded 16 (cells_of e.values))

unfoldable pub join_cells : Join → List ℤ
join_cells j = padded 24 (pos (join_number j) ∷ [])

-- "An `and` or `or` unit is followed by all of its left side, then all of its right"
unfoldable pub residue_cells : Residue → List ℤ
residue_cells (unit s p a e) = cells_of_unit s p a e
residue_cells (both j l r) = join_cells j ++ (residue_cells l ++ residue_cells r)

-- "Head: 0 state (1 running, 2 fulfilled, 3 breached), 1 last reading time, 2 breach time, 3 blamed parties by bit,
-- 4 units in use, 5 to 7 zero."; paper 02, No. 1: "Head cell 5 now holds it", when the run last moved
unfoldable pub head_cells : ℕ → ℕ → ℕ → ℕ → ℕ → ℕ → List ℤ
head_cells state time breachTime parties used moved =
    nat_cells (state ∷ time ∷ breachTime ∷ parties ∷ used ∷ moved ∷ 0 ∷ 0 ∷ [])

abbrev pub table_length : ℕ
table_length = 3080

unfoldable pub table_of : Run → List ℤ
table_of r = elim r.outcome [
  | done ↦ padded table_length (head_cells 2 r.last_time 0 0 0 r.last_moved)
  | breach t ps ↦ padded table_length (head_cells 3 r.last_time t (bits_of ps) 0 r.last_moved)
  | running res ↦ padded table_length
      (head_cells 1 r.last_time 0 0 (units res) r.last_moved ++ residue_cells res)
  | stuck ↦ []
]

-- ---- the run that a table shows
unfoldable pub as_nats : List ℤ → Option (List ℕ)
as_nats [] = some []
as_nats (z ∷ zs) = as_nat z >>= λ n. as_nats zs >>= λ ns. some (n ∷ ns)

unfoldable pub is_zero : ℤ → Bool
is_zero (pos n) = eqb n 0
is_zero (negsuc n) = false

unfoldable pub is_sort : Sort → Clause → Bool
is_sort s fulfilled = false
is_sort an_obligation (obligation b w t) = true
is_sort a_choice (obligation b w t) = false
is_sort an_obligation (choice w t f) = false
is_sort a_choice (choice w t f) = true
is_sort s (if e t f) = false
is_sort s (join j t f) = false
is_sort s (instance k es bs) = false
is_sort s bad_clause = false

-- "each waiting unit's place is a clause of its sort, its values and parameters are of the types and ranges in sight
-- there"; the cells behind the sort
unfoldable pub waiting_unit : Agreement → Sort → List ℤ → Option Residue
waiting_unit ag s cells = do
  h ← split 2 cells
  pa ← as_nats h.0
  p ← at pa 0
  a ← at pa 1
  f ← clause_at ag p
  _ ← need (is_sort s f.clause)
  q ← split 5 h.1
  ps ← split f.params q.0
  params ← as_nats ps.0
  _ ← need (all (λ x. ltb x ag.parties) params)
  _ ← need (all is_zero ps.1)
  vs ← values_of ag.parties f.sight q.1
  _ ← need (all is_zero vs.1)
  some (unit s p a (record { params = params; values = vs.0 }))

-- a join takes the two residues behind it
unfoldable pub push : Join → List Residue → Option (List Residue)
push j [] = none
push j (l ∷ []) = none
push j (l ∷ r ∷ rs) = some (both j l r ∷ rs)

pub data UnitSort : Type 0 where
  waiting : Sort → UnitSort
  joining : Join → UnitSort

unfoldable pub unit_sort : ℤ → Option UnitSort
unit_sort z =
    as_nat z >>= λ n. need (leb 17 n) >>= λ _.
    at (some (waiting an_obligation) ∷ some (waiting a_choice) ∷ none ∷ some (joining and) ∷ some (joining or) ∷ [])
    (n - 17) >>= λ o. o

unfoldable pub add_unit : Agreement → List ℤ → List Residue → Option (List Residue)
add_unit ag [] rs = none
add_unit ag (z ∷ zs) rs = unit_sort z >>= λ u. elim u [
  | waiting s ↦ waiting_unit ag s zs >>= (λ r. some (r ∷ rs))
  | joining j ↦ need (all is_zero zs) >>= (λ _. push j rs)
]

-- the residues of n units, one behind another; "Unused cells are zero."
unfoldable pub trees : Agreement → ℕ → List ℤ → Option (List Residue)
trees ag zero cells = need (all is_zero cells) >>= λ _. some []
trees ag (suc n) cells = split 24 cells >>= λ s. trees ag n s.1 >>= λ rs. add_unit ag s.0 rs

unfoldable pub single : List Residue → Option Residue
single [] = none
single (r ∷ []) = some r
single (r ∷ s ∷ rs) = none

-- the parties that blame bytes stand for, where each stands for one
unfoldable pub stands_for : List ℕ → ℕ → ℕ
stands_for params b = elim (blamed params b) [ none ↦ 0 | some p ↦ p ]

unfoldable pub stand_for : List ℕ → List ℕ → List ℕ
stand_for params [] = []
stand_for params (b ∷ bs) = stands_for params b ∷ stand_for params bs

-- a residue's parties; none where "a waiting unit's A [is] not from start to last reading time", a party is not among
-- the main clause's, or the rule for `or` does not hold
unfoldable pub residue_parties : Agreement → List ℕ → ℕ → Residue → Option (List ℕ)
residue_parties ag mains now (unit s p a e) = do
  _ ← need (leb ag.start a && leb a now)
  f ← clause_at ag p
  bs ← type_clause (names_of ag f.params) f.sight f.clause
  _ ← need (subset (stand_for e.params bs) mains)
  some (stand_for e.params bs)
residue_parties ag mains now (both j l r) = do
  ps ← residue_parties ag mains now l
  qs ← residue_parties ag mains now r
  _ ← need (join_ok j (ps ++ qs))
  some (ps ++ qs)

pub record HeadNumbers : Type 0 where
  pub state : ℕ
  pub now : ℕ
  pub time : ℕ
  pub parties : ℕ
  pub used : ℕ
  pub moved : ℕ

unfoldable pub head_numbers : List ℤ → Option HeadNumbers
head_numbers cells = do
  h ← split 6 cells
  _ ← need (all is_zero h.1)
  ns ← as_nats h.0
  a ← at ns 0
  b ← at ns 1
  c ← at ns 2
  d ← at ns 3
  e ← at ns 4
  f ← at ns 5
  some (record { state = a; now = b; time = c; parties = d; used = e; moved = f })

-- "Cells 2 and 3 are zero unless breached, cell 4 unless running."; a breach without party, with one not of the main
-- clause, or with a time outside start to last reading is 7
unfoldable pub read_state : Agreement → List ℕ → HeadNumbers → List ℤ → ℕ → Option Outcome
read_state ag mains h cells zero = none
read_state ag mains h cells (suc zero) = do
  _ ← need (eqb h.time 0 && eqb h.parties 0 && leb h.used 128)
  rs ← trees ag h.used cells
  r ← single rs
  _ ← residue_parties ag mains h.now r
  some (running r)
read_state ag mains h cells (suc (suc zero)) = do
  _ ← need (eqb h.time 0 && eqb h.parties 0 && eqb h.used 0 && all is_zero cells)
  some done
read_state ag mains h cells (suc (suc (suc zero))) = do
  _ ← need (leb ag.start h.time)
  _ ← need (leb h.time h.now)
  _ ← need (ltb h.parties (2 ^ 16))
  _ ← need (not (eqb h.parties 0))
  _ ← need (subset (members h.parties) mains)
  _ ← need (eqb h.used 0)
  _ ← need (all is_zero cells)
  some (breach h.time (members h.parties))
read_state ag mains h cells (suc (suc (suc (suc n)))) = none

-- "The last reading time runs from the start to 4,294,967,295."; paper 02, No. 1: when the run last moved "lies from
-- the start to the last reading time; a table where it doesn't is damaged under 7"; refusal 7 where this is none
unfoldable pub run_of : Agreement → List ℕ → List ℤ → Option Run
run_of ag mains cells = do
  s ← split 8 cells
  h ← head_numbers s.0
  _ ← need (leb ag.start h.moved && leb h.moved h.now && ltb h.now (2 ^ 32))
  o ← read_state ag mains h s.1 h.state
  some (record { last_time = h.now; last_moved = h.moved; outcome = o })

-- what a proof by computation unfolds
unfoldable pub computes : Unit {0}
unfolding cell_of cells_of nat_cells padded sort_number join_number cells_of_unit join_cells residue_cells head_cells
    table_of as_nats
    is_zero is_sort waiting_unit push unit_sort add_unit trees single stands_for stand_for residue_parties head_numbers
    read_state
    run_of
computes = tt
