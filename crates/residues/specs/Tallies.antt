-- What the code's answer says of what is counted: paper 02, No. 9.
use Rattle.std.specs.Prelude.{◌≡◌, true, false, List, ℕ, min, ℤ}
use Rattle.csl.specs.Syntax.{Join}
use Rattle.csl.specs.Cost as csl
use Rattle.csl.specs.Cost.{nothing_yet, one_more}
use Rattle.cells.specs.Reduce as cells
use Rattle.residues.specs.declared.Reduced.{Reduced}
use Rattle.residues.specs.declared.Tally.{Tally}
use Rattle.residues.specs.declared.Reckoned.{Reckoned}
use Rattle.residues.specs.Reduces.{Is}

-- counts go up to so many: paper 02, No. 9, "at most 8,421,376 a reading"
abbrev pub most_counted : ℕ
most_counted = 8_421_376

pub record TallyIs (x : csl.Tally) (t : Tally) : Type 0 where
  pub once : t.once ≡ x.at_once
  pub activated : t.activated ≡ min x.activated most_counted
  pub further : t.further ≡ min x.further most_counted

-- the answer r, with what stands in `out`, is what the rules on cells give
pub record Reckons (x : cells.Reckoned) (r : Reckoned) (out : List ℤ) : Type 0 where
  pub outcome : Is x.outcome r.outcome out
  pub tally : TallyIs x.tally r.tally

-- a is what f makes, whatever r is the answer for
pub record Makes (f : cells.Reckoned → cells.Reckoned) (r a : Reckoned) : Type 0 where
  pub is : (x : cells.Reckoned) (out : List ℤ) → Reckons x r out → Reckons (f x) a out

-- a is the answer for one clause that is breached or waits, whatever r is the answer for
pub record MakesOne (r : Reduced) (a : Reckoned) : Type 0 where
  pub is : (x : cells.Reduced) (out : List ℤ) → Is x r out
      → Reckons (record { outcome = x; tally = one_more (nothing_yet false) }) a out

-- fulfilled, so many clauses being activated
unfoldable pub ended_by : ℕ → cells.Reckoned
ended_by n = record { outcome = cells.done; tally = record { at_once = true; activated = n; further = 0 } }

-- a is what is counted of a join of kind j and its sides, whatever sides l and r are counted of
pub record JoinTallies (j : Join) (l r a : Tally) : Type 0 where
  pub is : (x y : csl.Tally) → TallyIs x l → TallyIs y r → TallyIs (one_more (csl.tally_join j x y)) a
