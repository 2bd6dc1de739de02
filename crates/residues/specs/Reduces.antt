-- What the code's answer says of the rules on cells.
use Rattle.std.specs.Prelude.{◌≡◌, List, ℕ, ◌-◌, ◌*◌, ◌≤◌, min, ℤ, pos, length, take, drop}
use Rattle.csl.specs.Syntax.{Join}
use Rattle.cells.specs.Reduce as cells
use Rattle.parties.specs.declared.breach.Breach.{Breach as Broken}
use Rattle.residues.specs.declared.Reduced.{Reduced}
use Rattle.residues.specs.declared.Reduced.TheVariants.{Done, Breach, Running}
use Rattle.cells.specs.Reduce.{breach}

-- no time, place or sum of such is farther from 0
abbrev pub farthest : ℕ
farthest = 200_000_000_000_000

-- the residue's cells stand at the end of `out`, where a table holds them and they fit; the units are counted up to 129
pub record Stands (cs : List ℤ) (n : ℕ) (out : List ℤ) : Type 0 where
  pub units : ℕ
  pub size : length cs ≡ 24 * units
  pub count : n ≡ min units 129
  pub wrote : units ≤ 128 → length cs ≤ length out → drop (length out - length cs) out ≡ cs

-- the answer r, with what stands in `out`, is what the rules on cells give
unfoldable pub Is : cells.Reduced → Reduced → List ℤ → Type 0
Is cells.done Done out = Unit {0}
Is cells.done (Breach b) out = ⊥
Is cells.done (Running n) out = ⊥
Is (cells.breach u c) Done out = ⊥
Is (cells.breach u c) (Breach b) out = (b.time ≡ pos u) × (b.parties ≡ c)
Is (cells.breach u c) (Running n) out = ⊥
Is (cells.running cs) Done out = ⊥
Is (cells.running cs) (Breach b) out = ⊥
Is (cells.running cs) (Running n) out = Stands cs n out

-- ---- the two sides of a join: the right side's cells stand at the end of `out`, the left side's below them
-- what is left of `out` for the left side
unfoldable pub room_left : Reduced → ℕ → ℕ
room_left Done n = n
room_left (Breach b) n = n
room_left (Running m) n = n - 24 * m

pub record Sides (left right : cells.Reduced) (l r : Reduced) (out : List ℤ) : Type 0 where
  pub of_left : Is left l (take (room_left r (length out)) out)
  pub of_right : Is right r out

-- a is what the sides make, whatever sides l and r are the answers for
pub record JoinIs (j : Join) (l r : Reduced) (before : List ℤ) (a : Reduced) (written : List ℤ) : Type 0 where
  pub is : (left right : cells.Reduced) → Sides left right l r before → Is (cells.joined j left right) a written

-- the same of two breaches, by their times
pub record BreachIs (f : ℕ → ℕ → ℕ → ℕ → cells.Reduced) (l r a : Broken) : Type 0 where
  pub is : (x y : ℕ) → l.time ≡ pos x → r.time ≡ pos y → (out : List ℤ)
      → Is (f x l.parties y r.parties) (Breach a) out

-- ---- the units of a residue, as an answer counts them
abbrev pub units_of : Reduced → ℕ
units_of Done = 0
units_of (Breach b) = 0
units_of (Running n) = n

-- a breach's parties by bit
abbrev pub bits_in : Reduced → ℕ
bits_in Done = 0
bits_in (Breach b) = b.parties
bits_in (Running n) = 0
