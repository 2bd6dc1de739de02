-- The tree of units at the front of a table: "An `and` or `or` unit is followed by all of its left side, then all of
-- its right".
use Rattle.std.specs.Prelude.{◌≡◌, Bool, true, false, List, [], ◌∷◌, ℕ, ◌*◌, ◌≤◌, ◌+◌, ltb, ℤ, pos, length, get_or}
use Rattle.std.specs.Prelude.{take, drop}
use Rattle.laws.specs.Joins.{join_of}
use Rattle.kinds.specs.Kinds.{join_in}
use Rattle.kinds.specs.declared.Join.{Join}
use Rattle.cells.specs.Reduce as cells
use Rattle.cells.specs.Across.{nat_of, across, unit_opens_later}
use Rattle.cells.specs.Sights.{flat}
use Rattle.cells.specs.declared.Sight.{Sight}
use Rattle.cells.specs.declared.Sight.TheVariants.{Waits, Joins}
use Rattle.csl.specs.Outcomes.{Residue, unit, both, units}
use Rattle.cells.specs.Reduce.{Mode}
use Rattle.readings.specs.declared.reading.Reading.{Reading}
use Rattle.readings.specs.Values.{values_read}

-- a waiting unit of an agreement of so many bytes
pub record Waiting (size params values : ℕ) (unit : List ℤ) : Type 0 where
  pub sort : ltb (nat_of (get_or unit 0 (pos 0))) 20 ≡ true
  pub few_params : params ≤ 4
  pub few_values : values ≤ 16
  pub bounded : nat_of (get_or unit 1 (pos 0)) ≤ size
  pub dated : nat_of (get_or unit 2 (pos 0)) ≤ 4_294_967_296

-- a unit that joins two sides
pub record Joining (join : Join) (unit : List ℤ) : Type 0 where
  pub sort : ltb (nat_of (get_or unit 0 (pos 0))) 20 ≡ false
  pub is : join_in join ≡ join_of (nat_of (get_or unit 0 (pos 0)))

-- a unit is what its sight says
abbrev pub Seen : ℕ → Sight → List ℤ → Type 0
Seen size (Waits params values) cs = Waiting size params values cs
Seen size (Joins join left) cs = Joining join cs

unfoldable pub first_of : List cells.Reckoned → cells.Reckoned
first_of [] = cells.ended
first_of (x ∷ xs) = x

-- what becomes of the tree of n units at the front
abbrev pub tree_reckoned : Mode → List ℕ → ℕ → List Sight → List ℤ → cells.Reckoned
tree_reckoned m s n sights cs = first_of (across m s n (flat sights) cs)

-- a residue's units stand at the front, with what is in sight at each
unfoldable pub TreeOf : ℕ → Residue → List Sight → List ℤ → Type 0
TreeOf size (unit k p a e) (Waits params values ∷ sights) cs = (24 ≤ length cs)
    × Waiting size params values (take 24 cs)
TreeOf size (both j l r) (Joins join left ∷ sights) cs = (24 ≤ length cs) × Joining join (take 24 cs)
    × (left ≡ units l) × TreeOf size l sights (drop 24 cs)
    × TreeOf size r (drop left sights) (drop (24 + 24 * left) cs)
TreeOf size res sights cs = ⊥

-- a tree of n units, those that wait being of an agreement of so many bytes
pub record Tree (size : ℕ) (sights : List Sight) (cs : List ℤ) (n : ℕ) : Type 0 where
  pub residue : Residue
  pub count : n ≡ units residue
  pub few : n ≤ 128
  pub stands : TreeOf size residue sights cs

-- a unit that is what its sight says wants the reading, and opens later
abbrev pub opens_at : Reading → List ℕ → Sight → List ℤ → Bool
opens_at r s (Waits params values) cs = unit_opens_later r.time r.tag (values_read r) s values cs
opens_at r s (Joins join left) cs = false
