-- Paper 02, No. 2: the forecast of a residue, on cells: what its units come to if only time goes on.
use Rattle.std.specs.Prelude.{List, ℕ, ◌+◌, ◌*◌, ℤ, take, drop}
use Rattle.csl.specs.Outcomes.{Residue, unit, both, units}
use Rattle.cells.specs.Reduce.{Reduced, forecasting, joined}
use Rattle.cells.specs.Across.{unit_reckoned}

-- of a waiting unit: "an obligation gives its breach at the later of A and last; a choice gives what its else,
-- activated at that time, gives". All cells of parameters and of values are lent: those that are not in sight hold
-- zeros, and a name that is not in sight reads as zero
unfoldable pub unit_ahead : List ℕ → List ℤ → Reduced
unit_ahead s cs = (unit_reckoned forecasting s 4 16 cs).outcome

-- of the units of a residue, which stand at the front of cells: "An `and` or `or` unit is followed by all of its left
-- side, then all of its right"
unfoldable pub ahead : List ℕ → Residue → List ℤ → Reduced
ahead s (unit k p a e) cs = unit_ahead s (take 24 cs)
ahead s (both j l r) cs = joined j (ahead s l (drop 24 cs)) (ahead s r (drop (24 + 24 * units l) cs))
