-- What a waiting unit's cells show.
use Rattle.std.specs.Prelude.{◌≡◌, true, List, [], ◌∷◌, ℕ, ◌+◌, ◌-◌, ◌<◌, ℤ, length, take, drop}
use Rattle.std.specs.Prelude.{Option as Maybe, Some, None}
use Rattle.std.proofs.Math.Option.{Option, none, some}
use Rattle.csl.specs.Lists.{◌>>=◌, all}
use Rattle.csl.specs.Parties.{member, bits_of, subset}
use Rattle.csl.specs.Syntax.{Ty}
use Rattle.csl.specs.Bytes.{byte, part, record_end}
use Rattle.csl.specs.Decode.{tys_of, heads_of, agreement_of}
use Rattle.csl.specs.Outcomes.{Sort, Residue, units}
use Rattle.csl.specs.Places.{Found, clause_at}
use Rattle.csl.specs.Table.{is_zero, waiting_unit, stand_for, residue_parties}
use Rattle.records.specs.TypedValues.{values_ok}
use Rattle.places.specs.Locate.{clause_in}
use Rattle.csl.specs.Check.{mains_of}
use Rattle.units.specs.Blames.{blames_of}
use Rattle.units.specs.Cells.{parties_in}
use Rattle.arrayvec.specs.ArrayVec.{ArrayVec}
use Rattle.cells.specs.Sights.{sights_in}
use Rattle.cells.specs.declared.Sight.{Sight}
use Rattle.cells.specs.declared.Sight.TheVariants.{Waits}
use Rattle.units.specs.declared.Waiting.{Waiting}

-- the cells from a up to e: what `&cells[a..e]` is
abbrev pub cells_in : List ℤ → ℕ → ℕ → List ℤ
cells_in zs a e = take (e - a) (drop a zs)

-- ---- the cells behind a unit's kind, given how many party parameters there are and the types in sight
pub record CellsShow (parties n : ℕ) (ts : List Ty) (zs : List ℤ) (params : List ℕ) : Type 0 where
  pub are_params : parties_in parties (cells_in zs 2 (2 + n)) ≡ some params
  pub no_params : all is_zero (cells_in zs (2 + n) 7) ≡ true
  pub are_values : values_ok parties ts (cells_in zs 7 23) ≡ true
  pub no_values : all is_zero (cells_in zs (7 + length ts) 23) ≡ true

-- what was read of them: the party parameters
unfoldable pub CellsRead : ℕ → ℕ → List Ty → List ℤ → Maybe (ArrayVec ℕ) → Type 0
CellsRead parties n ts zs None = (params : List ℕ) → CellsShow parties n ts zs params → ⊥
CellsRead parties n ts zs (Some own) = CellsShow parties n ts zs own.items

-- the blames of the clause recorded at a place
abbrev pub recorded : List ℕ → ℕ → List ℕ
recorded a place = blames_of (heads_of a) (clause_in a 23 place (part a place (record_end a place)))

-- and the unit's parties, those of the clause at its place, are among the main clause's
pub record UnitHas (a : List ℕ) (place n : ℕ) (ts : List Ty) (zs : List ℤ) (params : List ℕ) : Type 0 where
  pub cells : CellsShow (byte a 8) n ts zs params
  pub among : subset (stand_for params (recorded a place)) (mains_of a) ≡ true

-- by what was found there, n party parameters and the type bytes in sight
pub record FoundThere (a : List ℕ) (place n : ℕ) (types : List ℕ) : Type 0 where
  pub found : Found
  pub is : clause_at (agreement_of a) place ≡ some found
  pub params : found.params ≡ n
  pub sight : found.sight ≡ tys_of types

pub record HasBits (a : List ℕ) (place n : ℕ) (types : List ℕ) (zs : List ℤ) (sight : Sight) (bits : ℕ) : Type 0 where
  pub params : List ℕ
  pub has : UnitHas a place n (tys_of types) zs params
  pub counts : sight ≡ Waits n (length types)
  pub same : bits ≡ bits_of (stand_for params (recorded a place))

unfoldable pub LocatedIs : List ℕ → ℕ → ℕ → List ℕ → List ℤ → Maybe Waiting → Type 0
LocatedIs a place n types zs None = (params : List ℕ) → UnitHas a place n (tys_of types) zs params → ⊥
LocatedIs a place n types zs (Some w) = HasBits a place n types zs w.sight w.parties

-- a residue's parties, at the last reading time, by bit
pub record PartiesOf (a : List ℕ) (now : ℕ) (r : Residue) (bits : ℕ) : Type 0 where
  pub parties : List ℕ
  pub are : residue_parties (agreement_of a) (mains_of a) now r ≡ some parties
  pub small : (q : ℕ) → member q parties ≡ true → q < 16
  pub same : bits ≡ bits_of parties

-- o is what was read of a unit: what is in sight there, and its parties by bit
pub record UnitShows (a : List ℕ) (now : ℕ) (o : Option Residue) (sight : Sight) (bits : ℕ) : Type 0 where
  pub residue : Residue
  pub is : o ≡ some residue
  pub one : units residue ≡ 1
  pub sights : sights_in residue ≡ sight ∷ []
  pub parties : PartiesOf a now residue bits

unfoldable pub WaitingIs : List ℕ → ℕ → Sort → List ℤ → Maybe Waiting → Type 0
WaitingIs a now s zs None =
    (waiting_unit (agreement_of a) s zs >>= residue_parties (agreement_of a) (mains_of a) now) ≡ none
WaitingIs a now s zs (Some w) = UnitShows a now (waiting_unit (agreement_of a) s zs) w.sight w.parties
