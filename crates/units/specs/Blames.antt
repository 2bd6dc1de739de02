-- The parties that a clause blames.
use Rattle.std.specs.Prelude.{◌≡◌, List, [], ◌∷◌, ◌++◌, ℕ, ◌<◌, T}
use Rattle.std.proofs.Math.Option.{Option, none, some}
use Rattle.csl.specs.Lists.{at}
use Rattle.csl.specs.Parties.{bits_of}
use Rattle.csl.specs.Syntax.{Clause, fulfilled, obligation, choice, if, join, instance, bad_clause, Head}
use Rattle.csl.specs.Decode.{whole, heads_of}
use Rattle.csl.specs.Table.{stand_for}
use Rattle.places.specs.Locate.{clause_in}

unfoldable pub declared_by : Option Head → List ℕ
declared_by none = []
declared_by (some h) = h.declared

-- its blame bytes and the declared parties of its instances: typeClause's answer, where it has one
unfoldable pub blames_of : List Head → Clause → List ℕ
blames_of hs fulfilled = []
blames_of hs (obligation b w t) = b ∷ blames_of hs t
blames_of hs (choice w t f) = blames_of hs t ++ blames_of hs f
blames_of hs (if e t f) = blames_of hs t ++ blames_of hs f
blames_of hs (join j t f) = blames_of hs t ++ blames_of hs f
blames_of hs (instance k es bs) = declared_by (at hs k) ++ bs
blames_of hs bad_clause = []

-- ---- the bytes s are a whole clause, at some depth
pub record WholeIn (a s : List ℕ) : Type 0 where
  pub depth : ℕ
  pub place : ℕ
  pub is : T (whole (clause_in a depth place s))

-- r has the bits of the parties that its blames stand for, wherever it stands and at each depth
pub record PartiesAre (a s params : List ℕ) (r : ℕ) : Type 0 where
  pub small : r < 65_536
  pub each : (d p : ℕ) → T (whole (clause_in a d p s))
      → r ≡ bits_of (stand_for params (blames_of (heads_of a) (clause_in a d p s)))
