-- The types that bytes stand for, one for each byte.
use mathlib.Core.List.{List, [], ◌∷◌, ◌++◌}
use mathlib.Core.Path.{◌≡◌, refl, ap}
use Prim.Native.Nat.{ℕ}
use lib.ListN.{length, length-map}
use Rattle.csl.specs.Decode.{ty_of, tys_of}
use Rattle.csl.specs.Syntax.{Ty}

pub types_append : (bs cs : List ℕ) → tys_of (bs ++ cs) ≡ tys_of bs ++ tys_of cs
unfolding tys_of
types_append [] cs = refl
types_append (b ∷ bs) cs = ap (λ (ts : List Ty). ty_of b ∷ ts) (types_append bs cs)

pub types_length : (bs : List ℕ) → length (tys_of bs) ≡ length bs
unfolding tys_of
types_length bs = length-map bs ty_of
