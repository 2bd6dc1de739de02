-- What the search for a clause at a byte place answers.
use Rattle.std.specs.Prelude.{◌≡◌, List, ℕ, ◌+◌, ◌-◌, ◌^◌, ◌≤◌, ◌<◌, T, length, Option as Maybe, Some, None}
use Rattle.std.proofs.Math.Option.{Option, none, some}
use Rattle.csl.specs.Bytes.{part}
use Rattle.csl.specs.Lists.{or_nil}
use Rattle.csl.specs.Syntax.{Ty, Clause}
use Rattle.csl.specs.Decode.{tys_of, clause, heads_of, body_of, agreement_of}
use Rattle.csl.specs.Typing.{names_of, type_clause, reading_of_type, then_sight}
use Rattle.csl.specs.Places.{Found, find}
use Rattle.csl.specs.Table.{is_sort}
use Rattle.kinds.specs.Kinds.{sort_in}
use Rattle.kinds.specs.declared.WaitKind.{WaitKind}
use Rattle.records.specs.Index.{template_place, piece_at, head_at}
use Rattle.places.specs.declared.Located.{Located}
use Rattle.places.specs.Sight.{types_in}
use Rattle.places.specs.declared.Step.{Step}
use Rattle.places.specs.declared.Step.TheVariants.{Here, Into}

-- o is what was found: how it waits, n party parameters, and the types in sight
pub record FoundAt (o : Option Found) (types : List ℕ) (wait : WaitKind) (n : ℕ) : Type 0 where
  pub found : Found
  pub is : o ≡ some found
  pub params : found.params ≡ n
  pub sight : found.sight ≡ tys_of types
  pub sorted : T (is_sort (sort_in wait) found.clause)

unfoldable pub Locates : Option Found → Maybe Located → Type 0
Locates o None = o ≡ none
Locates o (Some l) = FoundAt o (types_in l.sight) l.wait l.params

-- ---- the clause that the bytes s at a place say, d depths being left
abbrev pub clause_in : List ℕ → ℕ → ℕ → List ℕ → Clause
clause_in a d p s = clause (heads_of a) d p s

abbrev pub find_at : List ℕ → ℕ → ℕ → Clause → List Ty → Option Found
find_at a n place c env = find (agreement_of a).readings n place c env

-- it is typed, under some number of party parameters
pub record TypedAt (a : List ℕ) (d p : ℕ) (s : List ℕ) (env : List Ty) : Type 0 where
  pub params : ℕ
  pub parties : List ℕ
  pub typed : type_clause (names_of (agreement_of a) params) env (clause_in a d p s) ≡ some parties

-- at some depth
pub record Typed (a : List ℕ) (p : ℕ) (s : List ℕ) (env : List Ty) : Type 0 where
  pub depth : ℕ
  pub at : TypedAt a depth p s env

-- `then` of a reading wanted under env sees at most 16
pub record Sees (a : List ℕ) (env : List Ty) (wanted : ℕ) : Type 0 where
  pub values : List Ty
  pub is : reading_of_type (agreement_of a).readings wanted ≡ some values
  pub few : length (then_sight env values) ≤ 16

-- `then` sees no more behind the type bytes
pub record SeesIn (a types : List ℕ) (wanted : ℕ) : Type 0 where
  pub sees : Sees a (tys_of types) wanted

-- what it sees
abbrev pub seen_in : List ℕ → List ℕ → ℕ → List Ty
seen_in a types wanted = then_sight (tys_of types) (or_nil (reading_of_type (agreement_of a).readings wanted))

-- s is a clause of the agreement that stands at p, typed under the type bytes
pub record Stands (a : List ℕ) (p : ℕ) (s types : List ℕ) : Type 0 where
  pub typed : Typed a p s (tys_of types)
  pub fits : p + length s < 2 ^ 64

-- ---- one step down: not in this clause, this clause, or only in the clause from x up to e, with the types `out` in
-- sight there
pub record GoesInto (a : List ℕ) (d p : ℕ) (s : List ℕ) (place : ℕ) (env : List Ty) (out : List ℕ) (x e : ℕ) : Type
    0 where
  pub from : 4 ≤ x
  pub ordered : x ≤ e
  pub inside : e ≤ length s
  pub typed : TypedAt a (d - 1) (p + x) (part s x e) (tys_of out)
  pub same : (n : ℕ) → find_at a n place (clause_in a d p s) env ≡ find_at a n place
      (clause_in a (d - 1) (p + x) (part s x e)) (tys_of out)

pub record IsHere (a : List ℕ) (d p : ℕ) (s : List ℕ) (place : ℕ) (env : List Ty) (wait : WaitKind) : Type 0 where
  pub is : (n : ℕ) → find_at a n place (clause_in a d p s) env ≡ some (record {
    clause = clause_in a d p s;
    sight = env;
    params = n;
  })
  pub sorted : T (is_sort (sort_in wait) (clause_in a d p s))

unfoldable pub StepAt : List ℕ → ℕ → ℕ → List ℕ → ℕ → List ℕ → List ℕ → Maybe Step → Type 0
StepAt a d p s place types out None = (n : ℕ) → find_at a n place (clause_in a d p s) (tys_of types) ≡ none
StepAt a d p s place types out (Some (Here w)) = IsHere a d p s place (tys_of types) w × (out ≡ types)
StepAt a d p s place types out (Some (Into x e)) = GoesInto a d p s place (tys_of types) out x e

-- at each depth at which the clause is typed
pub record StepIs (a : List ℕ) (p : ℕ) (s : List ℕ) (place : ℕ) (types out : List ℕ) (r : Maybe Step) : Type 0 where
  pub each : (d : ℕ) → TypedAt a d p s (tys_of types) → StepAt a d p s place types out r

-- what is found under n party parameters, the types `out` being in sight there
unfoldable pub Finds : Option Found → List ℕ → ℕ → Maybe WaitKind → Type 0
Finds o out n None = o ≡ none
Finds o out n (Some w) = FoundAt o out w n

pub record DescentIs (a : List ℕ) (p : ℕ) (s : List ℕ) (place : ℕ) (types out : List ℕ) (r : Maybe WaitKind) : Type
    0 where
  pub each : (d : ℕ) → TypedAt a d p s (tys_of types) → (n : ℕ)
      → Finds (find_at a n place (clause_in a d p s) (tys_of types)) out n r

-- what is found in the body of template k
unfoldable pub in_template : List ℕ → ℕ → ℕ → Option Found
in_template a k place = find_at a (head_at a k).params place
    (body_of (heads_of a) (record { place = template_place a k; bytes = piece_at a (template_place a k) }))
    (head_at a k).values
