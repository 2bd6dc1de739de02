-- Typing of clauses as the code has it. proofs/Clauses.antt has it that the rules below are csl's.
use Rattle.std.specs.Prelude.{◌≡◌, Bool, true, false, cond, ◌&&◌, List, [], ◌∷◌, ◌++◌, map, ℕ, ◌+◌, ◌-◌, ◌≤◌, ◌<◌}
use Rattle.std.specs.Prelude.{eqb, leb, ltb, length, Some, None}
use Rattle.std.specs.Prelude as prelude
use Rattle.std.proofs.Math.Option.{Option, none, some}
use Rattle.arrayvec.specs.ArrayVec.{ArrayVec}
use Rattle.std.specs.Int.Bits.{bit_or}
use Rattle.std.specs.Int.Count.{ones}
use Rattle.csl.specs.Lists.{◌>>=◌, need, all, at}
use Rattle.csl.specs.Bytes.{byte, part, record_end}
use Rattle.csl.specs.Syntax.{Ty, number, truth, Expr, Wait, Head, Clause}
use Rattle.csl.specs.Decode.{expr, tys_of, wait_at, arguments, records_end, instance_of, pieces, heads_of, body_of}
use Rattle.csl.specs.Decode.{template_of, agreement_of, clause}
use Rattle.csl.specs.Typing.{Names, blame_ok, type_expr, has_type, have_types, reading_of_type, then_sight, type_wait}
use Rattle.csl.specs.Typing.{type_clause, type_template, type_templates, names_of}
use Rattle.records.specs.Index.{template_place, template_piece, head_at}
use Rattle.parties.specs.Masks.{mask_of, may_blame}
use Rattle.kinds.specs.declared.«Type».{«Type»}
use Rattle.typing.specs.Types.{ty_as, type_as, same_type}

-- what a clause may name in an agreement's bytes, with so many party parameters
abbrev pub names_in : List ℕ → ℕ → Names
names_in g m = names_of (agreement_of g) m

-- ---- the types in sight
unfoldable pub seen_as : prelude.Option (ArrayVec ℕ) → Option (List Ty)
seen_as None = none
seen_as (Some v) = some (tys_of v.items)

-- bs, vs and a number behind them, where they are at most 16
pub record JoinedSight (bs vs : List ℕ) (r : prelude.Option (ArrayVec ℕ)) : Type 0 where
  pub many : 16 ≤ length bs + length vs → r ≡ None
  pub few : length bs + length vs + 1 ≤ 16 → r ≡ Some (record { items = (bs ++ vs) ++ (1 ∷ []) })

-- what `then` sees of a reading of type k
unfoldable pub then_of : List (List Ty) → List Ty → ℕ → Option (List Ty)
then_of rs env k = reading_of_type rs k >>= λ vs. need (leb (length (then_sight env vs)) 16) >>= λ _. some
    (then_sight env vs)

-- the same of the agreement's readings, the type bytes being in sight
abbrev pub then_in : List ℕ → List ℕ → ℕ → Option (List Ty)
then_in g types k = then_of (agreement_of g).readings (tys_of types) k

-- ---- a wait
-- o is that type
unfoldable pub has : prelude.Option «Type» → «Type» → Bool
has None t = false
has (Some u) t = same_type u t

unfoldable pub is_typed : ℕ → List Ty → Expr → Ty → Bool
is_typed ps env e t = has (type_as (type_expr ps env e)) (ty_as t)

unfoldable pub wait_typed : ℕ → List Ty → List Ty → Wait → Bool
wait_typed ps inner env w = is_typed ps inner w.condition truth && is_typed ps env w.after number
    && is_typed ps env w.within number

-- what `then` sees
unfoldable pub wait_sight : Names → List Ty → Wait → Option (List Ty)
wait_sight n env w = type_wait n env w >>= λ vs. some (then_sight env vs)

-- of the wait in the record s, the wanted reading type standing at i
abbrev pub wait_in : List ℕ → List ℕ → ℕ → List ℕ → ℕ → Option (List Ty)
wait_in g types d s i = wait_sight (names_in g 0) (tys_of types) (wait_at (expr d) 0 s i)

-- what the first clause part of a clause of kind 17 to 21 sees, where what stands before it is typed
unfoldable pub first_sight : Names → List Ty → (List ℕ → Expr) → ℕ → List ℕ → Option (List Ty)
first_sight n env e k s =
    cond (eqb k 17) (need (blame_ok n (byte s 4)) >>= λ _. wait_sight n env (wait_at e 0 s 5))
    (cond (eqb k 18) (wait_sight n env (wait_at e 0 s 4))
    (cond (eqb k 19) (has_type n.parties env (e (part s 4 (record_end s 4))) truth >>= λ _. some env)
    (some env)))

-- ---- parties by bit
unfoldable pub typed_as : Option (List ℕ) → prelude.Option ℕ
typed_as none = None
typed_as (some ps) = Some (mask_of ps)

-- the parties of a clause, the type bytes being in sight
abbrev pub typed_in : List ℕ → ℕ → List ℕ → Clause → Option (List ℕ)
typed_in g params types c = type_clause (names_in g params) (tys_of types) c

abbrev pub fulfilled_as : ℕ → prelude.Option ℕ
fulfilled_as n = cond (eqb n 4) (Some 0) None

abbrev pub sides_as : ℕ → ℕ → ℕ → prelude.Option ℕ
sides_as k a b = cond (eqb k 21 && ltb 1 (ones (bit_or a b))) None (Some (bit_or a b))

-- ---- instances: where the arguments end, none where they are not typed
unfoldable pub arguments_as : Option (Unit {0}) → ℕ → prelude.Option ℕ
arguments_as none i = None
arguments_as (some _) i = Some i

abbrev pub arguments_of : Head → ℕ → List Ty → (List ℕ → Expr) → List ℕ → prelude.Option ℕ
arguments_of h ps env e s =
    let n = length h.values in
    arguments_as (have_types ps env (arguments e n s 5) h.values) (records_end n s 5)

-- of so many arguments from i on as there are bytes of value types
abbrev pub arguments_in : ℕ → List ℕ → List ℕ → ℕ → List ℕ → ℕ → prelude.Option ℕ
arguments_in ps types values d s i =
    let n = length values in
    arguments_as (have_types ps (tys_of types) (arguments (expr d) n s i) (tys_of values)) (records_end n s i)

-- the clause that a record is, d depths being left
abbrev pub clause_of : List ℕ → ℕ → List ℕ → Clause
clause_of g d s = clause (heads_of g) d 0 s

-- the clause that an instance is
abbrev pub instance_in : List ℕ → ℕ → List ℕ → Clause
instance_in g d s = instance_of (expr d) s (at (heads_of g) (byte s 4))

unfoldable pub blames_of : ℕ → ℕ → List ℕ → Option (List ℕ)
blames_of ps params bs = need (all (may_blame ps params) bs) >>= λ _. some bs

-- ---- templates
unfoldable pub holds : Option (Unit {0}) → Bool
holds none = false
holds (some _) = true

-- the parties of template k's body
abbrev pub typed_body : List ℕ → ℕ → Option (List ℕ)
typed_body s k = type_clause (names_in s (head_at s k).params) (head_at s k).values
    (body_of (heads_of s) (template_piece s k))

abbrev pub template_typed : List ℕ → ℕ → Option (Unit {0})
template_typed s k = type_template (byte s 8) (agreement_of s).readings (heads_of s)
    (template_of (heads_of s) (template_piece s k))

-- the templates from k on
abbrev pub templates_typed : List ℕ → ℕ → Option (Unit {0})
templates_typed s k = type_templates (byte s 8) (agreement_of s).readings (heads_of s)
    (map (template_of (heads_of s)) (pieces (byte s 10 - k) s (template_place s k)))
