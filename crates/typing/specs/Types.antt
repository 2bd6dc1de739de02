-- Types as the code has them, none where there is no type. proofs/Exprs.antt has it that the rules below are csl's.
use Rattle.std.specs.Prelude.{Bool, ◌&&◌, cond, List, ℕ, eqb, leb, ltb, length, Option, Some, None}
use Rattle.std.proofs.Math.Option as math
use Rattle.std.proofs.Math.Option.{none, some}
use Rattle.csl.specs.Lists.{at}
use Rattle.csl.specs.Numbers.{in_range}
use Rattle.csl.specs.Bytes.{byte, signed32, is_record, kind_number}
use Rattle.csl.specs.Syntax.{Ty, number, truth, party}
use Rattle.csl.specs.Decode.{tys_of}
use Rattle.csl.specs.Typing.{same_ty}
use Rattle.kinds.specs.declared.«Type».{«Type»}
use Rattle.kinds.specs.declared.«Type».TheVariants.{Number, Truth, Party}
use Rattle.kinds.specs.Kinds.{ty_in}

unfoldable pub ty_as : Ty → «Type»
ty_as number = Number
ty_as truth = Truth
ty_as party = Party

unfoldable pub type_as : math.Option Ty → Option «Type»
type_as none = None
type_as (some t) = Some (ty_as t)

-- the type of the value in sight at i
abbrev pub sight_type : List ℕ → ℕ → Option «Type»
sight_type bs i = type_as (at (tys_of bs) i)

-- a record's kind, none where it is no record or too deep
unfoldable pub record_kind : ℕ → List ℕ → Option ℕ
record_kind d s = cond (ltb 0 d && is_record s) (Some (kind_number s)) None

-- kinds 32 to 35: ps is the party count, bs the types in sight
abbrev pub literal_type : ℕ → List ℕ → Bool → «Type» → Option «Type»
literal_type n s b t = cond (eqb (length s) n && b) (Some t) None

unfoldable pub leaf_type : ℕ → List ℕ → ℕ → List ℕ → Option «Type»
leaf_type ps bs k s =
    cond (eqb k 32) (literal_type 8 s (in_range (signed32 s 4)) Number)
    (cond (eqb k 33) (literal_type 5 s (leb (byte s 4) 1) Truth)
    (cond (eqb k 34) (literal_type 5 s (ltb (byte s 4) ps) Party)
    (cond (eqb (length s) 5) (sight_type bs (byte s 4)) None)))

abbrev pub same_type : «Type» → «Type» → Bool
same_type t u = same_ty (ty_in t) (ty_in u)

abbrev pub not_type : «Type» → Option «Type»
not_type t = cond (same_type t Truth) (Some Truth) None

-- kinds 37 to 43: the operands' type, given the left operand's, and the result's
abbrev pub operand_type : ℕ → «Type» → «Type»
operand_type k a = cond (eqb k 41) Truth (cond (eqb k 42) Number (cond (eqb k 43) a Number))

abbrev pub result_type : ℕ → «Type»
result_type k = cond (eqb k 41) Truth (cond (eqb k 42) Truth (cond (eqb k 43) Truth Number))

abbrev pub operation_type : ℕ → «Type» → «Type» → Option «Type»
operation_type k a b = cond (same_type a (operand_type k a) && same_type b (operand_type k a))
    (Some (result_type k)) None
