-- Paper 01, "Refusal table", 1 to 5: "The lowest number that applies is returned."
-- Paper 02, No. 7: 15 "comes after 5 and before 6, in every entry that makes 5."
use Rattle.std.specs.Prelude.{◌≡◌, true, false, List, [], ℕ}
use Rattle.std.proofs.Math.Option.{none, some}
use Rattle.csl.specs.Parties.{bits_of}
use Rattle.csl.specs.Syntax.{Agreement}
use Rattle.csl.specs.Decode.{decode, length_ok, agreement_of}
use Rattle.csl.specs.Typing.{typed}
use Rattle.csl.specs.Guards.{guarded_from}
use Rattle.csl.specs.Widths.{narrow_all}
use Rattle.csl.specs.Sizes.{fits}

-- a refusal's number, or the agreement and its main clause's parties
pub data CheckResult : Type 0 where
  refused : ℕ → CheckResult
  accepted : Agreement → List ℕ → CheckResult

unfoldable pub check_narrow : Agreement → List ℕ → CheckResult
check_narrow a ps = elim (fits a) [ false ↦ refused 15 | true ↦ accepted a ps ]

unfoldable pub check_typed : Agreement → List ℕ → CheckResult
check_typed a ps = elim (guarded_from 0 a.templates) [
  | false ↦ refused 4
  | true ↦ elim (narrow_all a) [ false ↦ refused 5 | true ↦ check_narrow a ps ]
]

unfoldable pub check_decoded : Agreement → CheckResult
check_decoded a = elim (typed a) [ none ↦ refused 3 | some ps ↦ check_typed a ps ]

unfoldable pub checked : List ℕ → CheckResult
checked bytes = elim (length_ok bytes) [
  | false ↦ refused 1
  | true ↦ elim (decode bytes) [ none ↦ refused 2 | some a ↦ check_decoded a ]
]

-- ---- what check established of the bytes
unfoldable pub mains_in : CheckResult → List ℕ
mains_in (refused n) = []
mains_in (accepted a ps) = ps

-- the main clause's parties
unfoldable pub mains_of : List ℕ → List ℕ
mains_of s = mains_in (checked s)

pub record Accepted (s : List ℕ) : Type 0 where
  pub is : checked s ≡ accepted (agreement_of s) (mains_of s)

-- ---- the entry: "check also returns the main clause's parties"
pub record CheckAnswer : Type 0 where
  pub number : ℕ
  pub parties : ℕ

unfoldable pub answer_for : CheckResult → CheckAnswer
answer_for (refused n) = record { number = n; parties = 0 }
answer_for (accepted a ps) = record { number = 0; parties = bits_of ps }

unfoldable pub check_of : List ℕ → CheckAnswer
check_of bytes = answer_for (checked bytes)

-- what a proof by computation unfolds
unfoldable pub computes : Unit {0}
unfolding check_narrow check_typed check_decoded checked mains_in mains_of answer_for check_of
computes = tt
