-- Numbers in decimal, words, and a line of fields, as bytes (ASCII).
use Rattle.std.specs.Prelude.{true, false, List, [], ◌∷◌, ◌++◌, ℕ, zero, suc, ◌+◌, ◌/◌, ◌%◌, ltb}

abbrev pub newline : ℕ
newline = 10

abbrev pub space : ℕ
space = 32

-- the character of a digit: `0` is 48
abbrev pub digit : ℕ → ℕ
digit d = 48 + d

-- the digits of n, the last one behind those of the tenth part; `steps` only bounds how often
unfoldable pub digits_in : ℕ → ℕ → List ℕ
digits_in zero n = []
digits_in (suc steps) n = elim (ltb n 10) [
  | true ↦ digit n ∷ []
  | false ↦ digits_in steps (n / 10) ++ (digit (n % 10) ∷ [])
]

-- n in decimal: more than n steps are never needed
unfoldable pub decimal : ℕ → List ℕ
decimal n = digits_in (suc n) n

-- no 64-bit number has more digits
abbrev pub digits_room : ℕ
digits_room = 20

-- ---- the words of paper 01, "Pond trials"
abbrev pub live : List ℕ
live = 76 ∷ 73 ∷ 86 ∷ 69 ∷ []

abbrev pub done : List ℕ
done = 68 ∷ 79 ∷ 78 ∷ 69 ∷ []

abbrev pub breach : List ℕ
breach = 66 ∷ 82 ∷ 69 ∷ 65 ∷ 67 ∷ 72 ∷ []

abbrev pub refused : List ℕ
refused = 82 ∷ 69 ∷ 70 ∷ 85 ∷ 83 ∷ 69 ∷ 68 ∷ []

abbrev pub none : List ℕ
none = 78 ∷ 79 ∷ 78 ∷ 69 ∷ []

-- "print `-` as time"
abbrev pub dash : List ℕ
dash = 45 ∷ []

-- ---- each field behind a space, and the line's end
unfoldable pub fields : List (List ℕ) → List ℕ
fields [] = newline ∷ []
fields (f ∷ fs) = space ∷ (f ++ fields fs)

-- "line number (0 is the start)", and the other fields
unfoldable pub line : ℕ → List (List ℕ) → List ℕ
line n fs = decimal n ++ fields fs

-- what a proof by computation unfolds
unfoldable pub computes : Unit {0}
unfolding digits_in decimal fields line
computes = tt
