-- The table before a step, and the one that the step writes.
use Rattle.std.specs.Prelude.{◌≡◌, List, ℤ, Option, None, Some, Result, Ok, Err}
use denote.Bor.{Bor}

-- the first, where one is lent, or else the very one that is to be written
abbrev pub read_from : Option (Bor (List ℤ)) → List ℤ → List ℤ
read_from None us = us
read_from (Some first) us = first.now

-- what a copy of the table us would hold after a step that was taken, and left this, or was refused
abbrev pub on_copy : {A E : Type 0} → Result A E → List ℤ → List ℤ → List ℤ
on_copy (Ok a) us left = left
on_copy (Err e) us left = us

-- a refused step leaves what it was to write
abbrev pub Untouched : {A E : Type 0} → Result A E → List ℤ → List ℤ → Type 0
Untouched (Ok a) lent left = Unit {0}
Untouched (Err e) lent left = left ≡ lent
