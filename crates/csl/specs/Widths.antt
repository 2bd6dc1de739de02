-- Paper 01, "Typing", and refusal 5.
-- "Width: 1 for kinds 16 and 17; 1 and the else's for 18; 1 and both clauses' for 19, 20, 21; 1 and the body's for 22.
-- The main clause, each template body and each `then` has width at most 256."
use Rattle.std.specs.Prelude.{Bool, true, ◌&&◌, List, [], ◌∷◌, ◌++◌, ℕ, ◌+◌, leb}
use Rattle.std.proofs.Math.Option.{Option, none, some}
use Rattle.csl.specs.Lists.{all, at}
use Rattle.csl.specs.Syntax.{Clause, fulfilled, obligation, choice, if, join, instance, bad_clause, Template}
use Rattle.csl.specs.Syntax.{Agreement}

unfoldable pub or_zero : Option ℕ → ℕ
or_zero none = 0
or_zero (some n) = n

-- given the widths of the templates' bodies
unfoldable pub width : List ℕ → Clause → ℕ
width ws fulfilled = 1
width ws (obligation b w t) = 1
width ws (choice w t f) = 1 + width ws f
width ws (if e t f) = 1 + width ws t + width ws f
width ws (join j t f) = 1 + width ws t + width ws f
width ws (instance k es bs) = 1 + or_zero (at ws k)
width ws bad_clause = 1

-- template n's width by those below n: no other is named unguarded
unfoldable pub widths_from : List ℕ → List Template → List ℕ
widths_from ws [] = ws
widths_from ws (t ∷ ts) = widths_from (ws ++ (width ws t.body ∷ [])) ts

unfoldable pub narrow : List ℕ → Clause → Bool
narrow ws c = leb (width ws c) 256

unfoldable pub thens_narrow : List ℕ → Clause → Bool
thens_narrow ws fulfilled = true
thens_narrow ws (obligation b w t) = narrow ws t && thens_narrow ws t
thens_narrow ws (choice w t f) = narrow ws t && thens_narrow ws t && thens_narrow ws f
thens_narrow ws (if e t f) = thens_narrow ws t && thens_narrow ws f
thens_narrow ws (join j t f) = thens_narrow ws t && thens_narrow ws f
thens_narrow ws (instance k es bs) = true
thens_narrow ws bad_clause = true

unfoldable pub all_narrow : List ℕ → Clause → Bool
all_narrow ws c = narrow ws c && thens_narrow ws c

-- refusal 5 where this is false
unfoldable pub narrow_all : Agreement → Bool
narrow_all a =
    let ws = widths_from [] a.templates in
    all_narrow ws a.main && all (λ t. all_narrow ws t.body) a.templates

-- what a proof by computation unfolds
unfoldable pub computes : Unit {0}
unfolding or_zero width widths_from narrow thens_narrow all_narrow narrow_all
computes = tt
