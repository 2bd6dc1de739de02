-- Paper 01, "Typing", and refusal 4; CSL's well-formedness (section 3.3).
-- "A position is guarded if it lies in some `then` of kind 17 or 18. In template n's body an unguarded
-- instance names only a template below n."
use Rattle.std.specs.Prelude.{Bool, true, ◌&&◌, List, [], ◌∷◌, ℕ, suc, ltb}
use Rattle.csl.specs.Syntax.{Clause, fulfilled, obligation, choice, if, join, instance, bad_clause, Template}

unfoldable pub guarded_in : ℕ → Clause → Bool
guarded_in n fulfilled = true
guarded_in n (obligation b w t) = true
guarded_in n (choice w t f) = guarded_in n f
guarded_in n (if e t f) = guarded_in n t && guarded_in n f
guarded_in n (join j t f) = guarded_in n t && guarded_in n f
guarded_in n (instance k es bs) = ltb k n
guarded_in n bad_clause = true

-- the templates from number n on; refusal 4 where this is false
unfoldable pub guarded_from : ℕ → List Template → Bool
guarded_from n [] = true
guarded_from n (t ∷ ts) = guarded_in n t.body && guarded_from (suc n) ts

-- what a proof by computation unfolds
unfoldable pub computes : Unit {0}
unfolding guarded_in guarded_from
computes = tt
