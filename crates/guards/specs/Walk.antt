-- What a walk over the bytes of a clause is told and answers: neither speaks of the clause's place or of the
-- templates' heads, which the bytes do not show.
use Rattle.std.specs.Prelude.{◌≡◌, true, cond, List, ℕ, min, get_or, Option, Some, None}
use Rattle.csl.specs.Syntax.{Head, Clause}
use Rattle.csl.specs.Decode.{whole, clause, heads_of, body_of}
use Rattle.csl.specs.Widths.{width, all_narrow}
use Rattle.records.specs.Index.{template_piece}

-- s is a whole clause, at most d deep
pub record Formed (d : ℕ) (s : List ℕ) : Type 0 where
  pub heads : List Head
  pub place : ℕ
  pub formed : whole (clause heads d place s) ≡ true

-- r is f of the clause that s is
pub record Answers {A : Type 0} (f : Clause → A) (d : ℕ) (s : List ℕ) (r : A) : Type 0 where
  pub is : (hs : List Head) (p : ℕ) → whole (clause hs d p s) ≡ true → r ≡ f (clause hs d p s)

-- ---- template k's body
unfoldable pub body_at : List ℕ → ℕ → Clause
body_at s k = body_of (heads_of s) (template_piece s k)

-- ---- a width above 256 counts as 257
unfoldable pub counted : List ℕ → Clause → ℕ
counted ws c = min (width ws c) 257

-- ---- the width of a clause that is narrow, as each `then` within is
unfoldable pub narrow_width : List ℕ → Clause → Option ℕ
narrow_width ws c = cond (all_narrow ws c) (Some (width ws c)) None

-- ys are the widths ws, so counted; where there is none it is 0
pub record AsWide (ws ys : List ℕ) : Type 0 where
  pub wide : (k : ℕ) → min (get_or ws k 0) 257 ≡ min (get_or ys k 0) 257
