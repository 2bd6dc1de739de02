-- What is tested of a clause's records and of an agreement's bodies.
use Rattle.std.specs.Prelude.{Bool, true, cond, ◌&&◌, List, ℕ, ◌+◌, eqb, length}
use Rattle.csl.specs.Lists.{all}
use Rattle.csl.specs.Bytes.{part, record_end}
use Rattle.csl.specs.Syntax.{Expr}
use Rattle.csl.specs.Decode.{expr, wait_at, records_end, arguments, whole_wait, whole_expr, whole, heads_of}
use Rattle.csl.specs.Decode.{template_pieces, body_of}

-- what stands before the first clause part of a clause of kind k, 17 to 21: a wait, a condition, or nothing; `e` reads
-- the records
unfoldable pub tests_whole : (List ℕ → Expr) → ℕ → List ℕ → Bool
tests_whole e k s = cond (eqb k 17) (whole_wait (wait_at e 0 s 5))
    (cond (eqb k 18) (whole_wait (wait_at e 0 s 4)) (cond (eqb k 19) (whole_expr (e (part s 4 (record_end s 4)))) true))

-- n arguments from i on, d depths being left, and m blame bytes behind them to the end
abbrev pub arguments_whole : ℕ → List ℕ → ℕ → ℕ → ℕ → Bool
arguments_whole d s i n m = all whole_expr (arguments (expr d) n s i) && eqb (records_end n s i + m) (length s)

-- the body of each template
abbrev pub bodies_whole : List ℕ → Bool
bodies_whole s = all (λ q. whole (body_of (heads_of s) q)) (template_pieces s)
