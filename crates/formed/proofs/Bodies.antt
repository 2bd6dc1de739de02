-- Whether the main clause of an agreement and the bodies of its templates are whole.
use mathlib.Core.Path.{◌≡◌, sym, ap, ◌∙◌}
use mathlib.Core.Bool.{Bool, true, false, ◌&&◌}
use mathlib.Core.List.{List}
use Prim.Native.Nat.{ℕ, ◌<◌}
use Rattle.csl.specs.Bytes.{byte}
use Rattle.csl.specs.Decode.{templates_place, template_pieces, body_of, main_place, main_of}
use Rattle.csl.specs.Decode.{clause, whole, heads_of, listed, well_formed}
use Rattle.std.specs.List.{list_all, range_with_len}
use Rattle.std.specs.Option.{MatchOption}
use Rattle.std.specs.Bool.{then_some}
use Rattle.std.specs.Prelude.{Option, Some, None}
use Rattle.records.specs.Index.{Lists, template_piece, body_from, body_bytes, main_bytes}
use Rattle.records.proofs.Index.{pieces_ranged, pieces_none, body_is, body_there}
use Rattle.formed.specs.Tests.{bodies_whole}
use Rattle.laws.proofs.Bools.{true_first, false_first}
use Rattle.formed.proofs.Clauses.{whole_place}

-- ---- the body of template k, whose bytes a call gave
pub body_whole : {s : List ℕ} {k : ℕ} {bs : List ℕ} {r : Bool} → Lists s × (k < byte s 10) → bs ≡ body_bytes s k
    → r ≡ whole (clause (heads_of s) 22 0 bs) → r ≡ whole (body_of (heads_of s) (template_piece s k))
body_whole {s} {k} {bs} x p g =
    g ∙ whole_place (heads_of s) 22 0 (body_from s k) bs
    ∙ rw p (ap whole (sym (body_is (body_there x) (heads_of s))))

-- ---- all bodies
pub bodies_ranged : (s : List ℕ) {n : ℕ} → n ≡ byte s 10
    → list_all (λ k. whole (body_of (heads_of s) (template_piece s k))) (range_with_len 0 n) ≡ bodies_whole s
unfolding template_pieces
bodies_ranged s {n} e =
    let i = templates_place s in
    pieces_ranged (λ q. whole (body_of (heads_of s) q)) s i n 0 ∙ rw (e, pieces_none s i)

-- ---- the main clause, whose bytes a call gave
pub main_is : (s : List ℕ) {r : Bool} {bs : List ℕ} → bs ≡ main_bytes s
    → r ≡ whole (clause (heads_of s) 23 0 bs) → r ≡ whole (main_of s)
unfolding main_of
main_is s p h = h ∙ rw p (whole_place (heads_of s) 23 0 (main_place s) (main_bytes s))

pub ruleset mains = (main_is, true_first, false_first)

-- ---- an agreement; o is what `read` answered, and r what is kept of it
pub kept_where_whole : (s : List ℕ) (o r : Option (List ℕ)) {P : List ℕ → Bool → Type 0}
    → MatchOption o (listed s ≡ false) (λ a. (a ≡ s) × (listed s ≡ true) × Lists s)
    → MatchOption o (r ≡ None) (λ a. (b : Bool) × P a b × (r ≡ then_some b a))
    → ((a : List ℕ) (b : Bool) → P a b → b ≡ (whole (main_of a) && bodies_whole a))
    → MatchOption r (well_formed s ≡ false) (λ a. (a ≡ s) × (well_formed s ≡ true))
unfolding well_formed
kept_where_whole s None r p q f = rw q (rw p)
kept_where_whole s (Some a) r (e, l, _) (true, h, q) f = rw q (e, rw (l, ← e) (sym (f a true h)))
kept_where_whole s (Some a) r (e, l, _) (false, h, q) f = rw q (rw (l, ← e) (sym (f a false h)))
