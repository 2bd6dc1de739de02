-- Laws for the clauses of a well-formed agreement: its main clause, and its templates' bodies one after another.
use mathlib.Core.Path.{◌≡◌, sym, ap, ◌∙◌}
use mathlib.Core.Bool.{Bool, true, ◌&&◌}
use mathlib.Core.List.{List, [], ◌∷◌, ◌++◌, map}
use Prim.Native.Nat.{ℕ, zero, suc, ◌+◌, ◌-◌, ◌<◌, ◌≤◌}
use native.Mathlib.Numerals.{add-one}
use native.Mathlib.Omega.{arith}
use Rattle.csl.specs.Lists.{all}
use Rattle.csl.specs.Bytes.{byte}
use Rattle.csl.specs.Syntax.{Clause, Template}
use Rattle.csl.specs.Decode.{whole, clause, pieces, records_end, templates_place, main_place, template_pieces, heads_of}
use Rattle.csl.specs.Decode.{main_of, body_of, template_of, agreement_of, listed, well_formed}
use Rattle.csl.specs.Guards.{guarded_in, guarded_from}
use Rattle.csl.specs.Widths.{width, widths_from}
use Rattle.records.specs.Index.{Lists, template_place, body_from, body_bytes, main_bytes}
use Rattle.records.proofs.Index.{piece, all_pieces, pieces_more, body_is, body_there}
use Rattle.std.specs.List.{list_all, range_with_len}
use Rattle.guards.specs.Walk.{Formed, Answers, body_at}
use Rattle.laws.proofs.Bools.{both_true, T→true, true→T}

-- ---- the main clause and each body are whole
module _ (s : List ℕ) (x : well_formed s ≡ true) where
  main_whole : whole (main_of s) ≡ true
  unfolding well_formed
  main_whole =
      let a = listed s in
      let b = whole (main_of s) in
      both_true (a && b) _ (true→T x) λ t u. both_true a b t λ v w. T→true b w

  body_whole : (k : ℕ) → k < byte s 10 → whole (body_at s k) ≡ true
  unfolding well_formed template_pieces body_at
  body_whole k l = both_true (listed s && whole (main_of s)) _ (true→T x) λ t u. T→true _
      (all_pieces (λ q. whole (body_of (heads_of s) q)) (byte s 10) s (templates_place s) k u l)

  module _ {w : List ℕ} (e : w ≡ main_bytes s) where
    pub main_formed : Formed 23 w
    unfolding main_of
    main_formed = record { heads = heads_of s; place = main_place s; formed = rw e main_whole }

    pub main_answers : {A : Type 0} (f : Clause → A) {r : A} → Answers f 23 w r → r ≡ f (main_of s)
    unfolding main_of
    main_answers f a = (rw e at a).is (heads_of s) (main_place s) main_whole

  -- the body of template k; w are its bytes, as code has them
  module _ {k : ℕ} {w : List ℕ} (l : k < byte s 10) (h : (w ≡ body_bytes s k) × Lists s) where
    same : clause (heads_of s) 22 (body_from s k) w ≡ body_at s k
    unfolding body_at
    same = rw h.0 (sym (body_is (body_there (h.1, l)) (heads_of s)))

    whole_there : whole (clause (heads_of s) 22 (body_from s k) w) ≡ true
    whole_there = ap whole same ∙ body_whole k l

    pub body_formed : Formed 22 w
    body_formed = record { heads = heads_of s; place = body_from s k; formed = whole_there }

    pub body_answers : {A : Type 0} (f : Clause → A) {r : A} → Answers f 22 w r → r ≡ f (body_at s k)
    body_answers f a = a.is (heads_of s) (body_from s k) whole_there ∙ ap f same

-- ---- the templates from number k on
unfoldable pub templates_from : List ℕ → ℕ → List Template
templates_from s k = map (template_of (heads_of s)) (pieces (byte s 10 - k) s (template_place s k))

pub from_first : (s : List ℕ) → (agreement_of s).templates ≡ templates_from s 0
unfolding agreement_of template_pieces templates_from records_end
from_first s = let z : byte s 10 - 0 ≡ byte s 10 = omega arith in rw z

pub from_last : (s : List ℕ) (k : ℕ) → byte s 10 ≤ k → templates_from s k ≡ []
unfolding templates_from pieces
from_last s k l = let z : byte s 10 - k ≡ 0 = omega arith in rw z

pub from_next : (s : List ℕ) (k : ℕ) → k < byte s 10
    → templates_from s k ≡ template_of (heads_of s) (piece s (template_place s k)) ∷ templates_from s (k + 1)
unfolding templates_from pieces
from_next s k l =
    let z : byte s 10 - k ≡ suc (byte s 10 - (k + 1)) = omega arith in
    rw (z, pieces_more k s (templates_place s))

module _ (s : List ℕ) (k : ℕ) (l : k < byte s 10) where
  pub guarded_next : guarded_from k (templates_from s k) ≡ (guarded_in k (body_at s k)
      && guarded_from (k + 1) (templates_from s (k + 1)))
  unfolding guarded_from body_at template_of
  guarded_next = rw (from_next s k l, add-one k)

  pub widths_next : (ws : List ℕ) → widths_from ws (templates_from s k) ≡ widths_from
      (ws ++ (width ws (body_at s k) ∷ [])) (templates_from s (k + 1))
  unfolding widths_from body_at template_of
  widths_next ws = rw (from_next s k l)

  pub all_next : (p : Clause → Bool) → all (λ t. p t.body)
      (templates_from s k) ≡ (p (body_at s k) && all (λ t. p t.body) (templates_from s (k + 1)))
  unfolding all body_at template_of
  all_next p = rw (from_next s k l)

module _ (s : List ℕ) (k : ℕ) (l : byte s 10 ≤ k) where
  pub guarded_last : guarded_from k (templates_from s k) ≡ true
  unfolding guarded_from
  guarded_last = rw (from_last s k l)

  pub all_last : (p : Clause → Bool) → all (λ t. p t.body) (templates_from s k) ≡ true
  unfolding all
  all_last p = rw (from_last s k l)

-- ---- a chain over the templates' numbers: all is what all from k on say, and one what k says
pub each_ranged : (all one : ℕ → Bool) (n : ℕ) → ((k : ℕ) → k < n → all k ≡ (one k && all (k + 1)))
    → ((k : ℕ) → n ≤ k → all k ≡ true) → (m k : ℕ) → k + m ≡ n → list_all one (range_with_len k m) ≡ all k
each_ranged all one n more last zero k e = sym (last k (omega arith))
each_ranged all one n more last (suc m) k e =
    ap (λ b. one k && b) (each_ranged all one n more last m (k + 1) (omega arith)) ∙ sym (more k (omega arith))
