-- Laws for the units of an agreement's templates: the list as it is filled, and what the tests by it decide.
use mathlib.Core.Path.{◌≡◌, refl, sym, ap, ◌∙◌}
use mathlib.Core.Bool.{Bool, true, false, ◌&&◌, and-false}
use mathlib.Core.List.{List, [], ◌∷◌, ◌++◌}
use mathlib.Core.Option.{none, some}
use Prim.Native.Nat.{ℕ, zero, suc, ◌+◌, ◌<◌, ◌≤◌, min}
use native.Mathlib.Decide.{dec_le}
use native.Mathlib.Omega.{arith}
use borrow.Author.Tests.{le-leb, lt-leb}
use lib.Dec.{leb}
use lib.ListN.{length, get_or, length-append}
use Rattle.std.proofs.lemmas.List.{append_assoc, append-nil}
use Rattle.csl.specs.Lists.{all, at, there}
use Rattle.csl.specs.Bytes.{byte}
use Rattle.csl.specs.Syntax.{Template}
use Rattle.csl.specs.Decode.{agreement_of, heads_of, main_of, template_of}
use Rattle.csl.specs.Widths.{or_zero}
use Rattle.csl.specs.Sizes.{sized, units_of, clause_need, main_need, body_fits, fits}
use Rattle.laws.proofs.Bools.{elim_false, elim_true, false_first, true_first}
use Rattle.laws.proofs.Options.{none_some, some_inj}
use Rattle.records.specs.Index.{template_place, head_at}
use Rattle.records.proofs.Index.{piece, templates_at, templates_length}
use Rattle.guards.specs.Walk.{body_at}
use Rattle.guards.proofs.Bodies.{templates_from, from_first, from_next, from_last}
use Rattle.sizes.specs.Walk.{Declared, all_fit, declare_all}

-- ---- the units so far: those of the first k templates, which all declare theirs
pub record Filled (s : List ℕ) (k : ℕ) (us : List ℕ) : Type 0 where
  pub many : length us ≡ k
  pub few : (j : ℕ) → get_or us j 0 ≤ 128
  pub are : units_of (agreement_of s).templates ≡ us ++ units_of (templates_from s k)
  pub rest : declare_all s ≡ all (λ t. there t.head.units) (templates_from s k)

pub none_filled : (s us : List ℕ) → us ≡ [] → Filled s 0 us
none_filled s us e = record {
  many = rw e refl;
  few = λ j. rw e (omega arith);
  are = rw e (ap units_of (from_first s));
  rest = ap (all (λ t. there t.head.units)) (from_first s);
}

few_more : (us : List ℕ) (n : ℕ) → ((j : ℕ) → get_or us j 0 ≤ 128) → n ≤ 128 → (j : ℕ)
    → get_or (us ++ (n ∷ [])) j 0 ≤ 128
few_more [] n f l zero = l
few_more [] n f l (suc j) = omega arith
few_more (u ∷ us) n f l zero = f 0
few_more (u ∷ us) n f l (suc j) = few_more us n (λ i. f (suc i)) l j

module _ {s us : List ℕ} {k : ℕ} (l : k < byte s 10) (x : Filled s k us) where
  -- template k declares n
  pub more_filled : {n : ℕ} → ((head_at s k).units ≡ some n) × (n ≤ 128) → Filled s (k + 1) (us ++ (n ∷ []))
  unfolding units_of all there or_zero template_of
  more_filled {n} h = record {
    many = length-append us (n ∷ []) ∙ ap (λ n. n + 1) x.many;
    few = few_more us n x.few h.1;
    are = x.are ∙ rw (from_next s k l, h.0) (sym (append_assoc us (n ∷ []) (units_of (templates_from s (k + 1)))));
    rest = x.rest ∙ rw (from_next s k l, h.0) refl;
  }

  -- template k declares none
  pub unfilled : (head_at s k).units ≡ none → declare_all s ≡ false
  unfolding all there template_of
  unfilled h = x.rest ∙ rw (from_next s k l, h) refl

pub all_filled : {s us : List ℕ} {k : ℕ} → byte s 10 ≤ k → Filled s k us → (declare_all s ≡ true) × Declared s us
unfolding units_of all
all_filled {s} {us} {k} l x = (
  x.rest ∙ rw (from_last s k l) refl,
  record {
    are = sym (x.are ∙ rw (from_last s k l) (append-nil us));
    few = x.few;
  },
)

-- ---- a need that counts as 129 at most is compared with what is declared, which is less
pub leb_counted : (a u : ℕ) → u ≤ 128 → leb (min a 129) u ≡ leb a u
leb_counted a u l = test (dec_le a u)
  where
    test : Dec (a ≤ u) → leb (min a 129) u ≡ leb a u
    test (yes h) = le-leb (min a 129) u (omega arith) ∙ sym (le-leb a u h)
    test (no h) = lt-leb (min a 129) u (omega arith) ∙ sym (lt-leb a u (omega arith))

-- ---- the templates from number k on fit, and so does what is declared of template k
units_at : (ts : List Template) (k : ℕ) (t : Template) → at ts k ≡ some t
    → get_or (units_of ts) k 0 ≡ or_zero t.head.units
unfolding at units_of
units_at [] k t e = none_some e
units_at (u ∷ ts) zero t e = ap (λ z. or_zero z.head.units) (some_inj e)
units_at (u ∷ ts) (suc k) t e = units_at ts k t e

module _ {s us : List ℕ} (x : Declared s us) (k : ℕ) where
  pub fits_next : k < byte s 10 → all (body_fits us) (templates_from s k)
      ≡ (leb (clause_need us (body_at s k)) (get_or us k 0) && all (body_fits us) (templates_from s (k + 1)))
  unfolding all body_fits body_at template_of
  fits_next l =
      let t = template_of (heads_of s) (piece s (template_place s k)) in
      let declared : get_or us k 0 ≡ or_zero t.head.units =
      ap (λ vs. get_or vs k 0) x.are ∙ units_at (agreement_of s).templates k t (templates_at s k l) in
      rw (from_next s k l, declared) refl

  pub fits_last : byte s 10 ≤ k → all (body_fits us) (templates_from s k) ≡ true
  unfolding all
  fits_last l = rw (from_last s k l) refl

-- ---- what is asked of the whole agreement; y is what the main clause's test answers
module _ {s us : List ℕ} (x : Declared s us) {y : Bool} (e : y ≡ leb (clause_need us (main_of s)) 128) where
  fit_by : all_fit (agreement_of s)
      ≡ (leb (clause_need us (main_of s)) 128 && all (body_fits us) (agreement_of s).templates)
  unfolding main_need agreement_of
  fit_by = rw x.are refl

  pub main_off : y ≡ false → y ≡ all_fit (agreement_of s)
  main_off q = false_first _ _ e q q ∙ sym fit_by

  pub main_on : {z : Bool} → y ≡ true → z ≡ all (body_fits us) (agreement_of s).templates → z ≡ all_fit (agreement_of s)
  main_on q g = true_first _ _ e q g ∙ sym fit_by

-- ---- 15 is asked of a sized agreement alone; n is its number of templates
module _ (s : List ℕ) where
  unsized : sized (agreement_of s) ≡ false → true ≡ fits (agreement_of s)
  unfolding fits
  unsized e = sym (elim_false (sized (agreement_of s)) _ true e)

  pub fits_undeclared : declare_all s ≡ false → true ≡ fits (agreement_of s)
  unfolding sized
  fits_undeclared e =
      let some = leb 1 (length (agreement_of s).templates) in
      unsized (ap (λ b. some && b) e ∙ and-false some)

  module _ {n : ℕ} (g : n ≡ byte s 10) where
    pub fits_untemplated : n ≡ 0 → true ≡ fits (agreement_of s)
    unfolding sized
    fits_untemplated e = unsized (ap (λ m. leb 1 m && declare_all s) (templates_length s ∙ sym g ∙ e))

    pub fits_sized : {z : Bool} → (n ≡ 0 → ⊥) → declare_all s ≡ true → z ≡ all_fit (agreement_of s)
        → z ≡ fits (agreement_of s)
    unfolding fits sized
    fits_sized f e h =
        let one : leb 1 (length (agreement_of s).templates) ≡ true =
        ap (leb 1) (templates_length s) ∙ le-leb 1 (byte s 10) (omega arith) in
        h ∙ sym (elim_true (sized (agreement_of s)) _ true (rw (one, e) refl))
