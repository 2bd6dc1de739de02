-- Templates and the main clause of an agreement.
use mathlib.Core.Path.{◌≡◌, refl, sym, ap, ◌∙◌}
use mathlib.Core.Bool.{Bool, true, false, ◌&&◌, true≢false}
use mathlib.Core.List.{List, [], map}
use mathlib.Core.Option.{Option, none, some}
use Prim.Native.Nat.{ℕ, zero, suc, ◌+◌, ◌-◌, ◌%◌, ◌<◌, ◌≤◌}
use native.Mathlib.Omega.{arith}
use lib.Bits.{bit_or}
use lib.Dec.{eqb, ltb}
use Rattle.csl.specs.Lists.{◌>>=◌, need, all}
use Rattle.csl.specs.Bytes.{byte, le16}
use Rattle.csl.specs.Parties.{member, members}
use Rattle.csl.specs.Syntax.{Ty}
use Rattle.csl.specs.Decode.{tys_of, templates_place, clause, pieces, records_end, heads_of, body_of, template_of}
use Rattle.csl.specs.Decode.{template_head, main_place, main_of, template_pieces, agreement_of}
use Rattle.csl.specs.Typing.{Names, names_of, is_constant, type_clause, type_template, type_templates, heads_in}
use Rattle.csl.specs.Typing as typing
use Rattle.std.specs.Prelude.{Some, None, MatchOption}
use Rattle.std.specs.Prelude as prelude
use Rattle.std.specs.List.{list_all, range_with_len}
use Rattle.records.specs.Index.{Lists, ValueTypes, head_at, piece_at, template_place, template_piece, body_bytes}
use Rattle.records.specs.Index.{body_from}
use Rattle.records.specs.Index.{main_bytes}
use Rattle.records.proofs.Index.{heads_in_lem, few_params_lem, pieces_more, body_is, body_there}
use Rattle.parties.proofs.Masks as masks
use Rattle.typing.specs.Clauses.{names_in, typed_as, holds, typed_body, template_typed, templates_typed}
use Rattle.typing.proofs.Sights.{parties_is}
use Rattle.typing.proofs.Instances.{from_typed, from_untyped, untyped}
use Rattle.typing.proofs.Typings.{typed_place, valid}

-- ---- the body of template k; w and vs are its bytes and its value types, as code has them
pub body_typed : {g w vs : List ℕ} (x : Lists g) {k m : ℕ} {t : prelude.Option ℕ} → k < byte g 10 → w ≡ body_bytes g k
    → ValueTypes g k vs → m ≡ (head_at g k).params
    → t ≡ typed_as (type_clause (names_in g m) (tys_of vs) (clause (heads_of g) 22 0 w)) → t ≡ typed_as (typed_body g k)
body_typed {g} {w} x {k} l b p h f =
    let from = body_from g k in
    f ∙ rw (h, p.typed, b) (ap typed_as (typed_place (names_in g (head_at g k).params) (heads_of g) 22
    (head_at g k).values 0 from (body_bytes g k)
    ∙ ap (type_clause (names_in g (head_at g k).params) (head_at g k).values)
    (sym (body_is (body_there (x, l)) (heads_of g)))))

-- ---- template k
abbrev constants_in : ℕ → List ℕ → Bool
constants_in d qs = all (λ q. elim (is_constant q) [ true ↦ member q (members d) | false ↦ true ]) qs

abbrev declared_at : List ℕ → ℕ → ℕ
declared_at g k = le16 (piece_at g (template_place g k)) (6 + byte (piece_at g (template_place g k)) 4)

template_is : (g : List ℕ) (k : ℕ) → template_typed g
    k ≡ (need (all (λ p. ltb p (byte g 8)) (members (declared_at g k))) >>= λ _. typed_body g k >>= λ qs. need
    (constants_in (declared_at g k) qs))
unfolding type_template template_of template_head names_of
template_is g k = rw (heads_in_lem g, parties_is g)

holds_need : (b : Bool) (o : Option (Unit {0})) → holds (need b >>= λ _. o) ≡ (b && holds o)
unfolding holds need ◌>>=◌
holds_need true o = refl
holds_need false o = refl

holds_is : (b : Bool) → holds (need b) ≡ b
unfolding holds need
holds_is true = refl
holds_is false = refl

module _ {g : List ℕ} (x : Lists g) (k : ℕ) {d : ℕ} (l : k < byte g 10) (p : d ≡ declared_at g k) where
  module _ {ps : ℕ} {b : Bool} (h : ps ≡ byte g 8) (q : b ≡ all (λ p. ltb p ps) (members d)) where
    told : all (λ p. ltb p (byte g 8)) (members (declared_at g k)) ≡ b
    told = rw (← h, ← p) (sym q)

    pub template_beyond : b ≡ false → false ≡ holds (template_typed g k)
    template_beyond e = sym (ap holds (template_is g k) ∙ holds_need _ _ ∙ rw (told, e))

    module _ (e : b ≡ true) where
      unfolded : holds (template_typed g k) ≡ holds (typed_body g k >>= λ qs. need (constants_in (declared_at g k) qs))
      unfolded = ap holds (template_is g k) ∙ holds_need _ _ ∙ rw (told, e)

      template_untyped : None ≡ typed_as (typed_body g k) → false ≡ holds (template_typed g k)
      unfolding holds ◌>>=◌
      template_untyped f = sym (unfolded ∙ rw (from_untyped (typed_body g k) f))

      template_within : {m a : ℕ} {r : Bool} → d < 65_536 → Some m ≡ typed_as (typed_body g k) → a ≡ m % 65_536
          → r ≡ eqb (bit_or a d) d → r ≡ holds (template_typed g k)
      unfolding ◌>>=◌
      template_within {r = r} s f v w = from_typed (typed_body g k) f (λ qs y z.
          masks.body_within qs s (valid x (head_at g k).params (few_params_lem x k l) (head_at g k).values
          (body_of (heads_of g) (template_piece g k)) qs y) z v w
          ∙ sym (unfolded ∙ rw y (holds_is (constants_in (declared_at g k) qs))
          ∙ ap (λ (m : ℕ). constants_in m qs) (sym p)))

      -- o is what was found of the body, and r what is asked of it
      pub template_by : (o : prelude.Option ℕ) {P : ℕ → Type 0} {r : Bool} → d < 65_536 → o ≡ typed_as (typed_body g k)
          → MatchOption o (r ≡ false) P → ((m : ℕ) → P m → r ≡ eqb (bit_or (m % 65_536) d) d)
          → r ≡ holds (template_typed g k)
      template_by None s f p h = p ∙ template_untyped f
      template_by (Some m) s f p h = template_within s f refl (h m p)

-- ---- the templates from k on
holds_both : (o p : Option (Unit {0})) → holds (o >>= λ _. p) ≡ (holds o && holds p)
unfolding holds ◌>>=◌
holds_both none p = refl
holds_both (some u) p = refl

module _ (g : List ℕ) where
  templates_none : (k : ℕ) → byte g 10 ≤ k → holds (templates_typed g k) ≡ true
  unfolding holds type_templates pieces
  templates_none k l = let z : byte g 10 - k ≡ 0 = omega arith in rw z

  one_more : (k : ℕ) → k < byte g 10 → templates_typed g k ≡ (template_typed g k >>= λ _. templates_typed g (k + 1))
  unfolding type_templates pieces
  one_more k l = let z : byte g 10 - k ≡ suc (byte g 10 - (k + 1)) = omega arith in
      rw (z, pieces_more k g (templates_place g))

  templates_more : (k : ℕ) → k < byte g 10
      → holds (templates_typed g k) ≡ (holds (template_typed g k) && holds (templates_typed g (k + 1)))
  templates_more k l = ap holds (one_more k l) ∙ holds_both (template_typed g k) (templates_typed g (k + 1))

  -- a chain over their numbers asks of each what the rule asks
  pub templates_ranged : (n k : ℕ) → k + n ≡ byte g 10
      → list_all (λ k. holds (template_typed g k)) (range_with_len k n) ≡ holds (templates_typed g k)
  templates_ranged zero k l = sym (templates_none k (omega arith))
  templates_ranged (suc n) k l = ap (λ b. holds (template_typed g k) && b) (templates_ranged n (k + 1) (omega arith))
      ∙ sym (templates_more k (omega arith))

-- ---- the agreement
then_none : (o : Option (Unit {0})) (p : Option (List ℕ)) → holds o ≡ false → (o >>= λ _. p) ≡ none
unfolding holds ◌>>=◌
then_none none p e = refl
then_none (some u) p e = absurd (true≢false e)

then_some : (o : Option (Unit {0})) (p : Option (List ℕ)) → holds o ≡ true → (o >>= λ _. p) ≡ p
unfolding holds ◌>>=◌
then_some none p e = absurd (true≢false (sym e))
then_some (some u) p e = refl

templates_are : (g : List ℕ) → (agreement_of g).templates ≡ map (template_of (heads_of g))
    (pieces (byte g 10 - 0) g (template_place g 0))
unfolding agreement_of template_pieces records_end
templates_are g = let z : byte g 10 - 0 ≡ byte g 10 = omega arith in rw z

all_templates : (g : List ℕ) → type_templates (agreement_of g).parties (agreement_of g).readings
    (heads_in (agreement_of g).templates) (agreement_of g).templates ≡ templates_typed g 0
all_templates g = rw (parties_is g, heads_in_lem g, templates_are g)

main_is : (n : Names) (env : List Ty) (g : List ℕ)
    → type_clause n env (agreement_of g).main ≡ type_clause n env
    (clause (heads_of g) 23 0 (main_bytes g))
unfolding agreement_of main_of
main_is n env g = typed_place n (heads_of g) 23 env (main_place g) 0 (main_bytes g)

typed_is : (g : List ℕ) → typing.typed (agreement_of g) ≡
    (templates_typed g 0 >>= λ _. type_clause (names_in g 0) []
    (clause (heads_of g) 23 0 (main_bytes g)))
unfolding typing.typed
typed_is g =
    ap (λ (o : Option (Unit {0})). o >>= λ _. type_clause (names_in g 0) [] (agreement_of g).main) (all_templates g)
    ∙ ap (λ (o : Option (List ℕ)). templates_typed g 0 >>= λ _. o) (main_is (names_in g 0) [] g)

module _ (g : List ℕ) {b : Bool} (p : b ≡ holds (templates_typed g 0)) where
  pub agreement_stop : b ≡ false → None ≡ typed_as (typing.typed (agreement_of g))
  agreement_stop e = untyped (typed_is g ∙ then_none (templates_typed g 0) _ (sym p ∙ e))

  pub agreement_main : {w : List ℕ} {r : prelude.Option ℕ} → b ≡ true → w ≡ main_bytes g
      → r ≡ typed_as (type_clause (names_in g 0) (tys_of []) (clause (heads_of g) 23 0 w))
      → r ≡ typed_as (typing.typed (agreement_of g))
  unfolding tys_of
  agreement_main e f q = q ∙ rw f (ap typed_as (sym (typed_is g ∙ then_some (templates_typed g 0) _ (sym p ∙ e))))
