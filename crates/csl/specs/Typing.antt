-- Paper 01, "Typing", CSL Figs. 4 and 5, and refusal 3: types of expressions, typing and parties of clauses.
use Rattle.std.specs.Prelude.{Bool, true, false, ◌&&◌, ◌||◌, List, [], ◌∷◌, ◌++◌, ℕ, zero, suc, ◌+◌, leb, ltb, eqb}
use Rattle.std.specs.Prelude.{length}
use Rattle.std.proofs.Math.Option.{Option, none, some}
use Rattle.csl.specs.Lists.{◌>>=◌, need, all, at}
use Rattle.csl.specs.Numbers.{in_range}
use Rattle.csl.specs.Parties.{member, member_count}
use Rattle.csl.specs.Syntax.{Ty, number, truth, party, Op, arithmetic, conj, less, equal, Expr, number_lit}
use Rattle.csl.specs.Syntax.{truth_lit, party_lit, variable, negation, binary, bad_expr, Join, and, or, Wait, Clause}
use Rattle.csl.specs.Syntax.{fulfilled, obligation, choice, if, join, instance, bad_clause, Head, Template}
use Rattle.csl.specs.Syntax.{Agreement}

unfoldable pub same_ty : Ty → Ty → Bool
same_ty number number = true
same_ty number truth = false
same_ty number party = false
same_ty truth number = false
same_ty truth truth = true
same_ty truth party = false
same_ty party number = false
same_ty party truth = false
same_ty party party = true

-- ---- operators (CSL Fig. 4): the operands' type, given the left operand's, and the result's
unfoldable pub operand : Op → Ty → Ty
operand (arithmetic o) t = number
operand conj t = truth
operand less t = number
operand equal t = t

unfoldable pub result : Op → Ty
result (arithmetic o) = number
result conj = truth
result less = truth
result equal = truth

-- ---- expressions: ps is the party count, env the types of the values in sight
unfoldable pub type_expr : ℕ → List Ty → Expr → Option Ty
type_expr ps env (number_lit z) = need (in_range z) >>= λ _. some number
type_expr ps env (truth_lit n) = need (leb n 1) >>= λ _. some truth
type_expr ps env (party_lit p) = need (ltb p ps) >>= λ _. some party
type_expr ps env (variable i) = at env i
type_expr ps env (negation e) = type_expr ps env e >>= λ t. need (same_ty t truth) >>= λ _. some truth
type_expr ps env (binary o a b) = do
  s ← type_expr ps env a
  t ← type_expr ps env b
  need (same_ty s (operand o s) && same_ty t (operand o s)) >>= λ _. some (result o)
type_expr ps env bad_expr = none

unfoldable pub has_type : ℕ → List Ty → Expr → Ty → Option (Unit {0})
has_type ps env e t = type_expr ps env e >>= λ s. need (same_ty s t)

unfoldable pub have_types : ℕ → List Ty → List Expr → List Ty → Option (Unit {0})
have_types ps env [] [] = some tt
have_types ps env [] (t ∷ ts) = none
have_types ps env (e ∷ es) [] = none
have_types ps env (e ∷ es) (t ∷ ts) = has_type ps env e t >>= λ _. have_types ps env es ts

-- ---- clauses
-- what a clause may name: party count, reading types, templates' heads, number of party parameters
pub record Names : Type 0 where
  pub parties : ℕ
  pub readings : List (List Ty)
  pub heads : List Head
  pub params : ℕ

-- "A blame byte is a party below the party count, or 128 to 131 for the template's party parameter 0 to 3."
unfoldable pub blame_ok : Names → ℕ → Bool
blame_ok n b = ltb b n.parties || (leb 128 b && ltb b (128 + n.params))

-- the types of a wanted reading's values; "reading types [count] from 1"
unfoldable pub reading_of_type : List (List Ty) → ℕ → Option (List Ty)
reading_of_type rs zero = none
reading_of_type rs (suc k) = at rs k

-- "`then` sees them and after them the remaining time."
unfoldable pub then_sight : List Ty → List Ty → List Ty
then_sight env vs = (env ++ vs) ++ (number ∷ [])

-- "`where` sees the reading's values too [..] At most 16 are in sight."; gives the types of the reading's values
unfoldable pub type_wait : Names → List Ty → Wait → Option (List Ty)
type_wait n env w = do
  vs ← reading_of_type n.readings w.wanted
  _ ← need (leb (length (then_sight env vs)) 16)
  _ ← has_type n.parties (env ++ vs) w.condition truth
  _ ← has_type n.parties env w.after number
  _ ← has_type n.parties env w.within number
  some vs

-- "The two sides of an `or` together have at most one member"
unfoldable pub join_ok : Join → List ℕ → Bool
join_ok and ps = true
join_ok or ps = leb (member_count ps) 1

-- a clause's parties, where it is typed
unfoldable pub type_clause : Names → List Ty → Clause → Option (List ℕ)
type_clause n env fulfilled = some []
type_clause n env (obligation b w t) = do
  _ ← need (blame_ok n b)
  vs ← type_wait n env w
  ps ← type_clause n (then_sight env vs) t
  some (b ∷ ps)
type_clause n env (choice w t f) = do
  vs ← type_wait n env w
  ps ← type_clause n (then_sight env vs) t
  qs ← type_clause n env f
  some (ps ++ qs)
type_clause n env (if e t f) = do
  _ ← has_type n.parties env e truth
  ps ← type_clause n env t
  qs ← type_clause n env f
  some (ps ++ qs)
type_clause n env (join j t f) = do
  ps ← type_clause n env t
  qs ← type_clause n env f
  _ ← need (join_ok j (ps ++ qs))
  some (ps ++ qs)
type_clause n env (instance k es bs) = do
  h ← at n.heads k
  _ ← have_types n.parties env es h.values
  _ ← need (eqb (length bs) h.params && all (blame_ok n) bs)
  some (h.declared ++ bs)
type_clause n env bad_clause = none

-- ---- "A template body's constant parties lie within its declared ones."
unfoldable pub is_constant : ℕ → Bool
is_constant b = ltb b 128

unfoldable pub type_template : ℕ → List (List Ty) → List Head → Template → Option (Unit {0})
type_template ps rs hs t = do
  _ ← need (all (λ p. ltb p ps) t.head.declared)
  qs ← type_clause (record { parties = ps; readings = rs; heads = hs; params = t.head.params }) t.head.values
      t.body
  need (all (λ q. elim (is_constant q) [ true ↦ member q t.head.declared | false ↦ true ]) qs)

unfoldable pub type_templates : ℕ → List (List Ty) → List Head → List Template → Option (Unit {0})
type_templates ps rs hs [] = some tt
type_templates ps rs hs (t ∷ ts) = type_template ps rs hs t >>= λ _. type_templates ps rs hs ts

unfoldable pub heads_in : List Template → List Head
heads_in [] = []
heads_in (t ∷ ts) = t.head ∷ heads_in ts

-- the names of a body with so many party parameters
unfoldable pub names_of : Agreement → ℕ → Names
names_of a k = record { parties = a.parties; readings = a.readings; heads = heads_in a.templates; params = k }

-- the main clause's parties; refusal 3 where this is none
unfoldable pub typed : Agreement → Option (List ℕ)
typed a =
    type_templates a.parties a.readings (heads_in a.templates) a.templates >>= λ _.
    type_clause (names_of a 0) [] a.main

-- what a proof by computation unfolds
unfoldable pub computes : Unit {0}
unfolding same_ty operand result type_expr has_type have_types blame_ok reading_of_type then_sight type_wait join_ok
    type_clause
    is_constant type_template type_templates heads_in names_of typed
computes = tt
