-- Values and evaluation: CSL Fig. 6, with paper 01's numbers.
-- Evaluation is none where a value is missing or an operand has another type: there the run is stuck.
use Rattle.std.specs.Prelude.{Bool, true, false, not, ◌&&◌, List, [], ◌∷◌, ℕ, zero, suc, ltb, eqb, ℤ, pos, negsuc}
use Rattle.std.proofs.Math.Option.{Option, none, some}
use Rattle.std.specs.Int.Signed.{lt_z}
use Rattle.csl.specs.Lists.{◌>>=◌, need, at}
use Rattle.csl.specs.Numbers.{in_range, calculate, eq_z}
use Rattle.csl.specs.Syntax.{Ty, number, truth, party, Op, arithmetic, conj, less, equal, Expr, number_lit}
use Rattle.csl.specs.Syntax.{truth_lit, party_lit, variable, negation, binary, bad_expr}

pub data Val : Type 0 where
  num : ℤ → Val
  bool : Bool → Val
  who : ℕ → Val

-- ---- a number as a value of a type, in its range
unfoldable pub as_nat : ℤ → Option ℕ
as_nat (pos n) = some n
as_nat (negsuc n) = none

unfoldable pub as_truth : ℕ → Option Val
as_truth zero = some (bool false)
as_truth (suc zero) = some (bool true)
as_truth (suc (suc n)) = none

-- "party below the party count, number as under Sources"
unfoldable pub value_of : ℕ → Ty → ℤ → Option Val
value_of ps number z = need (in_range z) >>= λ _. some (num z)
value_of ps truth z = as_nat z >>= as_truth
value_of ps party z = as_nat z >>= λ p. need (ltb p ps) >>= λ _. some (who p)

-- values of the types, one for each; what is left is handed on
unfoldable pub values_of : ℕ → List Ty → List ℤ → Option (List Val × List ℤ)
values_of ps [] zs = some ([], zs)
values_of ps (t ∷ ts) [] = none
values_of ps (t ∷ ts) (z ∷ zs) = value_of ps t z >>= λ v. values_of ps ts zs >>= λ r. some (v ∷ r.0, r.1)

-- ---- operators
unfoldable pub as_num : Val → Option ℤ
as_num (num z) = some z
as_num (bool b) = none
as_num (who p) = none

unfoldable pub as_bool : Val → Option Bool
as_bool (num z) = none
as_bool (bool b) = some b
as_bool (who p) = none

unfoldable pub on_nums : (ℤ → ℤ → Val) → Val → Val → Option Val
on_nums f u v = as_num u >>= λ x. as_num v >>= λ y. some (f x y)

unfoldable pub on_bools : (Bool → Bool → Val) → Val → Val → Option Val
on_bools f u v = as_bool u >>= λ x. as_bool v >>= λ y. some (f x y)

unfoldable pub same_bool : Bool → Bool → Bool
same_bool true b = b
same_bool false b = not b

unfoldable pub same_val : Val → Val → Option Val
same_val (num x) (num y) = some (bool (eq_z x y))
same_val (num x) (bool y) = none
same_val (num x) (who y) = none
same_val (bool x) (num y) = none
same_val (bool x) (bool y) = some (bool (same_bool x y))
same_val (bool x) (who y) = none
same_val (who x) (num y) = none
same_val (who x) (bool y) = none
same_val (who x) (who y) = some (bool (eqb x y))

unfoldable pub apply : Op → Val → Val → Option Val
apply (arithmetic o) u v = on_nums (λ x y. num (calculate o x y)) u v
apply conj u v = on_bools (λ x y. bool (x && y)) u v
apply less u v = on_nums (λ x y. bool (lt_z x y)) u v
apply equal u v = same_val u v

-- ---- expressions, by the values in sight
unfoldable pub eval : List Val → Expr → Option Val
eval env (number_lit z) = some (num z)
eval env (truth_lit n) = as_truth n
eval env (party_lit p) = some (who p)
eval env (variable i) = at env i
eval env (negation e) = eval env e >>= λ v. as_bool v >>= λ b. some (bool (not b))
eval env (binary o a b) = eval env a >>= λ u. eval env b >>= λ v. apply o u v
eval env bad_expr = none

unfoldable pub eval_num : List Val → Expr → Option ℤ
eval_num env e = eval env e >>= as_num

unfoldable pub eval_bool : List Val → Expr → Option Bool
eval_bool env e = eval env e >>= as_bool

unfoldable pub evals : List Val → List Expr → Option (List Val)
evals env [] = some []
evals env (e ∷ es) = eval env e >>= λ v. evals env es >>= λ vs. some (v ∷ vs)

-- what a proof by computation unfolds
unfoldable pub computes : Unit {0}
unfolding as_nat as_truth value_of values_of as_num as_bool on_nums on_bools same_bool same_val apply eval eval_num
    eval_bool evals
computes = tt
