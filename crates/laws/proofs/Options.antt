-- An option that is there or not: `some` is injective and is not `none`, and what follows from a chain of `>>=` and
-- `need` that gives something.
use mathlib.Core.Bool.{Bool, true, false}
use mathlib.Core.Option.{Option, none, some}
use mathlib.Core.Path.{◌≡◌, refl, sym, ◌∙◌}
use lib.Dec.{T}
use Rattle.csl.specs.Lists.{◌>>=◌, need, or_else}
use Rattle.laws.proofs.Clash.{impossible}

pub some_inj : {A : Type 0} {x y : A} → some x ≡ some y → x ≡ y
some_inj e = cc

pub none_some : {A C : Type 0} {x : A} → none ≡ some x → C
none_some e = impossible cc

pub some_none : {A C : Type 0} {o : Option A} {x : A} → o ≡ none → o ≡ some x → C
some_none p q = none_some (sym p ∙ q)

-- ---- `m >>= f`
module _ {A B : Type 0} where
  pub some_bind : (m : Option A) (f : A → Option B) (x : A) → m ≡ some x → m >>= f ≡ f x
  unfolding ◌>>=◌
  some_bind m f x e = rw e refl

  -- handing on what is found
  pub from_bind : {C : Type 0} (m : Option A) (f : A → Option B) (y : B) → m >>= f ≡ some y
      → ((x : A) → m ≡ some x → f x ≡ some y → C) → C
  unfolding ◌>>=◌
  from_bind none f y e k = none_some e
  from_bind (some a) f y e k = k a refl e

-- ---- `need b`
pub need_true : (b : Bool) (u : Unit {0}) → need b ≡ some u → T b
unfolding need
need_true true u e = tt
need_true false u e = none_some e

pub true_need : (b : Bool) → T b → need b ≡ some tt
unfolding need
true_need true t = refl
true_need false t = absurd t

module _ {B : Type 0} (b : Bool) (f : Unit {0} → Option B) where
  pub passes : T b → need b >>= f ≡ f tt
  passes t = some_bind (need b) f tt (true_need b t)

  pub from_need : {C : Type 0} (y : B) → need b >>= f ≡ some y → (T b → f tt ≡ some y → C) → C
  from_need y e k = from_bind (need b) f y e λ u q r. k (need_true b u q) r

-- ---- `or_else o u`
pub from_or_else : {A C : Type 0} (o u : Option A) (y : A) → or_else o u ≡ some y → (o ≡ some y → C) → (u ≡ some y → C)
    → C
unfolding or_else
from_or_else none u y e f g = g e
from_or_else (some x) u y e f g = f e
