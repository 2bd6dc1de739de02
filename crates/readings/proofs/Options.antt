-- Laws for an option that is there or not.
use mathlib.Core.Path.{◌≡◌, refl, sym}
use mathlib.Core.Bool.{Bool, true, false, ◌&&◌, false≢true}
use mathlib.Core.Option.{Option, none, some}
use Rattle.csl.specs.Lists.{◌>>=◌, need}
use Rattle.readings.specs.Taking.{given}

-- ---- whether there is one
module _ {A : Type 0} where
  pub given_some : {C : Type 0} (o : Option A) → given o ≡ true → ((x : A) → o ≡ some x → C) → C
  unfolding given
  given_some none e k = absurd (false≢true e)
  given_some (some x) e k = k x refl

  pub given_none : (o : Option A) → given o ≡ false → o ≡ none
  unfolding given
  given_none none e = refl
  given_none (some x) e = absurd (false≢true (sym e))

  pub given_needs : (a b : Bool) (x : A) → given (need a >>= λ _. need b >>= λ _. some x) ≡ a && b
  unfolding given ◌>>=◌ need
  given_needs true true x = refl
  given_needs true false x = refl
  given_needs false b x = refl

  pub some_needs : (a b : Bool) (x : A) → given (need a >>= λ _. need b >>= λ _. some x) ≡ true
      → need a >>= (λ _. need b >>= λ _. some x) ≡ some x
  unfolding given ◌>>=◌ need
  some_needs true true x e = refl
  some_needs true false x e = absurd (false≢true e)
  some_needs false b x e = absurd (false≢true e)

pub given_need : {A : Type 0} (b : Bool) (x : A) → given (need b >>= λ _. some x) ≡ b
unfolding given ◌>>=◌ need
given_need true x = refl
given_need false x = refl

module _ {A B : Type 0} where
  -- one after the other, joined by g
  pub given_both : {C : Type 0} (o : Option A) (p : Option B) (g : A → B → C)
      → given (o >>= λ x. p >>= λ y. some (g x y)) ≡ given o && given p
  unfolding given ◌>>=◌
  given_both none p g = refl
  given_both (some x) none g = refl
  given_both (some x) (some y) g = refl

  pub given_then : (b : Bool) (o : Option A) (g : A → B) → given (need b >>= λ _. o >>= λ x. some (g x)) ≡ b && given o
  unfolding given ◌>>=◌ need
  given_then true none g = refl
  given_then true (some x) g = refl
  given_then false o g = refl
