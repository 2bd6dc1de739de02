-- What the walk over a clause asks: the parties that blame bytes stand for, windows, and what a reading finds in them.
use Rattle.std.specs.Prelude.{true, false, List, [], ◌∷◌, ◌++◌, ℕ, ◌-◌, ltb, ℤ, pos, ◌+ℤ◌}
use Rattle.std.proofs.Math.Option.{Option, some}
use Rattle.std.specs.Int.Signed.{lt_z}
use Rattle.csl.specs.Lists.{◌>>=◌, at}
use Rattle.csl.specs.Syntax.{Wait}
use Rattle.csl.specs.Values.{Val, num, eval_num}
use Rattle.csl.specs.Outcomes.{Sight}

-- ---- a blame byte: a party, or the party that the template's parameter stands for
unfoldable pub blamed : List ℕ → ℕ → Option ℕ
blamed params b = elim (ltb b 128) [ true ↦ some b | false ↦ at params (b - 128) ]

unfoldable pub blamed_all : List ℕ → List ℕ → Option (List ℕ)
blamed_all params [] = some []
blamed_all params (b ∷ bs) = blamed params b >>= λ p. blamed_all params bs >>= λ ps. some (p ∷ ps)

-- ---- windows: "first = A + after, last = first + within, both ends included, never held at a limit"
pub record Window : Type 0 where
  pub first : ℤ
  pub last : ℤ

unfoldable pub window : Sight → ℕ → Wait → Option Window
window e a w =
    eval_num e.values w.after >>= λ x. eval_num e.values w.within >>= λ y.
    some (record { first = pos a +ℤ x; last = (pos a +ℤ x) +ℤ y })

-- ---- following a reading
pub record Reading : Type 0 where
  pub time : ℕ
  pub type : ℕ
  pub values : List Val

-- paper 02, No. 8: "the window test must tell early from late". 1 comes first: a window that is over before it begins
-- is late
pub data Timing : Type 0 where
  early on_time late : Timing

-- 1. "T > last"; 2. "T ≥ first"
unfoldable pub timing : Window → ℕ → Timing
timing v t = elim (lt_z v.last (pos t)) [
  | true ↦ late
  | false ↦ elim (lt_z (pos t) v.first) [ true ↦ early | false ↦ on_time ]
]

-- in `then`: the reading's values, and after them the remaining time
unfoldable pub with_values : Sight → List Val → ℤ → Sight
with_values s vs z = record { params = s.params; values = (s.values ++ vs) ++ (num z ∷ []) }

-- what a proof by computation unfolds
unfoldable pub computes : Unit {0}
unfolding blamed blamed_all window timing with_values
computes = tt
