-- Kinds, types and states as the code has them: what csl calls each, and by which number a record, a unit, a list of
-- types or a table names it.
use Rattle.std.specs.Prelude.{◌≡◌, ◌<◌, ◌⊎◌, ℕ, ℤ, pos, Result, MatchResult}
use Rattle.csl.specs.Syntax as syntax
use Rattle.csl.specs.Syntax.{and, or, Ty, number, truth, party}
use Rattle.csl.specs.Outcomes.{Sort, an_obligation, a_choice}
use Rattle.kinds.specs.declared.Join.{Join}
use Rattle.kinds.specs.declared.Join.TheVariants.{And, Or}
use Rattle.kinds.specs.declared.WaitKind.{WaitKind}
use Rattle.kinds.specs.declared.WaitKind.TheVariants.{Obligation, Choice}
use Rattle.kinds.specs.declared.«Type».{«Type»}
use Rattle.kinds.specs.declared.«Type».TheVariants.{Number, Truth, Party}
use Rattle.kinds.specs.declared.RunState.{RunState}
use Rattle.kinds.specs.declared.RunState.TheVariants.{Running, Fulfilled, Breached}
use Rattle.kinds.specs.declared.Unknown.{Unknown}

abbrev pub join_in : Join → syntax.Join
join_in And = and
join_in Or = or

abbrev pub join_number : Join → ℕ
join_number And = 20
join_number Or = 21

abbrev pub sort_in : WaitKind → Sort
sort_in Obligation = an_obligation
sort_in Choice = a_choice

abbrev pub wait_number : WaitKind → ℕ
wait_number Obligation = 17
wait_number Choice = 18

abbrev pub ty_in : «Type» → Ty
ty_in Number = number
ty_in Truth = truth
ty_in Party = party

abbrev pub type_number : «Type» → ℕ
type_number Number = 1
type_number Truth = 2
type_number Party = 3

abbrev pub state_cell : RunState → ℤ
state_cell Running = pos 1
state_cell Fulfilled = pos 2
state_cell Breached = pos 3

-- the result is what the number names, or an error where it names nothing of the kind
abbrev pub NamesJoin : ℕ → Result Join Unknown → Type 0
NamesJoin n r = MatchResult r (λ join. join_number join ≡ n) (λ e. (n < 20) ⊎ (21 < n))

abbrev pub NamesWait : ℕ → Result WaitKind Unknown → Type 0
NamesWait n r = MatchResult r (λ wait. wait_number wait ≡ n) (λ e. (n < 17) ⊎ (18 < n))

abbrev pub NamesType : ℕ → Result «Type» Unknown → Type 0
NamesType n r = MatchResult r (λ ty. type_number ty ≡ n) (λ e. (n < 1) ⊎ (3 < n))

abbrev pub NamesState : ℤ → Result RunState Unknown → Type 0
NamesState z r = MatchResult r (λ state. state_cell state ≡ z) (λ e. (state : RunState) → state_cell state ≡ z → ⊥)
