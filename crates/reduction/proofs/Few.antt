-- A breach on cells has its parties in 16 bits, whatever the clause.
use mathlib.Core.Path.{◌≡◌}
use mathlib.Core.Bool.{Bool, true, false, cond}
use mathlib.Core.List.{List, [], ◌∷◌}
use mathlib.Core.Option.{Option, none, some}
use Prim.Native.Nat.{ℕ, zero, suc, ◌^◌, ◌<◌}
use native.Mathlib.Omega.{arith}
use lib.Bits.{or_lt}
use lib.Dec.{ltb, eqb}
use lib.IntN.{ℤ, pos}
use lib.ListN.{length, get_or, take, drop}
use Rattle.laws.proofs.PartyBits.{bits_lt}
use Rattle.csl.specs.Lists.{at}
use Rattle.csl.specs.Parties.{bits_of}
use Rattle.csl.specs.Syntax.{Join, and, or, Wait, Clause, fulfilled, obligation, choice, if, join, instance}
use Rattle.csl.specs.Syntax.{bad_clause, Template}
use Rattle.laws.specs.Joins.{join_of}
use Rattle.cells.specs.Evaluate.{eval_cells, is_true_cell}
use Rattle.cells.specs.Reduce.{Reduced, done, breach, running, earlier, later, joined, join_both, join_either}
use Rattle.cells.specs.Reduce.{Reckoned, ended, broken, waiting, joins, reaches, becomes}
use Rattle.cells.specs.Reduce.{blame_bits, Mode, activating, forecasting, following, Fate, waits, late, taken, fate}
use Rattle.cells.specs.Reduce.{on_taken, walk, unfold_below, activate, reduce}
use Rattle.cells.specs.Across.{nat_of, unit_reckoned, join_first_two, across}
use Rattle.residues.specs.Reduces.{Is, bits_in}
use Rattle.residues.specs.declared.Reduced.{Reduced as Answer}
use Rattle.residues.specs.declared.Reduced.TheVariants.{Done, Breach, Running}

-- ---- 16 bits
unfoldable pub Few : Reduced → Type 0
Few done = Unit {0}
Few (breach t b) = b < 2 ^ 16
Few (running cs) = Unit {0}

-- ---- joins
cond_few : (b : Bool) (x y : Reduced) → Few x → Few y → Few (cond b x y)
cond_few true x y h k = h
cond_few false x y h k = k

breaches_few : (j : Join) (t b u c : ℕ) → b < 2 ^ 16 → c < 2 ^ 16 → Few (joined j (breach t b) (breach u c))
unfolding Few joined join_both join_either earlier later
breaches_few and t b u c h k = cond_few (ltb t u) (breach t b) _ h
    (cond_few (ltb u t) (breach u c) _ k (or_lt 16 b c h k))
breaches_few or t b u c h k = cond_few (ltb t u) (breach u c) (breach t b) k h

joined_few : (j : Join) (l r : Reduced) → Few l → Few r → Few (joined j l r)
unfolding Few joined join_both join_either
joined_few and done r h k = k
joined_few or done r h k = tt
joined_few and (breach t b) done h k = h
joined_few or (breach t b) done h k = tt
joined_few j (breach t b) (breach u c) h k = breaches_few j t b u c h k
joined_few and (breach t b) (running r) h k = h
joined_few or (breach t b) (running r) h k = tt
joined_few and (running l) done h k = tt
joined_few or (running l) done h k = tt
joined_few and (running l) (breach u c) h k = k
joined_few or (running l) (breach u c) h k = tt
joined_few and (running l) (running r) h k = tt
joined_few or (running l) (running r) h k = tt

-- ---- clauses
abbrev FewIn : Reckoned → Type 0
FewIn x = Few x.outcome

ended_few : FewIn ended
unfolding Few ended
ended_few = tt

waiting_few : (cs : List ℤ) → FewIn (waiting cs)
unfolding Few waiting
waiting_few cs = tt

broken_few : (ps : List ℤ) (b t : ℕ) → FewIn (broken t (blame_bits ps b))
unfolding Few broken blame_bits bits_of
broken_few ps b t = bits_lt 16 0 _

fate_few : (f : Fate) (x y z : Reckoned) → FewIn x → FewIn y → FewIn z
    → FewIn (elim f [ waits ↦ x | late ↦ y | taken ↦ z ])
fate_few waits x y z h k l = h
fate_few late x y z h k l = k
fate_few taken x y z h k l = l

if_few : (b : Bool) (x y : Reckoned) → FewIn x → FewIn y → FewIn (elim b [ true ↦ x | false ↦ y ])
if_few true x y h k = h
if_few false x y h k = k

module _ (m : Mode) (thenIs : Clause → List ℤ → List ℤ → ℕ → Reckoned)
    (then-few : (c : Clause) (ps vs : List ℤ) (a : ℕ) → FewIn (thenIs c ps vs a)) where
  taken_few : (md : Mode) (t : Clause) (ps vs : List ℤ) (a : ℕ) (w : Wait) → FewIn (on_taken md thenIs t ps vs a w)
  unfolding on_taken becomes
  taken_few activating t ps vs a w = ended_few
  taken_few forecasting t ps vs a w = ended_few
  taken_few (following u k rs) t ps vs a w = then-few t ps _ u

  module _ (instantiate : ℕ → List ℤ → List ℤ → ℕ → Reckoned)
      (instance-few : (k : ℕ) (ps vs : List ℤ) (a : ℕ) → FewIn (instantiate k ps vs a)) where
    walk_few : (c : Clause) (ps vs : List ℤ) (a : ℕ) → FewIn (walk m thenIs instantiate c ps vs a)
    unfolding walk reaches becomes joins
    walk_few fulfilled ps vs a = ended_few
    walk_few (obligation b w t) ps vs a = fate_few (fate m vs a w) _ _ _ (waiting_few _) (broken_few ps b _)
        (taken_few m t ps vs a w)
    walk_few (choice w t f) ps vs a = fate_few (fate m vs a w) _ _ _ (waiting_few _) (walk_few f ps vs _)
        (taken_few m t ps vs a w)
    walk_few (if c t f) ps vs a = if_few (is_true_cell (eval_cells vs c)) _ _ (walk_few t ps vs a) (walk_few f ps vs a)
    walk_few (join j t f) ps vs a = joined_few j _ _ (walk_few t ps vs a) (walk_few f ps vs a)
    walk_few (instance k es bs) ps vs a = instance-few k _ _ a
    walk_few bad_clause ps vs a = ended_few

  unfold_few : (ts : List Template) (n k : ℕ) (ps vs : List ℤ) (a : ℕ) → FewIn (unfold_below m thenIs ts n k ps vs a)
  unfolding unfold_below
  unfold_few ts zero k ps vs a = ended_few
  unfold_few ts (suc n) k ps vs a = if_few (eqb k n) _ _ (body (at ts n) (λ j qs us u. unfold_few ts n j qs us u))
      (unfold_few ts n k ps vs a)
    where
      body : (o : Option Template) → ((j : ℕ) (qs us : List ℤ) (u : ℕ) → FewIn (unfold_below m thenIs ts n j qs us u))
          → FewIn (elim o [ none ↦ ended | some t ↦ walk m thenIs (unfold_below m thenIs ts n) t.body ps vs a ])
      body none below = ended_few
      body (some t) below = walk_few (unfold_below m thenIs ts n) below t.body ps vs a

active_few : (ts : List Template) (c : Clause) (ps vs : List ℤ) (a : ℕ) → FewIn (activate ts c ps vs a)
unfolding activate
active_few ts c ps vs a = walk_few activating _ (λ t qs us u. ended_few) _
    (unfold_few activating (λ t qs us u. ended) (λ t qs us u. ended_few) ts (length ts)) c ps vs a

pub reduce_few : (m : Mode) (ts : List Template) (c : Clause) (ps vs : List ℤ) (a : ℕ)
    → Few (reduce m ts c ps vs a).outcome
unfolding reduce
reduce_few m ts c ps vs a = walk_few m (activate ts) (active_few ts) (unfold_below m (activate ts) ts (length ts))
    (unfold_few m (activate ts) (active_few ts) ts (length ts)) c ps vs a

-- ---- tables
unfoldable AllFew : List Reckoned → Type 0
AllFew [] = Unit {0}
AllFew (x ∷ xs) = FewIn x × AllFew xs

first_few : (j : Join) (rs : List Reckoned) → AllFew rs → AllFew (join_first_two j rs)
unfolding AllFew join_first_two reaches joins
first_few j [] h = tt
first_few j (l ∷ []) h = tt
first_few j (l ∷ r ∷ rs) h = (joined_few j l.outcome r.outcome h.0 h.1.0, h.1.1)

all_few : (m : Mode) (s : List ℕ) (n : ℕ) (sights : List ℕ) (cs : List ℤ) → AllFew (across m s n sights cs)
unfolding AllFew across unit_reckoned
all_few m s zero sights cs = tt
all_few m s (suc n) sights cs =
    pick (ltb (nat_of (get_or cs 0 (pos 0))) 20) _ (all_few m s n (drop 2 sights) (drop 24 cs))
  where
    pick : (b : Bool) (rest : List Reckoned) → AllFew rest
        → AllFew (cond b (unit_reckoned m s (get_or sights 0 0) (get_or sights 1 0) (take 24 cs) ∷ rest)
        (join_first_two (join_of (nat_of (get_or cs 0 (pos 0)))) rest))
    pick true rest h = (reduce_few m _ _ _ _ _, h)
    pick false rest h = first_few (join_of (nat_of (get_or cs 0 (pos 0)))) rest h

pub outcome_few : (m : Mode) (s : List ℕ) (n : ℕ) (sights : List ℕ) (cs : List ℤ) {x : Reckoned}
    → across m s n sights cs ≡ x ∷ [] → Few x.outcome
unfolding AllFew
outcome_few m s n sights cs e = (rw e at (all_few m s n sights cs)).0

-- ---- what `settle` asks of the answer
pub answer_few : (x : Reduced) (r : Answer) (out : List ℤ) → Few x → Is x r out → bits_in r < 65_536
unfolding Few Is
answer_few done Done out h i = omega arith
answer_few done (Breach b) out h i = absurd i
answer_few done (Running n) out h i = absurd i
answer_few (breach u c) Done out h i = omega arith
answer_few (breach u c) (Breach b) out h i = omega (arith, h, i.1)
answer_few (breach u c) (Running n) out h i = absurd i
answer_few (running cs) Done out h i = absurd i
answer_few (running cs) (Breach b) out h i = absurd i
answer_few (running cs) (Running n) out h i = omega arith
