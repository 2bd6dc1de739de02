-- The cost's claim holds: a call's cost is that of the run which its table shows (`Calls`), and of that run
-- soundness/CostBound and CostNumbers say how much it is.
use mathlib.Core.Path.{◌≡◌, refl, sym, ap, subst, ◌∙◌}
use mathlib.Core.List.{List}
use mathlib.Core.Logic.{◌≢◌}
use mathlib.Core.Option.{some}
use Prim.Native.Nat.{ℕ}
use native.Mathlib.Omega.{arith}
use lib.IntN.{ℤ, pos}
use lib.ListN.{length}
use Rattle.csl.specs.Lists.{at}
use Rattle.csl.specs.Syntax.{Agreement}
use Rattle.csl.specs.Decode.{agreement_of}
use Rattle.csl.specs.Check.{checked, accepted}
use Rattle.csl.specs.Outcomes.{Outcome, done, breach, running, stuck}
use Rattle.csl.specs.Table.{Run, head_cells, nat_cells, padded, run_of, table_length, table_of}
use Rattle.csl.specs.Cost.{cost_of}
use Rattle.csl.specs.Entries.{answered, reading_of}
use Rattle.csl.specs.Demand3.{IsBreach, NotStuck, needed}
use Rattle.laws.proofs.Integers.{pos_inj}
use Rattle.laws.proofs.Options.{some_inj}
use Rattle.soundness.proofs.Checked.{passed}
use Rattle.soundness.proofs.Runs.{not_stuck, run_at}
use Rattle.soundness.proofs.CostBound.{cost_bound}
use Rattle.soundness.proofs.CostNumbers.{cost_breached, cost_fulfilled, cost_refused}
use Rattle.monitor.specs.Answers.{taken_answer}
use Rattle.monitor.specs.Calls.{Call, cost_in, number_in}
use Rattle.monitor.specs.Cost.{CostClaim, Costs}
use Rattle.monitor.proofs.Calls.{Called, Sound, called, shown}
use Rattle.monitor.proofs.Early.{running_cell}
use Rattle.monitor.proofs.Joined.{part_of}
use Rattle.monitor.proofs.Opens.{by_run}

-- ---- the units in use, in the head of a run's table
pub used_cell : (now moved : ℕ) (o : Outcome) → NotStuck o
    → at (table_of (run_at now moved o)) 4 ≡ some (pos (needed o))
unfolding table_of padded head_cells nat_cells at needed NotStuck
used_cell now moved done h = refl
used_cell now moved (breach t ps) h = refl
used_cell now moved (running res) h = refl
used_cell now moved stuck h = absurd h

-- ---- a call
module _ (s : List ℕ) (us : List ℤ) (one : Call)
    (meets : taken_answer one.answer one.left ≡ reading_of s us one.bytes) where
  -- a table that shows a run
  module _ (a : Agreement) (mains : List ℕ) (q : Run) (ck : checked s ≡ accepted a mains) (l : length us ≡ table_length)
      (e : run_of a mains us ≡ some q) where
    on : (us ≡ table_of q) × Sound s a mains ck q
    on = shown s a mains ck q us l e

    never_stuck : NotStuck q.outcome
    never_stuck = not_stuck a mains q.last_time q.outcome on.1.good

    answer : Called s a mains ck q one
    answer = called s a mains ck q us one on.0 on.1 meets

    -- a table that is not running shows nothing that waits
    idle : (o : Outcome) → q.outcome ≡ o → at us 0 ≢ some (pos 1) → cost_of a q one.bytes ≡ 0
    unfolding IsBreach NotStuck
    idle done f h = cost_fulfilled a q one.bytes f
    idle (breach t ps) f h = cost_breached a q one.bytes (subst IsBreach (sym f) tt)
    idle (running res) f h = absurd (h (ap (λ cells. at cells 0) on.0 ∙ running_cell q res f))
    idle stuck f h = absurd (subst NotStuck f never_stuck)

    used_is : {used : ℕ} → at us 4 ≡ some (pos used) → needed q.outcome ≡ used
    used_is h = pos_inj (some_inj (sym (used_cell _ _ q.outcome never_stuck) ∙ ap (λ cells. at cells 4) (sym on.0) ∙ h))

  equal : (a : Agreement) (mains : List ℕ) (q : Run) → checked s ≡ accepted a mains → length us ≡ table_length
      → run_of a mains us ≡ some q → cost_in one ≡ cost_of a q one.bytes
  equal a mains q ck l e = (answer a mains q ck l e).cost

  costs : Costs s us one
  unfolding cost_in number_in answered
  costs = by_run s us
      (λ n more other reads.
      let is = part_of s us one.bytes meets ∙ reads one.bytes in
      let free : cost_in one ≡ 0 = ap (λ x. x.cost) is in
      let number : number_in one ≡ n = ap (λ x. x.number) is in
      record {
        equals = equal;
        not_running = λ h. free;
        refused = λ h k. free;
        not_zero = λ h. absurd (omega arith);
        each_unit = λ used h. omega arith;
        at_most = omega arith;
      })
      (λ mains q ck l e.
      let a = agreement_of s in
      let x = answer a mains q ck l e in
      let bound = cost_bound s a mains (passed s a mains ck) us q one.bytes e in
      let said = cost_refused a mains q one.bytes (on a mains q ck l e).1 in
      record {
        equals = equal;
        not_running = λ h. x.cost ∙ idle a mains q ck l e q.outcome refl h;
        refused = λ h k. x.cost ∙ said.0 (λ z. h (x.number ∙ z)) (λ z. k (x.number ∙ z));
        not_zero = λ h z. omega (arith, said.1 (sym x.number ∙ h), x.cost);
        each_unit = λ used h. omega (arith, x.cost, bound.0, used_is a mains q ck l e h);
        at_most = omega (arith, x.cost, bound.1);
      })

pub cost_claim : CostClaim
unfolding CostClaim
cost_claim s us one meets = costs s us one meets
