-- A table with the state of a fulfilled run shows one exactly where all else is zero.
use mathlib.Core.Path.{◌≡◌, sym, ap, ap₂, ◌∙◌}
use mathlib.Core.Bool.{Bool, ◌&&◌}
use mathlib.Core.List.{List}
use Prim.Native.Nat.{ℕ}
use lib.Dec.{T, eqb, eqb→eq}
use lib.IntN.{ℤ, pos}
use lib.ListN.{length, get_or, take, drop}
use Rattle.csl.specs.Lists.{all}
use Rattle.csl.specs.Outcomes.{done}
use Rattle.csl.specs.Table.{Run, is_zero, read_state}
use Rattle.laws.proofs.Options.{from_need, passes}
use Rattle.laws.proofs.Bools.{T-both, both_true, T→true, true→T, true_not_false}
use Rattle.cells.specs.declared.Sight.{Sight}
use Rattle.std.specs.Prelude.{Option as Maybe}
use Rattle.state.specs.declared.State.TheVariants.{Fulfilled}
use Rattle.std.specs.Bool.{then_some}
use Rattle.state.specs.declared.State.{State}
use Rattle.units.proofs.Tests.{by_then}
use Rattle.state.specs.Shown.{Shows, run_in, HeadAt}
use Rattle.state.proofs.Heads.{RunFacts}
use Rattle.state.proofs.Zeros.{two_zeros, zeros_two, one_zero, zeros_one, three_cells, unit_cells}
use Rattle.state.proofs.Shows.{shown_none, reads_at, shows}

module _ (cells : List ℤ) (l : length cells ≡ 3080) (A : List ℕ) {time : ℕ} (h : HeadAt A cells 2 time)
    (sights : List Sight) where
  record Done : Type 0 where
    pub timeless : get_or cells 2 (pos 0) ≡ pos 0
    pub blameless : get_or cells 3 (pos 0) ≡ pos 0
    pub unused : get_or cells 4 (pos 0) ≡ pos 0
    pub rest : T (all is_zero (drop 8 cells))

  done_facts : {q : Run} → RunFacts A cells q → Done
  unfolding read_state
  done_facts f =
      let d = f.head in
      from_need (eqb d.time 0 && eqb d.parties 0 && eqb d.used 0 && all is_zero (drop 8 cells)) _ f.outcome
      (reads_at cells l A h f) λ t _.
      both_true (eqb d.time 0 && eqb d.parties 0 && eqb d.used 0) _ t λ t₁ z.
      both_true (eqb d.time 0 && eqb d.parties 0) _ t₁ λ t₂ c.
      both_true (eqb d.time 0) _ t₂ λ a b.
      record {
        timeless = f.is_time ∙ ap pos (eqb→eq d.time 0 a);
        blameless = f.is_parties ∙ ap pos (eqb→eq d.parties 0 b);
        unused = f.is_used ∙ ap pos (eqb→eq d.used 0 c);
        rest = z;
      }

  pub fulfilled_is : {b : Bool} {r : Maybe State}
      → b ≡ (all is_zero (take 3 (drop 2 cells)) && all is_zero (take 3072 (drop 8 cells))) → r ≡ then_some b Fulfilled
      → Shows (run_in A cells) cells sights r
  unfolding Shows read_state
  fulfilled_is {b} e g = by_then (Shows (run_in A cells) cells sights) g
      (λ t. both_true (two && one) rest (true→T (sym is ∙ t)) λ z u. both_true two one z λ v w.
      let head = two_zeros cells l v in
      shows cells l A h done head.0 head.1 (one_zero cells l w) (passes rest _ u))
      (λ f. shown_none cells l A sights λ q k. let d = done_facts k in
      true_not_false (T→true (two && one && rest) (T-both (two && one) rest
      (T-both two one (zeros_two cells l d.timeless d.blameless) (zeros_one cells l d.unused)) d.rest)) (sym is ∙ f))
    where
      two : Bool
      two = all is_zero (take 2 (drop 2 cells))

      one : Bool
      one = all is_zero (take 1 (drop 4 cells))

      rest : Bool
      rest = all is_zero (drop 8 cells)

      is : b ≡ (two && one && rest)
      is = e ∙ ap₂ ◌&&◌ (three_cells cells l) (ap (all is_zero) (unit_cells cells l))
