-- Paper 02, No. 9: "How much a reading costs." What a reading costs on the run by the rules.
-- "Count one for each unit of the table read, which is every unit in use, and one for each clause activated, in the
-- sense of 01's activating; an else that follows the same reading is not counted again for that. Sides that are later
-- dropped count."
use Rattle.std.specs.Prelude.{Bool, true, false, ◌&&◌, ◌||◌, List, ℕ, suc, ◌+◌}
use Rattle.csl.specs.Syntax.{Join, and, or, Agreement}
use Rattle.csl.specs.Outcomes.{Residue, Outcome, done, breach, running, stuck}
use Rattle.csl.specs.Rules.{Reading}
use Rattle.csl.specs.Reckoning as Open
use Rattle.csl.specs.Reckoning.{Reckoning}
use Rattle.csl.specs.Table.{Run}
use Rattle.csl.specs.Run.{unfit, fit, fit_of}

-- of a clause that is activated and, in an else, then follows this same reading
pub record Tally : Type 0 where
  -- it is fulfilled as soon as it is activated
  pub at_once : Bool
  -- the clauses activated with it, itself among them (of a table: the units read)
  pub activated : ℕ
  -- the clauses that its waits activate beyond these when they follow the reading
  pub further : ℕ

unfoldable pub total : Tally → ℕ
total x = x.activated + x.further

-- paper 01, activating: "Fulfilled beside `and` vanishes; fulfilled on either side of `or` fulfils it."
unfoldable pub both_at_once : Join → Bool → Bool → Bool
both_at_once and l r = l && r
both_at_once or l r = l || r

-- a join that is fulfilled as soon as it is activated leaves nothing that waits: both sides have been activated, and
-- neither follows the reading
unfoldable pub tally_join : Join → Tally → Tally → Tally
tally_join j l r =
    let once = both_at_once j l.at_once r.at_once in record {
      at_once = once;
      activated = l.activated + r.activated;
      further = elim once [ true ↦ 0 | false ↦ l.further + r.further ];
    }

unfoldable pub nothing_yet : Bool → Tally
nothing_yet once = record { at_once = once; activated = 0; further = 0 }

-- one more clause, or unit of the table
unfoldable pub one_more : Tally → Tally
one_more x = record { at_once = x.at_once; activated = suc x.activated; further = x.further }

-- a wait that the reading ends: what its `then` or its else activates is further
unfoldable pub all_further : Tally → Tally
all_further x = record { at_once = false; activated = 0; further = total x }

abbrev pub tallies : Reckoning Tally
tallies = record {
  ends = nothing_yet true;
  breaks = λ t ps. nothing_yet false;
  waits = λ s p a e. nothing_yet false;
  joins = tally_join;
  stops = nothing_yet false;
  reaches = one_more;
  becomes = all_further;
}

-- of the units of a running table
unfoldable pub follow_cost : Agreement → Reading → Residue → ℕ
follow_cost a d res = total (Open.follow tallies a d res)

-- "On a fulfilled or breached table [..] the count is 0"; "on 11 it is the refused reading's": it is the same whether
-- or not what the reading reaches is kept
unfoldable pub cost_from : Agreement → Outcome → Reading → ℕ
cost_from a done d = 0
cost_from a (breach t ps) d = 0
cost_from a (running res) d = follow_cost a d res
cost_from a stuck d = 0

-- "and on a refusal other than 11, the count is 0"
unfoldable pub cost_of : Agreement → Run → List ℕ → ℕ
cost_of a r bytes = elim (fit_of a r.last_time bytes) [ unfit n ↦ 0 | fit d ↦ cost_from a r.outcome d ]

-- what a proof by computation unfolds
unfoldable pub computes : Unit {0}
unfolding total both_at_once tally_join nothing_yet one_more all_further follow_cost cost_from cost_of
computes = tt
