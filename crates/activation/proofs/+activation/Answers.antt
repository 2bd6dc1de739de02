-- Each activation within another falls in the pair of template number and clause size, or takes no reading where the
-- one around it did; what its answer says of a part, with the clause itself counted, is what the rules say of the
-- whole.
use Rattle.activation.proofs.Recursion.{lighter_within, heavy, stood}
use Rattle.activation.proofs.Recursion.{few_sorts}
use Rattle.activation.proofs.Recursion.{reckons_as, reckons_by, reckons_broken, reckons_waiting, reckons_laid}
use Rattle.activation.proofs.Walks.{then_is}
use native.Mathlib.Omega.{arith}
use mathlib.Core.Path.{◌≡◌, ap, ◌∙◌}
use mathlib.Core.List.{List}
use lib.IntN.{ℤ, pos, ◌-ℤ◌}
use lib.ListN.{length, length-take}
use Prim.Native.Nat.{ℕ, ◌+◌, ◌-◌}
use borrow.Author.Rules.{rules}
use Rattle.csl.specs.Bytes.{part}
use Rattle.csl.specs.Syntax as syntax
use Rattle.csl.specs.Decode.{clause, heads_of}
use Rattle.arith.proofs.Ints.{read! }
use Rattle.arith.proofs.Lists.{length_part}
use Rattle.kinds.specs.Kinds.{wait_number}
use Rattle.waits.specs.Fates.{mode_at}
use Rattle.cells.specs.Reduce as cells
use Rattle.cells.specs.Reduce.{unit_of, then_values}
use Rattle.residues.specs.Tallies.{Reckons, ended_by}
use Rattle.activation.specs.Leads.{Leads, Shaped, part_reckoned}
use Rattle.readings.specs.Values.{values_read}
use Rattle.activation.proofs.+activation.Goals as goal
use Rattle.activation.proofs.+activation.Goals.{both-After-activate-l}

-- ---- act: what the clause leads to decides
-- what a wait makes of its `then` or its else
abbrev later : cells.Reckoned → cells.Reckoned
later x = cells.reaches (cells.becomes x)

-- a waiting unit
pub act-put_unit-unit-requires : goal.act-put_unit-unit-requires
act-put_unit-unit-requires t c =
    let h = c.args.placed.now.clause in (
      rw c.from-sort.ensures (few_sorts c.in-Waits.sort),
      omega (arith, c.args.placed.now.inside),
      omega (arith, h.soon),
      omega (arith, h.params_fit),
    )

-- a side that is picked
pub act-part-side-requires : goal.act-part-side-requires
unfolding Leads
act-part-side-requires t c = let g = c.in-Picks.ensures in (g.deep, g.order, g.inside, g.soon)

pub act-activate-requires : goal.act-activate-requires
unfolding Leads
act-activate-requires t c =
    let h = c.args.placed.now.clause in
    let g = c.in-Picks.ensures in
    let e = c.part-side.ensures in
    let n = length_part h.bytes.now c.in-Picks.from c.in-Picks.to g.inside in
    omega (
      arith,
      c.decreases,
      lighter_within c.args.event h.site c.in-Picks.from h.site.a e.site (length c.part-side.result.clause.bytes.now)
          (length h.bytes.now) (omega (arith, ap length e.bytes, n, g.past, g.order, g.inside)),
    )

-- an else
pub act-part-otherwise-requires : goal.act-part-otherwise-requires
unfolding Leads
act-part-otherwise-requires t c = let g = c.in-Lapses.ensures in (g.deep, g.order, g.inside, g.soon)

pub act-activate-requires-in-Lapses : goal.act-activate-requires-in-Lapses
unfolding Leads
act-activate-requires-in-Lapses t c =
    let h = c.args.placed.now.clause in
    let g = c.in-Lapses.ensures in
    let e = c.part-otherwise.ensures in
    let n = length_part h.bytes.now c.in-Lapses.from c.in-Lapses.to g.inside in
    omega (
      arith,
      c.decreases,
      lighter_within c.args.event h.site c.in-Lapses.from c.in-Lapses.at e.site
          (length c.part-otherwise.result.clause.bytes.now) (length h.bytes.now)
          (omega (arith, ap length e.bytes, n, g.past, g.order, g.inside)),
    )

-- a `then`
pub act-taken-requires : goal.act-taken-requires
unfolding Leads
act-taken-requires t c =
    let h = c.args.placed.now.clause in
    let g = c.in-Takes.ensures in
    let m = read! {z = c.in-Takes.last} (search rules) in (
      omega (arith, c.decreases, heavy c.args.event g.follows h.site (length h.bytes.now)),
      (g.deep, g.order, g.inside, rw m g.near),
    )

-- a template
pub act-unfold-requires : goal.act-unfold-requires
unfolding Leads
act-unfold-requires t c =
    let g = c.in-Unfolds.ensures in (
      omega (arith, c.decreases),
      record { less = g.less; deep = c.requires.deep; inside = g.inside; few = g.few },
    )

pub act-returns-in-Ends : goal.act-returns-in-Ends
unfolding Leads
act-returns-in-Ends t c = reckons_as c.in-Ends.ensures (c.ended.ensures c.args.out.now)

pub act-returns-in-Breaks : goal.act-returns-in-Breaks
unfolding Leads
act-returns-in-Breaks t c = reckons_broken c.alone.ensures c.args.out.now c.in-Breaks.ensures

pub act-returns-in-Waits : goal.act-returns-in-Waits
unfolding Leads
act-returns-in-Waits t c =
    let h = c.args.placed.now.clause in
    reckons_waiting c.alone-in-Waits.ensures c.put_unit-unit.new.out
    (unit_of (wait_number c.in-Waits.sort) h.site.place h.site.a h.params.now h.values.cells.now) c.in-Waits.ensures
    (rw c.from-sort.ensures at c.put_unit-unit.ensures)

pub act-returns-in-Picks : goal.act-returns-in-Picks
unfolding Leads
act-returns-in-Picks t c =
    reckons_by cells.reaches c.in-Picks.ensures.is (rw (stood c.args.event c.part-side.ensures) at c.activate.ensures)
    (search rules)

pub act-returns-in-Takes : goal.act-returns-in-Takes
unfolding Leads
act-returns-in-Takes t c =
    let h = c.args.placed.now.clause in
    let r = c.in-Takes.reading.now in
    let m = read! {z = c.in-Takes.last} (search rules) in
    let us = then_values h.values.cells.now (values_read r) (c.in-Takes.last -ℤ pos r.time) in
    let activated = then_is h.agreement.now (clause (heads_of h.agreement.now) (h.site.depth - 1)
    (h.site.place + c.in-Takes.from) (part h.bytes.now c.in-Takes.from c.in-Takes.to)) h.params.now us r.time in
    reckons_by later (c.in-Takes.ensures.is ∙ ap later activated) (rw m at c.taken.ensures) c.ended_wait.ensures

pub act-returns-in-Lapses : goal.act-returns-in-Lapses
unfolding Leads
act-returns-in-Lapses t c =
    reckons_by later c.in-Lapses.ensures.is
    (rw (stood c.args.event c.part-otherwise.ensures) at c.activate-in-Lapses.ensures) (search rules)

pub act-returns-in-Unfolds : goal.act-returns-in-Unfolds
unfolding Leads
act-returns-in-Unfolds t c =
    reckons_by cells.reaches c.in-Unfolds.ensures.is c.«unfold».ensures (search rules)

-- ---- activate: what the record shows decides
pub activate-ended-requires : goal.activate-ended-requires
unfolding Shaped
activate-ended-requires t c =
    let h = c.args.placed.now.clause in
    let g = c.in-Ends.ensures (mode_at c.args.event) h.agreement.now h.site.below h.site.place h.params.now
    h.values.cells.now h.site.a in
    omega (arith, g.1)

pub activate-part-side-requires : goal.activate-part-side-requires
unfolding Shaped
activate-part-side-requires t c =
    let h = c.args.placed.now.clause in
    let g = c.in-Goes.ensures (mode_at c.args.event) h.agreement.now h.site.below h.site.place h.params.now
    h.values.cells.now h.site.a in
    (g.deep, g.order, g.inside, g.soon)

pub activate-activate-requires : goal.activate-activate-requires
unfolding Shaped
activate-activate-requires t c =
    let h = c.args.placed.now.clause in
    let g = c.in-Goes.ensures (mode_at c.args.event) h.agreement.now h.site.below h.site.place h.params.now
    h.values.cells.now h.site.a in
    let e = c.part-side.ensures in
    let n = length_part h.bytes.now c.in-Goes.from c.in-Goes.to g.inside in
    omega (
      arith,
      c.decreases,
      lighter_within c.args.event h.site c.in-Goes.from h.site.a e.site (length c.part-side.result.clause.bytes.now)
          (length h.bytes.now) (omega (arith, ap length e.bytes, n, g.past, g.order, g.inside)),
    )

pub activate-both-requires : goal.activate-both-requires
unfolding Shaped
activate-both-requires t c =
    let h = c.args.placed.now.clause in
    let g = c.in-Joins.ensures (mode_at c.args.event) h.agreement.now h.site.below h.site.place h.params.now
    h.values.cells.now h.site.a in
    (omega (arith, c.decreases), record { deep = g.deep; order = g.order; inside = g.inside })

pub activate-act-requires : goal.activate-act-requires
unfolding Shaped
activate-act-requires t c =
    let h = c.args.placed.now.clause in
    let g = c.in-Acts.ensures (mode_at c.args.event) h.agreement.now h.site.below h.site.place h.params.now
    h.values.cells.now h.site.a in
    (omega (arith, c.decreases), g)

pub activate-returns-in-Ends : goal.activate-returns-in-Ends
unfolding Shaped
activate-returns-in-Ends t c =
    let h = c.args.placed.now.clause in
    let g = c.in-Ends.ensures (mode_at c.args.event) h.agreement.now h.site.below h.site.place h.params.now
    h.values.cells.now h.site.a in
    reckons_as g.0 (c.ended.ensures c.args.out.now)

pub activate-returns-in-Goes : goal.activate-returns-in-Goes
unfolding Shaped
activate-returns-in-Goes t c =
    let h = c.args.placed.now.clause in
    let g = c.in-Goes.ensures (mode_at c.args.event) h.agreement.now h.site.below h.site.place h.params.now
    h.values.cells.now h.site.a in
    reckons_by (λ x. cells.reaches (cells.joins syntax.and (ended_by 1) x)) g.is
    (rw (stood c.args.event c.part-side.ensures) at c.activate.ensures) (search rules)

pub activate-returns-in-Joins : goal.activate-returns-in-Joins
unfolding Shaped
activate-returns-in-Joins t c =
    let h = c.args.placed.now.clause in
    let g = c.in-Joins.ensures (mode_at c.args.event) h.agreement.now h.site.below h.site.place h.params.now
    h.values.cells.now h.site.a in
    reckons_as g.is c.both.ensures

-- ---- both: the right side's answer, then the left side's
module _ (t : ℕ) where
  -- the cells after each side
  abbrev right_out : both-After-activate-l t → List ℤ
  right_out c = c.activate-r.new.out

  abbrev left_out : both-After-activate-l t → List ℤ
  left_out c = c.activate-l.new.out

  left_room : (c : both-After-activate-l t) → length (left_out c) ≡ c.room_left-room.result
  left_room c = omega (
    arith,
    length-take c.room_left-room.result (right_out c),
    c.room_left-room.ensures.1,
    c.activate-l.auto.out,
  )

  right_answer : (c : both-After-activate-l t) → let h = c.args.placed.now.clause in
      Reckons (part_reckoned c.args.event h c.args.f (length h.bytes.now) h.site.a) c.activate-r.result (right_out c)
  right_answer c = rw (stood c.args.event c.part-right.ensures) at c.activate-r.ensures

  left_answer : (c : both-After-activate-l t) → let h = c.args.placed.now.clause in
      Reckons (part_reckoned c.args.event h 4 c.args.f h.site.a) c.activate-l.result (left_out c)
  left_answer c = rw (stood c.args.event c.part-left.ensures) at c.activate-l.ensures

pub both-part-right-requires : goal.both-part-right-requires
both-part-right-requires t c = let d = c.requires in (d.deep, d.inside, omega arith, omega arith)

pub both-part-left-requires : goal.both-part-left-requires
both-part-left-requires t c = let d = c.requires in (d.deep, d.order, d.inside, omega arith)

pub both-returns : goal.both-returns
both-returns t c =
    let left = (goal.at.both-returns t c).After-activate-l in
    let room = c.room_left-room in
    reckons_laid (right_out t left) (left_out t left) room.result room.ensures.0 room.ensures.1
    (left_room t left) c.join.ensures c.join_tallies-tally.ensures
    (left_answer t left) (right_answer t left)
