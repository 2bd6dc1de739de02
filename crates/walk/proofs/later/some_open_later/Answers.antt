-- Each unit, with its sight, is what the tree says of it, and what is asked of all is asked of each in turn.
use borrow.Author.Rules.{rules}
use borrow.Author.Tests.{tests}
use mathlib.Core.Path.{sym, ◌∙◌}
use Prim.Native.Nat.{ℕ, ◌-◌, ◌/◌, ◌≤◌, ◌<◌}
use native.Mathlib.Omega.{arith}
use lib.ListN.{length}
use Rattle.laws.proofs.Residues.{some_units}
use Rattle.std.proofs.iter.Yields.{fronts}
use Rattle.std.specs.List.{zip}
use Rattle.std.specs.Slice.Iter.{chunks_exact_steps}
use Rattle.std.proofs.lemmas.Iterator.{YieldsList, zips}
use Rattle.std.proofs.lemmas.Iterator.Adapters.{serves_from_places}
use Rattle.std.proofs.lemmas.Iterator.Search.{any_from_yields_List}
use Rattle.std.proofs.lemmas.List.{take_all}
use Rattle.walk.proofs.Opening.{UnitAt, each_unit, chunks, yields_units, seen_at, opens, some_unit}
use Rattle.walk.proofs.later.some_open_later.Goals as goal
use Rattle.walk.proofs.later.some_open_later.Goals.{Start, After-zip}

each : (c : Start) → let u = c.args.units in (k : ℕ) → k < length u.sights.now
    → UnitAt (length c.args.agreement.now) k u.sights.now u.cells.now
each c k h = let t = c.requires.tree in each_unit _ t.residue _ _ t.stands k (omega (arith, t.count))

-- there are as many chunks
enough : (c : Start) → let u = c.args.units in length u.sights.now ≤ length u.cells.now / 24
enough c =
    let t = c.requires.tree in
    let last = each c (length c.args.units.sights.now - 1) (omega (arith, t.count, some_units t.residue)) in
    omega (arith, last.cells)

-- what `zip` goes through
abbrev items : After-zip → Type 0
items c = let u = c.args.units in
    YieldsList (zips fronts chunks_exact_steps) (λ p. (p.0.now, p.1.now)) c.zip.result
    (zip u.sights.now (chunks (length u.cells.now / 24) u.cells.now))

-- the sights and the cells are gone through whole, as they stand or from 0 on
yielded : (c : After-zip) → items c
yielded c = yields_units c.zip.result _ _ (grind (arith, take_all)) (search rules) (grind (arith, take_all))

pub any-requires-clause-callable : goal.any-requires-clause-callable
any-requires-clause-callable c =
    let u = c.args.units in
    let at = goal.at.any-requires-clause-callable c in
    serves_from_places (yielded at.After-zip) (λ x q r. search rules) (λ x k h e.
    let seen = seen_at (length c.args.agreement.now) (length u.cells.now / 24) u.sights.now u.cells.now
    (enough at.Start) (each at.Start) (x.0.now, x.1.now) k h e in
    search (rules, seen))

pub returns : goal.returns
returns c =
    let u = c.args.units in
    let at = goal.at.returns c in
    let size = length c.args.agreement.now in
    any_from_yields_List (opens c.args.reading.now c.args.agreement.now size) c.any.new.self _ c.any.result
    c.any.ensures.ran (yielded at.After-zip) (λ x b q k. search (rules, tests))
    ∙ sym (some_unit c.args.reading.now c.args.agreement.now size (length u.cells.now / 24) u.sights.now u.cells.now
    (enough at.Start) (each at.Start))
