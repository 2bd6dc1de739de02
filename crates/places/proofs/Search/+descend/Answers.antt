-- Each step goes to the part that holds the place, and the bytes of that part are fewer.
use mathlib.Core.Path.{◌≡◌, ap, ◌∙◌}
use Rattle.std.proofs.Common.{Some}
use Rattle.places.specs.declared.Step.TheVariants.{Into}
use Rattle.places.proofs.Steps.{typed_room}
use Rattle.places.proofs.Descents.{descent_absent, descent_here, into_typed, into_room, descent_into}
use Rattle.arith.proofs.Lists.{length_part}
use native.Mathlib.Omega.{arith}
use Prim.Native.Nat.{ℕ, ◌≤◌}
use lib.ListN.{length}
use Rattle.places.proofs.Search.+descend.Goals as goal
use Rattle.places.proofs.Search.+descend.Goals.{In-Into}

-- where the next part is
into : (t : ℕ) (c : In-Into t) → c.step_down.result ≡ Some (Into c.in-Into.from c.in-Into.to)
into t c = c.in_ok-wait.was ∙ ap Some c.in-Into.is

room : (t : ℕ) (c : In-Into t) → (4 ≤ c.in-Into.from) × (c.in-Into.from ≤ c.in-Into.to)
    × (c.in-Into.to ≤ length c.args.s.now)
room t c = into_room c.step_down.ensures (into t c) c.requires.typed

pub returns-in_err-wait : goal.returns-in_err-wait
returns-in_err-wait t c = rw c.from_residual.ensures (descent_absent c.step_down.ensures c.in_err-wait.was)

pub slice_bounds-part-count : goal.slice_bounds-part-count
slice_bounds-part-count t c = omega (arith, room t (goal.at.slice_bounds-part-count t c).In-Into)

pub slice_bounds-part-start : goal.slice_bounds-part-start
slice_bounds-part-start t c = omega (arith, room t (goal.at.slice_bounds-part-start t c).In-Into)

pub slice_bounds-part-end : goal.slice_bounds-part-end
slice_bounds-part-end t c = omega (arith, room t (goal.at.slice_bounds-part-end t c).In-Into)

pub overflow_add-base : goal.overflow_add-base
overflow_add-base t c = omega (arith, room t (goal.at.overflow_add-base t c).In-Into, c.requires.fits)

pub descend-requires : goal.descend-requires
descend-requires t c =
    let i = (goal.at.descend-requires t c).In-Into in
    let r = room t i in
    let l = length_part c.args.s.now c.in-Into.from c.in-Into.to r.2 in (
      omega (arith, typed_room c.requires.typed),
      record {
        typed = into_typed c.step_down.ensures (into t i) c.requires.typed;
        fits = omega (arith, c.requires.fits);
      },
    )

pub returns-in-Here : goal.returns-in-Here
returns-in-Here t c = descent_here c.step_down.ensures (c.in_ok-wait.was ∙ ap Some c.in-Here.is)

pub returns-in-Into : goal.returns-in-Into
returns-in-Into t c = descent_into c.step_down.ensures (into t (goal.at.returns-in-Into t c).In-Into) c.descend.ensures
