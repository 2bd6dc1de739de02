-- Beside what is fulfilled an `and` becomes what its other side becomes; the join and both sides are counted.
use mathlib.Core.Path.{refl}
use Rattle.residues.specs.Tallies.{ended_by}
use Rattle.residues.proofs.Counts.{reckons_beside}
use Rattle.residues.proofs.Reckoned.beside_ended.Goals as goal

pub returns : goal.returns
unfolding ended_by
returns c = record {
  is = λ x out h. reckons_beside h _
      (c.join_tallies-tally.ensures.is (ended_by 1).tally x.tally
      (record { once = refl; activated = refl; further = refl }) h.tally);
}
