-- A join that is fulfilled at once adds nothing further; any other adds what its sides add.
use mathlib.Core.Path.{refl}
use native.Mathlib.Omega.{arith}
use Rattle.kinds.specs.Kinds.{join_in}
use Rattle.residues.proofs.Counts.{join_once, join_later}
use Rattle.residues.proofs.tallies.join_tallies.Goals as goal
use Rattle.residues.proofs.tallies.join_tallies.Goals.{then-once, else-once}

pub returns : goal.returns
returns c = record {
  is = λ x y h k. elim c.if-once.branch [
    | then-once w ↦ join_once (join_in c.args.join) h k _ c.both_at_once-once.ensures refl
        (omega (arith, c.min-activated.ensures)) w.if-once.true w.result-is
    | else-once w ↦ join_later (join_in c.args.join) h k _ c.both_at_once-once.ensures refl
        (omega (arith, c.min-activated.ensures)) w.if-once.false (omega (arith, w.result-is, c.min-further.ensures))
  ];
}
