-- The bit of the party that the blame byte stands for; a cell below 0 is no party.
use Rattle.activation.proofs.Arguments.{by_cell, bits_party, bits_below}
use mathlib.Core.Path.{◌≡◌, ◌∙◌}
use mathlib.Core.List.{[], ◌∷◌}
use borrow.Author.Rules.{rules}
use Rattle.arith.proofs.Ints.{read! }
use Rattle.csl.specs.Parties.{bits_of}
use Rattle.activation.proofs.blames.blame_bits.Goals as goal

pub returns : goal.returns
returns c =
    let x = c.blamed in
    by_cell c.try_from.result c.map_or.ensures (λ n e m.
    let is : c.map_or.result ≡ bits_of (n ∷ []) = (search rules) in
    is ∙ bits_party c.args.params.now c.args.b x.result x.ensures (rw (e, read! x.type_inv) at c.try_from.ensures))
    (λ f e m. m ∙ c.empty.ensures
    ∙ bits_below c.args.params.now c.args.b x.result x.ensures x.type_inv
    (rw (e, read! x.type_inv) at c.try_from.ensures))
