-- Each expression begins where the one before ends.
use Rattle.activation.proofs.Arguments.{ends_all, ends_within}
use Rattle.std.proofs.lemmas.Iterator.{YieldsList-from_range}
use Rattle.std.proofs.lemmas.Iterator.Consumers.{fold_from_yields_List}
use mathlib.Core.Path.{◌≡◌, refl, ◌∙◌}
use native.Mathlib.Omega.{arith}
use borrow.Author.Rules.{rules}
use Rattle.csl.specs.Bytes.{record_end}
use Rattle.csl.specs.Decode.{records_end}
use Rattle.activation.proofs.instances.arguments_end.Goals as goal

pub returns : goal.returns
returns c =
    let s = c.args.s.now in
    let each = YieldsList-from_range 0 c.args.n c.args.n refl (omega arith) in
    let is : c.fold.result ≡ records_end c.args.n s 5 =
    fold_from_yields_List _ (λ a k. record_end s a) 5 c.fold.result c.fold.ensures.ran each (λ a x b q k. search rules)
    ∙ ends_all s c.args.n 0 5 in
    (is, rw is (ends_within s c.args.n 5))
