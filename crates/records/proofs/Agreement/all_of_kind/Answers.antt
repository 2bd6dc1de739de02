-- The chain asks of each template's kind what the definition asks.
use mathlib.Core.Path.{refl, ◌∙◌}
use mathlib.Core.Bool.{Bool}
use Prim.Native.Nat.{ℕ}
use lib.Dec.{eqb}
use native.Mathlib.Omega.{arith}
use Rattle.std.proofs.Common.{rules, tests}
use Rattle.std.proofs.lemmas.Iterator.{YieldsList-from_range}
use Rattle.std.proofs.lemmas.Iterator.Search.{all_from_yields_List}
use Rattle.csl.specs.Bytes.{kind_number}
use Rattle.records.specs.Index.{piece_at, template_place}
use Rattle.records.proofs.Index.{kinds_ranged}
use Rattle.records.proofs.Agreement.all_of_kind.Goals as goal

pub returns : goal.returns
returns c =
    let s = c.args.self.now in
    let n = c.template_count.result in
    let of_kind : ℕ → Bool = λ k. eqb (kind_number (piece_at s (template_place s k))) c.args.wanted in (
      all_from_yields_List of_kind c.all.new.self _ c.all.result c.all.ensures.ran
          (YieldsList-from_range 0 n n refl (omega arith)) (λ x b q k. search (rules, tests))
          ∙ kinds_ranged s c.args.wanted c.template_count.ensures.0,
      c.template_count.ensures.2,
    )
