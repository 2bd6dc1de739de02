-- After i turns the first i types stand behind those that were there.
use native.Mathlib.Numerals.{add-one}
use native.Mathlib.Omega.{arith}
use mathlib.Core.Path.{sym, ap, ◌∙◌}
use mathlib.Core.List.{[], ◌∷◌, ◌++◌, append-nil, append_assoc}
use lib.ListN.{length, get_or, take, length-append}
use lib.Seq.{take-suc, take_all, length-take-le}
use Rattle.places.specs.Sight.{types_in}
use Rattle.places.proofs.sight.SightTypes.extend.Goals as goal

pub loop-i-init : goal.loop-i-init
loop-i-init c = sym (append-nil (types_in c.args.self.now))

pub push-requires : goal.push-requires
push-requires c =
    let i = c.loop-i.i in
    let types = c.args.types.now in
    omega (
      arith,
      ap length c.loop-i.invariant,
      length-append (types_in c.args.self.now) (take i types),
      length-take-le i types (omega arith),
      c.requires,
      c.loop-i-test.true,
    )

pub loop-i-preserved : goal.loop-i-preserved
loop-i-preserved c =
    let i = c.loop-i.i in
    let types = c.args.types.now in
    let own = types_in c.args.self.now in
    let ty = get_or types i 0 in
    c.push.ensures
    ∙ ap (λ l. l ++ (ty ∷ [])) c.loop-i.invariant
    ∙ append_assoc own (take i types) (ty ∷ [])
    ∙ rw (add-one i) (ap (λ l. own ++ l) (sym (take-suc types i 0 c.loop-i-test.true)))

pub returns : goal.returns
returns c =
    let i = c.loop-i.i in
    let types = c.args.types.now in
    c.loop-i.invariant ∙ ap (λ l. types_in c.args.self.now ++ l) (take_all i types (omega arith))
