-- The template lies below the bound and the bytes are used up exactly, so its values and parties are those of the
-- instance.
use Rattle.activation.proofs.Walks.{instance_past, instance_bad, instance_is}
use Rattle.activation.proofs.instances.instance.Goals as goal

pub returns-then-number-below : goal.returns-then-number-below
returns-then-number-below c = λ m place ps vs a d.
    instance_past m c.args.agreement.now c.args.below c.args.s.now place ps vs a d c.byte-number.ensures.0
    c.if-number-below.true

pub returns-then-parties-param_count : goal.returns-then-parties-param_count
returns-then-parties-param_count c = λ m place ps vs a d.
    instance_bad m c.args.agreement.now c.args.below c.args.s.now place ps vs a d c.value_count.ensures.few.1 c.requires
    c.byte-number.ensures.0 c.if-number-below.false c.value_count.ensures.many c.arguments_end-parties.ensures.0
    c.param_count.ensures.0 c.if-parties-param_count.true

pub returns : goal.returns
returns c = λ m place ps vs a d.
    instance_is m c.args.agreement.now c.args.below c.args.s.now place ps vs a d c.value_count.ensures.few.1 c.requires
    c.byte-number.ensures.0 c.if-number-below.false c.value_count.ensures.many c.arguments_end-parties.ensures.0
    c.param_count.ensures.0 c.param_count.ensures.1 c.if-parties-param_count.false
