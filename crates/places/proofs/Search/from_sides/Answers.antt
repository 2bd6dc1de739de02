-- Places increase in the order of the bytes, so the end of the first side tells which one has the place.
use Rattle.places.proofs.Steps.{sides_left, sides_right}
use Rattle.places.specs.Locate.{StepAt}
use Rattle.places.proofs.Search.from_sides.Goals as goal

pub returns-then-self-base : goal.returns-then-self-base
unfolding StepAt
returns-then-self-base c =
    λ a types. record {
      each = λ d t. sides_left c.args.self.now.place types t c.requires.1 c.sides_at-c.ensures.first.0
          c.sides_at-c.ensures.second.0 c.requires.2 c.requires.3 c.if-self-base.true;
    }

pub returns : goal.returns
unfolding StepAt
returns c =
    λ a types. record {
      each = λ d t. sides_right c.args.self.now.place types t c.requires.1 c.sides_at-c.ensures.first.0
          c.sides_at-c.ensures.second.0 c.requires.2 c.requires.3 c.if-self-base.false;
    }
