-- At its own place it is found; any other place of it is in its `then`.
use mathlib.Core.Path.{refl, sym}
use Rattle.places.proofs.Steps.{typed_room, obligation_here, obligation_sees, obligation_into}
use Rattle.places.specs.Locate.{StepAt}
use Rattle.places.specs.Sight.{types_in}
use Rattle.places.proofs.Search.from_obligation.Goals as goal

pub returns-then-self-base : goal.returns-then-self-base
unfolding StepAt
returns-then-self-base c =
    record {
      each = λ d t. (
        obligation_here c.args.self.now.place (types_in c.args.sight.now) t (sym c.requires.is_obligation) refl
            c.if-self-base.true,
        refl,
      );
    }

pub first_clause-c-requires : goal.first_clause-c-requires
first_clause-c-requires c = typed_room c.requires.stands.typed

pub then_sight-requires : goal.then_sight-requires
then_sight-requires c =
    record {
      sees = rw c.byte.ensures.0 (obligation_sees c.args.self.now.place (types_in c.args.sight.now)
          c.requires.stands.typed.at (sym c.requires.is_obligation) refl);
    }

pub returns : goal.returns
unfolding StepAt
returns c =
    record {
      each = λ d t. obligation_into c.args.self.now.place (types_in c.args.sight.now) t
          (sym c.requires.is_obligation) (types_in c.then_sight.new.sight) refl c.if-self-base.false
          c.first_clause-c.ensures.0 c.byte.ensures.0 c.then_sight.ensures;
    }
