-- At its own place it is found; the end of its `then` tells which part has any other place of it.
use mathlib.Core.Path.{refl, sym}
use native.Mathlib.Omega.{arith}
use Rattle.places.proofs.Steps.{typed_room, choice_here, choice_sees, choice_then, choice_else}
use Rattle.places.specs.Locate.{StepAt}
use Rattle.places.specs.Sight.{types_in}
use Rattle.places.proofs.Search.from_choice.Goals as goal

pub returns-then-self-base : goal.returns-then-self-base
unfolding StepAt
returns-then-self-base c =
    record {
      each = λ d t. (
        choice_here c.args.self.now.place (types_in c.args.sight.now) t (sym c.requires.is_choice) refl
            c.if-self-base.true,
        refl,
      );
    }

pub sides_at-c-requires : goal.sides_at-c-requires
sides_at-c-requires c = typed_room c.requires.stands.typed

pub then_sight-requires : goal.then_sight-requires
then_sight-requires c =
    record {
      sees = rw c.byte.ensures.0 (choice_sees c.args.self.now.place (types_in c.args.sight.now)
          c.requires.stands.typed.at (sym c.requires.is_choice) c.sides_at-c.ensures.first.0
          c.sides_at-c.ensures.second.0 refl);
    }

pub returns-then-self-base-2 : goal.returns-then-self-base-2
unfolding StepAt
returns-then-self-base-2 c =
    record {
      each = λ d t. choice_then c.args.self.now.place (types_in c.args.sight.now) t
          (sym c.requires.is_choice) c.sides_at-c.ensures.first.0 c.sides_at-c.ensures.second.0
          (types_in c.then_sight.new.sight) refl c.if-self-base.false c.if-self-base-2.true c.byte.ensures.0
          c.then_sight.ensures;
    }

pub returns : goal.returns
unfolding StepAt
returns c =
    record {
      each = λ d t. choice_else c.args.self.now.place (types_in c.args.sight.now) t
          (sym c.requires.is_choice) c.sides_at-c.ensures.first.0 c.sides_at-c.ensures.second.0 refl
          c.if-self-base.false c.if-self-base-2.false;
    }

pub overflow_add-base : goal.overflow_add-base
overflow_add-base c = omega (arith, c.requires.stands.fits, c.sides_at-c.ensures.second)
