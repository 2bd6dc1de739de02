-- The main clause stands where its place is, and nothing is in sight of it.
use Rattle.activation.proofs.Recursion.{stood}
use Rattle.waits.specs.declared.Event.TheVariants.{Activate}
use Rattle.reduction.proofs.Main.{main_is}
use Rattle.reduction.proofs.activate_main.Goals as goal

pub returns : goal.returns
returns c =
    main_is c.args.agreement.now _ _
    (rw (stood Activate c.new-main.ensures, c.main_place.ensures.0, c.start.ensures.0, c.main.ensures.0) at
    c.activate.ensures)
