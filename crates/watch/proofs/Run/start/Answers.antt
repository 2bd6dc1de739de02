-- `start` is right: the line that `begin` tells is put.
use Rattle.std.proofs.Common.{refl}
use Rattle.watch.proofs.Begun.{starts}
use Rattle.watch.proofs.Run.start.Goals as goal

pub returns : goal.returns
returns c =
    starts c.args.self.now _ c.begin-told.result c.begin-told.ensures c.requires c.put_on.ensures c.goes_on.ensures refl
    refl refl
