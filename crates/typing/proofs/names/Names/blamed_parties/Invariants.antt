use Rattle.csl.specs.Bytes.{byte}
use Rattle.typing.proofs.Instances.{Blamed}
use Rattle.typing.proofs.names.Names.blamed_parties.Given as goal

abbrev pub invariant-loop-blame : goal.invariant-loop-blame
invariant-loop-blame l = Blamed (byte l.self.agreement.now 8) l.self.params l.blames l.blame-index l.found
