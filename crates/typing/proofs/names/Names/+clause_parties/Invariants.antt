use Rattle.typing.proofs.names.Names.+clause_parties.Given as goal

abbrev pub decreases-clause_parties : goal.decreases-clause_parties
decreases-clause_parties l = l.depth
