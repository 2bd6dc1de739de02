-- A party's bit stands at its number; above 15 there is none.
use Rattle.parties.proofs.Masks.{bit_party, bit_none}
use Rattle.parties.proofs.set.PartySet.of.Goals as goal

pub returns-then-p-lt-PARTIES : goal.returns-then-p-lt-PARTIES
returns-then-p-lt-PARTIES c = bit_party c.args.p c.if-p-lt-PARTIES.true c.bit.ensures

pub returns-else-p-lt-PARTIES : goal.returns-else-p-lt-PARTIES
returns-else-p-lt-PARTIES c = rw c.empty.ensures (bit_none c.args.p c.if-p-lt-PARTIES.false)
