-- A party's bit stands at its number and a parameter's 16 places above its own, and no other byte has one.
use Rattle.parties.proofs.Masks.{allowed_party, allowed_param}
use Rattle.parties.proofs.set.PartySet.of_blame.Goals as goal

pub returns-then-b-parties : goal.returns-then-b-parties
returns-then-b-parties c = let a = c.args in
    allowed_party a.parties a.params a.b c.requires.0 c.if-b-parties.true c.bit.ensures

pub returns-then-contains : goal.returns-then-contains
returns-then-contains c = let a = c.args in
    allowed_param a.parties a.params a.b c.if-b-parties.false c.contains.ensures.value c.requires.1 c.if-contains.true
    c.bit-then-contains.ensures
