-- Paper 02, No. 4: what the members of a party set are counted by, and what a call of `parties::PartySet::count` gives.
use mathlib.Core.List.{List}
use mathlib.Core.Logic.{◌⊎◌}
use mathlib.Core.Path.{◌≡◌}
use mathlib.Core.Bool.{true}
use Prim.Native.Nat.{ℕ, ◌+◌, ◌*◌, ◌≤◌, ◌<◌}
use lib.Count.{ones}
use contract.Lifetimes.{Lfts}
use borrow.Fn.Kinds.{Dens, ended_of}
use denote.Triple.Clauses.{AtExit}
use Rattle.csl.specs.Parties.{member, member_count, bits_from, bits_of}
use Rattle.parties.specs.Masks.{mask_of}
use Rattle.parties.proofs.Counts.{counts}
use Rattle.parties.proofs.set.PartySet.count.Kinds as count-kinds
use Rattle.parties.proofs.set.PartySet.count.Reads as count

-- every member is a party or a party parameter
abbrev Members : List ℕ → Type 0
Members ps = (p : ℕ) → member p ps ≡ true → (p < 16) ⊎ ((128 ≤ p) × (p < 132))

-- bit n for party n, bit 16 + n for the party parameter n
abbrev bits : List ℕ → ℕ
bits ps = bits_from 16 0 ps + 65_536 * bits_from 4 128 ps

-- "for every set, parameters too, it is the number of members in the definitions"
counted : (ps : List ℕ) → Members ps → ones (bits ps) ≡ member_count ps
unfolding mask_of bits_of
counted ps v = counts.counted ps (record { each = v })

-- what a call gives is that count
calls : (κs : Lfts 0) (given : Dens {n = 0} κs count-kinds.ps) (r : ℕ)
    (left : AtExit (ended_of 0 count-kinds.ps count-kinds.r) κs)
    → count.Post κs given r left
    → (r ≡ ones given.0) × ((ps : List ℕ) → Members ps → given.0 ≡ bits ps → r ≡ member_count ps)
unfolding mask_of bits_of
calls κs given r left meets = (meets.0, λ ps v e. meets.1 ps (record { each = v }) e)

-- the bits of every set are below 2^20, and every number below it is the bits of a set
fits : (ps : List ℕ) → bits ps < 1_048_576
unfolding mask_of bits_of
fits = counts.fits

reached : (n : ℕ) → n < 1_048_576 → (ps : List ℕ) × Members ps × (bits ps ≡ n)
unfolding mask_of bits_of
reached n h = let r = counts.reached n h in (r.0, r.1.each, r.2)
