-- What is reckoned of a clause in csl and the same on cells: the outcome and what is counted; joins, blames and units
-- keep the two the same.
use mathlib.Core.Bool.{Bool, cond, false, true}
use mathlib.Core.List.{List, [], ◌∷◌, ◌++◌}
use mathlib.Core.Option.{Option, some}
use mathlib.Core.Path.{ap, ap₂, refl, subst, sym, ◌∙◌, ◌≡◌}
use Prim.Native.Nat.{◌-◌, suc, zero, ℕ}
use lib.Bits.{bit_or}
use lib.Dec.{ltb}
use lib.IntN.{pos, ℤ}
use lib.ListN.{get_or}
use Rattle.csl.specs.Lists.{◌>>=◌, at}
use Rattle.csl.specs.Parties.{bits_of, is_same_set}
use Rattle.csl.specs.Syntax.{Join, and, or}
use Rattle.csl.specs.Values.{Val}
use Rattle.csl.specs.Outcomes.{Outcome, Sight, Sort, breach, done, earlier, join_both, join_either, joined, later}
use Rattle.csl.specs.Outcomes.{running, stuck}
use Rattle.csl.specs.Reckoning.{Reckoning, or_stops}
use Rattle.csl.specs.Rules.{blamed, blamed_all, outcomes}
use Rattle.csl.specs.Cost.{all_further, one_more, tallies, tally_join}
use Rattle.csl.specs.Table.{cell_of, cells_of, nat_cells, residue_cells, sort_number, cells_of_unit}
use Rattle.laws.proofs.Options.{from_bind, some_bind, some_inj, none_some}
use Rattle.laws.proofs.PartyBits.{bits_append}
use Rattle.cells.specs.Reduce as cells

-- fulfilled as fulfilled, a breach with its parties by bit, a residue as the table holds it; of a stuck outcome, which
-- no typed clause has, nothing is said
unfoldable pub Shows : Outcome → cells.Reduced → Type 0
Shows done r = r ≡ cells.done
Shows (breach t ps) r = r ≡ cells.breach t (bits_of ps)
Shows (running res) r = r ≡ cells.running (residue_cells res)
Shows stuck r = Unit {0}

-- the bits of two sets together are the bits of each, joined
pub bits_or : (ps qs : List ℕ) → bits_of (ps ++ qs) ≡ bit_or (bits_of ps) (bits_of qs)
unfolding bits_of
bits_or ps qs = bits_append 16 0 ps qs

-- ---- joins
earlier_shows : (t u : ℕ) (ps qs : List ℕ) → Shows (earlier t ps u qs) (cells.earlier t (bits_of ps) u (bits_of qs))
unfolding earlier cells.earlier Shows
earlier_shows t u ps qs = go (ltb t u) (ltb u t)
  where
    go : (x y : Bool) → Shows (elim x [
      | true ↦ breach t ps
      | false ↦ elim y [ true ↦ breach u qs | false ↦ breach t (ps ++ qs) ]
    ])
        (cond x (cells.breach t (bits_of ps)) (cond y (cells.breach u (bits_of qs))
        (cells.breach t (bit_or (bits_of ps) (bits_of qs)))))
    go true y = refl
    go false true = refl
    go false false = ap (cells.breach t) (sym (bits_or ps qs))

later_shows : (t u : ℕ) (ps qs : List ℕ) → Shows (later t ps u qs) (cells.later t (bits_of ps) u (bits_of qs))
unfolding later cells.later Shows
later_shows t u ps qs = go (ltb t u) (ltb u t) (is_same_set ps qs)
  where
    go : (x y z : Bool) → Shows (elim x [
      | true ↦ breach u qs
      | false ↦ elim y [ true ↦ breach t ps | false ↦ elim z [ true ↦ breach t ps | false ↦ stuck ] ]
    ])
        (cond x (cells.breach u (bits_of qs)) (cells.breach t (bits_of ps)))
    go true y z = refl
    go false true z = refl
    go false false true = refl
    go false false false = tt

-- what shows two sides, joined on cells, shows the two joined
pub joined_shows : (j : Join) (l r : Outcome) (l' r' : cells.Reduced) → Shows l l' → Shows r r'
    → Shows (joined j l r) (cells.joined j l' r')
unfolding joined join_both join_either Shows cells.joined cells.join_both cells.join_either residue_cells
joined_shows and done r l' r' p q = rw p q
joined_shows and (breach t ps) done l' r' p q = rw (p, q) refl
joined_shows and (breach t ps) (breach u qs) l' r' p q = rw (p, q) (earlier_shows t u ps qs)
joined_shows and (breach t ps) (running r) l' r' p q = rw (p, q) refl
joined_shows and (breach t ps) stuck l' r' p q = tt
joined_shows and (running l) done l' r' p q = rw (p, q) refl
joined_shows and (running l) (breach u qs) l' r' p q = rw (p, q) refl
joined_shows and (running l) (running r) l' r' p q = rw (p, q) refl
joined_shows and (running l) stuck l' r' p q = tt
joined_shows and stuck r l' r' p q = tt
joined_shows or done done l' r' p q = rw p refl
joined_shows or done (breach u qs) l' r' p q = rw p refl
joined_shows or done (running r) l' r' p q = rw p refl
joined_shows or done stuck l' r' p q = tt
joined_shows or (breach t ps) done l' r' p q = rw (p, q) refl
joined_shows or (breach t ps) (breach u qs) l' r' p q = rw (p, q) (later_shows t u ps qs)
joined_shows or (breach t ps) (running r) l' r' p q = rw (p, q) refl
joined_shows or (breach t ps) stuck l' r' p q = tt
joined_shows or (running l) done l' r' p q = rw (p, q) refl
joined_shows or (running l) (breach u qs) l' r' p q = rw (p, q) refl
joined_shows or (running l) (running r) l' r' p q = rw (p, q) refl
joined_shows or (running l) stuck l' r' p q = tt
joined_shows or stuck r l' r' p q = tt

-- ---- blames
at_nat_cell : (ps : List ℕ) (i p : ℕ) → at ps i ≡ some p → get_or (nat_cells ps) i (pos 0) ≡ pos p
unfolding at nat_cells
at_nat_cell [] i p e = none_some e
at_nat_cell (q ∷ ps) zero p e = ap pos (some_inj e)
at_nat_cell (q ∷ ps) (suc i) p e = at_nat_cell ps i p e

-- a blame byte's cell holds the party that it stands for
pub blamed_cell_lem : (params : List ℕ) (b p : ℕ) → blamed params b ≡ some p
    → cells.blamed_cell (nat_cells params) b ≡ pos p
unfolding blamed cells.blamed_cell
blamed_cell_lem params b p = go (ltb b 128)
  where
    go : (x : Bool) → (elim x [ true ↦ some b | false ↦ at params (b - 128) ]) ≡ some p
        → cond x (pos b) (get_or (nat_cells params) (b - 128) (pos 0)) ≡ pos p
    go true e = ap pos (some_inj e)
    go false e = at_nat_cell params (b - 128) p e

pub blame_bits_lem : (params : List ℕ) (b p : ℕ) → blamed params b ≡ some p
    → cells.blame_bits (nat_cells params) b ≡ bits_of (p ∷ [])
unfolding cells.blame_bits cells.party_cell
blame_bits_lem params b p e = ap (λ z. bits_of (cells.party_cell z ∷ [])) (blamed_cell_lem params b p e)

pub blamed_cells_lem : (params bs qs : List ℕ) → blamed_all params bs ≡ some qs
    → cells.blamed_cells (nat_cells params) bs ≡ nat_cells qs
unfolding blamed_all cells.blamed_cells nat_cells
blamed_cells_lem params [] qs e = ap nat_cells (some_inj e)
blamed_cells_lem params (b ∷ bs) qs e =
    from_bind (blamed params b) _ qs e λ p ep q.
    from_bind (blamed_all params bs) _ qs q λ ps eps r.
    ap₂ ◌∷◌ (blamed_cell_lem params b p ep) (blamed_cells_lem params bs ps eps) ∙ ap nat_cells (some_inj r)

-- ---- units
-- a waiting unit on cells
abbrev pub unit_on : Sort → ℕ → ℕ → Sight → List ℤ
unit_on s p a e = cells.unit_of (sort_number s) p a (nat_cells e.params) (cells_of e.values)

-- it is the table's
unit_cells : (s : Sort) (p a : ℕ) (e : Sight) → unit_on s p a e ≡ cells_of_unit s p a e
unfolding cells.unit_of cells_of_unit
unit_cells s p a e = refl

pub cells_++ : (vs ws : List Val) → cells_of (vs ++ ws) ≡ cells_of vs ++ cells_of ws
unfolding cells_of
cells_++ [] ws = refl
cells_++ (v ∷ vs) ws = ap (λ l. cell_of v ∷ l) (cells_++ vs ws)

-- ---- whatever is reckoned in csl: R says when the rules on cells show it, and holds of a whole where it holds of the
-- parts
pub record Matches {A : Type 0} (g : Reckoning A) (R : A → cells.Reckoned → Type 0) : Type 0 where
  pub ends : R g.ends cells.ended
  pub breaks : (t : ℕ) (ps : List ℕ) → R (g.breaks t ps) (cells.broken t (bits_of ps))
  pub waits : (s : Sort) (p a : ℕ) (e : Sight) → R (g.waits s p a e) (cells.waiting (unit_on s p a e))
  pub joins : (j : Join) (l r : A) (x y : cells.Reckoned) → R l x → R r y → R (g.joins j l r) (cells.joins j x y)
  pub reaches : (o : A) (x : cells.Reckoned) → R o x → R (g.reaches o) (cells.reaches x)
  pub becomes : (o : A) (x : cells.Reckoned) → R o x → R (g.becomes o) (cells.becomes x)

pub outcomes_match : Matches outcomes (λ o x. Shows o x.outcome)
unfolding Shows residue_cells cells.ended cells.broken cells.waiting cells.joins cells.reaches cells.becomes
outcomes_match = record {
  ends = refl;
  breaks = λ t ps. refl;
  waits = λ s p a e. ap cells.running (unit_cells s p a e);
  joins = λ j l r x y. joined_shows j l r x.outcome y.outcome;
  reaches = λ o x h. h;
  becomes = λ o x h. h;
}

pub tallies_match : Matches tallies (λ t x. t ≡ x.tally)
unfolding cells.ended cells.broken cells.waiting cells.joins cells.reaches cells.becomes
tallies_match = record {
  ends = refl;
  breaks = λ t ps. refl;
  waits = λ s p a e. refl;
  joins = λ j l r x y. ap₂ (tally_join j);
  reaches = λ t x. ap one_more;
  becomes = λ t x. ap all_further;
}

pub match_bind : {A B : Type 0} (g : Reckoning A) (R : A → cells.Reckoned → Type 0) (m : Option B) (f : B → Option A)
    (y : B) (x : cells.Reckoned) → m ≡ some y → R (or_stops g (f y)) x → R (or_stops g (m >>= f)) x
match_bind g R m f y x e h = subst (λ o. R (or_stops g o) x) (sym (some_bind m f y e)) h
