-- What a clause leads to, as the code says it before it recurs.
use Rattle.std.specs.Prelude.{◌≡◌, true, List, [], ℕ, ◌+◌, ◌-◌, ◌*◌, ◌≤◌, ◌<◌, ℤ, pos, ◌-ℤ◌, length}
use Rattle.std.specs.Prelude.{Option, Some, None}
use Rattle.csl.specs.Bytes.{byte, part, is_record, kind_number}
use Rattle.csl.specs.Syntax.{Clause, Template, and}
use Rattle.csl.specs.Decode.{ClauseKind, clause_body, clause, expr, heads_of, agreement_of, arguments}
use Rattle.records.specs.Index.{head_at, body_from, body_bytes}
use Rattle.arith.specs.Near.{Near}
use Rattle.cells.specs.Evaluate.{evals_cells}
use Rattle.cells.specs.Reduce as cells
use Rattle.cells.specs.Reduce.{Mode, activating, forecasting, following, unit_of, joins, reaches, becomes}
use Rattle.cells.specs.Reduce.{then_values, blamed_cells}
use Rattle.kinds.specs.Kinds.{join_in, wait_number}
use Rattle.kinds.specs.declared.Join.{Join}
use Rattle.readings.specs.declared.reading.Reading.{Reading}
use Rattle.readings.specs.Values.{values_read}
use Rattle.waits.specs.Fates.{mode_at}
use Rattle.waits.specs.declared.Event.{Event}
use Rattle.waits.specs.declared.Event.TheVariants.{Activate, Forecast, Follow}
use Rattle.parties.specs.declared.breach.Breach.{Breach as Broken}
use Rattle.residues.specs.Reduces.{farthest, Is}
use Rattle.residues.specs.declared.Reduced.TheVariants.{Breach}
use Rattle.residues.specs.Tallies.{ended_by}
use Rattle.activation.specs.declared.sites.Site.{Site}
use Rattle.activation.specs.declared.sites.Clause.{Clause as Here}
use Rattle.activation.specs.declared.Next.{Next}
use Rattle.activation.specs.declared.Next.TheVariants.{Ends, Breaks, Waits, Picks, Lapses, Takes, Unfolds}
use Rattle.activation.specs.declared.Shape.{Shape}

abbrev pub templates_of : List ℕ → List Template
templates_of ag = (agreement_of ag).templates

-- ---- a reading is followed
abbrev pub Follows : Mode → Type 0
Follows activating = ⊥
Follows forecasting = ⊥
Follows (following t k rs) = Unit {0}

-- the rules, with instances of the templates below n
unfoldable pub reckon_below : Mode → List ℕ → ℕ → Clause → List ℤ → List ℤ → ℕ → cells.Reckoned
reckon_below m ag n c ps vs a = cells.walk m (cells.activate (templates_of ag))
    (cells.unfold_below m (cells.activate (templates_of ag)) (templates_of ag) n) c ps vs a

-- the clause of kind k that the record s at a place is, d being the depths that are left within it
abbrev pub body_in : List ℕ → ℕ → ℕ → List ℕ → ClauseKind → Clause
body_in ag d place s k = clause_body (heads_of ag) (expr d) (clause (heads_of ag) d) place s k

-- a record of a clause that acts: an obligation, a choice, an `if` or an instance
pub record Acting (depth : ℕ) (s : List ℕ) : Type 0 where
  pub deep : 1 ≤ depth
  pub is_whole : is_record s ≡ true
  pub from : 17 ≤ kind_number s
  pub to : kind_number s < 23
  pub single : 20 ≤ kind_number s → kind_number s < 22 → ⊥

-- what the clause c does, which stands in the record s
module _ (m : Mode) (ag : List ℕ) (below : ℕ) (s : List ℕ) (place : ℕ) (ps vs : List ℤ) (a depth : ℕ)
    (c : Clause) where
  abbrev reckoned : Clause → ℕ → cells.Reckoned
  reckoned x b = reckon_below m ag below x ps vs b

  abbrev inner : ℕ → ℕ → Clause
  inner x y = clause (heads_of ag) (depth - 1) (place + x) (part s x y)

  -- `by` is what the clause makes of what that within it comes to
  pub record GoesOn (by : cells.Reckoned → cells.Reckoned) (x y b : ℕ) : Type 0 where
    pub is : reckoned c a ≡ by (reckoned (inner x y) b)
    pub past : 4 ≤ x
    pub order : x ≤ y
    pub inside : y ≤ length s
    pub deep : 1 ≤ depth
    pub soon : b ≤ a + 2_000_000_000

  pub record HasSides (j : Join) (f : ℕ) : Type 0 where
    pub is : reckoned c a ≡ reaches (joins (join_in j) (reckoned (inner 4 f) a) (reckoned (inner f (length s)) a))
    pub order : 4 ≤ f
    pub inside : f ≤ length s
    pub deep : 1 ≤ depth

  -- as its record shows it
  unfoldable pub Shaped : Shape → Type 0
  Shaped (Shape.Ends n) = (reckoned c a ≡ ended_by n) × (n ≤ 3)
  Shaped (Shape.Goes x y) = GoesOn (λ z. reaches (joins and (ended_by 1) z)) x y a
  Shaped (Shape.Joins j f) = HasSides j f
  Shaped Shape.Acts = Acting depth s

  -- a `then` that the reading r activates, l being the wait's last minute
  pub record IsTaken (r : Reading) (x y : ℕ) (l : ℤ) : Type 0 where
    pub is : reckoned c a ≡ reaches (becomes (cells.activate (templates_of ag) (inner x y) ps
        (then_values vs (values_read r) (l -ℤ pos r.time)) r.time))
    pub order : x ≤ y
    pub inside : y ≤ length s
    pub deep : 1 ≤ depth
    pub near : Near (a + 2_000_000_000) l
    pub follows : Follows m

  -- an instance of template k whose parties begin at i
  pub record IsInstance (k i : ℕ) : Type 0 where
    pub is : reckoned c a ≡ reaches (reckon_below m ag k
        (clause (heads_of ag) 22 (body_from ag k) (body_bytes ag k)) (blamed_cells ps (part s i (length s)))
        (evals_cells vs (arguments (expr (depth - 1)) (length (head_at ag k).values) s 5)) a)
    pub less : k < below
    pub inside : i ≤ length s
    pub few : length s ≤ i + 4

  unfoldable pub Leads : Next → Type 0
  Leads Ends = reckoned c a ≡ ended_by 1
  Leads (Breaks b) = (u : ℕ) × (reckoned c a ≡ reaches (cells.broken u b.parties)) × (b.time ≡ pos u)
  Leads (Waits w) = reckoned c a ≡ reaches (cells.waiting (unit_of (wait_number w) place a ps vs))
  Leads (Picks x y) = GoesOn reaches x y a
  Leads (Lapses x y b) = GoesOn (λ z. reaches (becomes z)) x y b
  Leads (Takes r x y l) = IsTaken r.now x y l
  Leads (Unfolds k i) = IsInstance k i

-- what a record shows by kinds alone, wherever it stands and whatever is in sight
abbrev pub Outlined : List ℕ → ℕ → Shape → Type 0
Outlined s depth r = (m : Mode) (ag : List ℕ) (below place : ℕ) (ps vs : List ℤ) (a : ℕ)
    → Shaped m ag below s place ps vs a depth (clause (heads_of ag) depth place s) r

-- a record of kind m, with depths left
pub record Told (s : List ℕ) (depth m : ℕ) : Type 0 where
  pub deep : 1 ≤ depth
  pub is_whole : is_record s ≡ true
  pub kind : m ≡ kind_number s

-- a clause with two sides, of which the right one begins at f
pub record Sided (depth n f : ℕ) : Type 0 where
  pub deep : 1 ≤ depth
  pub order : 4 ≤ f
  pub inside : f ≤ n

-- ---- sites
-- the site of a clause within no other, at a place, at the time a
abbrev pub whole_site : List ℕ → ℕ → ℕ → Site
whole_site ag place a = record { below = byte ag 10; place = place; a = a; depth = 23 }

-- the site of a part that begins at x, of a `then`, n templates being named, and of the body of template k
abbrev pub inner_site : Site → ℕ → ℕ → Site
inner_site t x a = record { below = t.below; place = t.place + x; a = a; depth = t.depth - 1 }

abbrev pub then_site : Site → ℕ → ℕ → ℕ → Site
then_site t x a n = record { below = n; place = t.place + x; a = a; depth = t.depth - 1 }

abbrev pub body_site : List ℕ → Site → ℕ → Site
body_site ag t k = record { below = k; place = body_from ag k; a = t.a; depth = 22 }

-- the clause c stands at the site t of the agreement ag, with the bytes s, the party parameters and the values in sight
pub record StandsAt (ag : List ℕ) (t : Site) (s : List ℕ) (ps vs : List ℤ) (c : Here) : Type 0 where
  pub agreement : c.agreement.now ≡ ag
  pub site : c.site ≡ t
  pub bytes : c.bytes.now ≡ s
  pub params : c.params.now ≡ ps
  pub values : c.values.cells.now ≡ vs

-- ---- what a clause does
-- in the record s at a site
abbrev pub reckon_at : Mode → List ℕ → Site → List ℕ → List ℤ → List ℤ → cells.Reckoned
reckon_at m ag t s ps vs = reckon_below m ag t.below (clause (heads_of ag) t.depth t.place s) ps vs t.a

abbrev pub does : Event → Here → cells.Reckoned
does e c = reckon_at (mode_at e) c.agreement.now c.site c.bytes.now c.params.now c.values.cells.now

-- what it decodes to, and what it decodes to as of a kind
abbrev pub clause_at : Here → Clause
clause_at c = clause (heads_of c.agreement.now) c.site.depth c.site.place c.bytes.now

abbrev pub body_at : Here → ClauseKind → Clause
body_at c k = body_in c.agreement.now (c.site.depth - 1) c.site.place c.bytes.now k

abbrev pub LeadsFrom : Mode → Here → Clause → Next → Type 0
LeadsFrom m c x r = Leads m c.agreement.now c.site.below c.bytes.now c.site.place c.params.now
    c.values.cells.now c.site.a c.site.depth x r

-- its part from x to y, at the time a
abbrev pub part_reckoned : Event → Here → ℕ → ℕ → ℕ → cells.Reckoned
part_reckoned e c x y a = reckon_at (mode_at e) c.agreement.now (inner_site c.site x a) (part c.bytes.now x y)
    c.params.now c.values.cells.now

-- its two sides, of which the right one begins at f
abbrev pub sides_reckoned : Event → Here → Join → ℕ → cells.Reckoned
sides_reckoned e c j f = reaches (joins (join_in j) (part_reckoned e c 4 f c.site.a)
    (part_reckoned e c f (length c.bytes.now) c.site.a))

-- its `then` from x to y, l being the wait's last minute
abbrev pub then_reckoned : Reading → Here → ℕ → ℕ → ℤ → cells.Reckoned
then_reckoned r c x y l = reckon_below activating c.agreement.now (byte c.agreement.now 10)
    (clause (heads_of c.agreement.now) (c.site.depth - 1) (c.site.place + x) (part c.bytes.now x y)) c.params.now
    (then_values c.values.cells.now (values_read r) (l -ℤ pos r.time)) r.time

-- the body of template k, the clause being an instance of it whose parties begin at i
abbrev pub instance_reckoned : Event → Here → ℕ → ℕ → cells.Reckoned
instance_reckoned e c k i = reckon_at (mode_at e) c.agreement.now (body_site c.agreement.now c.site k)
    (body_bytes c.agreement.now k)
    (blamed_cells c.params.now (part c.bytes.now i (length c.bytes.now))) (evals_cells c.values.cells.now
    (arguments (expr (c.site.depth - 1)) (length (head_at c.agreement.now k).values) c.bytes.now 5))

pub record OfInstance (c : Here) (k i : ℕ) : Type 0 where
  pub less : k < c.site.below
  pub deep : 1 ≤ c.site.depth
  pub inside : i ≤ length c.bytes.now
  pub few : length c.bytes.now ≤ i + 4

-- the record s, of the outermost depth, tells this breach if only time goes on, wherever it stands
unfoldable pub BreaksAhead : List ℕ → List ℤ → List ℤ → ℕ → Option Broken → Type 0
BreaksAhead s ps vs a None = Unit {0}
BreaksAhead s ps vs a (Some b) = (ag : List ℕ) (place : ℕ)
    → Is (reckon_at forecasting ag (whole_site ag place a) s ps vs).outcome (Breach b) []

-- there is nothing to do in the record s, wherever it stands
pub record Ended (s : List ℕ) : Type 0 where
  pub is : (m : Mode) (ag : List ℕ) (t : Site) (ps vs : List ℤ) → reckon_at m ag t s ps vs ≡ ended_by 1

-- a reading that is followed activates a `then` anew, with every template in reach: its step stands before the pair
-- that falls
abbrev pub rank : Event → ℕ
rank Activate = 0
rank Forecast = 0
rank (Follow r) = 1

-- what falls from an activation to those within it: the pair of the template number and the clause's size in bytes
abbrev pub weight : Event → Site → ℕ → ℕ
weight e t size = (rank e * 64 + t.below) * (farthest + 1) + size
