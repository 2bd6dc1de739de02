-- Laws for a step: what the rules on cells give is written where there is room for it, and over 128 units are 11.
use mathlib.Core.Path.{◌≡◌, refl, sym, ap, subst, ◌∙◌}
use mathlib.Core.Bool.{Bool}
use mathlib.Core.List.{List}
use Prim.Native.Nat.{ℕ, ◌*◌, ◌/◌, ◌≤◌, ◌<◌, min}
use native.Mathlib.Omega.{arith}
use borrow.Author.Tests.{lt-ltb, le-ltb}
use mir.Syntax.{w64}
use mir.Val.{to_z}
use mir.ValLaws.{to_z_pos}
use lib.IntN.{ℤ, pos}
use lib.ListN.{length, take, drop, length-drop, length-take}
use lib.Seq.{take_all}
use Rattle.std.specs.Prelude.{Ok, Err}
use Rattle.cells.specs.Reduce as cells
use Rattle.cells.specs.Across.{nat_of}
use Rattle.cells.specs.Sights.{flat}
use Rattle.cells.specs.declared.Sight.{Sight}
use Rattle.bridge.proofs.Tables.{units_in}
use Rattle.bridge.proofs.Refusals.{answer}
use Rattle.bridge.proofs.Entries.{kept_cells}
use Rattle.residues.specs.Reduces.{Is, units_of, bits_in}
use Rattle.residues.specs.Tallies.{Reckons}
use Rattle.waits.specs.Fates.{mode_at}
use Rattle.walk.specs.Tree.{Tree, tree_reckoned}
use Rattle.walk.proofs.Trees.{tree_only, tree_long, tree_taken, taken_reckoned}
use Rattle.reduction.proofs.Few.{reduce_few, outcome_few, answer_few}
use Rattle.settling.specs.Settles.{Settles}
use Rattle.residues.specs.declared.Reduced.{Reduced}
use Rattle.residues.specs.declared.Reckoned.{Reckoned}
use Rattle.residues.specs.declared.Reduced.TheVariants.{Done, Breach, Running}
use Rattle.waits.specs.declared.Event.{Event}
use Rattle.waits.specs.declared.Event.TheVariants.{Activate, Forecast, Follow}
use Rattle.reduction.specs.Steps.{main_reckoned, UnitsDue, DueBy, Due, reckoned_by, reckoned, reduced}
use Rattle.reduction.specs.Steps.{counted_cost, Advances, NoRoom}
use Rattle.reduction.specs.declared.Short.{Short}
use Rattle.reduction.specs.declared.Wrote.{Wrote}
use Rattle.reduction.specs.declared.TooMany.{TooMany}

-- a time's cell
pub time_cell : {t : ℕ} → t < 4_294_967_296 → (to_z w64 t ≡ pos (nat_of (to_z w64 t))) × (nat_of (to_z w64 t) ≡ t)
unfolding nat_of
time_cell {t = t} h = rw (to_z_pos w64 t (omega arith)) (refl, refl)

-- the cells behind the head
pub behind_head : (us : List ℤ) → length us ≡ 3080 → take 3072 (drop 8 us) ≡ drop 8 us
behind_head us l = take_all 3072 (drop 8 us) (rw (length-drop 8 us, l) (omega arith))

-- ---- the units that an answer counts are the residue's, up to 129
counted : (u : ℕ) {n l : ℕ} → n ≡ min u 129 → l ≡ 24 * u → n ≡ min (l / 24) 129
counted u e f = omega arith

pub units_counted : (out : List ℤ) (x : cells.Reduced) (r : Reduced) → Is x r out → units_of r ≡ min (units_in x) 129
unfolding Is units_in
units_counted out cells.done Done i = refl
units_counted out cells.done (Breach b) i = absurd i
units_counted out cells.done (Running n) i = absurd i
units_counted out (cells.breach u c) Done i = absurd i
units_counted out (cells.breach u c) (Breach b) i = refl
units_counted out (cells.breach u c) (Running n) i = absurd i
units_counted out (cells.running cs) Done i = absurd i
units_counted out (cells.running cs) (Breach b) i = absurd i
units_counted out (cells.running cs) (Running n) i = counted i.units i.count i.size

-- over 128 are 11, others are written
kept_over : (x : cells.Reduced) (now n : ℕ) (before : List ℤ) {u : ℕ} → u ≡ min (units_in x) 129 → 128 < u
    → answer 11 before ≡ kept_cells now n before x
unfolding kept_cells
kept_over x now n before e h = rw (lt-ltb 128 (units_in x) (omega arith)) refl

module _ (r : Reduced) (out : List ℤ) (x : cells.Reduced) (i : Is x r out) (now n : ℕ) (before : List ℤ) where
  kept_few : {left : List ℤ} {q : Bool} → Settles now n r out before left q → units_of r ≤ 128
      → answer 0 left ≡ kept_cells now n before x
  unfolding kept_cells
  kept_few settles h = rw (
    le-ltb 128 (units_in x) (omega (arith, units_counted out x r i)),
    settles.wrote x i,
  ) refl

-- ---- what an event makes of the main clause or of units
-- the code's test: the event is not the start
abbrev OnUnits : Event → Type 0
OnUnits e = e ≡ Activate → ⊥

by_units : (e : Event) (main units : cells.Reckoned) → OnUnits e → reckoned_by e main units ≡ units
by_units Activate main units f = absurd (f refl)
by_units Forecast main units f = refl
by_units (Follow r) main units f = refl

due_by : (e : Event) (U : Type 0) → OnUnits e → DueBy e U → U
due_by Activate U f d = absurd (f refl)
due_by Forecast U f d = d
due_by (Follow r) U f d = d

module _ {s : List ℕ} {sights : List Sight} {us : List ℤ} {n time : ℕ} {e : Event} (d : Due s sights us n time e) where
  -- the units, with as many sights
  abbrev sighted : List Sight
  sighted = take n sights

  tree : OnUnits e → Tree (length s) sights (drop 8 us) n
  tree f = (due_by e (UnitsDue s sights us n e) f d.units).tree

  pub long : OnUnits e → length sighted ≡ n
  long f = omega (arith, length-take n sights, tree_long (tree f))

  pub units_due : length us ≡ 3080 → OnUnits e → Tree (length s) sighted (take 3072 (drop 8 us)) (length sighted)
  units_due l f = rw (behind_head us l, long f) (tree_taken (tree f))

  module _ (x : Reckoned) (out : List ℤ) where
    pub reckoned_main : e ≡ Activate → Reckons (main_reckoned s) x out → Reckons (reckoned s sights us n e) x out
    unfolding reckoned
    reckoned_main f i = subst (λ k. Reckons (reckoned_by k (main_reckoned s)
        (tree_reckoned (mode_at e) s n sights (drop 8 us))) x out) (sym f) i

    pub reckoned_units : length us ≡ 3080 → OnUnits e
        → Reckons (tree_reckoned (mode_at e) s (length sighted) sighted (take 3072 (drop 8 us))) x out
        → Reckons (reckoned s sights us n e) x out
    unfolding reckoned
    reckoned_units l f i = subst (λ y. Reckons y x out)
        (ap (tree_reckoned (mode_at e) s (length sighted) sighted) (behind_head us l)
        ∙ ap (λ k. tree_reckoned (mode_at e) s k sighted (drop 8 us)) (long f)
        ∙ taken_reckoned (tree f) (mode_at e) s ∙ sym (by_units e (main_reckoned s) _ f)) i

  module _ (r : Reduced) (out : List ℤ) where
    main_few : Is (main_reckoned s).outcome r out → bits_in r < 65_536
    unfolding main_reckoned
    main_few i = answer_few (main_reckoned s).outcome r out (reduce_few cells.activating _ _ _ _ _) i

    units_few : UnitsDue s sights us n e → Is (tree_reckoned (mode_at e) s n sights (drop 8 us)).outcome r out
        → bits_in r < 65_536
    units_few u i = answer_few u.given.outcome r out (outcome_few (mode_at e) s n (flat sights) (drop 8 us) u.one)
        (subst (λ x. Is x.outcome r out) (tree_only u.one) i)

    bits_few : (k : Event) → DueBy k (UnitsDue s sights us n e)
        → Is (reckoned_by k (main_reckoned s) (tree_reckoned (mode_at e) s n sights (drop 8 us))).outcome r out
        → bits_in r < 65_536
    bits_few Activate u i = main_few i
    bits_few Forecast u i = units_few u i
    bits_few (Follow f) u i = units_few u i

  module _ (r : Reduced) (out : List ℤ) (i : Is (reduced s sights us n e) r out) where
    -- what `settle` asks of the answer
    pub reduced_few : bits_in r < 65_536
    unfolding reckoned
    reduced_few = bits_few r out e d.units i

    pub tried_none : {room : ℕ} {lent : List ℤ} {short : Short} → short.cost ≡ counted_cost s sights us n e
        → short.units ≡ units_of r → room < 24 * short.units → NoRoom s sights us n e room lent lent short
    tried_none ec eu h = record {
      count = eu ∙ units_counted out (reduced s sights us n e) r i;
      costs = ec;
      less = h;
      kept = refl;
    }

    pub tried_room : {t : ℕ} {left : List ℤ} {wrote : Wrote} → wrote.cost ≡ counted_cost s sights us n e
        → units_of r ≤ 128 → t ≡ time → Settles t n r out us left wrote.altered
        → Advances s sights us n time e left (Ok wrote)
    tried_room {left = left} ec few et settles = record {
      costs = ec;
      is = subst (λ t. answer 0 left ≡ kept_cells t n us (reduced s sights us n e)) et
          (kept_few r out (reduced s sights us n e) i _ n us settles few);
      told = settles.told (reduced s sights us n e) i;
    }

-- ---- a try that needs more units than a table has
module _ {s : List ℕ} {sights : List Sight} {us : List ℤ} {n : ℕ} {e : Event} {room : ℕ} {lent left : List ℤ}
    {short : Short} (t : NoRoom s sights us n e room lent left short) where
  pub tried_over : (time : ℕ) → 128 < short.units → {many : TooMany} → many.cost ≡ short.cost
      → Advances s sights us n time e us (Err many)
  tried_over time h ec = record {
    costs = ec ∙ t.costs;
    is = kept_over (reduced s sights us n e) time n us t.count h;
    told = tt;
  }
