-- Laws of the units at the front of a table, of which no sights are known: what they come to is what their sides come
-- to, joined.
use mathlib.Core.Path.{◌≡◌, refl, sym, ap, subst, ◌∙◌}
use mathlib.Core.Bool.{true, false, false≢true}
use mathlib.Core.List.{List, [], ◌++◌, append_assoc}
use Prim.Native.Nat.{ℕ, ◌+◌, ◌-◌, ◌*◌, ◌≤◌}
use native.Mathlib.Omega.{arith}
use borrow.Author.Tests.{ne_eqb}
use lib.Dec.{ltb}
use lib.IntN.{ℤ, pos, negsuc}
use lib.ListN.{length, get_or, take, drop, length-append, length-drop}
use lib.Seq.{drop_at, take-length, take-nil, get_or-take}
use lib.Signed.{lt_z}
use mir.Syntax.{w64}
use mir.Val.{SFits, to_z, of_z}
use Rattle.std.specs.Prelude.{None, Some}
use Rattle.std.proofs.lemmas.List.{nil_from_length}
use Rattle.arith.proofs.Ints.{seen, read}
use Rattle.laws.proofs.Residues.{some_units}
use Rattle.laws.specs.Joins.{join_of}
use Rattle.csl.specs.Outcomes.{Residue, unit, both, units}
use Rattle.csl.specs.Syntax as syntax
use Rattle.csl.specs.Syntax.{and, or}
use Rattle.kinds.specs.Kinds.{join_in}
use Rattle.kinds.specs.declared.Join.{Join}
use Rattle.kinds.specs.declared.Join.TheVariants.{And, Or}
use Rattle.cells.specs.Across.{nat_of}
use Rattle.cells.specs.Ahead.{unit_ahead, ahead}
use Rattle.cells.specs.Reduce.{joined}
use Rattle.cells.specs.Sights.{join_as, sights_in}
use Rattle.cells.specs.declared.Sight.{Sight}
use Rattle.cells.specs.Reduce as cells
use Rattle.parties.specs.declared.breach.Breach.{Breach as Broken}
use Rattle.residues.specs.Reduces.{Is, JoinIs, room_left}
use Rattle.residues.specs.declared.Reduced.{Reduced}
use Rattle.residues.specs.declared.Reduced.TheVariants.{Done, Breach, Running}
use Rattle.residues.proofs.Reduces.{is_done, is_breach, is_running}
use Rattle.walk.specs.Tree.{Waiting, TreeOf}
use Rattle.walk.specs.declared.ahead.Foretold.{Foretold}
use Rattle.walk.specs.Ahead.{UnitsOf, SortIs, SomeUnits, ComesTo, Tells}
use Rattle.walk.proofs.Trees.{sort_at}

-- ---- a unit's sort, as the machine has it
waits_below : (z : ℤ) → lt_z z (pos 20) ≡ true → ltb (nat_of z) 20 ≡ true
unfolding nat_of
waits_below (pos n) e = e
waits_below (negsuc n) e = refl

joins_from : (z : ℤ) → lt_z z (pos 20) ≡ false → ltb (nat_of z) 20 ≡ false
unfolding nat_of
joins_from (pos n) e = e
joins_from (negsuc n) e = absurd (false≢true (sym e))

no_and : (z : ℤ) → lt_z z (pos 20) ≡ false → (of_z w64 z ≡ 20 → ⊥) → nat_of z ≡ 20 → ⊥
unfolding nat_of
no_and (pos n) e g q = g q
no_and (negsuc n) e g q = absurd (false≢true (sym e))

module _ {z : ℤ} (f : SFits w64 z) where
  pub sort_waits : lt_z (seen z) (pos 20) ≡ true → SortIs z None
  unfolding SortIs
  sort_waits h = waits_below z (rw (read f) at h)

  module _ (h : lt_z (seen z) (pos 20) ≡ false) where
    low : ltb (nat_of z) 20 ≡ false
    low = joins_from z (rw (read f) at h)

    pub sort_and : of_z w64 z ≡ 20 → SortIs z (Some And)
    unfolding SortIs join_of nat_of
    sort_and e = let is : z ≡ pos 20 = sym (read f) ∙ ap (to_z w64) e in (low, rw is refl)

    pub sort_or : (of_z w64 z ≡ 20 → ⊥) → SortIs z (Some Or)
    unfolding SortIs join_of
    sort_or g = (low, rw (ne_eqb (nat_of z) 20 (no_and z (rw (read f) at h) g)) refl)

-- what stands behind the first k
pub behind : (k : ℕ) (cs : List ℤ) → take (length cs - k) (drop k cs) ≡ drop k cs
behind k cs = ap (λ n. take n (drop k cs)) (sym (length-drop k cs)) ∙ take-length (drop k cs)

module _ (size : ℕ) where
  first_there : (res : Residue) (cs : List ℤ) → UnitsOf size res cs → 24 ≤ length cs
  unfolding UnitsOf
  first_there (unit k p a e) cs u = u.0
  first_there (both j l r) cs u = u.0

  -- ---- a unit that waits
  pub record Alone (res : Residue) (cs : List ℤ) : Type 0 where
    pub waits : Waiting size 4 16 (take 24 cs)
    pub count : 1 ≡ units res
    pub comes : (s : List ℕ) → ahead s res cs ≡ unit_ahead s (take 24 cs)

  pub alone : (res : Residue) (cs : List ℤ) → UnitsOf size res cs → SortIs (get_or cs 0 (pos 0)) None → Alone res cs
  unfolding UnitsOf SortIs units ahead
  alone (unit k p a e) cs u h = record { waits = u.1; count = refl; comes = λ s. refl }
  alone (both j l r) cs u h = absurd (false≢true (sym (sort_at cs u.1.sort) ∙ h))

  -- ---- a join and its sides
  pub record Joined (res : Residue) (cs : List ℤ) (join : Join) : Type 0 where
    pub left : Residue
    pub right : Residue
    pub count : units res ≡ 1 + units left + units right
    pub of_left : UnitsOf size left (drop 24 cs)
    pub of_right : UnitsOf size right (drop (24 + 24 * units left) cs)
    pub comes : (s : List ℕ) → ahead s res cs ≡ joined (join_in join) (ahead s left (drop 24 cs))
        (ahead s right (drop (24 + 24 * units left) cs))

  pub joined_of : (res : Residue) (cs : List ℤ) → UnitsOf size res cs → {join : Join}
      → SortIs (get_or cs 0 (pos 0)) (Some join) → Joined res cs join
  unfolding UnitsOf SortIs units ahead
  joined_of (unit k p a e) cs u h = absurd (false≢true (sym h.0 ∙ sort_at cs u.1.sort))
  joined_of (both j l r) cs u {join} h =
      let same : j ≡ join_in join = u.1.is ∙ ap (λ z. join_of (nat_of z)) (get_or-take 24 cs 0 (pos 0) (omega arith))
      ∙ sym h.1 in
      record {
        left = l;
        right = r;
        count = refl;
        of_left = u.2;
        of_right = u.3;
        comes = λ s. rw same refl;
      }

-- a first unit is there
pub front_there : {size : ℕ} {cs : List ℤ} → SomeUnits size cs → 24 ≤ length cs
front_there {size} {cs} u = first_there size u.residue cs u.stands

-- ---- the sides of a join
module _ {size : ℕ} {res : Residue} {cs : List ℤ} {join : Join} (d : Joined size res cs join) where
  pub left_units : units res ≤ 128 → SomeUnits size (drop 24 cs)
  left_units few = record { residue = d.left; few = omega (arith, d.count); stands = d.of_left }

  module _ {s : List ℕ} {l : Foretold} (hl : ComesTo s d.left (drop 24 cs) l) where
    -- the right side begins within the cells, and there are units for it
    pub right_there : units res ≤ 128 → (1 + l.units ≤ 127) × (24 * (1 + l.units) ≤ length cs)
    right_there few = (
      omega (arith, d.count, hl.count, some_units d.right),
      omega (
        arith,
        hl.count,
        length-drop (24 + 24 * units d.left) cs,
        first_there size d.right (drop (24 + 24 * units d.left) cs) d.of_right,
      ),
    )

    right_at : 24 + 24 * units d.left ≡ 24 * (1 + l.units)
    right_at = omega (arith, hl.count)

    right_stands : UnitsOf size d.right (drop (24 * (1 + l.units)) cs)
    right_stands = subst (λ n. UnitsOf size d.right (drop n cs)) right_at d.of_right

    pub right_units : units res ≤ 128 → SomeUnits size (drop (24 * (1 + l.units)) cs)
    right_units few = record { residue = d.right; few = omega (arith, d.count); stands = right_stands }

    module _ {r : Foretold} (hr : (x : Residue) → UnitsOf size x (drop (24 * (1 + l.units)) cs)
        → ComesTo s x (drop (24 * (1 + l.units)) cs) r) where
      right_comes : ComesTo s d.right (drop (24 + 24 * units d.left) cs) r
      right_comes = subst (λ n. ComesTo s d.right (drop n cs) r) (sym right_at) (hr d.right right_stands)

      pub sides_count : 1 + l.units + r.units ≡ units res
      sides_count = omega (arith, d.count, hl.count, right_comes.count)

      -- what they come to, without room for a residue, makes what it comes to
      pub sides_make : {a : Reduced} {written : List ℤ}
          → JoinIs (join_in join) l.outcome r.outcome [] a written → length written ≡ 0
          → ComesTo s res cs (record { outcome = a; units = 1 + l.units + r.units })
      sides_make {a} {written} i e = record {
        count = sides_count;
        outcome = rw (d.comes s) (rw (nil_from_length written e) at (i.is (ahead s d.left (drop 24 cs))
            (ahead s d.right (drop (24 + 24 * units d.left) cs)) (record {
              of_left = rw (take-nil {A = ℤ} (room_left r.outcome 0)) hl.outcome;
              of_right = right_comes.outcome;
            })));
      }

-- ---- of a tree whose sights are those of its residue, the residue's units stand at the front
pub sights_count : (res : Residue) → length (sights_in res) ≡ units res
unfolding sights_in units
sights_count (unit k p a e) = refl
sights_count (both j l r) = omega (
  arith,
  length-append (sights_in l) (sights_in r),
  sights_count l,
  sights_count r,
)

join_back : (j : syntax.Join) → join_in (join_as j) ≡ j
unfolding join_as
join_back and = refl
join_back or = refl

pub tree_units : (size : ℕ) (res : Residue) (more : List Sight) (cs : List ℤ)
    → TreeOf size res (sights_in res ++ more) cs → UnitsOf size res cs
unfolding TreeOf UnitsOf sights_in
tree_units size (unit k p a e) more cs t =
    let w = t.1 in (
      t.0,
      record {
        sort = w.sort;
        few_params = omega arith;
        few_values = omega arith;
        bounded = w.bounded;
        dated = w.dated;
      },
    )
tree_units size (both j l r) more cs t =
    let sides = append_assoc (sights_in l) (sights_in r) more in (
      t.0,
      record { sort = t.1.sort; is = sym (join_back j) ∙ t.1.is },
      tree_units size l (sights_in r ++ more) (drop 24 cs) (rw sides at t.3),
      tree_units size r more (drop (24 + 24 * units l) cs)
          (rw (sides, drop_at (sights_in l) (sights_in r ++ more) (units l) (sights_count l)) at t.4),
    )

-- ---- what is told of what they come to
module _ (x : cells.Reduced) where
  pub told_breach : {q : Reduced} (b : Broken) → q ≡ Breach b → Is x q [] → Tells x (Some b)
  unfolding Tells
  told_breach b e i = let h = is_breach [] x b (rw e at i) in rw h.1 (h.2, refl)

  pub told_none : (q : Reduced) → ((b : Broken) → q ≡ Breach b → ⊥) → Is x q [] → Tells x None
  unfolding Tells
  told_none Done f i = rw (is_done [] x i) tt
  told_none (Breach b) f i = absurd (f b refl)
  told_none (Running n) f i = let h = is_running [] x i in rw h.1 tt
