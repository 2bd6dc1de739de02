-- Laws of what is counted beside an answer.
use mathlib.Core.Path.{◌≡◌, sym, ap, ◌∙◌}
use mathlib.Core.Bool.{Bool, true, false}
use mathlib.Core.List.{List}
use Prim.Native.Nat.{ℕ, ◌+◌, ◌≤◌, min}
use native.Mathlib.Omega.{arith}
use lib.IntN.{ℤ}
use Rattle.csl.specs.Syntax.{Join, and}
use Rattle.csl.specs.Cost as csl
use Rattle.csl.specs.Cost.{both_at_once, tally_join, nothing_yet, one_more, all_further, total}
use Rattle.cells.specs.Reduce as cells
use Rattle.residues.specs.Reduces.{Is}
use Rattle.residues.specs.Tallies.{TallyIs, Reckons, most_counted, ended_by}
use Rattle.residues.specs.declared.Reduced.{Reduced}
use Rattle.residues.specs.declared.Reduced.TheVariants.{Done}
use Rattle.residues.specs.declared.Tally.{Tally}
use Rattle.residues.specs.declared.Reckoned.{Reckoned}

-- ---- what an answer says of its counts
pub tally_total : {x : csl.Tally} {t : Tally} {n : ℕ} → TallyIs x t → n ≡ min (t.activated + t.further) most_counted
    → n ≡ min (total x) most_counted
unfolding total
tally_total h e = omega (arith, h.activated, h.further)

-- ---- one clause
pub reckons_ended : {n : ℕ} (out : List ℤ) (t : Tally) → n ≤ most_counted → t.once ≡ true → t.activated ≡ n
    → t.further ≡ 0 → Reckons (ended_by n) (record { outcome = Done; tally = t }) out
unfolding Is ended_by
reckons_ended out t few e f g = record {
  outcome = tt;
  tally = record { once = e; activated = omega (arith, f); further = omega (arith, g) };
}

pub reckons_alone : (x : cells.Reduced) {r : Reduced} (out : List ℤ) (t : Tally) → Is x r out
    → t.once ≡ false → t.activated ≡ 1 → t.further ≡ 0
    → Reckons (record { outcome = x; tally = one_more (nothing_yet false) }) (record { outcome = r; tally = t }) out
unfolding one_more nothing_yet
reckons_alone x out t h e f g = record {
  outcome = h;
  tally = record { once = e; activated = omega (arith, f); further = omega (arith, g) };
}

-- ---- a clause that does what another within it does
module _ {x : cells.Reckoned} {r : Reckoned} {out : List ℤ} (h : Reckons x r out) (t : Tally) where
  pub reckons_reached : t.once ≡ r.tally.once → t.activated ≡ min (r.tally.activated + 1) most_counted
      → t.further ≡ r.tally.further → Reckons (cells.reaches x) (record { outcome = r.outcome; tally = t }) out
  unfolding cells.reaches one_more
  reckons_reached f g k = record {
    outcome = h.outcome;
    tally = record {
      once = f ∙ h.tally.once;
      activated = omega (arith, g, h.tally.activated);
      further = k ∙ h.tally.further;
    };
  }

  pub reckons_ended_wait : t.once ≡ false → t.activated ≡ 1
      → t.further ≡ min (r.tally.activated + r.tally.further) most_counted
      → Reckons (cells.reaches (cells.becomes x)) (record { outcome = r.outcome; tally = t }) out
  unfolding cells.reaches cells.becomes one_more all_further total
  reckons_ended_wait f g k = record {
    outcome = h.outcome;
    tally = record {
      once = f;
      activated = omega (arith, g);
      further = omega (arith, k, h.tally.activated, h.tally.further);
    };
  }

  pub reckons_beside : TallyIs (one_more (tally_join and (ended_by 1).tally x.tally)) t
      → Reckons (cells.reaches (cells.joins and (ended_by 1) x)) (record { outcome = r.outcome; tally = t }) out
  unfolding cells.reaches cells.joins cells.joined cells.join_both ended_by
  reckons_beside g = record { outcome = h.outcome; tally = g }

-- ---- the tally of a join
further_is : (j : Join) (x y : csl.Tally) {b : Bool} → both_at_once j x.at_once y.at_once ≡ b
    → (tally_join j x y).further ≡ elim b [ true ↦ 0 | false ↦ x.further + y.further ]
unfolding tally_join
further_is j x y e = ap (λ once. elim once [ true ↦ 0 | false ↦ x.further + y.further ]) e

module _ (j : Join) {x y : csl.Tally} {l r : Tally} (h : TallyIs x l) (k : TallyIs y r) {b : Bool} (t : Tally)
    (eb : b ≡ both_at_once j l.once r.once) (et : t.once ≡ b)
    (en : t.activated ≡ min (1 + l.activated + r.activated) most_counted) where
  once_same : both_at_once j x.at_once y.at_once ≡ b
  once_same = rw (← h.once, ← k.once) (sym eb)

  pub join_once : b ≡ true → t.further ≡ 0 → TallyIs (one_more (tally_join j x y)) t
  unfolding one_more tally_join
  join_once e ef = record {
    once = et ∙ sym once_same;
    activated = omega (arith, en, h.activated, k.activated);
    further = omega (arith, ef, further_is j x y (once_same ∙ e));
  }

  pub join_later : b ≡ false → t.further ≡ min (l.further + r.further) most_counted
      → TallyIs (one_more (tally_join j x y)) t
  unfolding one_more tally_join
  join_later e ef = record {
    once = et ∙ sym once_same;
    activated = omega (arith, en, h.activated, k.activated);
    further = omega (arith, ef, h.further, k.further, further_is j x y (once_same ∙ e));
  }
