-- Laws of the table that is written for an outcome.
use mathlib.Core.Path.{◌≡◌, refl, sym, ap, ◌∙◌}
use mathlib.Core.Bool.{Bool, true}
use mathlib.Core.List.{List, [], ◌∷◌}
use Prim.Native.Nat.{ℕ, ◌-◌, ◌*◌, ◌/◌, ◌≤◌, min}
use native.Mathlib.Omega.{arith}
use lib.IntN.{ℤ, pos}
use lib.ListN.{length, drop}
use Rattle.csl.specs.Table.{padded, nat_cells}
use Rattle.cells.specs.Reduce as cells
use Rattle.residues.specs.Reduces.{Stands}
use Rattle.cells.specs.Tables.{alters, head_of, moved_cell, reduced_table, stepped_table}
use Rattle.settling.specs.Settles.{Settles, ended, gone_on, other_units}
use Rattle.std.specs.Prelude.{Some, None}
use Rattle.parties.specs.declared.breach.Breach.{Breach as Broken}
use Rattle.residues.specs.declared.Reduced.{Reduced}
use Rattle.residues.specs.declared.Reduced.TheVariants.{Done, Breach, Running}
use Rattle.residues.proofs.Reduces.{is_done, is_breach, is_running}

counted : {n u : ℕ} → n ≡ min u 129 → n ≤ 128 → n ≡ u
counted e h = omega arith

module _ (now used : ℕ) (out before : List ℤ) {time : ℤ} (is-now : time ≡ pos now) where
  pub settled_done : {r : Reduced} (left : List ℤ) → r ≡ Done
      → left ≡ padded 3080 (ended time None)
      → Settles now used r out before left true
  unfolding stepped_table moved_cell alters reduced_table head_of nat_cells
  settled_done left e f = rw e (record {
    wrote = λ x h. f ∙ rw (is_done out x h, is-now) refl;
    told = λ x h. rw (is_done out x h) refl;
  })

  breach_table_lem : (t b : ℕ)
      → padded 3080 (pos 3 ∷ time ∷ pos t ∷ pos b ∷ pos 0 ∷ time ∷ pos 0 ∷ pos 0 ∷ []) ≡ stepped_table now used before
      (cells.breach t b)
  unfolding stepped_table moved_cell alters reduced_table head_of nat_cells
  breach_table_lem t b = rw is-now refl

  pub settled_breach : {r : Reduced} (left : List ℤ) (b : Broken) → r ≡ Breach b
      → left ≡ padded 3080 (ended time (Some b)) → Settles now used r out before left true
  unfolding alters
  settled_breach left b e f = rw e (record {
    wrote = λ x h.
        let k = is_breach out x b h in
        rw k.2 at f ∙ breach_table_lem k.0 b.parties ∙ ap (stepped_table now used before) (sym k.1);
    told = λ x h. rw (is_breach out x b h).1 refl;
  })

  module _ (n : ℕ) (few : n ≤ 128) (room : 24 * n ≤ length out) (left : List ℤ)
      (gone : left ≡ gone_on time used n (drop (length out - 24 * n) out) before) where
    -- the residue stands at the end of `out`
    stands_there : (cs : List ℤ) → Stands cs n out
        → (length cs / 24 ≡ n) × (drop (length out - 24 * n) out ≡ cs)
    stands_there cs k =
        let size : length cs ≡ 24 * n = k.size ∙ ap (λ (v : ℕ). 24 * v) (sym (counted k.count few)) in
        (rw size (omega arith), rw size at (k.wrote (omega (arith, k.count, few)) (rw size room)))

    running_table_lem : (cs : List ℤ) → Stands cs n out → left ≡ stepped_table now used before (cells.running cs)
    unfolding stepped_table moved_cell alters other_units reduced_table head_of nat_cells gone_on
    running_table_lem cs k = let z = stands_there cs k in rw z.0 (rw (z.1, is-now) at gone)

    pub settled_running : {r : Reduced} → r ≡ Running n → {altered : Bool}
        → altered ≡ other_units used (drop (length out - 24 * n) out) before
        → Settles now used r out before left altered
    unfolding alters other_units
    settled_running e {altered} q = rw e (record {
      wrote = λ x h. let k = is_running out x h in
          running_table_lem k.0 k.2 ∙ ap (stepped_table now used before) (sym k.1);
      told = λ x h. let k = is_running out x h in
          q ∙ ap (λ cs. other_units used cs before) (stands_there k.0 k.2).1
          ∙ ap (alters used before) (sym k.1);
    })
