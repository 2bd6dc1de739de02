-- Laws for start: it is a step that activates the main clause at the start time, and what such a step writes is what
-- csl's start leaves.
use mathlib.Core.Path.{◌≡◌, sym, ap, subst, ◌∙◌}
use mathlib.Core.List.{List}
use Prim.Native.Nat.{ℕ, ◌≤◌, ◌<◌}
use native.Mathlib.Omega.{arith}
use lib.Dec.{leb, leb→le}
use lib.IntN.{ℤ}
use lib.ListN.{length}
use Rattle.std.specs.Prelude.{Err, Ok, Option, Result}
use Rattle.csl.specs.Bytes.{le32}
use Rattle.csl.specs.Decode.{agreement_of, length_ok, between}
use Rattle.csl.specs.Check.{Accepted, mains_of}
use Rattle.csl.specs.Table.{table_length}
use Rattle.csl.specs.Entries.{begun_of, forecast_of, start_of}
use Rattle.laws.proofs.Bools.{both_true}
use Rattle.soundness.proofs.Checked.{passed}
use Rattle.cells.specs.declared.Sight.{Sight}
use Rattle.bridge.proofs.Entries.{kept_cells, start_reduce}
use Rattle.waits.specs.declared.Event.TheVariants.{Activate}
use Rattle.reduction.specs.Steps.{main_reckoned, Due, reckoned, reduced, advanced, Advances}
use Rattle.reduction.specs.declared.TooMany.{TooMany}
use Rattle.reduction.specs.declared.Wrote.{Wrote}
use Rattle.monitor.specs.declared.BreachAhead.{BreachAhead}
use Rattle.monitor.specs.declared.Refusal.TheVariants.{Units}
use Rattle.monitor.specs.Answers.{ahead_told, start_answer}
use Rattle.monitor.specs.Steps.{Shown}
use Rattle.monitor.proofs.Joined.{start_err, start_ok}
use Rattle.monitor.proofs.Leaves.{start_leaves}

-- ---- an accepted agreement is short
pub short : {s : List ℕ} → Accepted s → length s ≤ 16_384
unfolding length_ok between
short {s} ok = both_true (between 4 16_384 (length s)) _ (passed s (agreement_of s) (mains_of s) ok.is).length_ok
    λ a b. both_true (leb 4 (length s)) (leb (length s) 16_384) a λ c d. leb→le (length s) 16_384 d

-- ---- start, for an accepted agreement and a table's cells
module _ {s : List ℕ} (ok : Accepted s) {us : List ℤ} (sights : List Sight) where
  -- whatever units are said to be in use
  pub begin_due : {a : List ℕ} {n t : ℕ} → a ≡ s → n ≤ 128 → t < 4_294_967_296 → Due a sights us n t Activate
  begin_due same few soon = record { short = rw same (short ok); held = few; soon = soon; units = tt }

  pub begun : {t : ℕ} {r : Result Wrote TooMany} {left : List ℤ} → length us ≡ table_length
      → Advances s sights us 0 t Activate left r → t ≡ le32 s 4 → advanced r left ≡ begun_of s us
  unfolding reckoned main_reckoned agreement_of
  begun {r = r} {left = left} l a e =
      subst (λ t. advanced r left ≡ kept_cells t 0 us (reduced s sights us 0 Activate)) e a.is
      ∙ sym (start_reduce s (mains_of s) ok.is us l)

  module _ {t : ℕ} {left : List ℤ} (l : length us ≡ table_length) (e : t ≡ le32 s 4) where
    -- what is written shows a run, whose forecast is told
    pub begun_shows : {w : Wrote} → Advances s sights us 0 t Activate left (Ok w) → t < 4_294_967_296 → Shown s left
    unfolding agreement_of
    begun_shows a soon = start_leaves ok us l (omega (arith, e, soon)) (begun l a e)

    pub begun_told : {w : Wrote} → Advances s sights us 0 t Activate left (Ok w) → (ahead : Option BreachAhead)
        → ahead_told ahead ≡ forecast_of s left → start_answer (Ok ahead) left ≡ start_of s us
    begun_told a ahead f = start_ok s us left ahead (begun l a e) f

    pub begun_refused : {many : TooMany} → Advances s sights us 0 t Activate us (Err many) → left ≡ us
        → start_answer (Err Units) left ≡ start_of s us
    begun_refused a kept = ap (start_answer (Err Units)) kept ∙ start_err s us us Units (begun l a e)

pub ruleset beginning = (begin_due, begun_shows, begun_told, begun_refused)
