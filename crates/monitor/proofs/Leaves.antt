-- What a start and a reading leave where nothing is refused shows a run: every step keeps the run's invariant.
use mathlib.Core.Path.{◌≡◌, sym, ap, ◌∙◌}
use mathlib.Core.List.{List}
use Prim.Native.Nat.{ℕ, ◌<◌, ◌^◌}
use lib.IntN.{ℤ}
use lib.ListN.{length}
use Rattle.std.specs.Prelude.{Ok}
use Rattle.csl.specs.Syntax.{Agreement}
use Rattle.csl.specs.Decode.{agreement_of}
use Rattle.csl.specs.Check.{Accepted, accepted, checked, mains_of}
use Rattle.csl.specs.Run.{started, step}
use Rattle.csl.specs.Table.{Run, run_of, table_length, table_of}
use Rattle.csl.specs.Entries.{answered, begun_of, read_of}
use Rattle.csl.specs.Marks.{time_in}
use Rattle.soundness.proofs.Runs.{InvOf, is_fair, reading_is, start_is, step_inv_soon, table_typed, written_number}
use Rattle.soundness.proofs.Runs.{written_zero}
use Rattle.soundness.proofs.Demand3.{start_inv_soon}
use Rattle.soundness.proofs.ReadBack.{run_of_good}
use Rattle.bridge.proofs.Refusals.{answer}
use Rattle.monitor.specs.declared.Followed.{Followed}
use Rattle.monitor.specs.Steps.{Shown, read_answer}

module _ (s : List ℕ) (ok : Accepted s) where
  abbrev ag : Agreement
  ag = agreement_of s

  abbrev ck : checked s ≡ accepted ag (mains_of s)
  ck = ok.is

  -- the table of a run that is as it should be
  sound_shows : (q : Run) {left : List ℤ} → left ≡ table_of q → InvOf s ag (mains_of s) ck q → Shown s left
  sound_shows q e i = let x = (table_typed s ag (mains_of s) ck q i).1 in (x.0, ap (run_of ag (mains_of s)) e ∙ x.1)

module _ {s : List ℕ} (ok : Accepted s) (us : List ℤ) (l : length us ≡ table_length) where
  pub start_leaves : {left : List ℤ} → (agreement_of s).start < 2 ^ 32 → answer 0 left ≡ begun_of s us → Shown s left
  start_leaves soon e =
      let is = e ∙ start_is s (agreement_of s) (mains_of s) ok.is us l in
      let begun = started (agreement_of s) in
      let zero : begun.number ≡ 0 = sym (ap (λ x. x.number) is ∙ written_number us begun) in
      sound_shows s ok begun.run (ap (λ x. x.table) (is ∙ written_zero us begun zero))
      (start_inv_soon s (agreement_of s) (mains_of s) ok.is soon zero)

  module _ (shown : Shown s us) (bytes : List ℕ) (soon : time_in bytes < 2 ^ 32) where
    pub reading_leaves : (a : Followed) (left : List ℤ) → read_answer (Ok a) left ≡ read_of s us bytes → Shown s left
    unfolding answered
    reading_leaves a left e =
        let q = shown.0 in
        let ag = agreement_of s in
        let next = step ag q bytes in
        let is = e ∙ reading_is s ag (mains_of s) ok.is us q bytes l shown.1 in
        let zero : next.number ≡ 0 = sym (ap (λ x. x.number) is ∙ written_number us next) in
        let i = run_of_good ag (mains_of s) us q (is_fair s ag (mains_of s) ok.is) shown.1 in
        sound_shows s ok next.run (ap (λ x. x.table) is ∙ ap (λ x. x.table) (written_zero us next zero))
        (step_inv_soon s ag (mains_of s) ok.is q bytes soon i)
