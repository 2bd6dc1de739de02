-- A record taken from the bytes at hand: what is put and what is left to write, together, stay the same.
use mathlib.Core.Path.{◌≡◌, refl, sym, ap, ap₂, ◌∙◌, subst}
use mathlib.Core.Bool.{Bool, true, false, not}
use mathlib.Core.List.{List, [], ◌∷◌, ◌++◌, append_assoc}
use Prim.Native.Nat.{ℕ, ◌+◌, ◌≤◌, ◌<◌}
use Rattle.std.proofs.Common.{is_some}
use native.Mathlib.Omega.{arith}
use lib.Dec.{eqb}
use lib.ListN.{length, take, drop, length-drop}
use Rattle.csl.specs.Entries.{ReadingAnswer, reading_of}
use Rattle.laws.proofs.Clash.{impossible}
use Rattle.stream.specs.Records.{records_of}
use Rattle.stream.specs.Next.{next_of}
use Rattle.stream.specs.Hands.{AtHand}
use Rattle.stream.specs.declared.Next.{Next}
use Rattle.stream.specs.declared.Next.TheVariants.{Record, Wait, End}
use Rattle.stream.proofs.Cuts.{Cut, Known, known, no_records}
use Rattle.lines.specs.Lines.{reading_line, reading_lines}
use Rattle.lines.specs.Put.{put}
use Rattle.lines.specs.declared.Line.{Line}
use Rattle.lines.proofs.Puts.{put_all}
use Rattle.telling.specs.declared.Verdict.{Verdict}
use Rattle.telling.specs.Verdicts.{text_of}
use Rattle.telling.specs.Told.{line_room, Follows}
use Rattle.watch.specs.declared.Stage.{Stage}
use Rattle.watch.specs.declared.Stage.TheVariants.{Ready, Waiting, Over}
use Rattle.watch.specs.declared.Run.{Run}
use Rattle.watch.specs.Steps.{left, Comes, stage_after, Kept, Turns}

-- what is left after a reading is what its number says
left_after : (s : List ℕ) (n : ℕ) (a : ReadingAnswer) (rest : List ℕ)
    → elim (eqb a.number 8) [ true ↦ [] | false ↦ reading_lines s a.table (n + 1) (records_of rest) ] ≡ left
    (stage_after (not (eqb a.number 8))) s a.table (n + 1) rest
left_after s n a rest = go (eqb a.number 8)
  where
    go : (b : Bool) → ◌≡◌ {A = List ℕ} (elim b
        [ true ↦ [] | false ↦ reading_lines s a.table (n + 1) (records_of rest) ])
        (left (stage_after (not b)) s a.table (n + 1) rest)
    go true = refl
    go false = refl

never_waits : (b : Bool) → stage_after b ≡ Waiting → ⊥
never_waits true q = impossible cc
never_waits false q = impossible cc

-- ---- what was found next
module _ (hand : AtHand) {r : Next} (found : r ≡ next_of hand.bytes hand.ended) where
  pub told : Known hand.bytes hand.ended r
  told = subst (Known hand.bytes hand.ended) (sym found) (known hand.bytes hand.ended)

  pub cut : {k : ℕ} → r ≡ Record k → Cut hand.bytes hand.ended k
  cut {k} is = told.cut k is

module _ (run : Run) {r : Next} (found : r ≡ next_of run.hand.bytes run.hand.ended) where
  module _ (run₂ : Run) {k : ℕ} (is : r ≡ Record k) where
    -- the record's line is put, and the rest is left
    module _ (b : List ℕ) (l : Line Verdict) (record_is : b ≡ take k run.hand.bytes)
        (f : Follows run.agreement.now run.table run₂.table run.line b l)
        (rest : run₂.hand.bytes ≡ drop k run.hand.bytes) (next : run₂.line ≡ run.line + 1) where
      abbrev a : ReadingAnswer
      a = reading_of run.agreement.now run.table b

      abbrev put_line : List ℕ
      put_line = reading_line run.line b a

      record_same : run₂.page.text ≡ run.page.text ++ put_line → (more : List ℕ) → Comes run.hand.ended more
          → run.page.text ++ left Ready run.agreement.now run.table run.line (run.hand.bytes ++ more)
          ≡ run₂.page.text
          ++ left (stage_after (is_some l.time)) run.agreement.now run₂.table run₂.line (run₂.hand.bytes ++ more)
      unfolding reading_lines
      record_same puts more c =
          let s = run.agreement.now in
          let later = run₂.hand.bytes ++ more in
          let tail : List ℕ = elim (eqb a.number 8)
          [ true ↦ [] | false ↦ reading_lines s a.table (run.line + 1) (records_of later) ] in
          let following : records_of (run.hand.bytes ++ more) ≡ b ∷ records_of later =
          (cut run.hand found is).is more c ∙ rw (record_is, rest) refl in
          ap (λ rs. run.page.text ++ reading_lines s run.table run.line rs) following
          ∙ sym (append_assoc run.page.text put_line tail)
          ∙ ap (λ l. l ++ tail) (sym puts)
          ∙ ap (λ l. run₂.page.text ++ l) (left_after s run.line a later
          ∙ ap₂ (λ g vs. left (stage_after g) s vs (run.line + 1) later) (sym f.goes) (sym f.table)
          ∙ ap (λ n. left (stage_after (is_some l.time)) s run₂.table n later) (sym next))

      pub record_turns : length run.page.text + line_room ≤ run.page.capacity → run₂.page ≡ put run.page (text_of l)
          → run₂.hand.ended ≡ run.hand.ended → run₂.hand.capacity ≡ run.hand.capacity
          → run₂.agreement.now ≡ run.agreement.now → {g : Stage} → g ≡ stage_after (is_some l.time)
          → Turns run run₂ g
      record_turns room puts ended capacity agreement {g} e =
          let all = puts ∙ put_all run.page (text_of l) (omega (arith, room, f.room)) in
          let put_is : run₂.page.text ≡ run.page.text ++ put_line =
          ap (λ p. p.text) all ∙ ap (λ x. run.page.text ++ x) f.line in
          let found_cut = cut run.hand found is in
          let shorter = length-drop k run.hand.bytes in
          record {
            same = λ more c. record_same put_is more c ∙ ap (λ x. run₂.page.text
                ++ left x run.agreement.now run₂.table run₂.line (run₂.hand.bytes ++ more)) (sym e);
            waits = λ w. absurd (never_waits (is_some l.time) (sym e ∙ w));
            ended = ended;
            bounded = omega (arith, ap length rest, found_cut.bounded);
            numbered = omega (arith, ap length rest, next, found_cut.bounded, found_cut.some);
            kept = record { agreement = agreement; hand = capacity; page = ap (λ p. p.capacity) all };
          }

  same_kept : Kept run run
  same_kept = record { agreement = refl; hand = refl; page = refl }

  -- more input is needed
  pub wait_turns : r ≡ Wait → length run.hand.bytes < 65_535 → Turns run run Waiting
  wait_turns e short =
      let waits = (told run.hand found).wait e in
      record {
        same = λ more c. refl;
        waits = λ _. (waits.0, waits.1, short);
        ended = refl;
        bounded = omega arith;
        numbered = omega arith;
        kept = same_kept;
      }

  -- the input has ended after a whole record
  pub end_turns : r ≡ End → Turns run run Over
  unfolding reading_lines
  end_turns e =
      let w = (told run.hand found).end e in
      record {
        same = λ more c. ap (λ rs. run.page.text ++ reading_lines run.agreement.now run.table run.line rs)
            (ap₂ (λ l m. records_of (l ++ m)) w.0 (c w.1) ∙ no_records);
        waits = λ q. impossible cc;
        ended = refl;
        bounded = omega arith;
        numbered = omega arith;
        kept = same_kept;
      }
