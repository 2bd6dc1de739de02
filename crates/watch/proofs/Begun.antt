-- The agreement's line, and then all that is written for the readings: together what is written for the input.
use Rattle.std.proofs.Common.{◌≡◌, sym, ap, ap₂, ◌∙◌, subst, Bool, true, false, ℕ, ◌+◌, ◌≤◌, ℤ, arith, length, is_some}
use Rattle.std.proofs.Common.{List, [], ◌++◌, append-nil}
use Rattle.std.proofs.Common.{Option, Result, Ok, Err, OnOk}
use Rattle.std.specs.Io.KnownBytes.{Appends}
use Rattle.csl.specs.Entries.{start_of}
use Rattle.stream.specs.Records.{records_of}
use Rattle.stream.specs.Hands.{AtHand}
use Rattle.lines.specs.Lines.{start_line, reading_lines, lines_of}
use Rattle.lines.specs.Put.{put}
use Rattle.lines.specs.declared.Line.{Line}
use Rattle.lines.proofs.Puts.{put_all}
use Rattle.telling.specs.declared.Verdict.{Verdict}
use Rattle.telling.specs.Verdicts.{text_of}
use Rattle.telling.specs.Told.{line_room, Begins}
use Rattle.watch.specs.declared.Run.{Run}
use Rattle.watch.specs.Steps.{Starts}
use Rattle.watch.specs.Runs.{Writes, written}
use Rattle.watch.specs.declared.Failure.{Failure}
use Rattle.watch.proofs.Serving.{appends_then, same_appends}

-- ---- the start's line, and the readings' lines if the start was accepted
lines_then : Bool → List ℕ → List ℤ → List (List ℕ) → List ℕ
lines_then b s cells readings = elim b [ true ↦ reading_lines s cells 1 readings | false ↦ [] ]

-- the line is put
pub starts : (run run₂ : Run) (l : Line Verdict) {go : Bool} → Begins run.agreement.now run.table run₂.table l
    → length run.page.text + line_room ≤ run.page.capacity → run₂.page ≡ put run.page (text_of l)
    → go ≡ is_some l.time → run₂.agreement.now ≡ run.agreement.now → run₂.hand ≡ run.hand → run₂.line ≡ run.line
    → Starts run run₂ go
starts run run₂ l b room puts goes agreement hand next =
    let all = puts ∙ put_all run.page (text_of l) (omega (arith, room, b.room)) in
    record {
      line = ap (λ p. p.text) all ∙ ap (λ x. run.page.text ++ x) b.line;
      table = b.table;
      goes = goes ∙ b.goes;
      kept = record {
        agreement = agreement;
        hand = ap (λ h. h.capacity) hand;
        page = ap (λ p. p.capacity) all;
      };
      hand = hand;
      next = next;
    }

module _ {run run₂ : Run} {go : Bool} (b : Starts run run₂ go) (empty : run.page.text ≡ []) where
  abbrev s : List ℕ
  s = run.agreement.now

  put_is : run₂.page.text ≡ start_line s (start_of s run.table)
  put_is = b.line ∙ ap (λ l. l ++ start_line s (start_of s run.table)) empty

  begun : (readings : List (List ℕ)) → lines_of s run.table readings ≡ start_line s (start_of s run.table)
      ++ lines_then go s run₂.table readings
  unfolding lines_of lines_then
  begun readings = ap (λ r. start_line s (start_of s run.table) ++ r)
      (ap₂ (λ go vs. lines_then go s vs readings) (sym b.goes) (sym b.table))

  module _ (coming : Option (List ℕ)) (ended : Bool) (written written₂ written₃ : Option (List ℕ))
      (writes : Appends written written₂ run₂.page.text) where
    pub refused_writes : go ≡ false → (readings : List ℕ → List (List ℕ))
        → Writes coming ended written written₂ (λ bytes. lines_of s run.table (readings bytes))
    unfolding lines_then
    refused_writes stops readings = record {
      writes = λ bytes e h. same_appends written written₂
          (put_is ∙ sym (begun (readings bytes)
          ∙ ap (λ g. start_line s (start_of s run.table) ++ lines_then g s run₂.table (readings bytes)) stops
          ∙ append-nil (start_line s (start_of s run.table)))) writes;
    }

    pub begun_writes : go ≡ true → (readings : List ℕ → List (List ℕ)) (result : Result (Unit {0}) Failure)
        → OnOk result (Writes coming ended written₂ written₃
        (λ bytes. reading_lines s run₂.table 1 (readings bytes)))
        → OnOk result (Writes coming ended written written₃ (λ bytes. lines_of s run.table (readings bytes)))
    unfolding lines_then
    begun_writes continues readings (Err why) p = tt
    begun_writes continues readings (Ok done) p = record {
      writes = λ bytes e h.
          let then = reading_lines s run₂.table 1 (readings bytes) in
          same_appends written written₃
          (ap (λ l. l ++ then) put_is ∙ sym (begun (readings bytes)
          ∙ ap (λ g. start_line s (start_of s run.table) ++ lines_then g s run₂.table (readings bytes)) continues))
          (appends_then written written₂ written₃ run₂.page.text then writes (p.writes bytes e h));
    }

-- what is written after the start's line has been, of the same bytes at hand
pub read_on : {run run₂ run₃ : Run} {go : Bool} → Starts run run₂ go → run₃ ≡ written run₂
    → (coming w w₂ : Option (List ℕ)) (result : Result (Unit {0}) Failure)
    → OnOk result (Writes coming run₃.hand.ended w w₂
    (λ bytes. reading_lines run₃.agreement.now run₃.table 1 (records_of (run₃.hand.bytes ++ bytes))))
    → OnOk result (Writes coming run.hand.ended w w₂
    (λ bytes. reading_lines run.agreement.now run₂.table 1 (records_of (run.hand.bytes ++ bytes))))
read_on {run} {run₂} {run₃} b e coming w w₂ result p =
    subst (λ h. of h run.agreement.now run₂.table) (ap (λ r. r.hand) e ∙ b.hand)
    (subst (λ s. of run₃.hand s run₂.table) (ap (λ r. r.agreement.now) e ∙ b.kept.agreement)
    (subst (λ vs. of run₃.hand run₃.agreement.now vs) (ap (λ r. r.table) e) p))
  where
    of : AtHand → List ℕ → List ℤ → Type 0
    of hand s vs = OnOk result (Writes coming hand.ended w w₂
        (λ bytes. reading_lines s vs 1 (records_of (hand.bytes ++ bytes))))
