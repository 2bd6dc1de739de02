-- The first record of the input, found among the bytes at hand, and what is written for the whole input then.
use Rattle.std.proofs.Common.{◌≡◌, refl, sym, ap, ap₂, ◌∙◌, Bool, true, false, cond, arith}
use Rattle.std.proofs.Common.{Option, Some, None, Result, Ok, Err, OnOk, IfSome, ℤ, take, drop}
use Rattle.std.specs.Io.KnownBytes.{Appends}
use Rattle.std.proofs.Common.{List, [], ◌++◌, length, ℕ, ◌-◌, ◌≤◌, ◌<◌}
use Rattle.std.proofs.lemmas.List.{length-append}
use Rattle.stream.specs.Records.{records_of}
use Rattle.stream.specs.Next.{next_of}
use Rattle.stream.specs.Hands.{AtHand, Brings}
use Rattle.stream.specs.declared.Next.{Next}
use Rattle.stream.specs.declared.Next.TheVariants.{Record, Wait, End}
use Rattle.stream.proofs.Cuts.{known, no_records}
use Rattle.lines.specs.Lines.{lines_of}
use Rattle.watch.specs.Watched.{watched, watched_records, zeros}
use Rattle.watch.specs.Runs.{Carries, Opens, Writes}
use Rattle.watch.specs.declared.Failure.{Failure}
use Rattle.watch.proofs.Serving.{same_appends}

module _ (hand : AtHand) {r : Next} (found : r ≡ next_of hand.bytes hand.ended) where
  -- a record that was found lies within the bytes at hand
  pub found_within : {k : ℕ} → r ≡ Record k → k ≤ length hand.bytes
  found_within {k} is = ((known hand.bytes hand.ended).cut k (sym found ∙ is)).bounded

  pub waits_open : r ≡ Wait → hand.ended ≡ false
  waits_open is = ((known hand.bytes hand.ended).wait (sym found ∙ is)).1

  module _ {coming coming₂ : Option (List ℕ)} (carried : Carries coming false [] coming₂ hand.ended hand.bytes) where
    -- the first record is the agreement's
    pub opens_record : {k : ℕ} → r ≡ Record k → Opens coming coming₂ hand k
    unfolding watched watched_records
    opens_record {k} is = record {
      opens = λ bytes e.
          let cut = (known hand.bytes hand.ended).cut k (sym found ∙ is) in
          let w = carried.carries bytes e (λ q. cc) in
          (w.0, w.1, w.2, ap watched_records (ap records_of w.3 ∙ cut.is w.0 w.2));
    }

    -- there is no byte
    pub opens_end : r ≡ End → Opens coming coming₂ hand 0
    unfolding watched watched_records
    opens_end is = record {
      opens = λ bytes e.
          let over = (known hand.bytes hand.ended).end (sym found ∙ is) in
          let w = carried.carries bytes e (λ q. cc) in
          let none : hand.bytes ++ w.0 ≡ [] = ap₂ (λ a b. a ++ b) over.0 (w.2 over.1) in (
            w.0,
            w.1,
            w.2,
            ap watched_records (ap records_of (w.3 ∙ none) ∙ no_records)
                ∙ ap (λ l. lines_of [] zeros l) (sym (ap records_of none ∙ no_records)),
          );
    }

-- each turn brings a byte or the end
pub fewer : (hand hand₂ : AtHand) {coming left : Option (List ℕ)} → hand.ended ≡ false → length hand.bytes < 65_535
    → Brings hand.bytes hand₂ coming left
    → cond hand₂.ended 0 (65_537 - length hand₂.bytes) < cond hand.ended 0 (65_537 - length hand.bytes)
fewer hand hand₂ going h c = rw going (go hand₂.ended refl)
  where
    go : (b : Bool) → hand₂.ended ≡ b → cond b 0 (65_537 - length hand₂.bytes) < 65_537 - length hand.bytes
    go true e = omega arith
    go false e = let came = c.some e in
        omega (arith, ap length c.behind, length-append hand.bytes c.came)

-- what is written for the first record and the rest is what is written for the whole input
pub opened_writes : {coming coming₂ : Option (List ℕ)} (written written₂ : Option (List ℕ)) {hand : AtHand} {takes : ℕ}
    → Opens coming coming₂ hand takes → {s : List ℕ} {cells : List ℤ} (left : AtHand)
    → s ≡ take takes hand.bytes → cells ≡ zeros → left.bytes ≡ drop takes hand.bytes → left.ended ≡ hand.ended
    → (result : Result (Unit {0}) Failure) → OnOk result (Writes coming₂ left.ended written written₂
    (λ bytes. lines_of s cells (records_of (left.bytes ++ bytes))))
    → OnOk result (IfSome coming (λ bytes. Appends written written₂ (watched bytes)))
opened_writes written written₂ o left e z rest ended (Err why) p = tt
opened_writes {coming = None} written written₂ o left e z rest ended (Ok done) p = tt
opened_writes {coming = Some bytes} written written₂ {hand = hand} {takes = takes} o left e z rest ended (Ok done) p =
    let w = o.opens bytes refl in
    same_appends written written₂
    (ap₂ (λ x y. lines_of x y (records_of (left.bytes ++ w.0))) e z
    ∙ ap (λ l. lines_of (take takes hand.bytes) zeros (records_of (l ++ w.0))) rest ∙ sym w.3)
    (p.writes w.0 w.1 (λ is. w.2 (sym ended ∙ is)))
