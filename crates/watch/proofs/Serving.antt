-- Turn after turn: what is written and what is left to write, together, is all that was to be written.
use Rattle.std.proofs.Common.{◌≡◌, ap, ◌∙◌, sym, subst, ℕ, List, Bool, true, ◌++◌, append_assoc}
use Rattle.std.proofs.Common.{Option, Some, None}
use Rattle.std.specs.Io.KnownBytes.{Appends}
use Rattle.watch.specs.declared.Run.{Run}
use Rattle.watch.specs.Runs.{left_from, Serves}

-- ---- bytes written one after another
pub appends_then : (a b c : Option (List ℕ)) (w v : List ℕ) → Appends a b w → Appends b c v → Appends a c (w ++ v)
appends_then None b c w v p q = tt
appends_then (Some xs) None c w v p q = absurd p
appends_then (Some xs) (Some ys) None w v p q = absurd q
appends_then (Some xs) (Some ys) (Some zs) w v p q =
    let first : ys ≡ xs ++ w = p in
    let second : zs ≡ ys ++ v = q in
    second ∙ ap (λ l. l ++ v) first ∙ append_assoc xs w v

pub same_appends : (a b : Option (List ℕ)) {w v : List ℕ} → w ≡ v → Appends a b w → Appends a b v
same_appends a b e p = subst (Appends a b) e p

-- ---- turn after turn
pub serves_then : {run run₂ run₃ : Run} {coming coming₂ coming₃ : Option (List ℕ)}
    (written written₂ written₃ : Option (List ℕ)) {goes : Bool} → Serves run run₂ coming coming₂ written written₂ true
    → Serves run₂ run₃ coming₂ coming₃ written₂ written₃ goes → Serves run run₃ coming coming₃ written written₃ goes
serves_then {run₃ = run₃} written written₂ written₃ {goes} p q = record {
  serves = λ bytes e h.
      let w = p.serves bytes e h in
      let v = q.serves w.0 w.2 w.3 in (
        v.0,
        w.1 ++ v.1,
        v.2,
        v.3,
        appends_then written written₂ written₃ w.1 v.1 w.4 v.4,
        w.5 ∙ ap (λ l. w.1 ++ l) v.5 ∙ sym (append_assoc w.1 v.1 (left_from goes run₃ (run₃.hand.bytes ++ v.0))),
      );
}

pub serves_on : {run run₂ : Run} {coming coming₂ written written₂ : Option (List ℕ)} {goes goes₂ : Bool}
    → goes ≡ goes₂ → Serves run run₂ coming coming₂ written written₂ goes
    → Serves run run₂ coming coming₂ written written₂ goes₂
serves_on {run} {run₂} {coming} {coming₂} {written} {written₂} e p =
    subst (Serves run run₂ coming coming₂ written written₂) e p
