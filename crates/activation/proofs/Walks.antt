-- Laws of the rules as the code knows things: what each clause leads to.
use mathlib.Core.Path.{◌≡◌, refl, sym, ap, ◌∙◌, subst}
use mathlib.Core.Bool.{Bool, true, false, cond, ◌&&◌}
use mathlib.Core.List.{List, []}
use mathlib.Core.Option.{Option, none, some}
use Prim.Native.Nat.{ℕ, zero, suc, ◌+◌, ◌-◌, ◌≤◌, ◌<◌}
use native.Mathlib.Nat.{add_comm}
use native.Mathlib.Omega.{arith}
use native.Mathlib.Decide.{dec_le}
use lib.IntN.{ℤ, pos}
use lib.Dec.{eqb}
use lib.ListN.{length}
use borrow.Author.Tests.{ne_eqb, eq-eqb}
use Rattle.std.specs.Prelude.{Some}
use Rattle.laws.proofs.Clash.{impossible}
use Rattle.arith.specs.Near.{Near}
use Rattle.arith.proofs.Ints.{seen, read}
use Rattle.arith.proofs.Numbers.{held_fits}
use Rattle.records.specs.Index.{Lists, template_place, head_at, body_from, body_bytes}
use Rattle.records.proofs.Index.{piece, heads_at, templates_at, templates_length, body_there, body_is}
use Rattle.csl.specs.Lists.{at}
use Rattle.csl.specs.Numbers.{Held, later_of}
use Rattle.csl.specs.Bytes.{byte, part, is_record, kind_number, record_end}
use Rattle.csl.specs.Syntax.{Expr, and, or, Clause, bad_clause, Wait, Template, Head}
use Rattle.csl.specs.Syntax as syntax
use Rattle.csl.specs.Decode.{ClauseKind, clause_kind, expr, wait_at, wait_end, clause, clause_body, instance_of}
use Rattle.csl.specs.Decode.{heads_of}
use Rattle.csl.specs.Decode.{arguments, records_end, if_kind, obligation_kind, choice_kind, instance_kind, join_kind}
use Rattle.csl.specs.Decode.{body_of, template_of}
use Rattle.csl.specs.Cost.{Tally, both_at_once, tally_join, nothing_yet, one_more}
use Rattle.cells.specs.Evaluate.{eval_cells, evals_cells, is_true_cell}
use Rattle.cells.specs.Reduce as cells
use Rattle.cells.proofs.Unfolds.{unfold_at, unfold_past}
use Rattle.cells.specs.Reduce.{Mode, activating, forecasting, following, fate, waits, late, taken, last_of}
use Rattle.cells.specs.Reduce.{then_values, blamed_cells, blame_bits}
use Rattle.records.proofs.Trees.{clause_zero, clause_none, clause_at_lem, kind_no_clause_low, kind_no_clause_high}
use Rattle.records.proofs.Trees.{kind_fulfilled, kind_obligation}
use denote.Ref.{Bor}
use Rattle.kinds.specs.Kinds.{join_in, join_number}
use Rattle.parties.specs.declared.breach.Breach.{Breach as Broken}
use Rattle.kinds.specs.declared.Join.{Join}
use Rattle.kinds.specs.declared.Join.TheVariants.{And, Or}
use Rattle.kinds.specs.declared.WaitKind.TheVariants.{Obligation, Choice}
use Rattle.readings.specs.declared.reading.Reading.{Reading}
use Rattle.waits.specs.Fates.{mode_of, FateIs}
use Rattle.residues.specs.Tallies.{ended_by}
use Rattle.activation.specs.Leads.{Leads, Shaped, Outlined, Acting, Told, Ended, reckon_at, reckon_below, body_in}
use Rattle.activation.specs.Leads.{templates_of, Follows, BreaksAhead}
use Rattle.activation.specs.declared.sites.Site.{Site}
use Rattle.waits.specs.declared.Fate.{Fate}
use Rattle.waits.specs.declared.Fate.TheVariants.{Waits as WaitsOn, Late, Taken}
use Rattle.activation.proofs.Recursion.{breach_is}
use Rattle.activation.specs.declared.Next.{Next}
use Rattle.activation.specs.declared.Next.TheVariants.{Ends, Breaks, Waits, Picks, Lapses, Takes, Unfolds}
use Rattle.activation.specs.declared.Shape.{Shape}

-- a clause that is fulfilled at once is counted
ended_once : cells.reaches cells.ended ≡ ended_by 1
unfolding cells.reaches cells.ended one_more nothing_yet ended_by
ended_once = refl

-- ---- what a wait is known to become
module _ (m : Mode) (vs : List ℤ) (a : ℕ) (w : Wait) {f : Fate} (h : FateIs m vs a w f) where
  pub is_waits : f ≡ WaitsOn → fate m vs a w ≡ waits
  unfolding FateIs
  is_waits e = rw e at h

  pub is_late : {l : ℤ} → f ≡ Late l → (fate m vs a w ≡ late) × (l ≡ last_of vs a w) × Near (a + 2_000_000_000) l
  unfolding FateIs
  is_late e = rw e at h

  pub is_taken : {r : Bor Reading} {l : ℤ} → f ≡ Taken r l → (fate m vs a w ≡ taken) × (l ≡ last_of vs a w)
      × Near (a + 2_000_000_000) l × (m ≡ mode_of r.now)
  unfolding FateIs
  is_taken e = rw e at h

-- only a reading that is followed takes
taken_follows : (mode : Mode) (vs : List ℤ) (a : ℕ) (w : Wait) → fate mode vs a w ≡ taken → Follows mode
unfolding fate
taken_follows activating vs a w q = impossible cc
taken_follows forecasting vs a w q = impossible cc
taken_follows (following t k rs) vs a w q = tt

-- ---- obligations and choices
module _ (mode : Mode) (ag : List ℕ) (below : ℕ) (s : List ℕ) (place : ℕ) (ps vs : List ℤ) (a depth : ℕ)
    (deep : 1 ≤ depth) where
  abbrev wait_of : ℕ → Wait
  wait_of i = wait_at (expr (depth - 1)) place s i

  abbrev LeadsTo : ClauseKind → Next → Type 0
  LeadsTo k r = Leads mode ag below s place ps vs a depth (body_in ag (depth - 1) place s k) r

  pub obligation_waits : fate mode vs a (wait_of 5) ≡ waits → LeadsTo obligation_kind (Waits Obligation)
  unfolding Leads reckon_below cells.walk clause_body wait_at
  obligation_waits f = rw (f, cells.walk)

  pub obligation_late : fate mode vs a (wait_of 5) ≡ late → {l : ℤ} → l ≡ last_of vs a (wait_of 5)
      → (b : Broken) → b.time ≡ pos (later_of a l) → b.parties ≡ blame_bits ps (byte s 4)
      → LeadsTo obligation_kind (Breaks b)
  unfolding Leads reckon_below cells.walk clause_body
  obligation_late f {l} el b et eb = (later_of a l, rw (f, cells.walk, eb, el), et)

  -- a `then` at c
  module _ {c z : ℕ} (o : (c ≤ z) × (z ≤ length s)) {l : ℤ} (near : Near (a + 2_000_000_000) l) (r : Bor Reading)
      (m : mode ≡ mode_of r.now) where
    pub obligation_taken : c ≡ wait_end s 5 → z ≡ length s → fate mode vs a (wait_of 5) ≡ taken
        → l ≡ last_of vs a (wait_of 5) → LeadsTo obligation_kind (Takes r c z l)
    unfolding Leads reckon_below cells.walk cells.on_taken clause_body
    obligation_taken ec ez f el =
        record {
          is = rw (f, cells.walk, m, cells.on_taken, ← el, ec, ez);
          order = o.0;
          inside = o.1;
          deep = deep;
          near = near;
          follows = taken_follows mode vs a (wait_of 5) f;
        }

    pub choice_taken : c ≡ wait_end s 4 → z ≡ record_end s c → fate mode vs a (wait_of 4) ≡ taken
        → l ≡ last_of vs a (wait_of 4) → LeadsTo choice_kind (Takes r c z l)
    unfolding Leads reckon_below cells.walk cells.on_taken clause_body
    choice_taken ec ez f el =
        record {
          is = rw (f, cells.walk, m, cells.on_taken, ← el, ez, ec);
          order = o.0;
          inside = o.1;
          deep = deep;
          near = near;
          follows = taken_follows mode vs a (wait_of 4) f;
        }

  pub choice_waits : fate mode vs a (wait_of 4) ≡ waits → LeadsTo choice_kind (Waits Choice)
  unfolding Leads reckon_below cells.walk clause_body wait_at
  choice_waits f = rw (f, cells.walk)

  -- the else at z
  pub choice_late : {c z y b : ℕ} → c ≡ wait_end s 4 → z ≡ record_end s c → y ≡ length s → (4 ≤ z) × (z ≤ y)
      → fate mode vs a (wait_of 4) ≡ late → {l : ℤ} → l ≡ last_of vs a (wait_of 4) → (b ≡ later_of a l)
      × (b ≤ a + 2_000_000_000) → LeadsTo choice_kind (Lapses z y b)
  unfolding Leads reckon_below cells.walk clause_body
  choice_late ec ez ey o f el eb = record {
    is = rw (f, cells.walk, ← el, ← eb.0, ey, ez, ec);
    past = o.0;
    order = o.1;
    inside = omega arith;
    deep = deep;
    soon = eb.1;
  }

  -- ---- `if`
  module _ {c f : ℕ} (ec : c ≡ record_end s 4) (ef : f ≡ record_end s c) {x : ℤ}
      (ex : (x ≡ eval_cells vs (expr (depth - 1) (part s 4 c))) × Held x) where
    pub chosen_then : is_true_cell (seen x) ≡ true → (4 ≤ c) × (c ≤ f) × (f ≤ length s) → LeadsTo if_kind (Picks c f)
    unfolding Leads reckon_below cells.walk clause_body
    chosen_then t o =
        let g : is_true_cell (eval_cells vs (expr (depth - 1) (part s 4 (record_end s 4)))) ≡ true = rw
        (read (held_fits ex.1), ex.0, ec) at t in
        record {
          is = rw (g, cells.walk, ef, ec);
          past = o.0;
          order = o.1;
          inside = o.2;
          deep = deep;
          soon = omega
              arith;
        }

    pub chosen_else : is_true_cell (seen x) ≡ false → (4 ≤ f) × (f ≤ length s) → LeadsTo if_kind (Picks f (length s))
    unfolding Leads reckon_below cells.walk clause_body
    chosen_else t o =
        let g : is_true_cell (eval_cells vs (expr (depth - 1) (part s 4 (record_end s 4)))) ≡ false = rw
        (read (held_fits ex.1), ex.0, ec) at t in
        record {
          is = rw (g, cells.walk, ef, ec);
          past = o.0;
          order = o.1;
          inside = omega arith;
          deep = deep;
          soon = omega arith;
        }

-- ---- templates
-- a template's body, by where it stands in the agreement
module _ {ag : List ℕ} (x : Lists ag) (k : ℕ) (h : k < byte ag 10) where
  body_here : body_of (heads_of ag) (piece ag (template_place ag k)) ≡ clause (heads_of ag) 22 (body_from ag k)
      (body_bytes ag k)
  body_here = body_is (body_there (x, h)) (heads_of ag)

  pub body_below : (m : Mode) (below : ℕ) (ps vs : List ℤ) (a : ℕ) → k < below
      → cells.unfold_below m (cells.activate (templates_of ag)) (templates_of ag) below k ps vs a ≡ reckon_below m ag k
      (clause (heads_of ag) 22 (body_from ag k) (body_bytes ag k)) ps vs a
  unfolding reckon_below template_of
  body_below m below ps vs a l = unfold_at m (cells.activate (templates_of ag)) (templates_of ag) ps vs a below k l
      (templates_at ag k h) ∙ ap (λ c. reckon_below m ag k c ps vs a) body_here

-- ---- instances
instance_walk : (m : Mode) (ag : List ℕ) (below k : ℕ) (es : List Expr) (bs : List ℕ) (ps vs : List ℤ) (a : ℕ)
    → reckon_below m ag below (Clause.instance k es bs) ps vs a ≡ cells.reaches (cells.unfold_below m
    (cells.activate (templates_of ag)) (templates_of ag) below k (blamed_cells ps bs) (evals_cells vs es) a)
unfolding reckon_below cells.walk
instance_walk m ag below k es bs ps vs a = refl

module _ (mode : Mode) (ag : List ℕ) (below : ℕ) (s : List ℕ) (place : ℕ) (ps vs : List ℤ) (a d : ℕ)
  where
    abbrev LeadsOn : Next → Type 0
    LeadsOn r = Leads mode ag below s place ps vs a d (body_in ag (d - 1) place s instance_kind) r

    ends_past : (o : Option Head) → below ≤ byte s 4
        → reckon_below mode ag below (instance_of (expr (d - 1)) s o) ps vs a ≡ ended_by 1
    unfolding instance_of reckon_below cells.walk
    ends_past none h = ended_once
    ends_past (some hd) h = by_length (eqb (records_end (length hd.values) s 5 + hd.params) (length s))
      where
        by_length : (b : Bool) → reckon_below mode ag below
            (cond b (Clause.instance (byte s 4) (arguments (expr (d - 1)) (length hd.values) s 5)
            (part s (records_end (length hd.values) s 5) (length s))) bad_clause) ps vs a ≡ ended_by 1
        by_length true = ap cells.reaches (unfold_past mode (cells.activate (templates_of ag))
            (templates_of ag) (blamed_cells ps (part s (records_end (length hd.values) s 5) (length s)))
            (evals_cells vs (arguments (expr (d - 1)) (length hd.values) s 5)) a below (byte s 4) h) ∙ ended_once
        by_length false = ended_once

    pub instance_past : {k : ℕ} → k ≡ byte s 4 → below ≤ k → LeadsOn Ends
    unfolding Leads clause_body
    instance_past ek h = ends_past (at (heads_of ag) (byte s 4)) (omega arith)

    module _ (x : Lists ag) (few : below ≤ byte ag 10) {k n i m : ℕ} (ek : k ≡ byte s 4) (h : k < below)
        (en : n ≡ length (head_at ag k).values) (ei : i ≡ records_end n s 5) (em : m ≡ (head_at ag k).params) where
      named : instance_of (expr (d - 1)) s (at (heads_of ag) (byte s 4)) ≡ cond (eqb (i + m) (length s))
          (Clause.instance k (arguments (expr (d - 1)) n s 5) (part s i (length s))) bad_clause
      unfolding instance_of
      named = let hk : at (heads_of ag) (byte s 4) ≡ some (head_at ag k) = rw (← ek) (heads_at ag k (omega arith)) in
          rw (hk, em, ei, en, ek)

      pub instance_bad : (i + m ≡ length s → ⊥) → LeadsOn Ends
      unfolding Leads clause_body reckon_below cells.walk
      instance_bad f = rw (named, ne_eqb (i + m) (length s) f) ended_once

      pub instance_is : m ≤ 4 → i + m ≡ length s → LeadsOn (Unfolds k i)
      unfolding Leads clause_body
      instance_is fm f = record {
        is = ap (λ c. reckon_below mode ag below c ps vs a) (named ∙ rw (eq-eqb (i + m) (length s) f))
            ∙ instance_walk mode ag below k (arguments (expr (d - 1)) n s 5) (part s i (length s)) ps vs a
            ∙ ap cells.reaches (body_below x k (omega arith) mode below
            (blamed_cells ps (part s i (length s))) (evals_cells vs (arguments (expr (d - 1)) n s 5)) a h)
            ∙ rw en;
        less = h;
        inside = omega arith;
        few = omega arith;
      }

-- ---- what is activated takes no reading: how a `then` is activated makes no difference
module _ (th th' : Clause → List ℤ → List ℤ → ℕ → cells.Reckoned)
    (inst inst' : ℕ → List ℤ → List ℤ → ℕ → cells.Reckoned)
    (h : (k : ℕ) (ps vs : List ℤ) (a : ℕ) → inst k ps vs a ≡ inst' k ps vs a) where
  walk_alike : (c : Clause) (ps vs : List ℤ) (a : ℕ)
      → cells.walk activating th inst c ps vs a ≡ cells.walk activating th' inst' c ps vs a
  unfolding cells.walk fate
  walk_alike Clause.fulfilled ps vs a = refl
  walk_alike (Clause.obligation b w t) ps vs a = refl
  walk_alike (Clause.choice w t f) ps vs a = refl
  walk_alike (Clause.if c t f) ps vs a =
      ap cells.reaches (by_truth (is_true_cell (eval_cells vs c)) (walk_alike t ps vs a)
      (walk_alike f ps vs a))
    where
      by_truth : (b : Bool) → cells.walk activating th inst t ps vs a ≡ cells.walk activating th' inst' t ps vs a
          → cells.walk activating th inst f ps vs a ≡ cells.walk activating th' inst' f ps vs a
          → ◌≡◌ {A = cells.Reckoned} (elim b [
            | true ↦ cells.walk activating th inst t ps vs a
            | false ↦ cells.walk activating th inst f ps vs a
          ])
          (elim b [
            | true ↦ cells.walk activating th' inst' t ps vs a
            | false ↦ cells.walk activating th' inst' f ps vs a
          ])
      by_truth true p q = p
      by_truth false p q = q
  walk_alike (Clause.join j t f) ps vs a = rw (walk_alike t ps vs a, walk_alike f ps vs a)
  walk_alike (Clause.instance k es bs) ps vs a = ap cells.reaches (h k (blamed_cells ps bs) (evals_cells vs es) a)
  walk_alike Clause.bad_clause ps vs a = refl

module _ (th th' : Clause → List ℤ → List ℤ → ℕ → cells.Reckoned) (ts : List Template) where
  unfold_alike : (n k : ℕ) (ps vs : List ℤ) (a : ℕ)
      → cells.unfold_below activating th ts n k ps vs a ≡ cells.unfold_below activating th' ts n k ps vs a
  unfolding cells.unfold_below
  unfold_alike zero k ps vs a = refl
  unfold_alike (suc n) k ps vs a = by_number (eqb k n) (at ts n) (unfold_alike n k ps vs a)
      (λ c. walk_alike th th' (cells.unfold_below activating th ts n) (cells.unfold_below activating th' ts n)
      (unfold_alike n) c ps vs a)
    where
      by_number : (b : Bool) (o : Option Template)
          → cells.unfold_below activating th ts n k ps vs a ≡ cells.unfold_below activating th' ts n k ps vs a
          → ((c : Clause) → cells.walk activating th (cells.unfold_below activating th ts n) c ps vs a ≡ cells.walk
          activating th' (cells.unfold_below activating th' ts n) c ps vs a)
          → ◌≡◌ {A = cells.Reckoned} (elim b [
            | true ↦ elim o [
              | none ↦ cells.ended
              | some t ↦ cells.walk activating th (cells.unfold_below activating th ts n) t.body
                  ps vs a
            ]
            | false ↦ cells.unfold_below activating th ts n k ps vs a
          ])
          (elim b [
            | true ↦ elim o [
              | none ↦ cells.ended
              | some t ↦ cells.walk activating th' (cells.unfold_below activating th' ts n) t.body ps vs a
            ]
            | false ↦ cells.unfold_below activating th' ts n k ps vs a
          ])
      by_number true none p q = refl
      by_number true (some t) p q = q t.body
      by_number false o p q = p

pub then_is : (ag : List ℕ) (c : Clause) (ps vs : List ℤ) (a : ℕ)
    → cells.activate (templates_of ag) c ps vs a ≡ reckon_below activating ag (byte ag 10) c ps vs a
unfolding cells.activate reckon_below
then_is ag c ps vs a =
    let ts = templates_of ag in
    let no : Clause → List ℤ → List ℤ → ℕ → cells.Reckoned = λ t qs us u. cells.ended in
    walk_alike no (cells.activate ts) (cells.unfold_below activating no ts (length ts))
    (cells.unfold_below activating (cells.activate ts) ts (length ts))
    (unfold_alike no (cells.activate ts) ts (length ts)) c ps vs a
    ∙ ap (λ n. cells.walk activating (cells.activate ts) (cells.unfold_below activating (cells.activate ts) ts n) c ps
    vs a) (templates_length ag)

-- ---- by the record's kind
module _ (mode : Mode) (ag : List ℕ) (below : ℕ) (s : List ℕ) (place : ℕ) (ps vs : List ℤ) (a depth : ℕ)
  where
    abbrev comes_to : Clause → cells.Reckoned
    comes_to c = reckon_below mode ag below c ps vs a

    abbrev here : Clause
    here = clause (heads_of ag) depth place s

    does_bad : ended_by 1 ≡ comes_to bad_clause
    unfolding reckon_below cells.walk
    does_bad = sym ended_once

    ends_zero : depth ≡ 0 → comes_to here ≡ ended_by 1
    ends_zero h = sym (clause_zero comes_to (heads_of ag) depth place s h does_bad)

    ends_none : (depth ≡ 0 → ⊥) → is_record s ≡ false → comes_to here ≡ ended_by 1
    ends_none n h = sym (clause_none comes_to (heads_of ag) depth place s n refl h does_bad)

    module _ {m : ℕ} (t : Told s depth m) where
      clause_is : {k : ClauseKind} → clause_kind m ≡ k → body_in ag (depth - 1) place s k ≡ here
      clause_is {k} q = clause_at_lem (λ c. c) (heads_of ag) depth place s (λ z. omega (arith, t.deep)) refl t.is_whole
          t.kind (ap (body_in ag (depth - 1) place s) (sym q))

      ends_low : m ≤ 16 → comes_to here ≡ ended_by 1
      unfolding reckon_below cells.walk clause_body
      ends_low l = by_number (dec_le m 15)
        where
          by_length : (t : Bool) → comes_to (cond t Clause.fulfilled bad_clause) ≡ ended_by 1
          by_length true = ended_once
          by_length false = ended_once

          by_number : Dec (m ≤ 15) → comes_to here ≡ ended_by 1
          by_number (yes p) = ap comes_to (sym (clause_is (kind_no_clause_low m (omega arith)))) ∙ ended_once
          by_number (no p) = ap comes_to (sym (clause_is (kind_fulfilled {k = m} (omega arith))))
              ∙ by_length (eqb (length s) 4)

      ends_high : 23 ≤ m → comes_to here ≡ ended_by 1
      unfolding reckon_below cells.walk clause_body
      ends_high l = ap comes_to (sym (clause_is (kind_no_clause_high m l))) ∙ ended_once

    pub leads_body : Acting depth s → {m : ℕ} → m ≡ kind_number s → {k : ClauseKind} → clause_kind m ≡ k
        → (r : Next) → Leads mode ag below s place ps vs a depth (body_in ag (depth - 1) place s k) r
        → Leads mode ag below s place ps vs a depth here r
    leads_body t em q r x = subst (λ c. Leads mode ag below s place ps vs a depth c r)
        (clause_is (record { deep = t.deep; is_whole = t.is_whole; kind = em }) q) x

-- an obligation's breach, if only time goes on
pub breaks_ahead : (s : List ℕ) (ps vs : List ℤ) (a : ℕ) → is_record s ≡ true → {m : ℕ} → m ≡ kind_number s → m ≡ 17
    → {l : ℤ} → ((p : ℕ) → l ≡ last_of vs a (wait_at (expr 22) p s 5)) → (b : Broken)
    → (b.time ≡ pos (later_of a l)) × (b.parties ≡ blame_bits ps (byte s 4)) → BreaksAhead s ps vs a (Some b)
unfolding BreaksAhead Leads fate cells.reaches cells.broken
breaks_ahead s ps vs a whole {m} em e el b is = λ ag place.
    let below = byte ag 10 in
    let acts : Acting 23 s = record {
      deep = omega arith;
      is_whole = whole;
      from = omega arith;
      to = omega arith;
      single = λ x y. omega arith;
    } in
    let h = leads_body forecasting ag below s place ps vs a 23 acts em (kind_obligation e) (Breaks b)
    (obligation_late forecasting ag below s place ps vs a 23 (omega arith) refl (el place) b is.0 is.1) in
    breach_is [] b (h.0, ap (λ x. x.outcome) h.1, h.2)

-- the last kind of a clause that acts
pub acting_last : {depth : ℕ} {s : List ℕ} → Acting depth s → {m : ℕ} → m ≡ kind_number s → (m ≡ 17 → ⊥) → (m ≡ 18 → ⊥)
    → (m ≡ 19 → ⊥) → m ≡ 22
acting_last {s = s} t {m} em f g h = by_number (dec_le m 21)
  where
    by_number : Dec (m ≤ 21) → m ≡ 22
    by_number (yes p) = absurd (t.single (omega (arith, t.from)) (omega arith))
    by_number (no p) = omega (arith, t.to)

-- a record of no kind that does anything, at any depth and of any length
pub ended : (s : List ℕ) {m : ℕ} → m ≡ kind_number s → (17 ≤ m → m < 23 → ⊥) → Ended s
ended s {m} em f = record { is = λ mode ag t ps vs. by_depth mode ag t ps vs t.depth refl }
  where
    by_record : (mode : Mode) (ag : List ℕ) (t : Site) (ps vs : List ℤ) → 1 ≤ t.depth → (b : Bool)
        → is_record s ≡ b → reckon_at mode ag t s ps vs ≡ ended_by 1
    by_record mode ag t ps vs d false g = ends_none mode ag t.below s t.place ps vs t.a t.depth
        (λ z. omega arith) g
    by_record mode ag t ps vs d true g = by_number (dec_le m 16) (dec_le 23 m)
      where
        told : Told s t.depth m
        told = record { deep = d; is_whole = g; kind = em }

        by_number : Dec (m ≤ 16) → Dec (23 ≤ m) → reckon_at mode ag t s ps vs ≡ ended_by 1
        by_number (yes p) q = ends_low mode ag t.below s t.place ps vs t.a t.depth told p
        by_number (no p) (yes q) = ends_high mode ag t.below s t.place ps vs t.a t.depth told q
        by_number (no p) (no q) = absurd (f (omega arith) (omega arith))

    by_depth : (mode : Mode) (ag : List ℕ) (t : Site) (ps vs : List ℤ) (d : ℕ) → t.depth ≡ d
        → reckon_at mode ag t s ps vs ≡ ended_by 1
    by_depth mode ag t ps vs zero h = ends_zero mode ag t.below s t.place ps vs t.a t.depth h
    by_depth mode ag t ps vs (suc d) h = by_record mode ag t ps vs (omega arith) (is_record s) refl

-- ---- what a record shows
module _ (s : List ℕ) (depth : ℕ) where
  pub shows_zero : depth ≡ 0 → Outlined s depth (Shape.Ends 1)
  unfolding Shaped
  shows_zero h = λ mode ag below place ps vs a. (ends_zero mode ag below s place ps vs a depth h, omega arith)

  pub shows_none : (depth ≡ 0 → ⊥) → is_record s ≡ false → Outlined s depth (Shape.Ends 1)
  unfolding Shaped
  shows_none n h = λ mode ag below place ps vs a. (ends_none mode ag below s place ps vs a depth n h, omega arith)

pub shows_idle : {s : List ℕ} {depth m : ℕ} → Told s depth m → (17 ≤ m → m < 23 → ⊥) → Outlined s depth (Shape.Ends 1)
unfolding Shaped
shows_idle {s} {depth} t f = λ mode ag below place ps vs a. (
  (ended s t.kind f).is mode ag (record { below = below; place = place; a = a; depth = depth }) ps vs,
  omega arith,
)

pub shows_acts : {s : List ℕ} {depth m : ℕ} → Told s depth m → 17 ≤ m → m < 23 → (20 ≤ m → m < 22 → ⊥)
    → Outlined s depth Shape.Acts
unfolding Shaped
shows_acts t l u f = λ mode ag below place ps vs a. record {
  deep = t.deep;
  is_whole = t.is_whole;
  from = omega (arith, t.kind);
  to = omega (arith, t.kind);
  single = λ x y. f (omega (arith, t.kind)) (omega (arith, t.kind));
}

-- ---- the two sides of a join
ended_both : (j : syntax.Join) → cells.reaches (cells.joins j (ended_by 1) (ended_by 1)) ≡ ended_by 3
unfolding cells.reaches cells.joins cells.joined cells.join_both cells.join_either one_more tally_join both_at_once
    ended_by
ended_both and = refl
ended_both or = refl

and_done : (x : cells.Reduced) → cells.joined and x cells.done ≡ x
unfolding cells.joined cells.join_both
and_done cells.done = refl
and_done (cells.breach t b) = refl
and_done (cells.running r) = refl

and_tally : (x : Tally) → tally_join and x (ended_by 1).tally ≡ tally_join and (ended_by 1).tally x
unfolding tally_join both_at_once ended_by
and_tally x = by_once x.at_once (add_comm x.activated 1) (add_comm x.further 0)
  where
    by_once : (b : Bool) {n m k l : ℕ} → n ≡ m → k ≡ l → ◌≡◌ {A = Tally}
        (record { at_once = b && true; activated = n; further = elim (b && true) [ true ↦ 0 | false ↦ k ] })
        (record { at_once = true && b; activated = m; further = elim (true && b) [ true ↦ 0 | false ↦ l ] })
    by_once true p q = rw p
    by_once false p q = rw (p, q)

-- an `and` does the same whichever of its sides is ended
and_ended : (x : cells.Reckoned) → cells.joins and x (ended_by 1) ≡ cells.joins and (ended_by 1) x
unfolding cells.joins cells.joined cells.join_both ended_by
and_ended x = rw (and_done x.outcome, and_tally x.tally)

join_is : (j : Join) → clause_kind (join_number j) ≡ join_kind (join_in j)
unfolding clause_kind
join_is And = refl
join_is Or = refl

-- a join whose right side begins at f
pub record Paired (s : List ℕ) (depth : ℕ) (j : Join) (f : ℕ) : Type 0 where
  pub told : Told s depth (join_number j)
  pub begins : f ≡ record_end s 4
  pub order : 4 ≤ f
  pub inside : f ≤ length s

module _ {s : List ℕ} {depth : ℕ} {j : Join} {f : ℕ} (p : Paired s depth j f) where
  module _ (mode : Mode) (ag : List ℕ) (below place : ℕ) (ps vs : List ℤ) (a : ℕ) where
    abbrev side_site : ℕ → Site
    side_site x = record { below = below; place = place + x; a = a; depth = depth - 1 }

    abbrev side : ℕ → ℕ → cells.Reckoned
    side x y = reckon_at mode ag (side_site x) (part s x y) ps vs

    two : reckon_below mode ag below (clause (heads_of ag) depth place s) ps vs a ≡ cells.reaches
        (cells.joins (join_in j) (side 4 f) (side f (length s)))
    unfolding reckon_below cells.walk clause_body
    two = ap (λ c. reckon_below mode ag below c ps vs a)
        (sym (clause_is mode ag below s place ps vs a depth p.told (join_is j))) ∙ rw p.begins

  pub shows_sides : Outlined s depth (Shape.Joins j f)
  unfolding Shaped
  shows_sides = λ mode ag below place ps vs a. record {
    is = two mode ag below place ps vs a;
    order = p.order;
    inside = p.inside;
    deep = p.told.deep;
  }

  pub shows_both_ended : Ended (part s 4 f) → Ended (part s f (length s)) → Outlined s depth (Shape.Ends 3)
  unfolding Shaped
  shows_both_ended l r = λ mode ag below place ps vs a. (
    two mode ag below place ps vs a ∙ rw (
      l.is mode ag (side_site mode ag below place ps vs a 4) ps vs,
      r.is mode ag (side_site mode ag below place ps vs a f) ps vs,
    ) (ended_both (join_in j)),
    omega arith,
  )

  pub shows_right : Ended (part s 4 f) → j ≡ And → Outlined s depth (Shape.Goes f (length s))
  unfolding Shaped
  shows_right l x = λ mode ag below place ps vs a. record {
    is = two mode ag below place ps vs a
        ∙ rw (x, l.is mode ag (side_site mode ag below place ps vs a 4) ps vs);
    past = p.order;
    order = p.inside;
    inside = omega arith;
    deep = p.told.deep;
    soon = omega arith;
  }

  pub shows_left : Ended (part s f (length s)) → j ≡ And → Outlined s depth (Shape.Goes 4 f)
  unfolding Shaped
  shows_left r x = λ mode ag below place ps vs a. record {
    is = two mode ag below place ps vs a
        ∙ rw (x, r.is mode ag (side_site mode ag below place ps vs a f) ps vs)
        (ap cells.reaches (and_ended (side mode ag below place ps vs a 4 f)));
    past = omega arith;
    order = p.order;
    inside = p.inside;
    deep = p.told.deep;
    soon = omega arith;
  }
