-- Of csl alone: a whole clause decodes the same at any greater depth, and what the finder finds at a place is the
-- record there.
use mathlib.Core.Path.{◌≡◌, refl, sym, ap, ap₂, ◌∙◌}
use mathlib.Core.Bool.{Bool, true, false, cond, ◌&&◌}
use mathlib.Core.List.{List, [], ◌∷◌, map}
use mathlib.Core.Option.{Option, none, some}
use Prim.Native.Nat.{ℕ, zero, suc, ◌+◌, ◌-◌, ◌≤◌, ◌<◌}
use native.Mathlib.Omega.{arith}
use lib.Dec.{T, eqb, leb, leb→le, eqb→eq}
use lib.ListN.{length}
use Rattle.arith.proofs.Lists.{length_part, part_part}
use Rattle.octets.proofs.Bytes.{le16_part, record_end_within, record_end_after, whole_from}
use Rattle.csl.specs.Lists.{all, at}
use Rattle.csl.specs.Bytes.{byte, le16, part, is_record, kind_number, record_end}
use Rattle.csl.specs.Syntax.{Ty, Expr, Clause, fulfilled, instance, bad_clause, Head}
use Rattle.csl.specs.Decode.{ExprKind, number_kind, truth_kind, party_kind, variable_kind, not_kind, binary_kind}
use Rattle.csl.specs.Decode.{no_expr}
use Rattle.csl.specs.Decode.{expr_body, expr_head, expr, ClauseKind, fulfilled_kind, obligation_kind, choice_kind}
use Rattle.csl.specs.Decode.{if_kind}
use Rattle.csl.specs.Decode.{join_kind, instance_kind, no_clause, clause_kind, clause_body, clause_head, clause}
use Rattle.csl.specs.Decode.{wait_at}
use Rattle.csl.specs.Decode.{wait_end, arguments, records_end, instance_of, whole_expr, whole_wait, whole, pieces}
use Rattle.csl.specs.Decode.{templates_place, main_place, template_pieces, heads_of, main_of, body_of, body_place}
use Rattle.csl.specs.Decode.{template_of, template_ok, agreement_of, well_formed, between}
use Rattle.csl.specs.Places.{Found, find, find_in, clause_at}
use Rattle.laws.proofs.Options.{some_inj, from_or_else, none_some}
use Rattle.laws.proofs.Bools.{T-left, T-right, from_test, both_true}
use Rattle.laws.proofs.RecordEnds.{some_within}
use Rattle.records.proofs.Index.{template_holds}
use Rattle.soundness.proofs.Decoding.{well_formed_lem}

-- ---- whole at one depth, the same at a greater one
module _ {e f : List ℕ → Expr} (same : (u : List ℕ) → T (whole_expr (e u)) → f u ≡ e u) (s : List ℕ) where
  expr_body_same : (k : ExprKind) → T (whole_expr (expr_body e s k)) → expr_body f s k ≡ expr_body e s k
  unfolding expr_body whole_expr
  expr_body_same number_kind t = refl
  expr_body_same truth_kind t = refl
  expr_body_same party_kind t = refl
  expr_body_same variable_kind t = refl
  expr_body_same not_kind t = rw (same (part s 4 (length s)) t)
  expr_body_same (binary_kind o) t =
      let c = record_end s 4 in
      both_true (whole_expr (e (part s 4 c))) _ t λ a b. rw (same (part s 4 c) a, same (part s c (length s)) b)
  expr_body_same no_expr t = absurd t

  arguments_same : (n i : ℕ) → T (all whole_expr (arguments e n s i)) → arguments f n s i ≡ arguments e n s i
  unfolding arguments all
  arguments_same zero i t = refl
  arguments_same (suc n) i t =
      let z = record_end s i in
      both_true (whole_expr (e (part s i z))) _ t λ a b. ap₂ (λ (x : Expr) (l : List Expr). x ∷ l) (same (part s i z) a)
      (arguments_same n z b)

  instance_same : (o : Option Head) → T (whole (instance_of e s o)) → instance_of f s o ≡ instance_of e s o
  unfolding instance_of whole
  instance_same none t = refl
  instance_same (some h) t = let n = length h.values in go (eqb (records_end n s 5 + h.params) (length s)) t
    where
      go : (b : Bool) → T (whole (cond b (instance (byte s 4) (arguments e (length h.values) s 5)
          (part s (records_end (length h.values) s 5) (length s))) bad_clause))
          → cond b (instance (byte s 4) (arguments f (length h.values) s 5)
          (part s (records_end (length h.values) s 5) (length s))) bad_clause ≡ cond b
          (instance (byte s 4) (arguments e (length h.values) s 5)
          (part s (records_end (length h.values) s 5) (length s))) bad_clause
      go true t = rw (arguments_same (length h.values) 5 t)
      go false t = refl

  wait_same : (p i : ℕ) → T (whole_wait (wait_at e p s i)) → wait_at f p s i ≡ wait_at e p s i
  unfolding wait_at whole_wait
  wait_same p i t =
      let a = record_end s (i + 1) in
      let b = record_end s a in
      let z = record_end s b in
      both_true (whole_expr (e (part s (i + 1) a)) && whole_expr (e (part s a b))) _ t λ t₁ h₃.
      both_true (whole_expr (e (part s (i + 1) a))) _ t₁ λ h₁ h₂.
      rw (same (part s (i + 1) a) h₁, same (part s a b) h₂, same (part s b z) h₃)

  module _ (hs : List Head) {inner outer : ℕ → List ℕ → Clause}
      (agrees : (q : ℕ) (u : List ℕ) → T (whole (inner q u)) → outer q u ≡ inner q u) (p : ℕ) where
    clause_body_same : (k : ClauseKind) → T (whole (clause_body hs e inner p s k))
        → clause_body hs f outer p s k ≡ clause_body hs e inner p s k
    unfolding clause_body whole
    clause_body_same fulfilled_kind t = refl
    clause_body_same obligation_kind t =
        let c = wait_end s 5 in
        both_true (whole_wait (wait_at e p s 5)) _ t λ a b. rw (wait_same p 5 a, agrees (p + c) (part s c (length s)) b)
    clause_body_same choice_kind t =
        let c = wait_end s 4 in
        let z = record_end s c in
        both_true (whole_wait (wait_at e p s 4) && whole (inner (p + c) (part s c z))) _ t λ t₁ h₃.
        both_true (whole_wait (wait_at e p s 4)) _ t₁ λ h₁ h₂.
        rw (wait_same p 4 h₁, agrees (p + c) (part s c z) h₂, agrees (p + z) (part s z (length s)) h₃)
    clause_body_same if_kind t =
        let c = record_end s 4 in
        let z = record_end s c in
        both_true (whole_expr (e (part s 4 c)) && whole (inner (p + c) (part s c z))) _ t λ t₁ h₃.
        both_true (whole_expr (e (part s 4 c))) _ t₁ λ h₁ h₂.
        rw (same (part s 4 c) h₁, agrees (p + c) (part s c z) h₂, agrees (p + z) (part s z (length s)) h₃)
    clause_body_same (join_kind j) t =
        let z = record_end s 4 in
        both_true (whole (inner (p + 4) (part s 4 z))) _ t λ h₁ h₂.
        rw (agrees (p + 4) (part s 4 z) h₁, agrees (p + z) (part s z (length s)) h₂)
    clause_body_same instance_kind t = instance_same (at hs (byte s 4)) t
    clause_body_same no_clause t = refl

expr_more : (d k : ℕ) (s : List ℕ) → d ≤ k → T (whole_expr (expr d s)) → expr k s ≡ expr d s
unfolding expr whole_expr
expr_more zero k s l t = absurd t
expr_more (suc d) zero s l t = absurd (omega arith)
expr_more (suc d) (suc k) s l t = expr_body_same (λ u. expr_more d k u (omega arith)) s (expr_head s) t

pub clause_more : (hs : List Head) (d k p : ℕ) (s : List ℕ) → d ≤ k → T (whole (clause hs d p s))
    → clause hs k p s ≡ clause hs d p s
unfolding clause whole
clause_more hs zero k p s l t = absurd t
clause_more hs (suc d) zero p s l t = absurd (omega arith)
clause_more hs (suc d) (suc k) p s l t = clause_body_same (λ u. expr_more d k u (omega arith)) s hs
    (λ q u. clause_more hs d k q u (omega arith)) p (clause_head s) t

-- ---- a record within s ends where its length says
pub end_is : (s : List ℕ) (b e : ℕ) → e ≤ length s → is_record (part s b e) ≡ true → record_end s b ≡ e
unfolding record_end
end_is s b e l h =
    let w = whole_from (part s b e) h in
    let n = length_part s b e l in
    let room : b + 0 + 1 < e = omega (arith, w.room) in
    let z : b + 0 ≡ b = omega arith in
    omega (arith, w.says, w.room, le16_part s b e 0 room, ap (le16 s) z)

-- ---- what is found
module _ (s : List ℕ) (hs : List Head) (rs : List (List Ty)) (n p : ℕ) (f : Found) where
  -- the clause found is the record at p, and whole
  abbrev RecordAt : Type 0
  RecordAt = (f.clause ≡ clause hs 23 p (part s p (record_end s p))) × T (whole f.clause)

  -- what stands in s from a up to z is such that what is found there is the record at its place
  abbrev Sound : (ℕ → List ℕ → Clause) → Type 0
  Sound inner = (a z : ℕ) (env : List Ty) → z ≤ length s → T (whole (inner a (part s a z)))
      → find rs n p (inner a (part s a z)) env ≡ some f → RecordAt

  module _ (d : ℕ) (few : d < 23) (ih : Sound (clause hs d)) (b e : ℕ) (l : e ≤ length s) (u : List ℕ)
      (is : u ≡ part s b e) (room : 4 ≤ length u) where
    long : length u ≡ e - b
    long = ap length is ∙ length_part s b e l

    child : (c z : ℕ) (env : List Ty) → z ≤ length u → T (whole (clause hs d (b + c) (part u c z)))
        → find rs n p (clause hs d (b + c) (part u c z)) env ≡ some f → RecordAt
    child c z env k t h =
        let g : part u c z ≡ part s (b + c) (b + z) = rw is (part_part s b e c z (omega (arith, long))) in
        ih (b + c) (b + z) env (omega (arith, long)) (rw g at t) (rw g at h)

    here : (c : Clause) → is_record u ≡ true → clause hs (suc d) b u ≡ c → T (whole c) → T (eqb p b) → f.clause ≡ c
        → RecordAt
    here c r h t q g =
        let k : p ≡ b = eqb→eq p b q in
        let o : record_end s b ≡ e = end_is s b e l (rw is at r) in
        (rw (k, o, ← is) (g ∙ sym h ∙ sym (clause_more hs (suc d) 23 b u few (rw (sym h) at t))), rw g t)

    body_sound : (k : ClauseKind) (env : List Ty) → is_record u ≡ true
        → clause hs (suc d) b u ≡ clause_body hs (expr d) (clause hs d) b u k
        → T (whole (clause_body hs (expr d) (clause hs d) b u k))
        → find rs n p (clause_body hs (expr d) (clause hs d) b u k) env ≡ some f → RecordAt
    unfolding clause_body whole find wait_at instance_of
    body_sound fulfilled_kind env r q t h = blank (eqb (length u) 4) h
      where
        blank : (x : Bool) → find rs n p (cond x fulfilled bad_clause) env ≡ some f → RecordAt
        blank true h = none_some h
        blank false h = none_some h
    body_sound obligation_kind env r q t h =
        let c = wait_end u 5 in
        from_test (eqb p b) _ _ h
        (λ x g. here _ r q t x (sym (ap (λ z. z.clause) (some_inj g))))
        (λ g. child c (length u) _ (omega arith) (T-right (whole_wait (wait_at (expr d) b u 5)) _ t) g)
    body_sound choice_kind env r q t h =
        let c = wait_end u 4 in
        let z = record_end u c in
        from_test (eqb p b) _ _ h
        (λ x g. here _ r q t x (sym (ap (λ z. z.clause) (some_inj g))))
        (λ g. both_true (whole_wait (wait_at (expr d) b u 4) && whole (clause hs d (b + c) (part u c z))) _ t λ t₁ t₃.
        from_or_else _ _ f g
        (λ o. child c z _ (record_end_within u c) (T-right (whole_wait (wait_at (expr d) b u 4)) _ t₁) o)
        (λ o. child z (length u) env (omega arith) t₃ o))
    body_sound if_kind env r q t h =
        let c = record_end u 4 in
        let z = record_end u c in
        both_true (whole_expr (expr d (part u 4 c)) && whole (clause hs d (b + c) (part u c z))) _ t λ t₁ t₃.
        from_or_else _ _ f h
        (λ o. child c z env (record_end_within u c) (T-right (whole_expr (expr d (part u 4 c))) _ t₁) o)
        (λ o. child z (length u) env (omega arith) t₃ o)
    body_sound (join_kind j) env r q t h =
        let z = record_end u 4 in
        both_true (whole (clause hs d (b + 4) (part u 4 z))) _ t λ t₁ t₃.
        from_or_else _ _ f h
        (λ o. child 4 z env (record_end_within u 4) t₁ o)
        (λ o. child z (length u) env (omega arith) t₃ o)
    body_sound instance_kind env r q t h = none_there (at hs (byte u 4)) h
      where
        either : (x : Bool) (c : Clause) → find rs n p c env ≡ none → find rs n p (cond x c bad_clause) env ≡ some f
            → RecordAt
        either true c g h = none_some (sym g ∙ h)
        either false c g h = none_some h

        none_there : (o : Option Head) → find rs n p (instance_of (expr d) u o) env ≡ some f → RecordAt
        none_there none h = none_some h
        none_there (some hd) h = either (eqb (records_end (length hd.values) u 5 + hd.params) (length u)) _ refl h
    body_sound no_clause env r q t h = none_some h

  clause_sound : (d : ℕ) → d ≤ 23 → Sound (clause hs d)
  unfolding clause whole clause_head
  clause_sound zero few a z env l t h = absurd t
  clause_sound (suc d) few a z env l t h = go (is_record (part s a z)) refl t h (clause_sound d (omega arith))
    where
      go : (r : Bool) → is_record (part s a z) ≡ r
          → T (whole (clause_body hs (expr d) (clause hs d) a (part s a z)
          (cond r (clause_kind (kind_number (part s a z))) no_clause)))
          → find rs n p (clause_body hs (expr d) (clause hs d) a (part s a z)
          (cond r (clause_kind (kind_number (part s a z))) no_clause)) env ≡ some f → Sound (clause hs d) → RecordAt
      go true r t h ih = body_sound d few ih a z l (part s a z) refl (whole_from (part s a z) r).room
          (clause_kind (kind_number (part s a z))) env r (rw r) t h
      go false r t h ih = absurd (unfold clause_body in t)

module _ (s : List ℕ) (hs : List Head) (rs : List (List Ty)) (p : ℕ) (f : Found) where
  in_templates : (n i : ℕ) → i ≤ length s → T (all (λ q. template_ok q.bytes) (pieces n s i))
      → T (all (λ q. whole (body_of hs q)) (pieces n s i)) → find_in rs p (map (template_of hs) (pieces n s i)) ≡ some f
      → RecordAt s hs rs 0 p f
  unfolding pieces all template_of find_in body_of
  in_templates zero i l ok t h = none_some h
  in_templates (suc n) i l ok t h =
      let e = record_end s i in
      let q = part s i e in
      let x = body_place q in
      both_true (template_ok q) _ ok λ ok₁ ok₂.
      both_true (whole (clause hs 22 (i + x) (part q x (length q)))) _ t λ t₁ t₂.
      let long = length_part s i e (record_end_within s i) in
      let room = (template_holds q ok₁).long in
      let g : part q x (length q) ≡ part s (i + x) (i + length q) = part_part s i e x (length q)
      (omega (arith, record_end_after s i l)) in
      from_or_else _ _ f h
      (λ o. clause_sound s hs rs _ p f 22 (omega arith) (i + x) (i + length q) _
      (omega (arith, record_end_after s i l, record_end_within s i)) (rw g at t₁) (rw g at o))
      (λ o. in_templates n e (record_end_within s i) ok₂ t₂ o)

-- what the finder finds at a place of a well-formed agreement is the clause recorded there, and whole
pub found_is : (s : List ℕ) (p : ℕ) (f : Found) → T (well_formed s) → clause_at (agreement_of s) p ≡ some f
    → (f.clause ≡ clause (heads_of s) 23 p (part s p (record_end s p))) × T (whole f.clause)
unfolding clause_at agreement_of main_of template_pieces templates_place between
found_is s p f t h =
    let w = well_formed_lem s t in
    let rs = (agreement_of s).readings in
    let i = templates_place s in
    let k : i ≤ length s = some_within (byte s 9) s 11
    (leb→le 1 (byte s 9) (T-left (leb 1 (byte s 9)) _ w.readings)) in
    from_or_else _ _ f h
    (λ o. clause_sound s (heads_of s) rs 0 p f 23 (omega arith) (main_place s) (length s) [] (omega arith) w.main o)
    (λ o. in_templates s (heads_of s) rs p f (byte s 10) i k w.templates_ok w.bodies o)
