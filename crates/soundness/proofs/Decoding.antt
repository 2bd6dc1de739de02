-- Decoding puts the waiting clauses of an agreement at places that strictly increase, so that each place is one
-- clause's alone.
use mathlib.Core.Bool.{◌&&◌, Bool, cond, false, true}
use mathlib.Core.List.{List, [], map, ◌∷◌}
use mathlib.Core.Option.{Option, none, some}
use mathlib.Core.Path.{ap, refl, subst, sym, ◌∙◌, ◌≡◌}
use Prim.Native.Nat.{◌+◌, ◌-◌, suc, zero, ℕ, ◌≤◌}
use native.Mathlib.Decide.{dec_le}
use native.Mathlib.Omega.{arith}
use lib.Dec.{T, eqb, leb, leb→le}
use lib.ListN.{drop_of_length-le, length, take}
use lib.Seq.{take-nil}
use Rattle.csl.specs.Lists.{all, at}
use Rattle.csl.specs.Bytes.{byte, is_record, kind_number, le16, le32, part, record_end}
use Rattle.csl.specs.Syntax.{Agreement, Clause, Expr, Head, Template, bad_clause, fulfilled}
use Rattle.csl.specs.Decode.{ClauseKind, Piece, agreement_of, records_end, between, body_of, body_place, choice_kind}
use Rattle.csl.specs.Decode.{clause, clause_body, clause_head, clause_kind, counts_ok, decode, expr, fulfilled_kind}
use Rattle.csl.specs.Decode.{heads_of, if_kind, instance_kind, instance_of, join_kind, listed, main_of, main_place}
use Rattle.csl.specs.Decode.{no_clause, one_kind}
use Rattle.csl.specs.Decode.{obligation_kind, pieces, reading_pieces, reading_type_ok, template_of, template_ok}
use Rattle.csl.specs.Decode.{template_pieces, templates_place, wait_at, wait_end, well_formed, whole}
use Rattle.laws.proofs.RecordEnds.{record_end_within, record_end_from, wait_within, wait_from, record_end_after}
use Rattle.laws.proofs.RecordEnds.{pieces_within, some_within}
use Rattle.laws.proofs.Lists.{length_part}
use Rattle.laws.proofs.Clash.{impossible}
use Rattle.laws.proofs.Bools.{T-left, T-right, both_true}
use Rattle.laws.proofs.Options.{some_inj}
use Rattle.laws.proofs.Templates.{params_few}
use Rattle.soundness.proofs.Places.{Ranged, ranged_le, ranged_wider}

-- ---- where a record ends
-- what lies from c to the end of s, s standing at p
rest_end : (s : List ℕ) (p c : ℕ) → c ≤ length s → (p + c) + length (part s c (length s)) ≡ p + length s
rest_end s p c h = omega (arith, length_part s c (length s) (omega arith))

-- what lies from c up to f
middle_end : (s : List ℕ) (p c f : ℕ) → c ≤ f → f ≤ length s → (p + c) + length (part s c f) ≡ p + f
middle_end s p c f h k = omega (arith, length_part s c f k)

-- ---- one clause
either_ranged : (lo hi : ℕ) (b : Bool) (c d : Clause) → Ranged lo hi c → Ranged lo hi d → Ranged lo hi (cond b c d)
either_ranged lo hi true c d g h = g
either_ranged lo hi false c d g h = h

instance_ranged : (lo hi : ℕ) (e : List ℕ → Expr) (s : List ℕ) (o : Option Head) → lo ≤ hi
    → Ranged lo hi (instance_of e s o)
unfolding instance_of Ranged
instance_ranged lo hi e s none h = h
instance_ranged lo hi e s (some hd) h = either_ranged lo hi
    (eqb (records_end (length hd.values) s 5 + hd.params) (length s)) _ bad_clause h h

module _ (hs : List Head) (e : List ℕ → Expr) (inner : ℕ → List ℕ → Clause)
    (io : (q : ℕ) (u : List ℕ) → Ranged q (q + length u) (inner q u)) (p : ℕ) (s : List ℕ) (room : 4 ≤ length s) where
  -- the records within, by where they begin and end
  last_ranged : (c : ℕ) → c ≤ length s → Ranged (p + c) (p + length s) (inner (p + c) (part s c (length s)))
  last_ranged c h = subst (λ z. Ranged (p + c) z (inner (p + c) (part s c (length s)))) (rest_end s p c h)
      (io (p + c) (part s c (length s)))

  middle_ranged : (c f : ℕ) → c ≤ f → f ≤ length s → Ranged (p + c) (p + f) (inner (p + c) (part s c f))
  middle_ranged c f h k = subst (λ z. Ranged (p + c) z (inner (p + c) (part s c f))) (middle_end s p c f h k)
      (io (p + c) (part s c f))

  body_ranged : (k : ClauseKind) → Ranged p (p + length s) (clause_body hs e inner p s k)
  unfolding clause_body Ranged wait_at
  body_ranged fulfilled_kind = either_ranged p (p + length s) (eqb (length s) 4) fulfilled bad_clause (omega arith)
      (omega arith)
  body_ranged obligation_kind =
      let c = wait_end s 5 in
      (p + c, omega arith, omega (arith, wait_from s 5), last_ranged c (wait_within s 5))
  body_ranged choice_kind =
      let c = wait_end s 4 in
      let f = record_end s c in (
        p + c,
        p + f,
        omega arith,
        omega (arith, wait_from s 4),
        middle_ranged c f (record_end_after s c (wait_within s 4)) (record_end_within s c),
        last_ranged f (record_end_within s c),
      )
  body_ranged if_kind =
      let c = record_end s 4 in
      let f = record_end s c in (
        p + f,
        ranged_wider (p + c) p (p + f) (p + f) (inner (p + c) (part s c f)) (omega arith) (omega arith)
            (middle_ranged c f (record_end_after s c (record_end_within s 4)) (record_end_within s c)),
        last_ranged f (record_end_within s c),
      )
  body_ranged (join_kind j) =
      let f = record_end s 4 in (
        p + f,
        ranged_wider (p + 4) p (p + f) (p + f) (inner (p + 4) (part s 4 f)) (omega arith) (omega arith)
            (middle_ranged 4 f (record_end_after s 4 room) (record_end_within s 4)),
        last_ranged f (record_end_within s 4),
      )
  body_ranged instance_kind = instance_ranged p (p + length s) e s (at hs (byte s 4)) (omega arith)
  body_ranged no_clause = omega arith

-- the waiting clauses of any decoded bytes stand at places within those bytes, strictly increasing
pub clause_ranged : (hs : List Head) (d p : ℕ) (s : List ℕ) → Ranged p (p + length s) (clause hs d p s)
unfolding clause clause_head is_record
clause_ranged hs zero p s = unfold Ranged in omega arith
clause_ranged hs (suc d) p s = go (leb 4 (length s) && eqb (le16 s 0) (length s)) refl (clause_ranged hs d)
  where
    go : (b : Bool) → (leb 4 (length s) && eqb (le16 s 0) (length s)) ≡ b
        → ((q : ℕ) (u : List ℕ) → Ranged q (q + length u) (clause hs d q u))
        → Ranged p (p + length s) (clause_body hs (expr d) (clause hs d) p s
        (cond b (clause_kind (kind_number s)) no_clause))
    go true h io = body_ranged hs (expr d) (clause hs d) io p s
        (leb→le 4 (length s) (T-left (leb 4 (length s)) _ (subst T (sym h) tt))) (clause_kind (kind_number s))
    go false h io = unfold clause_body Ranged in omega arith

-- ---- a template's body lies within its record
no_clause_lem : (hs : List Head) (d p : ℕ) → clause hs d p [] ≡ bad_clause
unfolding clause clause_head is_record clause_body
no_clause_lem hs zero p = refl
no_clause_lem hs (suc d) p = refl

gone : (s : List ℕ) (a : ℕ) → length s ≤ a → part s a (length s) ≡ []
gone s a l = ap (λ u. take (length s - a) u) (drop_of_length-le s l) ∙ take-nil (length s - a)

body_within : (hs : List Head) (q : Piece) → Ranged q.place (q.place + length q.bytes) (body_of hs q)
unfolding body_of
body_within hs q = go (dec_le (body_place q.bytes) (length q.bytes))
  where
    go : Dec (body_place q.bytes ≤ length q.bytes)
        → Ranged q.place (q.place + length q.bytes)
        (clause hs 22 (q.place + body_place q.bytes) (part q.bytes (body_place q.bytes) (length q.bytes)))
    go (yes h) = ranged_wider (q.place + body_place q.bytes) q.place _ (q.place + length q.bytes) _
        (omega arith) (omega (arith, rest_end q.bytes q.place (body_place q.bytes) h))
        (clause_ranged hs 22 (q.place + body_place q.bytes)
        (part q.bytes (body_place q.bytes) (length q.bytes)))
    go (no h) = subst (λ u. Ranged q.place (q.place + length q.bytes)
        (clause hs 22 (q.place + body_place q.bytes) u))
        (sym (gone q.bytes (body_place q.bytes) (omega arith)))
        (subst (λ c. Ranged q.place (q.place + length q.bytes) c)
        (sym (no_clause_lem hs 22 (q.place + body_place q.bytes))) (unfold Ranged in omega arith))

-- ---- templates in order
unfoldable pub TRanged : ℕ → ℕ → List Template → Type 0
TRanged lo hi [] = lo ≤ hi
TRanged lo hi (t ∷ ts) = (k : ℕ) × Ranged lo k t.body × TRanged k hi ts × (t.head.params ≤ 4)

pub tranged_le : (lo hi : ℕ) (ts : List Template) → TRanged lo hi ts → lo ≤ hi
unfolding TRanged
tranged_le lo hi [] h = h
tranged_le lo hi (t ∷ ts) h = omega (arith, ranged_le lo h.0 t.body h.1, tranged_le h.0 hi ts h.2)

templates_ranged : (hs : List Head) (s : List ℕ) (n i : ℕ) → T (all (λ q. template_ok q.bytes) (pieces n s i))
    → i ≤ length s → TRanged i (records_end n s i) (map (template_of hs) (pieces n s i))
unfolding pieces records_end all template_of TRanged
templates_ranged hs s zero i t l = omega arith
templates_ranged hs s (suc n) i t l =
    let q : Piece = record { place = i; bytes = part s i (record_end s i) } in (
      record_end s i,
      subst (λ z. Ranged i z (body_of hs q)) (omega
          (arith, record_end_from s i, length_part s i (record_end s i) (record_end_within s i))) (body_within hs q),
      templates_ranged hs s n (record_end s i) (T-right (template_ok (part s i (record_end s i))) _ t)
          (record_end_within s i),
      params_few (part s i (record_end s i)) (T-left (template_ok (part s i (record_end s i))) _ t),
    )

-- ---- what decoding gives
pub decode_is : {C : Type 0} (s : List ℕ) (a : Agreement) → decode s ≡ some a
    → (T (well_formed s) → agreement_of s ≡ a → C) → C
unfolding decode
decode_is {C = C} s a e k = go (well_formed s) refl e
  where
    go : (b : Bool) → well_formed s ≡ b → ◌≡◌ {A = Option Agreement}
        (elim b [ true ↦ some (agreement_of s) | false ↦ none ]) (some a) → C
    go true p q = k (subst T (sym p) tt) (some_inj q)
    go false p q = impossible cc

pub record Decoded (s : List ℕ) (a : Agreement) : Type 0 where
  pub start : a.start ≡ le32 s 4
  pub few : a.parties ≤ 16
  pub lo : ℕ
  pub mid : ℕ
  pub templates : TRanged lo mid a.templates
  pub main : Ranged mid (length s) a.main

-- the tests of `well_formed`, each by itself
pub record WellFormed (s : List ℕ) : Type 0 where
  pub kind : T (eqb (kind_number s) 1)
  pub parties : T (between 1 16 (byte s 8))
  pub readings : T (between 1 16 (byte s 9))
  pub templates : T (leb (byte s 10) 32)
  pub readings_ok : T (all (λ q. reading_type_ok q.bytes) (reading_pieces s))
  pub templates_ok : T (all (λ q. template_ok q.bytes) (template_pieces s))
  pub one_kind : T (one_kind s)
  pub main : T (whole (main_of s))
  pub bodies : T (all (λ q. whole (body_of (heads_of s) q)) (template_pieces s))

pub well_formed_lem : (s : List ℕ) → T (well_formed s) → WellFormed s
unfolding well_formed listed counts_ok
well_formed_lem s t =
    let a = eqb (kind_number s) 1 in
    let p = between 1 16 (byte s 8) in
    let r = between 1 16 (byte s 9) in
    let n = leb (byte s 10) 32 in
    let rs = all (λ q. reading_type_ok q.bytes) (reading_pieces s) in
    let ts = all (λ q. template_ok q.bytes) (template_pieces s) in
    let o = one_kind s in
    let m = whole (main_of s) in
    let bs = all (λ q. whole (body_of (heads_of s) q)) (template_pieces s) in
    both_true (a && (p && r && n) && rs && ts && o && m) bs t λ t₁ h₉.
    both_true (a && (p && r && n) && rs && ts && o) m t₁ λ t₂ h₈.
    both_true (a && (p && r && n) && rs && ts) o t₂ λ t₃ h₇.
    both_true (a && (p && r && n) && rs) ts t₃ λ t₄ h₆.
    both_true (a && (p && r && n)) rs t₄ λ t₅ h₅.
    both_true a (p && r && n) t₅ λ h₁ t₆.
    both_true (p && r) n t₆ λ t₇ h₄.
    both_true p r t₇ λ h₂ h₃.
    record {
      kind = h₁;
      parties = h₂;
      readings = h₃;
      templates = h₄;
      readings_ok = h₅;
      templates_ok = h₆;
      one_kind = h₇;
      main = h₈;
      bodies = h₉;
    }

-- What decoding gives: at most 16 parties, and templates and main clause one behind another in the bytes.
pub decoded : (s : List ℕ) (a : Agreement) → decode s ≡ some a → Decoded s a
unfolding agreement_of main_of main_place templates_place template_pieces between
decoded s a e = decode_is s a e λ t same.
    let w = well_formed_lem s t in
    let i = templates_place s in
    let m = main_place s in
    let in-s : i ≤ length s = some_within (byte s 9) s 11
    (leb→le 1 (byte s 9) (T-left (leb 1 (byte s 9)) _ w.readings)) in
    subst (λ z. Decoded s z) same (record {
      start = refl;
      few = leb→le (byte s 8) 16 (T-right (leb 1 (byte s 8)) _ w.parties);
      lo = i;
      mid = m;
      templates = templates_ranged (heads_of s) s (byte s 10) i w.templates_ok in-s;
      main = subst (λ z. Ranged m z (main_of s))
          (omega (arith, length_part s m (length s) (omega arith), pieces_within (byte s 10) s i in-s))
          (clause_ranged (heads_of s) 23 m (part s m (length s)));
    })
