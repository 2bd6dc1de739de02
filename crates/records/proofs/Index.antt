-- Laws for the parts of an agreement: where its records end, which records its lists have, and what the heads of an
-- agreement hold to.
use mathlib.Core.Path.{◌≡◌, refl, sym, ap, ◌∙◌}
use mathlib.Core.Bool.{Bool, true, false, cond, ◌&&◌}
use mathlib.Core.List.{List, [], ◌∷◌, map}
use mathlib.Core.Option.{none, some}
use Prim.Native.Nat.{ℕ, zero, suc, ◌+◌, ◌-◌, ◌≤◌, ◌<◌}
use native.Mathlib.Nat.{le_of_suc-le-suc, not-suc-le-zero}
use native.Mathlib.Numerals.{add-one}
use native.Mathlib.Omega.{arith}
use lib.Dec.{T, leb, eqb, leb→le, eqb→eq}
use lib.ListN.{length, length-map}
use Rattle.std.specs.List.{list_all, range_with_len}
use Rattle.arith.proofs.Lists.{length_part, part_part}
use Rattle.octets.proofs.Bytes.{byte_part, le16_part, record_end_within, record_end_after}
use Rattle.csl.specs.Lists.{all, at}
use Rattle.csl.specs.Bytes.{byte, le16, part, is_record, kind_number, record_end}
use Rattle.csl.specs.Syntax.{Head}
use Rattle.csl.specs.Decode.{Piece, records_end, pieces, templates_place, main_place, reading_pieces, template_pieces}
use Rattle.csl.specs.Decode.{heads_of, body_place, body_of, clause, template_of, agreement_of, is_type, ty_of, tys_of}
use Rattle.csl.specs.Decode.{reading_type_ok, reading_type, template_ok, template_head, declares_units}
use Rattle.csl.specs.Decode.{units_declared, few_units, all_of_kind}
use Rattle.csl.specs.Typing.{heads_in}
use Rattle.records.specs.Index.{Lists, ReadingTypes, ValueTypes, reading_place, template_place, piece_at, head_at}
use Rattle.records.specs.Index.{template_piece, DeclaredUnits}
use Rattle.std.specs.Prelude.{Some}
use Rattle.records.specs.Index.{value_count, body_from, body_to, Spans, first_clause}
use Rattle.laws.proofs.Bools.{both_true, T→true}
use Rattle.laws.proofs.RecordEnds.{record_end_from, wait_within, wait_from, pieces_within}
use Rattle.laws.proofs.Templates.{params_few}

-- ---- where records end
pub pieces_from : (n : ℕ) (s : List ℕ) (i : ℕ) → i ≤ length s → i ≤ records_end n s i
unfolding records_end
pieces_from zero s i l = omega arith
pieces_from (suc n) s i l = omega (
  arith,
  record_end_after s i l,
  pieces_from n s (record_end s i) (record_end_within s i),
)

pieces_suc : (n : ℕ) (s : List ℕ) (i : ℕ) → records_end (suc n) s i ≡ record_end s (records_end n s i)
unfolding records_end
pieces_suc zero s i = refl
pieces_suc (suc n) s i = pieces_suc n s (record_end s i)

-- one record more
pub pieces_more : (n : ℕ) (s : List ℕ) (i : ℕ) → records_end (n + 1) s i ≡ record_end s (records_end n s i)
pieces_more n s i = rw (add-one n) (pieces_suc n s i)

pub pieces_none : (s : List ℕ) (i : ℕ) → records_end 0 s i ≡ i
unfolding records_end
pieces_none s i = refl

-- ---- record k of n records one after another
-- the record at a, with its place
abbrev pub piece : List ℕ → ℕ → Piece
piece s a = record { place = a; bytes = piece_at s a }

module _ {A : Type 0} (g : Piece → A) where
  pub at_pieces : (n : ℕ) (s : List ℕ) (i k : ℕ) → k < n
      → at (map g (pieces n s i)) k ≡ some (g (piece s (records_end k s i)))
  unfolding at pieces records_end
  at_pieces zero s i k l = absurd (not-suc-le-zero l)
  at_pieces (suc n) s i zero l = refl
  at_pieces (suc n) s i (suc k) l = at_pieces n s (record_end s i) k (le_of_suc-le-suc l)

  pub at_pieces_past : (n : ℕ) (s : List ℕ) (i k : ℕ) → n ≤ k → at (map g (pieces n s i)) k ≡ none
  unfolding at pieces
  at_pieces_past zero s i k l = refl
  at_pieces_past (suc n) s i zero l = absurd (not-suc-le-zero l)
  at_pieces_past (suc n) s i (suc k) l = at_pieces_past n s (record_end s i) k (le_of_suc-le-suc l)

  pub length_pieces : (n : ℕ) (s : List ℕ) (i : ℕ) → length (map g (pieces n s i)) ≡ n
  unfolding pieces
  length_pieces zero s i = refl
  length_pieces (suc n) s i = ap suc (length_pieces n s (record_end s i))

module _ (p : Piece → Bool) where
  pub all_pieces : (n : ℕ) (s : List ℕ) (i k : ℕ) → T (all p (pieces n s i)) → k < n
      → T (p (piece s (records_end k s i)))
  unfolding all pieces records_end
  all_pieces zero s i k t l = absurd (not-suc-le-zero l)
  all_pieces (suc n) s i zero t l = both_true (p (piece s i)) _ t λ h u. h
  all_pieces (suc n) s i (suc k) t l = both_true (p (piece s i)) _ t λ h u. all_pieces n s (record_end s i) k u
      (le_of_suc-le-suc l)

  -- a chain over their numbers asks of each what `all` asks
  pub pieces_ranged : (s : List ℕ) (i n a : ℕ)
      → list_all (λ k. p (piece s (records_end k s i))) (range_with_len a n) ≡ all p (pieces n s (records_end a s i))
  unfolding all pieces
  pieces_ranged s i zero a = refl
  pieces_ranged s i (suc n) a = ap (λ b. p (piece s (records_end a s i)) && b)
      (pieces_ranged s i n (a + 1) ∙ ap (λ e. all p (pieces n s e)) (pieces_more a s i))

-- the same of the kinds of all templates
pub kinds_ranged : (s : List ℕ) (wanted : ℕ) {n : ℕ} → n ≡ byte s 10
    → list_all (λ k. eqb (kind_number (piece_at s (template_place s k))) wanted) (range_with_len 0 n)
    ≡ all_of_kind wanted s
unfolding all_of_kind template_pieces
kinds_ranged s wanted {n} e =
    let i = templates_place s in
    pieces_ranged (λ q. eqb (kind_number q.bytes) wanted) s i n 0 ∙ rw (e, pieces_none s i)

-- ---- the lists of an agreement, by the count of each
module _ (s : List ℕ) (k : ℕ) where
  pub heads_at : k < byte s 10 → at (heads_of s) k ≡ some (head_at s k)
  unfolding heads_of template_pieces
  heads_at l = at_pieces (λ q. template_head q.bytes) (byte s 10) s (templates_place s) k l

  pub heads_past : byte s 10 ≤ k → at (heads_of s) k ≡ none
  unfolding heads_of template_pieces
  heads_past l = at_pieces_past (λ q. template_head q.bytes) (byte s 10) s (templates_place s) k l

  pub readings_at : k < byte s 9 → at (agreement_of s).readings k ≡ some (reading_type (piece_at s (reading_place s k)))
  unfolding agreement_of reading_pieces
  readings_at l = at_pieces (λ q. reading_type q.bytes) (byte s 9) s 11 k l

  pub readings_past : byte s 9 ≤ k → at (agreement_of s).readings k ≡ none
  unfolding agreement_of reading_pieces
  readings_past l = at_pieces_past (λ q. reading_type q.bytes) (byte s 9) s 11 k l

  pub templates_at : k < byte s 10 → at (agreement_of s).templates k ≡ some
      (template_of (heads_of s) (piece s (template_place s k)))
  unfolding agreement_of template_pieces
  templates_at l = at_pieces (template_of (heads_of s)) (byte s 10) s (templates_place s) k l

pub templates_length : (s : List ℕ) → length (agreement_of s).templates ≡ byte s 10
unfolding agreement_of template_pieces
templates_length s = length_pieces (template_of (heads_of s)) (byte s 10) s (templates_place s)

heads_map : (hs : List Head) (qs : List Piece)
    → heads_in (map (template_of hs) qs) ≡ map (λ q. template_head q.bytes) qs
unfolding heads_in template_of
heads_map hs [] = refl
heads_map hs (q ∷ qs) = ap (λ (r : List Head). template_head q.bytes ∷ r) (heads_map hs qs)

pub heads_in_lem : (s : List ℕ) → heads_in (agreement_of s).templates ≡ heads_of s
unfolding agreement_of heads_of
heads_in_lem s = heads_map (heads_of s) (template_pieces s)

-- ---- a reading type that is as listed
pub record ReadingHolds (q : List ℕ) : Type 0 where
  pub is_one : is_record q ≡ true
  pub kind : kind_number q ≡ 2
  pub few : byte q 4 ≤ 4
  pub long : length q ≡ 5 + byte q 4
  pub types : T (all is_type (part q 5 (length q)))

pub reading_holds : (q : List ℕ) → T (reading_type_ok q) → ReadingHolds q
unfolding reading_type_ok
reading_holds q t =
    let a = is_record q in
    let b = eqb (kind_number q) 2 in
    let c = leb (byte q 4) 4 in
    let d = eqb (length q) (5 + byte q 4) in
    let e = all is_type (part q 5 (length q)) in
    both_true (a && b && c && d) e t λ t₁ h₅.
    both_true (a && b && c) d t₁ λ t₂ h₄.
    both_true (a && b) c t₂ λ t₃ h₃.
    both_true a b t₃ λ h₁ h₂.
    record {
      is_one = T→true a h₁;
      kind = eqb→eq (kind_number q) 2 h₂;
      few = leb→le (byte q 4) 4 h₃;
      long = eqb→eq (length q) (5 + byte q 4) h₄;
      types = h₅;
    }

-- ---- a template whose head is as listed
-- behind the declared parties stand the units of one of kind 4
pub head_long : (q : List ℕ) → 8 + byte q 4 ≤ body_place q
unfolding body_place
head_long q = omega arith

pub record TemplateHolds (q : List ℕ) : Type 0 where
  pub is_one : is_record q ≡ true
  pub few : byte q 4 ≤ 8
  pub long : body_place q ≤ length q
  pub types : T (all is_type (part q 5 (5 + byte q 4)))
  pub few_params : byte q (5 + byte q 4) ≤ 4
  pub units : T (few_units (units_declared q))

pub template_holds : (q : List ℕ) → T (template_ok q) → TemplateHolds q
unfolding template_ok
template_holds q t =
    let a = is_record q in
    let b = leb (byte q 4) 8 in
    let c = leb (body_place q) (length q) in
    let d = all is_type (part q 5 (5 + byte q 4)) in
    let e = leb (byte q (5 + byte q 4)) 4 in
    both_true (a && b && c && d && e) (few_units (units_declared q)) t λ t₁ h₆.
    both_true (a && b && c && d) e t₁ λ t₂ h₅.
    both_true (a && b && c) d t₂ λ t₃ h₄.
    both_true (a && b) c t₃ λ t₄ h₃.
    both_true a b t₄ λ h₁ h₂.
    record {
      is_one = T→true a h₁;
      few = leb→le (byte q 4) 8 h₂;
      long = leb→le (body_place q) (length q) h₃;
      types = h₄;
      few_params = leb→le (byte q (5 + byte q 4)) 4 h₅;
      units = h₆;
    }

pub values_length : (q : List ℕ) → T (template_ok q) → length (template_head q).values ≡ byte q 4
unfolding template_head tys_of
values_length q t =
    let h = template_holds q t in
    let room : 5 + byte q 4 ≤ length q = omega (arith, h.long, head_long q) in
    length-map (part q 5 (5 + byte q 4)) ty_of ∙ omega (arith, length_part q 5 (5 + byte q 4) room)

pub params_is : (q : List ℕ) → (template_head q).params ≡ byte q (5 + byte q 4)
unfolding template_head
params_is q = refl

-- ---- of an agreement whose lists are as listed
module _ {s : List ℕ} (x : Lists s) where
  pub templates_within : templates_place s ≤ length s
  unfolding templates_place
  templates_within = pieces_within (byte s 9) s 11 x.long

  pub main_within : main_place s ≤ length s
  unfolding main_place
  main_within = pieces_within (byte s 10) s (templates_place s) templates_within

  pub reading_within : (k : ℕ) → reading_place s k ≤ length s
  reading_within k = pieces_within k s 11 x.long

  pub template_within : (k : ℕ) → template_place s k ≤ length s
  template_within k = pieces_within k s (templates_place s) templates_within

  -- reading type k + 1 and template k are as listed
  pub reading_ok : (k : ℕ) → k < byte s 9 → T (reading_type_ok (piece_at s (reading_place s k)))
  unfolding reading_pieces
  reading_ok k l = all_pieces (λ q. reading_type_ok q.bytes) (byte s 9) s 11 k x.readings_ok l

  pub template_ok_lem : (k : ℕ) → k < byte s 10 → T (template_ok (piece_at s (template_place s k)))
  unfolding template_pieces
  template_ok_lem k l = all_pieces (λ q. template_ok q.bytes) (byte s 10) s (templates_place s) k x.templates_ok l

  pub reading_facts : (k : ℕ) → k < byte s 9 → ReadingHolds (piece_at s (reading_place s k))
  reading_facts k l = reading_holds (piece_at s (reading_place s k)) (reading_ok k l)

  pub template_facts : (k : ℕ) → k < byte s 10 → TemplateHolds (piece_at s (template_place s k))
  template_facts k l = template_holds (piece_at s (template_place s k)) (template_ok_lem k l)

  pub value_count_lem : (k : ℕ) → k < byte s 10 → length (head_at s k).values ≡ byte (piece_at s (template_place s k)) 4
  value_count_lem k l = values_length (piece_at s (template_place s k)) (template_ok_lem k l)

  pub few_params_lem : (k : ℕ) → k < byte s 10 → (head_at s k).params ≤ 4
  few_params_lem k l = params_few (piece_at s (template_place s k)) (template_ok_lem k l)

  -- the body of template k begins within its record, and that within the agreement
  pub body_within : (k : ℕ) → k < byte s 10
      → template_place s k + body_place (piece_at s (template_place s k)) ≤ record_end s (template_place s k)
  unfolding body_place
  body_within k l =
      let a = template_place s k in
      omega (arith, (template_facts k l).long, length_part s a (record_end s a) (record_end_within s a))

-- ---- the body of template k
pub body_there : {s : List ℕ} {k : ℕ} → Lists s × (k < byte s 10) → Spans s k (body_from s k) (body_to s k)
body_there {s = s} {k} x = record {
  begins = refl;
  ends = refl;
  ordered = body_within x.0 k x.1;
  inside = record_end_within s (template_place s k);
}

-- a, n, h and e are what calls gave
pub spans : {s : List ℕ} {k a n h e : ℕ} → Lists s × (k < byte s 10) → a ≡ template_place s k
    → n ≡ value_count s k → h ≡ 8 + n + cond (eqb (kind_number (part s a e)) 4) 1 0 → e ≡ record_end s a
    → Spans s k (a + h) e
unfolding body_place declares_units
spans x p q m o = rw (m, o, q, p) (body_there x)

-- from and to are the ends of what `body_span` gave
module _ {s : List ℕ} {k from to : ℕ} (b : Spans s k from to) where
  pub body_is : (hs : List Head) → body_of hs (template_piece s k) ≡ clause hs 22 from (part s from to)
  unfolding body_of
  body_is hs =
      let t = template_place s k in
      let z = record_end s t in
      let q = piece_at s t in
      let m = body_place q in
      let g = length_part s t z (record_end_within s t) in
      let j : t + (z - t) ≡ z = omega (arith, b.ordered, b.begins, b.ends) in
      let bytes : part q m (length q) ≡ part s (t + m) z = rw g (part_part s t z m (z - t) (omega arith) ∙ rw j) in
      rw (b.begins, b.ends, bytes)

-- ---- the record that code has cut out, and what it read there
-- a and e are what calls gave
pub part_piece : (s : List ℕ) {a e t : ℕ} → a ≡ t → e ≡ record_end s a → part s a e ≡ piece_at s t
part_piece s p q = rw (q, p)

-- the types of reading type k
module _ {s : List ℕ} (x : Lists s) {k a e : ℕ} (l : k < byte s 9) (p : a ≡ reading_place s k)
    (q : e ≡ record_end s a) where
  pub reading_end : e ≡ a + 5 + byte (piece_at s (reading_place s k)) 4
  reading_end =
      let t = reading_place s k in
      rw (q, p) (omega (
        arith,
        (reading_facts x k l).long,
        length_part s t (record_end s t) (record_end_within s t),
        record_end_after s t (reading_within x k),
      ))

  pub reading_types : reading_type (piece_at s (reading_place s k)) ≡ tys_of (part s (a + 5) e)
  unfolding reading_type
  reading_types =
      let cut = part_piece s p q in
      let bounded : e ≤ length s = rw q (record_end_within s a) in
      let n : a + length (part s a e) ≡ e = omega (arith, reading_end, length_part s a e bounded) in
      rw (← cut) (ap tys_of (rw n at (part_part s a e 5 (length (part s a e)) (omega arith))))

  -- what the code cuts out
  pub reading_types_lem : ReadingTypes s k (part s (a + 5) e)
  reading_types_lem =
      let q₁ = piece_at s (reading_place s k) in
      let f = reading_facts x k l in
      let cut = part_piece s p q in
      let bounded : e ≤ length s = rw q (record_end_within s a) in
      let n : a + length (part s a e) ≡ e = omega (arith, reading_end, length_part s a e bounded) in
      let same : part q₁ 5 (length q₁) ≡ part s (a + 5) e = rw (← cut)
      (rw n at (part_part s a e 5 (length (part s a e)) (omega arith))) in
      record {
        typed = readings_at s k l ∙ ap some reading_types;
        few = omega (arith, length_part s (a + 5) e bounded, reading_end, f.few);
        are_types = rw same at f.types;
      }

-- a template's head, read where it stands in the agreement
module _ {s : List ℕ} {k a : ℕ} (x : Lists s × (k < byte s 10)) (p : a ≡ template_place s k) where
  abbrev head : List ℕ
  head = piece_at s (template_place s k)

  whole : template_place s k + body_place head ≤ record_end s (template_place s k)
  whole = body_within x.0 k x.1

  inside : template_place s k + (8 + byte head 4) ≤ record_end s (template_place s k)
  inside = omega (arith, whole, head_long head)

  at_byte : (i : ℕ) → i < body_place head → byte s (a + i) ≡ byte head i
  at_byte i h = ap (λ (b : ℕ). byte s (b + i)) p
      ∙ sym (byte_part s (template_place s k) (record_end s (template_place s k)) i (omega (arith, whole)))

  pub count_read : {r : ℕ} → r ≡ byte s (a + 4) → (r ≡ byte head 4) × (r ≡ length (head_at s k).values) × (r ≤ 8)
  count_read h =
      let g = h ∙ at_byte 4 (omega (arith, head_long head)) in
      (g, g ∙ sym (value_count_lem x.0 k x.1), omega (arith, (template_facts x.0 k x.1).few))

  module _ {n : ℕ} (m : n ≡ byte head 4) where
    pub params_read : {r : ℕ} → r ≡ byte s (a + (5 + n)) → (r ≡ (head_at s k).params) × (r ≤ 4)
    params_read h =
        let g = h ∙ at_byte (5 + n) (omega (arith, head_long head)) ∙ ap (λ (i : ℕ). byte head (5 + i)) m
        ∙ sym (params_is head) in
        (g, omega (arith, few_params_lem x.0 k x.1))

    pub declared_read : {r : ℕ} → r ≡ le16 s (a + (6 + n)) → r ≡ le16 head (6 + byte head 4)
    declared_read h =
        h ∙ ap (λ (b : ℕ). le16 s (b + (6 + n))) p
        ∙ sym (le16_part s (template_place s k) (record_end s (template_place s k)) (6 + n) (omega (arith, inside)))
        ∙ ap (λ (i : ℕ). le16 head (6 + i)) m

    -- the units that one of kind 4 declares; r is what stands there
    pub units_read : {r c : ℕ} → r ≡ byte s (a + (8 + n)) → c ≡ kind_number head → c ≡ 4
        → DeclaredUnits (head_at s k).units (Some r)
    unfolding template_head units_declared declares_units few_units body_place
    units_read {r} {c} h i e =
        let four : eqb (kind_number head) 4 ≡ true = rw (sym i ∙ e) refl in
        let f = template_facts x.0 k x.1 in
        let room : 8 + byte head 4 + 1 ≤ body_place head = rw four (omega arith) in
        let g : r ≡ byte head (8 + byte head 4) =
        h ∙ at_byte (8 + n) (omega arith) ∙ ap (λ (j : ℕ). byte head (8 + j)) m in
        (rw (four, g) refl, rw g (leb→le (byte head (8 + byte head 4)) 128 (rw four at f.units)))

    -- its value types
    pub value_types_within : a + 5 + n ≤ length s
    value_types_within = omega (arith, inside, record_end_within s (template_place s k))

    pub value_types_lem : ValueTypes s k (part s (a + 5) (a + 5 + n))
    unfolding template_head
    value_types_lem =
        let t = template_place s k in
        let z = record_end s t in
        let f = template_facts x.0 k x.1 in
        let count : length (part s (a + 5) (a + 5 + n)) ≡ n =
        length_part s (a + 5) (a + 5 + n) value_types_within ∙ omega arith in
        let ends : t + (5 + byte head 4) ≡ a + 5 + n = omega arith in
        let from : t + 5 ≡ a + 5 = omega arith in
        let cut : part head 5 (5 + byte head 4) ≡ part s (a + 5) (a + 5 + n) =
        part_part s t z 5 (5 + byte head 4) (omega (arith, inside)) ∙ rw (ends, from) in
        record {
          typed = ap tys_of (sym cut);
          count = count ∙ m;
          few = omega (arith, count, f.few);
          are_types = rw cut at f.types;
        }

-- ---- where the first clause part begins
pub first_within : (k : ℕ) (s : List ℕ) → 4 ≤ length s → first_clause k s ≤ length s
unfolding first_clause
first_within k s l =
    either (eqb k 17) (wait_within s 5) (either (eqb k 18) (wait_within s 4)
    (either (eqb k 19) (record_end_within s 4) l))
  where
    either : (b : Bool) {x y : ℕ} → x ≤ length s → y ≤ length s → cond b x y ≤ length s
    either true h g = h
    either false h g = g

pub first_from : (k : ℕ) (s : List ℕ) → 4 ≤ length s → 4 ≤ first_clause k s
unfolding first_clause
first_from k s l =
    either (eqb k 17) (omega (arith, wait_from s 5))
    (either (eqb k 18) (omega (arith, wait_from s 4))
    (either (eqb k 19) (omega (arith, record_end_from s 4)) (omega arith)))
  where
    either : (b : Bool) {x y : ℕ} → 4 ≤ x → 4 ≤ y → 4 ≤ cond b x y
    either true h g = h
    either false h g = g
