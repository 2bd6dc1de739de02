-- The parties that a whole clause blames, by bit: what the code found of its record, and csl's typing.
use mathlib.Core.Path.{◌≡◌, refl, sym, ap, ap₂, subst, ◌∙◌}
use mathlib.Core.Bool.{Bool, true, false, cond, ◌&&◌}
use mathlib.Core.List.{List, [], ◌∷◌, ◌++◌}
use mathlib.Core.Option.{Option, none, some}
use Prim.Native.Nat.{ℕ, zero, suc, ◌+◌, ◌-◌, ◌≤◌, ◌<◌}
use native.Mathlib.Decide.{dec_le}
use native.Mathlib.Nat.{le_of_suc-le-suc}
use native.Mathlib.Numerals.{add-one}
use native.Mathlib.Omega.{arith}
use borrow.Author.Tests.{lt-ltb, le-ltb, ltb-true, ltb-false}
use denote.Ref.{Bor}
use Rattle.std.specs.Prelude.{Option as Maybe, Some, None, is_some, unwrap_or, IfSome, option_copied}
use Rattle.std.proofs.lemmas.List.{get_or_read}
use lib.Bits.{bit_or}
use lib.Dec.{T, ltb, eqb, eqb→eq}
use lib.ListN.{length, get_or, take}
use lib.Seq.{take-suc, take-length}
use Rattle.octets.proofs.Bytes.{whole_from}
use Rattle.csl.specs.Lists.{all, at}
use Rattle.csl.specs.Bytes.{byte, le16, part, is_record, kind_number, record_end}
use Rattle.csl.specs.Parties.{member, members, bits_of}
use Rattle.csl.specs.Syntax.{Ty, truth, Clause, fulfilled, obligation, choice, if, join, instance, bad_clause, Head}
use Rattle.csl.specs.Decode.{expr, whole_expr, whole_wait, whole, wait_at, records_end, arguments, instance_of}
use Rattle.laws.specs.Joins.{join_of}
use Rattle.csl.specs.Decode.{template_head, clause_kind, clause_body, clause, heads_of}
use Rattle.csl.specs.Typing.{Names, blame_ok, has_type, have_types, join_ok, then_sight, type_wait, type_clause}
use Rattle.csl.specs.Rules.{blamed}
use Rattle.csl.specs.Table.{stands_for, stand_for}
use Rattle.laws.proofs.Clash.{impossible}
use Rattle.laws.proofs.Options.{from_bind, from_need, some_inj}
use Rattle.laws.proofs.PartyBits.{member_self, bits_append, members_within}
use Rattle.laws.proofs.Bools.{both_true}
use Rattle.records.specs.Index.{first_clause, head_at, piece_at, template_place}
use Rattle.records.proofs.Trees.{clause_at_lem, clause_wait, clause_two, sided, kind_fulfilled, kind_instance}
use Rattle.records.proofs.Trees.{kind_no_clause_low, kind_no_clause_high, whole_deep, whole_record}
use Rattle.records.proofs.Index.{heads_at, heads_past}
use Rattle.parties.proofs.Members.{member_tail, bits_nil}
use Rattle.parties.proofs.Masks.{bits_members, bits_small}
use Rattle.soundness.proofs.Members.{stand_++}
use Rattle.places.specs.Locate.{clause_in}
use Rattle.units.specs.Blames.{declared_by, blames_of, WholeIn, PartiesAre}

-- ---- the party that a blame byte stands for
at_there : {A : Type 0} (xs : List A) (i : ℕ) (d : A) → i < length xs → at xs i ≡ some (get_or xs i d)
unfolding at
at_there [] i d l = absurd (omega arith)
at_there (x ∷ xs) zero d l = refl
at_there (x ∷ xs) (suc i) d l = at_there xs i d (le_of_suc-le-suc l)

pub at_past : {A : Type 0} (xs : List A) (i : ℕ) → length xs ≤ i → at xs i ≡ none
unfolding at
at_past [] i l = refl
at_past (x ∷ xs) zero l = absurd (omega arith)
at_past (x ∷ xs) (suc i) l = at_past xs i (le_of_suc-le-suc l)

module _ (params : List ℕ) (b : ℕ) where
  stands_from : (o : Option ℕ) → blamed params b ≡ o → stands_for params b ≡ (elim o [ none ↦ 0 | some p ↦ p ])
  unfolding stands_for
  stands_from o e = subst (λ (y : Option ℕ). stands_for params b ≡ (elim y [ none ↦ 0 | some p ↦ p ])) e refl

  by_byte : (t : Bool) → ltb b 128 ≡ t → blamed params b ≡ (elim t [ true ↦ some b | false ↦ at params (b - 128) ])
  unfolding blamed
  by_byte t e = subst (λ (y : Bool). blamed params b ≡ (elim y [ true ↦ some b | false ↦ at params (b - 128) ])) e refl

  pub stands_itself : b < 128 → b ≡ stands_for params b
  stands_itself l = sym (stands_from (some b) (by_byte true (lt-ltb b 128 l)))

  pub stands_param : 128 ≤ b → b - 128 < length params → get_or params (b - 128) 0 ≡ stands_for params b
  stands_param l h = sym (stands_from (some (get_or params (b - 128) 0))
      (by_byte false (le-ltb b 128 l) ∙ at_there params (b - 128) 0 h))

  pub stands_none : 128 ≤ b → length params ≤ b - 128 → 0 ≡ stands_for params b
  stands_none l h = sym (stands_from none (by_byte false (le-ltb b 128 l) ∙ at_past params (b - 128) h))

  -- what `get` finds of the parameters, or else 0
  pub stands_got : 128 ≤ b → (o : Maybe (Bor ℕ)) → is_some o ≡ ltb (b - 128) (length params)
      → IfSome o (λ x. x.now ≡ get_or params (b - 128) x.now) → unwrap_or (option_copied o) 0 ≡ stands_for params b
  stands_got l None e h = stands_none l (ltb-false (b - 128) (length params) (sym e))
  stands_got l (Some x) e h =
      let i = ltb-true (b - 128) (length params) (sym e) in
      get_or_read params (b - 128) x.now i h 0 ∙ stands_param l i

-- ---- bits
pub joined_bits : {a b r : ℕ} (ps qs : List ℕ) → a ≡ bits_of ps → b ≡ bits_of qs → r ≡ bit_or a b
    → r ≡ bits_of (ps ++ qs)
unfolding bits_of
joined_bits ps qs p q e = e ∙ ap₂ bit_or p q ∙ sym (bits_append 16 0 ps qs)

-- ---- a run of blame bytes
module _ (s params : List ℕ) where
  abbrev BlamedTo : ℕ → ℕ → Type 0
  BlamedTo bits i = (i ≤ length s) × (bits ≡ bits_of (stand_for params (take i s)))

  pub blamed_first : BlamedTo 0 0
  unfolding stand_for bits_of
  blamed_first = (omega arith, sym (bits_nil 16 0))

  pub blamed_more : {bits i b q x r : ℕ} → i < length s → b ≡ byte s i → q ≡ stands_for params b → x ≡ bits_of (q ∷ [])
      → r ≡ bit_or bits x → BlamedTo bits i → BlamedTo r (i + 1)
  unfolding stand_for
  blamed_more {i = i} {q = q} l e f g h t =
      let longer : take i s ++ (byte s i ∷ []) ≡ take (i + 1) s = rw (add-one i) (sym (take-suc s i 0 l)) in
      let own : stand_for params (byte s i ∷ []) ≡ q
      ∷ [] = ap (λ (y : ℕ). y ∷ []) (sym (f ∙ ap (stands_for params) e)) in (
        omega arith,
        joined_bits (stand_for params (take i s)) (q ∷ []) t.1 g h
            ∙ ap bits_of (ap (λ (y : List ℕ). stand_for params (take i s) ++ y) (sym own)
            ∙ sym (stand_++ params (take i s) (byte s i ∷ [])) ∙ ap (stand_for params) longer),
      )

  pub blamed_last : {bits i : ℕ} → length s ≤ i → BlamedTo bits i → (bits ≡ bits_of (stand_for params s))
      × (bits < 65_536)
  blamed_last {bits} {i} l t =
      let e : i ≡ length s = omega arith in
      let g = t.1 ∙ ap (λ (y : List ℕ). bits_of (stand_for params y)) (ap (λ (y : ℕ). take y s) e ∙ take-length s) in
      (g, omega (arith, bits_small (stand_for params s)))

-- ---- a whole clause is a record
module _ (A : List ℕ) (d p : ℕ) (s : List ℕ) (t : T (whole (clause_in A d p s))) where
  deep : d ≡ 0 → ⊥
  deep = whole_deep (heads_of A) d p s t

  is_record_lem : is_record s ≡ true
  is_record_lem = whole_record (heads_of A) d p s t

  abbrev Inner : ℕ → ℕ → Clause
  Inner x z = clause_in A (d - 1) (p + x) (part s x z)

  -- an obligation's `then`
  record Then (x : ℕ) (own : ℕ) : Type 0 where
    pub inner : T (whole (Inner x (length s)))
    pub blames : blames_of (heads_of A) (clause_in A d p s) ≡ own ∷ blames_of (heads_of A) (Inner x (length s))

  -- two sides
  record Sides (x z : ℕ) : Type 0 where
    pub left : T (whole (Inner x z))
    pub right : T (whole (Inner z (length s)))
    pub blames : blames_of (heads_of A) (clause_in A d p s) ≡ blames_of (heads_of A) (Inner x z)
        ++ blames_of (heads_of A) (Inner z (length s))

  module _ {m : ℕ} (k : m ≡ kind_number s) where
    then_whole : {x : ℕ} → m ≡ 17 → x ≡ first_clause m s → Then x (byte s 4)
    unfolding whole blames_of
    then_whole {x} e i =
        let o = clause_wait (λ (c : Clause). c) (heads_of A) d p s deep refl is_record_lem k e i refl in
        both_true (whole_wait (wait_at (expr (d - 1)) p s 5)) _ (subst (λ (c : Clause). T (whole c)) (sym o) t) λ _ h.
        record { inner = h; blames = sym (ap (blames_of (heads_of A)) o) }

    sides_whole : {x z : ℕ} → 18 ≤ m → m < 22 → x ≡ first_clause m s → z ≡ record_end s x → Sides x z
    unfolding sided
    sides_whole {x} {z} l u i j =
        let o = clause_two (λ (c : Clause). c) (heads_of A) d p s deep refl is_record_lem k l u i j refl in
        go (eqb m 18) (eqb m 19) o (subst (λ (c : Clause). T (whole c)) (sym o) t)
      where
        go : (a b : Bool) → cond a (choice (wait_at (expr (d - 1)) p s 4) (Inner x z) (Inner z (length s)))
            (cond b (if (expr (d - 1) (part s 4 (record_end s 4))) (Inner x z) (Inner z (length s)))
            (join (join_of m) (Inner x z) (Inner z (length s)))) ≡ clause_in A d p s
            → T (whole (cond a (choice (wait_at (expr (d - 1)) p s 4) (Inner x z) (Inner z (length s)))
            (cond b (if (expr (d - 1) (part s 4 (record_end s 4))) (Inner x z) (Inner z (length s)))
            (join (join_of m) (Inner x z) (Inner z (length s)))))) → Sides x z
        go true b o h = unfold whole blames_of in
            both_true (whole_wait (wait_at (expr (d - 1)) p s 4) && whole (Inner x z)) _ h λ h₁ g. both_true
            (whole_wait (wait_at (expr (d - 1)) p s 4)) _ h₁ λ _ f. record {
              left = f;
              right = g;
              blames = sym (ap (blames_of (heads_of A)) o);
            }
        go false true o h = unfold whole blames_of in
            both_true (whole_expr (expr (d - 1) (part s 4 (record_end s 4))) && whole (Inner x z)) _ h λ h₁ g. both_true
            (whole_expr (expr (d - 1) (part s 4 (record_end s 4)))) _ h₁ λ _ f. record {
              left = f;
              right = g;
              blames = sym (ap (blames_of (heads_of A)) o);
            }
        go false false o h = unfold whole blames_of in both_true (whole (Inner x z)) _ h λ f g. record {
          left = f;
          right = g;
          blames = sym (ap (blames_of (heads_of A)) o);
        }

    -- other kinds blame none
    none_low : m < 18 → (m ≡ 17 → ⊥) → blames_of (heads_of A) (clause_in A d p s) ≡ []
    unfolding clause_body blames_of
    none_low l f = sym
        (clause_at_lem (blames_of (heads_of A)) (heads_of A) d p s deep refl is_record_lem k (go (dec_le 16 m)))
      where
        blank : (b : Bool) → [] ≡ blames_of (heads_of A) (cond b fulfilled bad_clause)
        blank true = refl
        blank false = refl

        go : Dec (16 ≤ m) → [] ≡ blames_of (heads_of A)
            (clause_body (heads_of A) (expr (d - 1)) (clause (heads_of A) (d - 1)) p s (clause_kind m))
        go (yes h) = rw (kind_fulfilled {k = m} (omega arith)) (blank (eqb (length s) 4))
        go (no h) = rw (kind_no_clause_low m (omega arith))

    none_high : 22 ≤ m → (m ≡ 22 → ⊥) → blames_of (heads_of A) (clause_in A d p s) ≡ []
    unfolding clause_body blames_of
    none_high l f = sym (clause_at_lem (blames_of (heads_of A)) (heads_of A) d p s deep refl is_record_lem k
        (rw (kind_no_clause_high m (omega arith))))

pub whole_room : {A s : List ℕ} → WholeIn A s → 4 ≤ length s
whole_room {A} {s} w = (whole_from s (is_record_lem A w.depth w.place s w.is)).room

-- ---- what the code found
parties_are : {A s params : List ℕ} {r : ℕ} → WholeIn A s
    → ((d p : ℕ) → T (whole (clause_in A d p s))
    → r ≡ bits_of (stand_for params (blames_of (heads_of A) (clause_in A d p s)))) → PartiesAre A s params r
parties_are {A} {s} {params} w f = record {
  small = rw (f w.depth w.place w.is)
      (bits_small (stand_for params (blames_of (heads_of A) (clause_in A w.depth w.place s))));
  each = f;
}

module _ {A s : List ℕ} (w : WholeIn A s) {m : ℕ} (k : m ≡ kind_number s) where
  pub then_in_lem : {x : ℕ} → m ≡ 17 → x ≡ first_clause m s → WholeIn A (part s x (length s))
  then_in_lem {x} e i = record {
    depth = w.depth - 1;
    place = w.place + x;
    is = (then_whole A w.depth w.place s w.is k e i).inner;
  }

  pub then_parties : {params : List ℕ} {x b q own sub r : ℕ} → m ≡ 17 → x ≡ first_clause m s → b ≡ byte s 4
      → q ≡ stands_for params b → own ≡ bits_of (q ∷ []) → PartiesAre A (part s x (length s)) params sub
      → r ≡ bit_or own sub → PartiesAre A s params r
  unfolding stand_for
  then_parties {params} {x} {q = q} e i f g h o n = parties_are w λ d p t.
      let v = then_whole A d p s t k e i in
      let inner = blames_of (heads_of A) (clause_in A (d - 1) (p + x) (part s x (length s))) in
      joined_bits (q ∷ []) (stand_for params inner) h (o.each (d - 1) (p + x) v.inner) n
      ∙ ap bits_of (ap (λ (y : ℕ). y ∷ stand_for params inner) (g ∙ ap (stands_for params) f)
      ∙ sym (ap (stand_for params) v.blames))

  pub sides_in : {x z : ℕ} → 18 ≤ m → m < 22 → x ≡ first_clause m s → z ≡ record_end s x → WholeIn A (part s x z)
      × WholeIn A (part s z (length s))
  sides_in {x} {z} l u i j = let v = sides_whole A w.depth w.place s w.is k l u i j in (
    record { depth = w.depth - 1; place = w.place + x; is = v.left },
    record { depth = w.depth - 1; place = w.place + z; is = v.right },
  )

  pub sides_parties : {params : List ℕ} {x z a b r : ℕ} → 18 ≤ m → m < 22 → x ≡ first_clause m s → z ≡ record_end s x
      → PartiesAre A (part s x z) params a → PartiesAre A (part s z (length s)) params b → r ≡ bit_or a b
      → PartiesAre A s params r
  sides_parties {params} {x} {z} l u i j f g n = parties_are w λ d p t.
      let v = sides_whole A d p s t k l u i j in
      let left = blames_of (heads_of A) (clause_in A (d - 1) (p + x) (part s x z)) in
      let right = blames_of (heads_of A) (clause_in A (d - 1) (p + z) (part s z (length s))) in
      joined_bits (stand_for params left) (stand_for params right) (f.each (d - 1) (p + x) v.left)
      (g.each (d - 1) (p + z) v.right) n
      ∙ ap bits_of (sym (stand_++ params left right) ∙ sym (ap (stand_for params) v.blames))

  none_parties : {params : List ℕ} → ((d p : ℕ) → T (whole (clause_in A d p s))
      → blames_of (heads_of A) (clause_in A d p s) ≡ []) → PartiesAre A s params 0
  unfolding stand_for bits_of
  none_parties {params} f = parties_are w λ d p t. sym
      (ap (λ (y : List ℕ). bits_of (stand_for params y)) (f d p t) ∙ bits_nil 16 0)

  pub low_parties : {params : List ℕ} → m < 18 → (m ≡ 17 → ⊥) → PartiesAre A s params 0
  low_parties l f = none_parties λ d p t. none_low A d p s t k l f

  pub high_parties : {params : List ℕ} → 22 ≤ m → (m ≡ 22 → ⊥) → PartiesAre A s params 0
  high_parties l f = none_parties λ d p t. none_high A d p s t k l f

-- ---- an instance
-- parties that are constants stand for themselves
stand_constants : (params ps : List ℕ) → ((q : ℕ) → member q ps ≡ true → q < 128) → stand_for params ps ≡ ps
unfolding stand_for
stand_constants params [] f = refl
stand_constants params (p ∷ ps) f = ap₂ (λ (x : ℕ) (l : List ℕ). x ∷ l)
    (sym (stands_itself params p (f p (member_self p ps))))
    (stand_constants params ps (λ q h. f q (member_tail q p ps h)))

declared_stand : (params : List ℕ) (n : ℕ) → n < 65_536 → bits_of (stand_for params (members n)) ≡ n
unfolding members
declared_stand params n l = ap bits_of (stand_constants params (members n)
    (λ q h. omega (arith, members_within 16 0 n q h))) ∙ bits_members n l

-- the template named, and the blames at the end
record Named (A s : List ℕ) (bs : List ℕ) : Type 0 where
  pub known : byte s 4 < byte A 10
  pub room : (head_at A (byte s 4)).params ≤ length s
  pub blames : bs ≡ (head_at A (byte s 4)).declared ++ part s (length s - (head_at A (byte s 4)).params) (length s)

named : (A : List ℕ) (d p : ℕ) (s : List ℕ) (t : T (whole (clause_in A d p s))) → kind_number s ≡ 22
    → Named A s (blames_of (heads_of A) (clause_in A d p s))
unfolding clause_body instance_of whole blames_of declared_by
named A d p s t e =
    let o : instance_of (expr (d - 1)) s (at (heads_of A) (byte s 4)) ≡ clause_in A d p s =
    clause_at_lem (λ (c : Clause). c) (heads_of A) d p s (deep A d p s t) refl (is_record_lem A d p s t) refl
    (rw (kind_instance {k = kind_number s} e)) in
    go (dec_le (byte A 10) (byte s 4)) o (subst (λ (c : Clause). T (whole c)) (sym o) t)
  where
    sized : (h : Head) (b : Bool) → eqb (records_end (length h.values) s 5 + h.params) (length s) ≡ b
        → at (heads_of A) (byte s 4) ≡ some h → h ≡ head_at A (byte s 4) → byte s 4 < byte A 10
        → cond b (instance (byte s 4) (arguments (expr (d - 1)) (length h.values) s 5)
        (part s (records_end (length h.values) s 5) (length s))) bad_clause ≡ clause_in A d p s
        → T (whole (cond b (instance (byte s 4) (arguments (expr (d - 1)) (length h.values) s 5)
        (part s (records_end (length h.values) s 5) (length s))) bad_clause))
        → Named A s (blames_of (heads_of A) (clause_in A d p s))
    sized h true q a same l o u =
        let i = records_end (length h.values) s 5 in
        let z : i + h.params ≡ length s = eqb→eq (i + h.params) (length s) (subst T (sym q) tt) in
        let n : h.params ≡ (head_at A (byte s 4)).params = ap (λ (y : Head). y.params) same in
        let c : i ≡ length s - (head_at A (byte s 4)).params = omega arith in
        record { known = l; room = omega arith; blames = sym (ap (blames_of (heads_of A)) o) ∙ rw (a, c, same) }
    sized h false q a same l o u = absurd u

    go : Dec (byte A 10 ≤ byte s 4) → instance_of (expr (d - 1)) s (at (heads_of A) (byte s 4)) ≡ clause_in A d p s
        → T (whole (instance_of (expr (d - 1)) s (at (heads_of A) (byte s 4))))
        → Named A s (blames_of (heads_of A) (clause_in A d p s))
    go (yes l) o u = absurd (subst (λ (h : Option Head). T (whole (instance_of (expr (d - 1)) s h)))
        (heads_past A (byte s 4) l) u)
    go (no l) o u =
        let a = heads_at A (byte s 4) (omega arith) in
        let h = head_at A (byte s 4) in
        sized h (eqb (records_end (length h.values) s 5 + h.params) (length s)) refl a refl (omega arith)
        (subst (λ (y : Option Head). instance_of (expr (d - 1)) s y ≡ clause_in A d p s) a o)
        (subst (λ (y : Option Head). T (whole (instance_of (expr (d - 1)) s y))) a u)

module _ {A s : List ℕ} (w : WholeIn A s) (e : kind_number s ≡ 22) {k : ℕ} (h : k ≡ byte s 4) where
  pub named_known : k < byte A 10
  named_known = rw h (named A w.depth w.place s w.is e).known

  pub named_room : {n : ℕ} → n ≡ (head_at A k).params → n ≤ length s
  named_room {n} g = omega (
    arith,
    (named A w.depth w.place s w.is e).room,
    ap (λ (y : ℕ). (head_at A y).params) h,
  )

  pub named_parties : {params : List ℕ} {n a b r : ℕ} → n ≡ (head_at A k).params
      → (a ≡ le16 (piece_at A (template_place A k)) (6 + byte (piece_at A (template_place A k)) 4)) × (a < 65_536)
      → b ≡ bits_of (stand_for params (part s (length s - n) (length s))) → r ≡ bit_or a b → PartiesAre A s params r
  unfolding template_head
  named_parties {params} {n} {a} g f i j = parties_are w λ d p t.
      let v = named A d p s t e in
      let q = piece_at A (template_place A k) in
      let own = members (le16 q (6 + byte q 4)) in
      let rest = part s (length s - n) (length s) in
      let first : a ≡ bits_of (stand_for params own) = sym
      (ap (λ (y : ℕ). bits_of (stand_for params (members y))) (sym f.0) ∙ declared_stand params a f.1) in
      let same : blames_of (heads_of A) (clause_in A d p s) ≡ own ++ rest = v.blames ∙ rw (sym h, sym g) in
      joined_bits (stand_for params own) (stand_for params rest) first i j
      ∙ ap bits_of (sym (stand_++ params own rest) ∙ sym (ap (stand_for params) same))

-- ---- csl's parties of a typed clause are its blames
module _ (n : Names) where
  pub typed_blames : (c : Clause) (env : List Ty) (ps : List ℕ) → type_clause n env c ≡ some ps
      → ps ≡ blames_of n.heads c
  unfolding type_clause blames_of declared_by
  typed_blames fulfilled env ps e = sym (some_inj e)
  typed_blames (obligation b w t) env ps e =
      from_need (blame_ok n b) _ ps e λ _ e₁.
      from_bind (type_wait n env w) _ ps e₁ λ vs _ e₂.
      from_bind (type_clause n (then_sight env vs) t) _ ps e₂ λ qs q e₃.
      sym (some_inj e₃) ∙ ap (λ (l : List ℕ). b ∷ l) (typed_blames t (then_sight env vs) qs q)
  typed_blames (choice w t f) env ps e =
      from_bind (type_wait n env w) _ ps e λ vs _ e₁.
      from_bind (type_clause n (then_sight env vs) t) _ ps e₁ λ qs q e₂.
      from_bind (type_clause n env f) _ ps e₂ λ rs r e₃.
      sym (some_inj e₃) ∙ ap₂ ◌++◌ (typed_blames t (then_sight env vs) qs q) (typed_blames f env rs r)
  typed_blames (if x t f) env ps e =
      from_bind (has_type n.parties env x truth) _ ps e λ _ _ e₁.
      from_bind (type_clause n env t) _ ps e₁ λ qs q e₂.
      from_bind (type_clause n env f) _ ps e₂ λ rs r e₃.
      sym (some_inj e₃) ∙ ap₂ ◌++◌ (typed_blames t env qs q) (typed_blames f env rs r)
  typed_blames (join j t f) env ps e =
      from_bind (type_clause n env t) _ ps e λ qs q e₁.
      from_bind (type_clause n env f) _ ps e₁ λ rs r e₂.
      from_need (join_ok j (qs ++ rs)) _ ps e₂ λ _ e₃.
      sym (some_inj e₃) ∙ ap₂ ◌++◌ (typed_blames t env qs q) (typed_blames f env rs r)
  typed_blames (instance k es bs) env ps e =
      from_bind (at n.heads k) _ ps e λ h a e₁.
      from_bind (have_types n.parties env es h.values) _ ps e₁ λ _ _ e₂.
      from_need (eqb (length bs) h.params && all (blame_ok n) bs) _ ps e₂ λ _ e₃.
      sym (some_inj e₃) ∙ ap (λ (o : Option Head). declared_by o ++ bs) (sym a)
  typed_blames bad_clause env ps e = impossible cc
