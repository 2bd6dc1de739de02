-- Laws for the tests of an agreement's lists, and for storing where its records begin.
use mathlib.Core.Path.{◌≡◌, refl, sym, ap, ◌∙◌}
use mathlib.Core.Bool.{Bool, true, false, ◌&&◌}
use mathlib.Core.List.{List, [], ◌∷◌, ◌++◌}
use Rattle.std.specs.List.{list_all}
use Prim.Native.Nat.{ℕ, ◌+◌, ◌-◌, ◌≤◌, ◌<◌}
use native.Mathlib.Nat.{zero-add, add-zero, add_assoc, add_comm}
use native.Mathlib.Numerals.{add-one}
use native.Mathlib.Omega.{arith}
use borrow.Author.Count.{below_none, below_more}
use lib.Dec.{T, leb, eqb, leb→le, eqb→eq}
use lib.ListN.{length, get_or, set, take, get_or-append}
use Rattle.std.proofs.lemmas.List.{length-take-le}
use lib.Seq.{get_or-set_same, get_or-set_other}
use Rattle.arith.proofs.Lists.{length_part}
use Rattle.octets.proofs.Bytes.{record_end_within}
use Rattle.csl.specs.Lists.{all}
use Rattle.csl.specs.Bytes.{byte, part, kind_number, record_end}
use Rattle.csl.specs.Decode.{pieces, records_end, templates_place, main_place, reading_pieces, template_pieces, between}
use Rattle.csl.specs.Decode.{reading_type_ok, template_ok, counts_ok, one_kind, listed}
use Rattle.laws.proofs.Bools.{refused, both_true, T→true, true→T}
use Rattle.records.specs.Index.{Lists, Indexed, piece_at, Computes, all_pass, SomeFails, Placed}
use Rattle.records.proofs.Index.{all_pieces, pieces_more, reading_holds}

-- ---- ranges
module _ (low high n : ℕ) where
  pub range_holds : T (between low high n) → (low ≤ n) × (n ≤ high)
  unfolding between
  range_holds t = both_true (leb low n) (leb n high) t λ h g. (leb→le low n h, leb→le n high g)

-- ---- the library's word for `all`
pub all_is : {A : Type 0} (p : A → Bool) (xs : List A) → list_all p xs ≡ all p xs
unfolding all
all_is p [] = refl
all_is p (x ∷ xs) = ap (λ b. p x && b) (all_is p xs)

-- ---- n records from a, of which the code tests the first i
-- what is told of them after i of them
pub record Tested (answers : List ℕ → Bool → Type 0) (s : List ℕ) (from i : ℕ) (places : List ℕ) (a : ℕ) : Type 0 where
  pub within : a ≤ length s
  pub ends : a ≡ records_end i s from
  pub begin_at : (k : ℕ) → k < i → get_or places k 0 ≡ records_end k s from
  pub passed : (t : List ℕ → Bool) → Computes answers t → (m : ℕ) → all_pass t (i + m) s from ≡ all_pass t m s a

pass_step : (t : List ℕ → Bool) (s : List ℕ) (m a : ℕ)
    → all_pass t (1 + m) s a ≡ t (piece_at s a) && all_pass t m s (record_end s a)
unfolding all pieces
pass_step t s m a = rw (add_comm 1 m, add-one m) refl

module _ {answers : List ℕ → Bool → Type 0} {s : List ℕ} {from : ℕ} where
  pub none_tested : (places : List ℕ) → from ≤ length s → Tested answers s from 0 places from
  unfolding records_end
  none_tested places l = record {
    within = l;
    ends = refl;
    begin_at = below_none _;
    passed = λ t c m. rw (zero-add m);
  }

  module _ {i a e : ℕ} {places : List ℕ} (h : Tested answers s from i places a) (p : e ≡ record_end s a) where
    -- the record at a passes, and its place is stored
    pub one_tested : answers (part s a e) true → i < length places → Tested answers s from (i + 1) (set places i a) e
    one_tested y l = record {
      within = omega (arith, p, record_end_within s a);
      ends = p ∙ ap (record_end s) h.ends ∙ sym (pieces_more i s from);
      begin_at = below_more (λ k. get_or (set places i a) k 0 ≡ records_end k s from) i
          (λ k m. get_or-set_other places i k a 0 (λ q. omega arith) ∙ h.begin_at k m)
          (get_or-set_same places i a 0 l ∙ h.ends);
      passed = λ t c m.
          let here : t (piece_at s a) ≡ true = sym (c (part s a e) true y ∙ ap (λ z. t (part s a z)) p) in
          rw (add_assoc i 1 m) (h.passed t c (1 + m) ∙ pass_step t s m a ∙ rw (here, p));
    }

    pub one_fails : (n : ℕ) → answers (part s a e) false → i < n → SomeFails answers n s from
    one_fails n y l = record {
      fails = λ t c.
          let here : t (piece_at s a) ≡ false = sym (c (part s a e) false y ∙ ap (λ z. t (part s a z)) p) in
          let m = n - (i + 1) in
          let all : n ≡ i + (1 + m) = omega arith in
          ap (λ k. all_pass t k s from) all ∙ h.passed t c (1 + m) ∙ pass_step t s m a ∙ rw here;
    }

  pub all_tested : {i a : ℕ} {places : List ℕ} → Tested answers s from i places a → i ≡ length places
      → Placed answers s from places a
  unfolding all pieces
  all_tested {i} {a} {places} h e = record {
    passes = λ t c. ap (λ k. all_pass t k s from) (sym e ∙ sym (add-zero i)) ∙ h.passed t c 0;
    begin_at = λ k l. h.begin_at k (omega arith);
    ends = h.ends ∙ ap (λ k. records_end k s from) e;
    within = h.within;
  }

-- ---- kind and counts
abbrev pub counted : List ℕ → Bool
counted s = eqb (kind_number s) 1 && counts_ok s

pub record Counts (s : List ℕ) : Type 0 where
  pub kind : kind_number s ≡ 1
  pub parties : T (between 1 16 (byte s 8))
  pub readings : T (between 1 16 (byte s 9))
  pub templates : byte s 10 ≤ 32

pub counts_hold : (s : List ℕ) → T (counted s) → Counts s
unfolding counts_ok
counts_hold s t =
    let a = eqb (kind_number s) 1 in
    let b = between 1 16 (byte s 8) in
    let c = between 1 16 (byte s 9) in
    let d = leb (byte s 10) 32 in
    both_true a (b && c && d) t λ h₁ t₁.
    both_true (b && c) d t₁ λ t₂ h₄.
    both_true b c t₂ λ h₂ h₃.
    record { kind = eqb→eq (kind_number s) 1 h₁; parties = h₂; readings = h₃; templates = leb→le (byte s 10) 32 h₄ }

-- ---- the whole test
abbrev readings_ok : List ℕ → Bool
readings_ok s = all (λ q. reading_type_ok q.bytes) (reading_pieces s)

abbrev templates_ok : List ℕ → Bool
templates_ok s = all (λ q. template_ok q.bytes) (template_pieces s)

-- what is listed is long: there is room for a first reading type
lists : (s : List ℕ) → T (counted s) → T (readings_ok s) → T (templates_ok s) → Lists s
unfolding reading_pieces records_end
lists s h₁ h₂ h₃ =
    let c = counts_hold s h₁ in
    let readings = range_holds 1 16 (byte s 9) c.readings in
    let first = all_pieces (λ q. reading_type_ok q.bytes) (byte s 9) s 11 0 h₂ readings.0 in
    let cut = length_part s 11 (record_end s 11) (record_end_within s 11) in
    record {
      long = omega (arith, (reading_holds (piece_at s 11) first).long, cut, record_end_within s 11);
      few_parties = (range_holds 1 16 (byte s 8) c.parties).1;
      few_readings = readings.1;
      few_templates = c.templates;
      readings_ok = h₂;
      templates_ok = h₃;
    }

pub lists_hold : (s : List ℕ) → listed s ≡ true → Lists s
unfolding listed
lists_hold s e =
    both_true (counted s && readings_ok s && templates_ok s) (one_kind s) (true→T e) λ t₁ h₄.
    both_true (counted s && readings_ok s) (templates_ok s) t₁ λ t₂ h₃.
    both_true (counted s) (readings_ok s) t₂ λ h₁ h₂.
    lists s h₁ h₂ h₃

pub listed_short : (s : List ℕ) → length s < 11 → listed s ≡ false
listed_short s l = sym (refused (listed s) λ t. omega (arith, (lists_hold s (T→true (listed s) t)).long))

module _ (s : List ℕ) {u : Bool} (e : u ≡ counted s) where
  pub listed_uncounted : u ≡ false → listed s ≡ false
  unfolding listed
  listed_uncounted f = rw (sym e ∙ f)

  module _ (c : u ≡ true) where
    counts : Counts s
    counts = counts_hold s (true→T (sym e ∙ c))

    -- n and m are the numbers of reading types and templates, as the code read them; so many of the cells z are taken
    pub few_readings_lem : {n : ℕ} → n ≡ byte s 9 → n ≤ 16
    few_readings_lem p = omega (arith, (range_holds 1 16 (byte s 9) counts.readings).1)

    pub few_templates_lem : {m : ℕ} → m ≡ byte s 10 → m ≤ 32
    few_templates_lem p = omega (arith, counts.templates)

    pub readings_room : {n : ℕ} (z : List ℕ) → 16 ≤ length z → n ≡ byte s 9 → length (take n z) ≡ byte s 9
    readings_room z l p = length-take-le _ z (omega (arith, few_readings_lem p)) ∙ p

    pub templates_room : {m : ℕ} (z : List ℕ) → 32 ≤ length z → m ≡ byte s 10 → length (take m z) ≡ byte s 10
    templates_room z l p = length-take-le _ z (omega (arith, few_templates_lem p)) ∙ p

    module _ {answers : List ℕ → Bool → Type 0} (y : Computes answers reading_type_ok) where
      readings_are : {n : ℕ} → n ≡ byte s 9 → all_pass reading_type_ok n s 11 ≡ readings_ok s
      unfolding reading_pieces
      readings_are p = rw p

      pub listed_no_reading : {n : ℕ} → n ≡ byte s 9 → SomeFails answers n s 11 → listed s ≡ false
      unfolding listed
      listed_no_reading p f = rw (sym e ∙ c, sym (readings_are p) ∙ f.fails reading_type_ok y)

      -- the reading types are placed, and the templates begin at `first`
      module _ {one : List ℕ} {first : ℕ} (p : length one ≡ byte s 9) (h : Placed answers s 11 one first)
          {asked : List ℕ → Bool → Type 0} (z : Computes asked template_ok) where
        first_is : first ≡ templates_place s
        unfolding templates_place
        first_is = h.ends ∙ ap (λ i. records_end i s 11) p

        listed_is : {m : ℕ} → m ≡ byte s 10 → listed s ≡ (all_pass template_ok m s first && one_kind s)
        unfolding listed template_pieces
        listed_is g = rw (sym e ∙ c, sym (readings_are p) ∙ h.passes reading_type_ok y, g, first_is)

        pub listed_no_template : {m : ℕ} → m ≡ byte s 10 → SomeFails asked m s first → listed s ≡ false
        listed_no_template g f = listed_is g ∙ ap (λ b. b && one_kind s) (f.fails template_ok z)

        -- so are the templates, and behind the places come cells that are not used
        module _ {two : List ℕ} {main : ℕ} (g : length two ≡ byte s 10) (k : Placed asked s first two main) where
          -- all that is left to ask is whether the templates are of one kind
          pub listed_as : listed s ≡ one_kind s
          listed_as = listed_is g ∙ ap (λ b. b && one_kind s) (k.passes template_ok z)

          pub listed_lists : Lists s
          unfolding reading_pieces template_pieces
          listed_lists = lists s (true→T (sym e ∙ c)) (true→T (sym (readings_are p) ∙ h.passes reading_type_ok y))
              (true→T (rw (g, first_is) at (k.passes template_ok z)))

          pub indexed : (r q : List ℕ) → Indexed (one ++ r) (two ++ q) main s
          unfolding main_place
          indexed r q = record {
            lists = listed_lists;
            readings_at = λ i l. get_or-append one r 0 i (omega arith) ∙ h.begin_at i (omega arith);
            templates_at = λ i l. get_or-append two q 0 i (omega arith) ∙ k.begin_at i (omega arith)
                ∙ ap (records_end i s) first_is;
            main_at = k.ends ∙ ap (λ i. records_end i s first) g ∙ ap (records_end (byte s 10) s) first_is;
          }
