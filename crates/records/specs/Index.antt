-- Where the records of an agreement stand, and what its lists hold to.
use Rattle.std.specs.Prelude as std
use Rattle.std.specs.Prelude.{◌≡◌, Bool, true, false, cond, List, ℕ, ◌+◌, ◌≤◌, ◌<◌, T, eqb, length, get_or}
use Rattle.std.specs.Prelude.{MatchOption}
use Rattle.std.proofs.Math.Option.{Option, none, some}
use Rattle.csl.specs.Lists.{all, at}
use Rattle.csl.specs.Bytes.{byte, le16, part, record_end}
use Rattle.csl.specs.Syntax.{Head}
use Rattle.csl.specs.Decode.{records_end, templates_place, main_place, reading_type_ok, template_ok, template_head}
use Rattle.csl.specs.Decode.{Piece, pieces, reading_pieces, template_pieces, body_place, wait_end, is_type, tys_of}
use Rattle.csl.specs.Decode.{agreement_of}

-- ---- the places of reading type k + 1 and of template k, and their bytes
abbrev pub reading_place : List ℕ → ℕ → ℕ
reading_place s k = records_end k s 11

abbrev pub template_place : List ℕ → ℕ → ℕ
template_place s k = records_end k s (templates_place s)

abbrev pub piece_at : List ℕ → ℕ → List ℕ
piece_at s a = part s a (record_end s a)

abbrev pub head_at : List ℕ → ℕ → Head
head_at s k = template_head (piece_at s (template_place s k))

-- the record of template k, how many values it has, and its declared parties by bit
abbrev pub template_piece : List ℕ → ℕ → Piece
template_piece s k = record { place = template_place s k; bytes = piece_at s (template_place s k) }

abbrev pub value_count : List ℕ → ℕ → ℕ
value_count s k = byte (piece_at s (template_place s k)) 4

abbrev pub declared_bits : List ℕ → ℕ → ℕ
declared_bits s k = le16 (piece_at s (template_place s k)) (6 + value_count s k)

-- where its body begins and ends
abbrev pub body_from : List ℕ → ℕ → ℕ
body_from s k = template_place s k + body_place (piece_at s (template_place s k))

abbrev pub body_to : List ℕ → ℕ → ℕ
body_to s k = record_end s (template_place s k)

pub record Spans (s : List ℕ) (k from to : ℕ) : Type 0 where
  pub begins : from ≡ body_from s k
  pub ends : to ≡ body_to s k
  pub ordered : from ≤ to
  pub inside : to ≤ length s

-- the bytes of its body, and of the main clause
abbrev pub body_bytes : List ℕ → ℕ → List ℕ
body_bytes s k = part s (body_from s k) (body_to s k)

abbrev pub main_bytes : List ℕ → List ℕ
main_bytes s = part s (main_place s) (length s)

-- ---- what the lists of an agreement hold to
pub record Lists (s : List ℕ) : Type 0 where
  pub long : 11 ≤ length s
  pub few_parties : byte s 8 ≤ 16
  pub few_readings : byte s 9 ≤ 16
  pub few_templates : byte s 10 ≤ 32
  pub readings_ok : T (all (λ q. reading_type_ok q.bytes) (reading_pieces s))
  pub templates_ok : T (all (λ q. template_ok q.bytes) (template_pieces s))

-- ---- place k of `readings` is that of reading type k + 1, place k of `templates` that of template k, and `main` that
-- of the main clause
pub record Indexed (readings templates : List ℕ) (main : ℕ) (s : List ℕ) : Type 0 where
  pub lists : Lists s
  pub readings_at : (k : ℕ) → k < byte s 9 → get_or readings k 0 ≡ reading_place s k
  pub templates_at : (k : ℕ) → k < byte s 10 → get_or templates k 0 ≡ template_place s k
  pub main_at : main ≡ main_place s

-- ---- the type bytes of reading type k + 1
pub record ReadingTypes (s : List ℕ) (k : ℕ) (types : List ℕ) : Type 0 where
  pub typed : at (agreement_of s).readings k ≡ some (tys_of types)
  pub few : length types ≤ 4
  pub are_types : T (all is_type types)

-- ---- the type bytes of the values of template k
pub record ValueTypes (s : List ℕ) (k : ℕ) (types : List ℕ) : Type 0 where
  pub typed : tys_of types ≡ (head_at s k).values
  pub count : length types ≡ value_count s k
  pub few : length types ≤ 8
  pub are_types : T (all is_type types)

-- ---- what code found of the units that a template's head declares
abbrev pub DeclaredUnits : Option ℕ → std.Option ℕ → Type 0
DeclaredUnits declared found = MatchOption found (declared ≡ none) (λ n. (declared ≡ some n) × (n ≤ 128))

-- ---- n records from `from`, each tested: `answers` says what the test may answer of one. `t` is what it computes
abbrev pub Computes : (List ℕ → Bool → Type 0) → (List ℕ → Bool) → Type 0
Computes answers t = (q : List ℕ) (b : Bool) → answers q b → b ≡ t q

-- the test of all
abbrev pub all_pass : (List ℕ → Bool) → ℕ → List ℕ → ℕ → Bool
all_pass t n s from = all (λ q. t q.bytes) (pieces n s from)

-- one of them fails
pub record SomeFails (answers : List ℕ → Bool → Type 0) (n : ℕ) (s : List ℕ) (from : ℕ) : Type 0 where
  pub fails : (t : List ℕ → Bool) → Computes answers t → all_pass t n s from ≡ false

-- none fails, they begin at these places, and the last one ends at `to`
pub record Placed (answers : List ℕ → Bool → Type 0) (s : List ℕ) (from : ℕ) (places : List ℕ) (to : ℕ) : Type 0 where
  pub passes : (t : List ℕ → Bool) → Computes answers t → all_pass t (length places) s from ≡ true
  pub begin_at : (k : ℕ) → k < length places → get_or places k 0 ≡ records_end k s from
  pub ends : to ≡ records_end (length places) s from
  pub within : to ≤ length s

-- ---- where the first clause part of a clause of kind 17 to 21 begins
unfoldable pub first_clause : ℕ → List ℕ → ℕ
first_clause k s = cond (eqb k 17) (wait_end s 5) (cond (eqb k 18) (wait_end s 4) (cond (eqb k 19) (record_end s 4) 4))
