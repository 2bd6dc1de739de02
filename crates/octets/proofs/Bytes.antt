-- Integers in bytes, and in a part of the bytes.
use mathlib.Core.Path.{◌≡◌, refl, sym, ap, ◌∙◌}
use mathlib.Core.Bool.{true, cond}
use mathlib.Core.List.{List}
use Prim.Native.Nat.{ℕ, suc, ◌+◌, ◌-◌, ◌≤◌, ◌<◌}
use native.Mathlib.Omega.{arith}
use lib.IntN.{ℤ, pos, negsuc, ◌-ℤ◌}
use lib.Dec.{leb, ltb, eqb}
use lib.ListN.{length, get_or-eq_default}
use borrow.Author.Tests.{lt-ltb, leb-true, eqb-true, le-leb, lt-leb}
use mir.Syntax.{w32}
use mir.Val.{sel, to_z}
use Rattle.csl.specs.Bytes.{byte, le16, le32, part, is_record}
use Rattle.laws.proofs.Bools.{and_left, and_right, by}
pub use Rattle.laws.proofs.RecordEnds.{record_end_after, record_end_within}
use Rattle.arith.proofs.Lists.{get_d_part}

-- ---- past the end all is 0
pub byte_past : (s : List ℕ) (i : ℕ) → length s ≤ i → byte s i ≡ 0
byte_past s i h = get_or-eq_default s 0 h

pub le16_past : (s : List ℕ) (i : ℕ) → length s ≤ i → le16 s i ≡ 0
unfolding le16
le16_past s i h = omega (arith, byte_past s i h, byte_past s (i + 1) (omega arith))

pub le32_past : (s : List ℕ) (i : ℕ) → length s ≤ i → le32 s i ≡ 0
unfolding le32
le32_past s i h = omega (arith, le16_past s i h, le16_past s (i + 2) (omega arith))

-- ---- in a part
pub byte_part : (s : List ℕ) (a e i : ℕ) → a + i < e → byte (part s a e) i ≡ byte s (a + i)
byte_part s a e i h = get_d_part s a e i 0 h

pub le16_part : (s : List ℕ) (a e i : ℕ) → a + i + 1 < e → le16 (part s a e) i ≡ le16 s (a + i)
unfolding le16
le16_part s a e i h =
    let k : a + (i + 1) ≡ a + i + 1 = omega arith in
    rw (byte_part s a e i (omega arith), byte_part s a e (i + 1) (omega arith), k)

-- ---- a whole record
pub record Whole (s : List ℕ) : Type 0 where
  pub room : 4 ≤ length s
  pub says : le16 s 0 ≡ length s

pub whole_from : (s : List ℕ) → is_record s ≡ true → Whole s
unfolding is_record
whole_from s e =
    let p = and_left (leb 4 (length s)) (eqb (le16 s 0) (length s)) e in
    let q = and_right (leb 4 (length s)) (eqb (le16 s 0) (length s)) e in
    record { room = leb-true 4 (length s) p; says = eqb-true (le16 s 0) (length s) q }

pub record_yes : (s : List ℕ) {n : ℕ} → 4 ≤ length s → n ≡ le16 s 0 → eqb n (length s) ≡ is_record s
unfolding is_record
record_yes s h e = rw (le-leb 4 (length s) h, e)

pub record_no : (s : List ℕ) → length s < 4 → leb 4 (length s) ≡ is_record s
unfolding is_record
record_no s h = rw (lt-leb 4 (length s) h)

-- ---- two's complement: v is what the code read
abbrev signed_of : ℕ → ℤ
signed_of w = cond (ltb w 2_147_483_648) (pos w) (pos w -ℤ pos 4_294_967_296)

pub signed_is : {v w : ℕ} → v ≡ w → v < 4_294_967_296 → to_z w32 v ≡ signed_of w
signed_is {v} {w} e h =
    by (λ t. sel t (pos v) (negsuc (4_294_967_296 - suc v)) ≡ cond t (pos v) (pos v -ℤ pos 4_294_967_296))
    (ltb v 2_147_483_648) (λ q. refl) (λ q. sym (simp (lt-ltb v 4_294_967_296 h))) ∙ ap signed_of e
