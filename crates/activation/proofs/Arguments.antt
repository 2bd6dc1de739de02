-- Laws of blames and of an instance's arguments, as the loops over them know things.
use mathlib.Core.Path.{◌≡◌, refl, sym, ap, ◌∙◌}
use mathlib.Core.List.{List, [], ◌∷◌, ◌++◌, append-nil}
use Prim.Native.Nat.{ℕ, zero, suc, ◌+◌, ◌-◌, ◌^◌, ◌≤◌, ◌<◌, max}
use native.Mathlib.Omega.{arith}
use lib.IntN.{ℤ, pos, negsuc, nat_abs}
use lib.Signed.{mag}
use Rattle.std.specs.Int.{FitsUnsignedBits}
use Rattle.std.specs.Prelude.{Result, Ok, Err, MatchResult}
use Rattle.std.specs.List.{fold, range_with_len}
use lib.ListN.{length, get_or, take, set}
use Rattle.std.proofs.lemmas.List.{take_more}
use lib.Seq.{append_snoc, take_all, take-suc-set}
use borrow.Author.Tests.{lt-ltb, le-ltb, ne_eqb}
use mir.Syntax.{w64}
use mir.Val.{to_z}
use mir.ValLaws.{to_z_pos}
use Rattle.csl.specs.Bytes.{part, record_end}
use Rattle.csl.specs.Parties.{member, bit, bits_from, bits_of}
use Rattle.csl.specs.Decode.{expr, arguments, records_end}
use Rattle.cells.specs.Evaluate.{eval_cells, evals_cells}
use Rattle.cells.specs.Reduce.{party_cell, blamed_cell, blamed_cells, blame_bits}

-- ---- a party's bit
bits_past : (k i n : ℕ) → i + k ≤ n → bits_from k i (n ∷ []) ≡ 0
unfolding bits_from member bit
bits_past zero i n h = refl
bits_past (suc k) i n h = rw (ne_eqb i n (λ e. omega arith), bits_past k (suc i) n (omega arith))

bits_none : (n : ℕ) → 16 ≤ n → 0 ≡ bits_of (n ∷ [])
unfolding bits_of
bits_none n h = sym (bits_past 16 0 n h)

-- ---- what a blame byte stands for
pub blamed_party : (ps : List ℤ) (b : ℕ) → b < 128 → to_z w64 b ≡ blamed_cell ps b
unfolding blamed_cell
blamed_party ps b h = rw (lt-ltb b 128 h) (to_z_pos w64 b (omega arith))

pub blamed_param : (ps : List ℤ) (b : ℕ) → 128 ≤ b → get_or ps (b - 128) (pos 0) ≡ blamed_cell ps b
unfolding blamed_cell
blamed_param ps b h = rw (le-ltb b 128 h)

module _ (ps : List ℤ) (b : ℕ) where
  pub bits_party : (x : ℤ) → x ≡ blamed_cell ps b → {n : ℕ} → FitsUnsignedBits 64 x × (n ≡ nat_abs x)
      → bits_of (n ∷ []) ≡ blame_bits ps b
  unfolding blame_bits party_cell
  bits_party (pos n) e f = rw (f.1, ← e)
  bits_party (negsuc n) e f = absurd f.0

  pub bits_below : (x : ℤ) → x ≡ blamed_cell ps b → mag x < 2 ^ 63 → (FitsUnsignedBits 64 x → ⊥) → 0 ≡ blame_bits ps b
  unfolding blame_bits party_cell
  bits_below (pos n) e f h = absurd (h (omega arith))
  bits_below (negsuc n) e f h = rw (← e) (bits_none 16 (omega arith))

-- by what `try_from` says of a cell
pub by_cell : {E G : Type 0} (t : Result ℕ E) {P : ℕ → Type 0} {Q : E → Type 0} → MatchResult t P Q
    → ((n : ℕ) → t ≡ Ok n → P n → G) → ((e : E) → t ≡ Err e → Q e → G) → G
by_cell (Ok n) m f g = f n refl m
by_cell (Err e) m f g = g e refl m

-- ---- the loop over blame bytes
pub blames_all : (ps : List ℤ) (bs : List ℕ) (n : ℕ) → length bs ≤ n → blamed_cells ps (take n bs) ≡ blamed_cells ps bs
blames_all ps bs n h = ap (blamed_cells ps) (take_all n bs h)

pub blames_append : (ps : List ℤ) (bs : List ℕ) (b : ℕ)
    → blamed_cells ps (bs ++ (b ∷ [])) ≡ blamed_cells ps bs ++ (blamed_cell ps b ∷ [])
unfolding blamed_cells
blames_append ps [] b = refl
blames_append ps (x ∷ bs) b = ap (λ l. blamed_cell ps x ∷ l) (blames_append ps bs b)

pub blames_more : (ps : List ℤ) (bs : List ℕ) (i : ℕ) → i < length bs
    → blamed_cells ps (take (i + 1) bs) ≡ blamed_cells ps (take i bs) ++ (blamed_cell ps (get_or bs i 0) ∷ [])
blames_more ps bs i h = ap (blamed_cells ps) (take_more bs i 0 h) ∙ blames_append ps (take i bs) (get_or bs i 0)

pub blames_set : (ps : List ℤ) (bs : List ℕ) (cs : List ℤ) (i : ℕ) {x : ℤ} → i < length bs → i < length cs
    → take i cs ≡ blamed_cells ps (take i bs) → x ≡ blamed_cell ps (get_or bs i 0)
    → take (i + 1) (set cs i x) ≡ blamed_cells ps (take (i + 1) bs)
blames_set ps bs cs i {x} hb hc e q =
    let next : i + 1 ≡ suc i = omega arith in
    ap (λ k. take k (set cs i x)) next ∙ take-suc-set cs i x hc ∙ ap (λ l. l ++ (x ∷ [])) e
    ∙ ap (λ y. blamed_cells ps (take i bs) ++ (y ∷ [])) q ∙ sym (blames_more ps bs i hb)

-- ---- the loops over arguments; at is where the next begins
one_less : {n : ℕ} (i : ℕ) → i < n → n - i ≡ suc (n - (i + 1))
one_less i h = omega arith

module _ (s : List ℕ) (n : ℕ) where
  pub ends_all : (i at : ℕ) → fold (λ a k. record_end s a) at (range_with_len i n) ≡ records_end n s at
  unfolding records_end
  ends_all = by_count n
    where
      by_count : (k i at : ℕ) → fold (λ a j. record_end s a) at (range_with_len i k) ≡ records_end k s at
      by_count zero i at = refl
      by_count (suc k) i at = by_count k (i + 1) (record_end s at)

  pub ends_within : (at : ℕ) → records_end n s at ≤ at + length s
  unfolding records_end record_end
  ends_within = λ at. omega (arith, by_count n at)
    where
      by_count : (k at : ℕ) → records_end k s at ≤ max at (length s)
      by_count zero at = omega arith
      by_count (suc k) at = omega (arith, by_count k (record_end s at))

module _ (vs : List ℤ) (d : ℕ) (s : List ℕ) (n : ℕ) where
  pub record Argued (l : List ℤ) (i at : ℕ) : Type 0 where
    pub are : evals_cells vs (arguments (expr d) n s 5) ≡ l ++ evals_cells vs (arguments (expr d) (n - i) s at)

  pub argued_none : {l : List ℤ} → l ≡ [] → Argued l 0 5
  argued_none q = let e : n - 0 ≡ n = omega arith in record { are = rw (e, q) }

  pub argued_more : (l : List ℤ) (i at : ℕ) → Argued l i at → i < n → {e : ℕ} {x : ℤ}
      → e ≡ record_end s at → x ≡ eval_cells vs (expr d (part s at (record_end s at)))
      → Argued (l ++ (x ∷ [])) (i + 1) e
  unfolding arguments evals_cells
  argued_more l i at a h {e} {x} ee ex = record {
    are = a.are ∙ rw (one_less i h, ← ex, ← ee)
        (sym (append_snoc l x (evals_cells vs (arguments (expr d) (n - (i + 1)) s e))));
  }

  pub argued_all : (l : List ℤ) {i at : ℕ} → n ≤ i → Argued l i at → l ≡ evals_cells vs (arguments (expr d) n s 5)
  unfolding arguments evals_cells
  argued_all l {i} {at} e a = let z : n - i ≡ 0 = omega arith in sym (a.are ∙ rw z (append-nil l))
