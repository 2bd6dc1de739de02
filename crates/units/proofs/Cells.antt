-- Cells read as numbers, parties and values.
use mathlib.Core.Path.{◌≡◌, refl, sym, ap, ◌∙◌}
use mathlib.Core.Bool.{Bool, true, false, cond, ◌&&◌, and-true, and_assoc}
use mathlib.Core.List.{List, [], ◌∷◌, ◌++◌, append-nil, append_assoc}
use mathlib.Core.Option.{Option, none, some}
use Prim.Native.Nat.{ℕ, zero, suc, ◌+◌, ◌-◌, ◌^◌, ◌≤◌, ◌<◌}
use native.Mathlib.Numerals.{add-one}
use native.Mathlib.Omega.{arith}
use borrow.Author.Tests.{lt-ltb, le-ltb, ne_eqb, ltb-true, ltb-false}
use lib.Dec.{eqb, ltb}
use lib.IntN.{ℤ, pos, negsuc, nat_abs}
use lib.ListN.{length, get_or, drop, length-append}
use lib.Seq.{drop-cons, drop-length}
use lib.Bits.{bit_or, or_zero_l, or_add_and, and_le_r}
use lib.Signed.{mag}
use mir.Syntax.{w64}
use mir.Val.{sel, of_z, to_z}
use Rattle.csl.specs.Lists.{◌>>=◌, need, all}
use Rattle.std.specs.Prelude.{Option as Maybe, Some, None, Result, Ok, Err, unsigned_abs}
use Rattle.std.specs.Bool.{then_some}
use Rattle.std.specs.Int.{FitsUnsignedBits}
use Rattle.std.specs.Result.{OkIff, result_ok}
use Rattle.arith.proofs.Ints.{seen, read! }
use Rattle.laws.proofs.Bools.{by}
use Rattle.laws.proofs.Clash.{impossible}
use Rattle.csl.specs.Values.{as_nat}
use Rattle.csl.specs.Table.{is_zero}
use Rattle.units.specs.Cells.{number_below, parties_in}

-- ---- a number below end, and what it says of the cell
pub below_is : (end n : ℕ) (z : ℤ) → Some n ≡ number_below end z → (z ≡ pos n) × (n < end)
unfolding number_below
below_is end n (pos m) h = go (ltb m end) refl h
  where
    go : (b : Bool) → ltb m end ≡ b → Some n ≡ cond b (Some m) None → (pos m ≡ pos n) × (n < end)
    go true e h = let same : n ≡ m = cc in (ap pos (sym same), omega (arith, ltb-true m end e))
    go false e h = impossible cc
below_is end n (negsuc m) h = impossible cc

pub below_not : (end n : ℕ) (z : ℤ) → None ≡ number_below end z → z ≡ pos n → end ≤ n
unfolding number_below
below_not end n z h e = go (ltb n end) refl (rw e at h)
  where
    go : (b : Bool) → ltb n end ≡ b → None ≡ cond b (Some n) None → end ≤ n
    go true e h = impossible cc
    go false e h = omega (arith, ltb-false n end e)

-- what `try_from` says of a cell, as the program reads it
module _ {E : Type 0} (z : ℤ) (fits : mag z < 2 ^ 63) (t : Result ℕ E) {o : Maybe ℕ} (e : o ≡ result_ok t)
    (h : OkIff t (FitsUnsignedBits 64 (seen z)) (unsigned_abs (seen z)))
  where
    converts : OkIff t (FitsUnsignedBits 64 z) (unsigned_abs z)
    converts = rw (read! {z = z} fits) at h

    pub not_natural : o ≡ None → (n : ℕ) → z ≡ pos n → ⊥
    not_natural g n same = go t (sym e ∙ g) (rw same at converts)
      where
        go : (t : Result ℕ E) → result_ok t ≡ None → OkIff t (n < 2 ^ 64) n → ⊥
        go (Ok x) g h = impossible cc
        go (Err x) g h = h (let l : mag (pos n) < 2 ^ 63 = rw same at fits in omega arith)

    pub natural : {n : ℕ} → o ≡ Some n → z ≡ pos n
    natural {n} g = go z t (sym e ∙ g) converts
      where
        go : (z : ℤ) (t : Result ℕ E) → result_ok t ≡ Some n → OkIff t (FitsUnsignedBits 64 z) (unsigned_abs z)
            → z ≡ pos n
        go (pos m) (Ok x) g h = let l : m ≡ n = (let q = h.1 in cc) in ap pos l
        go (negsuc m) (Ok x) g h = absurd h.0
        go z (Err x) g h = impossible cc

pub below_none : (end : ℕ) (z : ℤ) → ((n : ℕ) → z ≡ pos n → ⊥) → None ≡ number_below end z
unfolding number_below
below_none end (pos n) f = absurd (f n refl)
below_none end (negsuc n) f = refl

pub below_some : (end n : ℕ) (z : ℤ) → z ≡ pos n → then_some (ltb n end) n ≡ number_below end z
unfolding number_below
below_some end n z e = rw e (go (ltb n end))
  where
    go : (b : Bool) → then_some b n ≡ cond b (Some n) None
    go true = refl
    go false = refl

-- ---- zeros
-- a cell is zero if it has no ones, and so are two cells if they have none together
no_ones : (z : ℤ) → mag z < 2 ^ 63 → eqb (of_z w64 z) 0 ≡ is_zero z
unfolding is_zero
no_ones (pos n) h = refl
no_ones (negsuc n) h = ne_eqb (2 ^ 64 - suc n) 0 (λ e. omega arith)

or_none : (a b : ℕ) → eqb (bit_or a b) 0 ≡ (eqb a 0 && eqb b 0)
or_none zero b = ap (λ (n : ℕ). eqb n 0) (or_zero_l b)
or_none (suc a) b = rw (ne_eqb (suc a) 0 (λ e. omega arith))
    (ne_eqb (bit_or (suc a) b) 0 (λ e. omega (arith, or_add_and (suc a) b, and_le_r (suc a) b)))

-- the ones seen so far, read as a cell
bits_none : (n : ℕ) → eqb n 0 ≡ is_zero (to_z w64 n)
unfolding is_zero
bits_none n = by (λ t. eqb n 0 ≡ is_zero (sel t (pos n) (negsuc (2 ^ 64 - suc n)))) (ltb n (2 ^ 63))
    (λ e. refl) (λ e. ne_eqb n 0 (λ z. omega (arith, ltb-false n (2 ^ 63) e)))

module _ (zs : List ℤ) where
  abbrev From : ℕ → ℕ → Type 0
  From ones i = (i ≤ length zs) × (all is_zero zs ≡ (is_zero (to_z w64 ones) && all is_zero (drop i zs)))

  pub zeros_more : (ones : ℕ) {i : ℕ} → i < length zs → mag (get_or zs i (pos 0)) < 2 ^ 63 → From ones i
      → From (bit_or ones (of_z w64 (get_or zs i (pos 0)))) (i + 1)
  unfolding all
  zeros_more ones {i} l h f =
      let x = get_or zs i (pos 0) in (
        omega arith,
        f.1 ∙ rw (
          ← bits_none ones,
          ← bits_none (bit_or ones (of_z w64 x)),
          drop-cons zs i (pos 0) l,
          add-one i,
          or_none ones (of_z w64 x),
          no_ones x h,
          and_assoc (eqb ones 0) (is_zero x) (all is_zero (drop (suc i) zs)),
        ),
      )

  pub zeros_last : (ones : ℕ) {i : ℕ} → length zs ≤ i → From ones i → eqb ones 0 ≡ all is_zero zs
  unfolding all
  zeros_last ones {i} l f = let e : i ≡ length zs = omega arith in
      sym (f.1 ∙ rw (e, drop-length zs, and-true (is_zero (to_z w64 ones)), ← bits_none ones))

-- ---- parties
party_is : {r : ℕ} (ps : ℕ) (z : ℤ) (rest : List ℤ) → Some r ≡ number_below ps z
    → parties_in ps (z ∷ rest) ≡ (parties_in ps rest >>= λ ns. some (r ∷ ns))
unfolding parties_in as_nat need ◌>>=◌
party_is {r} ps z rest e = let b = below_is ps r z e in rw (b.0, lt-ltb r ps b.1) refl

party_not : (ps : ℕ) (z : ℤ) (rest : List ℤ) → None ≡ number_below ps z → parties_in ps (z ∷ rest) ≡ none
unfolding parties_in as_nat need ◌>>=◌
party_not ps (pos n) rest e = rw (le-ltb n ps (below_not ps n (pos n) e refl)) refl
party_not ps (negsuc n) rest e = refl

module _ (zs : List ℤ) (ps : ℕ) where
  -- i cells are the parties `own`, and the rest follow
  pub record Reads (own : List ℕ) (i : ℕ) : Type 0 where
    pub bounded : i ≤ length zs
    pub same : parties_in ps zs ≡ (parties_in ps (drop i zs) >>= λ ns. some (own ++ ns))
    pub count : length own ≡ i

  pub reads_first : Reads [] 0
  unfolding ◌>>=◌
  reads_first = record { bounded = omega arith; same = go (parties_in ps zs); count = refl }
    where
      go : (o : Option (List ℕ)) → o ≡ (o >>= λ ns. some ([] ++ ns))
      go none = refl
      go (some ns) = refl

  module _ {own : List ℕ} {i : ℕ} (l : i < length zs) (h : Reads own i) where
    pub reads_more : {r : ℕ} → Some r ≡ number_below ps (get_or zs i (pos 0)) → Reads (own ++ (r ∷ [])) (i + 1)
    unfolding ◌>>=◌
    reads_more {r} e = record {
      bounded = omega arith;
      same = h.same
          ∙ rw (
            drop-cons zs i (pos 0) l,
            party_is ps (get_or zs i (pos 0)) (drop (suc i) zs) e,
            add-one i,
          ) (go (parties_in ps (drop (suc i) zs)));
      count = length-append own (r ∷ []) ∙ omega (arith, h.count);
    }
      where
        go : (o : Option (List ℕ)) → ((o >>= λ ns. some (r ∷ ns)) >>= λ ns. some (own ++ ns)) ≡
            (o >>= λ ns. some ((own ++ (r ∷ [])) ++ ns))
        go none = refl
        go (some ns) = ap some (sym (append_assoc own (r ∷ []) ns))

    pub reads_not : None ≡ number_below ps (get_or zs i (pos 0)) → parties_in ps zs ≡ none
    unfolding ◌>>=◌
    reads_not e = h.same
        ∙ rw (drop-cons zs i (pos 0) l, party_not ps (get_or zs i (pos 0)) (drop (suc i) zs) e) refl

  pub reads_last : {own : List ℕ} {i : ℕ} → length zs ≤ i → Reads own i → parties_in ps zs ≡ some own
  unfolding ◌>>=◌ parties_in
  reads_last {own} {i} l h =
      let e : i ≡ length zs = omega (arith, h.bounded) in
      h.same ∙ rw (e, drop-length zs) (ap some (append-nil own))
