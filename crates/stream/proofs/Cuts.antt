-- The records of an input, one after another: what `next_record` says of the bytes at hand holds of the whole input,
-- whatever comes after them.
use mathlib.Core.Path.{◌≡◌, refl, sym, ap, ◌∙◌, subst}
use mathlib.Core.Bool.{Bool, true, false}
use mathlib.Core.List.{List, [], ◌∷◌, ◌++◌, append-nil}
use Prim.Native.Nat.{ℕ, zero, suc, ◌≤◌, ◌<◌}
use native.Mathlib.Omega.{arith}
use borrow.Author.Tests.{leb-true, leb-false, le-leb, lt-leb}
use lib.Dec.{leb}
use lib.ListN.{length, take, drop, length-append, length-drop, drop_of_length-le, get_or-append}
use lib.Seq.{take_all, take-length, drop-length, take-append-le, drop-append-le}
use Rattle.csl.specs.Bytes.{le16}
use Rattle.laws.proofs.Clash.{impossible}
use Rattle.stream.specs.Records.{size_of, is_whole, records_in, records_of}
use Rattle.stream.specs.Next.{next_by, next_of}
use Rattle.stream.specs.declared.Next.{Next}
use Rattle.stream.specs.declared.Next.TheVariants.{Record, Wait, End}

pub size_two : (s : List ℕ) → 2 ≤ size_of s
unfolding size_of
size_two s = omega arith

-- ---- the records do not depend on the steps
enough : (f g : ℕ) (s : List ℕ) → length s ≤ f → length s ≤ g → records_in f s ≡ records_in g s
unfolding records_in
enough zero zero s h k = refl
enough zero (suc g) [] h k = refl
enough zero (suc g) (b ∷ s) h k = absurd (omega arith)
enough (suc f) zero [] h k = refl
enough (suc f) zero (b ∷ s) h k = absurd (omega arith)
enough (suc f) (suc g) [] h k = refl
enough (suc f) (suc g) (b ∷ s) h k =
    let n = length-drop (size_of (b ∷ s)) (b ∷ s) in
    let two = size_two (b ∷ s) in
    ap (λ rs. take (size_of (b ∷ s)) (b ∷ s) ∷ rs)
    (enough f g (drop (size_of (b ∷ s)) (b ∷ s)) (omega arith) (omega arith))

pub first_record : (s : List ℕ) → 0 < length s → records_of s ≡ take (size_of s) s ∷ records_of (drop (size_of s) s)
unfolding records_in records_of
first_record [] h = absurd (omega arith)
first_record (b ∷ s) h =
    let n = length-drop (size_of (b ∷ s)) (b ∷ s) in
    let two = size_two (b ∷ s) in
    ap (λ rs. take (size_of (b ∷ s)) (b ∷ s) ∷ rs)
    (enough (length s) (length (drop (size_of (b ∷ s)) (b ∷ s))) (drop (size_of (b ∷ s)) (b ∷ s)) (omega arith)
    (omega arith))

pub no_records : records_of [] ≡ []
unfolding records_in records_of
no_records = refl

-- ---- the size is told by two bytes
size_more : (s more : List ℕ) → 2 ≤ length s → size_of (s ++ more) ≡ size_of s
unfolding size_of le16
size_more s more h = rw (get_or-append s more 0 0 (omega arith), get_or-append s more 0 1 (omega arith))

whole_fits : (s : List ℕ) → is_whole s ≡ true → size_of s ≤ length s
unfolding is_whole
whole_fits s e = leb-true (size_of s) (length s) e

-- ---- a record, whole or the last one cut short, is the input's next, whatever comes after it
pub record Cut (s : List ℕ) (ended : Bool) (k : ℕ) : Type 0 where
  pub some : 0 < k
  pub bounded : k ≤ length s
  pub is : (more : List ℕ) → (ended ≡ true → more ≡ []) → records_of (s ++ more) ≡ take k s
      ∷ records_of (drop k s ++ more)

whole_cut : (s : List ℕ) (ended : Bool) → is_whole s ≡ true → Cut s ended (size_of s)
whole_cut s ended e =
    let fits = whole_fits s e in
    let two = size_two s in
    record {
      some = omega arith;
      bounded = fits;
      is = λ more _.
          let n = length-append s more in
          first_record (s ++ more) (omega arith)
          ∙ rw (
            size_more s more (omega arith),
            take-append-le (size_of s) s more fits,
            drop-append-le (size_of s) s more fits,
          );
    }

last_cut : (s : List ℕ) (k : ℕ) → is_whole s ≡ false → length s ≡ suc k → Cut s true (suc k)
unfolding is_whole
last_cut s k e n =
    let short : length s < size_of s = leb-false (size_of s) (length s) e in
    record {
      some = omega arith;
      bounded = omega arith;
      is = λ more h. rw (h refl, sym n, append-nil, drop-length s, take-length s)
          (first_record s (omega arith) ∙ rw (
            take_all (size_of s) s (omega arith),
            drop_of_length-le s {i = size_of s} (omega arith),
          ));
    }

-- ---- what an answer says
pub record Known (s : List ℕ) (ended : Bool) (r : Next) : Type 0 where
  pub cut : (k : ℕ) → r ≡ Record k → Cut s ended k
  pub wait : r ≡ Wait → (is_whole s ≡ false) × (ended ≡ false)
  pub end : r ≡ End → (s ≡ []) × (ended ≡ true)

pub known : (s : List ℕ) (ended : Bool) → Known s ended (next_of s ended)
unfolding next_of next_by
known s ended = go (is_whole s) refl ended (length s) refl
  where
    nil : (t : List ℕ) → length t ≡ 0 → t ≡ []
    nil [] e = refl
    nil (b ∷ t) e = absurd (omega arith)

    go : (w : Bool) → is_whole s ≡ w → (e : Bool) (n : ℕ) → length s ≡ n → Known s e (next_by w e (size_of s) n)
    go true h e n l = record {
      cut = λ k q. let z : size_of s ≡ k = cc in
          subst (Cut s e) z (whole_cut s e h);
      wait = λ q. impossible cc;
      end = λ q. impossible cc;
    }
    go false h false n l = record {
      cut = λ k q. impossible cc;
      wait = λ q. (h, refl);
      end = λ q. impossible cc;
    }
    go false h true zero l = record {
      cut = λ k q. impossible cc;
      wait = λ q. impossible cc;
      end = λ q. (nil s l, refl);
    }
    go false h true (suc j) l = record {
      cut = λ k q. let z : suc j ≡ k = cc in
          subst (Cut s true) z (last_cut s j h l);
      wait = λ q. impossible cc;
      end = λ q. impossible cc;
    }

-- ---- the answers that `next_record` gives, by its tests
module _ (s : List ℕ) (ended : Bool) {k : ℕ} (size : k ≡ size_of s) where
  pub next_whole : k ≤ length s → Record k ≡ next_of s ended
  unfolding next_of next_by is_whole
  next_whole h = let w : leb (size_of s) (length s) ≡ true = le-leb (size_of s) (length s) (omega arith) in rw (size, w)

  pub next_wait : length s < k → ended ≡ false → Wait ≡ next_of s ended
  unfolding next_of next_by is_whole
  next_wait h e = let w : leb (size_of s) (length s) ≡ false = lt-leb (size_of s) (length s) (omega arith) in rw (w, e)

  pub next_end : length s < k → ended ≡ true → length s ≡ 0 → End ≡ next_of s ended
  unfolding next_of next_by is_whole
  next_end h e n = let w : leb (size_of s) (length s) ≡ false = lt-leb (size_of s) (length s) (omega arith) in
      rw (w, e, n)

  pub next_cut : length s < k → ended ≡ true → (length s ≡ 0 → ⊥) → Record (length s) ≡ next_of s ended
  unfolding next_of next_by is_whole
  next_cut h e n = let w : leb (size_of s) (length s) ≡ false = lt-leb (size_of s) (length s) (omega arith) in
      rw (w, e) (there (length s) n)
    where
      there : (m : ℕ) → (m ≡ 0 → ⊥) → Record m ≡ next_by false true (size_of s) m
      there zero f = absurd (f refl)
      there (suc m) f = refl
