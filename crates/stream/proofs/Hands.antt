-- The bytes at hand: what taking leaves of them, and what a read brings behind them.
use Rattle.std.proofs.Common.{◌≡◌, refl, sym, ap, ◌∙◌, Option, arith}
use Rattle.std.proofs.Common.{List, ◌++◌, length, take, drop, ℕ, ◌+◌, ◌-◌, ◌≤◌, nat_eq}
use Rattle.std.proofs.lemmas.List.{drop-take, drop-drop, take_at, drop_at, length-take}
use Rattle.std.proofs.lemmas.Bool.{eqb-true}
use borrow.Author.Tests.{eqb-false}
use Rattle.std.proofs.Math.Seq.{take-add, take-append-le}
use Rattle.std.specs.Io.KnownBytes.{Consumes, IsAtEnd}
use Rattle.csl.specs.Bytes.{part}
use Rattle.stream.specs.Hands.{Brings}

-- what is left behind the first n bytes
pub left_of : (l : List ℕ) (from to n : ℕ) → n ≤ length (part l from to)
    → part l (from + n) to ≡ drop n (part l from to)
left_of l from to n h =
    let m = to - (from + n) in
    let s : to - from ≡ n + m = omega (arith, length-take (to - from) (drop from l)) in
    sym (ap (λ k. drop n (take k (drop from l))) s ∙ drop-take n m (drop from l) ∙ ap (take m) (drop-drop n from l))

-- ---- a read puts its bytes behind the first `at` of the buffer
module _ (before buf read post : List ℕ) (at n capacity : ℕ) (first : take at buf ≡ before) (there : at ≡ length before)
    (fits : n ≤ length read) where
  read_behind : part (take at buf ++ (read ++ post)) 0 (at + n) ≡ before ++ take n read
  read_behind =
      let whole = before ++ (read ++ post) in
      let z : at + n - 0 ≡ at + n = omega arith in
      rw (
        first,
        z,
        take-add at n whole,
        take_at before (read ++ post) at (sym there),
        drop_at before (read ++ post) at (sym there),
        take-append-le n read post fits,
      ) refl

  pub comes : (coming left : Option (List ℕ)) → Consumes coming left (take n read)
      → (n ≡ 0 → IsAtEnd left) → Brings before
      (record {
        bytes = part (take at buf ++ (read ++ post)) 0 (at + n);
        ended = nat_eq n 0;
        capacity = capacity;
      }) coming left
  comes coming left brings over = record {
    came = take n read;
    behind = read_behind;
    brings = brings;
    some = λ e. let z = eqb-false n 0 e in omega (arith, length-take n read);
    none = λ e. ap (λ k. take k read) (eqb-true n 0 e);
    over = λ e. over (eqb-true n 0 e);
  }
