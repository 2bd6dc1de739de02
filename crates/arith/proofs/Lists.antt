-- Parts of a list, a part put back, three cells set in a row.
use mathlib.Core.Path.{◌≡◌, sym}
use mathlib.Core.List.{List, [], ◌∷◌, ◌++◌, append-nil}
use Prim.Native.Nat.{ℕ, zero, suc, ◌+◌, ◌-◌, ◌<◌, ◌≤◌}
use native.Mathlib.Omega.{arith}
use lib.ListN.{length, get_or, take, drop}
use lib.Seq.{drop-length, get_or-take, get_or-drop, take-take, take-nil, drop-drop}
use borrow.Rule.Slice.PartMut.{put_mid, Post-is}
pub use Rattle.laws.proofs.Lists.{length_part}

module _ {A : Type 0} where
  -- ---- `take (e - a) (drop a l)` is what `&l[a..e]` denotes
  pub get_d_part : (l : List A) (a e i : ℕ) (d : A) → a + i < e
      → get_or (take (e - a) (drop a l)) i d ≡ get_or l (a + i) d
  get_d_part l a e i d h = let k : i < e - a = omega arith in rw (get_or-take, get_or-drop)

  pub take_drop : (m n : ℕ) (l : List A) → drop m (take n l) ≡ take (n - m) (drop m l)
  take_drop zero n l = let k : n - 0 ≡ n = omega arith in rw k
  take_drop (suc m) zero l = let k : 0 - suc m ≡ 0 = omega arith in rw k
  take_drop (suc m) (suc n) [] = sym (take-nil (suc n - suc m))
  take_drop (suc m) (suc n) (x ∷ l) = let k : suc n - suc m ≡ n - m = omega arith in rw k (take_drop m n l)

  -- a part of a part
  pub part_part : (l : List A) (a e b f : ℕ) → a + f ≤ e
      → take (f - b) (drop b (take (e - a) (drop a l))) ≡ take (a + f - (a + b)) (drop (a + b) l)
  part_part l a e b f h =
      let k : f - b ≤ e - a - b = omega arith in
      let q : a + f - (a + b) ≡ f - b = omega arith in
      rw (take_drop b (e - a) (drop a l), take-take (f - b) (e - a - b) (drop b (drop a l)) k, drop-drop b a l, q)

  -- ---- a part put back, where the part goes to the end, and where it ends at e
  pub tail_put : (a : ℕ) (xs ys : List A) → a ≤ length xs → put_mid a (length xs - a) xs ys ≡ take a xs ++ ys
  tail_put a xs ys h = rw (Post-is a (length xs) xs h, drop-length, append-nil)

  pub part_put : (a e : ℕ) (xs ys : List A) → a ≤ e → put_mid a (e - a) xs ys ≡ take a xs ++ (ys ++ drop e xs)
  part_put a e xs ys h = rw (Post-is a e xs h)
