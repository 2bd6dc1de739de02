-- Cells that are copied and filled, and the cells of a unit.
use mathlib.Core.Path.{◌≡◌, sym, ap, ap₂, ◌∙◌}
use mathlib.Core.List.{List, [], ◌∷◌, ◌++◌, append-nil, append_assoc}
use Prim.Native.Nat.{ℕ, suc, ◌+◌, ◌-◌, ◌≤◌, ◌<◌}
use native.Mathlib.Numerals.{add-one}
use native.Mathlib.Omega.{arith}
use lib.IntN.{ℤ, pos}
use lib.ListN.{length, get_or, take, drop, set, replicate, length-drop, length-append, length-take}
use lib.ListN.{length-set, drop_of_length-le}
use lib.Seq.{set_at, take-suc, drop-cons, append_snoc, length-take-le, take-length, take_at, drop_at}
use lib.Seq.{sets-eq, drop-drop, take-add}
use borrow.Rule.Slice.PartMut.{put_mid}
use Rattle.std.proofs.lemmas.List.{drop-replicate}
use Rattle.laws.proofs.Cells.{length_padded}
use Rattle.arith.proofs.Lists.{part_put}
use mir.Syntax.{w64}
use mir.Val.{to_z}
use mir.ValLaws.{to_z_pos}
use Rattle.residues.specs.Reduces.{farthest}
use Rattle.csl.specs.Table.{padded}
use Rattle.cells.specs.Reduce.{unit_of}

module _ {A : Type 0} (z : A) where
  -- one cell more is copied
  pub copy_more : (s d : List A) (i : ℕ) → i < length s → i < length d
      → set (take i s ++ drop i d) i (get_or s i z) ≡ take (i + 1) s ++ drop (i + 1) d
  copy_more s d i hs hd =
      ap (λ (x : List A). set (take i s ++ x) i (get_or s i z)) (drop-cons d i z hd)
      ∙ set_at (take i s) (get_or d i z) (drop (suc i) d) (get_or s i z) i (length-take-le i s (omega arith))
      ∙ sym (append_snoc (take i s) (get_or s i z) (drop (suc i) d))
      ∙ ap (λ (x : List A). x ++ drop (suc i) d) (sym (take-suc s i z hs))
      ∙ ap (λ (k : ℕ). take k s ++ drop k d) (sym (add-one i))

module _ {A : Type 0} where
  pub copied_all : (s d : List A) {i : ℕ} → i ≡ length s → take i s ++ drop i d ≡ s ++ drop (length s) d
  copied_all s d e = rw (e, take-length)

  -- a copy goes on from what is copied so far
  pub left_over : (s d : List A) {e : List A} {i : ℕ} → i ≤ length s → e ≡ take i s ++ drop i d → e ≡ take i s
      ++ drop i e
  left_over s d {i = i} h q = q ∙ ap (λ x. take i s ++ x)
      (sym (ap (drop i) q ∙ drop_at (take i s) (drop i d) i (length-take-le i s h)))

  -- the cells from n to m
  pub copy_part : (s d : List A) (n m : ℕ) {e u : List A} → n ≤ m → n ≤ length s → e ≡ take n s ++ drop n d
      → u ≡ take (m - n) (drop n s) → put_mid n (m - n) e u ≡ take m s ++ drop m d
  copy_part s d n m {e} {u} h i q r =
      let l : length (take n s) ≡ n = length-take-le n s i in
      let k : n + (m - n) ≡ m = omega arith in
      let front : take n e ≡ take n s = ap (take n) q ∙ take_at (take n s) (drop n d) n l in
      let rest : drop m e ≡ drop m d = ap₂ drop (sym k) q ∙ sym (drop-drop (m - n) n (take n s ++ drop n d))
      ∙ ap (drop (m - n)) (drop_at (take n s) (drop n d) n l) ∙ drop-drop (m - n) n d ∙ ap (λ j. drop j d) k in
      let more : take n s ++ u ≡ take m s = ap (λ x. take n s ++ x) r ∙ sym (take-add n (m - n) s)
      ∙ ap (λ j. take j s) k in
      part_put n m e u h ∙ rw (front, rest) (sym (append_assoc (take n s) u (drop m d))) ∙ ap (λ x. x ++ drop m d) more

-- ---- with zeros behind
-- e is what is cleared; the source is copied to its front
pub padded_is : (d s : List ℤ) {e v : List ℤ} → e ≡ replicate (length d) (pos 0) → v ≡ s ++ drop (length s) e
    → v ≡ padded (length d) s
unfolding padded
padded_is d s e f = f ∙ ap (λ y. s ++ drop (length s) y) e
    ∙ ap (λ x. s ++ x) (drop-replicate (length s) (length d) (pos 0))

-- ---- a unit
pub unit_length : (sort place a : ℕ) (ps vs : List ℤ) → length ps ≤ 5 → length vs ≤ 16
    → length (unit_of sort place a ps vs) ≡ 24
unfolding unit_of
unit_length sort place a ps vs h k = simp length-append (omega (arith, length_padded 5 ps h, length_padded 16 vs k))

module _ (l : List ℤ) (h : length l ≡ 24) (x y z : ℤ) where
  pub unit_three : length (set (set (set l 0 x) 1 y) 2 z) ≡ 24
  unit_three = simp length-set h

  three_is : set (set (set l 0 x) 1 y) 2 z ≡ x ∷ y ∷ z ∷ drop 3 l
  three_is = sets-eq (x ∷ y ∷ z ∷ []) l 0 (omega arith)

  module _ (p : List ℤ) (e : length p ≡ 5) where
    params_is : put_mid 3 5 (set (set (set l 0 x) 1 y) 2 z) p ≡ x ∷ y ∷ z ∷ (p ++ drop 8 l)
    params_is = part_put 3 8 (set (set (set l 0 x) 1 y) 2 z) p (omega arith)
        ∙ rw three_is (ap (λ t. x ∷ y ∷ z ∷ (p ++ t)) (drop-drop 5 3 l))

    pub params_length : length (put_mid 3 5 (set (set (set l 0 x) 1 y) 2 z) p) ≡ 24
    params_length = rw params_is (simp (length-append, length-drop) (omega arith))

    pub unit_is : (v : List ℤ) → length v ≡ 16 → put_mid 8 16 (put_mid 3 5 (set (set (set l 0 x) 1 y) 2 z) p) v ≡ x ∷ y
        ∷ z ∷ (p ++ v)
    unit_is v f =
        part_put 8 24 (put_mid 3 5 (set (set (set l 0 x) 1 y) 2 z) p) v (omega arith)
        ∙ rw params_is
        (ap (λ t. x ∷ y ∷ z ∷ (t ++ (v ++ drop 21 (p ++ drop 8 l)))) (take_at p (drop 8 l) 5 e)
        ∙ ap (λ t. x ∷ y ∷ z ∷ (p ++ (v ++ t)))
        (drop_of_length-le (p ++ drop 8 l) {i = 21} (simp (length-append, length-drop) (omega arith)))
        ∙ ap (λ t. x ∷ y ∷ z ∷ (p ++ t)) (append-nil v))

-- a time or place as a cell
pub cell_of_lem : (n : ℕ) → n ≤ farthest → to_z w64 n ≡ pos n
cell_of_lem n h = to_z_pos w64 n (omega arith)

module _ (l : List ℤ) (h : length l ≡ 24) {sort place a : ℕ} (hs : sort ≤ farthest) (hp : place ≤ farthest)
    (ha : a ≤ farthest) (ps vs : List ℤ) (few : length ps ≤ 5) (fits : length vs ≤ 16) where
  abbrev headed : List ℤ
  headed = set (set (set l 0 (to_z w64 sort)) 1 (to_z w64 place)) 2 (to_z w64 a)

  headed_length : length headed ≡ 24
  headed_length = unit_three l h (to_z w64 sort) (to_z w64 place) (to_z w64 a)

  -- p and v are what `fill` made of the parts
  pub unit_written : {p v : List ℤ} → p ≡ padded (length (take 5 (drop 3 headed))) ps
      → v ≡ padded (length (take 16 (drop 8 (put_mid 3 5 headed p)))) vs
      → put_mid 8 16 (put_mid 3 5 headed p) v ≡ unit_of sort place a ps vs
  unfolding unit_of
  unit_written {p} {v} e f =
      let n : length (take 5 (drop 3 headed)) ≡ 5 = simp (length-take, length-drop, headed_length) in
      let p5 : p ≡ padded 5 ps = e ∙ ap (λ k. padded k ps) n in
      let lp : length p ≡ 5 = ap length p5 ∙ length_padded 5 ps few in
      let m : length (take 16 (drop 8 (put_mid 3 5 headed p))) ≡ 16 = simp
      (length-take, length-drop, params_length l h (to_z w64 sort) (to_z w64 place) (to_z w64 a) p lp) in
      let v16 : v ≡ padded 16 vs = f ∙ ap (λ k. padded k vs) m in
      let lv : length v ≡ 16 = ap length v16 ∙ length_padded 16 vs fits in
      unit_is l h (to_z w64 sort) (to_z w64 place) (to_z w64 a) p lp v lv
      ∙ rw (cell_of_lem sort hs, cell_of_lem place hp, cell_of_lem a ha, p5, v16)
