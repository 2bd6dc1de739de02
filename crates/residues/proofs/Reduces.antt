-- Laws of answers: a residue at the end of `out`, and the two sides of a join.
use mathlib.Core.Path.{◌≡◌, refl, sym, ap, ap₂, ◌∙◌}
use mathlib.Core.List.{List, [], ◌∷◌, ◌++◌}
use Prim.Native.Nat.{ℕ, ◌+◌, ◌-◌, ◌*◌, ◌≤◌, ◌<◌, min}
use native.Mathlib.Omega.{arith}
use lib.Dec.{ltb}
use lib.IntN.{ℤ, pos}
use lib.ListN.{length, take, drop, length-append, length-take, length-drop, take-append-drop}
use lib.Signed.{◌<ℤ◌}
use lib.Seq.{drop_at, take-length, length-take-le, drop-append-le}
use borrow.Author.Tests.{ltb-true}
use borrow.Rule.Slice.PartMut.{put_mid}
use mir.Syntax.{w64}
use mir.Val.{to_z}
use Rattle.laws.proofs.Bools.{T→true}
use Rattle.laws.proofs.Cells.{length_join}
use Rattle.arith.proofs.Lists.{part_put, tail_put}
use Rattle.csl.specs.Syntax.{and, or}
use Rattle.csl.specs.Syntax as syntax
use Rattle.kinds.specs.Kinds.{join_in, join_number}
use Rattle.kinds.specs.declared.Join.{Join}
use Rattle.kinds.specs.declared.Join.TheVariants.{And, Or}
use Rattle.csl.specs.Table.{padded, join_cells}
use Rattle.csl.specs.Table as csl
use Rattle.cells.specs.Reduce.{unit_of}
use Rattle.cells.specs.Reduce as cells
use Rattle.residues.specs.Reduces.{Stands, Is, room_left, JoinIs, BreachIs}
use Rattle.parties.specs.declared.breach.Breach.{Breach as Broken}
use Rattle.residues.specs.declared.Reduced.{Reduced}
use Rattle.residues.specs.declared.Reduced.TheVariants.{Done, Breach, Running}
use Rattle.residues.proofs.Cells.{unit_length}

-- ---- a waiting unit
module _ (sort place a : ℕ) (ps vs o : List ℤ) (few : length ps ≤ 5) (fits : length vs ≤ 16) where
  abbrev cs : List ℤ
  cs = unit_of sort place a ps vs

  long : length cs ≡ 24
  long = unit_length sort place a ps vs few fits

  pub put_short : length o < 24 → Is (cells.running cs) (Running 1) o
  unfolding Is
  put_short h = record { units = 1; size = long; count = refl; wrote = λ _ room. absurd (omega (arith, long)) }

  pub put_long : 24 ≤ length o → {u : List ℤ} → u ≡ cs
      → Is (cells.running cs) (Running 1) (put_mid (length o - 24) (length o - (length o - 24)) o u)
  unfolding Is
  put_long h {u} e = rw (tail_put (length o - 24) o u (omega arith), e) (record {
    units = 1;
    size = long;
    count = refl;
    wrote = λ _ room.
        let l : length (take (length o - 24) o) ≡ length o - 24 = length-take-le (length o - 24) o (omega arith) in
        drop_at (take (length o - 24) o) cs (length (take (length o - 24) o ++ cs) - length cs)
        (omega (arith, length-append (take (length o - 24) o) cs));
  })

-- ---- what an answer says
module _ (o : List ℤ) where
  pub is_done : (x : cells.Reduced) → Is x Done o → x ≡ cells.done
  unfolding Is
  is_done cells.done h = refl
  is_done (cells.breach u c) h = absurd h
  is_done (cells.running cs) h = absurd h

  pub is_breach : (x : cells.Reduced) (b : Broken) → Is x (Breach b) o → (u : ℕ) × (x ≡ cells.breach u b.parties)
      × (b.time ≡ pos u)
  unfolding Is
  is_breach cells.done b h = absurd h
  is_breach (cells.breach u c) b h = (u, ap (cells.breach u) (sym h.1), h.0)
  is_breach (cells.running cs) b h = absurd h

  pub is_running : (x : cells.Reduced) {n : ℕ} → Is x (Running n) o → (cs : List ℤ) × (x ≡ cells.running cs)
      × Stands cs n o
  unfolding Is
  is_running cells.done h = absurd h
  is_running (cells.breach u c) h = absurd h
  is_running (cells.running cs) h = (cs, refl, h)

-- ---- two breaches, by their times
module _ {t u : ℤ} {x y : ℕ} (e : t ≡ pos x) (f : u ≡ pos y) where
  pub before : t <ℤ u → x < y
  before h = ltb-true x y (T→true (ltb x y) (rw (e, f) at h).lt)

  pub at_once : t ≡ u → x ≡ y
  at_once h = let z : pos x ≡ pos y = sym e ∙ h ∙ f in cc

-- ---- two residues
module _ (n m : ℕ) (o : List ℤ) (ls rs : List ℤ)
    (sl : Stands ls n (take (length o - 24 * m) o)) (sr : Stands rs m o) where
  -- one below the other
  below : 1 + n + m ≤ 128 → 24 * (n + m) + 24 ≤ length o
      → (drop (length o - 24 * (n + m)) o ≡ ls ++ rs) × (n ≡ sl.units) × (m ≡ sr.units)
  below few room =
      let f = length o - 24 * m in
      let lf : length (take f o) ≡ f = length-take-le f o (omega arith) in
      let en : n ≡ sl.units = omega (arith, sl.count) in
      let em : m ≡ sr.units = omega (arith, sr.count) in
      let er : length rs ≡ 24 * m = omega (arith, sr.size) in
      let el : length ls ≡ 24 * n = omega (arith, sl.size) in
      let right : drop f o ≡ rs = ap (λ k. drop k o) (ap (λ k. length o - k) (sym er))
      ∙ sr.wrote (omega arith) (omega arith) in
      let e : length o - 24 * (n + m) ≡ length (take f o) - length ls = omega arith in
      let left : drop (length o - 24 * (n + m)) (take f o) ≡ ls = ap (λ k. drop k (take f o)) e
      ∙ sl.wrote (omega arith) (omega arith) in
      let i : length o - 24 * (n + m) ≤ length (take f o) = omega arith in (
        ap (drop (length o - 24 * (n + m))) (sym (take-append-drop f o))
            ∙ drop-append-le (length o - 24 * (n + m)) (take f o) (drop f o) i ∙ ap (λ k. k ++ drop f o) left
            ∙ ap (λ k. ls ++ k) right,
        en,
        em,
      )

  -- the join's unit below both
  joins : (hs o' : List ℤ) → length hs ≡ 24 → 1 + n + m ≤ 128 → 24 * (n + m) + 24 ≤ length o
      → o' ≡ take (length o - 24 * (n + m) - 24) o ++ (hs ++ drop (length o - 24 * (n + m)) o)
      → Stands (hs ++ (ls ++ rs)) (1 + n + m) o'
  joins hs o' lh few room e =
      let w = below few room in
      let to = length o - 24 * (n + m) in
      let e' : o' ≡ take (to - 24) o ++ (hs ++ (ls ++ rs)) = e ∙ ap (λ k. take (to - 24) o ++ (hs ++ k)) w.0 in
      let lt : length (take (to - 24) o) ≡ to - 24 = length-take-le (to - 24) o (omega arith) in
      let lc : length (hs ++ (ls ++ rs)) ≡ 24 * (1 + sl.units + sr.units) = simp length-append
      (omega (arith, sl.size, sr.size)) in
      record {
        units = 1 + sl.units + sr.units;
        size = lc;
        count = omega (arith, w.1, w.2);
        wrote = λ _ _. rw e' (drop_at (take (to - 24) o) (hs ++ (ls ++ rs))
            (length (take (to - 24) o ++ (hs ++ (ls ++ rs))) - length (hs ++ (ls ++ rs)))
            (omega (arith, length-append (take (to - 24) o) (hs ++ (ls ++ rs)))));
      }

  -- or there is no room, in a table or in `o`
  overflows : (hs : List ℤ) → length hs ≡ 24 → (n + m < 128 → length o < 24 * (n + m) + 24)
      → Stands (hs ++ (ls ++ rs)) (min (1 + n + m) 129) o
  overflows hs lh full =
      let lc : length (hs ++ (ls ++ rs)) ≡ 24 * (1 + sl.units + sr.units) = simp length-append
      (omega (arith, sl.size, sr.size)) in
      record {
        units = 1 + sl.units + sr.units;
        size = lc;
        count = counts n m sl.units sr.units sl.count sr.count;
        wrote = λ few room.
            absurd (omega (arith, sl.count, sr.count, full (omega (arith, sl.count, sr.count, few))));
      }
    where
      counts : (n m a b : ℕ) → n ≡ min a 129 → m ≡ min b 129 → min (1 + n + m) 129 ≡ min (1 + a + b) 129
      counts n m a b e f = omega arith

joined_running : (j : syntax.Join) (ls rs : List ℤ)
    → cells.joined j (cells.running ls) (cells.running rs) ≡ cells.running (join_cells j ++ (ls ++ rs))
unfolding cells.joined cells.join_both cells.join_either
joined_running and ls rs = refl
joined_running or ls rs = refl

head_is : (kind : Join) → padded 24 (to_z w64 (join_number kind) ∷ []) ≡ join_cells (join_in kind)
unfolding join_cells csl.join_number
head_is And = refl
head_is Or = refl

module _ (kind : Join) (n m : ℕ) (o : List ℤ) where
  -- what is known of two sides
  side_counts : {cs : List ℤ} {k : ℕ} {out : List ℤ} → Stands cs k out → k ≤ 129
  side_counts s = omega (arith, s.count)

  -- h is what `fill` made of the join's 24 cells
  pub join_put : {u from k : ℕ} {h : List ℤ} → u ≡ 1 + n + m → u ≤ 128 → 24 * u ≤ length o
      → from ≡ length o - 24 * u → k ≡ 24
      → h ≡ padded (length (take k (drop from o))) (to_z w64 (join_number kind) ∷ [])
      → JoinIs (join_in kind) (Running n) (Running m) o (Running u) (put_mid from k o h)
  unfolding Is room_left
  join_put {u} {from} {k} {h} eu few room ef ek e = record {
    is = λ left right s.
        let x = is_running (take (length o - 24 * m) o) left s.of_left in
        let y = is_running o right s.of_right in
        let to = length o - 24 * (n + m) in
        let at : from ≡ to - 24 = omega (arith, eu, ef, room) in
        let size : k ≡ to - (to - 24) = omega (arith, eu, ek, room) in
        let l : length (take k (drop from o)) ≡ 24 = simp (length-take, length-drop)
        (omega (arith, eu, ef, ek, room)) in
        let eh : h ≡ join_cells (join_in kind) = e ∙ ap (λ j. padded j (to_z w64 (join_number kind) ∷ [])) l
        ∙ head_is kind in
        rw (x.1, y.1, joined_running (join_in kind) x.0 y.0, eu)
        (joins n m o x.0 y.0 x.2 y.2 (join_cells (join_in kind))
        (put_mid from k o h) (length_join (join_in kind)) (omega (arith, eu, few)) (omega (arith, eu, room))
        (ap₂ (λ i j. put_mid i j o h) at size ∙ part_put (to - 24) to o h (omega arith)
        ∙ ap (λ j. take (to - 24) o ++ (j ++ drop to o)) eh));
  }

  pub join_full : {c : ℕ}
      → (n ≤ 129 → m ≤ 129 → (n + m < 128 → length o < 24 * (n + m) + 24) × (c ≡ min (1 + n + m) 129))
      → JoinIs (join_in kind) (Running n) (Running m) o (Running c) o
  unfolding Is room_left
  join_full full = record {
    is = λ left right s.
        let x = is_running (take (length o - 24 * m) o) left s.of_left in
        let y = is_running o right s.of_right in
        let f = full (side_counts x.2) (side_counts y.2) in
        rw (x.1, y.1, joined_running (join_in kind) x.0 y.0, f.1)
        (overflows n m o x.0 y.0 x.2 y.2 (join_cells (join_in kind))
        (length_join (join_in kind)) f.0);
  }

-- ---- each return of `join_both` and `join_either`
-- where the right side is no residue, the left side's cells stand at the end of o
whole : {l : Reduced} {n k : ℕ} (o : List ℤ) → l ≡ Running n → k ≡ length o → (x : cells.Reduced) → Is x l (take k o)
    → Is x (Running n) o
whole o e f x h = rw (f, e, take-length) at h

both_done_right : (x : cells.Reduced) → cells.joined and x cells.done ≡ x
unfolding cells.joined cells.join_both
both_done_right cells.done = refl
both_done_right (cells.breach t b) = refl
both_done_right (cells.running cs) = refl

either_done_right : (x : cells.Reduced) → cells.joined or x cells.done ≡ cells.done
unfolding cells.joined cells.join_either
either_done_right cells.done = refl
either_done_right (cells.breach t b) = refl
either_done_right (cells.running cs) = refl

module _ {l r : Reduced} (o : List ℤ) where
  pub both_done : l ≡ Done → JoinIs and l r o r o
  unfolding cells.joined cells.join_both
  both_done e = record {
    is = λ x y s. rw (is_done (take (room_left r (length o)) o) x (rw e at s.of_left))
        s.of_right;
  }

  pub either_done : l ≡ Done → JoinIs or l r o Done o
  unfolding Is cells.joined cells.join_either
  either_done e = record { is = λ x y s. rw (is_done (take (room_left r (length o)) o) x (rw e at s.of_left)) tt }

  pub both_beside_done : r ≡ Done → JoinIs and l r o l o
  unfolding room_left cells.joined cells.join_both
  both_beside_done e = record {
    is = λ x y s. rw (is_done o y (rw e at s.of_right), both_done_right x)
        (rw (e, take-length) at s.of_left);
  }

  pub either_beside_done : r ≡ Done → JoinIs or l r o Done o
  unfolding Is cells.joined cells.join_either
  either_beside_done e = record { is = λ x y s. rw (is_done o y (rw e at s.of_right), either_done_right x) tt }

  module _ {b : Broken} (e : l ≡ Breach b) where
    pub both_breach_running : {m : ℕ} → r ≡ Running m → JoinIs and l r o l o
    unfolding Is cells.joined cells.join_both
    both_breach_running f = record {
      is = λ x y s.
          let p = is_breach (take (room_left r (length o)) o) x _ (rw e at s.of_left) in
          rw (p.1, (is_running o y (rw f at s.of_right)).1, e) (p.2, refl);
    }

    pub both_breaches : {c a : Broken} → r ≡ Breach c → BreachIs cells.earlier b c a → JoinIs and l r o (Breach a) o
    unfolding Is cells.joined cells.join_both
    both_breaches f g = record {
      is = λ x y s.
          let p = is_breach (take (room_left r (length o)) o) x _ (rw e at s.of_left) in
          let q = is_breach o y _ (rw f at s.of_right) in
          rw (p.1, q.1) (g.is p.0 q.0 p.2 q.2 o);
    }

    pub either_breach_running : {m : ℕ} → r ≡ Running m → JoinIs or l r o r o
    unfolding cells.joined cells.join_either
    either_breach_running f = record {
      is = λ x y s.
          let p = is_breach (take (room_left r (length o)) o) x _ (rw e at s.of_left) in
          let q = is_running o y (rw f at s.of_right) in
          rw (p.1, q.1) (rw q.1 at s.of_right);
    }

    pub either_breaches : {c a : Broken} → r ≡ Breach c → BreachIs cells.later b c a → JoinIs or l r o (Breach a) o
    unfolding Is cells.joined cells.join_either
    either_breaches f g = record {
      is = λ x y s.
          let p = is_breach (take (room_left r (length o)) o) x _ (rw e at s.of_left) in
          let q = is_breach o y _ (rw f at s.of_right) in
          rw (p.1, q.1) (g.is p.0 q.0 p.2 q.2 o);
    }

  module _ {n : ℕ} (e : l ≡ Running n) where
    pub both_running_breach : {c : Broken} → r ≡ Breach c → JoinIs and l r o r o
    unfolding cells.joined cells.join_both
    both_running_breach f = record {
      is = λ x y s.
          let p = is_running (take (room_left r (length o)) o) x (rw e at s.of_left) in
          let q = is_breach o y _ (rw f at s.of_right) in
          rw (p.1, q.1) (rw q.1 at s.of_right);
    }

    pub either_running_breach : {c : Broken} → r ≡ Breach c → JoinIs or l r o l o
    unfolding Is room_left cells.joined cells.join_either
    either_running_breach f = record {
      is = λ x y s.
          let h = whole o e (ap (λ a. room_left a (length o)) f) x s.of_left in
          let p = is_running o x h in
          rw (p.1, (is_breach o y _ (rw f at s.of_right)).1, e) p.2;
    }

-- ---- what is left for the left side
pub room_left_lem : {r : Reduced} {m k : ℕ} (len : ℕ) → r ≡ Running m → k ≡ len - 24 * m → k ≡ room_left r len
unfolding room_left
room_left_lem len e f = rw e f

pub room_whole : (r : Reduced) (len : ℕ) → ((n : ℕ) → r ≡ Running n → ⊥) → len ≡ room_left r len
unfolding room_left
room_whole Done len h = refl
room_whole (Breach b) len h = refl
room_whole (Running n) len h = absurd (h n refl)
