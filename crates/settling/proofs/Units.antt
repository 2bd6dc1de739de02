-- Laws of units that are compared and written one after another.
use mathlib.Core.Path.{◌≡◌, refl, sym, ap, ap₂, ◌∙◌}
use mathlib.Core.Bool.{Bool, true, false, not, cond, ◌&&◌, ◌||◌}
use mathlib.Core.List.{List, [], ◌∷◌, ◌++◌, append-nil, append_assoc}
use Prim.Native.Nat.{ℕ, ◌+◌, ◌-◌, ◌*◌, ◌≤◌}
use native.Mathlib.Omega.{arith}
use Rattle.std.specs.Bool.{Decides}
use lib.IntN.{ℤ, pos}
use lib.Dec.{eqb, eqb→eq, eqb_refl}
use lib.ListN.{get_or-append, length, get_or, take, drop, replicate, length-append, length-drop}
use lib.ListN.{length-take}
use lib.Seq.{drop_at, drop-length, get_or-take, take-add, take_all, take_at, length-take-le}
use borrow.Rule.Slice.PartMut.{put_mid}
use Rattle.arith.proofs.Lists.{tail_put}
use Rattle.csl.specs.Run.{same_numbers}
use Rattle.csl.specs.Table.{padded}
use Rattle.settling.specs.Settles.{gone_on, other_units}
use Rattle.laws.proofs.Bools.{T→true, by_test, true_not_false, true→T}
use Rattle.laws.proofs.Sameness.{same_append, same_are, same_not, same_self}

-- ---- whether something has altered: before, or in these cells
abbrev pub altered_in : Bool → List ℤ → List ℤ → Bool
altered_in altered cells unit = altered || not (same_numbers cells unit)

-- csl's test decides whether two lists are one
pub sameness : (cells unit : List ℤ) → Decides (same_numbers cells unit) (cells ≡ unit)
sameness cells unit = (same_are cells unit, λ q. rw q (same_self unit))

-- ---- cells that are copied to as many
pub copied_whole : (s d : List ℤ) → length s ≡ length d → s ++ drop (length s) d ≡ s
copied_whole s d e = rw (e, drop-length, append-nil)

-- ---- unit by unit
or_and : (a b c : Bool) → ((a || not b) || not c) ≡ (a || not (b && c))
or_and true b c = refl
or_and false true c = refl
or_and false false c = refl

pub altered_none : (known : Bool) → known ≡ altered_in known [] []
unfolding same_numbers
altered_none true = refl
altered_none false = refl

-- the cells from n to m, where those before them are written
pub altered_more : (n m : ℕ) (residue units : List ℤ) (known : Bool) {now : List ℤ} {altered r : Bool} → n ≤ m
    → m ≤ length residue → m ≤ length units → now ≡ take n residue ++ drop n units
    → altered ≡ altered_in known (take n residue) (take n units)
    → r ≡ altered_in altered (take (m - n) (drop n residue)) (take (m - n) (drop n now))
    → r ≡ altered_in known (take m residue) (take m units)
altered_more n m residue units known h hr hu w a e =
    let front : length (take n residue) ≡ n = length-take-le n residue (omega arith) in
    let l : length (take n residue) ≡ length (take n units) = front ∙ sym (length-take-le n units (omega arith)) in
    let rest = ap (drop n) w ∙ drop_at (take n residue) (drop n units) n front in
    let sum : n + (m - n) ≡ m = omega arith in
    e ∙ ap₂ (λ b xs. b || not (same_numbers (take (m - n) (drop n residue)) (take (m - n) xs))) a rest
    ∙ or_and known (same_numbers (take n residue) (take n units)) _
    ∙ ap (λ b. known || not b) (sym (same_append (take n residue) (take n units) _ _ l)
    ∙ ap₂ same_numbers (sym (take-add n (m - n) residue)) (sym (take-add n (m - n) units)))
    ∙ ap (λ k. altered_in known (take k residue) (take k units)) sum

-- ---- a table whose units are written, with zeros behind them
tail_is : (a k : ℕ) (t u : List ℤ) → length t ≡ a + k → put_mid a k t u ≡ take a t ++ u
tail_is a k t u l =
    let m : k ≡ length t - a = omega (arith, l) in ap (λ i. put_mid a i t u) m ∙ tail_put a t u (omega (arith, l))

module _ (n : ℕ) (residue t : List ℤ) (long : length t ≡ 3080) (size : length residue ≡ 24 * n) (few : n ≤ 128)
    (u v : List ℤ) (put : u ≡ residue ++ drop (length residue) (take 3072 (drop 8 t))) where
  behind : take 3072 (drop 8 t) ≡ drop 8 t
  behind = take_all 3072 (drop 8 t) (rw (length-drop 8 t) (omega arith))

  abbrev written : List ℤ
  written = put_mid 8 3072 t u

  written_is : written ≡ (take 8 t ++ residue) ++ drop (length residue) (drop 8 t)
  written_is = tail_is 8 3072 t u long
      ∙ ap (λ x. take 8 t ++ x) (put ∙ ap (λ x. residue ++ drop (length residue) x) behind)
      ∙ sym (append_assoc (take 8 t) residue (drop (length residue) (drop 8 t)))

  front : length (take 8 t ++ residue) ≡ 8 + 24 * n
  front = length-append (take 8 t) residue ∙ omega (arith, length-take-le 8 t (omega arith))

  written_long : length written ≡ 3080
  written_long = ap length written_is ∙ length-append (take 8 t ++ residue) _
      ∙ omega (arith, front, length-drop (length residue) (drop 8 t), length-drop 8 t)

  abbrev rest : ℕ
  rest = 3080 - (8 + 24 * n)

  module _ (zeros : v ≡ replicate (length (take rest (drop (8 + 24 * n) written))) (pos 0)) where
    abbrev whole : List ℤ
    whole = put_mid (8 + 24 * n) rest written v

    cleared : v ≡ replicate (3072 - 24 * n) (pos 0)
    cleared =
        let m : length (take rest (drop (8 + 24 * n) written)) ≡ 3072 - 24 * n =
        omega (arith, written_long, length-take rest (drop (8 + 24 * n) written), length-drop (8 + 24 * n) written)
        in zeros ∙ ap (λ k. replicate k (pos 0)) m

    whole_is : whole ≡ (take 8 t ++ residue) ++ replicate (3072 - 24 * n) (pos 0)
    whole_is = tail_is (8 + 24 * n) rest written v (omega (arith, written_long))
        ∙ ap₂ ◌++◌ (ap (take (8 + 24 * n)) written_is ∙ take_at (take 8 t ++ residue) _ (8 + 24 * n) front) cleared

    whole_units : drop 8 whole ≡ residue ++ replicate (3072 - 24 * n) (pos 0)
    whole_units = ap (drop 8) (whole_is ∙ append_assoc (take 8 t) residue _)
        ∙ drop_at (take 8 t) _ 8 (length-take-le 8 t (omega arith))

    -- the head is as it was
    whole_moved : get_or whole 5 (pos 0) ≡ get_or t 5 (pos 0)
    whole_moved = ap (λ x. get_or x 5 (pos 0)) (whole_is ∙ append_assoc (take 8 t) residue _)
        ∙ get_or-append (take 8 t) _ (pos 0) 5 (omega (arith, length-take-le 8 t (omega arith)))
        ∙ get_or-take 8 t 5 (pos 0) (omega arith)

-- ---- when the run last moved
-- other units in use have altered, whatever their cells
altered_is : (n used : ℕ) (residue t : List ℤ) → length t ≡ 3080 → length residue ≡ 24 * n → used ≤ 128
    → {altered : Bool} → altered ≡ altered_in (not (eqb n used)) residue (take (24 * n) (drop 8 t))
    → altered ≡ other_units used residue t
unfolding other_units
altered_is n used residue t long size few e = by_test (eqb n used)
    (λ q. let same : n ≡ used = eqb→eq n used (true→T q) in
    e ∙ ap (λ b. altered_in (not b) residue (take (24 * n) (drop 8 t))) q
    ∙ ap (λ k. not (same_numbers residue (take (24 * k) (drop 8 t)))) same)
    (λ q. e ∙ ap (λ b. altered_in (not b) residue (take (24 * n) (drop 8 t))) q
    ∙ ap not (sym (same_not residue (take (24 * used) (drop 8 t)) (λ r. other q r))))
  where
    other : eqb n used ≡ false → residue ≡ take (24 * used) (drop 8 t) → ⊥
    other q r =
        let l : 24 * n ≡ 24 * used = sym size ∙ ap length r
        ∙ length-take-le (24 * used) (drop 8 t) (rw (length-drop 8 t) (omega arith)) in
        let k : n ≡ used = omega arith in
        true_not_false (T→true (eqb n used) (rw k (eqb_refl used))) q

-- ---- all of it: units, zeros, when the run last moved, and the head
module _ (used n : ℕ) (residue t : List ℤ) (long : length t ≡ 3080) (size : length residue ≡ 24 * n) (few : n ≤ 128)
    (few' : used ≤ 128) (u v : List ℤ) (put : u ≡ residue ++ drop (length residue) (take 3072 (drop 8 t)))
    (zeros : v ≡ replicate (length (take (3080 - (8 + 24 * n)) (drop (8 + 24 * n) (put_mid 8 3072 t u)))) (pos 0))
    {altered : Bool} (a : altered ≡ altered_in (not (eqb n used)) residue (take (24 * n) (take 3072 (drop 8 t)))) where
  abbrev two : List ℤ
  two = put_mid (8 + 24 * n) (3080 - (8 + 24 * n)) (put_mid 8 3072 t u) v

  pub gone_altered : altered ≡ other_units used residue t
  gone_altered = altered_is n used residue t long size few' (rw (behind n residue t long size few u v put) at a)

  -- z is `time` as the program reads it
  gone_on_lem : {time z moved cell : ℤ} {left : List ℤ} → z ≡ time
      → moved ≡ cond altered z (get_or two 5 (pos 0)) → cell ≡ pos n
      → left ≡ (pos 1 ∷ time ∷ pos 0 ∷ pos 0 ∷ cell ∷ moved ∷ pos 0 ∷ pos 0 ∷ []) ++ drop 8 two
      → left ≡ gone_on time used n residue t
  unfolding gone_on padded
  gone_on_lem {time = time} r m c e =
      let moved-too = m ∙ ap₂ (cond altered) r (whole_moved n residue t long size few u v put zeros)
      ∙ ap (λ b. cond b time (get_or t 5 (pos 0))) gone_altered in
      let rest : 3072 - 24 * n ≡ 3080 - length (replicate 8 (pos 0) ++ residue) = omega arith in
      rw (c, moved-too, whole_units n residue t long size few u v put zeros, rest) at e

  pub headed_lem : {time z moved cell : ℤ} {head : List ℤ} → z ≡ time
      → moved ≡ cond altered z (get_or two 5 (pos 0)) → cell ≡ pos n
      → head ≡ pos 1 ∷ time ∷ pos 0 ∷ pos 0 ∷ cell ∷ moved ∷ pos 0 ∷ pos 0 ∷ []
      → put_mid 0 8 two head ≡ gone_on time used n residue t
  headed_lem r m c e = gone_on_lem r m c (ap (λ h. h ++ drop 8 two) e)
