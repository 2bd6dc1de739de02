-- Laws of waits: their windows, what a reading makes of them, and the values in sight.
use mathlib.Core.Path.{◌≡◌, refl, sym, ap, ap₂, ◌∙◌}
use mathlib.Core.Bool.{Bool, true, false, cond, ◌&&◌}
use mathlib.Core.List.{List, ◌++◌}
use Prim.Native.Nat.{ℕ, ◌+◌, ◌-◌, ◌^◌, ◌≤◌, ◌<◌, min, max}
use native.Mathlib.Omega.{arith}
use native.Mathlib.Decide.{dec_le}
use lib.IntN.{ℤ, pos, negsuc, nat_abs, ◌+ℤ◌, ◌-ℤ◌}
use lib.Dec.{T, ltb}
use lib.Signed.{mag, lt_z, non_neg}
use lib.ListN.{length}
use borrow.Author.Tests.{eq-eqb, ne_eqb, ltb-true, ltb-false}
use mir.Syntax.{w64}
use mir.Val.{Fits, SFits, to_z}
use Rattle.laws.proofs.Timings.{timing_late, timing_early, timing_on_time}
use Rattle.arith.specs.Near.{Near}
use Rattle.arith.proofs.Ints.{seen, read, read!, abs_minus, small}
use Rattle.arith.proofs.Numbers.{sizes, held_fits, later_size}
use Rattle.csl.specs.Numbers.{Held, later_of}
use Rattle.csl.specs.Bytes.{le16, part, record_end}
use Rattle.csl.specs.Syntax.{Wait}
use Rattle.csl.specs.Decode.{expr, wait_at}
use Rattle.cells.specs.Evaluate.{eval_cells, is_true_cell}
use Rattle.csl.specs.Rules as rules
use Rattle.csl.specs.Rules.{timing}
use Rattle.cells.specs.Reduce as cells
use Rattle.cells.specs.Reduce.{activating, forecasting, following, first_of, last_of, window_of, takes, opens_later}
use Rattle.cells.specs.Reduce.{fate}
use Rattle.residues.specs.Reduces.{farthest}
use denote.Ref.{Bor}
use Rattle.readings.specs.declared.reading.Reading.{Reading}
use Rattle.waits.specs.Fates.{WindowIs, FateIs, timing_is, condition_of, mode_of}
use Rattle.waits.specs.declared.Window.{Window}
use Rattle.waits.specs.declared.Timing.{Timing}
use Rattle.waits.specs.declared.Timing.TheVariants.{Early, OnTime, Late as tooLate}
use Rattle.waits.specs.declared.Fate.TheVariants.{Waits, Late, Taken}
use Rattle.residues.proofs.Cells.{cell_of_lem}

-- ---- sizes
pub time_size : (n : ℕ) → n ≤ farthest → nat_abs (to_z w64 n) ≡ n
time_size n h = ap nat_abs (cell_of_lem n h)

-- ---- a window
module _ (vs : List ℤ) (s : List ℕ) (i a d : ℕ) (h : a ≤ farthest) {b c : ℕ} (eb : b ≡ record_end s (i + 1))
    (ec : c ≡ record_end s b) where
  pub first_is : {r : ℤ} → mag r < 2 ^ 63 → r ≡ to_z w64 a +ℤ eval_cells vs (expr d (part s b c))
      → (p : ℕ) → seen r ≡ first_of vs a (wait_at (expr d) p s i)
  unfolding first_of wait_at
  first_is fr hr p = read! fr ∙ hr ∙ rw (cell_of_lem a h, ec, eb)

  pub window_is : {e : ℕ} → e ≡ record_end s c → (p : ℕ) → {r q : ℤ} → mag r < 2 ^ 63
      → r ≡ first_of vs a (wait_at (expr d) p s i) → Near (a + 1_000_000_000) r → mag q < 2 ^ 63
      → (q ≡ seen r +ℤ eval_cells vs (expr d (part s c e))) × Near (nat_abs (seen r) + 1_000_000_000) q
      → WindowIs vs a (wait_at (expr d) p s i) (record { first = seen r; last = seen q })
  unfolding last_of wait_at
  window_is ee p {r} {q} fr er hr fq hq =
      let eq : seen q ≡ seen r +ℤ eval_cells vs
      (expr d (part s (record_end s (record_end s (i + 1))) (record_end s (record_end s (record_end s (i + 1)))))) =
      read! fq ∙ hq.0 ∙ rw (ee, ec, eb) in
      record { first = read! fr ∙ er; last = eq ∙ rw (read! fr ∙ er); near = omega sizes }

-- ---- the window test, as the machine has it
module _ (w : Window) (t : ℕ) (ht : t ≤ farthest) (fl : mag w.last < 2 ^ 63) where
  abbrev seen_as : rules.Window
  seen_as = record { first = w.first; last = w.last }

  last_test : {b : Bool} → lt_z (seen w.last) (to_z w64 t) ≡ b → lt_z w.last (pos t) ≡ b
  last_test h = rw (read! fl, cell_of_lem t ht) at h

  pub tested_late : lt_z (seen w.last) (to_z w64 t) ≡ true → rules.late ≡ timing seen_as t
  tested_late h = sym (timing_late seen_as t (last_test h))

  module _ (h : lt_z (seen w.last) (to_z w64 t) ≡ false) (ff : mag w.first < 2 ^ 63) where
    first_test : {b : Bool} → lt_z (to_z w64 t) (seen w.first) ≡ b → lt_z (pos t) w.first ≡ b
    first_test g = rw (read! ff, cell_of_lem t ht) at g

    pub tested_early : lt_z (to_z w64 t) (seen w.first) ≡ true → rules.early ≡ timing seen_as t
    tested_early g = sym (timing_early seen_as t (last_test h) (first_test g))

    pub tested_on_time : lt_z (to_z w64 t) (seen w.first) ≡ false → rules.on_time ≡ timing seen_as t
    tested_on_time g = sym (timing_on_time seen_as t (last_test h) (first_test g))

-- ---- what a reading makes of a wait
module _ (vs rs : List ℤ) (a t k : ℕ) (w : Wait) {r : Window} (x : WindowIs vs a w r) (q : Timing)
    (is : timing_is q ≡ timing (record { first = r.first; last = r.last }) t) where
  abbrev by_timing : rules.Timing → cells.Fate
  by_timing v = elim v [
    | rules.late ↦ cells.late
    | rules.on_time ↦ cond (takes vs w k rs) cells.taken cells.waits
    | rules.early ↦ cells.waits
  ]

  fated : {v : Timing} → q ≡ v → fate (following t k rs) vs a w ≡ by_timing (timing_is v)
  unfolding fate window_of
  fated e = ap by_timing (sym (ap timing_is (sym e) ∙ is
      ∙ ap₂ (λ first last. timing (record { first = first; last = last }) t) x.first x.last))

  pub follow_early : q ≡ Early → FateIs (following t k rs) vs a w Waits
  unfolding FateIs
  follow_early e = fated e

  module _ (fl : mag r.last < 2 ^ 63) where
    near_is : (seen r.last ≡ last_of vs a w) × Near (a + 2_000_000_000) (seen r.last)
    near_is = (read! fl ∙ x.last, rw (read! fl) x.near)

    pub follow_late : q ≡ tooLate → FateIs (following t k rs) vs a w (Late (seen r.last))
    unfolding FateIs
    follow_late e = (fated e, near_is.0, near_is.1)

    module _ (e : q ≡ OnTime) {b : ℕ} (eb : b ≡ w.wanted) where
      pub follow_other : (b ≡ k → ⊥) → FateIs (following t k rs) vs a w Waits
      unfolding FateIs takes
      follow_other n = fated e ∙ rw (ne_eqb w.wanted k (λ q. n (eb ∙ q))) refl

      module _ (ek : b ≡ k) {u : Bool} (eu : u ≡ is_true_cell (eval_cells (vs ++ rs) w.condition)) where
        pub follow_taken : (d : Bor Reading) → following t k rs ≡ mode_of d.now → u ≡ true
            → FateIs (following t k rs) vs a w (Taken d (seen r.last))
        unfolding FateIs takes
        follow_taken d m q = (
          fated e ∙ rw (eq-eqb w.wanted k (sym eb ∙ ek), sym eu ∙ q) refl,
          near_is.0,
          near_is.1,
          m,
        )

        pub follow_false : u ≡ false → FateIs (following t k rs) vs a w Waits
        unfolding FateIs takes
        follow_false q = fated e ∙ rw (eq-eqb w.wanted k (sym eb ∙ ek), sym eu ∙ q) refl

-- ---- whether a wait opens later than a reading that it wants
and_false : (b : Bool) → (b && false) ≡ false
and_false true = refl
and_false false = refl

and_true : (b : Bool) → (b && true) ≡ b
and_true true = refl
and_true false = refl

module _ (vs rs : List ℤ) (a t k : ℕ) (w : Wait) {b : ℕ} (eb : b ≡ w.wanted) where
  pub later_other : (b ≡ k → ⊥) → false ≡ opens_later vs a w t k rs
  unfolding opens_later takes
  later_other n = rw (ne_eqb w.wanted k (λ q. n (eb ∙ q))) refl

  module _ (ek : b ≡ k) (ht : t ≤ farthest) {f : ℤ} (ef : f ≡ first_of vs a w) (ff : mag f < 2 ^ 63) where
    first_seen : {b : Bool} → lt_z (to_z w64 t) (seen f) ≡ b → lt_z (pos t) (first_of vs a w) ≡ b
    first_seen g = rw (read! ff, cell_of_lem t ht, ef) at g

    pub later_not : lt_z (to_z w64 t) (seen f) ≡ false → false ≡ opens_later vs a w t k rs
    unfolding opens_later takes
    later_not g = sym (ap (λ c. takes vs w k rs && c) (first_seen g) ∙ and_false (takes vs w k rs))

    pub later_holds : lt_z (to_z w64 t) (seen f) ≡ true → {u : Bool}
        → u ≡ is_true_cell (eval_cells (vs ++ rs) w.condition) → u ≡ opens_later vs a w t k rs
    unfolding opens_later takes
    later_holds g {u} eu = eu ∙ sym (ap₂ (λ b c. b && is_true_cell (eval_cells (vs ++ rs) w.condition) && c)
        (eq-eqb w.wanted k (sym eb ∙ ek)) (first_seen g) ∙ and_true _)

-- ---- what is not followed
module _ (vs : List ℤ) (a : ℕ) (w : Wait) where
  pub becomes_waiting : FateIs activating vs a w Waits
  unfolding FateIs fate
  becomes_waiting = refl

  pub becomes_late : {l : ℤ} → l ≡ last_of vs a w → Near (a + 2_000_000_000) l → mag l < 2 ^ 63
      → FateIs forecasting vs a w (Late (seen l))
  unfolding FateIs fate
  becomes_late e n f = (refl, read! f ∙ e, rw (read! f) n)

-- ---- the condition
pub clamped : (s : List ℕ) (i : ℕ) {a b : ℕ} → a ≡ min i (length s) → b ≡ record_end s i
    → part s a b ≡ part s i (record_end s i)
unfolding record_end
clamped s i {a} {b} ea eb = by_room (dec_le i (length s))
  where
    by_room : Dec (i ≤ length s) → part s a b ≡ part s i (min (i + le16 s i) (length s))
    by_room (yes h) = let e : a ≡ i = omega arith in rw (e, eb)
    by_room (no h) = let e : b - a ≡ 0 = omega arith in let f : min (i + le16 s i) (length s) - i ≡ 0 = omega arith in
        rw (e, f)

pub condition_is : (s : List ℕ) (i d : ℕ) {vs vs' : List ℤ} {a b : ℕ} {x : ℤ} {r : Bool} → a ≡ min (i + 1) (length s)
    → b ≡ record_end s (i + 1) → vs' ≡ vs → (x ≡ eval_cells vs' (expr d (part s a b))) × Held x
    → r ≡ is_true_cell (seen x)
    → r ≡ condition_of s i d vs
unfolding condition_of wait_at
condition_is s i d ea eb ev hx hr = hr ∙ ap is_true_cell
    (read (held_fits hx.1) ∙ hx.0 ∙ rw (ev, clamped s (i + 1) ea eb))

-- the minutes that were left
module _ (t : ℕ) (h : t ≤ farthest) {last : ℤ} (near : Near (farthest + 2_000_000_000) last) where
  pub minus_fits : SFits w64 (seen last -ℤ to_z w64 t)
  minus_fits = small (omega (sizes, abs_minus (seen last) (to_z w64 t), time_size t h))

  pub minus_is : SFits w64 last → seen (seen last -ℤ to_z w64 t) ≡ last -ℤ pos t
  minus_is f = read minus_fits ∙ rw (read f, cell_of_lem t h)

-- ---- the later of a time and a last minute, as the machine has it
module _ (a : ℕ) (h : a ≤ farthest) {last r : ℤ} (f : SFits w64 last) (g : mag r < 2 ^ 63)
    (e : r ≡ cond (lt_z (seen last) (to_z w64 a)) (to_z w64 a) (seen last)) where
  later_seen : seen r ≡ pos (later_of a last)
  unfolding later_of
  later_seen = read! g ∙ e ∙ rw (cell_of_lem a h, read f) (by_sign last)
    where
      by_order : (n : ℕ) (b : Bool) → ltb n a ≡ b → cond b (pos a) (pos n) ≡ pos (max a n)
      by_order n true q = ap pos (omega (arith, ltb-true n a q))
      by_order n false q = ap pos (omega (arith, ltb-false n a q))

      by_sign : (z : ℤ) → cond (lt_z z (pos a)) (pos a) z ≡ pos (later_of a z)
      by_sign (pos n) = by_order n (ltb n a) refl
      by_sign (negsuc n) = refl

  pub moved_is : Near (a + 2_000_000_000) last
      → (seen r ≡ pos (later_of a last)) × (later_of a last ≤ a + 2_000_000_000)
  moved_is w = (later_seen, omega (sizes, later_size a last))

-- what is moved so is a natural number
module _ (a n : ℕ) (h : a ≤ farthest) {r : ℤ} (g : mag r < 2 ^ 63) (e : (r ≡ pos n) × (n ≤ a + 2_000_000_000)) where
  natural_seen : seen r ≡ pos n
  natural_seen = read! g ∙ e.0

  pub natural_asked : T (non_neg (seen r)) × Fits w64 (nat_abs (seen r))
  natural_asked = rw natural_seen (tt, record { fits = omega (arith, e.1) })

  pub natural_is : (nat_abs (seen r) ≡ n) × (nat_abs (seen r) ≤ a + 2_000_000_000)
  natural_is = rw natural_seen (refl, e.1)
