-- A reading followed in two stages: what a clause gives by activating, beside what it gives by following a reading at
-- once, in outcome and in cost (`Staged`); `and` and `or` keep the two side by side (`join_staged`).
use mathlib.Core.Bool.{Bool, false, true}
use mathlib.Core.Logic.{inl, inr, ◌⊎◌}
use mathlib.Core.Path.{ap, ap₂, refl, sym, ◌∙◌, ◌≡◌}
use Prim.Native.Nat.{◌+◌, suc, ℕ}
use native.Mathlib.Omega.{arith}
use Rattle.csl.specs.Syntax.{Agreement, Join, and, or}
use Rattle.csl.specs.Outcomes.{Outcome, Residue, both, breach, done, join_both, join_either, joined, running, stuck}
use Rattle.csl.specs.Rules.{Reading, follow}
use Rattle.csl.specs.Reckoning as Open
use Rattle.csl.specs.Cost.{Tally, both_at_once, nothing_yet, one_more, tallies, tally_join}
use Rattle.soundness.proofs.Forecasts.{none_beside, stuck_left, stuck_right}

-- ---- tallies: y of following beside x of activating
-- fulfilled at once or not, as many activated, and so many further
pub record Counted (x y : Tally) (once : Bool) (n : ℕ) : Type 0 where
  pub is : y.at_once ≡ once
  pub same : y.activated ≡ x.activated
  pub more : y.further ≡ n

further_of : Bool → ℕ → ℕ → ℕ
further_of once l m = elim once [ true ↦ 0 | false ↦ l + m ]

counted_join : (j : Join) {x y x' y' : Tally} {b b' : Bool} {n n' : ℕ} → Counted x y b n → Counted x' y' b' n'
    → Counted (tally_join j x x') (tally_join j y y') (both_at_once j b b') (further_of (both_at_once j b b') n n')
unfolding tally_join further_of
counted_join j {y = y} {y' = y'} {b = b} {b' = b'} p q = record {
  is = ap₂ (both_at_once j) p.is q.is;
  same = ap₂ ◌+◌ p.same q.same;
  more = ap (λ z. further_of z y.further y'.further) (ap₂ (both_at_once j) p.is q.is)
      ∙ ap₂ (further_of (both_at_once j b b')) p.more q.more;
}

counted_more : {x y : Tally} {b : Bool} {m n : ℕ} → Counted x y b m → m ≡ n → Counted x y b n
counted_more c e = record { is = c.is; same = c.same; more = c.more ∙ e }

module _ (ag : Agreement) (r : Reading) where
  abbrev after : Residue → Tally
  after res = Open.follow tallies ag r res

  -- by activating x and o, by following y and p
  pub data Staged (x y : Tally) : Outcome → Outcome → Type 0 where
    -- fulfilled as soon as it is activated: nothing follows
    ended : Counted x y true 0 → Staged x y done done
    -- what waits follows the reading
    waiting : (res : Residue) → (after res).at_once ≡ false → Counted x y false (after res).further
        → Staged x y (running res) (follow ag r res)
    -- typing excludes it
    stopped : (o p : Outcome) → (o ≡ stuck) ⊎ (p ≡ stuck) → Staged x y o p

  pub more_staged : {x y : Tally} {o p : Outcome} → Staged x y o p → Staged (one_more x) (one_more y) o p
  unfolding one_more
  more_staged (ended c) = ended (record { is = c.is; same = ap suc c.same; more = c.more })
  more_staged (waiting res w c) = waiting res w (record { is = c.is; same = ap suc c.same; more = c.more })
  more_staged (stopped o p h) = stopped o p h

  pub done_staged : Staged (one_more (nothing_yet true)) (one_more (nothing_yet true)) done done
  unfolding one_more nothing_yet
  done_staged = ended (record { is = refl; same = refl; more = refl })

  -- ---- joins
  module _ (j : Join) (x y : Tally) (o p o' p' : Outcome) where
    left_stopped : (o ≡ stuck) ⊎ (p ≡ stuck) → Staged x y (joined j o o') (joined j p p')
    left_stopped (inl e) = stopped _ _ (inl (ap (λ z. joined j z o') e ∙ stuck_left j o'))
    left_stopped (inr e) = stopped _ _ (inr (ap (λ z. joined j z p') e ∙ stuck_left j p'))

    right_stopped : (o' ≡ stuck) ⊎ (p' ≡ stuck) → Staged x y (joined j o o') (joined j p p')
    right_stopped (inl e) = stopped _ _ (inl (ap (joined j o) e ∙ stuck_right j o))
    right_stopped (inr e) = stopped _ _ (inr (ap (joined j p) e ∙ stuck_right j p))

  -- fulfilled beside `or`: the other side is dropped, unless it is stuck
  or_ended : {x y : Tally} → Counted x y true 0 → (p : Outcome)
      → Staged x y done (joined or done p) × Staged x y done (joined or p done)
  unfolding joined join_either
  or_ended c done = (ended c, ended c)
  or_ended c (breach t ps) = (ended c, ended c)
  or_ended c (running l) = (ended c, ended c)
  or_ended c stuck = (stopped done stuck (inr refl), stopped done stuck (inr refl))

  both_waiting : (j : Join) (x y : Tally) (l m : Residue) → (after l).at_once ≡ false → (after m).at_once ≡ false
      → Counted x y false ((after l).further + (after m).further)
      → Staged x y (running (both j l m)) (follow ag r (both j l m))
  unfolding Open.follow Open.across tally_join one_more both_at_once further_of
  both_waiting j x y l m w v c = waiting (both j l m) once (counted_more c (sym further))
    where
      neither : (j : Join) → both_at_once j false false ≡ false
      neither and = refl
      neither or = refl

      once : (after (both j l m)).at_once ≡ false
      once = ap₂ (both_at_once j) w v ∙ neither j

      further : (after (both j l m)).further ≡ (after l).further + (after m).further
      further = ap (λ z. further_of z (after l).further (after m).further) once

  pub join_staged : (j : Join) {x y x' y' : Tally} {o p o' p' : Outcome} → Staged x y o p → Staged x' y' o' p'
      → Staged (tally_join j x x') (tally_join j y y') (joined j o o') (joined j p p')
  unfolding follow Open.follow Open.across joined join_both join_either both_at_once further_of
  join_staged j {o' = o'} {p' = p'} (stopped o p h) t = left_stopped j _ _ o p o' p' h
  join_staged j (ended c) (stopped o p h) = right_stopped j _ _ done done o p h
  join_staged j (waiting res w c) (stopped o p h) = right_stopped j _ _ (running res) (follow ag r res) o p h
  join_staged and (ended c) (ended d) = ended (counted_join and c d)
  join_staged or (ended c) (ended d) = ended (counted_join or c d)
  join_staged and (ended c) (waiting res w d) = waiting res w (counted_more (counted_join and c d) (omega arith))
  join_staged or (ended c) (waiting res w d) = (or_ended (counted_join or c d) (follow ag r res)).0
  join_staged and (waiting res w c) (ended d) = rw (none_beside (follow ag r res))
      (waiting res w (counted_more (counted_join and c d) (omega arith)))
  join_staged or (waiting res w c) (ended d) = (or_ended (counted_join or c d) (follow ag r res)).1
  join_staged and (waiting l w c) (waiting m v d) = both_waiting and _ _ l m w v (counted_join and c d)
  join_staged or (waiting l w c) (waiting m v d) = both_waiting or _ _ l m w v (counted_join or c d)
