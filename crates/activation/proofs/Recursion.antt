-- Laws for the recursion: what each activation within another is promised, that its weight falls, and what its answer
-- says of the whole.
use mathlib.Core.Path.{◌≡◌, refl, sym, ap, ◌∙◌, subst}
use mathlib.Core.List.{List, ◌++◌}
use Prim.Native.Nat.{ℕ, ◌+◌, ◌-◌, ◌*◌, ◌≤◌, ◌<◌}
use native.Mathlib.Omega.{arith}
use lib.IntN.{ℤ, pos}
use lib.ListN.{length, take, drop, length-append, length-drop}
use lib.Seq.{drop_at, take_at}
use Rattle.csl.specs.Syntax.{Join}
use Rattle.cells.specs.Reduce as cells
use Rattle.kinds.specs.Kinds.{wait_number}
use Rattle.kinds.specs.declared.WaitKind.{WaitKind}
use Rattle.kinds.specs.declared.WaitKind.TheVariants.{Obligation, Choice}
use Rattle.residues.specs.Reduces.{Stands, Is, Sides, JoinIs, room_left, farthest}
use Rattle.residues.specs.Tallies.{Reckons, Makes, MakesOne, JoinTallies}
use Rattle.activation.specs.Leads.{inner_site, StandsAt, does, reckon_at}
use Rattle.activation.specs.Leads.{Follows, weight}
use Rattle.parties.specs.declared.breach.Breach.{Breach as Broken}
use Rattle.residues.specs.declared.Reduced.{Reduced}
use Rattle.residues.specs.declared.Reduced.TheVariants.{Done, Breach, Running}
use Rattle.residues.specs.declared.Reckoned.{Reckoned}
use Rattle.residues.specs.declared.Tally.{Tally}
use Rattle.waits.specs.Fates.{mode_at}
use Rattle.waits.specs.declared.Event.{Event}
use Rattle.waits.specs.declared.Event.TheVariants.{Activate, Forecast, Follow}
use Rattle.activation.specs.declared.sites.Site.{Site}
use Rattle.activation.specs.declared.sites.Clause.{Clause as Here}
use Rattle.residues.proofs.Reduces.{is_done, is_breach, is_running}

-- ---- what falls
module _ (e : Event) (t : Site) {w : Site} where
  pub lighter_within : (x b : ℕ) → w ≡ inner_site t x b → (n m : ℕ) → n < m → weight e w n < weight e t m
  lighter_within x b ew n m h = rw ew (omega arith)

-- what follows a reading is heavier than what takes none
pub heavy : (e : Event) → Follows (mode_at e) → (t : Site) (n : ℕ) → 64 * (farthest + 1) ≤ weight e t n
heavy Activate f t n = absurd f
heavy Forecast f t n = absurd f
heavy (Follow r) f t n = omega arith

-- a unit's sort is a small number
pub few_sorts : (sort : WaitKind) → wait_number sort ≤ farthest
few_sorts Obligation = omega arith
few_sorts Choice = omega arith

-- what a clause at its site does
pub stood : (e : Event) {ag : List ℕ} {t : Site} {s : List ℕ} {ps vs : List ℤ} {c : Here} → StandsAt ag t s ps vs c
    → does e c ≡ reckon_at (mode_at e) ag t s ps vs
stood e h = rw (h.agreement, h.site, h.bytes, h.params, h.values)

-- ---- what an answer within says of the whole
pub reckons_as : {x y : cells.Reckoned} {r : Reckoned} {o : List ℤ} → x ≡ y → Reckons y r o → Reckons x r o
reckons_as e h = rw e h

pub reckons_by : (by : cells.Reckoned → cells.Reckoned) {x y : cells.Reckoned} {r a : Reckoned} {o : List ℤ}
    → x ≡ by y → Reckons y r o → Makes by r a → Reckons x a o
reckons_by by {y = y} {o = o} e h m = rw e (m.is y o h)

-- one clause that is breached or waits
pub reckons_broken : {b : Broken} {a : Reckoned} → MakesOne (Breach b) a → (o : List ℤ) {x : cells.Reckoned}
    → (u : ℕ) × (x ≡ cells.reaches (cells.broken u b.parties)) × (b.time ≡ pos u) → Reckons x a o
unfolding Is cells.reaches cells.broken
reckons_broken {b = b} m o e = rw e.1 (m.is (cells.breach e.0 b.parties) o (e.2, refl))

pub reckons_waiting : {r : Reduced} {a : Reckoned} → MakesOne r a → (o cs : List ℤ) {x : cells.Reckoned}
    → x ≡ cells.reaches (cells.waiting cs) → Is (cells.running cs) r o → Reckons x a o
unfolding cells.reaches cells.waiting
reckons_waiting m o cs e h = rw e (m.is (cells.running cs) o h)

-- ---- what an outcome says
is_ends : (o : List ℤ) {x : cells.Reduced} → x ≡ cells.done → Is x Done o
unfolding Is
is_ends o e = rw e tt

pub breach_is : (o : List ℤ) {x : cells.Reduced} (b : Broken)
    → (u : ℕ) × (x ≡ cells.breach u b.parties) × (b.time ≡ pos u) → Is x (Breach b) o
unfolding Is
breach_is o b h = rw h.1 (h.2, refl)

-- ---- the right side stays at the end while the left side is written below it
module _ (o₁ o₂ : List ℤ) (r : Reduced) (e : ℕ) (ee : e ≡ room_left r (length o₁)) (he : e ≤ length o₁)
    (l₂ : length o₂ ≡ e) where
  pub laid_length : length (o₂ ++ drop e o₁) ≡ length o₁
  laid_length = simp (length-append, length-drop) (omega arith)

  running_is : {y : cells.Reduced} {cs : List ℤ} {m : ℕ} → y ≡ cells.running cs → Stands cs m o₁
      → e ≡ room_left (Running m) (length o₁) → Is y (Running m) (o₂ ++ drop e o₁)
  unfolding Is room_left
  running_is {cs = cs} {m = m} ey st em = rw ey (record {
    units = st.units;
    size = st.size;
    count = st.count;
    wrote = λ few fits.
        let c : length cs ≤ length o₁ = omega (arith, laid_length) in
        let em' : m ≡ st.units = omega (arith, st.size, st.count) in
        let ec : length cs ≡ 24 * m = omega (arith, st.size) in
        ap (λ n. drop (n - length cs) (o₂ ++ drop e o₁)) laid_length
        ∙ drop_at o₂ (drop e o₁) (length o₁ - length cs) (omega arith)
        ∙ ap (λ n. drop n o₁) (let q : e ≡ length o₁ - length cs = omega arith in q) ∙ st.wrote few c;
  })

  right_stays : (y : cells.Reduced) → Is y r o₁ → Is y r (o₂ ++ drop e o₁)
  right_stays y h = by_answer r refl
    where
      by_answer : (q : Reduced) → r ≡ q → Is y r (o₂ ++ drop e o₁)
      by_answer Done p = rw p (is_ends (o₂ ++ drop e o₁) (is_done o₁ y (rw p at h)))
      by_answer (Breach b) p = let z = is_breach o₁ y b (rw p at h) in rw p (breach_is (o₂ ++ drop e o₁) b z)
      by_answer (Running m) p = let z = is_running o₁ y (rw p at h) in
          rw p (running_is z.1 z.2 (ee ∙ ap (λ a. room_left a (length o₁)) p))

  pub laid : (x y : cells.Reduced) {l : Reduced} → Is x l o₂ → Is y r o₁ → Sides x y l r (o₂ ++ drop e o₁)
  laid x y {l} hx hy = record {
    of_left = subst (λ k. Is x l k) (sym (ap (λ n. take (room_left r n) (o₂ ++ drop e o₁)) laid_length
        ∙ ap (λ n. take n (o₂ ++ drop e o₁)) (sym ee) ∙ take_at o₂ (drop e o₁) e l₂)) hx;
    of_right = right_stays y hy;
  }

pub reckons_laid : (o₁ o₂ : List ℤ) {r : Reckoned} (e : ℕ) → e ≡ room_left r.outcome (length o₁) → e ≤ length o₁
    → length o₂ ≡ e → {j : Join} {l : Reckoned} {a : Reduced} {t : Tally} {w : List ℤ}
    → JoinIs j l.outcome r.outcome (o₂ ++ drop e o₁) a w → JoinTallies j l.tally r.tally t
    → {x y : cells.Reckoned} → Reckons x l o₂ → Reckons y r o₁
    → Reckons (cells.reaches (cells.joins j x y)) (record { outcome = a; tally = t }) w
unfolding cells.reaches cells.joins
reckons_laid o₁ o₂ {r} e ee he l₂ i t {x} {y} hx hy = record {
  outcome = i.is x.outcome y.outcome
      (laid o₁ o₂ r.outcome e ee he l₂ x.outcome y.outcome hx.outcome hy.outcome);
  tally = t.is x.tally y.tally hx.tally hy.tally;
}
