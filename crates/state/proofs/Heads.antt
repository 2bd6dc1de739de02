-- csl's reader of a table's head: what a run read needs, and what gives one.
use mathlib.Core.Path.{◌≡◌, refl, sym, ap, subst, ◌∙◌}
use mathlib.Core.Bool.{◌&&◌}
use mathlib.Core.List.{List, [], ◌∷◌}
use mathlib.Core.Option.{some}
use Prim.Native.Nat.{ℕ, zero, suc, ◌^◌, ◌≤◌}
use native.Mathlib.Omega.{arith}
use lib.Dec.{T, leb, ltb, leb→le, le→leb, ltb→lt, lt→ltb}
use lib.IntN.{ℤ, pos}
use lib.ListN.{length, get_or, drop}
use Rattle.csl.specs.Lists.{◌>>=◌, all, at, split}
use Rattle.csl.specs.Bytes.{le32}
use Rattle.csl.specs.Decode.{agreement_of}
use Rattle.csl.specs.Values.{as_nat}
use Rattle.csl.specs.Outcomes.{Outcome}
use Rattle.csl.specs.Table.{Run, is_zero, as_nats, HeadNumbers, head_numbers, read_state, run_of}
use Rattle.laws.proofs.Options.{from_bind, from_need, some_bind, passes, some_inj, none_some}
use Rattle.laws.proofs.Bools.{T-both, both_true}
use Rattle.laws.proofs.Cells.{nat_is}
use Rattle.csl.specs.Check.{mains_of}
use Rattle.state.specs.Shown.{TimesAt, run_in}

-- ---- the eight cells of the head
pub eight : (P : List ℤ → Type 0) → ((a b c d e f g h : ℤ) (zs : List ℤ) → P (a ∷ b ∷ c ∷ d ∷ e ∷ f ∷ g ∷ h ∷ zs))
    → (zs : List ℤ) → 8 ≤ length zs → P zs
eight P k [] l = absurd (omega arith)
eight P k (a ∷ []) l = absurd (omega arith)
eight P k (a ∷ b ∷ []) l = absurd (omega arith)
eight P k (a ∷ b ∷ c ∷ []) l = absurd (omega arith)
eight P k (a ∷ b ∷ c ∷ d ∷ []) l = absurd (omega arith)
eight P k (a ∷ b ∷ c ∷ d ∷ e ∷ []) l = absurd (omega arith)
eight P k (a ∷ b ∷ c ∷ d ∷ e ∷ f ∷ []) l = absurd (omega arith)
eight P k (a ∷ b ∷ c ∷ d ∷ e ∷ f ∷ g ∷ []) l = absurd (omega arith)
eight P k (a ∷ b ∷ c ∷ d ∷ e ∷ f ∷ g ∷ h ∷ zs) l = k a b c d e f g h zs

nats_at : (zs : List ℤ) (ns : List ℕ) (i n : ℕ) → as_nats zs ≡ some ns → at ns i ≡ some n → get_or zs i (pos 0) ≡ pos n
unfolding as_nats at
nats_at [] ns i n e f = none_some (subst (λ (l : List ℕ). at l i ≡ some n) (sym (some_inj e)) f)
nats_at (z ∷ zs) ns i n e f =
    from_bind (as_nat z) _ ns e λ m a e₁.
    from_bind (as_nats zs) _ ns e₁ λ ms b e₂.
    go i m ms a b (subst (λ (l : List ℕ). at l i ≡ some n) (sym (some_inj e₂)) f) (λ j h. nats_at zs ms j n b h)
  where
    go : (i m : ℕ) (ms : List ℕ) → as_nat z ≡ some m → as_nats zs ≡ some ms → at (m ∷ ms) i ≡ some n
        → ((j : ℕ) → at ms j ≡ some n → get_or zs j (pos 0) ≡ pos n) → get_or (z ∷ zs) i (pos 0) ≡ pos n
    go zero m ms a b g ih = nat_is z m a ∙ ap pos (some_inj g)
    go (suc i) m ms a b g ih = ih i g

-- ---- what a run that was read has
pub record RunFacts (a : List ℕ) (cells : List ℤ) (q : Run) : Type 0 where
  pub head : HeadNumbers
  pub is_state : get_or cells 0 (pos 0) ≡ pos head.state
  pub is_now : get_or cells 1 (pos 0) ≡ pos head.now
  pub is_time : get_or cells 2 (pos 0) ≡ pos head.time
  pub is_parties : get_or cells 3 (pos 0) ≡ pos head.parties
  pub is_used : get_or cells 4 (pos 0) ≡ pos head.used
  pub times : TimesAt a cells head.now
  pub is_moved : times.moved ≡ head.moved
  pub outcome : Outcome
  pub reads : read_state (agreement_of a) (mains_of a) head (drop 8 cells) head.state ≡ some outcome
  pub is : q ≡ record { last_time = head.now; last_moved = head.moved; outcome = outcome }

module _ (A : List ℕ) where
  pub run_facts : (cells : List ℤ) → 8 ≤ length cells → (q : Run) → run_in A cells ≡ some q → RunFacts A cells q
  unfolding run_of head_numbers split ◌>>=◌ agreement_of
  run_facts = eight (λ cells. (q : Run) → run_in A cells ≡ some q → RunFacts A cells q) λ a b c d e f g h zs q r.
      from_bind (head_numbers (a ∷ b ∷ c ∷ d ∷ e ∷ f ∷ g ∷ h ∷ [])) _ q r λ hn p r₁.
      from_need (leb (le32 A 4) hn.moved && leb hn.moved hn.now && ltb hn.now (2 ^ 32)) _ q r₁ λ t r₂.
      from_bind (read_state (agreement_of A) (mains_of A) hn zs hn.state) _ q r₂ λ o s r₃.
      from_need (all is_zero (g ∷ h ∷ [])) _ hn p λ z p₁.
      from_bind (as_nats (a ∷ b ∷ c ∷ d ∷ e ∷ f ∷ [])) _ hn p₁ λ ns six p₂.
      from_bind (at ns 0) _ hn p₂ λ n₀ a₀ p₃.
      from_bind (at ns 1) _ hn p₃ λ n₁ a₁ p₄.
      from_bind (at ns 2) _ hn p₄ λ n₂ a₂ p₅.
      from_bind (at ns 3) _ hn p₅ λ n₃ a₃ p₆.
      from_bind (at ns 4) _ hn p₆ λ n₄ a₄ p₇.
      from_bind (at ns 5) _ hn p₇ λ n₅ a₅ p₈.
      let same = some_inj p₈ in
      let cell : (i n : ℕ) → at ns i ≡ some n
      → get_or (a ∷ b ∷ c ∷ d ∷ e ∷ f ∷ []) i (pos 0) ≡ pos n
      = λ i n k. nats_at (a ∷ b ∷ c ∷ d ∷ e ∷ f ∷ []) ns i n six k in
      both_true (leb (le32 A 4) hn.moved && leb hn.moved hn.now) (ltb hn.now (2 ^ 32)) t λ m hi.
      both_true (leb (le32 A 4) hn.moved) (leb hn.moved hn.now) m λ lo le.
      record {
        head = hn;
        is_state = cell 0 n₀ a₀ ∙ ap (λ (y : HeadNumbers). pos y.state) same;
        is_now = cell 1 n₁ a₁ ∙ ap (λ (y : HeadNumbers). pos y.now) same;
        is_time = cell 2 n₂ a₂ ∙ ap (λ (y : HeadNumbers). pos y.time) same;
        is_parties = cell 3 n₃ a₃ ∙ ap (λ (y : HeadNumbers). pos y.parties) same;
        is_used = cell 4 n₄ a₄ ∙ ap (λ (y : HeadNumbers). pos y.used) same;
        times = record {
          is_now = cell 1 n₁ a₁ ∙ ap (λ (y : HeadNumbers). pos y.now) same;
          moved = hn.moved;
          is_moved = cell 5 n₅ a₅ ∙ ap (λ (y : HeadNumbers). pos y.moved) same;
          from = leb→le (le32 A 4) hn.moved lo;
          until = leb→le hn.moved hn.now le;
          to = ltb→lt hn.now (2 ^ 32) hi;
          zeros = z;
        };
        is_moved = refl;
        outcome = o;
        reads = s;
        is = sym (some_inj r₃);
      }

  pub run_is : (cells : List ℤ) → 8 ≤ length cells → (q : Run) → RunFacts A cells q → run_in A cells ≡ some q
  unfolding run_of head_numbers split ◌>>=◌ at agreement_of
  run_is = eight (λ cells. (q : Run) → RunFacts A cells q → run_in A cells ≡ some q) λ a b c d e f g h zs q r.
      let hn = r.head in
      let t = r.times in
      let ns = hn.state ∷ hn.now ∷ hn.time ∷ hn.parties ∷ hn.used ∷ hn.moved ∷ [] in
      let nats : as_nats (a ∷ b ∷ c ∷ d ∷ e ∷ f ∷ []) ≡ some ns = six a b c d e f hn r.is_state r.is_now r.is_time
      r.is_parties r.is_used (t.is_moved ∙ ap pos r.is_moved) in
      let moved : T (leb (le32 A 4) hn.moved && leb hn.moved hn.now) = T-both (leb (le32 A 4) hn.moved) _
      (le→leb (le32 A 4) hn.moved (omega (arith, t.from, r.is_moved)))
      (le→leb hn.moved hn.now (omega (arith, t.until, r.is_moved))) in
      some_bind (head_numbers (a ∷ b ∷ c ∷ d ∷ e ∷ f ∷ g ∷ h ∷ [])) _ hn
      (passes (all is_zero (g ∷ h ∷ [])) _ t.zeros ∙ some_bind (as_nats (a ∷ b ∷ c ∷ d ∷ e ∷ f ∷ [])) _ ns nats)
      ∙ passes (leb (le32 A 4) hn.moved && leb hn.moved hn.now && ltb hn.now (2 ^ 32)) _
      (T-both (leb (le32 A 4) hn.moved && leb hn.moved hn.now) _ moved (lt→ltb hn.now (2 ^ 32) t.to))
      ∙ some_bind (read_state (agreement_of A) (mains_of A) hn zs hn.state) _ r.outcome r.reads
      ∙ ap some (sym r.is)
    where
      six : (a b c d e f : ℤ) (hn : HeadNumbers) → a ≡ pos hn.state → b ≡ pos hn.now → c ≡ pos hn.time
          → d ≡ pos hn.parties → e ≡ pos hn.used → f ≡ pos hn.moved
          → as_nats (a ∷ b ∷ c ∷ d ∷ e ∷ f ∷ []) ≡ some
          (hn.state ∷ hn.now ∷ hn.time ∷ hn.parties ∷ hn.used ∷ hn.moved ∷ [])
      six a b c d e f hn p q r s t u = rw (p, q, r, s, t, u) (unfold as_nats as_nat ◌>>=◌ in refl)
