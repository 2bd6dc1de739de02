-- A table shows a run by its head: its times and its state decide which reader reads the rest.
use mathlib.Core.Path.{◌≡◌, refl, sym, ap, subst, ◌∙◌}
use mathlib.Core.List.{List}
use mathlib.Core.Option.{some}
use Prim.Native.Nat.{ℕ, zero, suc, ◌^◌, ◌<◌}
use native.Mathlib.Omega.{arith}
use lib.IntN.{ℤ, pos}
use lib.ListN.{length, get_or, drop}
use Rattle.csl.specs.Decode.{agreement_of}
use Rattle.csl.specs.Outcomes.{Outcome}
use Rattle.csl.specs.Table.{Run, HeadNumbers, read_state}
use Rattle.laws.proofs.Options.{none_some}
use Rattle.laws.proofs.Integers.{pos_inj}
use Rattle.csl.specs.Check.{mains_of}
use Rattle.cells.specs.declared.Sight.{Sight}
use Rattle.units.proofs.Waits.{option_none}
use Rattle.std.specs.Prelude.{Option as Maybe, Some, None}
use Rattle.std.specs.Prelude.{Result, Ok, Err}
use Rattle.std.specs.Result.{result_ok}
use Rattle.kinds.specs.Kinds.{state_cell, NamesState}
use Rattle.kinds.specs.declared.RunState.{RunState}
use Rattle.kinds.specs.declared.RunState.TheVariants.{Running, Fulfilled, Breached}
use Rattle.kinds.specs.declared.Unknown.{Unknown}
use Rattle.laws.proofs.Clash.{impossible}
use Rattle.arith.proofs.Ints.{seen, read! }
use lib.Signed.{mag}
use Rattle.state.specs.Shown.{RunShows, Shows, TimeIs, run_in, HeadAt}
use Rattle.state.proofs.Heads.{RunFacts, run_facts, run_is}

module _ (cells : List ℤ) (l : length cells ≡ 3080) where
  module _ (A : List ℕ) where
    pub shown_none : (sights : List Sight) → ((q : Run) → RunFacts A cells q → ⊥)
        → Shows (run_in A cells) cells sights None
    unfolding Shows
    shown_none sights f = option_none (run_in A cells) (λ q e. f q (run_facts A cells (omega arith) q e))

    module _ {state time : ℕ} (h : HeadAt A cells state time) where
      same_state : {q : Run} (f : RunFacts A cells q) → f.head.state ≡ state
      same_state f = pos_inj (sym f.is_state ∙ h.is_state)

      pub same_now : {q : Run} (f : RunFacts A cells q) → f.head.now ≡ time
      same_now f = pos_inj (sym f.is_now ∙ h.times.is_now)

      -- the outcome that is read, the rest of the head being so
      pub reads_at : {q : Run} (f : RunFacts A cells q)
          → read_state (agreement_of A) (mains_of A) f.head (drop 8 cells) state ≡ some f.outcome
      reads_at f = subst (λ (s : ℕ). read_state (agreement_of A) (mains_of A) f.head (drop 8 cells) s ≡ some
          f.outcome) (same_state f) f.reads

      pub shows : {t p u : ℕ} (o : Outcome) → get_or cells 2 (pos 0) ≡ pos t → get_or cells 3 (pos 0) ≡ pos p
          → get_or cells 4 (pos 0) ≡ pos u → read_state (agreement_of A) (mains_of A) (record {
            state = state;
            now = time;
            time = t;
            parties = p;
            used = u;
            moved = h.times.moved;
          }) (drop 8 cells) state ≡ some o → RunShows (run_in A cells) cells o
      shows {t} {p} {u} o a b c e = record {
        now = time;
        moved = h.times.moved;
        is = run_is A cells (omega arith) (record { last_time = time; last_moved = h.times.moved; outcome = o })
            (record {
              head = record { state = state; now = time; time = t; parties = p; used = u; moved = h.times.moved };
              is_state = h.is_state;
              is_now = h.times.is_now;
              is_time = a;
              is_parties = b;
              is_used = c;
              times = h.times;
              is_moved = refl;
              outcome = o;
              reads = e;
              is = refl;
            });
        cell = h.times.is_now;
      }

-- ---- the state
-- the code knows the states that csl reads
known : (A : List ℕ) (d : HeadNumbers) (cells : List ℤ) (n : ℕ) (o : Outcome)
    → read_state (agreement_of A) (mains_of A) d cells n ≡ some o → (s : RunState) × (state_cell s ≡ pos n)
unfolding read_state
known A d cells zero o e = none_some e
known A d cells (suc zero) o e = (Running, refl)
known A d cells (suc (suc zero)) o e = (Fulfilled, refl)
known A d cells (suc (suc (suc zero))) o e = (Breached, refl)
known A d cells (suc (suc (suc (suc n)))) o e = none_some e

-- what the cell names
module _ (z : ℤ) (r : Result RunState Unknown) {o : Maybe RunState} (q : o ≡ result_ok r) (h : NamesState z r) where
  named : {s : RunState} → o ≡ Some s → state_cell s ≡ z
  named {s} e = go r (sym q ∙ e) h
    where
      go : (r : Result RunState Unknown) → result_ok r ≡ Some s → NamesState z r → state_cell s ≡ z
      go (Ok t) e h = let same : t ≡ s = cc in ap state_cell (sym same) ∙ h
      go (Err u) e h = impossible cc

  unnamed : o ≡ None → (s : RunState) → state_cell s ≡ z → ⊥
  unnamed e = go r (sym q ∙ e) h
    where
      go : (r : Result RunState Unknown) → result_ok r ≡ None → NamesState z r → (s : RunState) → state_cell s ≡ z → ⊥
      go (Ok t) e h = impossible cc
      go (Err u) e h = h

module _ (cells : List ℤ) (l : length cells ≡ 3080) (A : List ℕ) where
  pub head_timeless : (sights : List Sight) (t : Maybe ℕ) → TimeIs A cells t → t ≡ None
      → Shows (run_in A cells) cells sights None
  unfolding TimeIs
  head_timeless sights t h g = shown_none cells l A sights λ q f. (rw g at h) f.head.now f.times

  -- the state's cell, as the program reads it
  module _ (fits : mag (get_or cells 0 (pos 0)) < 2 ^ 63) (r : Result RunState Unknown) {o : Maybe RunState}
      (q : o ≡ result_ok r) (k : NamesState (seen (get_or cells 0 (pos 0))) r)
    where
      pub head_stateless : (sights : List Sight) → o ≡ None → Shows (run_in A cells) cells sights None
      head_stateless sights g = shown_none cells l A sights λ _ f.
          let s = known A f.head (drop 8 cells) f.head.state f.outcome f.reads in
          unnamed (get_or cells 0 (pos 0)) r q (rw (read! {z = get_or cells 0 (pos 0)} fits) at k) g s.0
          (s.1 ∙ sym f.is_state)

      pub head_at : (t : Maybe ℕ) → TimeIs A cells t → {time n : ℕ} {s : RunState} → t ≡ Some time → o ≡ Some s
          → state_cell s ≡ pos n → HeadAt A cells n time
      unfolding TimeIs
      head_at t h g e same = record {
        is_state = sym (named (get_or cells 0 (pos 0)) r q (rw (read! {z = get_or cells 0 (pos 0)} fits) at k) e)
            ∙ same;
        times = rw g at h;
      }
