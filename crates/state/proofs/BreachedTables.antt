-- A table with the state of a breached run shows one exactly where its time and its parties may stand there.
use mathlib.Core.Path.{◌≡◌, refl, sym, ap, subst, ◌∙◌}
use mathlib.Core.Bool.{Bool, not, ◌&&◌}
use mathlib.Core.List.{List}
use Prim.Native.Nat.{ℕ, ◌^◌, ◌≤◌, ◌<◌}
use native.Mathlib.Omega.{arith}
use lib.Bits.{bit_or}
use lib.Dec.{T, leb, ltb, eqb, leb→le, le→leb, ltb→lt, lt→ltb, eqb→eq}
use lib.IntN.{ℤ, pos}
use lib.ListN.{length, get_or, take, drop}
use borrow.Author.Tests.{ne_eqb}
use Rattle.csl.specs.Lists.{all}
use Rattle.csl.specs.Bytes.{le32}
use Rattle.csl.specs.Parties.{bits_of, members, subset}
use Rattle.csl.specs.Decode.{agreement_of}
use Rattle.csl.specs.Outcomes.{breach}
use Rattle.csl.specs.Table.{Run, is_zero, read_state}
use Rattle.laws.proofs.Options.{from_need, passes}
use Rattle.laws.proofs.Bools.{T-both, both_true, T→true, true→T, true_not_false}
use Rattle.laws.proofs.PartyBits.{members_within}
use Rattle.laws.proofs.Integers.{pos_inj}
use Rattle.parties.proofs.Masks.{within_subset, bits_members}
use Rattle.csl.specs.Check.{mains_of}
use Rattle.units.specs.Cells.{number_below}
use Rattle.cells.specs.declared.Sight.{Sight}
use Rattle.units.proofs.Cells.{below_is, below_not}
use Rattle.std.specs.Prelude.{Option as Maybe, Some, None}
use Rattle.state.specs.declared.State.TheVariants.{Breached}
use Rattle.std.specs.Bool.{then_some}
use Rattle.parties.specs.declared.breach.Breach.{Breach}
use Rattle.state.specs.declared.State.{State}
use Rattle.units.proofs.Tests.{by_then}
use Rattle.state.specs.Shown.{BreachedAs, Shows, run_in, HeadAt}
use Rattle.state.proofs.Heads.{RunFacts}
use Rattle.state.proofs.Zeros.{one_zero, zeros_one, unit_cells}
use Rattle.state.proofs.Shows.{shown_none, same_now, reads_at, shows}

module _ (cells : List ℤ) (l : length cells ≡ 3080) (A : List ℕ) {time : ℕ} (h : HeadAt A cells 3 time)
    (sights : List Sight) where
  record Broken : Type 0 where
    pub when : ℕ
    pub bits : ℕ
    pub is_when : get_or cells 2 (pos 0) ≡ pos when
    pub is_bits : get_or cells 3 (pos 0) ≡ pos bits
    pub unused : get_or cells 4 (pos 0) ≡ pos 0
    pub from : le32 A 4 ≤ when
    pub to : when ≤ time
    pub small : bits < 65_536
    pub some_party : bits ≡ 0 → ⊥
    pub of_mains : T (subset (members bits) (mains_of A))
    pub rest : T (all is_zero (drop 8 cells))

  broken_facts : {q : Run} → RunFacts A cells q → Broken
  unfolding read_state agreement_of
  broken_facts f =
      let d = f.head in
      let o = f.outcome in
      from_need (leb (le32 A 4) d.time) _ o (reads_at cells l A h f) λ t₁ b₁.
      from_need (leb d.time d.now) _ o b₁ λ t₂ b₂.
      from_need (ltb d.parties (2 ^ 16)) _ o b₂ λ t₃ b₃.
      from_need (not (eqb d.parties 0)) _ o b₃ λ t₄ b₄.
      from_need (subset (members d.parties) (mains_of A)) _ o b₄ λ t₅ b₅.
      from_need (eqb d.used 0) _ o b₅ λ t₆ b₆.
      from_need (all is_zero (drop 8 cells)) _ o b₆ λ t₇ _.
      let now = same_now cells l A h f in
      record {
        when = d.time;
        bits = d.parties;
        is_when = f.is_time;
        is_bits = f.is_parties;
        unused = f.is_used ∙ ap pos (eqb→eq d.used 0 t₆);
        from = leb→le (le32 A 4) d.time t₁;
        to = omega (arith, leb→le d.time d.now t₂);
        small = ltb→lt d.parties (2 ^ 16) t₃;
        some_party = λ e. not_nought d.parties t₄ e;
        of_mains = t₅;
        rest = t₇;
      }
    where
      not_nought : (n : ℕ) → T (not (eqb n 0)) → n ≡ 0 → ⊥
      not_nought n t e = subst (λ (m : ℕ). T (not (eqb m 0))) e t

  broken_none : (Broken → ⊥) → Shows (run_in A cells) cells sights None
  broken_none k = shown_none cells l A sights λ q f. k (broken_facts f)

  pub breached_late : None ≡ number_below 4_294_967_296 (get_or cells 2 (pos 0))
      → Shows (run_in A cells) cells sights None
  breached_late e = broken_none λ b. omega
      (arith, below_not 4_294_967_296 b.when (get_or cells 2 (pos 0)) e b.is_when, b.to, h.times.to)

  pub breached_wide : None ≡ number_below 65_536 (get_or cells 3 (pos 0))
      → Shows (run_in A cells) cells sights None
  breached_wide e = broken_none λ b. omega
      (arith, below_not 65_536 b.bits (get_or cells 3 (pos 0)) e b.is_bits, b.small)

  module _ {when start bits mains : ℕ} (dated : Some when ≡ number_below 4_294_967_296 (get_or cells 2 (pos 0)))
      (from : start ≡ le32 A 4) (named : Some bits ≡ number_below 65_536 (get_or cells 3 (pos 0)))
      (among : mains ≡ bits_of (mains_of A)) where
    narrow : bits < 65_536
    narrow = (below_is 65_536 bits (get_or cells 3 (pos 0)) named).1

    in_mains : eqb (bit_or bits mains) mains ≡ subset (members bits) (mains_of A)
    unfolding members
    in_mains = rw among (ap (λ (n : ℕ). eqb (bit_or n (bits_of (mains_of A))) (bits_of (mains_of A)))
        (sym (bits_members bits narrow)) ∙ within_subset (members bits) (mains_of A)
        (λ q t. omega (arith, members_within 16 0 bits q t)))

    -- the code's tests, one after the other
    abbrev breached_tests : Bool
    breached_tests = (leb start when && leb when time) && not (eqb bits 0) && eqb (bit_or bits mains) mains
        && all is_zero (take 1 (drop 4 cells)) && all is_zero (take 3072 (drop 8 cells))

    breached_passed : Broken → T breached_tests
    breached_passed b =
        let same_when : b.when ≡ when = pos_inj (sym b.is_when ∙ (below_is 4_294_967_296 when _ dated).0) in
        let same_bits : b.bits ≡ bits = pos_inj (sym b.is_bits ∙ (below_is 65_536 bits _ named).0) in
        let some_party : (bits ≡ 0 → ⊥) = λ e. b.some_party (same_bits ∙ e) in
        T-both ((leb start when && leb when time) && not (eqb bits 0) && eqb (bit_or bits mains) mains
        && all is_zero (take 1 (drop 4 cells))) _
        (T-both ((leb start when && leb when time) && not (eqb bits 0) && eqb (bit_or bits mains) mains) _
        (T-both ((leb start when && leb when time) && not (eqb bits 0)) _
        (T-both (leb start when && leb when time) _
        (T-both (leb start when) _ (le→leb start when (omega (arith, b.from))) (le→leb when time (omega (arith, b.to))))
        (subst (λ (y : Bool). T (not y)) (sym (ne_eqb bits 0 some_party)) tt))
        (subst T (sym (in_mains)) (subst (λ (n : ℕ). T (subset (members n) (mains_of A))) same_bits b.of_mains)))
        (zeros_one cells l b.unused))
        (subst (λ xs. T (all is_zero xs)) (sym (unit_cells cells l)) b.rest)

    shown_breach : T breached_tests → BreachedAs (run_in A cells) cells (pos when) bits
    unfolding read_state agreement_of
    shown_breach t =
        both_true ((leb start when && leb when time) && not (eqb bits 0) && eqb (bit_or bits mains) mains
        && all is_zero (take 1 (drop 4 cells))) _ t λ t₁ rest.
        both_true ((leb start when && leb when time) && not (eqb bits 0) && eqb (bit_or bits mains) mains) _ t₁
        λ t₂ used.
        both_true ((leb start when && leb when time) && not (eqb bits 0)) _ t₂ λ t₃ of_mains.
        both_true (leb start when && leb when time) _ t₃ λ t₄ some_party.
        both_true (leb start when) _ t₄ λ begun until.
        record {
          time = when;
          is_time = refl;
          small = narrow;
          shows = shows cells l A h (breach when (members bits)) (below_is 4_294_967_296 when _ dated).0
              (below_is 65_536 bits _ named).0 (one_zero cells l used)
              (passes (leb (le32 A 4) when) _ (subst (λ (n : ℕ). T (leb n when)) from begun)
              ∙ passes (leb when time) _ until
              ∙ passes (ltb bits (2 ^ 16)) _ (lt→ltb bits (2 ^ 16) narrow)
              ∙ passes (not (eqb bits 0)) _ some_party
              ∙ passes (subset (members bits) (mains_of A)) _ (subst T in_mains of_mains)
              ∙ passes (eqb 0 0) _ tt
              ∙ passes (all is_zero (drop 8 cells)) _ (subst (λ xs. T (all is_zero xs)) (unit_cells cells l) rest));
        }

    pub breached_is : {b : Bool} {r : Maybe State} (found : Breach) → b ≡ breached_tests → found.time ≡ pos when
        → found.parties ≡ bits → r ≡ then_some b (Breached found) → Shows (run_in A cells) cells sights r
    unfolding Shows
    breached_is found e is_time is_parties g = by_then (Shows (run_in A cells) cells sights) g
        (λ t. rw (is_time, is_parties) (shown_breach (true→T (sym e ∙ t))))
        (λ f. broken_none λ b. true_not_false (T→true breached_tests (breached_passed b)) (sym e ∙ f))
