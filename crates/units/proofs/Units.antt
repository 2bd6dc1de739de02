-- Waiting units: what the code read of their cells, and csl's reader.
use mathlib.Core.Path.{◌≡◌, refl, sym, ap, ap₂, subst, ◌∙◌}
use mathlib.Core.Bool.{Bool, true, ◌&&◌}
use mathlib.Core.List.{List, [], ◌∷◌}
use mathlib.Core.Logic.{inl, inr}
use mathlib.Core.Option.{Option, none, some}
use Prim.Native.Nat.{ℕ, zero, suc, ◌+◌, ◌-◌, ◌≤◌, ◌<◌}
use native.Mathlib.Decide.{dec_le}
use native.Mathlib.Nat.{le_of_suc-le-suc}
use native.Mathlib.Omega.{arith}
use lib.Bits.{bit_or}
use lib.Dec.{T, ltb, eqb, ltb→lt}
use lib.IntN.{ℤ}
use lib.ListN.{length, get_or}
use Rattle.csl.specs.Lists.{all}
use Rattle.csl.specs.Bytes.{byte, part, record_end}
use Rattle.csl.specs.Parties.{member, bits_of, subset}
use Rattle.csl.specs.Decode.{tys_of, agreement_of}
use Rattle.csl.specs.Typing.{type_clause, names_of}
use Rattle.csl.specs.Places.{Found, clause_at}
use Rattle.csl.specs.Values.{as_nat}
use Rattle.csl.specs.Table.{is_zero, stands_for, stand_for, as_nats}
use Rattle.laws.proofs.Options.{from_bind, from_need, some_bind, passes, some_inj, some_none}
use Rattle.laws.proofs.Bools.{T-both, both_true, true_not_false, T→true, true→T}
use Rattle.laws.proofs.Types.{types_length}
use Rattle.arith.proofs.Lists.{length_part}
use Rattle.octets.proofs.Bytes.{record_end_within}
use Rattle.records.proofs.Index.{heads_in_lem}
use Rattle.parties.specs.Masks.{HasBit, ValidMembers}
use Rattle.parties.proofs.Masks.{within_subset}
use Rattle.parties.proofs.Typed.{valid_typed, declared_valid}
use Rattle.soundness.proofs.Members.{member→in, in→member, stand_in}
use Rattle.soundness.proofs.ReadBack.{found_placed}
use Rattle.records.specs.TypedValues.{values_ok}
use Rattle.csl.specs.Check.{mains_of, Accepted}
use Rattle.places.proofs.Descents.{fairly, found_clause, found_typed}
use Rattle.std.specs.Prelude.{Option as Maybe, Some, None}
use Rattle.std.specs.Bool.{then_some}
use Rattle.cells.specs.declared.Sight.TheVariants.{Waits}
use Rattle.arrayvec.specs.ArrayVec.{ArrayVec}
use Rattle.units.specs.declared.Waiting.{Waiting}
use Rattle.units.specs.Blames.{blames_of, WholeIn, PartiesAre}
use Rattle.units.specs.Cells.{parties_in, PartiesRead}
use Rattle.units.specs.Units.{cells_in, CellsShow, CellsRead, FoundThere, LocatedIs, recorded}
use Rattle.units.proofs.Tests.{by_then}
use Rattle.units.proofs.Blames.{typed_blames, stands_itself, stands_param, stands_none, whole_room}

-- ---- what the code found in a unit's cells
module _ (parties n : ℕ) (types : List ℕ) (zs : List ℤ) where
  pub no_parties : parties_in parties (cells_in zs 2 (2 + n)) ≡ none → CellsRead parties n (tys_of types) zs None
  unfolding CellsRead
  no_parties e params h = some_none e h.are_params

  -- the code's tests, one after the other
  abbrev cells_tests : Bool
  cells_tests = all is_zero (cells_in zs (2 + n) 7) && values_ok parties (tys_of types) (cells_in zs 7 23)
      && all is_zero (cells_in zs (7 + length types) 23)

  -- the values are as many as the types
  rest_cells : all is_zero (cells_in zs (7 + length (tys_of types)) 23)
      ≡ all is_zero (cells_in zs (7 + length types) 23)
  rest_cells = ap (λ (y : ℕ). all is_zero (cells_in zs (7 + y) 23)) (types_length types)

  pub cells_are : {b : Bool} {own : ArrayVec ℕ} {r : Maybe (ArrayVec ℕ)}
      → parties_in parties (cells_in zs 2 (2 + n)) ≡ some own.items → b ≡ cells_tests → r ≡ then_some b own
      → CellsRead parties n (tys_of types) zs r
  unfolding CellsRead
  cells_are own e g = by_then (CellsRead parties n (tys_of types) zs) g
      (λ yes. both_true (blank && held) _ (true→T (sym e ∙ yes)) λ t z. both_true blank _ t λ x y.
      record {
        are_params = own;
        no_params = T→true blank x;
        are_values = T→true held y;
        no_values = rest_cells ∙ T→true _ z;
      })
      (λ not params h. true_not_false (T→true cells_tests (T-both (blank && held) _
      (T-both blank _ (true→T h.no_params) (true→T h.are_values)) (true→T (sym rest_cells ∙ h.no_values))))
      (sym e ∙ not))
    where
      blank : Bool
      blank = all is_zero (cells_in zs (2 + n) 7)

      held : Bool
      held = values_ok parties (tys_of types) (cells_in zs 7 23)

-- the parties that it read
pub own_none : (o : Option (List ℕ)) {r : Maybe (ArrayVec ℕ)} → PartiesRead o r → r ≡ None → o ≡ none
unfolding PartiesRead
own_none o h e = rw e at h

pub own_some : (o : Option (List ℕ)) {r : Maybe (ArrayVec ℕ)} {own : ArrayVec ℕ} → PartiesRead o r → r ≡ Some own
    → o ≡ some own.items
unfolding PartiesRead
own_some o h e = rw e at h

-- ---- cells that are parties
pub parties_nats : (ps : ℕ) (zs : List ℤ) (ns : List ℕ) → parties_in ps zs ≡ some ns → (as_nats zs ≡ some ns)
    × T (all (λ x. ltb x ps) ns) × (length ns ≡ length zs)
unfolding parties_in as_nats all
parties_nats ps [] ns e = subst (λ (l : List ℕ). (some [] ≡ some l) × T (all (λ x. ltb x ps) l) × (length l ≡ 0))
    (some_inj e) (refl, tt, refl)
parties_nats ps (z ∷ zs) ns e =
    from_bind (as_nat z) _ ns e λ p a e₁.
    from_need (ltb p ps) _ ns e₁ λ t e₂.
    from_bind (parties_in ps zs) _ ns e₂ λ r b e₃.
    let i = parties_nats ps zs r b in
    subst (λ (l : List ℕ). (as_nats (z ∷ zs) ≡ some l) × T (all (λ x. ltb x ps) l) × (length l ≡ suc (length zs)))
    (some_inj e₃)
    (some_bind (as_nat z) _ p a ∙ some_bind (as_nats zs) _ r i.0, T-both (ltb p ps) _ t i.1, ap suc i.2)

pub nats_parties : (ps : ℕ) (zs : List ℤ) (ns : List ℕ) → as_nats zs ≡ some ns → T (all (λ x. ltb x ps) ns)
    → parties_in ps zs ≡ some ns
unfolding parties_in as_nats all
nats_parties ps [] ns e t = e
nats_parties ps (z ∷ zs) ns e t =
    from_bind (as_nat z) _ ns e λ p a e₁.
    from_bind (as_nats zs) _ ns e₁ λ r b e₂.
    let u : T (ltb p ps && all (λ x. ltb x ps) r) = subst (λ (l : List ℕ). T (all (λ x. ltb x ps) l))
    (sym (some_inj e₂)) t in
    both_true (ltb p ps) (all (λ x. ltb x ps) r) u λ h g.
    some_bind (as_nat z) _ p a ∙ passes (ltb p ps) _ h
    ∙ some_bind (parties_in ps zs) _ r (nats_parties ps zs r b g) ∙ e₂

all_get_d : (t : ℕ → Bool) (xs : List ℕ) (i : ℕ) → T (all t xs) → i < length xs → T (t (get_or xs i 0))
unfolding all
all_get_d t [] i h l = absurd (omega arith)
all_get_d t (x ∷ xs) zero h l = both_true (t x) _ h λ a b. a
all_get_d t (x ∷ xs) (suc i) h l = both_true (t x) _ h λ a b. all_get_d t xs i b (le_of_suc-le-suc l)

-- ---- what was found at a place
module _ {A : List ℕ} (acc : Accepted A) (place : ℕ) where
  module _ (f : Found) (h : clause_at (agreement_of A) place ≡ some f) where
    pub found_few : f.params ≤ 4
    found_few = (found_placed (agreement_of A) (mains_of A) (fairly acc) place f h).1

    pub found_whole : WholeIn A (part A place (record_end A place))
    found_whole =
        let e = found_clause A place f acc h in
        record { depth = 23; place = place; is = rw e.0 at e.1 }

    pub found_room : place + 4 ≤ record_end A place
    found_room = omega (
      arith,
      whole_room found_whole,
      length_part A place (record_end A place) (record_end_within A place),
    )

    -- its parties, as csl types it
    pub found_parties : type_clause (names_of (agreement_of A) f.params) f.sight f.clause ≡ some
        (recorded A place)
    unfolding names_of
    found_parties =
        let t = found_typed (agreement_of A) place f (mains_of A) (fairly acc) h in
        let e = typed_blames (names_of (agreement_of A) f.params) f.clause f.sight t.parties t.typed in
        t.typed ∙ ap some (e ∙ ap₂ blames_of (heads_in_lem A) (found_clause A place f acc h).0)

    blames_valid : ValidMembers (recorded A place)
    unfolding names_of
    blames_valid = valid_typed (names_of (agreement_of A) f.params) (fairly acc).few found_few
        (λ k hd e. declared_valid A k hd (rw (heads_in_lem A) at e)) f.clause f.sight (recorded A place) found_parties

    -- parties that stand for them
    stands_small : (params : List ℕ) → T (all (λ x. ltb x (agreement_of A).parties) params) → (b : ℕ) → HasBit b
        → stands_for params b < 16
    stands_small params t b (inl l) = omega (arith, stands_itself params b (omega arith))
    stands_small params t b (inr l) = go (dec_le (length params) (b - 128))
      where
        go : Dec (length params ≤ b - 128) → stands_for params b < 16
        go (yes k) = omega (arith, stands_none params b l.0 k)
        go (no k) =
            let i : b - 128 < length params = omega arith in
            omega (
              arith,
              stands_param params b l.0 i,
              ltb→lt (get_or params (b - 128) 0) (agreement_of A).parties
                  (all_get_d (λ x. ltb x (agreement_of A).parties) params (b - 128) t i),
              (fairly acc).few,
            )

    pub stand_small : (params : List ℕ) → T (all (λ x. ltb x (agreement_of A).parties) params) → (q : ℕ)
        → member q (stand_for params (recorded A place)) ≡ true → q < 16
    stand_small params t q m =
        let i = stand_in params (recorded A place) q
        (member→in q (stand_for params (recorded A place)) (subst T (sym m) tt)) in
        omega (
          arith,
          i.2,
          stands_small params t i.0
              (blames_valid.each i.0 (T→true (member i.0 (recorded A place))
              (in→member i.0 (recorded A place) i.1))),
        )

-- ---- a located unit: the code's answers
module _ {A : List ℕ} {place n : ℕ} {types : List ℕ} (acc : Accepted A) (t : FoundThere A place n types) (zs : List ℤ)
  where
    pub there_few : n ≤ 4
    there_few = rw t.params at (found_few acc place t.found t.is)

    pub there_whole : WholeIn A (part A place (record_end A place))
    there_whole = found_whole acc place t.found t.is

    pub there_room : place + 4 ≤ record_end A place
    there_room = found_room acc place t.found t.is

    -- `parties` is what was read of the party count
    module _ {parties : ℕ} (p : parties ≡ byte A 8) where
      module _ {r : Maybe (ArrayVec ℕ)} (h : CellsRead parties n (tys_of types) zs r) where
        pub located_not : r ≡ None → LocatedIs A place n types zs None
        unfolding LocatedIs CellsRead
        located_not g params u = (rw g at h) params (rw p u.cells)

        module _ {own : ArrayVec ℕ} (g : r ≡ Some own) {e bits mains : ℕ} {b : Bool} (q : e ≡ record_end A place)
            (o : PartiesAre A (part A place e) own.items bits) (m : mains ≡ bits_of (mains_of A))
            (d : b ≡ eqb (bit_or bits mains) mains)
          where
            cells : CellsShow parties n (tys_of types) zs own.items
            unfolding CellsRead
            cells = rw g at h

            bits_are : bits ≡ bits_of (stand_for own.items (recorded A place))
            bits_are = (rw q at o).each 23 place (let w = found_clause A place t.found acc t.is in rw w.0 at w.1)

            in_mains : b ≡ subset (stand_for own.items (recorded A place)) (mains_of A)
            unfolding agreement_of
            in_mains = d ∙ rw (m, bits_are) (within_subset (stand_for own.items (recorded A place)) (mains_of A)
                (stand_small acc place t.found t.is own.items
                (rw p at (parties_nats parties (cells_in zs 2 (2 + n)) own.items cells.are_params).1)))

            pub located_is : {w : Waiting} {r : Maybe Waiting} → w.sight ≡ Waits n (length types) → w.parties ≡ bits
                → r ≡ then_some b w → LocatedIs A place n types zs r
            unfolding LocatedIs
            located_is counts same is = by_then (LocatedIs A place n types zs) is
                (λ yes. record {
                  params = own.items;
                  has = record { cells = rw p at cells; among = sym in_mains ∙ yes };
                  counts = counts;
                  same = same ∙ bits_are;
                })
                (λ not params u.
                let same : params ≡ own.items = some_inj (sym u.cells.are_params ∙ (rw p at cells.are_params)) in
                true_not_false u.among (ap (λ (l : List ℕ). subset (stand_for l (recorded A place)) (mains_of A)) same
                ∙ sym in_mains ∙ not))
