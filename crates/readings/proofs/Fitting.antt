-- Laws for a reading against the agreement's reading types.
use mathlib.Core.Path.{◌≡◌, refl, sym, ap, ◌∙◌}
use mathlib.Core.Bool.{Bool, true, false, ◌&&◌}
use mathlib.Core.List.{List, []}
use mathlib.Core.Logic.{◌⊎◌, inl, inr}
use mathlib.Core.Option.{none, some}
use Prim.Native.Nat.{ℕ, zero, suc, ◌-◌, ◌<◌}
use native.Mathlib.Omega.{arith}
use borrow.Author.Tests.{eq-eqb, ne_eqb}
use lib.Dec.{eqb, eqb→eq}
use lib.IntN.{ℤ}
use lib.ListN.{length}
use Rattle.std.specs.Prelude.{Option, Some, None, Ok}
use Rattle.std.specs.Option.{ok_or}
use Rattle.std.specs.Bool.{then_some}
use Rattle.readings.specs.declared.Misfit.{Misfit}
use Rattle.readings.specs.Values.{values_read}
use Rattle.readings.specs.declared.Misfit.TheVariants.{Untyped}
use Rattle.csl.specs.Lists.{◌>>=◌, at}
use Rattle.csl.specs.Bytes.{byte}
use Rattle.csl.specs.Syntax.{Ty, Agreement}
use Rattle.csl.specs.Decode.{agreement_of, tys_of}
use Rattle.csl.specs.Values.{values_of}
use Rattle.csl.specs.Rules.{Reading}
use Rattle.csl.specs.Run as run
use Rattle.csl.specs.Run.{raw_reading, typed_reading, values_wanted}
use Rattle.csl.specs.Table.{cells_of}
use Rattle.laws.proofs.Options.{some_inj, from_bind, from_need}
use Rattle.laws.proofs.Types.{types_length}
use Rattle.records.specs.Index.{ReadingTypes}
use Rattle.records.proofs.Index.{readings_past}
use Rattle.readings.specs.declared.reading.Reading.{Reading as Read}
use Rattle.readings.specs.Taking.{given, RawRead, RawIs, TypedIs, UntypedRead, FittingRead}
use Rattle.readings.specs.Taking.{TakenIs}
use Rattle.readings.proofs.Options.{given_some, given_none, given_then}
use Rattle.records.specs.TypedValues.{values_ok}
use Rattle.readings.proofs.Values.{all_given, values_cells}

-- the reading that fits has the time, the type and the numbers that were read
record Kept (w : run.Raw) (d : Reading) : Type 0 where
  pub time : w.time ≡ d.time
  pub type : w.type ≡ d.type
  pub cells : w.numbers ≡ cells_of d.values
  pub count : length w.numbers ≡ length d.values

-- ---- whether a reading fits, by the types wanted
module _ (a : Agreement) (w : run.Raw) where
  typed_none : values_wanted a w.type ≡ none → false ≡ given (typed_reading a w)
  unfolding typed_reading given ◌>>=◌
  typed_none e = rw e refl

  typed_some : (ts : List Ty) → values_wanted a w.type ≡ some ts
      → given (typed_reading a w) ≡ eqb (length ts) (length w.numbers)
      && given (values_of a.parties ts w.numbers)
  unfolding typed_reading ◌>>=◌
  typed_some ts e = rw e (given_then (eqb (length ts) (length w.numbers)) (values_of a.parties ts w.numbers)
      (λ vs. record {
        time = w.time;
        type = w.type;
        values = vs.0;
      }))

  typed_kept : (d : Reading) → typed_reading a w ≡ some d → Kept w d
  unfolding typed_reading
  typed_kept d e =
      from_bind (values_wanted a w.type) _ d e λ ts a₁ b₁.
      from_need (eqb (length ts) (length w.numbers)) _ d b₁ λ t b₂.
      from_bind (values_of a.parties ts w.numbers) _ d b₂ λ vs a₃ b₃.
      let k = values_cells a.parties ts w.numbers vs (eqb→eq (length ts) (length w.numbers) t) a₃ in
      rw (← some_inj b₃) record { time = refl; type = refl; cells = k.0; count = k.1 }

wanted_mark : (a : Agreement) → values_wanted a 0 ≡ some []
unfolding values_wanted
wanted_mark a = refl

wanted_at : (a : Agreement) (k : ℕ) → 0 < k → values_wanted a k ≡ at a.readings (k - 1)
unfolding values_wanted
wanted_at a zero l = absurd (omega arith)
wanted_at a (suc k) l = let e : suc k - 1 ≡ k = omega arith in rw e refl

-- ---- "Reading type 0 is a time mark without values"
no_more : (n : ℕ) → eqb n 0 ≡ eqb 0 n && true
no_more zero = refl
no_more (suc n) = rw (ne_eqb (suc n) 0 (λ e. omega arith), ne_eqb 0 (suc n) (λ e. omega arith))

pub typed_mark : (s : List ℕ) (vs : List ℤ) {k : ℕ} → k ≡ 0 → TypedIs s k vs (eqb (length vs) 0)
unfolding values_of given
typed_mark s vs {k} e = record {
  is = λ w p q. no_more (length vs)
      ∙ rw (ap length q) (sym (typed_some (agreement_of s) w [] (rw (← p, e) (wanted_mark (agreement_of s)))));
}

-- ---- "type over the reading count"
typed_past : (s : List ℕ) (vs : List ℤ) {k b : ℕ} → b ≡ byte s 9 → b < k → TypedIs s k vs false
typed_past s vs {k} p l = record {
  is = λ w h q. typed_none (agreement_of s) w
      (rw (← h) (wanted_at (agreement_of s) k (omega arith) ∙ readings_past s (k - 1) (omega arith)));
}

-- no values are wanted, and it is no mark
pub typed_unwanted : (s : List ℕ) (vs : List ℤ) {k : ℕ} → (k ≡ 0) ⊎ (byte s 9 < k) → (k ≡ 0 → ⊥) → TypedIs s k vs false
typed_unwanted s vs (inl e) f = absurd (f e)
typed_unwanted s vs (inr l) f = typed_past s vs refl l

-- ---- the reading type's types are ts, the values vs
module _ {s : List ℕ} {k : ℕ} {ts : List ℕ} (l : 0 < k) (x : ReadingTypes s (k - 1) ts) (vs : List ℤ) where
  wanted : (w : run.Raw) → k ≡ w.type → values_wanted (agreement_of s) w.type ≡ some (tys_of ts)
  wanted w h = rw (← h) (wanted_at (agreement_of s) k l ∙ x.typed)

  -- "wrong value count"
  pub typed_count : (length ts ≡ length vs → ⊥) → TypedIs s k vs false
  typed_count i = record {
    is = λ w y z.
        let c : length (tys_of ts) ≡ length w.numbers → ⊥ = λ j. i (sym (types_length ts) ∙ j ∙ sym (ap length z)) in
        sym (typed_some (agreement_of s) w (tys_of ts) (wanted w y)
        ∙ rw (ne_eqb (length (tys_of ts)) (length w.numbers) c) refl);
  }

  -- "value not of its type or out of its range"
  pub typed_values : {ps : ℕ} {r : Bool} → length ts ≡ length vs → ps ≡ byte s 8 → r ≡ values_ok ps (tys_of ts) vs
      → TypedIs s k vs r
  unfolding agreement_of
  typed_values i u v = record {
    is = λ w y z.
        let c : length (tys_of ts) ≡ length w.numbers = types_length ts ∙ i ∙ ap length z in
        v ∙ ap (λ j. values_ok j (tys_of ts) vs) u ∙ ap (values_ok (byte s 8) (tys_of ts)) z
        ∙ all_given (byte s 8) (tys_of ts) w.numbers
        ∙ sym (typed_some (agreement_of s) w (tys_of ts) (wanted w y)
        ∙ rw (eq-eqb (length (tys_of ts)) (length w.numbers) c) refl);
  }

-- ---- the reading that was read, where there is one
pub was_read : (bytes : List ℕ) (o : Option Read) (m : Misfit) {r : Read} → Ok r ≡ ok_or o m → RawIs bytes o
    → RawRead bytes r
was_read bytes None m e h = absurd cc
was_read bytes (Some q) m {r} e h = let same : q ≡ r = cc in rw same at h

-- ---- the answer
module _ {s bytes : List ℕ} {r : Read} {u : Bool} (x : RawRead bytes r) (y : TypedIs s r.tag (values_read r) u) where
  told : u ≡ given (typed_reading (agreement_of s) x.raw)
  told = y.is x.raw x.type x.numbers

  gives_untyped : u ≡ false → UntypedRead s bytes
  gives_untyped e = record {
    raw = x.raw;
    is = x.is;
    untyped = given_none (typed_reading (agreement_of s) x.raw) (sym told ∙ e);
  }

  gives_fitting : u ≡ true → FittingRead s bytes r
  gives_fitting e = given_some (typed_reading (agreement_of s) x.raw) (sym told ∙ e) λ d h.
      let q = typed_kept (agreement_of s) x.raw d h in
      record {
        raw = x.raw;
        reading = d;
        is = x.is;
        typed = h;
        time = x.time ∙ q.time;
        type = x.type ∙ q.type;
        count = ap length x.numbers ∙ q.count;
        cells = x.numbers ∙ q.cells;
        few = x.few;
        small = x.small;
      }

  pub gives : TakenIs s bytes (ok_or (then_some u r) Untyped)
  gives = go u refl
    where
      go : (b : Bool) → u ≡ b → TakenIs s bytes (ok_or (then_some b r) Untyped)
      go true e = gives_fitting e
      go false e = gives_untyped e
