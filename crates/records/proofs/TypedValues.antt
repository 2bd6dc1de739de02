-- Laws for numbers as values of their types.
use mathlib.Core.Path.{◌≡◌, refl, sym, ap, ◌∙◌}
use mathlib.Core.Bool.{Bool, false, ◌&&◌}
use mathlib.Core.List.{List, [], ◌∷◌}
use mathlib.Core.Logic.{inl, inr}
use Prim.Native.Nat.{ℕ, zero, suc, ◌≤◌}
use native.Mathlib.Omega.{arith}
use borrow.Author.Tests.{lt-leb, le-leb, le-ltb, ne_eqb}
use lib.Dec.{ltb}
use lib.IntN.{ℤ, pos, negsuc, nat_abs}
use lib.ListN.{length}
use mir.Syntax.{w64}
use mir.Val.{SFits}
use Rattle.std.specs.Int.{FitsUnsignedBits}
use Rattle.std.specs.List.{list_all, zip}
use Rattle.std.specs.Prelude.{Result, Ok, Err, MatchResult}
use Rattle.std.specs.Result.{is_ok, result_unwrap_or, OkIff}
use Rattle.kinds.specs.declared.«Type».{«Type»}
use Rattle.kinds.specs.declared.«Type».TheVariants.{Number, Truth, Party}
use Rattle.kinds.specs.declared.Unknown.{Unknown}
use Rattle.csl.specs.Syntax.{truth, party}
use Rattle.csl.specs.Decode.{between, is_type, ty_of, tys_of}
use Rattle.kinds.specs.Kinds.{ty_in, NamesType}
use Rattle.records.specs.TypedValues.{value_ok, values_ok}

-- ---- what a number names is the type that csl reads it as, and one that names none reads as a party
pub type_named : (n : ℕ) (r : Result «Type» Unknown) → NamesType n r → ty_in (result_unwrap_or r Party) ≡ ty_of n
unfolding ty_of
type_named n (Ok Number) e = rw (← e)
type_named n (Ok Truth) e = rw (← e)
type_named n (Ok Party) e = rw (← e)
type_named n (Err u) (inl l) = rw (ne_eqb n 1 (λ q. omega arith), ne_eqb n 2 (λ q. omega arith))
type_named n (Err u) (inr l) = rw (ne_eqb n 1 (λ q. omega arith), ne_eqb n 2 (λ q. omega arith))

pub type_found : (n : ℕ) (r : Result «Type» Unknown) → NamesType n r → is_ok r ≡ is_type n
unfolding is_type between
type_found n (Ok Number) e = rw (← e) refl
type_found n (Ok Truth) e = rw (← e) refl
type_found n (Ok Party) e = rw (← e) refl
type_found n (Err u) (inl l) = rw (lt-leb 1 n l) refl
type_found n (Err u) (inr l) = rw (le-leb 1 n (omega arith), lt-leb n 3 l) refl

-- ---- the cast r of an i64 fails below 0 only; P says what is told of b where it does not
pub cast_below : {E : Type 0} {P : ℕ → Type 0} (b : Bool) (end : ℕ) (r : Result ℕ E) (z : ℤ) → SFits w64 z
    → OkIff r (FitsUnsignedBits 64 z) (nat_abs z) → MatchResult r P (λ _. b ≡ false) → ((n : ℕ) → P n → b ≡ ltb n end)
    → b ≡ value_ok end party z
unfolding value_ok
cast_below b end (Ok n) (pos k) f o m h = h n m ∙ ap (λ i. ltb i end) o.1
cast_below b end (Ok n) (negsuc k) f o m h = absurd o.0
cast_below b end (Err e) (pos k) f o m h = absurd (o (omega (arith, f.sfits)))
cast_below b end (Err e) (negsuc k) f o m h = m

-- ---- a truth is one of two numbers
pub truths : (ps : ℕ) (z : ℤ) → value_ok 2 party z ≡ value_ok ps truth z
unfolding value_ok
truths ps (pos zero) = refl
truths ps (pos (suc zero)) = refl
truths ps (pos (suc (suc n))) = le-ltb (suc (suc n)) 2 (omega arith) ∙ sym (lt-leb (suc (suc n)) 1 (omega arith))
truths ps (negsuc n) = refl

-- ---- values of the types, one for each
pub values_zipped : (ps : ℕ) (ts : List ℕ) (zs : List ℤ) → length ts ≤ length zs
    → list_all (λ p. value_ok ps (ty_of p.0) p.1) (zip ts zs) ≡ values_ok ps (tys_of ts) zs
unfolding values_ok tys_of
values_zipped ps [] zs l = refl
values_zipped ps (t ∷ ts) [] l = absurd (omega arith)
values_zipped ps (t ∷ ts) (z ∷ zs) l = ap (λ b. value_ok ps (ty_of t) z && b) (values_zipped ps ts zs (omega arith))
