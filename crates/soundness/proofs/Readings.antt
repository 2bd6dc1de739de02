-- A reading that fits has values of its reading type.
use mathlib.Core.Bool.{◌&&◌}
use mathlib.Core.List.{List, [], ◌∷◌}
use mathlib.Core.Option.{some}
use mathlib.Core.Path.{ap, refl, subst, sym, ◌∙◌, ◌≡◌}
use Prim.Native.Nat.{◌%◌, ◌+◌, ◌-◌, ◌<◌, ◌^◌, suc, zero, ℕ}
use native.Mathlib.Omega.{arith}
use lib.Dec.{eqb, ltb, ltb→lt}
use lib.IntN.{ℤ}
use lib.ListN.{length}
use Rattle.csl.specs.Lists.{all}
use Rattle.csl.specs.Numbers.{in_range}
use Rattle.csl.specs.Bytes.{byte, is_record, kind_number, le16, le32}
use Rattle.csl.specs.Syntax.{Agreement, Ty, number, party, truth}
use Rattle.csl.specs.Decode.{between, decode}
use Rattle.csl.specs.Typing.{reading_of_type}
use Rattle.csl.specs.Values.{Val, as_nat, as_truth, value_of, values_of}
use Rattle.csl.specs.Rules.{Reading}
use Rattle.csl.specs.Run.{Raw, raw_reading, typed_reading, values_wanted}
use Rattle.csl.specs.Demand3.{Bytes, fitting}
use Rattle.csl.specs.Marks.{time_in}
use Rattle.laws.proofs.Bools.{T-left, T-right}
use Rattle.laws.proofs.Options.{from_bind, from_need, some_inj}
use Rattle.laws.proofs.Clash.{impossible}
use Rattle.soundness.proofs.Evaluation.{HasTy, HaveTy}
use Rattle.soundness.proofs.Following.{ReadingOk}
use Rattle.soundness.proofs.Decoding.{decoded}

truths : (ps n : ℕ) (v : Val) → as_truth n ≡ some v → HasTy ps truth v
unfolding as_truth HasTy
truths ps zero v q = subst (λ w. HasTy ps truth w) (some_inj q) tt
truths ps (suc zero) v q = subst (λ w. HasTy ps truth w) (some_inj q) tt
truths ps (suc (suc n)) v q = impossible cc

value_typed : (ps : ℕ) (t : Ty) (z : ℤ) (v : Val) → value_of ps t z ≡ some v → HasTy ps t v
unfolding value_of HasTy
value_typed ps number z v e = from_need (in_range z) _ v e λ t b. subst (λ w. HasTy ps number w) (some_inj b) t
value_typed ps truth z v e = from_bind (as_nat z) _ v e λ n a b. truths ps n v b
value_typed ps party z v e = from_bind (as_nat z) _ v e λ n a b. from_need (ltb n ps) _ v b λ t c. subst
    (λ w. HasTy ps party w) (some_inj c) t

pub values_typed : (ps : ℕ) (ts : List Ty) (zs : List ℤ) (r : List Val × List ℤ) → values_of ps ts zs ≡ some r
    → HaveTy ps ts r.0
unfolding values_of HaveTy
values_typed ps [] zs r e = subst (λ z. HaveTy ps [] z.0) (some_inj e) tt
values_typed ps (t ∷ ts) [] r e = impossible cc
values_typed ps (t ∷ ts) (z ∷ zs) r e =
    from_bind (value_of ps t z) _ r e λ v a₁ b₁.
    from_bind (values_of ps ts zs) _ r b₁ λ q a₂ b₂.
    subst (λ w. HaveTy ps (t ∷ ts) w.0) (some_inj b₂) (value_typed ps t z v a₁, values_typed ps ts zs q a₂)

wanted_same : (a : Agreement) (k : ℕ) (ts us : List Ty) → values_wanted a k ≡ some ts
    → reading_of_type a.readings k ≡ some us → ts ≡ us
unfolding values_wanted reading_of_type
wanted_same a zero ts us p q = impossible cc
wanted_same a (suc k) ts us p q = some_inj (sym p ∙ q)

-- a reading that 9 does not refuse has values of the types its clause will see
pub reading_ok : (a : Agreement) (w : Raw) (d : Reading) → typed_reading a w ≡ some d → ReadingOk a d
    × (d.time ≡ w.time)
unfolding typed_reading ReadingOk
reading_ok a w d e =
    from_bind (values_wanted a w.type) _ d e λ ts a₁ b₁.
    from_need (eqb (length ts) (length w.numbers)) _ d b₁ λ t b₂.
    from_bind (values_of a.parties ts w.numbers) _ d b₂ λ vs a₃ b₃.
    subst (λ z. ((us : List Ty) → reading_of_type a.readings z.type ≡ some us
    → HaveTy a.parties us z.values) × (z.time ≡ w.time)) (some_inj b₃)
    (kind w.type ts vs.0 a₁ (values_typed a.parties ts w.numbers vs a₃), refl)
  where
    kind : (k : ℕ) (ts : List Ty) (vs : List Val) → values_wanted a k ≡ some ts → HaveTy a.parties ts vs
        → (us : List Ty) → reading_of_type a.readings k ≡ some us → HaveTy a.parties us vs
    kind k ts vs p h us q = subst (λ z. HaveTy a.parties z vs) (wanted_same a k ts us p q) h

-- ---- bytes are below 256, so a time of four bytes is below 2^32
byte_below : (s : List ℕ) (i : ℕ) → Bytes s → byte s i < 256
unfolding Bytes all
byte_below [] i h = omega arith
byte_below (x ∷ xs) zero h = ltb→lt x 256 (T-left (ltb x 256) _ h)
byte_below (x ∷ xs) (suc i) h = byte_below xs i (T-right (ltb x 256) _ h)

pub time_below : (s : List ℕ) (i : ℕ) → Bytes s → le32 s i < 2 ^ 32
unfolding le32 le16
time_below s i h = omega (
  arith,
  byte_below s i h,
  byte_below s (i + 1) h,
  byte_below s (i + 2) h,
  byte_below s (i + 2 + 1) h,
)

pub raw_time : (bytes : List ℕ) (w : Raw) → Bytes bytes → raw_reading bytes ≡ some w → w.time < 2 ^ 32
unfolding raw_reading
raw_time s w h e =
    from_need (is_record s && eqb (kind_number s) 64) _ w e λ t₁ b₁.
    from_need (between 9 25 (length s) && eqb ((length s - 9) % 4) 0) _ w b₁ λ t₂ b₂.
    subst (λ z. z.time < 2 ^ 32) (some_inj b₂) (time_below s 4 h)

-- an agreement's start time fits 32 bits
pub start_lt : (bytes : List ℕ) (a : Agreement) → Bytes bytes → decode bytes ≡ some a → a.start < 2 ^ 32
start_lt s a h e = subst (λ t. t < 2 ^ 32) (sym (decoded s a e).start) (time_below s 4 h)

-- a reading that fits is one that 9 does not refuse
pub fitting_ok : (a : Agreement) (m : List ℕ) (d : Reading) → fitting a m ≡ some d → ReadingOk a d
unfolding fitting
fitting_ok a m d e = from_bind (raw_reading m) _ d e λ w p q. (reading_ok a w d q).0

-- the time of a reading that fits is the one that its bytes give
pub fitting_time : (a : Agreement) (m : List ℕ) (d : Reading) → fitting a m ≡ some d → d.time ≡ time_in m
unfolding fitting raw_reading time_in
fitting_time a m d e =
    from_bind (raw_reading m) _ d e λ w p q.
    from_need (is_record m && eqb (kind_number m) 64) _ w p λ _ b₁.
    from_need (between 9 25 (length m) && eqb ((length m - 9) % 4) 0) _ w b₁ λ _ b₂. (reading_ok a w d q).1
    ∙ ap (λ x. x.time) (sym (some_inj b₂))
