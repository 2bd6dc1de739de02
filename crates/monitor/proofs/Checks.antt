-- Laws for `verify`: it makes the tests of csl's `checked` in the same order, so what one of them refuses is refused
-- there, and what none refuses is accepted.
use mathlib.Core.Path.{◌≡◌, refl, sym, ap, ◌∙◌}
use mathlib.Core.Bool.{true, false}
use mathlib.Core.List.{List}
use mathlib.Core.Option.{Option, none, some}
use Prim.Native.Nat.{ℕ}
use native.Mathlib.Omega.{arith}
use Rattle.std.specs.Prelude as std
use Rattle.std.specs.Prelude.{Some, None, Err, Ok, MatchOption, ok_or}
use Rattle.csl.specs.Parties.{bits_of}
use Rattle.csl.specs.Decode.{length_ok, well_formed, agreement_of, decode}
use Rattle.csl.specs.Typing.{typed}
use Rattle.csl.specs.Guards.{guarded_from}
use Rattle.csl.specs.Widths.{narrow_all}
use Rattle.csl.specs.Sizes as sizes
use Rattle.csl.specs.Check.{checked, check_narrow, check_typed, check_decoded, check_of, refused, accepted, mains_in}
use Rattle.csl.specs.Check.{mains_of}
use Rattle.csl.specs.Check.{Accepted, answer_for}
use Rattle.laws.proofs.Bools.{true→T}
use Rattle.laws.proofs.Clash.{impossible}
use Rattle.soundness.proofs.Checked.{passed, fair}
use Rattle.soundness.proofs.Members.{member→in}
use Rattle.soundness.proofs.Runs.{main_in}
use Rattle.parties.specs.Masks.{mask_of}
use Rattle.parties.proofs.Masks.{mask_bits}
use Rattle.typing.specs.Clauses.{typed_as}
use Rattle.monitor.specs.declared.Refusal.{Refusal}
use Rattle.monitor.specs.declared.Refusal.TheVariants.{AgreementForm}
use Rattle.monitor.specs.Answers.{check_answer}
use Rattle.monitor.specs.Steps.{Formed, Read, Verified}

-- ---- what typing answered
untyped : (o : Option (List ℕ)) → None ≡ typed_as o → o ≡ none
unfolding typed_as
untyped none e = refl
untyped (some ps) e = impossible cc

typed_mask : (o : Option (List ℕ)) (p : ℕ) → Some p ≡ typed_as o
    → (ps : List ℕ) × (o ≡ some ps) × (p ≡ mask_of ps)
unfolding typed_as
typed_mask none p e = impossible cc
typed_mask (some ps) p e = (ps, refl, cc)

-- ---- the main clause has no party parameters: its mask is its parties' bits
main_bits : (s mains : List ℕ) → checked s ≡ accepted (agreement_of s) mains → mask_of mains ≡ bits_of mains
main_bits s mains e =
    let f = fair s (agreement_of s) mains (passed s (agreement_of s) mains e) in
    mask_bits mains (λ q m. omega
    (arith, main_in (agreement_of s) mains f q (member→in q mains (true→T m)), f.few))

-- ---- the tests in order, as the code makes them
pub length_refused : (s : List ℕ) → length_ok s ≡ false → checked s ≡ refused 1
unfolding checked
length_refused s e = rw (e, checked) refl

pub read_as : (s : List ℕ) → length_ok s ≡ true → (o : std.Option (List ℕ))
    → MatchOption o (well_formed s ≡ false) (λ a. (a ≡ s) × (well_formed s ≡ true)) → Read s (ok_or o AgreementForm)
unfolding checked decode
read_as s l None e = rw (l, checked, e, decode) refl
read_as s l (Some a) h = (h.0, record { length_ok = l; formed = h.1 })

module _ {s a : List ℕ} (same : a ≡ s) (f : Formed s) where
  decodes : checked s ≡ check_decoded (agreement_of a)
  unfolding checked decode
  decodes = rw (same, f.length_ok, checked, f.formed, decode) refl

  pub typing_refused : None ≡ typed_as (typed (agreement_of a)) → checked s ≡ refused 3
  unfolding check_decoded
  typing_refused e = decodes ∙ rw (untyped _ e, check_decoded) refl

  module _ {p : ℕ} (pe : Some p ≡ typed_as (typed (agreement_of a))) where
    mains : List ℕ
    mains = (typed_mask (typed (agreement_of a)) p pe).0

    types : checked s ≡ check_typed (agreement_of a) mains
    unfolding check_decoded mains
    types = decodes ∙ rw ((typed_mask (typed (agreement_of a)) p pe).1, check_decoded) refl

    pub guards_refused : guarded_from 0 (agreement_of a).templates ≡ false → checked s ≡ refused 4
    unfolding check_typed
    guards_refused e = types ∙ rw (e, check_typed) refl

    module _ (ge : guarded_from 0 (agreement_of a).templates ≡ true) where
      pub width_refused : narrow_all (agreement_of a) ≡ false → checked s ≡ refused 5
      unfolding check_typed
      width_refused e = types ∙ rw (ge, check_typed, e) refl

      module _ (ne : narrow_all (agreement_of a) ≡ true) where
        widths : checked s ≡ check_narrow (agreement_of a) mains
        unfolding check_typed
        widths = types ∙ rw (ge, check_typed, ne) refl

        pub size_refused : sizes.fits (agreement_of a) ≡ false → checked s ≡ refused 15
        unfolding check_narrow
        size_refused e = widths ∙ rw (e, check_narrow) refl

        module _ (fe : sizes.fits (agreement_of a) ≡ true) where
          all : checked s ≡ accepted (agreement_of s) mains
          unfolding check_narrow
          all = widths ∙ rw (fe, check_narrow) refl ∙ ap (λ b. accepted (agreement_of b) mains) same

          own : mains_of s ≡ mains
          unfolding mains_of mains_in
          own = ap mains_in all

          pub accepts : Accepted s
          accepts = record { is = rw own all }

          pub mains_as : p ≡ bits_of (mains_of a)
          unfolding mains
          mains_as = (typed_mask (typed (agreement_of a)) p pe).2 ∙ main_bits s mains all ∙ ap bits_of (sym own)
              ∙ ap (λ b. bits_of (mains_of b)) (sym same)

-- ---- the entry `check`
pub check_no : (s : List ℕ) (r : Refusal) → Verified s (Err r) → check_answer (Err r) ≡ check_of s
unfolding check_of answer_for
check_no s r v = rw v refl

pub check_yes : (s : List ℕ) {p : ℕ} → Accepted s → p ≡ bits_of (mains_of s) → check_answer (Ok p) ≡ check_of s
unfolding check_of answer_for
check_yes s v e = rw (v.is, e) refl

pub ruleset forming = (length_refused, read_as)

pub ruleset verifying = (typing_refused, guards_refused, width_refused, size_refused, accepts, mains_as)

pub ruleset checking = (check_no, check_yes)
