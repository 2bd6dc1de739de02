-- Laws for the widths of an agreement's templates: the list as it is filled, and what the counted widths say in place
-- of the widths.
use mathlib.Core.Path.{◌≡◌, refl, sym, ap, ◌∙◌}
use mathlib.Core.Bool.{Bool, true, false, ◌&&◌}
use mathlib.Core.List.{List, [], ◌∷◌, ◌++◌}
use Prim.Native.Nat.{ℕ, suc, ◌+◌, ◌<◌, ◌≤◌, min}
use native.Mathlib.Decide.{dec_le}
use native.Mathlib.Omega.{arith}
use lib.ListN.{length, get_or, length-append, get_or-append, get_or-eq_default}
use lib.Seq.{get_or_at}
use Rattle.csl.specs.Lists.{all, at}
use Rattle.csl.specs.Bytes.{byte}
use Rattle.csl.specs.Syntax.{Clause, fulfilled, obligation, choice, if, join, instance, bad_clause, Template}
use Rattle.csl.specs.Decode.{agreement_of, main_of}
use Rattle.csl.specs.Widths.{or_zero, width, widths_from, narrow, thens_narrow, all_narrow, narrow_all}
use Rattle.laws.proofs.Bools.{false_first, true_first}
use Rattle.laws.proofs.Lists.{number_at}
use Rattle.guards.specs.Walk.{counted, AsWide, body_at}
use Rattle.guards.proofs.Wide.{sat, leb_min}
use Rattle.guards.proofs.Bodies.{templates_from, from_first, from_last, widths_next}

-- ---- a clause is as wide by the counted widths, up to 257
sat_both : (a b x y : ℕ) → min a 257 ≡ min x 257 → min b 257 ≡ min y 257 → min (1 + a + b) 257 ≡ min (1 + x + y) 257
sat_both a b x y p q = sym (sat a b) ∙ rw (p, q) (sat x y)

sat_one : (b y : ℕ) → min b 257 ≡ min y 257 → min (1 + b) 257 ≡ min (1 + y) 257
sat_one b y q = omega arith

module _ (ws ys : List ℕ) (h : AsWide ws ys) where
  pub counted_same : (c : Clause) → counted ws c ≡ counted ys c
  unfolding counted width
  counted_same fulfilled = refl
  counted_same (obligation b w t) = refl
  counted_same (choice w t f) = sat_one (width ws f) (width ys f) (counted_same f)
  counted_same (if e t f) = sat_both (width ws t) (width ws f) (width ys t) (width ys f) (counted_same t)
      (counted_same f)
  counted_same (join j t f) = sat_both (width ws t) (width ws f) (width ys t) (width ys f) (counted_same t)
      (counted_same f)
  counted_same (instance k es bs) = sat_one (or_zero (at ws k)) (or_zero (at ys k))
      (rw (number_at ws k, number_at ys k) (h.wide k))
  counted_same bad_clause = refl

  narrow_same : (c : Clause) → narrow ws c ≡ narrow ys c
  unfolding narrow counted
  narrow_same c = sym (leb_min (width ws c)) ∙ rw (counted_same c) (leb_min (width ys c))

  thens_same : (c : Clause) → thens_narrow ws c ≡ thens_narrow ys c
  unfolding thens_narrow
  thens_same fulfilled = refl
  thens_same (obligation b w t) = rw (narrow_same t, thens_same t)
  thens_same (choice w t f) = rw (narrow_same t, thens_same t, thens_same f)
  thens_same (if e t f) = rw (thens_same t, thens_same f)
  thens_same (join j t f) = rw (thens_same t, thens_same f)
  thens_same (instance k es bs) = refl
  thens_same bad_clause = refl

  pub all_same : (c : Clause) → all_narrow ws c ≡ all_narrow ys c
  unfolding all_narrow
  all_same c = rw (narrow_same c, thens_same c)

  pub bodies_same : (ts : List Template) → all (λ t. all_narrow ws t.body) ts ≡ all (λ t. all_narrow ys t.body) ts
  unfolding all
  bodies_same [] = refl
  bodies_same (t ∷ ts) = rw (all_same t.body, bodies_same ts)

-- ---- the widths so far: those of the first k templates
pub record Filled (s : List ℕ) (k : ℕ) (ys : List ℕ) : Type 0 where
  pub known : List ℕ
  pub many : length known ≡ k
  pub room : length ys ≡ k
  pub wide : AsWide known ys
  pub rest : widths_from [] (agreement_of s).templates ≡ widths_from known (templates_from s k)

pub none_filled : (s ys : List ℕ) → ys ≡ [] → Filled s 0 ys
none_filled s ys e = record {
  known = [];
  many = refl;
  room = rw e refl;
  wide = record { wide = λ k. rw e };
  rest = ap (widths_from []) (from_first s);
}

pub all_filled : (s ys : List ℕ) {k : ℕ} → byte s 10 ≤ k → Filled s k ys
    → AsWide (widths_from [] (agreement_of s).templates) ys
unfolding widths_from
all_filled s ys {k} l x = rw (x.rest, from_last s k l) x.wide

-- one width more, w, counted as r
wide_more : (ws ys : List ℕ) (w r : ℕ) → AsWide ws ys → length ws ≡ length ys → min w 257 ≡ min r 257
    → AsWide (ws ++ (w ∷ [])) (ys ++ (r ∷ []))
wide_more ws ys w r h l e = record { wide = λ j. test j (dec_le (suc j) (length ws)) (dec_le j (length ws)) }
  where
    test : (j : ℕ) → Dec (j < length ws) → Dec (j ≤ length ws)
        → min (get_or (ws ++ (w ∷ [])) j 0) 257 ≡ min (get_or (ys ++ (r ∷ [])) j 0) 257
    test j (yes p) q = rw (get_or-append ws (w ∷ []) 0 j p, get_or-append ys (r ∷ []) 0 j (omega arith)) (h.wide j)
    test j (no p) (yes q) = rw (get_or_at ws w [] 0 j (omega arith), get_or_at ys r [] 0 j (omega arith)) e
    test j (no p) (no q) =
        let o = get_or-eq_default (ws ++ (w ∷ [])) 0 {n = j} (omega (arith, length-append ws (w ∷ []))) in
        let n = get_or-eq_default (ys ++ (r ∷ [])) 0 {n = j} (omega (arith, length-append ys (r ∷ []))) in
        rw (o, n)

pub more_filled : (s ys : List ℕ) {k r : ℕ} → k < byte s 10 → Filled s k ys → r ≡ counted ys (body_at s k)
    → Filled s (k + 1) (ys ++ (r ∷ []))
unfolding counted
more_filled s ys {k} {r} l x e =
    let ws = x.known in
    let w = width ws (body_at s k) in
    let q : min w 257 ≡ min r 257 = omega (arith, counted_same ws ys x.wide (body_at s k)) in
    record {
      known = ws ++ (w ∷ []);
      many = length-append ws (w ∷ []) ∙ ap (λ n. n + 1) x.many;
      room = length-append ys (r ∷ []) ∙ ap (λ n. n + 1) x.room;
      wide = wide_more ws ys w r x.wide (x.many ∙ sym x.room) q;
      rest = x.rest ∙ widths_next s k l ws;
    }

-- ---- the whole agreement, by the widths that code has filled
module _ (s ys : List ℕ) (h : AsWide (widths_from [] (agreement_of s).templates) ys) {x : Bool}
    (e : x ≡ all_narrow ys (main_of s)) where
  narrow_by : narrow_all (agreement_of s) ≡ (all_narrow ys (main_of s)
      && all (λ t. all_narrow ys t.body) (agreement_of s).templates)
  unfolding narrow_all agreement_of
  narrow_by = rw (all_same _ ys h (main_of s), bodies_same _ ys h (agreement_of s).templates)

  pub narrow_off : x ≡ false → x ≡ narrow_all (agreement_of s)
  narrow_off q = false_first _ _ e q q ∙ sym narrow_by

  pub narrow_on : {y : Bool} → x ≡ true → y ≡ all (λ t. all_narrow ys t.body) (agreement_of s).templates
      → y ≡ narrow_all (agreement_of s)
  narrow_on q g = true_first _ _ e q g ∙ sym narrow_by
