-- Texts put one after another are put together, and where there is room for all of a text all of it is put.
use mathlib.Core.Path.{◌≡◌, refl, sym, ap, ap₂, ◌∙◌}
use mathlib.Core.List.{List, [], ◌∷◌, ◌++◌, append_assoc}
use Prim.Native.Nat.{ℕ, zero, suc, ◌+◌, ◌-◌, ◌≤◌, min}
use native.Mathlib.Omega.{arith}
use borrow.Rule.Slice.PartMut.{put_mid, same_len_mid}
use lib.ListN.{length, take, drop, length-append, length-take, length-drop}
use Rattle.std.proofs.lemmas.List.{take_all, take_min}
use Rattle.std.proofs.lemmas.Slice.{take-put_mid}
use Rattle.lines.specs.Put.{OnPage, on_page, put}

-- what of s and t has room is what of s has room, and then of t
front_then : (n : ℕ) (s t : List ℕ) → take n (s ++ t) ≡ take n s ++ take (n - length s) t
front_then zero [] t = refl
front_then zero (b ∷ s) t = let none : 0 - length (b ∷ s) ≡ 0 = omega arith in rw none refl
front_then (suc n) [] t = let all : suc n ≡ suc n - 0 = omega arith in ap (λ k. take k t) all
front_then (suc n) (b ∷ s) t = let less : suc n - length (b ∷ s) ≡ n - length s = omega arith in
    rw less (ap (λ l. b ∷ l) (front_then n s t))

pub put_put : (p : OnPage) (s t : List ℕ) → put (put p s) t ≡ put p (s ++ t)
unfolding put
put_put p s t =
    let room = p.capacity - length p.text in
    let rest : p.capacity - length (p.text ++ take room s) ≡ room - length s =
    omega (arith, length-append p.text (take room s), length-take room s) in
    ap (λ l. record { text = l; capacity = p.capacity }) (ap (λ k. (p.text ++ take room s) ++ take k t) rest
    ∙ append_assoc p.text (take room s) (take (room - length s) t)
    ∙ ap (λ l. p.text ++ l) (sym (front_then room s t)))

pub then : (p : OnPage) (s t : List ℕ) {q r : OnPage} → q ≡ put p s → r ≡ put q t → r ≡ put p (s ++ t)
then p s t e f = f ∙ ap (λ l. put l t) e ∙ put_put p s t

pub put_all : (p : OnPage) (t : List ℕ) → length p.text + length t ≤ p.capacity
    → put p t ≡ record { text = p.text ++ t; capacity = p.capacity }
unfolding put
put_all p t h = ap (λ l. record { text = p.text ++ l; capacity = p.capacity })
    (take_all (p.capacity - length p.text) t (omega (arith, h)))

pub put_length : (p : OnPage) (t : List ℕ) {q : OnPage} → q ≡ put p t → length q.text ≤ length p.text + length t
unfolding put
put_length p t e =
    let room = p.capacity - length p.text in
    omega (arith, ap (λ x. length x.text) e, length-append p.text (take room t), length-take room t)

-- what has room is the front of the text, and is written into the buffer behind what is used
pub written : (p : OnPage) (used n room : ℕ) (l t ys : List ℕ) → on_page used l ≡ p → used ≤ length l
    → room + length p.text ≡ p.capacity → n ≡ min room (length t) → ys ≡ take n t
    → length ys ≡ length (take (used + n - used) (drop used l))
    → on_page (used + n) (put_mid used (used + n - used) l ys) ≡ put p t
unfolding put
written p used n room l t ys view within free least is size =
    let is_room : room ≡ length l - length (take used l) =
    omega (arith, free, ap (λ x. length x.text) view, ap (λ x. x.capacity) view) in
    let sizes = length-take (used + n - used) (drop used l) in
    let front = length-take used l in
    let back = length-drop used l in
    ap₂ (λ m k. record { text = m; capacity = k })
    (take-put_mid used (used + n - used) l ys (used + n) (omega (arith, size)) within
    ∙ ap (λ m. take used l ++ m) (is ∙ ap (λ k. take k t) least ∙ take_min room t ∙ ap (λ k. take k t) is_room))
    (same_len_mid used (used + n - used) l ys size)
    ∙ ap (λ x. put x t) view
