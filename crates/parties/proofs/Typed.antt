-- The parties of a typed clause are valid members.
use mathlib.Core.Bool.{◌&&◌}
use mathlib.Core.List.{List, [], ◌∷◌, ◌++◌, map}
use mathlib.Core.Option.{some}
use mathlib.Core.Path.{◌≡◌}
use Prim.Native.Nat.{ℕ, zero, suc, ◌+◌, ◌≤◌}
use lib.Dec.{eqb}
use lib.ListN.{length}
use Rattle.csl.specs.Lists.{all, at}
use Rattle.csl.specs.Bytes.{byte, le16}
use Rattle.csl.specs.Decode.{Piece, template_head, template_pieces, heads_of}
use Rattle.csl.specs.Syntax.{Ty, truth, Clause, fulfilled, obligation, choice, if, join, instance, bad_clause, Head}
use Rattle.csl.specs.Typing.{Names, blame_ok, has_type, have_types, join_ok, then_sight, type_wait, type_clause}
use Rattle.laws.proofs.Options.{from_bind, from_need, some_inj}
use Rattle.laws.proofs.Bools.{T→true, T-right}
use Rattle.laws.proofs.Clash.{impossible}
use Rattle.parties.specs.Masks.{ValidMembers}
use Rattle.parties.proofs.Masks.{valid_nil, valid_cons, valid_append, valid_blamed, valid_members}

module _ (n : Names) (few_parties : n.parties ≤ 16) (few_params : n.params ≤ 4)
    (heads : (k : ℕ) (h : Head) → at n.heads k ≡ some h → ValidMembers h.declared) where
  pub valid_typed : (c : Clause) (env : List Ty) (ps : List ℕ) → type_clause n env c ≡ some ps → ValidMembers ps
  unfolding type_clause
  valid_typed fulfilled env ps e = rw (← some_inj e) valid_nil
  valid_typed (obligation b w t) env ps e =
      from_need (blame_ok n b) _ ps e λ ok e₁.
      from_bind (type_wait n env w) _ ps e₁ λ vs _ e₂.
      from_bind (type_clause n (then_sight env vs) t) _ ps e₂ λ qs q e₃.
      rw (← some_inj e₃) (valid_cons n b few_parties few_params (T→true _ ok) (valid_typed t (then_sight env vs) qs q))
  valid_typed (choice w t f) env ps e =
      from_bind (type_wait n env w) _ ps e λ vs _ e₁.
      from_bind (type_clause n (then_sight env vs) t) _ ps e₁ λ qs q e₂.
      from_bind (type_clause n env f) _ ps e₂ λ rs r e₃.
      rw (← some_inj e₃) (valid_append (valid_typed t (then_sight env vs) qs q) (valid_typed f env rs r))
  valid_typed (if x t f) env ps e =
      from_bind (has_type n.parties env x truth) _ ps e λ _ _ e₁.
      from_bind (type_clause n env t) _ ps e₁ λ qs q e₂.
      from_bind (type_clause n env f) _ ps e₂ λ rs r e₃.
      rw (← some_inj e₃) (valid_append (valid_typed t env qs q) (valid_typed f env rs r))
  valid_typed (join j t f) env ps e =
      from_bind (type_clause n env t) _ ps e λ qs q e₁.
      from_bind (type_clause n env f) _ ps e₁ λ rs r e₂.
      from_need (join_ok j (qs ++ rs)) _ ps e₂ λ _ e₃.
      rw (← some_inj e₃) (valid_append (valid_typed t env qs q) (valid_typed f env rs r))
  valid_typed (instance k es bs) env ps e =
      from_bind (at n.heads k) _ ps e λ h a e₁.
      from_bind (have_types n.parties env es h.values) _ ps e₁ λ _ _ e₂.
      from_need (eqb (length bs) h.params && all (blame_ok n) bs) _ ps e₂ λ ok e₃.
      rw (← some_inj e₃)
      (valid_append (heads k h a) (valid_blamed n bs few_parties few_params
      (T→true _ (T-right (eqb (length bs) h.params) (all (blame_ok n) bs) ok))))
  valid_typed bad_clause env ps e = impossible cc

-- so are the declared parties of decoded heads
heads_valid : (qs : List Piece) (k : ℕ) (h : Head) → at (map (λ q. template_head q.bytes) qs) k ≡ some h
    → ValidMembers h.declared
unfolding at template_head
heads_valid [] k h e = impossible cc
heads_valid (q ∷ qs) zero h e = let s : template_head q.bytes ≡ h = cc in
    rw (← s) (valid_members (le16 q.bytes (6 + byte q.bytes 4)))
heads_valid (q ∷ qs) (suc k) h e = heads_valid qs k h e

pub declared_valid : (s : List ℕ) (k : ℕ) (h : Head) → at (heads_of s) k ≡ some h → ValidMembers h.declared
unfolding heads_of
declared_valid s = heads_valid (template_pieces s)
