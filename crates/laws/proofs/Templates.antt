-- A template whose head is as listed has at most four party parameters.
use mathlib.Core.Bool.{◌&&◌}
use mathlib.Core.List.{List}
use Prim.Native.Nat.{ℕ, ◌+◌, ◌≤◌}
use lib.Dec.{T, leb, leb→le}
use lib.ListN.{length}
use Rattle.csl.specs.Lists.{all}
use Rattle.csl.specs.Bytes.{byte, is_record, part}
use Rattle.csl.specs.Decode.{body_place, few_units, is_type, template_head, template_ok, units_declared}
use Rattle.laws.proofs.Bools.{T-left, T-right}

pub params_few : (s : List ℕ) → T (template_ok s) → (template_head s).params ≤ 4
unfolding template_ok template_head
params_few s t =
    let head = is_record s && leb (byte s 4) 8 && leb (body_place s) (length s)
    && all is_type (part s 5 (5 + byte s 4)) in
    let few = leb (byte s (5 + byte s 4)) 4 in
    leb→le (byte s (5 + byte s 4)) 4
    (T-right head few (T-left (head && few) (few_units (units_declared s)) t))
