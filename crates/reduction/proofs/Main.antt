-- The main clause's activation: it stands at its place, with nothing in sight.
use mathlib.Core.Path.{sym}
use mathlib.Core.List.{List, []}
use Prim.Native.Nat.{ℕ}
use lib.IntN.{ℤ}
use Rattle.csl.specs.Bytes.{byte, le32}
use Rattle.csl.specs.Decode.{agreement_of, main_of, main_place, heads_of, clause}
use Rattle.records.specs.Index.{main_bytes}
use Rattle.records.proofs.Index.{templates_length}
use Rattle.cells.specs.Reduce as cells
use Rattle.residues.specs.Tallies.{Reckons}
use Rattle.activation.specs.Leads.{reckon_below}
use Rattle.residues.specs.declared.Reckoned.{Reckoned}
use Rattle.reduction.specs.Steps.{main_reckoned}

pub main_is : (s : List ℕ) (r : Reckoned) (out : List ℤ)
    → Reckons (reckon_below cells.activating s (byte s 10) (clause (heads_of s) 23 (main_place s) (main_bytes s)) [] []
    (le32 s 4)) r out → Reckons (main_reckoned s) r out
unfolding main_reckoned main_of agreement_of reckon_below cells.reduce
main_is s r out h = rw (sym (templates_length s)) at h
