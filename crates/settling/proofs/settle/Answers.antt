-- An outcome that ends the run leaves its head alone, and a residue goes on as `go_on` writes it.
use mathlib.Core.Path.{◌≡◌, ◌∙◌}
use Prim.Native.Nat.{ℕ, ◌-◌, ◌*◌, ◌/◌, ◌≤◌}
use native.Mathlib.Omega.{arith}
use lib.ListN.{length, drop, length-drop}
use lib.Seq.{take_all}
use Rattle.arith.proofs.Ints.{read}
use Rattle.settling.proofs.Settled.{settled_done, settled_breach, settled_running}
use Rattle.settling.proofs.settle.Goals as goal

pub returns-in-Done : goal.returns-in-Done
returns-in-Done c =
    settled_done _ c.args.used c.args.out.now c.args.table.now (read c.ranges.time ∙ c.requires.2)
    c.end_run.new.table c.in-Done.is c.end_run.ensures

pub returns-in-Breach : goal.returns-in-Breach
returns-in-Breach c =
    settled_breach _ c.args.used c.args.out.now c.args.table.now (read c.ranges.time ∙ c.requires.2)
    c.end_run-in-Breach.new.table c.in-Breach.b c.in-Breach.is c.end_run-in-Breach.ensures

pub returns-in-Running : goal.returns-in-Running
returns-in-Running c =
    let n : ℕ = c.in-Running.n in
    let out = c.args.out.now in
    let few : n ≤ 128 = rw c.in-Running.is at c.requires.1.few in
    let room : 24 * n ≤ length out = rw c.in-Running.is at c.requires.1.room in
    let from : ℕ = length out - 24 * n in
    let long : length (drop from out) ≡ 24 * n = length-drop from out ∙ omega (arith, room) in
    let part = take_all (length out - from) (drop from out) (omega (arith, length-drop from out)) in
    let units : length (drop from out) / 24 ≡ n = omega (arith, long) in
    settled_running _ c.args.used out c.args.table.now (read c.ranges.time ∙ c.requires.2) n few room
    c.go_on.new.table (rw (part, units) at c.go_on.ensures.0) c.in-Running.is (rw part at c.go_on.ensures.1)
