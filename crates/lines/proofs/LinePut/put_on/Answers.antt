-- A line is put as its parts, one behind another.
use Rattle.std.proofs.Common.{[], ◌∷◌, ◌++◌, List, ℕ}
use Rattle.lines.specs.Text.{decimal, space, newline, fields, line}
use Rattle.lines.specs.Shown.{shown_time, shown_says}
use Rattle.lines.proofs.Puts.{then}
use Rattle.lines.proofs.LinePut.put_on.Goals as goal

pub returns : goal.returns
unfolding line fields
returns g c =
    let l = c.args.self.now in
    let end : List ℕ = newline ∷ [] in
    let gap : List ℕ = space ∷ [] in
    let said : List ℕ = shown_says g.V.Put.text l.says in
    then c.args.page.now (decimal l.number) (gap ++ (shown_time l.time ++ (gap ++ (said ++ end))))
    c.put_decimal.ensures.puts
    (then c.put_decimal.new.self gap (shown_time l.time ++ (gap ++ (said ++ end))) c.put_bytes.ensures
    (then c.put_bytes.new.self (shown_time l.time) (gap ++ (said ++ end)) c.put_time.ensures
    (then c.put_time.new.page gap (said ++ end) c.put_bytes-2.ensures
    (then c.put_bytes-2.new.self said end c.put_says.ensures c.put_bytes-3.ensures))))
