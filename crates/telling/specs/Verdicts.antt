-- The text of a forecast and of a verdict.
use Rattle.std.specs.Prelude.{List, ◌∷◌, ◌++◌, ℕ, Option, Some, None}
use Rattle.lines.specs.Text.{decimal, live, done, breach, none, space}
use Rattle.lines.specs.Shown.{shown_line}
use Rattle.lines.specs.declared.Line.{Line}
use Rattle.monitor.specs.declared.BreachAhead.{BreachAhead}
use Rattle.telling.specs.declared.Verdict.{Verdict}
use Rattle.telling.specs.declared.Verdict.TheVariants.{Live, Done, Breach}

-- behind the word of a verdict
abbrev pub shown_ahead : Option BreachAhead → List ℕ
shown_ahead (Some breach) = (space ∷ decimal breach.time) ++ (space ∷ decimal breach.parties)
shown_ahead None = space ∷ none

abbrev pub shown_verdict : Verdict → List ℕ
shown_verdict (Live ahead) = live ++ shown_ahead ahead
shown_verdict Done = done
shown_verdict (Breach ahead) = breach ++ shown_ahead ahead

abbrev pub text_of : Line Verdict → List ℕ
text_of = shown_line shown_verdict
