-- The text of a value of the type `Line`.
use Rattle.std.specs.Prelude.{List, [], ◌∷◌, ◌++◌, ℕ, Option, Some, None, Result, Ok, Err}
use Rattle.lines.specs.Text.{decimal, dash, space, refused, line}
use Rattle.lines.specs.declared.Line.{Line}

abbrev pub shown_time : Option ℕ → List ℕ
shown_time (Some time) = decimal time
shown_time None = dash

-- a verdict has its own text
abbrev pub shown_says : {V : Type 0} → (V → List ℕ) → Result V ℕ → List ℕ
shown_says text (Ok verdict) = text verdict
shown_says text (Err refusal) = refused ++ (space ∷ decimal refusal)

abbrev pub shown_line : {V : Type 0} → (V → List ℕ) → Line V → List ℕ
shown_line text l = line l.number (shown_time l.time ∷ shown_says text l.says ∷ [])
