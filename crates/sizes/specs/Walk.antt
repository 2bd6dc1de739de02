-- What the walk over the bytes of a clause answers, and what is known of the units that the templates declare.
use Rattle.std.specs.Prelude.{◌≡◌, Bool, ◌&&◌, List, ℕ, ◌≤◌, min, leb, get_or}
use Rattle.csl.specs.Lists.{all, there}
use Rattle.csl.specs.Syntax.{Clause, Agreement}
use Rattle.csl.specs.Decode.{agreement_of}
use Rattle.csl.specs.Sizes.{units_of, clause_need, main_need, body_fits}

-- a need above 128 counts as 129
unfoldable pub counted : List ℕ → Clause → ℕ
counted us c = min (clause_need us c) 129

-- every template declares its units
abbrev pub declare_all : List ℕ → Bool
declare_all s = all (λ t. there t.head.units) (agreement_of s).templates

-- us are the units that the templates of the agreement s declare, none above 128
pub record Declared (s us : List ℕ) : Type 0 where
  pub are : us ≡ units_of (agreement_of s).templates
  pub few : (k : ℕ) → get_or us k 0 ≤ 128

-- what is asked of an agreement that is sized
abbrev pub all_fit : Agreement → Bool
all_fit a = leb (main_need a) 128 && all (body_fits (units_of a.templates)) a.templates
