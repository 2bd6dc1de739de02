-- Paper 01, "Pond trials", by computation: inputs, and all that is written for each, as one claim over a list.
-- What is computed is equal to what is written out here by computing, so no comparison is to be believed.
use Rattle.std.specs.Prelude.{List, [], ◌∷◌, ◌++◌, map, ◌≡◌, refl, ℕ, pos, take}
use Rattle.csl.specs.Build.{reading, mark, sample}
use Rattle.csl.specs.Trials as Csl
use Rattle.lines.specs.Text as Text
use Rattle.lines.specs.Lines as Lines
use Rattle.stream.specs.Records as Records
use Rattle.watch.specs.Watched as Watched
use Rattle.watch.specs.Watched.{watched}

pub record Trial : Type 0 where
  pub input : List ℕ
  pub written : List ℕ

-- ---- words and fields by their characters: a digit's is 48 and the digit, a space 32, a line feed 10
unfoldable pub live : List ℕ
live = 76 ∷ 73 ∷ 86 ∷ 69 ∷ []

unfoldable pub done : List ℕ
done = 68 ∷ 79 ∷ 78 ∷ 69 ∷ []

unfoldable pub breach : List ℕ
breach = 66 ∷ 82 ∷ 69 ∷ 65 ∷ 67 ∷ 72 ∷ []

unfoldable pub refused : List ℕ
refused = 82 ∷ 69 ∷ 70 ∷ 85 ∷ 83 ∷ 69 ∷ 68 ∷ []

unfoldable pub dash : List ℕ
dash = 45 ∷ []

unfoldable pub sp : List ℕ → List ℕ → List ℕ
sp f rest = f ++ (32 ∷ rest)

unfoldable pub end : List ℕ → List ℕ → List ℕ
end f rest = f ++ (10 ∷ rest)

unfoldable pub readings : List ℕ
readings = reading 110 (pos 240) ++ (reading 105 (pos 250) ++ reading 160 (pos 250))

-- "0 100 LIVE 160 1", "1 110 LIVE 160 1", "2 105 REFUSED 10"
unfoldable pub first_three : List ℕ → List ℕ
first_three rest =
    sp (48 ∷ []) (sp (49 ∷ 48 ∷ 48 ∷ []) (sp live (sp (49 ∷ 54 ∷ 48 ∷ []) (end (49 ∷ []) (
    sp (49 ∷ []) (sp (49 ∷ 49 ∷ 48 ∷ []) (sp live (sp (49 ∷ 54 ∷ 48 ∷ []) (end (49 ∷ []) (
    sp (50 ∷ []) (sp (49 ∷ 48 ∷ 53 ∷ []) (sp refused (end (49 ∷ 48 ∷ []) rest)))))))))))))

-- the paper's transcript: "3 160 DONE"
unfoldable pub transcript : Trial
transcript = record {
  input = sample ++ readings;
  written = first_three
      (sp (51 ∷ []) (sp (49 ∷ 54 ∷ 48 ∷ []) (end done [])));
}

-- the last reading cut short: "3 - REFUSED 8", and nothing after a reading refused with 8
unfoldable pub cut_short : Trial
cut_short = record {
  input = take 102 (sample ++ readings);
  written = first_three
      (sp (51 ∷ []) (sp dash (sp refused (end (56 ∷ []) []))));
}

unfoldable pub nothing_after_eight : Trial
nothing_after_eight = record {
  input = sample
      ++ (5 ∷ 0 ∷ 64 ∷ 0 ∷ 0 ∷ reading 110 (pos 240));
  written = sp (48 ∷ [])
      (sp (49 ∷ 48 ∷ 48 ∷ []) (sp live (sp (49 ∷ 54 ∷ 48 ∷ [])
      (end (49 ∷ []) (sp (49 ∷ []) (sp dash (sp refused (end (56 ∷ []) []))))))));
}

-- no input, and an agreement cut short: "0 - REFUSED 1"; nothing after a refused start
unfoldable pub start_refused : List ℕ
start_refused = sp (48 ∷ []) (sp dash (sp refused (end (49 ∷ []) [])))

unfoldable pub empty : Trial
empty = record { input = []; written = start_refused }

unfoldable pub one_byte : Trial
one_byte = record { input = 64 ∷ []; written = start_refused }

-- a length field below 2 takes the field's own two bytes
unfoldable pub no_length : Trial
no_length = record { input = 0 ∷ 0 ∷ (sample ++ readings); written = start_refused }

-- "1 161 BREACH 160 1"
unfoldable pub breaches : Trial
breaches = record {
  input = sample ++ mark 161;
  written = sp (48 ∷ [])
      (sp (49 ∷ 48 ∷ 48 ∷ []) (sp live (sp (49 ∷ 54 ∷ 48 ∷ [])
      (end (49 ∷ []) (sp (49 ∷ []) (sp (49 ∷ 54 ∷ 49 ∷ [])
      (sp breach (sp (49 ∷ 54 ∷ 48 ∷ []) (end (49 ∷ []) [])))))))));
}

unfoldable pub trials : List Trial
trials = transcript ∷ cut_short ∷ nothing_after_eight ∷ empty ∷ one_byte ∷ no_length ∷ breaches ∷ []

pub trials_pass : map (λ t. watched t.input) trials ≡ map (λ t. t.written) trials
unfolding Csl.computes Text.computes Lines.computes Records.computes Watched.computes live done breach refused dash sp
    end
    readings first_three transcript cut_short nothing_after_eight start_refused empty one_byte no_length breaches trials
trials_pass = refl
