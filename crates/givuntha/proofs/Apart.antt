-- A caller in C can tell every two answers of a start apart, every two of a reading and every two of a preview,
-- whatever is lent.
use mathlib.Core.Path.{◌≡◌, refl, sym, ap, ap₂, ◌∙◌, subst}
use mathlib.Core.List.{List}
use Prim.Native.Nat.{ℕ}
use native.Mathlib.Omega.{arith}
use lib.IntN.{ℤ}
use Rattle.csl.specs.Entries.{Forecast, no_breach, breach_at, untold, no_forecast, StartAnswer, ReadingAnswer}
use Rattle.csl.specs.Entries.{start_of, reading_of}
use Rattle.csl.specs.Demand3.{Bytes}
use Rattle.csl.specs.Preview.{preview_of}
use Rattle.monitor.proofs.Apart.{Plain, preview_plain, reading_plain, start_plain}
use Rattle.givuntha.specs.Numbers.{forecast_numbers, start_numbers, reading_numbers}

-- a breach has a party, and the number tells a refusal from no breach
same : (n : ℕ) (f g : Forecast) → Plain n f → Plain n g → forecast_numbers f ≡ forecast_numbers g → f ≡ g
same n no_breach no_breach h k e = refl
same n no_breach (breach_at t b) h k e = let z : 0 ≡ b = ap (λ x. x.parties) e in absurd (omega (arith, k.1, z))
same n no_breach untold h k e = absurd (omega (arith, h, k))
same n no_breach no_forecast h k e = absurd k
same n (breach_at t b) no_breach h k e = let z : b ≡ 0 = ap (λ x. x.parties) e in absurd (omega (arith, h.1, z))
same n (breach_at t b) (breach_at u d) h k e = ap₂ breach_at (ap (λ x. x.time) e) (ap (λ x. x.parties) e)
same n (breach_at t b) untold h k e = absurd (omega (arith, h.0, k))
same n (breach_at t b) no_forecast h k e = absurd k
same n untold no_breach h k e = absurd (omega (arith, h, k))
same n untold (breach_at t b) h k e = absurd (omega (arith, h, k.0))
same n untold untold h k e = refl
same n untold no_forecast h k e = absurd k
same n no_forecast g h k e = absurd h

ahead_same : {m n : ℕ} {f g : Forecast} → Plain m f → Plain n g → m ≡ n → forecast_numbers f ≡ forecast_numbers g
    → f ≡ g
ahead_same {m} {n} {f} {g} h k e = same m f g h (subst (λ x. Plain x g) (sym e) k)

start_same : (a b : StartAnswer) → Plain a.number a.forecast → Plain b.number b.forecast
    → start_numbers a ≡ start_numbers b → a ≡ b
start_same a b h k e =
    let number = ap (λ x. x.number) e in
    let forecast = ahead_same h k number (ap (λ x. record { time = x.time; parties = x.parties }) e) in
    ap₂ (λ n f. record { number = n; forecast = f; table = a.table }) number forecast
    ∙ ap (λ t. record { number = b.number; forecast = b.forecast; table = t }) (ap (λ x. x.table) e)

reading_same : (a b : ReadingAnswer) → Plain a.number a.forecast → Plain b.number b.forecast
    → reading_numbers a ≡ reading_numbers b → a ≡ b
reading_same a b h k e =
    let number = ap (λ x. x.number) e in
    let forecast = ahead_same h k number (ap (λ x. record { time = x.time; parties = x.parties }) e) in
    ap₂ (λ n f. record { number = n; forecast = f; early = a.early; cost = a.cost; table = a.table }) number forecast
    ∙ ap (λ x. record {
      number = b.number;
      forecast = b.forecast;
      early = x.early;
      cost = x.cost;
      table = x.table;
    }) e

pub starts_apart : (s s' : List ℕ) (us us' : List ℤ) → Bytes s → Bytes s'
    → start_numbers (start_of s us) ≡ start_numbers (start_of s' us') → start_of s us ≡ start_of s' us'
starts_apart s s' us us' h h' =
    start_same (start_of s us) (start_of s' us') (start_plain s us h) (start_plain s' us' h')

pub readings_apart : (s s' : List ℕ) (us us' : List ℤ) (b b' : List ℕ) → Bytes b → Bytes b'
    → reading_numbers (reading_of s us b) ≡ reading_numbers (reading_of s' us' b')
    → reading_of s us b ≡ reading_of s' us' b'
readings_apart s s' us us' b b' h h' =
    reading_same (reading_of s us b) (reading_of s' us' b') (reading_plain s us b h) (reading_plain s' us' b' h')

pub previews_apart : (s s' : List ℕ) (us us' vs vs' : List ℤ) (b b' : List ℕ) → Bytes b → Bytes b'
    → reading_numbers (preview_of s us vs b) ≡ reading_numbers (preview_of s' us' vs' b')
    → preview_of s us vs b ≡ preview_of s' us' vs' b'
previews_apart s s' us us' vs vs' b b' h h' =
    reading_same (preview_of s us vs b) (preview_of s' us' vs' b') (preview_plain s us vs b h)
    (preview_plain s' us' vs' b' h')
