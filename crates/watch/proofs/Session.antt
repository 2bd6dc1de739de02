-- The whole run of what the steps ensure: calls that meet the contracts of `start` and `drain`, one after another, and
-- between them what a read brought. Main theorem: `written_is`: all that is put, call by call, is `lines_of`, however
-- the input came in pieces.
use mathlib.Core.Path.{◌≡◌, refl, sym, ap, ap₂, ◌∙◌, subst}
use mathlib.Core.Bool.{Bool, true, false}
use mathlib.Core.List.{List, [], ◌∷◌, ◌++◌, append_assoc, append-nil}
use Prim.Native.Nat.{ℕ}
use borrow.Fn.Kinds.{Dens, ended_of}
use contract.Lifetimes.{Lfts}
use denote.Triple.Clauses.{AtExit}
use lib.IntN.{ℤ}
use lib.Dec.{eqb}
use Rattle.csl.specs.Entries.{start_of}
use Rattle.laws.proofs.Clash.{impossible}
use Rattle.stream.specs.Records.{records_of}
use Rattle.lines.specs.Lines.{start_line, reading_lines, lines_of}
use Rattle.watch.specs.declared.Stage.TheVariants.{Ready, Waiting, Over}
use Rattle.watch.specs.declared.Stage.{Stage}
use Rattle.watch.specs.Steps.{left, Comes}
use Rattle.watch.specs.Watched.{zeros, watched_records, watched}
use Rattle.watch.proofs.Run.start.Kinds as start-kinds
use Rattle.watch.proofs.Run.start.Reads as start
use Rattle.watch.proofs.Run.drain.Kinds as drain-kinds
use Rattle.watch.proofs.Run.drain.Reads as drain

-- ---- a call that meets its contract: of what it was given, what it answered and what it left
pub record BeginCall (s : List ℕ) (cells cells₂ : List ℤ) (page : List ℕ) (go : Bool) : Type 0 where
  pub lifetimes : Lfts 2
  pub given : Dens {n = 2} lifetimes start-kinds.ps
  pub left : AtExit (ended_of 2 start-kinds.ps start-kinds.r) lifetimes
  pub meets : start.Post lifetimes given go left
  pub agreement : given.0.now.agreement.now ≡ s
  pub table : given.0.now.table ≡ cells
  pub empty : given.0.now.page.text ≡ []
  pub leaves : left.0.now.table ≡ cells₂
  pub puts : left.0.now.page.text ≡ page

pub record DrainCall (s : List ℕ) (cells cells₂ : List ℤ) (n n₂ : ℕ) (input : List ℕ) (ended : Bool)
    (rest page : List ℕ) (stage : Stage) : Type 0 where
  pub lifetimes : Lfts 2
  pub given : Dens {n = 2} lifetimes drain-kinds.ps
  pub left : AtExit (ended_of 2 drain-kinds.ps drain-kinds.r) lifetimes
  pub meets : drain.Post lifetimes given stage left
  pub agreement : given.0.now.agreement.now ≡ s
  pub table : given.0.now.table ≡ cells
  pub bytes : given.0.now.hand.bytes ≡ input
  pub over : given.0.now.hand.ended ≡ ended
  pub empty : given.0.now.page.text ≡ []
  pub line : given.0.now.line ≡ n
  pub leaves : left.0.now.table ≡ cells₂
  pub keeps : left.0.now.hand.bytes ≡ rest
  pub puts : left.0.now.page.text ≡ page
  pub next : left.0.now.line ≡ n₂

-- ---- calls of `drain`: each is given what the one before left and what a read then brought; `more` is all that is
-- still to come
pub data Session (s : List ℕ) : List ℤ → ℕ → List ℕ → Bool → List ℕ → List ℕ → Type 0 where
  -- the run ends
  ends : {cells cells₂ : List ℤ} {n n₂ : ℕ} {input : List ℕ} {ended : Bool} {more written rest page : List ℕ}
      {t : Stage}
      → DrainCall s cells cells₂ n n₂ input ended rest page t → t ≡ Over → written ≡ page
      → Session s cells n input ended more written
  -- the page is full: it is written, and the next call is made
  full : {cells cells₂ : List ℤ} {n n₂ : ℕ} {input : List ℕ} {ended : Bool} {more written w rest page : List ℕ}
      {t : Stage}
      → DrainCall s cells cells₂ n n₂ input ended rest page t → t ≡ Ready
      → Session s cells₂ n₂ rest ended more w → written ≡ page ++ w
      → Session s cells n input ended more written
  -- the page is written, and then a read brings some of what is to come
  reads : {cells cells₂ : List ℤ} {n n₂ : ℕ} {input : List ℕ} {ended : Bool} {more written w rest page : List ℕ}
      {t : Stage} (bytes later : List ℕ) → DrainCall s cells cells₂ n n₂ input ended rest page t → t ≡ Waiting
      → more ≡ bytes ++ later → Session s cells₂ n₂ (rest ++ bytes) false later w
      → written ≡ page ++ w → Session s cells n input ended more written
  -- or it finds the end of the input
  over : {cells cells₂ : List ℤ} {n n₂ : ℕ} {input : List ℕ} {ended : Bool} {more written w rest page : List ℕ}
      {t : Stage}
      → DrainCall s cells cells₂ n n₂ input ended rest page t → t ≡ Waiting → more ≡ []
      → Session s cells₂ n₂ rest true more w → written ≡ page ++ w
      → Session s cells n input ended more written

-- what a call says of all that is left to write
drained : {s : List ℕ} {cells cells₂ : List ℤ} {n n₂ : ℕ} {input : List ℕ} {ended : Bool} {rest page : List ℕ}
    {t : Stage}
    → DrainCall s cells cells₂ n n₂ input ended rest page t → (more : List ℕ) → Comes ended more
    → reading_lines s cells n (records_of (input ++ more)) ≡ page ++ left t s cells₂ n₂ (rest ++ more)
drained {t = t} c more h =
    let all = λ (l : List ℕ). l
    ++ left Ready c.given.0.now.agreement.now c.given.0.now.table c.given.0.now.line
    (c.given.0.now.hand.bytes ++ more) in
    let same = ap all (sym c.empty) ∙ c.meets.same more (subst (λ b. Comes b more) (sym c.over) h) in
    rw (sym c.agreement, sym c.table, sym c.bytes, sym c.line, sym c.leaves, sym c.keeps, sym c.next, sym c.puts) same

pub session_is : (s : List ℕ) {cells : List ℤ} {n : ℕ} {input : List ℕ} {ended : Bool} {more written : List ℕ}
    → Session s cells n input ended more written → Comes ended more
    → written ≡ reading_lines s cells n (records_of (input ++ more))
session_is s {more = more} (ends {cells₂ = vs} {n₂ = n₂} {rest = rest} {page} {t} c e w) h = w
    ∙ sym (append-nil page) ∙ sym
    (drained c more h ∙ ap (λ g. page ++ left g s vs n₂ (rest ++ more)) e)
session_is s {more = more} (full {cells₂ = vs} {n₂ = n₂} {rest = rest} {page} {t} c e later w) h = w
    ∙ ap (λ l. page ++ l) (session_is s later h)
    ∙ sym (drained c more h ∙ ap (λ g. page ++ left g s vs n₂ (rest ++ more)) e)
session_is s {more = more} (reads {cells₂ = vs} {n₂ = n₂} {rest = rest} {page} {t} bytes later c e m session w) h =
    w
    ∙ ap (λ l. page ++ l) (session_is s session (λ q. impossible cc)
    ∙ ap (λ l. reading_lines s vs n₂ (records_of l))
    (append_assoc rest bytes later ∙ ap (λ l. rest ++ l) (sym m)))
    ∙ sym (drained c more h ∙ ap (λ g. page ++ left g s vs n₂ (rest ++ more)) e)
session_is s {more = more} (over {cells₂ = vs} {n₂ = n₂} {rest = rest} {page} {t} c e m session w) h =
    w ∙ ap (λ l. page ++ l) (session_is s session (λ _. m))
    ∙ sym (drained c more h ∙ ap (λ g. page ++ left g s vs n₂ (rest ++ more)) e)

-- ---- the start's line, and then the calls of `drain` if the start was accepted
module _ {s : List ℕ} {cells cells₂ : List ℤ} {page : List ℕ} {go : Bool} (c : BeginCall s cells cells₂ page go) where
  first_line : page ≡ start_line s (start_of s cells)
  first_line = rw (sym c.agreement, sym c.table, sym c.puts) (c.meets.line
      ∙ ap (λ l. l ++ start_line c.given.0.now.agreement.now
      (start_of c.given.0.now.agreement.now c.given.0.now.table)) c.empty)

  goes_on : go ≡ eqb (start_of s cells).number 0
  goes_on = rw (sym c.agreement, sym c.table) c.meets.goes

  table_left_lem : cells₂ ≡ (start_of s cells).table
  table_left_lem = sym c.leaves ∙ rw (sym c.agreement, sym c.table) c.meets.table

pub written_is : (s : List ℕ) (cells cells₂ : List ℤ) (page : List ℕ) (go : Bool) (input : List ℕ) (ended : Bool)
    (more w : List ℕ) → BeginCall s cells cells₂ page go → Comes ended more
    → (go ≡ true → Session s cells₂ 1 input ended more w) → (go ≡ false → w ≡ [])
    → page ++ w ≡ lines_of s cells (records_of (input ++ more))
unfolding lines_of
written_is s cells cells₂ page go input ended more w c h session none = ap₂ (λ l r. l ++ r) (first_line c)
    (rest go refl ∙ ap₂ lines_then (goes_on c) (table_left_lem c))
  where
    lines_then : Bool → List ℤ → List ℕ
    lines_then b vs = elim b [ true ↦ reading_lines s vs 1 (records_of (input ++ more)) | false ↦ [] ]

    rest : (b : Bool) → go ≡ b → w ≡ lines_then b cells₂
    rest true e = session_is s (session e) h
    rest false e = none e

-- ---- the whole input: its first record is the agreement, and the table begins as zeros
pub watched_is : (whole s : List ℕ) (cells₂ : List ℤ) (page : List ℕ) (go : Bool) (input : List ℕ) (ended : Bool)
    (more w : List ℕ) → records_of whole ≡ s ∷ records_of (input ++ more) → BeginCall s zeros cells₂ page go
    → Comes ended more → (go ≡ true → Session s cells₂ 1 input ended more w) → (go ≡ false → w ≡ [])
    → page ++ w ≡ watched whole
unfolding watched watched_records
watched_is whole s cells₂ page go input ended more w record_is c h session none = written_is s zeros cells₂ page go
    input ended more w c h session none ∙ ap watched_records (sym record_is)
