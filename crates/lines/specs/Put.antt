-- What it is to put a text onto a page: it stands behind what is there, and what has no room is dropped.
use Rattle.std.specs.Prelude.{List, ◌++◌, ℕ, ◌-◌, length, take}

-- a page: what is put, and how many bytes its buffer takes
pub record OnPage : Type 0 where
  pub text : List ℕ
  pub capacity : ℕ

-- the first bytes of the buffer are in use
abbrev pub on_page : ℕ → List ℕ → OnPage
on_page used buffer = record { text = take used buffer; capacity = length buffer }

unfoldable pub put : OnPage → List ℕ → OnPage
put page more = record {
  text = page.text ++ take (page.capacity - length page.text) more;
  capacity = page.capacity;
}
