-- The bytes that were read and not yet taken, and what a read brings to them.
use Rattle.std.specs.Prelude.{◌≡◌, Bool, true, false, List, [], ◌++◌, ℕ, ◌<◌, length, Option}
use Rattle.std.specs.Io.KnownBytes.{Consumes, IsAtEnd}

-- the bytes, whether the input has ended behind them, and how many the buffer takes
pub record AtHand : Type 0 where
  pub bytes : List ℕ
  pub ended : Bool
  pub capacity : ℕ

-- what a read brought are the first of the bytes that were to come, one at least; or it brought none, and none is to
-- come
pub record Brings (before : List ℕ) (hand : AtHand) (coming left : Option (List ℕ)) : Type 0 where
  pub came : List ℕ
  pub behind : hand.bytes ≡ before ++ came
  pub brings : Consumes coming left came
  pub some : hand.ended ≡ false → 0 < length came
  pub none : hand.ended ≡ true → came ≡ []
  pub over : hand.ended ≡ true → IsAtEnd left
