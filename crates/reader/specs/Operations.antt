-- What the iterator over an entry's operations gives.
use Rattle.std.specs.Prelude.{◌≡◌, ◌≤◌, ◌<◌, length, IfSome, Some, None}
use Rattle.std.specs.Prelude as code
use Rattle.format.specs.declared.Operation.{Operation}
use Rattle.operations.specs.Positions.{operation_at}
use Rattle.operations.specs.declared.fields.Position.{Position}
use Rattle.reader.specs.declared.operation.Operations.{Operations}

-- the operation at its position, which it moves past, or none, where none can be read
pub record Read (s : Operations) (r : code.Option (Operation × Position)) (t : Operations) : Type 0 where
  pub inside : s.at.at < length s.bytes.now
  pub read : operation_at s.word s.bytes.now s.at ≡ r
  pub same : t.bytes ≡ s.bytes
  pub same_word : t.word ≡ s.word
  pub past : IfSome r λ x. t.at ≡ x.1

-- this, or the end of the bytes
abbrev pub Reads : Operations → code.Option (code.Option (Operation × Position)) → Operations → Type 0
Reads s (Some r) t = Read s r t
Reads s None t = length s.bytes.now ≤ s.at.at
