-- The number of each opcode.
use Rattle.std.specs.Prelude.{ℕ}
use Rattle.codec.specs.declared.opcode.Opcode.{Opcode}
use Rattle.codec.specs.declared.opcode.Opcode.TheVariants.{
  Making,
  Begin,
  Read,
  Write,
  Commit,
  Cancel,
  Fetch,
  Evict,
  Drop,
  Deliver,
  TakeUp,
  PutDown,
  LetGo,
  Restart,
  Cut,
}

abbrev pub number : Opcode → ℕ
number Making = 0
number Begin = 1
number Read = 2
number Write = 3
number Commit = 4
number Cancel = 5
number Fetch = 6
number Evict = 7
number Drop = 8
number Deliver = 9
number TakeUp = 10
number PutDown = 11
number LetGo = 12
number Restart = 13
number Cut = 14
