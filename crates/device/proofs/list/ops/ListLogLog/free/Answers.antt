use Rattle.std.proofs.Common.{arith}
use Rattle.device.proofs.ListLaws.{list_room}
use Rattle.device.proofs.list.ops.ListLogLog.free.Goals as goal

pub returns-clause-empty_has_room : goal.returns-clause-empty_has_room
returns-clause-empty_has_room c empty = let room = list_room c.args.self.now empty in omega (arith, room)
