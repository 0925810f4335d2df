use Rattle.std.proofs.Common.{refl}
use Rattle.device.proofs.ListLaws.{list_numbers}
use Rattle.device.proofs.list.ops.ListLogLog.last.Goals as goal

pub returns : goal.returns
returns c = record { value = refl; bounds_every_number = list_numbers c.args.self.now }
