use Rattle.std.proofs.Common.{refl}
use Rattle.device.proofs.CellLaws.{cell_numbers}
use Rattle.device.proofs.cell.ops.CellLogLog.last.Goals as goal

pub returns : goal.returns
returns c = record { value = refl; bounds_every_number = cell_numbers c.args.self.now }
