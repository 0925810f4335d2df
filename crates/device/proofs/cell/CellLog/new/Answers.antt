use Rattle.std.proofs.Common.{ap}
use Rattle.device.proofs.CellSteps.{content_none}
use Rattle.device.proofs.cell.CellLog.new.Goals as goal

pub returns : goal.returns
returns c = ap (λ f. record { content = f; last = c.args.last; free = 512 }) (content_none 512)
