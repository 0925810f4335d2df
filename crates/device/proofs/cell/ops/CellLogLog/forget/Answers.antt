use Rattle.device.proofs.cell.ops.CellLogLog.forget.Goals as goal

pub invariant_of-self : goal.invariant_of-self
invariant_of-self c = let s = c.args.self.now in record { size = c.sweep.ensures.length; order = c.sweep.ensures.order s.last s.order }
