use Rattle.std.proofs.Common.{sym, ◌∙◌}
use Rattle.device.proofs.Newest.{newest_found}
use Rattle.device.proofs.list.edits.look.Goals as goal

pub returns : goal.returns
returns c = c.last_entry.ensures ∙ sym (newest_found c.args.records.now c.args.id.page c.args.id.object)
