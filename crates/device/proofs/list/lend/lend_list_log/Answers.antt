use Rattle.std.proofs.Common.{rules, refl}
use Rattle.device.proofs.list.lend.lend_list_log.Goals as goal

pub returns-clause-answer : goal.returns-clause-answer
returns-clause-answer g c = (search rules, record { log = _; after = _; call = record { shown = _; shows = refl; left = _; met = c.work.ensures; leaves = refl }; begins = search rules })
