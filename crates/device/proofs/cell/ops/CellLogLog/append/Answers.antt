use Rattle.std.proofs.Common.{◌≡◌, Ok, ap, ◌∙◌, arith}
use Rattle.device.specs.Logs.{admission, append_answer, answered}
use Rattle.device.specs.CellLogs.{cell_state}
use Rattle.device.proofs.Admitted.{admitted}
use Rattle.device.proofs.CellSteps.{within_more}
use Rattle.device.proofs.cell.ops.CellLogLog.append.Goals as goal

pub enter-requires : goal.enter-requires
enter-requires c = (admitted c.args.self.now.last c.free.result c.args.changes.now c.in_ok-number.number c.in_ok-number.ensures).apart

pub invariant_of-self : goal.invariant_of-self
invariant_of-self c =
    let s = c.args.self.now in
    let ok = admitted s.last c.free.result c.args.changes.now c.in_ok-number.number c.in_ok-number.ensures in
    record { size = c.enter.ensures.length; order = c.enter.ensures.order (within_more s.last c.in_ok-number.number s.cells (omega (arith, ok.next)) s.order) }

pub returns : goal.returns
returns c =
    let s = c.args.self.now in
    let xs = c.args.changes.now in
    let n = c.in_ok-number.number in
    let answer : Ok n ≡ append_answer (cell_state s) xs = c.in_ok-number.ensures ∙ ap (λ f. admission s.last f xs) c.free.ensures.value in
    record {
      answer = answer;
      after = ap (λ f. record { content = f; last = n; free = 512 }) c.enter.ensures.content ∙ ap (answered (cell_state s) xs 512) answer;
    }
