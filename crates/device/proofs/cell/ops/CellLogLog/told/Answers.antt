use Rattle.std.proofs.Common.{◌<◌, rules, length, None, sym, ap, ◌∙◌, arith}
use Rattle.std.proofs.lemmas.List.{get_or_past, get_or_default}
use Rattle.std.proofs.lemmas.Bool.{ltb-true}
use Rattle.device.specs.Cells.{tagged}
use Rattle.device.specs.CellLogs.{cell_places}
use Rattle.device.proofs.CellLaws.{get_or-places, length-places}
use Rattle.device.proofs.cell.ops.CellLogLog.told.Goals as goal

pub returns-in_err-get-clause-value : goal.returns-in_err-get-clause-value
returns-in_err-get-clause-value c =
    let s = c.args.self.now in
    let past = get_or_past (cell_places s) c.args.place None (omega (arith, length-places 0 s.cells, c.in_err-get.ensures.lookup)) in
    search (rules, past)

pub returns-clause-value : goal.returns-clause-value
returns-clause-value c =
    let s = c.args.self.now in
    let x = c.in_ok-get.field-0.now in
    let at = c.in_ok-get.ensures.lookup in
    let below : c.args.place < length s.cells = ltb-true c.args.place (length s.cells) (sym at.0) in
    c.tag.ensures
    ∙ ap (tagged c.args.place) (at.1 ∙ get_or_default s.cells c.args.place x None below)
    ∙ sym (get_or-places s.cells c.args.place)
