use Rattle.std.proofs.Common.{get_or, set, None, ◌∙◌, ap, arith}
use Rattle.std.proofs.lemmas.List.{get_or_default}
use Rattle.std.proofs.lemmas.List.Edits.{map_over_more}
use Rattle.device.specs.Changes.{newer}
use Rattle.device.proofs.cell.edits.keep_newer.Goals as goal

pub loop-cell-preserved : goal.loop-cell-preserved
loop-cell-preserved c =
    let i = c.loop-cell.cell-index in
    let ys = c.loop-cell.cell-items in
    let x = get_or ys i None in
    ap (set ys i) c.newer_than.ensures
    ∙ map_over_more (newer c.args.upto) c.args.cells.now ys i x c.loop-cell-test.true c.loop-cell.invariant
    (get_or_default ys i None x (omega (arith, c.loop-cell-test.true, c.loop-cell.auto.cell-items)))
