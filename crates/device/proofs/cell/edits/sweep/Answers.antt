use Rattle.std.proofs.Common.{◌≡◌, ◌+◌, ◌-◌, ◌∙◌, ap, arith}
use borrow.Rule.Slice.PartMut.{put_mid}
use Rattle.device.specs.Cells.{cell_content, all_within}
use Rattle.device.proofs.CellSteps.{swept, swept_by, content_swept, within_swept}
use Rattle.device.proofs.cell.edits.sweep.Goals as goal

-- the cells as the sweep leaves them
left : (c : goal.After-keep_newer) → put_mid c.cell_of-first.result (c.cell_of-first.result + 8 - c.cell_of-first.result) c.args.cells.now c.keep_newer.new.cells ≡ swept c.args.upto c.args.page c.args.cells.now c.if-page-lt-PAGES.true
left c = swept_by c.args.upto c.args.page c.args.cells.now c.if-page-lt-PAGES.true _ _ _ (omega (arith, c.cell_of-first.ensures)) (omega arith) c.keep_newer.ensures

pub returns-then-page-lt-PAGES-clause-content : goal.returns-then-page-lt-PAGES-clause-content
returns-then-page-lt-PAGES-clause-content c = ap cell_content (left c) ∙ content_swept c.args.upto c.args.page c.args.cells.now c.if-page-lt-PAGES.true

pub returns-then-page-lt-PAGES-clause-order : goal.returns-then-page-lt-PAGES-clause-order
returns-then-page-lt-PAGES-clause-order c = λ n e. ap (all_within n) (left c) ∙ within_swept c.args.upto c.args.page c.args.cells.now c.if-page-lt-PAGES.true n e
