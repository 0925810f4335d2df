use Rattle.std.proofs.Common.{◌≡◌, ℕ, ◌+◌, ◌*◌, ◌<◌, true, List, length, get_or, take, Some, sym, ap, ◌∙◌, arith}
use mathlib.Core.Path.{fun_ext}
use Rattle.std.proofs.lemmas.List.{length-set, take_all}
use Rattle.std.proofs.lemmas.Bool.{le-leb}
use Rattle.device.specs.declared.record.Change.{Change}
use Rattle.device.specs.declared.record.Record.{Record}
use Rattle.device.specs.Changes.{inside, distinct, put, stamped, appended}
use Rattle.device.specs.Cells.{cell_content, all_within}
use Rattle.device.proofs.Admitted.{zero_change}
use Rattle.device.proofs.CellSteps.{content_set, appended_more, distinct_at, within_set}
use Rattle.device.proofs.cell.edits.enter.Goals as goal

-- the record of a change in the list names an object that has a cell
stamped-inside : (n : ℕ) (xs : List Change) (i : ℕ) (r : Record) → i < length xs → distinct xs ≡ true → r ≡ stamped n (get_or xs i zero_change) → inside r.id.page r.id.object ≡ true
stamped-inside n xs i r h e is = ap (λ (x : Record). inside x.id.page x.id.object) is ∙ distinct_at xs i h e

pub store-requires : goal.store-requires
store-requires c = stamped-inside c.args.number c.args.changes.now c.loop-c.c-index c.stamp.result c.loop-c-test.true c.requires c.stamp.ensures

pub loop-c-preserved : goal.loop-c-preserved
loop-c-preserved c =
    let n = c.args.number in
    let xs = c.args.changes.now in
    let i = c.loop-c.c-index in
    let cells = c.loop-c.cells in
    let r = c.stamp.result in
    let at = 8 * r.id.page + r.id.object in
    let in' = stamped-inside n xs i r c.loop-c-test.true c.requires c.stamp.ensures in (
      ap length c.store.ensures ∙ length-set cells at (Some r.entry) ∙ c.loop-c.invariant.0,
      ap cell_content c.store.ensures
          ∙ fun_ext (λ q. fun_ext (λ s. content_set cells r c.loop-c.invariant.0 in' q s))
          ∙ ap (λ f. put f r) c.loop-c.invariant.1
          ∙ ap (put (appended (cell_content c.args.cells.now) n (take i xs))) c.stamp.ensures
          ∙ sym (appended_more (cell_content c.args.cells.now) n xs i c.loop-c-test.true),
      λ h. ap (all_within n) c.store.ensures
          ∙ within_set n cells at (Some r.entry) (c.loop-c.invariant.2 h) (le-leb r.entry.number n (let e = ap (λ (x : Record). x.entry.number) c.stamp.ensures in omega arith)),
    )

pub returns : goal.returns
returns c = record {
  length = c.loop-c.invariant.0;
  content = c.loop-c.invariant.1 ∙ ap (appended (cell_content c.args.cells.now) c.args.number) (take_all c.loop-c.c-index c.args.changes.now c.loop-c-test.false);
  order = c.loop-c.invariant.2;
}
