use Rattle.std.proofs.Common.{◌≡◌, ◌+◌, ◌<◌, length, get_or, take, set, filter, sym, ap, ◌∙◌, arith}
use Rattle.std.proofs.lemmas.List.{get_or_default, take_more_set}
use Rattle.std.proofs.lemmas.List.Filters.{FiltersInPlace, FiltersInPlace-more_set, FiltersInPlace-more_no}
use Rattle.device.specs.Changes.{nothing, newest}
use Rattle.device.specs.Records.{outlasts, in_order}
use Rattle.device.specs.Lists.{in_use}
use Rattle.device.proofs.Newest.{order_front, newest_kept, zero_record}
use Rattle.device.proofs.ListLaws.{used_length, log_state_by}
use Rattle.device.proofs.list.ops.ListLogLog.forget.Goals as goal
use Rattle.device.proofs.list.ops.ListLogLog.forget.Goals.{then-outlasting, else-outlasting}

pub push-requires-clause-order : goal.push-requires-clause-order
push-requires-clause-order c =
    let s = c.args.self.now in
    let xs = c.loop-i.self.records.now in
    let r = get_or xs c.loop-i.i zero_record in
    let below : c.loop-i.i < length xs = omega (arith, c.loop-i.invariant.1.long, s.within) in
    let more : FiltersInPlace (outlasts c.args.page c.args.upto) s.records.now (set xs c.loop-i.self.used r) (c.loop-i.self.used + 1) (c.loop-i.i + 1) =
    FiltersInPlace-more_set c.loop-i.invariant.1 below (sym c.if-outlasting.ensures) (get_or_default xs c.loop-i.i zero_record r below) in
    order_front (outlasts c.args.page c.args.upto) (c.loop-i.i + 1) s.used c.loop-i.self.last s.records.now _ (omega arith)
    (ap (λ n. in_order 0 n (in_use s)) c.loop-i.invariant.0 ∙ s.order)
    (sym (take_more_set xs c.loop-i.self.used r (omega (arith, c.loop-i.invariant.1.behind))) ∙ more.front)

pub loop-i-preserved : goal.loop-i-preserved
loop-i-preserved c =
    let xs = c.loop-i.self.records.now in
    let r = get_or xs c.loop-i.i zero_record in
    let below : c.loop-i.i < length xs = omega (arith, c.loop-i.invariant.1.long, c.args.self.now.within) in
    elim c.if-outlasting.branch [
      | then-outlasting w ↦ simp (w.self-is, w.push.ensures.last, w.push.ensures.records, w.push.ensures.used) (c.loop-i.invariant.0, FiltersInPlace-more_set c.loop-i.invariant.1 below (sym w.if-outlasting.ensures) (get_or_default xs c.loop-i.i zero_record r below))
      | else-outlasting w ↦ simp w.self-is (c.loop-i.invariant.0, FiltersInPlace-more_no {x = r} c.loop-i.invariant.1 below (sym w.if-outlasting.ensures) (get_or_default xs c.loop-i.i zero_record r below))
    ]

pub returns : goal.returns
returns c =
    let s = c.args.self.now in
    let all : c.loop-i.i ≡ s.used = omega arith in
    let kept : in_use c.loop-i.self ≡ filter (outlasts c.args.page c.args.upto) (in_use s) =
    c.loop-i.invariant.1.front ∙ ap (λ i. filter (outlasts c.args.page c.args.upto) (take i s.records.now)) all in
    let content = ap (newest nothing) kept ∙ newest_kept s.last c.args.page c.args.upto (in_use s) s.order in
    record {
      after = log_state_by content c.loop-i.invariant.0;
      never_lowers_free = omega (arith, c.loop-i.invariant.1.long, c.loop-i.invariant.1.behind);
      drops_every_record_up_to = kept;
      frees_what_it_drops = omega (arith, used_length c.loop-i.self, c.loop-i.invariant.1.long, c.loop-i.self.within);
    }
