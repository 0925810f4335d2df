use Rattle.std.proofs.Common.{◌≡◌, ◌+◌, ◌-◌, ◌++◌, [], ◌∷◌, map, length, take, Ok, sym, ap, ◌∙◌, append_assoc, arith}
use Rattle.std.proofs.lemmas.List.{map_more, take_all}
use Rattle.device.specs.Changes.{nothing, stamped, newest}
use Rattle.device.specs.Records.{in_order}
use Rattle.device.specs.Logs.{admission, append_answer, answered}
use Rattle.device.specs.Lists.{in_use, list_state}
use Rattle.device.proofs.Admitted.{zero_change, admitted}
use Rattle.device.proofs.ListLaws.{log_state_by}
use Rattle.device.proofs.Newest.{newest-appended, order_laid, order_higher}
use Rattle.device.proofs.list.ops.ListLogLog.append.Goals as goal

pub invariant_of-self-clause-order : goal.invariant_of-self-clause-order
invariant_of-self-clause-order c =
    let s = c.args.self.now in
    let ok = admitted s.last c.free.result c.args.changes.now c.in_ok-number.number c.in_ok-number.ensures in
    order_higher 0 s.last c.in_ok-number.number (in_use s) (omega (arith, ok.next)) s.order

pub push-requires-clause-order : goal.push-requires-clause-order
push-requires-clause-order c =
    let s = c.args.self.now in
    let n = c.in_ok-number.number in
    let xs = c.args.changes.now in
    let i = c.loop-c.c-index in
    let r = c.stamp.result in
    let ok = admitted s.last c.free.result xs n c.in_ok-number.ensures in
    let laid : in_use c.loop-c.self ++ r ∷ [] ≡ in_use s ++ map (stamped n) (take (i + 1) xs) =
    ap (λ ys. ys ++ r ∷ []) c.loop-c.invariant.laid
    ∙ append_assoc (in_use s) (map (stamped n) (take i xs)) (r ∷ [])
    ∙ ap (λ x. in_use s ++ (map (stamped n) (take i xs) ++ x ∷ [])) c.stamp.ensures
    ∙ ap (λ ys. in_use s ++ ys) (sym (map_more (stamped n) xs i zero_change c.loop-c-test.true)) in
    ap (λ l. in_order 0 l (in_use c.loop-c.self ++ r ∷ [])) c.loop-c.invariant.last
    ∙ ap (in_order 0 n) laid
    ∙ ap (λ m. in_order 0 m (in_use s ++ map (stamped m) (take (i + 1) xs))) ok.next
    ∙ order_laid 0 s.last (i + 1) (in_use s) xs ok.apart s.order

pub returns-clause-after : goal.returns-clause-after
returns-clause-after c =
    let s = c.args.self.now in
    let n = c.in_ok-number.number in
    let xs = c.args.changes.now in
    let left = length c.loop-c.self.records.now - c.loop-c.self.used in
    let answer : Ok n ≡ append_answer (list_state s) xs = c.in_ok-number.ensures ∙ ap (λ f. admission s.last f xs) c.free.ensures.value in
    let laid : in_use c.loop-c.self ≡ in_use s ++ map (stamped n) xs =
    c.loop-c.invariant.laid ∙ ap (λ ys. in_use s ++ map (stamped n) ys) (take_all c.loop-c.c-index xs c.loop-c-test.false) in
    log_state_by {free = left} (ap (newest nothing) laid ∙ newest-appended (in_use s) n xs) c.loop-c.invariant.last
    ∙ ap (answered (list_state s) xs left) answer
