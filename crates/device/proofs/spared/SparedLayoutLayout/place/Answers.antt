use Rattle.std.proofs.Common.{rules, tests, not, ap, ◌∙◌, arith}
use Rattle.std.proofs.lemmas.Iterator.{YieldsList-from_range}
use Rattle.std.proofs.lemmas.Iterator.Consumers.{nth_from_yields_List, YieldsList-from_filter}
use Rattle.std.specs.List.{range_with_len, slice_get, filter}
use Rattle.device.specs.Places.{member}
use Rattle.device.proofs.Placing.{spared_found}
use Rattle.device.proofs.spared.SparedLayoutLayout.place.Goals as goal

pub returns-then-page-lt-PAGES-clause-value : goal.returns-then-page-lt-PAGES-clause-value
returns-then-page-lt-PAGES-clause-value c =
    let s = member c.args.self.now.spared in
    let n = c.args.places in
    spared_found s n c.args.page c.nth.result c.if-page-lt-PAGES.true
    (nth_from_yields_List c.nth.result c.nth.new.self _ c.nth.ensures.ran
    (YieldsList-from_filter _ (λ m. not (s m)) (YieldsList-from_range 0 n n (cc) (omega arith)) c.filter.ensures.closure (λ x b q k. search (rules, tests)))
    ∙ ap (λ k. slice_get (filter (λ m. not (s m)) (range_with_len 0 n)) k) (omega arith))
