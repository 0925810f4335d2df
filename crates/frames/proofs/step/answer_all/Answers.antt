use Rattle.std.proofs.Common.{◌≡◌, [], ◌∷◌, ◌++◌, length, take, vec_items, sym, ap, ◌∙◌, append_assoc, arith}
use Rattle.std.proofs.lemmas.List.{take_all}
use Rattle.text.specs.Reading.{left}
use Rattle.frames.specs.Answering.{answer_text, answers, ended, answered}
use Rattle.frames.proofs.Transcript.{one_more, no_more, kept_front, one_each}
use Rattle.frames.proofs.step.answer_all.Goals as goal

pub loop-line-init : goal.loop-line-init
loop-line-init c =
    let lines = ap left c.into_iter-line-iterator.ensures.into_iter_gives ∙ c.new-line-items.ensures.lines in (
      (λ i. vec_items c.args.out.now ++ ended (answers (c.new-session.ensures i) (lines i))),
      take_all c.len-start.result (vec_items c.args.out.now) (omega (arith, c.len-start.ensures, c.args.out.now.ok.0)),
      omega (arith, ap length lines),
      omega arith,
    )

pub loop-line-preserved : goal.loop-line-preserved
loop-line-preserved c =
    let told = c.in_default.ensures in
    let first = c.in-Some.ensures.steps.0 in
    let text = answer_text c.loop-line.session c.in-Some.line.text.now in
    let behind : vec_items c.answer_line.new.out ≡ vec_items c.loop-line.out ++ text ++ 10 ∷ [] = told.behind ∙ sym (append_assoc (vec_items c.loop-line.out) text (10 ∷ [])) in (
      one_more (vec_items c.loop-line.out) (vec_items c.args.out.now ++ answered c.args.input.now) c.loop-line.session (left c.loop-line.line-iterator) c.loop-line.invariant.0 c.in-Some.line.text.now (left c.next.new.self) (vec_items c.answer_line.new.out) c.answer_line.new.session first behind told.after,
      kept_front (vec_items c.args.out.now) (vec_items c.loop-line.out) c.len-start.result (c.len-start.ensures ∙ c.args.out.now.ok.0) c.loop-line.invariant.1 text (10 ∷ []) (vec_items c.answer_line.new.out) behind,
      omega (arith, ap length first, c.loop-line.invariant.2, told.at_most_11_more),
      omega (arith, c.loop-line.invariant.3, told.keeps_its_room),
    )

pub returns : goal.returns
returns c = record {
  behind = no_more _ _ _ _ c.loop-line.invariant.0 c.in-None.ensures.steps.0;
  one_answer_a_line = one_each c.args.input.now;
  refused_only_without_room = tt;
}

pub returns-in-Err : goal.returns-in-Err
returns-in-Err c =
    let told = c.in-Err.ensures in
    let first = c.in-Some.ensures.steps.0 in
    record {
      behind = c.truncate.ensures.items ∙ ap (take c.len-start.result) told.behind ∙ c.loop-line.invariant.1;
      one_answer_a_line = one_each c.args.input.now;
      refused_only_without_room = omega (arith, told.refused_only_without_room, ap length first, c.loop-line.invariant.2, c.loop-line.invariant.3);
    }
