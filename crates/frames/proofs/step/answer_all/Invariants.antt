use Rattle.std.proofs.Common.{◌≡◌, ◌+◌, ◌*◌, ◌≤◌, ◌++◌, length, take, vec_items, vec_len, vec_capacity}
use Rattle.text.specs.Lines.{lines_of}
use Rattle.text.specs.Reading.{left}
use Rattle.frames.specs.Answering.{answers, ended, answered}
use Rattle.frames.proofs.step.answer_all.Given as goal

-- what is written, and the answers to the lines that are left; what was there before; the room
abbrev pub invariant-loop-line : goal.invariant-loop-line
invariant-loop-line l =
    (vec_items l.out ++ ended (answers l.session (left l.line-iterator)) ≡ vec_items l.initial.out ++ answered l.input)
    × (take l.start (vec_items l.out) ≡ vec_items l.initial.out)
    × (vec_len l.out + 11 * length (left l.line-iterator) ≤ vec_len l.initial.out + 11 * length (lines_of l.input))
    × (vec_capacity l.initial.out ≤ vec_capacity l.out)
