use Rattle.std.proofs.Common.{ap, ◌∙◌}
use Rattle.codec.specs.Decoding.{decoded}
use Rattle.codec.proofs.Encoded.{reads_back}
use Rattle.codec.proofs.Decoded.{Reads, reads}
use Rattle.codec.proofs.read.read_call.Goals as goal

pub returns : goal.returns
returns c =
    let h : Reads c.args.line.now c.call.result = rw c.call.ensures (reads c.args.line.now c.in_ok-cut.field-0 c.in_ok-cut.ensures.parts) in
    record { value = h.0; is_its_frame = h.1; reads_every_frame = λ call fits is. h.0 ∙ ap decoded is ∙ reads_back call fits }
