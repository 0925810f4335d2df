use Rattle.std.proofs.Common.{◌∙◌, arith}
use Rattle.text.proofs.Writing.{hex_length, hex_more, hex_all}
use Rattle.text.proofs.put.put_hex.Goals as goal

pub loop-byte-preserved : goal.loop-byte-preserved
loop-byte-preserved c = (
  hex_more _ c.args.bytes.now _ c.loop-byte.byte-index c.loop-byte.invariant.0 _ c.put_byte.ensures.items c.loop-byte-test.true,
  omega arith,
  c.put_byte.ensures.capacity ∙ c.loop-byte.invariant.2,
)

pub returns-clause-text : goal.returns-clause-text
returns-clause-text c = record {
  items = hex_all _ c.args.bytes.now _ c.loop-byte.byte-index c.loop-byte.invariant.0 c.loop-byte-test.false;
  len = omega (arith, hex_length c.args.bytes.now);
  capacity = c.loop-byte.invariant.2;
}
