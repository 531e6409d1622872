use Rattle.std.proofs.Common.{rules}
use Rattle.formats.proofs.Chunks.{chunks_are_numbers}
use Rattle.formats.proofs.input.numbers.Goals as goal

-- the iterators give the numbers in the chunks of four bytes
pub returns : goal.returns
returns c = rw (← chunks_are_numbers c.args.bytes.now) (search rules)
