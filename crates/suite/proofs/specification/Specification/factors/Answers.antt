use Rattle.std.proofs.Common.{arith}
use lib.ListN.{length-map}
use Rattle.machine.specs.Items.{items}
use Rattle.cover.specs.Words.{word_of}
use Rattle.suite.proofs.Tested.{cover_makes, cover_made, cover_low}
use Rattle.suite.proofs.specification.Specification.factors.Goals as goal

pub with_key-requires-clause-words : goal.with_key-requires-clause-words
with_key-requires-clause-words c =
    let makes = cover_makes c.args.self c.args.cover.now c.requires.cover in
    let few = makes.few in
    rw (c.as_slice.ensures.value, c.keys-keys.ensures) (omega (arith, length-map (items c.args.cover.now.access) word_of), (makes.few_keys, makes.short))

pub returns-clause-made : goal.returns-clause-made
returns-clause-made c =
    let access = c.as_slice.ensures.value in
    let fronts = rw access at c.with_key.ensures in
    rw (c.as_slice-2.ensures.value, c.as_slice-3.ensures.value, fronts, c.keys-keys.ensures) (cover_made c.args.self c.args.cover.now c.requires.cover)

pub returns-clause-few : goal.returns-clause-few
returns-clause-few c = cover_low c.args.self c.args.cover.now c.requires.cover
