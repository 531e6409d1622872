use Rattle.std.proofs.Common.{◌≡◌, ◌+◌, ◌*◌, [], ◌++◌, length, get_or, take}
use Rattle.machine.specs.Items.{items}
use Rattle.cover.specs.Words.{words_of}
use Rattle.machine.specs.Words.{each_behind, products, single_keys}
use Rattle.suite.proofs.keyed.with_key.Given as goal

abbrev pub invariant-plain : goal.invariant-plain
invariant-plain l = (words_of (items l.fronts) ≡ take l.word-index (words_of l.access)) × (length (items l.fronts) ≡ l.word-index)

abbrev pub invariant-loop-key : goal.invariant-loop-key
invariant-loop-key l =
    (words_of (items l.fronts) ≡ (words_of l.access ++ products (take l.word-index (words_of l.access)) (single_keys l.keys)) ++ each_behind (get_or (words_of l.access) l.word-index []) (single_keys l.key)) ×
    (length (items l.fronts) ≡ length l.access + l.word-index * l.keys + l.key)

abbrev pub invariant-keyed : goal.invariant-keyed
invariant-keyed l =
    (words_of (items l.fronts) ≡ words_of l.access ++ products (take l.word-index (words_of l.access)) (single_keys l.keys)) × (length (items l.fronts) ≡ length l.access + l.word-index * l.keys)
