use Rattle.survivor.proofs.Survivors.{no_tests_suffice}
use Rattle.survivor.proofs.promises.no_tests_suffice.Goals as goal

pub returns : goal.returns
returns c = no_tests_suffice
