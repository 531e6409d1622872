use Rattle.std.proofs.Common.{◌≡◌, sym, subst}
use Rattle.machine.specs.Items.{items}
use Rattle.machine.specs.Run.{model}
use Rattle.machine.proofs.Views.{view_proper}
use Rattle.minimal.proofs.Known.{known_minimal}
use Rattle.minimal.proofs.Moore.{short_separation}
use Rattle.cover.specs.Cover.{access_words, separating_words, Reaches, Separates}
use Rattle.cover.specs.Promises.{AccessFirst, TellingFirst, AllTelling, EachOnce, FewerKeys}
use Rattle.cover.specs.Words.{words_of}
use Rattle.cover.proofs.Access.{access_words_reach, access_words_first, access_words_fewer}
use Rattle.cover.proofs.Separating.{separating_separates, separating_first, separating_only, separating_once, separating_short}
use Rattle.cover.proofs.cover.Cover.of.Goals as goal

pub returns : goal.returns
returns c =
    let m = c.args.m.machine in
    let k = m.keys in
    let proper = view_proper m in
    let a : words_of (items c.access.result) ≡ access_words k (model m) = c.access.ensures in
    let b : words_of (items c.separating.new.words) ≡ separating_words k (model m) = c.separating.ensures in
    record {
      access = a;
      separating = b;
      reaches = subst (Reaches k (model m)) (sym a) (access_words_reach k (model m) proper (known_minimal c.args.m));
      separates = subst (Separates (model m)) (sym b) (separating_separates short_separation k (model m) proper (known_minimal c.args.m));
      reaching = subst (AccessFirst k (model m)) (sym a) (access_words_first k (model m) proper (known_minimal c.args.m));
      telling = subst (TellingFirst k (model m)) (sym b) (separating_first short_separation k (model m) proper (known_minimal c.args.m));
      needed = subst (AllTelling k (model m)) (sym b) (separating_only short_separation k (model m) proper (known_minimal c.args.m));
      once = subst EachOnce (sym b) (separating_once k (model m));
      short = (subst (FewerKeys (model m)) (sym a) (access_words_fewer k (model m) proper (known_minimal c.args.m)), subst (FewerKeys (model m)) (sym b) (separating_short short_separation k (model m) proper (known_minimal c.args.m)));
    }
