use Rattle.std.proofs.Common.{arith}
use Rattle.machine.specs.Run.{model, keys_of}
use Rattle.machine.proofs.Views.{few_states, view_proper}
use Rattle.minimal.specs.Levels.{class_in}
use Rattle.minimal.proofs.Needed.{own_congruence, own_search}
use Rattle.minimal.proofs.searching.reach.Goals as goal

pub search-requires : goal.search-requires
search-requires c =
    rw c.apart.ensures.machine (own_congruence (keys_of c.args.m) (model c.args.m) (class_in c.apart.result.of) (λ s h. c.apart.ensures.own s (omega (arith, few_states c.args.m))))

pub returns : goal.returns
returns c =
    own_search (keys_of c.args.m) (model c.args.m) (class_in c.apart.result.of) (λ s h. c.apart.ensures.own s (omega (arith, few_states c.args.m)))
    (view_proper c.args.m) c.search.result (rw c.apart.ensures.machine at c.search.ensures.found)
