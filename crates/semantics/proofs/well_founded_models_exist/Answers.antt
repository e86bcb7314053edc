-- The well-founded model is the least pair over the book twice.
use Rattle.semantics.proofs.Alternating.{sure_points, possible_points, least_pair_exists, least_pair_unique, sure_is_possible}
use Rattle.semantics.proofs.well_founded_models_exist.Goals as goal

pub returns : goal.returns
returns c =
    record {
      exists = λ m l. (sure_points m m, possible_points m m, least_pair_exists m m l l);
      unique = λ m. least_pair_unique m m;
      sure = sure_is_possible;
    }
