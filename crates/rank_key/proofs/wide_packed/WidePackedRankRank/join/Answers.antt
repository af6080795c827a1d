use Rattle.tdp_model.specs.KeyTuple.{key_add}
use Rattle.rank_key.proofs.WideAdding.{front_fits, wide_key}
use Rattle.rank_key.proofs.wide_packed.WidePackedRankRank.join.Goals as goal

pub join-requires : goal.join-requires
join-requires g c = front_fits (key_add 1 16 (wide_key c.args.a) (wide_key c.args.b)) c.requires
