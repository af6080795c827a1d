use Rattle.std.proofs.Common.{◌≡◌, ◌≤◌, List, get_or, length, subst, sym, arith}
use Rattle.std.specs.List.{All}
use Rattle.std.proofs.lemmas.List.Elements.{All-get_or}
use Rattle.anyk_model.specs.Table.{Table}
use Rattle.bound_query.specs.WeighedQuery.{BoundQuery, Fits}
use Rattle.union_all.proofs.header.write_header_of.Goals as goal

first_fits : (queries : List BoundQuery) (tables : List Table) (first : BoundQuery) → 1 ≤ length queries → All (λ q. Fits q tables) queries → first ≡ get_or queries 0 first → Fits first tables
first_fits queries tables first some all is = subst (λ (q : BoundQuery). Fits q tables) (sym is) (All-get_or (λ (q : BoundQuery). Fits q tables) queries 0 first (omega (arith, some)) all)

pub push_names-requires : goal.push_names-requires
push_names-requires c = first_fits c.args.queries.now c.args.tables.now c.index-queries-0.result c.requires.some c.requires.fits c.index-queries-0.is
