use Rattle.std.proofs.Common.{◌≡◌, ℕ, ◌≤◌, nat_lt, List, refl, sym, ap, ◌∙◌, subst, arith}
use Rattle.tdp_core.specs.TreeView.{NodeView, group_count}
use Rattle.tdp_core.specs.WellFormed.{IsFormed}
use Rattle.suffix_streams.proofs.Errors.{none_given}
use Rattle.anyk_rec.proofs.Rests.{rest_begins}
use Rattle.anyk_rec.proofs.rec.Rec.new.Goals as goal

same_few : (n m : ℕ) → n ≡ m → n ≤ m
same_few n m e = omega arith

pub invariant_of-result : goal.invariant_of-result
invariant_of-result g c =
    record {
      formed = subst (IsFormed g.R.Rank.KEYS g.R.Rank.key) (sym c.in_ok-streams.ensures.tree) c.live-live.ensures.formed;
      live_is = c.live-live.ensures.live ∙ ap (λ (t : List (NodeView g.row.R.Denot)). nat_lt 0 (group_count t 0)) (sym c.in_ok-streams.ensures.tree);
      last_in = tt;
      few_calls = same_few _ _ c.in_ok-streams.ensures.calls;
    }

pub returns : goal.returns
returns g c =
    record {
      ranking = rest_begins g.R.Rank.KEYS g.R.Rank.key c.args.tree.now c.live-live.ensures.formed c.requires (record { streams = c.in_ok-streams.streams; given = 0; calls = 0 }) c.in_ok-streams.ensures.tree refl;
      tree = c.in_ok-streams.ensures.tree;
      given = refl;
      calls = refl;
      cost = c.new.ensures.cost;
    }

pub returns-in_err-streams : goal.returns-in_err-streams
returns-in_err-streams g c =
    record {
      ranking = none_given _ c.from_residual.result c.from_residual.ensures.0;
      tree = none_given _ c.from_residual.result c.from_residual.ensures.0;
      given = none_given _ c.from_residual.result c.from_residual.ensures.0;
      calls = none_given _ c.from_residual.result c.from_residual.ensures.0;
      cost = c.new.ensures.cost;
    }
