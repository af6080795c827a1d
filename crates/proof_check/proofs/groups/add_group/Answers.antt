use Rattle.std.proofs.Common.{nat_eq, sym, ◌∙◌}
use Rattle.std.specs.List.{list_any}
use Rattle.std.proofs.lemmas.Bool.{false≢true}
use Rattle.proof_check.proofs.Pushed.{added_last, found_there, missing_all, missing_any}
use Rattle.proof_check.proofs.groups.add_group.Goals as goal

pub returns-in-Some : goal.returns-in-Some
returns-in-Some g c = record {
  added = λ e. absurd (false≢true e);
  absent = λ e. absurd (false≢true e);
  there = λ e.
      let at = found_there c.args.link c.args.groups.now c.in-Some.field-0 (sym c.in-Some.ensures.number) in
      (c.in-Some.field-0, at.0, at.1);
}

pub returns-in_ok-insert-in-None : goal.returns-in_ok-insert-in-None
returns-in_ok-insert-in-None g c = record {
  added = λ e.
      c.in_ok-insert-in-None.ensures.links
      ∙ added_last c.args.groups.now c.args.link (list_any (nat_eq c.args.link) c.args.groups.now)
      (missing_any c.args.link c.args.groups.now c.in-None.ensures.number);
  absent = λ e b l s.
      missing_all c.args.link c.args.groups.now c.in-None.ensures.number b l s;
  there = λ e. absurd (false≢true (sym e));
}
