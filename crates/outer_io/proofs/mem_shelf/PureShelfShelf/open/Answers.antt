use Rattle.std.proofs.Common.{◌≡◌, ◌≤◌, subst, true, false, rules}
use Rattle.outer_io.specs.Holding.{Holding}
use Rattle.outer_io.specs.declared.shelf.ShelfFault.TheVariants.{Failed, Missing}
use Rattle.outer_io.proofs.Faults.{opened_not_err, shelf_missing_failed}
use Rattle.outer_io.proofs.Opening.{has_file, is_missing, kept_files, kept_taken, missed_once, no_rest}
use Rattle.outer_io.proofs.mem_shelf.PureShelfShelf.open.Goals as goal

pub returns-then-not-open : goal.returns-then-not-open
returns-then-not-open c =
    let old = c.args.self.now in
    let same = c.self.view_is in
    let missed : c.open.result ≡ false = search rules in
    let made = c.open.ensures in
    let held = c.self.inside.held in
    let now = c.open.new.self in
    let name = c.args.name.now in
    record {
      files = kept_files held now old name c.open.result same made.found made.after;
      opened = tt;
      closed = no_rest held now old name c.open.result same made.found made.after missed;
      lacks = λ _. is_missing held now old name c.open.result same made.found made.after missed;
      missing = λ _. missed_once held now old name c.open.result same made.found made.after missed;
      failed = shelf_missing_failed;
      misses = subst (λ (h : Holding). h.misses ≤ now.misses) same made.later;
      taken = kept_taken held now old name c.open.result same made.found made.after;
      after = search rules;
    }

pub returns : goal.returns
returns c =
    let old = c.args.self.now in
    let same = c.self.view_is in
    let there : c.open.result ≡ true = search rules in
    let made = c.open.ensures in
    let held = c.self.inside.held in
    let now = c.open.new.self in
    let name = c.args.name.now in
    record {
      files = kept_files held now old name c.open.result same made.found made.after;
      opened = has_file held now old name c.open.result same made.found made.after there;
      closed = tt;
      lacks = opened_not_err tt Missing;
      missing = opened_not_err tt Missing;
      failed = opened_not_err tt Failed;
      misses = subst (λ (h : Holding). h.misses ≤ now.misses) same made.later;
      taken = kept_taken held now old name c.open.result same made.found made.after;
      after = search rules;
    }
