use Rattle.std.proofs.Common.{◌≡◌, ◌≤◌, ◌∙◌, ap, sym, subst, refl, true, false, if◌then◌else◌, rules}
use Rattle.std.proofs.Math.Nat.{le_of_eq}
use Rattle.std.proofs.lemmas.Bool.{false≢true}
use Rattle.outer_io.specs.Counts.{saturating}
use Rattle.outer_io.specs.Fakes.{FailingShelf, fails_next}
use Rattle.outer_io.specs.Holding.{Holding}
use Rattle.outer_io.proofs.Counting.{Rose-saturating}
use Rattle.outer_io.specs.declared.shelf.ShelfFault.TheVariants.{Failed, Missing}
use Rattle.outer_io.proofs.Faults.{opened_not_err, shelf_failed_missing, shelf_missing_failed}
use Rattle.outer_io.proofs.Opening.{has_file, is_missing, kept_files, kept_taken, missed_once, no_rest}
use Rattle.outer_io.proofs.mem_shelf.MemShelfShelf.open.Goals as goal

pub returns-then-fails : goal.returns-then-fails
returns-then-fails c =
    let old = c.args.self.now in
    let is = c.self.view_is ∙ c.fails.ensures.after in
    let closed = c.close.ensures in
    let next : fails_next old ≡ true = sym c.fails.ensures.fails ∙ c.if-fails.true in
    record {
      files = ap (λ (h : Holding). h.files) closed ∙ ap (λ (s : FailingShelf). s.holding.files) is;
      opened = tt;
      closed = ap (λ (h : Holding). h.rest) closed;
      lacks = shelf_failed_missing;
      missing = shelf_failed_missing;
      failed = λ _. Rose-saturating _ _ (ap (λ (s : FailingShelf). s.faults) is ∙ ap (λ b. if b then saturating old.faults 1 else old.faults) c.if-fails.true);
      misses = le_of_eq (sym (ap (λ (h : Holding). h.misses) closed ∙ ap (λ (s : FailingShelf). s.holding.misses) is));
      faults = search rules;
      taken = ap (λ (h : Holding). h.taken) closed ∙ ap (λ (s : FailingShelf). s.holding.taken) is;
      fails = (λ _. next, λ _. refl);
      after = search rules;
    }

pub returns-then-not-open : goal.returns-then-not-open
returns-then-not-open c =
    let old = c.args.self.now in
    let is = c.self.view_is ∙ c.fails.ensures.after in
    let same = ap (λ (s : FailingShelf). s.holding) is in
    let missed : c.open.result ≡ false = search rules in
    let next : fails_next old ≡ false = sym c.fails.ensures.fails ∙ c.if-fails.false in
    let made = c.open.ensures in
    let held = c.self.inside.held in
    let now = c.open.new.self in
    let name = c.args.name.now in
    record {
      files = kept_files held now old.holding name c.open.result same made.found made.after;
      opened = tt;
      closed = no_rest held now old.holding name c.open.result same made.found made.after missed;
      lacks = λ _. is_missing held now old.holding name c.open.result same made.found made.after missed;
      missing = λ _. missed_once held now old.holding name c.open.result same made.found made.after missed;
      failed = shelf_missing_failed;
      misses = subst (λ (h : Holding). h.misses ≤ now.misses) same made.later;
      faults = le_of_eq (sym (ap (λ (s : FailingShelf). s.faults) is ∙ ap (λ b. if b then saturating old.faults 1 else old.faults) c.if-fails.false));
      taken = kept_taken held now old.holding name c.open.result same made.found made.after;
      fails = (shelf_missing_failed, λ fails. absurd (false≢true (sym next ∙ fails)));
      after = search rules;
    }

pub returns : goal.returns
returns c =
    let old = c.args.self.now in
    let is = c.self.view_is ∙ c.fails.ensures.after in
    let same = ap (λ (s : FailingShelf). s.holding) is in
    let there : c.open.result ≡ true = search rules in
    let next : fails_next old ≡ false = sym c.fails.ensures.fails ∙ c.if-fails.false in
    let made = c.open.ensures in
    let held = c.self.inside.held in
    let now = c.open.new.self in
    let name = c.args.name.now in
    record {
      files = kept_files held now old.holding name c.open.result same made.found made.after;
      opened = has_file held now old.holding name c.open.result same made.found made.after there;
      closed = tt;
      lacks = opened_not_err tt Missing;
      missing = opened_not_err tt Missing;
      failed = opened_not_err tt Failed;
      misses = subst (λ (h : Holding). h.misses ≤ now.misses) same made.later;
      faults = le_of_eq (sym (ap (λ (s : FailingShelf). s.faults) is ∙ ap (λ b. if b then saturating old.faults 1 else old.faults) c.if-fails.false));
      taken = kept_taken held now old.holding name c.open.result same made.found made.after;
      fails = (opened_not_err tt Failed, λ fails. absurd (false≢true (sym next ∙ fails)));
      after = search rules;
    }
