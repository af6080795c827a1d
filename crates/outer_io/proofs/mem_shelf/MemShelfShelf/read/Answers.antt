use Rattle.std.proofs.Common.{◌≡◌, ◌≤◌, ◌∙◌, sym, ap, subst, refl, min, length, true, false, if◌then◌else◌, rules}
use Rattle.std.proofs.Math.Nat.{le_of_eq}
use Rattle.std.proofs.lemmas.Bool.{false≢true}
use Rattle.outer_io.specs.Counts.{saturating}
use Rattle.outer_io.specs.Fakes.{FailingShelf, fails_next}
use Rattle.outer_io.specs.Holding.{Holding}
use Rattle.outer_io.proofs.Counting.{Rose-saturating, RoseBy-saturating, at_most_last}
use Rattle.outer_io.proofs.Moving.{moved_front}
use Rattle.outer_io.proofs.mem_shelf.MemShelfShelf.read.Goals as goal

pub returns-then-fails : goal.returns-then-fails
returns-then-fails c =
    let old = c.args.self.now in
    let is = c.fails.ensures.after in
    let next : fails_next old ≡ true = sym c.fails.ensures.fails ∙ c.if-fails.true in
    record {
      files = ap (λ (s : FailingShelf). s.holding.files) is;
      within = tt;
      bytes = ap (λ (s : FailingShelf). s.holding.rest) is;
      failed = Rose-saturating _ _ (ap (λ (s : FailingShelf). s.faults) is ∙ ap (λ b. if b then saturating old.faults 1 else old.faults) c.if-fails.true);
      misses = le_of_eq (sym (ap (λ (s : FailingShelf). s.holding.misses) is));
      faults = search rules;
      taken = le_of_eq (sym (ap (λ (s : FailingShelf). s.holding.taken) is));
      taken_by = tt;
      taken_fits = tt;
      fails = (λ _. next, λ _. refl);
      count = tt;
      after = search rules;
    }

pub returns : goal.returns
returns c =
    let old = c.args.self.now in
    let buf = c.args.buf.now in
    let read = c.read.ensures in
    let n = c.read.result in
    let held = c.self.inside.held in
    let now = c.read.new.self in
    let is = c.self.view_is ∙ c.fails.ensures.after in
    let same = ap (λ (s : FailingShelf). s.holding) is in
    let next : fails_next old ≡ false = sym c.fails.ensures.fails ∙ c.if-fails.false in
    let taken : now.taken ≡ saturating old.holding.taken n = ap (λ (h : Holding). h.taken) read.after ∙ ap (λ (h : Holding). saturating h.taken n) same in
    record {
      files = ap (λ (h : Holding). h.files) read.after ∙ ap (λ (h : Holding). h.files) same;
      within = search rules;
      bytes = moved_front held.rest old.holding.rest now.rest buf c.read.new.buf n (sym (ap (λ (h : Holding). h.rest) same)) read.count read.moved
          (ap (λ (h : Holding). h.rest) read.after);
      failed = tt;
      misses = le_of_eq (sym (ap (λ (h : Holding). h.misses) read.after ∙ ap (λ (h : Holding). h.misses) same));
      faults = le_of_eq (sym (ap (λ (s : FailingShelf). s.faults) is ∙ ap (λ b. if b then saturating old.faults 1 else old.faults) c.if-fails.false));
      taken = subst (λ (h : Holding). h.taken ≤ now.taken) same read.later;
      taken_by = RoseBy-saturating n _ _ taken;
      taken_fits = at_most_last _ n _ taken;
      fails = (λ err. absurd (false≢true err), λ fails. absurd (false≢true (sym next ∙ fails)));
      count = read.count ∙ ap (λ (h : Holding). min (length buf) (length h.rest)) same;
      after = search rules;
    }
