use Rattle.std.proofs.Common.{◌≡◌, ◌≤◌, ◌∙◌, sym, ap, subst, min, length, rules}
use Rattle.outer_io.specs.Counts.{saturating}
use Rattle.outer_io.specs.Holding.{Holding}
use Rattle.outer_io.proofs.Counting.{RoseBy-saturating, at_most_last}
use Rattle.outer_io.proofs.Moving.{moved_front}
use Rattle.outer_io.proofs.mem_shelf.PureShelfShelf.read.Goals as goal

pub returns : goal.returns
returns c =
    let old = c.args.self.now in
    let buf = c.args.buf.now in
    let read = c.read.ensures in
    let n = c.read.result in
    let now = c.read.new.self in
    let same = c.self.view_is in
    let taken : now.taken ≡ saturating old.taken n = ap (λ (h : Holding). h.taken) read.after ∙ ap (λ (h : Holding). saturating h.taken n) same in
    record {
      files = ap (λ (h : Holding). h.files) read.after ∙ ap (λ (h : Holding). h.files) same;
      within = search rules;
      bytes = moved_front c.self.inside.held.rest old.rest now.rest buf c.read.new.buf n (sym (ap (λ (h : Holding). h.rest) same)) read.count read.moved
          (ap (λ (h : Holding). h.rest) read.after);
      failed = tt;
      misses = ap (λ (h : Holding). h.misses) read.after ∙ ap (λ (h : Holding). h.misses) same;
      taken = subst (λ (h : Holding). h.taken ≤ now.taken) same read.later;
      taken_by = RoseBy-saturating n _ _ taken;
      taken_fits = at_most_last _ n _ taken;
      count = read.count ∙ ap (λ (h : Holding). min (length buf) (length h.rest)) same;
      after = search rules;
    }
