use Rattle.std.proofs.Common.{◌==◌, ℕ, ap, get_or, not}
use Rattle.std.proofs.lemmas.Bool.Decides.{Decides-eqb}
use Rattle.std.proofs.lemmas.Bool.{false_from_ne_true}
use Rattle.query_select.proofs.Prefixes.{position_nowhere, position_there, prefix_ends, prefix_is_all, prefix_more}
use Rattle.query_select.proofs.scanner.name_len.Goals as goal

pub loop-i-preserved : goal.loop-i-preserved
loop-i-preserved c =
    let byte = get_or c.args.bytes.now c.loop-i.i 0 in
    prefix_more (λ x. not (x == 34)) c.args.bytes.now c.loop-i.i c.loop-i.invariant c.loop-i-test.true
    (ap not (false_from_ne_true (byte == 34) (λ h. c.if-byte-eq34.false ((Decides-eqb byte 34).0 h))))

pub returns-then-byte-eq34 : goal.returns-then-byte-eq34
returns-then-byte-eq34 c =
    record {
      value = position_there (λ x. x == 34) c.args.bytes.now c.loop-i.i c.loop-i-test.true
          (prefix_ends (λ x. not (x == 34)) c.args.bytes.now c.loop-i.i c.loop-i.invariant c.loop-i-test.true (ap (λ (x : ℕ). not (x == 34)) c.if-byte-eq34.true));
      within = c.loop-i-test.true;
    }

pub returns : goal.returns
returns c =
    record {
      value = position_nowhere (λ x. x == 34) c.args.bytes.now
          (prefix_is_all (λ x. not (x == 34)) c.args.bytes.now c.loop-i.i c.loop-i.invariant c.loop-i-test.false);
      within = tt;
    }
