use Rattle.std.proofs.Common.{ap, sym, ◌∙◌, ◌∷◌, [], ◌++◌, take, get_or, append_assoc, List, ℕ}
use Rattle.query_parse.specs.Text.{doubled}
use Rattle.query_parse.proofs.TextScan.{doubled_more}
use Rattle.query_parse.proofs.writing.push_doubled.Goals as goal

pub loop-byte-preserved : goal.loop-byte-preserved
loop-byte-preserved c =
    let bytes = c.args.bytes.now in
    let i = c.loop-byte.byte-index in
    let old = c.args.text.now.items in
    let byte = doubled (get_or bytes i 0 ∷ []) in
    c.in_ok-push_text_byte.ensures ∙ ap (λ (bs : List ℕ). bs ++ byte) c.loop-byte.invariant ∙ append_assoc old (doubled (take i bytes)) byte
    ∙ ap (λ (bs : List ℕ). old ++ bs) (sym (doubled_more bytes i 0 c.loop-byte-test.true))
