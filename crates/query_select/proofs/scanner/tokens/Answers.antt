use Rattle.std.proofs.Common.{◌≡◌, ◌++◌, ◌+◌, [], ◌∷◌, List, drop, arith, ap, sym, ◌∙◌, append_assoc}
use Rattle.std.proofs.lemmas.List.{append-nil, map_push}
use Rattle.query_select.specs.Lexeme.{Lexeme, lexeme, lexemes}
use Rattle.query_select.specs.Scans.{scan_view}
use Rattle.query_select.specs.Tokens.{tokens_from}
use Rattle.query_select.proofs.ScanLength.{lexeme_of, token_step, blank_step, no_tokens_left}
use Rattle.query_select.proofs.scanner.tokens.Goals as goal

pub loop-at-preserved-then-is_blank_byte : goal.loop-at-preserved-then-is_blank_byte
loop-at-preserved-then-is_blank_byte c =
    let e = blank_step c.args.bytes.now c.loop-at.at c.loop-at-test.true (sym c.is_blank_byte.ensures ∙ c.if-is_blank_byte.true) in
    record { within = omega arith; so_far = ap (λ (ts : List Lexeme). lexemes c.loop-at.tokens.items ++ ts) (sym e) ∙ c.loop-at.invariant.so_far }

pub overflow_add-at-else-is_blank_byte : goal.overflow_add-at-else-is_blank_byte
overflow_add-at-else-is_blank_byte c =
    let t = token_step c.args.bytes.now c.loop-at.at (scan_view c.scan-kind.result) c.loop-at-test.true (sym c.is_blank_byte.ensures ∙ c.if-is_blank_byte.false) c.scan-kind.ensures.value in
    omega (arith, t.within, c.requires.short)

pub loop-at-smaller : goal.loop-at-smaller
loop-at-smaller c =
    let t = token_step c.args.bytes.now c.loop-at.at (scan_view c.scan-kind.result) c.loop-at-test.true (sym c.is_blank_byte.ensures ∙ c.if-is_blank_byte.false) c.scan-kind.ensures.value in
    omega (arith, t.some, t.within)

pub loop-at-preserved : goal.loop-at-preserved
loop-at-preserved c =
    let t = token_step c.args.bytes.now c.loop-at.at (scan_view c.scan-kind.result) c.loop-at-test.true (sym c.is_blank_byte.ensures ∙ c.if-is_blank_byte.false) c.scan-kind.ensures.value in
    let pushed : lexemes c.push.new.self.items ≡ lexemes c.loop-at.tokens.items ++ lexeme_of c.loop-at.at (scan_view c.scan-kind.result) ∷ [] = rw c.in_ok-push.ensures.items (map_push lexeme c.loop-at.tokens.items _) in
    let rest = tokens_from 0 (c.loop-at.at + c.scan-kind.result.len) (drop (c.loop-at.at + c.scan-kind.result.len) c.args.bytes.now) in
    record {
      within = t.within;
      so_far = ap (λ (ts : List Lexeme). ts ++ rest) pushed ∙ append_assoc (lexemes c.loop-at.tokens.items) (lexeme_of c.loop-at.at (scan_view c.scan-kind.result) ∷ []) rest
          ∙ ap (λ (ts : List Lexeme). lexemes c.loop-at.tokens.items ++ ts) (sym t.tokens) ∙ c.loop-at.invariant.so_far;
    }

pub returns : goal.returns
returns c = sym (append-nil (lexemes c.loop-at.tokens.items)) ∙ ap (λ (ts : List Lexeme). lexemes c.loop-at.tokens.items ++ ts) (sym (no_tokens_left c.args.bytes.now c.loop-at.at c.loop-at-test.false)) ∙ c.loop-at.invariant.so_far
