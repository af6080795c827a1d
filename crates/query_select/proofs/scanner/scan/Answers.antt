use Rattle.std.proofs.Common.{◌∙◌, arith, sym}
use Rattle.std.proofs.lemmas.List.{length-take}
use Rattle.std.proofs.lemmas.List.Sums.{prefix_len-le-length}
use Rattle.std.specs.Char.{is_ascii_digit}
use Rattle.query_select.specs.Scans.{scan_view}
use Rattle.query_select.specs.Tokens.{is_word_byte}
use Rattle.query_select.proofs.Scanned.{digits_scanned, name_scanned, text_scanned, word_scanned}
use Rattle.query_select.proofs.scanner.scan.Goals as goal

pub slice_bounds-body-end : goal.slice_bounds-body-end
slice_bounds-body-end c = omega (arith, prefix_len-le-length is_word_byte c.args.bytes.now, length-take c.word_len.result c.args.bytes.now)

pub slice_bounds-body-end-then-is_ascii_digit : goal.slice_bounds-body-end-then-is_ascii_digit
slice_bounds-body-end-then-is_ascii_digit c = omega (arith, prefix_len-le-length is_ascii_digit c.args.bytes.now, length-take c.digits_len.result c.args.bytes.now)

pub returns-then-begins_word : goal.returns-then-begins_word
returns-then-begins_word c =
    record { value = word_scanned c.args.bytes.now c.word_len.result c.word_kind.result c.requires.some (sym c.begins_word.ensures ∙ c.if-begins_word.true) c.word_len.ensures c.word_kind.ensures }

pub returns-then-is_ascii_digit : goal.returns-then-is_ascii_digit
returns-then-is_ascii_digit c =
    record { value = digits_scanned c.args.bytes.now c.digits_len.result c.requires.some (sym c.begins_word.ensures ∙ c.if-begins_word.false) (sym c.is_ascii_digit.ensures.value ∙ c.if-is_ascii_digit.true) c.digits_len.ensures }

pub returns-in-34 : goal.returns-in-34
returns-in-34 c =
    record { value = name_scanned c.args.bytes.now c.name_len.result (scan_view c.quoted.result) c.requires.some (sym c.begins_word.ensures ∙ c.if-begins_word.false) (sym c.is_ascii_digit.ensures.value ∙ c.if-is_ascii_digit.false) c.in-34.is c.name_len.ensures.value c.quoted.ensures }

pub returns-in-39 : goal.returns-in-39
returns-in-39 c =
    record { value = text_scanned c.args.bytes.now c.text_len.result (scan_view c.quoted-in-39.result) c.requires.some (sym c.begins_word.ensures ∙ c.if-begins_word.false) (sym c.is_ascii_digit.ensures.value ∙ c.if-is_ascii_digit.false) c.in-39.is c.text_len.ensures.value c.quoted-in-39.ensures }
