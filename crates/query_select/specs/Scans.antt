-- A token at the front, without its place in memory.
use Rattle.query_select.specs.declared.scanner.Scanned.{Scanned}
use Rattle.query_select.specs.Tokens.{Scan}

abbrev pub scan_view : Scanned → Scan
scan_view s = record { kind = s.kind; body = s.body.now; len = s.len }
