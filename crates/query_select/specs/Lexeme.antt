-- A token, without its place in memory.
use Rattle.std.specs.Prelude.{ℕ, List, map}
use Rattle.query_select.specs.declared.token.Kind.{Kind}
use Rattle.query_select.specs.declared.token.Token.{Token}

pub record Lexeme : Type 0 where
  pub kind : Kind
  pub at : ℕ
  pub body : List ℕ

abbrev pub lexeme : Token → Lexeme
lexeme t = record { kind = t.kind; at = t.at; body = t.body.now }

abbrev pub lexemes : List Token → List Lexeme
lexemes ts = map lexeme ts
