-- An item and a condition, read part by part.
use Rattle.std.proofs.Common.{◌≡◌, ◌∙◌, ℕ, List, Ok, sym, ap}
use Rattle.query_select.specs.declared.select.ItemRef.{ItemRef}
use Rattle.query_select.specs.declared.token.Kind.TheVariants as kind
use Rattle.query_select.specs.declared.token.Token.{Token}
use Rattle.query_select.specs.Lexeme.{Lexeme, lexeme}
use Rattle.query_parse.specs.declared.fault.ParseFault.{ParseFault}
use Rattle.query_parse.specs.Reading.{◌>>=◌, IsParseFault, Read, alias_at, expect_at, item_at}
use Rattle.query_parse.proofs.Columns.{fails_on}

module _ (ts rest : List Lexeme) (table : Token) (named : expect_at kind.Name ts ≡ Ok (lexeme table, rest)) where
  pub item_read : (left : List Lexeme) (alias : Token) (x : ItemRef) → alias_at (lexeme table) rest ≡ Ok (lexeme alias, left)
      → x ≡ record { table = table.body.now; alias = alias.body.now; at = table.at } → item_at ts ≡ Ok (x, left)
  unfolding item_at
  item_read left alias x b c =
      ap (λ (r : Read Lexeme). r >>= λ t. alias_at t.0 t.1 >>= λ a. let i : Read ItemRef = Ok (record { table = t.0.body; alias = a.0.body; at = t.0.at }, a.1) in i) named
      ∙ ap (λ (r : Read Lexeme). r >>= λ a. let i : Read ItemRef = Ok (record { table = table.body.now; alias = a.0.body; at = table.at }, a.1) in i) b
      ∙ ap (λ (i : ItemRef). Ok (i, left)) (sym c)

  pub alias_fails : (end : ℕ) (e : ParseFault) → IsParseFault end e (alias_at (lexeme table) rest) → IsParseFault end e (item_at ts)
  unfolding item_at
  alias_fails end e h = rw named (fails_on end e (alias_at (lexeme table) rest) _ h)
