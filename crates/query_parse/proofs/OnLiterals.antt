-- What a proof unfolds to compute the parse of a text that is known byte by byte.
use Rattle.std.specs.Prelude.{⊤}
use Rattle.query_parse.specs.Parse.{decimal_from}
use Rattle.query_parse.specs.Reading.{queries_at, branches_at, next_branch_at, query_at, branch_at, sources_at, selection_at, finish_at, limit_at, order_at, keys_at, next_key_at, key_at, terms_at, direction_at, next_term_at, term_at, sign_at, where_at, items_at, next_item_at, inner_item_at, joined_item_at, plain_item_at, item_at, conditions_at, next_condition_at, condition_at, side_at, undoubled_from, list_at, columns_at, next_column_at, column_at, many_at, optional_at, expect_at}
use Rattle.query_select.specs.Tokens.{tokens_from, scan_of, closing, kind_of_word}

unfoldable pub query_grammar_on_literals : ⊤
unfolding queries_at branches_at next_branch_at query_at branch_at sources_at selection_at finish_at limit_at order_at keys_at next_key_at key_at terms_at direction_at next_term_at term_at sign_at where_at items_at next_item_at inner_item_at joined_item_at plain_item_at item_at conditions_at next_condition_at condition_at side_at undoubled_from list_at columns_at next_column_at column_at many_at optional_at expect_at tokens_from scan_of closing kind_of_word decimal_from
query_grammar_on_literals = tt
