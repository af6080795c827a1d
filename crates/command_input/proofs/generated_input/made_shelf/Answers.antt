use Rattle.std.proofs.Common.{◌≡◌, ◌∙◌, length, map, ap, arith, inl, inr, ◌⊎◌}
use Rattle.std.proofs.lemmas.Result.{IfOk-from_err}
use Rattle.cmd_words.specs.NamedPairs.{named_pair}
use Rattle.command_input.proofs.MadeShelf.{files_all, files_first, files_more}
use Rattle.command_input.proofs.generated_input.made_shelf.Goals as goal

pub loop-named-init : goal.loop-named-init
loop-named-init c =
    let both = c.into_iter-named-iterator.ensures.into_iter_gives in
    let zipped = c.zip-named-items.ensures in
    let names : c.into_iter-named-iterator.result.a.rest.now ≡ c.args.made.now.named.items =
    ap (λ z. z.a.rest.now) both ∙ ap (λ a. a.rest.now) zipped.first ∙ c.iter.ensures.rest ∙ c.deref.ensures.value in
    let texts : c.into_iter-named-iterator.result.b.rest.items ≡ c.in_ok-tables.tables.items = ap (λ z. z.b.rest.items) both ∙ zipped.second.0 in
    files_first _ _ _ _ c.args.made.now.number c.args.made.now.rows (rw c.new-files.ensures.items at c.in_ok-push_file.ensures)
    c.in_ok-bytes.ensures (ap (map named_pair) names ∙ c.args.made.now.names) (ap (map (λ f. f.items)) texts ∙ c.in_ok-tables.ensures)

pub loop-named-preserved : goal.loop-named-preserved
loop-named-preserved c =
    let steps = c.in-Some.ensures.steps in
    files_more _ _ c.in-Some.named.now c.in-Some.bytes _ _ _ _ _ c.loop-named.invariant steps.0 steps.1.0 (rw c.as_str.ensures.value at c.in_ok-push_file-2.ensures)

pub returns : goal.returns
returns c =
    let tables = c.loop-named.named-iterator.b.rest in
    let ended : (length c.loop-named.named-iterator.a.rest.now ≡ 0) ⊎ (length tables.items ≡ 0) =
    elim c.in-None.ensures.steps [ inl end ↦ inl end.1.0 | inr end ↦ inr (omega (arith, end.1.0, tables.ok.0)) ] in
    files_all c.loop-named.files.items c.loop-named.named-iterator.a.rest.now tables.items _ c.loop-named.invariant ended

pub tables_of-requires-clause-small : goal.tables_of-requires-clause-small
tables_of-requires-clause-small c = c.args.made.now.small

pub tables_of-requires-clause-some_rows : goal.tables_of-requires-clause-some_rows
tables_of-requires-clause-some_rows c = c.args.made.now.some_rows

pub tables_of-requires-clause-few_rows : goal.tables_of-requires-clause-few_rows
tables_of-requires-clause-few_rows c = c.args.made.now.few_rows

pub returns-in_err-bytes : goal.returns-in_err-bytes
returns-in_err-bytes c = IfOk-from_err c.from_residual.result _ c.from_residual.ensures.0

pub returns-in_err-push_file : goal.returns-in_err-push_file
returns-in_err-push_file c = IfOk-from_err c.from_residual-in_err-push_file.result _ c.from_residual-in_err-push_file.ensures.0

pub returns-in_err-tables : goal.returns-in_err-tables
returns-in_err-tables c = IfOk-from_err c.from_residual-in_err-tables.result _ c.from_residual-in_err-tables.ensures.0

pub returns-in_err-push_file-2 : goal.returns-in_err-push_file-2
returns-in_err-push_file-2 c = IfOk-from_err c.from_residual-in_err-push_file-2.result _ c.from_residual-in_err-push_file-2.ensures.0
