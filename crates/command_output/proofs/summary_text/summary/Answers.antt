use Rattle.std.proofs.Common.{◌≡◌, ◌++◌, ◌∙◌, ℕ, List, Option, ap, append_assoc, codes, decimal, length, option_map, sym, take}
use Rattle.output_model.specs.Summary.{member_text, rows_in_all}
use Rattle.command_output.proofs.summary_text.summary.Goals as goal

joined : (a b c d e f g h i : List ℕ)
    → a ++ (b ++ (c ++ (d ++ (e ++ (f ++ (g ++ (h ++ i))))))) ≡ a ++ b ++ c ++ d ++ e ++ f ++ g ++ h ++ i
joined a b c d e f g h i =
    sym (append_assoc a b (c ++ (d ++ (e ++ (f ++ (g ++ (h ++ i)))))))
    ∙ sym (append_assoc (a ++ b) c (d ++ (e ++ (f ++ (g ++ (h ++ i))))))
    ∙ sym (append_assoc (a ++ b ++ c) d (e ++ (f ++ (g ++ (h ++ i)))))
    ∙ sym (append_assoc (a ++ b ++ c ++ d) e (f ++ (g ++ (h ++ i))))
    ∙ sym (append_assoc (a ++ b ++ c ++ d ++ e) f (g ++ (h ++ i)))
    ∙ sym (append_assoc (a ++ b ++ c ++ d ++ e ++ f) g (h ++ i))
    ∙ sym (append_assoc (a ++ b ++ c ++ d ++ e ++ f ++ g) h i)

pub returns : goal.returns
returns c =
    let query = c.args.query.now.query in let tables = c.args.tables.now in
    let member = λ (rows : Option (List ℕ)). member_text query tables (option_map (take (length query.items)) rows) in
    ap (λ text. text.items) c.into_bytes.ensures.value
    ∙ rw (c.rows_in_all-rows.ensures, c.in_ok-first.ensures, c.in_ok-last.ensures) at c.in_ok-text.ensures.ok
    ∙ joined (codes "rows ") (decimal (rows_in_all tables)) (codes "\nanswers ") (decimal c.args.ends.now.count)
    (codes "\nfirst ") (member c.args.ends.now.first) (codes "\nlast ") (member c.args.ends.now.last) (codes "\n")
