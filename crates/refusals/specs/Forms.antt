-- The texts of reasons by their forms.
use Rattle.std.specs.Prelude.{◌++◌, List, ℕ, None, codes, decimal}
use Rattle.hyper_graph.specs.Items.{items_of}
use Rattle.refusals.specs.Reason.{BadWeight, Cyclic, on_file, on_table, text_of}
use Rattle.refusals.specs.declared.form.Form.{Form}
use Rattle.refusals.specs.declared.form.Form.TheVariants as form

-- a number between two texts, about a table
abbrev pub in_table : List ℕ → List ℕ → ℕ → List ℕ → List ℕ
in_table table before number after = codes "table "
    ++ (table ++ (before ++ (decimal number ++ after)))

abbrev pub text_of_form : Form → List ℕ
text_of_form (form.Text text) = text.now
text_of_form (form.Numbered before number after) = before.now ++ (decimal number ++ after.now)
text_of_form (form.At place at what) = place.now ++ (decimal at ++ (codes ": " ++ what.now))
text_of_form (form.OnTable table what) = on_table table.now what.now
text_of_form (form.OnFile file what) = on_file file.now what.now
text_of_form (form.InTable table before n after) = in_table table.now before.now n after.now
text_of_form (form.BadWeight item row column) = text_of (BadWeight None item row column)
text_of_form (form.Cyclic core) = text_of (Cyclic None (items_of core))
