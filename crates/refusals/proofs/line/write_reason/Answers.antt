use Rattle.std.proofs.Common.{◌≡◌, ◌∙◌, List, ℕ, Result, ap, subst, sym}
use Rattle.outer_io.specs.declared.writing.Unwritten.{Unwritten}
use Rattle.refusals.specs.Forms.{text_of_form}
use Rattle.outer_io.specs.SinkState.{SinkState}
use Rattle.outer_io.specs.SinkText.{Sent}
use Rattle.refusals.specs.declared.form.Form.{Form}
use Rattle.refusals.proofs.line.write_reason.Goals as goal

-- the text of a form that is this one was sent
told : (old new : SinkState) (form this : Form) (text : List ℕ) (result : Result (Unit {0}) Unwritten) → form ≡ this → text_of_form form ≡ text
    → Sent old new (text_of_form this) result → Sent old new text result
told old new form this text result is e sent = subst (λ t. Sent old new t result) (sym (ap text_of_form is) ∙ e) sent

pub returns-in-Text : goal.returns-in-Text
returns-in-Text g c = told _ _ _ _ _ _ c.in-Text.is c.form_of.ensures c.write_text.ensures

pub returns-in-Numbered : goal.returns-in-Numbered
returns-in-Numbered g c = told _ _ _ _ _ _ c.in-Numbered.is c.form_of.ensures c.write_numbered.ensures

pub returns-in-At : goal.returns-in-At
returns-in-At g c = told _ _ _ _ _ _ c.in-At.is c.form_of.ensures c.write_at.ensures

pub returns-in-OnTable : goal.returns-in-OnTable
returns-in-OnTable g c = told _ _ _ _ _ _ c.in-OnTable.is c.form_of.ensures c.write_on_table.ensures

pub returns-in-OnFile : goal.returns-in-OnFile
returns-in-OnFile g c = told _ _ _ _ _ _ c.in-OnFile.is c.form_of.ensures c.write_on_file.ensures

pub returns-in-InTable : goal.returns-in-InTable
returns-in-InTable g c = told _ _ _ _ _ _ c.in-InTable.is c.form_of.ensures c.write_in_table.ensures

pub returns-in-BadWeight : goal.returns-in-BadWeight
returns-in-BadWeight g c = told _ _ _ _ _ _ c.in-BadWeight.is c.form_of.ensures c.write_bad_weight.ensures

pub returns-in-Cyclic : goal.returns-in-Cyclic
returns-in-Cyclic g c = told _ _ _ _ _ _ c.in-Cyclic.is c.form_of.ensures c.write_cyclic.ensures
