use Rattle.std.proofs.Common.{◌∙◌, ◌<◌, ◌∷◌, ◌++◌, [], List, ℕ, ap, length, sym, take, subst}
use Rattle.anyk_model.specs.Table.{Table}
use Rattle.table_store.specs.Tables.{IsSound}
use Rattle.table_store.specs.StoredTables.{IsStored, stored_view}
use Rattle.table_store.specs.Values.{with_tables}
use Rattle.table_store.proofs.Stands.{with_rows_extends}
use Rattle.csv_tables.proofs.Known.{texts_after, texts_back}
use Rattle.csv_tables.proofs.reading.Tables.add.Goals as goal

pub add-requires-clause-stored : goal.add-requires-clause-stored
add-requires-clause-stored c =
    let inside = c.self.inside in
    let s = c.in-Ok.stored in
    subst (λ t. IsStored t s)
    (texts_after inside.texts c.store.new.texts inside.tables c.args.table (stored_view s) c.self.invariant.known c.in-Ok.ensures.texts c.in-Ok.ensures.shown)
    c.in-Ok.ensures.stored

pub invariant_of-self-in-Ok-add : goal.invariant_of-self-in-Ok-add
invariant_of-self-in-Ok-add c =
    let inside = c.self.inside in
    let s = c.in-Ok.stored in
    record {
      known = texts_after inside.texts c.store.new.texts inside.tables c.args.table (stored_view s) c.self.invariant.known c.in-Ok.ensures.texts c.in-Ok.ensures.shown
          ∙ ap (with_tables []) (sym c.in-Ok-add.ensures.added);
    }

pub invariant_of-self-in_default : goal.invariant_of-self-in_default
invariant_of-self-in_default c =
    let old = c.self.inside.texts in
    let more = with_rows_extends old c.args.table.rows in
    let cut = c.truncate-in_default.ensures ∙ ap (λ (k : ℕ). take k c.store.new.texts) c.len-known.ensures in
    let back = texts_back old c.store.new.texts c.truncate-in_default.new.self (more.0, c.in-Ok.ensures.texts ∙ more.1) cut in
    record { known = back ∙ c.self.invariant.known ∙ ap (with_tables []) (sym c.in_default.ensures.err) }

pub invariant_of-self : goal.invariant_of-self
invariant_of-self c =
    let cut = c.truncate.ensures ∙ ap (λ (k : ℕ). take k c.store.new.texts) c.len-known.ensures in
    record { known = texts_back c.self.inside.texts c.store.new.texts c.truncate.new.self c.in-Err.ensures.err cut ∙ c.self.invariant.known }

pub add-requires-clause-few : goal.add-requires-clause-few
add-requires-clause-few c = subst (λ (ts : List Table). length ts < 16) (sym c.self.view_is) c.requires.few

pub add-requires-clause-sound : goal.add-requires-clause-sound
add-requires-clause-sound c = subst IsSound (sym c.in-Ok.ensures.shown) c.requires.sound

pub returns-in-Err : goal.returns-in-Err
returns-in-Err c = record { number = tt; added = tt; err = c.self.view_is }

pub returns-in_default : goal.returns-in_default
returns-in_default c = record { number = tt; added = tt; err = c.in_default.ensures.err ∙ c.self.view_is }

pub returns : goal.returns
returns c = record {
  number = c.in-Ok-add.ensures.number ∙ ap (λ (ts : List Table). length ts) c.self.view_is;
  added = c.in-Ok-add.ensures.added ∙ (λ i. c.self.view_is i ++ c.in-Ok.ensures.shown i ∷ []);
  err = tt;
}
