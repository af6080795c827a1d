-- The first reference in the order of the text that means no column.
use Rattle.std.specs.Prelude.{◌≡◌, ◌<◌, List, Some, None}
use Rattle.query_select.specs.declared.select.ColumnRef.{ColumnRef}
use Rattle.anyk_model.specs.Table.{Table}
use Rattle.anyk_model.specs.Query.{Item}
use Rattle.rankings.specs.Order.{IsMember}
use Rattle.query_bind.specs.declared.fault.BindFault.{BindFault}
use Rattle.query_bind.specs.declared.fault.BindFault.TheVariants as fault
use Rattle.query_bind.specs.Names.{ref_fault}

-- a fault with the offset of a column reference
abbrev pub IsReferenceFault : BindFault → Type 0
IsReferenceFault (fault.UnknownAlias at) = Unit {0}
IsReferenceFault (fault.UnknownColumn at) = Unit {0}
IsReferenceFault (fault.Ambiguous at) = Unit {0}
IsReferenceFault (fault.DuplicateAlias item) = ⊥
IsReferenceFault (fault.BadWeight item row col) = ⊥
IsReferenceFault (fault.RankRange key) = ⊥
IsReferenceFault fault.NoMemory = ⊥

-- the fault is that of a reference, and no reference before it in the text has one
pub record IsFirstFailing (tables : List Table) (items : List Item) (refs : List ColumnRef)
    (e : BindFault) : Type 0 where
  pub ref : ColumnRef
  pub member : IsMember ref refs
  pub fails : ref_fault tables items ref ≡ Some e
  pub earlier : (other : ColumnRef) → IsMember other refs → other.at < ref.at
      → ref_fault tables items other ≡ None
