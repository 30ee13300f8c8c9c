-- Lists of cells. A copy shares the values of the original.
use Rattle.std.specs.Prelude.{List}
use Rattle.jac_value.specs.declared.value.Value.{Value}
use Rattle.jac_value.specs.declared.cells.CellList.{CellList}
use Rattle.jac_value.specs.declared.cells.CellList.TheVariants as list

-- The values of the list, whether it owns them or shares them with copies.
abbrev pub listed_cells : CellList → List Value
listed_cells (list.Own own) = own.items
listed_cells (list.Shared shared) = shared.value.items
