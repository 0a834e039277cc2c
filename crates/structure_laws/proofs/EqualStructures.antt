-- Structures with equal lists of rows are equal.
use Rattle.std.proofs.Common.{◌≡◌, ℕ, List, [], ◌∷◌, map, length, get_or, refl, sym, ◌∙◌, ap, ap₂, arith}
use Rattle.nxf_tree.specs.Rows.{Table, Shape}
use Rattle.nxf_tree.specs.Structures.{ClassicalStructure, table_shapes}
use Rattle.fin_struct.specs.Cells.{CellTable}
use Rattle.fin_struct.specs.RowLists.{listed, shape_of, AreFilled, shapes_of}
use Rattle.fin_struct.specs.StructureTables.{StructuresDetermine}
use Rattle.fin_struct.proofs.CallerLemmas.{lists-determine, filled_tail, structure_view}

abbrev rest_of : {A : Type 0} → List A → List A
rest_of [] = []
rest_of (x ∷ xs) = xs

pub same_tables : (tables others : List CellTable) → AreFilled tables → AreFilled others → shapes_of tables ≡ shapes_of others → map listed tables ≡ map listed others → tables ≡ others
same_tables [] [] f g shapes lists = refl
same_tables [] (other ∷ others) f g shapes lists = absurd (omega (arith, ap length shapes))
same_tables (table ∷ tables) [] f g shapes lists = absurd (omega (arith, ap length shapes))
same_tables (table ∷ tables) (other ∷ others) f g shapes lists =
    let first_shape : shape_of table ≡ shape_of other = ap (λ (xs : List Shape). get_or xs 0 (shape_of table)) shapes in
    let first_list : listed table ≡ listed other = ap (λ (xs : List Table). get_or xs 0 (listed table)) lists in
    let rest = same_tables tables others (filled_tail table tables f) (filled_tail other others g) (ap (λ (xs : List Shape). rest_of xs) shapes) (ap (λ (xs : List Table). rest_of xs) lists) in
    ap₂ ◌∷◌ (lists-determine table other (f 0 (omega arith)) (g 0 (omega arith)) first_shape first_list) rest

pub structures-determine : StructuresDetermine
structures-determine csig view other s t for_view for_other e =
    let actual : view.actual ≡ other.actual = ap (λ (x : ClassicalStructure). x.actual) e in
    let sizes : view.sizes ≡ other.sizes = ap (λ (x : ClassicalStructure). x.sizes) e in
    let lists : map listed view.tables ≡ map listed other.tables = ap (λ (x : ClassicalStructure). x.tables) e in
    let shapes = for_view.shapes ∙ ap (λ (z : List ℕ). table_shapes z csig.tables) sizes ∙ sym for_other.shapes in
    let tables = same_tables view.tables other.tables s.filled t.filled shapes lists in
    ap (λ (z : ℕ). structure_view z view.sizes view.tables) actual
    ∙ ap (λ (z : List ℕ). structure_view other.actual z view.tables) sizes
    ∙ ap (λ (z : List CellTable). structure_view other.actual other.sizes z) tables
