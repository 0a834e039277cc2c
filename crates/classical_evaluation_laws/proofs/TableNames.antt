-- What the names and the numbers of a classical signature stand for in a structure.
use Rattle.std.proofs.Common.{◌≡◌, ℕ, ◌<◌, Bool, true, false, List, [], ◌∷◌, ◌++◌, map, length, get_or, Some, refl, sym, ◌∙◌, ap, arith}
use Rattle.std.specs.Prelude.{◌||◌, not, slice_get}
use Rattle.std.proofs.lemmas.Bool.{and_from, not-true}
use Rattle.std.proofs.lemmas.Option.{slice_get_within, get_or_from_slice_get}
use Rattle.std.proofs.lemmas.List.{get_or-map, length-map}
use Rattle.nxf_tree.specs.declared.tree.TableEntry.{TableEntry}
use Rattle.nxf_tree.specs.declared.tree.SortName.TheVariants.{User}
use Rattle.nxf_tree.specs.declared.tree.ClassicalSignature.{ClassicalSignature}
use Rattle.nxf_tree.specs.Names.{same_text, actual_name}
use Rattle.nxf_tree.specs.Counting.{has, all_different}
use Rattle.nxf_tree.specs.Signature.{same_sort}
use Rattle.nxf_tree.specs.Rows.{Shape}
use Rattle.nxf_tree.specs.Structures.{table_names, table_shape}
use Rattle.name_laws.specs.NameLaws.{HasDifferentClassicalNames}
use Rattle.name_laws.proofs.GoodSymbols.{has-append, users-different}
use Rattle.name_laws.proofs.Spelling.{same_text-true, never, true-false}
use Rattle.name_laws.proofs.Types.{split}
use Rattle.fin_struct.specs.Cells.{no_table, table_at}
use Rattle.fin_struct.specs.RowLists.{shape_of}
use Rattle.fin_struct.specs.StructureTables.{StructureTables, IsFor}
use Rattle.classical_evaluation_laws.proofs.TableTypes.{listed-table}

-- of different things in two lists, those of the first differ
front-different : {A : Type 0} (same : A → A → Bool) (xs ys : List A) → all_different same (xs ++ ys) ≡ true → all_different same xs ≡ true
front-different same [] ys h = refl
front-different same (x ∷ xs) ys h =
    let parts : (not (has same x (xs ++ ys)) ≡ true) × (all_different same (xs ++ ys) ≡ true) = split _ _ h in
    and_from _ _ (neither (has same x xs) (has same x ys) (sym (ap not (has-append same x xs ys)) ∙ parts.0)) (front-different same xs ys parts.1)
  where
    neither : (a b : Bool) → not (a || b) ≡ true → not a ≡ true
    neither true b k = k
    neither false b k = refl

module _ (csig : ClassicalSignature) (d : HasDifferentClassicalNames csig) where
  apart : (not (has same_text actual_name (table_names csig.tables)) ≡ true) × (all_different same_text (table_names csig.tables) ≡ true)
  apart =
      let names = actual_name ∷ table_names csig.tables in
      split _ _ (sym (users-different names) ∙ front-different same_sort (map User names) csig.sorts d.names)

  -- the tables have different names, and none of these is `mk_actual`
  pub tables-different : all_different same_text (table_names csig.tables) ≡ true
  tables-different = apart.1

  pub not-actual : (t : ℕ) (entry : TableEntry) → slice_get csig.tables t ≡ Some entry → same_text actual_name entry.name ≡ false
  not-actual t entry at =
      never (same_text actual_name entry.name) (λ e.
      let same : actual_name ≡ entry.name = same_text-true actual_name entry.name e in
      true-false (sym (ap (λ (x : List ℕ). has same_text x (table_names csig.tables)) same ∙ listed-table csig.tables t entry at) ∙ not-true _ apart.0))

module _ (csig : ClassicalSignature) (view : StructureTables) (o : IsFor csig view) where
  -- a table of the signature is one of the structure, in its shape
  pub table-in : (t : ℕ) (entry : TableEntry) → slice_get csig.tables t ≡ Some entry → t < length view.tables
  table-in t entry at =
      let count : length view.tables ≡ length csig.tables = sym (length-map view.tables shape_of) ∙ ap length o.shapes ∙ length-map csig.tables (table_shape view.sizes) in
      omega (arith, count, slice_get_within csig.tables t entry at)

  pub shape-at : (t : ℕ) (entry : TableEntry) → slice_get csig.tables t ≡ Some entry → shape_of (table_at view.tables t) ≡ table_shape view.sizes entry
  shape-at t entry at =
      let none = shape_of no_table in
      sym (get_or-map shape_of view.tables t no_table none (table-in t entry at))
      ∙ ap (λ (ss : List Shape). get_or ss t none) o.shapes
      ∙ get_or-map (table_shape view.sizes) csig.tables t entry none (slice_get_within csig.tables t entry at)
      ∙ ap (table_shape view.sizes) (get_or_from_slice_get csig.tables t entry entry at)
